use Rattle.hb_call.specs.OwnLaws.{since_alone}
use Rattle.hb_call.proofs.laws.machines_keep_what_their_acts_keep.Goals as goal

pub returns : goal.returns
returns c = since_alone
