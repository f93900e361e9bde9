use Rattle.hb_parse.proofs.DifferentLemmas.{different-places}
use Rattle.hb_parse.proofs.laws.different_places.Goals as goal

pub returns : goal.returns
returns c = different-places
