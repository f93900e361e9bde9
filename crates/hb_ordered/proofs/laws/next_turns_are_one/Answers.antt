use Rattle.hb_ordered.proofs.NextLemmas.{next_turn}
use Rattle.hb_ordered.proofs.laws.next_turns_are_one.Goals as goal

pub returns : goal.returns
returns c order left other scripts same = next_turn order left other scripts same
