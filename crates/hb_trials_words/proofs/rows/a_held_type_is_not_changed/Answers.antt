use Rattle.std.proofs.Common.{rules}
use Rattle.hb_trials_words.proofs.CoverLemmas.{covers_alone}
use Rattle.hb_trials_words.proofs.rows.a_held_type_is_not_changed.Goals as goal

pub close-closed-requires-clause-all : goal.close-closed-requires-clause-all
close-closed-requires-clause-all g c = search (rules, covers_alone)
