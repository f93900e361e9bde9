use Rattle.std.proofs.Common.{rules}
use Rattle.hb_trials_words.proofs.CoverLemmas.{covers_four}
use Rattle.hb_trials_words.proofs.contending.contend.Goals as goal

pub close-closed-requires-clause-all : goal.close-closed-requires-clause-all
close-closed-requires-clause-all g c = search (rules, covers_four)
