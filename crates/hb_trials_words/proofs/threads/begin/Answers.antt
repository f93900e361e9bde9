use Rattle.std.proofs.Common.{arith}
use Rattle.hb_words.specs.Seats.{view_of}
use Rattle.hb_trials_words.proofs.CallsLemmas.{newcomer_idle}
use Rattle.hb_trials_words.proofs.threads.begin.Goals as goal

pub returns-clause-idle : goal.returns-clause-idle
returns-clause-idle c = let f = c.fork.ensures in let n = f.number in
    (f.new, newcomer_idle (view_of c.fork.result).caller (view_of c.fork.result).seen (f.quiet (view_of c.fork.result).caller (omega (arith, n))))
