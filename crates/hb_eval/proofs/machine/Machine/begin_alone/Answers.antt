use Rattle.std.proofs.Common.{refl}
use Rattle.hb_eval.proofs.AdvanceLemmas.{begin_turn, counted_one}
use Rattle.hb_eval.proofs.machine.Machine.begin_alone.Goals as goal

pub returns-clause-begins : goal.returns-clause-begins
returns-clause-begins c far caller known asked log =
    let b = c.in_ok-self.ensures in
    begin_turn far c.args.prog.now caller known asked log c.args.self.now _ c.requires.begins c.requires.fine b.started refl (counted_one far _ _ c.begin.ensures.begun) b.fuel c.begin.ensures.calls b.known c.begin.ensures.cache
