use Rattle.std.proofs.Common.{refl, ap, subst, ◌∙◌, true, Vec, Global}
use Rattle.std.specs.Prelude.{OnOk}
use Rattle.hb_eval.specs.declared.{cont.Cont.Cont, state.State.State, machine.Machine.Machine}
use Rattle.hb_eval.specs.Machines.{Begins}
use Rattle.hb_eval.proofs.AdvanceLemmas.{begin_turn, takes_fed}
use Rattle.hb_eval.proofs.machine.Machine.begin_far.Goals as goal

pub returns-in-Some-clause-begins : goal.returns-in-Some-clause-begins
returns-in-Some-clause-begins g c caller known asked log =
    let leapt = rw c.in-Some.is at c.in_ok-hand.ensures.leapt in
    begin_turn true c.args.prog.now caller known asked log c.args.self.now _ c.requires.begins c.requires.fine leapt.started refl leapt.begun (takes_fed _ _ _ leapt.fuel) c.leap.ensures.calls leapt.known c.leap.ensures.cache

pub returns-in-None-clause-begins : goal.returns-in-None-clause-begins
returns-in-None-clause-begins g c caller known asked log =
    let old = c.args.self.now in
    let same = rw c.in-None.is at c.in_ok-hand.ensures.leapt in
    subst (λ (m : Machine). OnOk c.begin_alone.result (Begins true c.args.prog.now caller known known asked asked log log m c.begin_alone.new.self))
    (ap (λ (x : State). record old { state = x; conts = c.leap.new.conts }) same.0 ∙ ap (λ (ks : Vec Cont Global). record old { conts = ks }) same.1)
    (c.begin_alone.ensures.begins true caller known asked log)
