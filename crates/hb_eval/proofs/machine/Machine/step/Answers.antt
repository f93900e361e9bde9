use Rattle.std.proofs.Common.{sym, ◌∙◌, append-nil}
use Rattle.hb_eval.specs.declared.machine.Machine.{Machine}
use Rattle.hb_eval.proofs.AdvanceLemmas.{carries_held, value_turn, value_falls}
use Rattle.hb_eval.proofs.GatheringLemmas.{shares_itself}
use Rattle.hb_eval.proofs.machine.Machine.step.Goals as goal

pub returns-in-None-clause-carries : goal.returns-in-None-clause-carries
returns-in-None-clause-carries g c = carries_held c.args.prog.now _ _ _ _ c.args.self.now c.pop.new.self (sym (c.in-None.ensures.items ∙ append-nil c.pop.new.self.items)) c.requires.fine

pub returns-in-None-clause-shares : goal.returns-in-None-clause-shares
returns-in-None-clause-shares g c = shares_itself _ _ _ _ _

pub returns-in_ok-hand-in-Some-clause-carries : goal.returns-in_ok-hand-in-Some-clause-carries
returns-in_ok-hand-in-Some-clause-carries g c =
    let a = c.in_ok-hand-in-Some.ensures in
    value_turn c.args.prog.now _ _ _ _ _ _ _ c.args.self.now _ c.in-Some.cont c.pop.new.self.items c.requires.gives c.in-Some.ensures.items c.requires.fine a.turned c.apply.ensures.timed a.grown a.own

pub returns-in_ok-hand-in-Some-clause-falls : goal.returns-in_ok-hand-in-Some-clause-falls
returns-in_ok-hand-in-Some-clause-falls g c more =
    let new : Machine = record { caller = c.args.self.now.caller; state = c.apply.new.state; conts = c.apply.new.conts; frames = c.apply.new.frames; hand = c.in_ok-hand-in-Some.hand; journal = c.args.self.now.journal } in
    value_falls c.args.prog.now _ _ _ _ c.args.self.now new c.in-Some.cont c.pop.new.self.items c.requires.gives c.in-Some.ensures.items c.in_ok-hand-in-Some.ensures.turned
