use Rattle.std.proofs.Common.{ap, sym, ◌∙◌, Err}
use Rattle.hb_tables.specs.Frames.{acts}
use Rattle.hb_eval.specs.Methods.{declare_meaning}
use Rattle.hb_eval.proofs.MethodLemmas.{acts_kept, given, stopped, full}
use Rattle.hb_call.specs.GrowthLaws.{grown_itself}
use Rattle.hb_call.proofs.GrowthLemmas.{key_named}
use Rattle.hb_eval.proofs.KeepingLemmas.{keeps_known, keeps_named}
use Rattle.hb_eval.proofs.methods.declare.Goals as goal

pub returns-in-Ok-declare-clause-acts : goal.returns-in-Ok-declare-clause-acts
returns-in-Ok-declare-clause-acts g c =
    rw (← c.reserve.ensures.front, ← c.reserve.ensures.fixed)
    (acts_kept _ _ _ _ _ c.args.state.now _ _ _
    (given _ _ _ _ c.args.id (c.args.class.0, c.args.name.now) c.in-Ok.key.0
    (λ key. declare_meaning c.args.asks key c.args.site.0) c.in-Ok-declare.value _ _ _ c.in-Ok.ensures.key c.in-Ok-declare.ensures.act c.give.ensures.state c.give.ensures.value))

pub returns-in-Err-clause-acts : goal.returns-in-Err-clause-acts
returns-in-Err-clause-acts g c =
    rw (← c.reserve.ensures.front, ← c.reserve.ensures.fixed)
    (acts_kept _ _ _ _ _ c.args.state.now _ _ _
    (stopped _ _ _ _ c.args.id (c.args.class.0, c.args.name.now) c.in-Ok.key.0
    (λ key. declare_meaning c.args.asks key c.args.site.0) c.in-Err.stop _ _ _ c.in-Ok.ensures.key c.in-Err.ensures.act c.halt.ensures.state c.halt.ensures.value))

pub returns-in-Err-Full-clause-acts : goal.returns-in-Err-Full-clause-acts
returns-in-Err-Full-clause-acts g c =
    full _ _ _ _ c.args.id (c.args.class.0, c.args.name.now) (λ key. declare_meaning c.args.asks key c.args.site.0) _ _ _ (c.in-Err-Full.ensures.full.0 (ap Err c.in-Err-Full.field-0-is))
    (ap (acts _) c.reserve.ensures.front) c.halt-in-Err-Full.ensures.state c.halt-in-Err-Full.ensures.value

pub returns-in-Ok-declare-clause-grown : goal.returns-in-Ok-declare-clause-grown
returns-in-Ok-declare-clause-grown g c t =
    rw (← c.reserve.ensures.front, ← c.reserve.ensures.fixed)
    (c.declare.ensures.grown t _ _ _ c.in-Ok.ensures.below (λ names p. c.in-Ok.ensures.asked ∙ sym (key_named _ names _ (c.args.class.0, c.args.name.now) c.in-Ok.key.0 c.in-Ok.ensures.key p)))

pub returns-in-Err-clause-grown : goal.returns-in-Err-clause-grown
returns-in-Err-clause-grown g c t =
    rw (← c.reserve.ensures.front, ← c.reserve.ensures.fixed)
    (c.declare.ensures.grown t _ _ _ c.in-Ok.ensures.below (λ names p. c.in-Ok.ensures.asked ∙ sym (key_named _ names _ (c.args.class.0, c.args.name.now) c.in-Ok.key.0 c.in-Ok.ensures.key p)))

pub returns-in-Err-Full-clause-grown : goal.returns-in-Err-Full-clause-grown
returns-in-Err-Full-clause-grown g c t = rw (c.reserve.ensures.front, c.in-Err-Full.ensures.unasked) (grown_itself t _ _ _ _)

pub returns-in-Ok-declare-clause-own : goal.returns-in-Ok-declare-clause-own
returns-in-Ok-declare-clause-own g c t =
    rw (← c.reserve.ensures.front, ← c.reserve.ensures.fixed, c.give.ensures.state)
    (keeps_named t _ _ _ _ _ (c.args.class.0, c.args.name.now) _ _ _ _ c.key.ensures.kept c.in-Ok.ensures.asked c.declare.ensures.own)

pub returns-in-Err-clause-own : goal.returns-in-Err-clause-own
returns-in-Err-clause-own g c t =
    rw (← c.reserve.ensures.front, ← c.reserve.ensures.fixed, c.halt.ensures.state)
    (keeps_named t _ _ _ _ _ (c.args.class.0, c.args.name.now) _ _ _ _ c.key.ensures.kept c.in-Ok.ensures.asked c.declare.ensures.own)

pub returns-in-Err-Full-clause-own : goal.returns-in-Err-Full-clause-own
returns-in-Err-Full-clause-own g c t =
    rw (c.reserve.ensures.front, c.halt-in-Err-Full.ensures.state)
    (keeps_known t _ _ _ _ _ _ _ c.key.ensures.kept c.in-Err-Full.ensures.unasked)
