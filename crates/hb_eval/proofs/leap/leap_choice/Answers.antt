use Rattle.std.proofs.Common.{ap, refl, ◌∙◌, drop}
use Rattle.hb_eval.specs.{Meaning.ev}
use Rattle.hb_eval.proofs.{AheadLemmas.value_leaps, FuelLemmas.begin_goes}
use Rattle.hb_eval.proofs.leap.leap_choice.Goals as goal

pub returns-in_ok-take-in-Some-clause-leapt : goal.returns-in_ok-take-in-Some-clause-leapt
returns-in_ok-take-in-Some-clause-leapt c =
    value_leaps _ c.args.state.now c.pass.new.state c.choose.new.state _ _ _ _ c.choose.result _ c.args.of _ 3
    c.pass.ensures (c.variables_from.ensures ∙ ap (drop c.args.state.now.base) c.deref.ensures.value) tt
    (λ names calls keeps room s us fs h. ap (λ a. ev c.args.prog.now names (calls room) a s) c.requires.tree ∙ begin_goes _ s _ h)
    (refl, refl) c.in-Some.ensures c.if-state-lt4.false c.choose.ensures.moves c.choose.ensures.plain c.choose.ensures.steady c.choose.ensures.known c.in_ok-take-in-Some.ensures.took
