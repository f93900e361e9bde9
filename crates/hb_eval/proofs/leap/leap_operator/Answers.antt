use Rattle.std.proofs.Common.{◌≡◌, rules, w64, to_z, of_z, ap, refl, ◌∙◌, drop}
use Rattle.hb_eval.specs.declared.value.Value.TheVariants.{Int}
use Rattle.hb_eval.specs.{Meaning.ev}
use Rattle.hb_eval.proofs.{AheadLemmas.operator_comes, AheadLemmas.operator_leaps, AheadLemmas.value_leaps, FuelLemmas.begin_goes, KnownLemmas.number_known}
use Rattle.hb_eval.proofs.leap.leap_operator.Goals as goal

pub returns-in_ok-take-in-None-leaf-clause-leapt : goal.returns-in_ok-take-in-None-leaf-clause-leapt
returns-in_ok-take-in-None-leaf-clause-leapt c =
    let is : to_z w64 (of_z w64 c.in-Some.first) ≡ c.in-Some.first = search rules in
    let left = c.in_ok-left-in-None-leaf.ensures in
    value_leaps _ c.args.state.now c.pass.new.state c.left.new.state _ _ _ _ c.in_ok-left-in-None-leaf.field-0 _ c.args.a (Int c.in-Some.first) 1
    (rw is at c.pass.ensures) (c.variables_from-vars.ensures ∙ ap (drop c.args.state.now.base) c.deref.ensures.value) tt
    (λ names calls keeps room s us fs h. ap (λ a. ev c.args.prog.now names (calls room) a s) c.requires.operator ∙ begin_goes _ s _ h)
    (refl, refl) c.in-Some.ensures (search rules) left.moves left.plain c.left.ensures.steady left.known c.in_ok-take-in-None-leaf.ensures.took

pub returns-in_ok-take-in-Ok-clause-leapt : goal.returns-in_ok-take-in-Ok-clause-leapt
returns-in_ok-take-in-Ok-clause-leapt c =
    let first : to_z w64 (of_z w64 c.in-Some.first) ≡ c.in-Some.first = search rules in
    let second : to_z w64 (of_z w64 c.in-Some-leaf.second) ≡ c.in-Some-leaf.second = search rules in
    let gives = rw (first, second) at c.in-Ok.ensures in
    operator_leaps _ c.args.state.now c.pass-in-Ok.new.state _ _ _ _ c.in-Ok.value 3
    c.pass-in-Ok.ensures (c.variables_from-vars.ensures ∙ ap (drop c.args.state.now.base) c.deref.ensures.value) (number_known c.args.prog.now c.args.op c.in-Some.first c.in-Some-leaf.second c.in-Ok.value gives) (search rules) c.if-state-lt3.false
    (operator_comes _ _ _ c.args.op _ _ (Int c.in-Some.first) (Int c.in-Some-leaf.second) _ c.requires.operator c.in-Some.ensures c.in-Some-leaf.ensures gives) (rw c.in_hand.ensures at c.in_ok-take-in-Ok.ensures.took)
