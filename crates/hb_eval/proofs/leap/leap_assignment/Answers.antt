use Rattle.std.proofs.Common.{◌≡◌, rules, w64, to_z, of_z, ap, refl, ◌∙◌, drop}
use Rattle.hb_eval.specs.declared.value.Value.TheVariants.{Int}
use Rattle.hb_eval.specs.{Meaning.ev}
use Rattle.hb_eval.proofs.{AheadLemmas.value_leaps, FuelLemmas.begin_goes}
use Rattle.hb_eval.proofs.leap.leap_assignment.Goals as goal

pub returns-in_ok-take-in-Some-clause-leapt : goal.returns-in_ok-take-in-Some-clause-leapt
returns-in_ok-take-in-Some-clause-leapt c =
    let is : to_z w64 (of_z w64 c.in-Some.ahead.value) ≡ c.in-Some.ahead.value = search rules in
    let assign = c.in_ok-assign-in-Some.ensures in
    value_leaps _ c.args.state.now c.pass.new.state c.assign.new.state _ _ _ _ c.in_ok-assign-in-Some.field-0 _ c.args.of (Int c.in-Some.ahead.value) c.in-Some.ahead.begins
    (rw is at c.pass.ensures) (c.variables_from.ensures ∙ ap (drop c.args.state.now.base) c.deref.ensures.value) tt
    (λ names calls keeps room s us fs h. ap (λ a. ev c.args.prog.now names (calls room) a s) c.requires.tree ∙ begin_goes _ s _ h)
    (refl, refl) c.in-Some.ensures.comes (search rules) assign.moves assign.plain c.assign.ensures.steady assign.known c.in_ok-take-in-Some.ensures.took
