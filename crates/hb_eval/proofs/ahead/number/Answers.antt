use Rattle.std.proofs.Common.{◌≡◌, rules, sym, subst, w64, to_z, of_z}
use Rattle.hb_eval.specs.declared.value.Value.TheVariants.{Int}
use Rattle.hb_eval.specs.Ahead.{ComesAtOnce}
use Rattle.hb_eval.proofs.AheadLemmas.{int_comes, variable_comes}
use Rattle.hb_eval.proofs.ahead.number.Goals as goal

pub returns-in-Int-clause-comes : goal.returns-in-Int-clause-comes
returns-in-Int-clause-comes c =
    let is : to_z w64 (of_z w64 c.in-Int.value) ≡ c.in-Int.value = search rules in
    subst (λ n. ComesAtOnce c.args.prog.now c.args.vars.now c.args.id.0 (Int n) 1) (sym is) (int_comes _ _ _ _ c.in-Int.ensures.tree)

pub returns-in-Some-clause-comes : goal.returns-in-Some-clause-comes
returns-in-Some-clause-comes c =
    let is : to_z w64 (of_z w64 c.in-Some.value) ≡ c.in-Some.value = search rules in
    subst (λ n. ComesAtOnce c.args.prog.now c.args.vars.now c.args.id.0 (Int n) 1) (sym is) (variable_comes _ _ _ _ _ c.in-Var.ensures.tree c.in-Some.ensures)
