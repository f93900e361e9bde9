use Rattle.std.proofs.Common.{◌≡◌, rules, sym, subst, w64, to_z, of_z}
use Rattle.hb_eval.specs.declared.value.Value.TheVariants.{Int}
use Rattle.hb_eval.specs.Ahead.{ComesAtOnce}
use Rattle.hb_eval.proofs.AheadLemmas.{int_comes, variable_may_come}
use Rattle.hb_eval.proofs.ahead.leaf.Goals as goal

pub returns-in-Int : goal.returns-in-Int
returns-in-Int c =
    let is : to_z w64 (of_z w64 c.in-Int.number) ≡ c.in-Int.number = search rules in
    subst (λ n. ComesAtOnce c.args.prog.now c.args.vars.now c.args.id.0 (Int n) 1) (sym is) (int_comes _ _ _ _ c.in-Int.ensures.tree)

pub returns-in-Var : goal.returns-in-Var
returns-in-Var c = variable_may_come _ _ _ _ c.number_of.result c.in-Var.ensures.tree c.number_of.ensures
