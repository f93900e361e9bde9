use Rattle.std.proofs.Common.{◌≡◌, rules, w64, to_z, of_z}
use Rattle.hb_eval.proofs.AheadLemmas.{operator_comes}
use Rattle.hb_eval.proofs.ahead.operator.Goals as goal

pub returns-in-Ok : goal.returns-in-Ok
returns-in-Ok c id e =
    let left : to_z w64 (of_z w64 c.in-Some-Some.left) ≡ c.in-Some-Some.left = search rules in
    let right : to_z w64 (of_z w64 c.in-Some-Some.right) ≡ c.in-Some-Some.right = search rules in
    operator_comes _ _ id _ _ _ _ _ _ e c.in-Some-Some.ensures c.in-Some-Some.ensures' (rw (left, right) at c.in-Ok.ensures)
