use Rattle.std.proofs.Common.{refl, [], ◌∷◌, ◌++◌, ◌+◌, drop, arith, length-append}
use Rattle.std.proofs.lemmas.Result.{err_from_is_err_and}
use Rattle.hb_types.specs.Variables.{set, join}
use Rattle.hb_deriv.specs.Programs.{sites_of}
use Rattle.hb_check.proofs.RunLemmas.{runs_value, within_left, runs_then, runs_from, runs_stop, runs_wider}
use Rattle.hb_check.proofs.PartLemmas.{call_parts, checks_declare, forest_next, forest_none, names_join_other, runs_ended_early, runs_last, runs_ended, runs_begun, runs_full}
use Rattle.hb_check.proofs.PartLemmas.{runs_grouped, runs_ruled, within_turned, within_set}
use Rattle.hb_tree.specs.{TreeAt.tree_at, TreeAt.forest_at, Counts.names_assigned_in, Counts.names_assigned_in_all}
use Rattle.hb_check.proofs.expressions.+expressions.Goals as goal

pub check_part-returns-in_err-check_node-clause-checks : goal.check_part-returns-in_err-check_node-clause-checks
check_part-returns-in_err-check_node-clause-checks g t c =
    let p = err_from_is_err_and c.from_residual.result c.from_residual.ensures.1 in
    rw (p.1, p.2) (runs_ended_early _ _ c.in_err-check_node.ensures.checks)

pub check_part-returns-clause-checks : goal.check_part-returns-clause-checks
check_part-returns-clause-checks g t c = runs_last _ _ c.in_ok-check_node.ensures.checks (c.finish.ensures _ _ _ _)

pub check_binary-returns-in_err-left-clause-checks : goal.check_binary-returns-in_err-left-clause-checks
check_binary-returns-in_err-left-clause-checks g t c =
    let p = err_from_is_err_and c.from_residual.result c.from_residual.ensures.1 in
    rw (p.1, p.2) (runs_stop _ _ (names_assigned_in (tree_at c.args.scene.prog.now c.args.right.0)) c.in_err-left.ensures.checks)

pub check_binary-returns-in_err-right-clause-checks : goal.check_binary-returns-in_err-right-clause-checks
check_binary-returns-in_err-right-clause-checks g t c =
    let p = err_from_is_err_and c.from_residual-in_err-right.result c.from_residual-in_err-right.ensures.1 in
    rw (p.1, p.2) (runs_then _ _ c.in_ok-left.ensures.checks (runs_ended_early _ _ c.in_err-right.ensures.checks))

pub check_binary-returns-clause-checks : goal.check_binary-returns-clause-checks
check_binary-returns-clause-checks g t c =
    runs_then _ _ c.in_ok-left.ensures.checks (runs_last _ _ c.in_ok-right.ensures.checks (runs_ruled _ _ _ _ (c.operands.ensures _ _) (c.conclude.ensures _ _ _ _)))

pub check_binary-returns-clause-alike : goal.check_binary-returns-clause-alike
check_binary-returns-clause-alike g t c = g.L.Lookup.alike_on _ _ _ c.in_ok-left.ensures.alike c.in_ok-right.ensures.alike

pub check_assign-returns-in_err-ty-clause-checks : goal.check_assign-returns-in_err-ty-clause-checks
check_assign-returns-in_err-ty-clause-checks g t c =
    let p = err_from_is_err_and c.from_residual.result c.from_residual.ensures.1 in
    let x = c.args.name.0 in
    let names = names_assigned_in (tree_at c.args.scene.prog.now c.args.value.0) in
    rw (p.1, p.2) (runs_wider (names ++ x ∷ []) (x ∷ names) (within_turned x names) (runs_stop _ _ (x ∷ []) c.in_err-ty.ensures.checks))

pub check_assign-returns-in_err-set-clause-checks : goal.check_assign-returns-in_err-set-clause-checks
check_assign-returns-in_err-set-clause-checks g t c =
    let p = err_from_is_err_and c.from_residual-in_err-set.result c.from_residual-in_err-set.ensures.1 in
    let x = c.args.name.0 in
    let names = names_assigned_in (tree_at c.args.scene.prog.now c.args.value.0) in
    let full = c.in_err-set.ensures.full.0 refl in
    rw (p.1, p.2) (runs_wider (names ++ x ∷ []) (x ∷ names) (within_turned x names)
    (runs_then _ _ c.in_ok-ty.ensures.checks (runs_full _ _ _ _ x _ c.in_err-set.ensures.map full.0 full.1)))

pub check_assign-returns-clause-checks : goal.check_assign-returns-clause-checks
check_assign-returns-clause-checks g t c =
    let x = c.args.name.0 in
    let names = names_assigned_in (tree_at c.args.scene.prog.now c.args.value.0) in
    let G = c.check_node.new.env in
    runs_wider (names ++ x ∷ []) (x ∷ names) (within_turned x names)
    (runs_then _ _ c.in_ok-ty.ensures.checks
    (runs_begun [] (x ∷ []) G (set G x c.in_ok-ty.ty) (within_set G x c.in_ok-ty.ty) (rw c.in_ok-set.ensures.ok (c.finish.ensures _ (set G x c.in_ok-ty.ty) _ _))))

pub check_if-returns-in_err-check_node-clause-checks : goal.check_if-returns-in_err-check_node-clause-checks
check_if-returns-in_err-check_node-clause-checks g t c =
    let p = err_from_is_err_and c.from_residual.result c.from_residual.ensures.1 in
    let then = names_assigned_in (tree_at c.args.scene.prog.now c.args.then.0) in
    let other = names_assigned_in (tree_at c.args.scene.prog.now c.args.other.0) in
    rw (p.1, p.2) (runs_grouped _ then other (runs_stop _ _ (then ++ other) c.in_err-check_node.ensures.checks))

pub check_if-returns-in_err-then-clause-checks : goal.check_if-returns-in_err-then-clause-checks
check_if-returns-in_err-then-clause-checks g t c =
    let p = err_from_is_err_and c.from_residual-in_err-then.result c.from_residual-in_err-then.ensures.1 in
    let then = names_assigned_in (tree_at c.args.scene.prog.now c.args.then.0) in
    let other = names_assigned_in (tree_at c.args.scene.prog.now c.args.other.0) in
    rw (p.1, p.2) (runs_grouped _ then other (runs_then _ _ c.in_ok-check_node.ensures.checks (runs_stop _ _ other c.in_err-then.ensures.checks)))

pub check_if-returns-in_err-other-clause-alike : goal.check_if-returns-in_err-other-clause-alike
check_if-returns-in_err-other-clause-alike g t c =
    g.L.Lookup.alike_on _ _ _ c.in_ok-check_node.ensures.alike (g.L.Lookup.alike_on _ _ _ c.in_ok-then.ensures.alike c.in_err-other.ensures.alike)

pub check_if-returns-in_err-other-clause-checks : goal.check_if-returns-in_err-other-clause-checks
check_if-returns-in_err-other-clause-checks g t c =
    let p = err_from_is_err_and c.from_residual-in_err-other.result c.from_residual-in_err-other.ensures.1 in
    let then = names_assigned_in (tree_at c.args.scene.prog.now c.args.then.0) in
    let other = names_assigned_in (tree_at c.args.scene.prog.now c.args.other.0) in
    let part = rw c.copied-other_env.ensures at c.in_err-other.ensures.checks in
    rw (p.1, p.2) (runs_grouped _ then other (runs_then _ _ c.in_ok-check_node.ensures.checks
    (runs_from _ _ c.in_ok-then.ensures.checks (within_left _ _) (runs_ended_early _ _ part))))

pub check_if-returns-clause-alike : goal.check_if-returns-clause-alike
check_if-returns-clause-alike g t c =
    g.L.Lookup.alike_on _ _ _ c.in_ok-check_node.ensures.alike (g.L.Lookup.alike_on _ _ _ c.in_ok-then.ensures.alike c.in_ok-other.ensures.alike)

pub check_while-returns-in_err-check_node-clause-checks : goal.check_while-returns-in_err-check_node-clause-checks
check_while-returns-in_err-check_node-clause-checks g t c =
    let p = err_from_is_err_and c.from_residual.result c.from_residual.ensures.1 in
    rw (p.1, p.2) (runs_stop _ _ (names_assigned_in (tree_at c.args.scene.prog.now c.args.turn.0)) c.in_err-check_node.ensures.checks)

pub check_while-returns-in_err-check_node-2-clause-checks : goal.check_while-returns-in_err-check_node-2-clause-checks
check_while-returns-in_err-check_node-2-clause-checks g t c =
    let p = err_from_is_err_and c.from_residual-in_err-check_node-2.result c.from_residual-in_err-check_node-2.ensures.1 in
    rw (p.1, p.2) (runs_then _ _ c.in_ok-check_node.ensures.checks (runs_ended_early _ _ c.in_err-check_node-2.ensures.checks))

pub check_while-returns-clause-alike : goal.check_while-returns-clause-alike
check_while-returns-clause-alike g t c = g.L.Lookup.alike_on _ _ _ c.in_ok-check_node.ensures.alike c.in_ok-check_node-2.ensures.alike

pub check_if-returns-clause-checks : goal.check_if-returns-clause-checks
check_if-returns-clause-checks g t c =
    let then = names_assigned_in (tree_at c.args.scene.prog.now c.args.then.0) in
    let other = names_assigned_in (tree_at c.args.scene.prog.now c.args.other.0) in
    let Ga = c.check_node-2.new.env in
    let Gb = c.check_node-3.new.env in
    let b = rw c.copied-other_env.ensures at c.in_ok-other.ensures.checks in
    rw c.join.ensures (runs_grouped _ then other (runs_then _ _ c.in_ok-check_node.ensures.checks
    (runs_from _ _ c.in_ok-then.ensures.checks (within_left _ _)
    (runs_ended _ _ (join Ga Gb) b (λ sound y h. (b.ran sound).leaves.1 y (names_join_other Ga Gb y h))
    (rw c.join-2.ensures at (c.finish.ensures (sites_of c.args.scene.prog.now) (join Ga Gb) (g.L.Lookup.answers c.check_node-3.new.look) (g.L.Lookup.refused c.check_node-3.new.look)))))))

pub check_while-returns-clause-checks : goal.check_while-returns-clause-checks
check_while-returns-clause-checks g t c =
    let G1 = c.check_node.new.env in
    let rule = rw (c.keeps-keeps.ensures, c.copied-before.ensures) at (c.looped.ensures c.args.id.0 G1) in
    rw c.copied-behind_condition.ensures
    (runs_then _ _ c.in_ok-check_node.ensures.checks
    (runs_ended _ _ G1 c.in_ok-check_node-2.ensures.checks (λ sound y h. within_left _ _ y h)
    (runs_ruled _ _ _ _ rule (c.conclude.ensures _ G1 _ _))))

pub check_call-returns-in_err-receiver-clause-checks : goal.check_call-returns-in_err-receiver-clause-checks
check_call-returns-in_err-receiver-clause-checks g t c =
    let p = err_from_is_err_and c.from_residual.result c.from_residual.ensures.1 in
    rw (p.1, p.2) (runs_stop _ _ (names_assigned_in_all (forest_at (tree_at c.args.scene.prog.now) c.args.args.now)) c.in_err-receiver.ensures.checks)

pub check_call-returns-in_err-types-clause-checks : goal.check_call-returns-in_err-types-clause-checks
check_call-returns-in_err-types-clause-checks g t c =
    let p = err_from_is_err_and c.from_residual-in_err-types.result c.from_residual-in_err-types.ensures.1 in
    rw (p.1, p.2) (runs_then _ _ c.in_ok-receiver.ensures.checks (runs_ended_early _ _ c.in_err-types.ensures.checks))

pub check_call-returns-in_err-method-clause-alike : goal.check_call-returns-in_err-method-clause-alike
check_call-returns-in_err-method-clause-alike g t c =
    g.L.Lookup.alike_on _ _ _ c.in_ok-receiver.ensures.alike (g.L.Lookup.alike_on _ _ _ c.in_ok-types.ensures.alike c.in_err-method.ensures.alike)

pub check_call-returns-clause-alike : goal.check_call-returns-clause-alike
check_call-returns-clause-alike g t c =
    g.L.Lookup.alike_on _ _ _ c.in_ok-receiver.ensures.alike (g.L.Lookup.alike_on _ _ _ c.in_ok-types.ensures.alike c.in_ok-method.ensures.alike)

pub check_call-returns-in_err-method-clause-checks : goal.check_call-returns-in_err-method-clause-checks
check_call-returns-in_err-method-clause-checks g t c =
    let p = err_from_is_err_and c.from_residual-in_err-method.result c.from_residual-in_err-method.ensures.1 in
    let G = c.check_args.new.env in
    rw (p.1, p.2) (runs_then _ _ c.in_ok-receiver.ensures.checks (runs_last _ _ c.in_ok-types.ensures.checks
    (call_parts _ _ _ _ _ (runs_ended_early _ _ (c.in_err-method.ensures.runs G)))))

pub check_call-returns-clause-checks : goal.check_call-returns-clause-checks
check_call-returns-clause-checks g t c =
    let G = c.check_args.new.env in
    runs_then _ _ c.in_ok-receiver.ensures.checks (runs_last _ _ c.in_ok-types.ensures.checks
    (call_parts _ _ _ _ _ (runs_last _ _ (c.in_ok-method.ensures.runs G) (runs_ruled _ _ _ _ (rw c.as_slice.ensures.value at (c.fitting.ensures c.args.id.0 G)) (c.conclude.ensures _ _ _ _)))))

pub check_method-returns-in_err-name-in-Computed-clause-checks : goal.check_method-returns-in_err-name-in-Computed-clause-checks
check_method-returns-in_err-name-in-Computed-clause-checks g t c =
    let p = err_from_is_err_and c.from_residual.result c.from_residual.ensures.1 in
    rw (c.in-Computed.is, p.1, p.2) (runs_ended_early _ _ c.in_err-name-in-Computed.ensures.checks)

pub check_method-returns-in-Named-clause-checks : goal.check_method-returns-in-Named-clause-checks
check_method-returns-in-Named-clause-checks g t c = rw c.in-Named.is (c.finish.ensures _ _ _ _)

pub check_method-returns-in_ok-name-in-Computed-clause-checks : goal.check_method-returns-in_ok-name-in-Computed-clause-checks
check_method-returns-in_ok-name-in-Computed-clause-checks g t c =
    rw c.in-Computed.is (runs_last _ _ c.in_ok-name-in-Computed.ensures.checks (runs_ruled _ _ _ _ (c.named.ensures _ _) (c.conclude.ensures _ _ _ _)))

pub check_node-returns-in-Nil-clause-checks : goal.check_node-returns-in-Nil-clause-checks
check_node-returns-in-Nil-clause-checks g t c = rw c.in-Nil.ensures.tree (c.finish.ensures _ _ _ _)

pub check_node-returns-in-True-clause-checks : goal.check_node-returns-in-True-clause-checks
check_node-returns-in-True-clause-checks g t c = rw c.in-True.ensures.tree (c.finish-in-True.ensures _ _ _ _)

pub check_node-returns-in-False-clause-checks : goal.check_node-returns-in-False-clause-checks
check_node-returns-in-False-clause-checks g t c = rw c.in-False.ensures.tree (c.finish-in-False.ensures _ _ _ _)

pub check_node-returns-in-SelfRef-clause-checks : goal.check_node-returns-in-SelfRef-clause-checks
check_node-returns-in-SelfRef-clause-checks g t c = rw c.in-SelfRef.ensures.tree (c.finish-in-SelfRef.ensures _ _ _ _)

pub check_node-returns-in-Int-clause-checks : goal.check_node-returns-in-Int-clause-checks
check_node-returns-in-Int-clause-checks g t c = rw c.in-Int.ensures.tree (c.finish-in-Int.ensures _ _ _ _)

pub check_node-returns-in-Text-clause-checks : goal.check_node-returns-in-Text-clause-checks
check_node-returns-in-Text-clause-checks g t c = rw c.in-Text.ensures.tree (c.finish-in-Text.ensures _ _ _ _)

pub check_node-returns-in-New-clause-checks : goal.check_node-returns-in-New-clause-checks
check_node-returns-in-New-clause-checks g t c = rw c.in-New.ensures.tree (c.finish-in-New.ensures _ _ _ _)

pub check_node-returns-in-Var-clause-checks : goal.check_node-returns-in-Var-clause-checks
check_node-returns-in-Var-clause-checks g t c =
    rw c.in-Var.ensures.tree (runs_ruled _ _ _ _ (rw c.get.ensures.value at (c.variable.ensures c.args.id.0 c.args.env.now)) (c.conclude.ensures _ _ _ _))

pub check_node-returns-in-Declare-clause-checks : goal.check_node-returns-in-Declare-clause-checks
check_node-returns-in-Declare-clause-checks g t c =
    rw c.in-Declare.ensures.tree (checks_declare _ _ _ c.in-Declare.method c.in-Declare.asks _ (rw c.declared.ensures at c.check_method-in-Declare.ensures.checks))

pub check_items-returns-in_err-last-clause-checks : goal.check_items-returns-in_err-last-clause-checks
check_items-returns-in_err-last-clause-checks g t c =
    let p = err_from_is_err_and c.from_residual.result c.from_residual.ensures.1 in
    let part = tree_at c.args.scene.prog.now in
    let next = forest_next part c.items-item-items.result.now c.loop-item.item-index (record { 0 = 0 }) c.loop-item-test.true in
    rw (p.1, p.2) (c.loop-item.invariant.leads.on _ _
    (rw next (runs_stop _ _ (names_assigned_in_all (forest_at part (drop (c.loop-item.item-index + 1) c.items-item-items.result.now))) c.in_err-last.ensures.checks)))

pub check_items-loop-item-preserved : goal.check_items-loop-item-preserved
check_items-loop-item-preserved g t c =
    let part = tree_at c.args.scene.prog.now in
    let next = forest_next part c.items-item-items.result.now c.loop-item.item-index (record { 0 = 0 }) c.loop-item-test.true in
    record {
      ready = c.in_ok-last.ensures.ready;
      alike = g.L.Lookup.alike_on _ _ _ c.loop-item.invariant.alike c.in_ok-last.ensures.alike;
      leads = record { on = λ new result rest. c.loop-item.invariant.leads.on new result (rw next (runs_then _ _ c.in_ok-last.ensures.checks rest)) };
    }

pub check_args-returns-in_err-check_node-clause-checks : goal.check_args-returns-in_err-check_node-clause-checks
check_args-returns-in_err-check_node-clause-checks g t c =
    let p = err_from_is_err_and c.from_residual.result c.from_residual.ensures.1 in
    let part = tree_at c.args.scene.prog.now in
    let next = forest_next part c.args.args.now c.loop-arg.arg-index (record { 0 = 0 }) c.loop-arg-test.true in
    rw (p.1, p.2) (c.loop-arg.invariant.leads.on _ _
    (rw next (runs_stop _ _ (names_assigned_in_all (forest_at part (drop (c.loop-arg.arg-index + 1) c.args.args.now))) c.in_err-check_node.ensures.checks)))

pub check_args-loop-arg-preserved : goal.check_args-loop-arg-preserved
check_args-loop-arg-preserved g t c =
    let part = tree_at c.args.scene.prog.now in
    let next = forest_next part c.args.args.now c.loop-arg.arg-index (record { 0 = 0 }) c.loop-arg-test.true in
    record {
      ready = c.in_ok-check_node.ensures.ready;
      alike = g.L.Lookup.alike_on _ _ _ c.loop-arg.invariant.alike c.in_ok-check_node.ensures.alike;
      count = let same = length-append c.loop-arg.types.items (c.in_ok-check_node.field-0 ∷ []) in rw c.push.ensures.items (omega (arith, same, c.loop-arg.invariant.count));
      leads = record { on = λ new result rest. c.loop-arg.invariant.leads.on new result (rw next (runs_then _ _ c.in_ok-check_node.ensures.checks (rw c.push.ensures.items at rest))) };
    }

pub check_args-returns-clause-checks : goal.check_args-returns-clause-checks
check_args-returns-clause-checks g t c = c.loop-arg.invariant.leads.on _ _ (rw (forest_none (tree_at c.args.scene.prog.now) c.args.args.now c.loop-arg.arg-index c.loop-arg-test.false) (runs_value _ _ _ _))

pub check_items-returns-clause-checks : goal.check_items-returns-clause-checks
check_items-returns-clause-checks g t c = c.loop-item.invariant.leads.on _ _
    (rw (forest_none (tree_at c.args.scene.prog.now) c.items-item-items.result.now c.loop-item.item-index c.loop-item-test.false) (runs_value _ _ _ _))
