use Rattle.std.proofs.Common.{refl, [], ◌∷◌, ◌++◌, ◌+◌, drop, arith, length-append}
use Rattle.std.proofs.lemmas.Result.{err_from_is_err_and}
use Rattle.hb_tree.specs.TreeAt.{tree_at, forest_at}
use Rattle.hb_tree.specs.Counts.{names_assigned_in, names_assigned_in_all}
use Rattle.hb_types.specs.Variables.{set, join}
use Rattle.hb_verify.specs.Follows.{state_of}
use Rattle.hb_verify.proofs.RoomLemmas.{within_left, names_join_other, within_turned, within_set}
use Rattle.hb_verify.proofs.FollowLemmas.{finish_typed_as, forest_next, forest_none, follows_begun, follows_ended, follows_ended_early, follows_from}
use Rattle.hb_verify.proofs.FollowLemmas.{follows_full, follows_grouped, follows_last, follows_stop, follows_then, follows_value, follows_wider}
use Rattle.hb_verify.proofs.FollowLemmas.{walks_declare, walks_def}
use Rattle.hb_verify.proofs.expressions.+expressions.Goals as goal

pub walk_part-returns-in_err-walk_node-clause-walks : goal.walk_part-returns-in_err-walk_node-clause-walks
walk_part-returns-in_err-walk_node-clause-walks t c =
    let p = err_from_is_err_and c.from_residual.result c.from_residual.ensures.1 in
    rw (p.1, p.2) (follows_ended_early _ c.in_err-walk_node.ensures.walks)

pub walk_part-returns-clause-walks : goal.walk_part-returns-clause-walks
walk_part-returns-clause-walks t c = follows_last _ c.in_ok-walk_node.ensures.walks (c.pass.ensures.follows _)

pub walk_binary-returns-in_err-left-clause-walks : goal.walk_binary-returns-in_err-left-clause-walks
walk_binary-returns-in_err-left-clause-walks t c =
    let p = err_from_is_err_and c.from_residual.result c.from_residual.ensures.1 in
    rw (p.1, p.2) (follows_stop _ (names_assigned_in (tree_at c.args.scene.prog.now c.args.right.0)) c.in_err-left.ensures.walks)

pub walk_binary-returns-in_err-right-clause-walks : goal.walk_binary-returns-in_err-right-clause-walks
walk_binary-returns-in_err-right-clause-walks t c =
    let p = err_from_is_err_and c.from_residual-in_err-right.result c.from_residual-in_err-right.ensures.1 in
    rw (p.1, p.2) (follows_then _ c.in_ok-left.ensures.walks (follows_ended_early _ c.in_err-right.ensures.walks))

pub walk_binary-returns-clause-walks : goal.walk_binary-returns-clause-walks
walk_binary-returns-clause-walks t c =
    follows_then _ c.in_ok-left.ensures.walks (follows_last _ c.in_ok-right.ensures.walks (c.conclude.ensures.follows _ _ (c.operands.ensures _ _)))

pub walk_assign-returns-in_err-ty-clause-walks : goal.walk_assign-returns-in_err-ty-clause-walks
walk_assign-returns-in_err-ty-clause-walks t c =
    let p = err_from_is_err_and c.from_residual.result c.from_residual.ensures.1 in
    let x = c.args.name.0 in
    let names = names_assigned_in (tree_at c.args.scene.prog.now c.args.value.0) in
    rw (p.1, p.2) (follows_wider (names ++ x ∷ []) (x ∷ names) (within_turned x names) (follows_stop _ (x ∷ []) c.in_err-ty.ensures.walks))

pub walk_assign-returns-in_err-set-clause-walks : goal.walk_assign-returns-in_err-set-clause-walks
walk_assign-returns-in_err-set-clause-walks t c =
    let p = err_from_is_err_and c.from_residual-in_err-set.result c.from_residual-in_err-set.ensures.1 in
    let x = c.args.name.0 in
    let names = names_assigned_in (tree_at c.args.scene.prog.now c.args.value.0) in
    let full = c.in_err-set.ensures.full.0 refl in
    rw (p.1, p.2) (follows_wider (names ++ x ∷ []) (x ∷ names) (within_turned x names)
    (follows_then _ c.in_ok-ty.ensures.walks (follows_full _ _ _ _ x _ c.in_err-set.ensures.map full.0 full.1)))

pub walk_assign-returns-clause-walks : goal.walk_assign-returns-clause-walks
walk_assign-returns-clause-walks t c =
    let x = c.args.name.0 in
    let names = names_assigned_in (tree_at c.args.scene.prog.now c.args.value.0) in
    let G = c.walk_node.new.env in
    follows_wider (names ++ x ∷ []) (x ∷ names) (within_turned x names)
    (follows_then _ c.in_ok-ty.ensures.walks
    (follows_begun [] (x ∷ []) G (set G x c.in_ok-ty.ty) (within_set G x c.in_ok-ty.ty) (rw c.in_ok-set.ensures.ok (c.pass.ensures.follows (set G x c.in_ok-ty.ty)))))

pub walk_if-returns-in_err-walk_node-clause-walks : goal.walk_if-returns-in_err-walk_node-clause-walks
walk_if-returns-in_err-walk_node-clause-walks t c =
    let p = err_from_is_err_and c.from_residual.result c.from_residual.ensures.1 in
    let then = names_assigned_in (tree_at c.args.scene.prog.now c.args.then.0) in
    let other = names_assigned_in (tree_at c.args.scene.prog.now c.args.other.0) in
    rw (p.1, p.2) (follows_grouped _ then other (follows_stop _ (then ++ other) c.in_err-walk_node.ensures.walks))

pub walk_if-returns-in_err-then-clause-walks : goal.walk_if-returns-in_err-then-clause-walks
walk_if-returns-in_err-then-clause-walks t c =
    let p = err_from_is_err_and c.from_residual-in_err-then.result c.from_residual-in_err-then.ensures.1 in
    let then = names_assigned_in (tree_at c.args.scene.prog.now c.args.then.0) in
    let other = names_assigned_in (tree_at c.args.scene.prog.now c.args.other.0) in
    rw (p.1, p.2) (follows_grouped _ then other (follows_then _ c.in_ok-walk_node.ensures.walks (follows_stop _ other c.in_err-then.ensures.walks)))

pub walk_if-returns-in_err-other-clause-walks : goal.walk_if-returns-in_err-other-clause-walks
walk_if-returns-in_err-other-clause-walks t c =
    let p = err_from_is_err_and c.from_residual-in_err-other.result c.from_residual-in_err-other.ensures.1 in
    let then = names_assigned_in (tree_at c.args.scene.prog.now c.args.then.0) in
    let other = names_assigned_in (tree_at c.args.scene.prog.now c.args.other.0) in
    let part = rw c.copied-other_env.ensures at c.in_err-other.ensures.walks in
    rw (p.1, p.2) (follows_grouped _ then other (follows_then _ c.in_ok-walk_node.ensures.walks
    (follows_from _ c.in_ok-then.ensures.walks (within_left _ _) (follows_ended_early _ part))))

pub walk_while-returns-in_err-walk_node-clause-walks : goal.walk_while-returns-in_err-walk_node-clause-walks
walk_while-returns-in_err-walk_node-clause-walks t c =
    let p = err_from_is_err_and c.from_residual.result c.from_residual.ensures.1 in
    rw (p.1, p.2) (follows_stop _ (names_assigned_in (tree_at c.args.scene.prog.now c.args.turn.0)) c.in_err-walk_node.ensures.walks)

pub walk_while-returns-in_err-walk_node-2-clause-walks : goal.walk_while-returns-in_err-walk_node-2-clause-walks
walk_while-returns-in_err-walk_node-2-clause-walks t c =
    let p = err_from_is_err_and c.from_residual-in_err-walk_node-2.result c.from_residual-in_err-walk_node-2.ensures.1 in
    rw (p.1, p.2) (follows_then _ c.in_ok-walk_node.ensures.walks (follows_ended_early _ c.in_err-walk_node-2.ensures.walks))

pub walk_if-returns-clause-walks : goal.walk_if-returns-clause-walks
walk_if-returns-clause-walks t c =
    let then = names_assigned_in (tree_at c.args.scene.prog.now c.args.then.0) in
    let other = names_assigned_in (tree_at c.args.scene.prog.now c.args.other.0) in
    let Ga = c.walk_node-2.new.env in
    let Gb = c.walk_node-3.new.env in
    let b = rw c.copied-other_env.ensures at c.in_ok-other.ensures.walks in
    rw c.join.ensures (follows_grouped _ then other (follows_then _ c.in_ok-walk_node.ensures.walks
    (follows_from _ c.in_ok-then.ensures.walks (within_left _ _)
    (follows_ended _ (join Ga Gb) b (λ y h. b.comes.1 y (names_join_other Ga Gb y h))
    (finish_typed_as (state_of c.args.scene.uses.now c.args.scene.steps.now c.walk_node-3.new.at) c.args.id.0 (join Ga Gb) _ _ c.join-2.ensures
    (c.pass.ensures.follows (join Ga Gb)))))))

pub walk_while-returns-clause-walks : goal.walk_while-returns-clause-walks
walk_while-returns-clause-walks t c =
    let G1 = c.walk_node.new.env in
    let rule = rw (c.keeps-keeps.ensures, c.copied-before.ensures) at (c.looped.ensures c.args.id.0 G1) in
    rw c.copied-behind_condition.ensures
    (follows_then _ c.in_ok-walk_node.ensures.walks
    (follows_ended _ G1 c.in_ok-walk_node-2.ensures.walks (λ y h. within_left _ _ y h)
    (c.conclude.ensures.follows _ _ rule)))

pub walk_call-returns-in_err-receiver-clause-walks : goal.walk_call-returns-in_err-receiver-clause-walks
walk_call-returns-in_err-receiver-clause-walks t c =
    let p = err_from_is_err_and c.from_residual.result c.from_residual.ensures.1 in
    rw (p.1, p.2) (follows_stop _ (names_assigned_in_all (forest_at (tree_at c.args.scene.prog.now) c.args.args.now)) c.in_err-receiver.ensures.walks)

pub walk_call-returns-in_err-types-clause-walks : goal.walk_call-returns-in_err-types-clause-walks
walk_call-returns-in_err-types-clause-walks t c =
    let p = err_from_is_err_and c.from_residual-in_err-types.result c.from_residual-in_err-types.ensures.1 in
    rw (p.1, p.2) (follows_then _ c.in_ok-receiver.ensures.walks (follows_ended_early _ c.in_err-types.ensures.walks))

pub walk_call-returns-clause-walks : goal.walk_call-returns-clause-walks
walk_call-returns-clause-walks t c =
    let G = c.walk_args.new.env in
    follows_then _ c.in_ok-receiver.ensures.walks (follows_last _ c.in_ok-types.ensures.walks
    (rw c.as_slice.ensures.value at (c.conclude_call.ensures.follows G)))

pub walk_method-returns-in_err-name-in-Computed-clause-walks : goal.walk_method-returns-in_err-name-in-Computed-clause-walks
walk_method-returns-in_err-name-in-Computed-clause-walks t c =
    let p = err_from_is_err_and c.from_residual.result c.from_residual.ensures.1 in
    rw (c.in-Computed.is, p.1, p.2) (follows_ended_early _ c.in_err-name-in-Computed.ensures.walks)

pub walk_method-returns-in-Named-clause-walks : goal.walk_method-returns-in-Named-clause-walks
walk_method-returns-in-Named-clause-walks t c = rw c.in-Named.is (c.pass.ensures.follows _)

pub walk_method-returns-in_ok-name-in-Computed-clause-walks : goal.walk_method-returns-in_ok-name-in-Computed-clause-walks
walk_method-returns-in_ok-name-in-Computed-clause-walks t c =
    rw c.in-Computed.is (follows_last _ c.in_ok-name-in-Computed.ensures.walks (c.conclude.ensures.follows _ _ (c.named.ensures _ _)))

pub walk_node-returns-in-Nil-clause-walks : goal.walk_node-returns-in-Nil-clause-walks
walk_node-returns-in-Nil-clause-walks t c = rw c.in-Nil.ensures.tree (c.pass.ensures.follows _)

pub walk_node-returns-in-True-clause-walks : goal.walk_node-returns-in-True-clause-walks
walk_node-returns-in-True-clause-walks t c = rw c.in-True.ensures.tree (c.pass-in-True.ensures.follows _)

pub walk_node-returns-in-False-clause-walks : goal.walk_node-returns-in-False-clause-walks
walk_node-returns-in-False-clause-walks t c = rw c.in-False.ensures.tree (c.pass-in-False.ensures.follows _)

pub walk_node-returns-in-SelfRef-clause-walks : goal.walk_node-returns-in-SelfRef-clause-walks
walk_node-returns-in-SelfRef-clause-walks t c = rw c.in-SelfRef.ensures.tree (c.pass-in-SelfRef.ensures.follows _)

pub walk_node-returns-in-Int-clause-walks : goal.walk_node-returns-in-Int-clause-walks
walk_node-returns-in-Int-clause-walks t c = rw c.in-Int.ensures.tree (c.pass-in-Int.ensures.follows _)

pub walk_node-returns-in-Text-clause-walks : goal.walk_node-returns-in-Text-clause-walks
walk_node-returns-in-Text-clause-walks t c = rw c.in-Text.ensures.tree (c.pass-in-Text.ensures.follows _)

pub walk_node-returns-in-New-clause-walks : goal.walk_node-returns-in-New-clause-walks
walk_node-returns-in-New-clause-walks t c = rw c.in-New.ensures.tree (c.pass-in-New.ensures.follows _)

pub walk_node-returns-in-Var-clause-walks : goal.walk_node-returns-in-Var-clause-walks
walk_node-returns-in-Var-clause-walks t c =
    rw c.in-Var.ensures.tree (c.conclude.ensures.follows _ _ (rw c.get.ensures.value at (c.variable.ensures c.args.id.0 c.args.env.now)))

pub walk_node-returns-in-Declare-clause-walks : goal.walk_node-returns-in-Declare-clause-walks
walk_node-returns-in-Declare-clause-walks t c =
    rw c.in-Declare.ensures.tree (walks_declare _ _ _ _ c.in-Declare.method c.in-Declare.asks _ (rw c.declared.ensures at c.walk_method-in-Declare.ensures.walks))

pub walk_items-returns-in_err-last-clause-walks : goal.walk_items-returns-in_err-last-clause-walks
walk_items-returns-in_err-last-clause-walks t c =
    let p = err_from_is_err_and c.from_residual.result c.from_residual.ensures.1 in
    let part = tree_at c.args.scene.prog.now in
    let next = forest_next part c.items-item-items.result.now c.loop-item.item-index (record { 0 = 0 }) c.loop-item-test.true in
    rw (p.1, p.2) (c.loop-item.invariant.leads.on _ _
    (rw next (follows_stop _ (names_assigned_in_all (forest_at part (drop (c.loop-item.item-index + 1) c.items-item-items.result.now))) c.in_err-last.ensures.walks)))

pub walk_items-loop-item-preserved : goal.walk_items-loop-item-preserved
walk_items-loop-item-preserved t c =
    let part = tree_at c.args.scene.prog.now in
    let next = forest_next part c.items-item-items.result.now c.loop-item.item-index (record { 0 = 0 }) c.loop-item-test.true in
    record {
      hand = c.in_ok-last.ensures.hand;
      leads = record { on = λ new result rest. c.loop-item.invariant.leads.on new result (rw next (follows_then _ c.in_ok-last.ensures.walks rest)) };
    }

pub walk_args-returns-in_err-walk_node-clause-walks : goal.walk_args-returns-in_err-walk_node-clause-walks
walk_args-returns-in_err-walk_node-clause-walks t c =
    let p = err_from_is_err_and c.from_residual.result c.from_residual.ensures.1 in
    let part = tree_at c.args.scene.prog.now in
    let next = forest_next part c.args.args.now c.loop-arg.arg-index (record { 0 = 0 }) c.loop-arg-test.true in
    rw (p.1, p.2) (c.loop-arg.invariant.leads.on _ _
    (rw next (follows_stop _ (names_assigned_in_all (forest_at part (drop (c.loop-arg.arg-index + 1) c.args.args.now))) c.in_err-walk_node.ensures.walks)))

pub walk_args-loop-arg-preserved : goal.walk_args-loop-arg-preserved
walk_args-loop-arg-preserved t c =
    let part = tree_at c.args.scene.prog.now in
    let next = forest_next part c.args.args.now c.loop-arg.arg-index (record { 0 = 0 }) c.loop-arg-test.true in
    record {
      hand = c.in_ok-walk_node.ensures.hand;
      count = let same = length-append c.loop-arg.types.items (c.in_ok-walk_node.field-0 ∷ []) in rw c.push.ensures.items
          (omega (arith, same, c.loop-arg.invariant.count));
      leads = record {
        on = λ new result rest. c.loop-arg.invariant.leads.on new result
            (rw next (follows_then _ c.in_ok-walk_node.ensures.walks (rw c.push.ensures.items at rest)));
      };
    }

pub walk_args-returns-clause-walks : goal.walk_args-returns-clause-walks
walk_args-returns-clause-walks t c = c.loop-arg.invariant.leads.on _ _
    (rw (forest_none (tree_at c.args.scene.prog.now) c.args.args.now c.loop-arg.arg-index c.loop-arg-test.false) (follows_value _ _ _ _ _))

pub walk_items-returns-clause-walks : goal.walk_items-returns-clause-walks
walk_items-returns-clause-walks t c = c.loop-item.invariant.leads.on _ _
    (rw (forest_none (tree_at c.args.scene.prog.now) c.items-item-items.result.now c.loop-item.item-index c.loop-item-test.false) (follows_value _ _ _ _ _))

pub walk_items-loop-item-init : goal.walk_items-loop-item-init
walk_items-loop-item-init t c = rw c.items-item-items.ensures.tree (record { hand = c.requires.hand; leads = record { on = λ new result h. h } })

pub walk_node-returns-in-Assign-clause-walks : goal.walk_node-returns-in-Assign-clause-walks
walk_node-returns-in-Assign-clause-walks t c = rw c.in-Assign.ensures.tree c.walk_assign.ensures.walks

pub walk_node-returns-in-Print-clause-walks : goal.walk_node-returns-in-Print-clause-walks
walk_node-returns-in-Print-clause-walks t c = rw c.in-Print.ensures.tree c.walk_part.ensures.walks

pub walk_node-returns-in-ToStr-clause-walks : goal.walk_node-returns-in-ToStr-clause-walks
walk_node-returns-in-ToStr-clause-walks t c = rw c.in-ToStr.ensures.tree c.walk_part-in-ToStr.ensures.walks

pub walk_node-returns-in-Not-clause-walks : goal.walk_node-returns-in-Not-clause-walks
walk_node-returns-in-Not-clause-walks t c = rw c.in-Not.ensures.tree c.walk_part-in-Not.ensures.walks

pub walk_node-returns-in-Binary-clause-walks : goal.walk_node-returns-in-Binary-clause-walks
walk_node-returns-in-Binary-clause-walks t c = rw c.in-Binary.ensures.tree c.walk_binary.ensures.walks

pub walk_node-returns-in-If-clause-walks : goal.walk_node-returns-in-If-clause-walks
walk_node-returns-in-If-clause-walks t c = rw c.in-If.ensures.tree c.walk_if.ensures.walks

pub walk_node-returns-in-While-clause-walks : goal.walk_node-returns-in-While-clause-walks
walk_node-returns-in-While-clause-walks t c = rw c.in-While.ensures.tree c.walk_while.ensures.walks

pub walk_node-returns-in-Call-clause-walks : goal.walk_node-returns-in-Call-clause-walks
walk_node-returns-in-Call-clause-walks t c = rw c.in-Call.ensures.tree (rw c.arguments.ensures.value at c.walk_call.ensures.walks)

pub walk_node-returns-in-Def-clause-walks : goal.walk_node-returns-in-Def-clause-walks
walk_node-returns-in-Def-clause-walks t c = rw c.in-Def.ensures.tree (walks_def _ _ _ _ c.in-Def.method _ c.walk_method.ensures.walks)
