use Rattle.std.proofs.Common.{◌≡◌, ◌-◌, ℕ, suc, length, refl, sym, ap, ◌∙◌, subst, arith}
use Rattle.std.specs.List.{AllByRecursion}
use Rattle.std.proofs.lemmas.Result.{IfOk-weaker}
use Rattle.hb_tree.specs.{Tree.TCall, Nodes.numbers_of}
use Rattle.hb_tree.specs.TreeAt.{tree_at, forest_at, IsExprAt}
use Rattle.hb_call.specs.GrowthLaws.{grown_itself}
use Rattle.hb_eval.specs.declared.state.Hand.{Hand}
use Rattle.hb_eval.specs.declared.state.State.{State}
use Rattle.hb_eval.specs.Entries.{calling}
use Rattle.hb_eval.specs.Turns.{Goes, Reads, with_operands, after}
use Rattle.hb_eval.proofs.ArgumentLemmas.{argument_starts, arguments_there, argument_count, argument_expr, turned_before}
use Rattle.hb_eval.proofs.{GoesLemmas.argument_goes, TurnLemmas.reads_from, ApplyLemmas.nothing_kept, ApplyLemmas.on_ok, GatheringLemmas.shares_itself}
use Rattle.hb_eval.proofs.calls.next_argument.Goals as goal

pub call-requires-clause-short : goal.call-requires-clause-short
call-requires-clause-short g c =
    let t = c.args.prog.now in
    let ids = c.arguments-ids.result.now in
    let tree = c.in-Call.ensures.tree ∙ ap (λ is. TCall c.args.id.0 (tree_at t c.in-Call.field-0.0) c.in-Call.name.0 (forest_at (tree_at t) is)) (sym c.arguments-ids.ensures.value) in
    let size = argument_count t c.args.id.0 c.in-Call.field-0.0 c.in-Call.name.0 ids tree in
    omega (arith, size, c.requires.count, c.requires.there, c.arguments-ids.ensures.count, c.in-Call.ensures.known.1.few, c.len.ensures, c.args.state.now.operands.ok)

pub returns-then-next-ids-clause-turned : goal.returns-then-next-ids-clause-turned
returns-then-next-ids-clause-turned g c =
    let t = c.args.prog.now in
    let old = c.args.state.now in
    let ids = c.arguments-ids.result.now in
    let tree = c.in-Call.ensures.tree ∙ ap (λ is. TCall c.args.id.0 (tree_at t c.in-Call.field-0.0) c.in-Call.name.0 (forest_at (tree_at t) is)) (sym c.arguments-ids.ensures.value) in
    let size = argument_count t c.args.id.0 c.in-Call.field-0.0 c.in-Call.name.0 ids tree in
    let exprs : AllByRecursion (IsExprAt t) (numbers_of ids) = subst (λ is. AllByRecursion (IsExprAt t) (numbers_of is)) (sym c.arguments-ids.ensures.value) c.in-Call.ensures.kinds.0.1 in
    IfOk-weaker c.take.result _ _ (λ (h : Hand) took. record {
      move = c.first.result;
      took = took;
      reads = argument_starts _ t _ _ c.args.id c.args.count (length old.operands.items - c.args.count - 1) c.in-Call.field-0.0 c.in-Call.name.0 ids
          (record { 0 = 0 }) _ c.args.frames.now.items old _ _ c.first.ensures.state c.first.ensures.value tree c.if-next-ids.true refl (omega (arith, c.requires.there));
      goes = argument_goes t c.args.id c.args.count _ c.args.frames.now.items old _ _ c.first.ensures.state c.first.ensures.value c.requires.call.0 c.requires.call.1
          (omega (arith, size, c.if-next-ids.true)) (omega (arith, c.if-next-ids.true, c.arguments-ids.ensures.count, c.in-Call.ensures.known.1.few))
          (argument_expr t ids c.args.count (record { 0 = 0 }) exprs c.if-next-ids.true) c.requires.there;
      light = rw c.first.ensures.value (omega arith);
    }) c.take.ensures.took

pub returns-then-next-ids-clause-grown : goal.returns-then-next-ids-clause-grown
returns-then-next-ids-clause-grown g c = on_ok c.take.result _ (grown_itself _ _ _ _ _)

pub returns-then-next-ids-clause-own : goal.returns-then-next-ids-clause-own
returns-then-next-ids-clause-own g c = nothing_kept _ _ _ _ _ _ _ c.take.result (ap (λ (s : State). s.cache) c.first.ensures.state)

pub returns-else-next-ids-clause-turned : goal.returns-else-next-ids-clause-turned
returns-else-next-ids-clause-turned g c =
    let t = c.args.prog.now in
    let old = c.args.state.now in
    let ids = c.arguments-ids.result.now in
    let tree = c.in-Call.ensures.tree ∙ ap (λ is. TCall c.args.id.0 (tree_at t c.in-Call.field-0.0) c.in-Call.name.0 (forest_at (tree_at t) is)) (sym c.arguments-ids.ensures.value) in
    let at : ℕ = length old.operands.items - c.args.count - 1 in
    let same : c.len.result - c.args.count - 1 ≡ at = omega (arith, c.len.ensures, old.operands.ok) in
    let size : length old.operands.items - (c.len.result - c.args.count - 1) ≡ suc c.args.count = omega (arith, c.len.ensures, old.operands.ok, c.requires.there) in
    IfOk-weaker c.call.result _ _ (λ (h : Hand) x. turned_before t _ _ _ _ _ (suc c.args.count) 0 1 2 c.args.frames.now.items old old c.call.new.frames.items c.call.new.state _ _ _ _ h
    (λ m r. reads_from _ _ _ _ old c.call.new.state _ _ _
    (arguments_there t c.args.id c.args.count at c.in-Call.field-0.0 c.in-Call.name.0 ids c.args.frames.now.items old tree c.if-next-ids.false (omega (arith, c.requires.there)))
    (subst (λ (n : ℕ). Reads (g.N.Names.known c.call.new.names) (g.D.Desk.fixed c.args.desk.now).caller (g.D.Desk.front c.args.desk.now) (g.D.Desk.front c.call.new.desk) old c.call.new.state
    (with_operands t n (λ w room vs s. calling w room c.args.id.0 c.in-Call.name.0 vs s) c.args.frames.now.items old) (after t m c.call.new.frames.items c.call.new.state)) same r))
    (λ m r. subst (λ (n : ℕ). Goes t n 0 1 c.args.frames.now.items old c.call.new.frames.items c.call.new.state m) size r) x) c.call.ensures.turned

pub returns-then-next-ids-clause-shares : goal.returns-then-next-ids-clause-shares
returns-then-next-ids-clause-shares g c = on_ok c.take.result _ (shares_itself _ _ _ _ _)
