use Rattle.std.proofs.Common.{◌≡◌, ◌<◌, ◌∷◌, ◌-◌, ◌∙◌, take, drop, length, sym, ap, refl, arith}
use Rattle.std.specs.List.{flat_map}
use Rattle.hb_tree.specs.{TreeAt.tree_at, TreeAt.IsExprAt, Pieces.mark, Canon.level, Canon.own}
use Rattle.hb_tree.specs.Nodes.{numbers_of, args_of, name_parts}
use Rattle.hb_tree.proofs.Lists.{All-numbers_of}
use Rattle.hb_tree.proofs.Above.{above, above-le, above-all, below-above}
use Rattle.hb_tree.proofs.Pages.{wrote, wrote_last, written-nil, rest_all, walk_step, separated_none, separated_whole}
use Rattle.hb_tree.proofs.FormLemmas.{level-tree_of, own-def, own-declare, wrap-paren, each-map, arguments-none, arguments-some, otherwise-none, otherwise-some, found_within, none_there, some_there}
use Rattle.hb_tree.proofs.forms.+forms.Goals as goal

pub push_expression-push_call-requires : goal.push_expression-push_call-requires
push_expression-push_call-requires t c =
    let args = c.in-Call.args in
    let low = above-le c.args.id.0 (c.in-Call.receiver.0 ∷ numbers_of (args_of args)) c.in-Call.ensures.parts.0 in
    rw c.arguments.ensures.value
    (omega arith, (c.in-Call.ensures.kinds.0.0, (c.in-Call.ensures.known.0, All-numbers_of (IsExprAt c.args.prog.now) (args_of args) c.in-Call.ensures.kinds.0.1)))

pub push_expression-push_declare-requires : goal.push_expression-push_declare-requires
push_expression-push_declare-requires t c =
    let low = above-le c.args.id.0 (name_parts c.in-Declare.method) c.in-Declare.ensures.parts.0 in
    (omega arith, (c.in-Declare.ensures.known.0, (c.in-Declare.ensures.kinds.0, found_within _ _ _ c.in-Declare.ensures.known.1)))

pub push_operand-returns-in_ok-push_expression : goal.push_operand-returns-in_ok-push_expression
push_operand-returns-in_ok-push_expression t c =
    let same : level (tree_at c.args.prog.now c.args.id.0) ≡ c.level.result = ap level c.node.ensures.tree ∙ level-tree_of c.args.prog.now (tree_at c.args.prog.now) c.args.id.0 c.node.result ∙ sym c.level.ensures in
    let low : level (tree_at c.args.prog.now c.args.id.0) < c.args.least = omega arith in
    rw (wrap-paren c.args.least (tree_at c.args.prog.now c.args.id.0) (own c.args.prog.now (tree_at c.args.prog.now c.args.id.0)) low)
    (wrote_last _ _ _ _ _ (wrote _ _ _ c.in_ok-mark.ensures c.in_ok-push_expression.ensures) c.mark-then-level-least.ensures)

pub push_assign-returns : goal.push_assign-returns
push_assign-returns t c = wrote_last _ _ _ _ _ (wrote _ _ _ c.in_ok-push_name.ensures c.in_ok-mark.ensures) c.push_expression.ensures

pub push_print-returns : goal.push_print-returns
push_print-returns t c = wrote_last _ _ _ _ _ c.in_ok-mark.ensures c.push_expression.ensures

pub push_to_str-returns : goal.push_to_str-returns
push_to_str-returns t c =
    wrote_last _ _ _ _ _ (wrote _ _ _ (wrote _ _ _ c.in_ok-mark.ensures c.in_ok-joined_paren.ensures) c.in_ok-push_expression.ensures) c.mark-2.ensures

pub push_not-returns : goal.push_not-returns
push_not-returns t c = wrote_last _ _ _ _ _ c.in_ok-mark.ensures c.push_operand.ensures

pub push_binary-returns : goal.push_binary-returns
push_binary-returns t c =
    wrote_last _ _ _ _ _ (rw c.least_left.ensures at c.in_ok-push_operand.ensures)
    (wrote_last _ _ _ _ _ (rw c.op_kind.ensures at c.in_ok-mark.ensures) (rw c.least_right.ensures at c.push_operand-2.ensures))

pub push_if-returns : goal.push_if-returns
push_if-returns t c =
    let condition = wrote _ _ _ c.in_ok-mark.ensures c.in_ok-push_expression.ensures in
    let then = wrote _ _ _ c.in_ok-mark-2.ensures c.in_ok-push_block.ensures in
    wrote_last _ _ _ _ _ (wrote _ _ _ (wrote _ _ _ condition then) c.in_ok-push_else.ensures) c.mark-3.ensures

pub push_else-returns-then-is_empty : goal.push_else-returns-then-is_empty
push_else-returns-then-is_empty t c =
    let none = otherwise-none _ _ c.items.result.now _ (own c.args.prog.now (tree_at c.args.prog.now c.args.block.0)) c.items.ensures.tree (none_there _ _ c.is_empty.ensures c.if-is_empty.true) in
    rw none (sym (written-nil c.args.sheet.now))

pub push_else-returns : goal.push_else-returns
push_else-returns t c =
    let some = otherwise-some _ _ c.items.result.now _ (own c.args.prog.now (tree_at c.args.prog.now c.args.block.0)) c.items.ensures.tree (some_there _ _ c.is_empty.ensures c.if-is_empty.false) in
    rw some (wrote_last _ _ _ _ _ c.in_ok-mark.ensures c.push_block.ensures)

pub push_while-returns : goal.push_while-returns
push_while-returns t c =
    let condition = wrote _ _ _ c.in_ok-mark.ensures c.in_ok-push_expression.ensures in
    let body = wrote _ _ _ c.in_ok-mark-2.ensures c.in_ok-push_block.ensures in
    wrote_last _ _ _ _ _ (wrote _ _ _ condition body) c.mark-3.ensures

pub push_call-returns : goal.push_call-returns
push_call-returns t c =
    wrote_last _ _ _ _ _ c.in_ok-push_operand.ensures
    (wrote_last _ _ _ _ _ (wrote _ _ _ c.in_ok-mark.ensures c.in_ok-push_name.ensures) c.push_arguments.ensures)

pub push_arguments-returns-then-is_empty : goal.push_arguments-returns-then-is_empty
push_arguments-returns-then-is_empty t c =
    arguments-none c.args.prog.now (tree_at c.args.prog.now) c.args.args.now c.args.sheet.now (none_there _ _ c.is_empty.ensures c.if-is_empty.true)

pub push_arguments-returns : goal.push_arguments-returns
push_arguments-returns t c =
    rw (arguments-some c.args.prog.now (tree_at c.args.prog.now) c.args.args.now (some_there _ _ c.is_empty.ensures c.if-is_empty.false))
    (wrote_last _ _ _ _ _ (wrote _ _ _ c.in_ok-joined_paren.ensures c.in_ok-push_separated.ensures) c.mark.ensures)

pub push_def-returns : goal.push_def-returns
push_def-returns t c =
    let head = wrote _ _ _ c.in_ok-mark.ensures c.in_ok-push_method.ensures in
    rw (own-def c.args.prog.now c.args.method c.args.site c.body.result c.body.ensures.value)
    (wrote_last _ _ _ _ _ (wrote _ _ _ (wrote _ _ _ head c.in_ok-push_parameters.ensures) c.in_ok-push_block.ensures) c.mark-2.ensures)

pub push_declare-returns : goal.push_declare-returns
push_declare-returns t c =
    rw (own-declare c.args.prog.now c.args.method c.args.site c.args.asks)
    (wrote_last _ _ _ _ _ (wrote _ _ _ (rw c.declares.ensures at c.in_ok-mark.ensures) c.in_ok-push_method.ensures) c.push_signature.ensures)

pub push_method-returns-in_ok-mark-in-Named : goal.push_method-returns-in_ok-mark-in-Named
push_method-returns-in_ok-mark-in-Named t c =
    rw c.in-Named.is (wrote_last _ _ _ _ _ (wrote _ _ _ c.in_ok-push_class-in-Named.ensures c.in_ok-mark-in-Named.ensures) c.push_name.ensures)

pub push_method-returns-in_ok-push_expression-in-Computed : goal.push_method-returns-in_ok-push_expression-in-Computed
push_method-returns-in_ok-push_expression-in-Computed t c =
    let head = wrote _ _ _ c.in_ok-push_class-in-Computed.ensures c.in_ok-mark-in-Computed.ensures in
    rw c.in-Computed.is
    (wrote_last _ _ _ _ _ (wrote _ _ _ (wrote _ _ _ head c.in_ok-mark-in-Computed-2.ensures) c.in_ok-push_expression-in-Computed.ensures) c.mark-in-Computed-3.ensures)

pub push_block-push_separated-requires : goal.push_block-push_separated-requires
push_block-push_separated-requires t c =
    let low = above-all c.args.block.0 c.items.result.now c.items.ensures.below in
    (omega arith, c.items.ensures.exprs)

pub push_separated-returns-in_default : goal.push_separated-returns-in_default
push_separated-returns-in_default t c =
    rw (each-map c.args.prog.now (tree_at c.args.prog.now) c.args.ids.now)
    (separated_none (λ i. own c.args.prog.now (tree_at c.args.prog.now i.0)) (mark c.args.between) c.args.ids.now c.args.sheet.now c.in_default.len_below)

pub push_separated-push_expression-requires-in-loop-id : goal.push_separated-push_expression-requires-in-loop-id
push_separated-push_expression-requires-in-loop-id t c =
    let low = rest_all (λ i. i.0 < above (numbers_of c.args.ids.now)) c.args.ids.now c.loop-id.id-index (record { 0 = 0 }) (omega arith) (λ k d within. below-above c.args.ids.now k d within) c.loop-id-test.true in
    (omega arith, rest_all (λ i. IsExprAt c.args.prog.now i.0) c.args.ids.now c.loop-id.id-index (record { 0 = 0 }) (omega arith) c.requires c.loop-id-test.true)

pub push_separated-loop-id-preserved : goal.push_separated-loop-id-preserved
push_separated-loop-id-preserved t c =
    walk_step (λ i. mark c.args.between ∷ own c.args.prog.now (tree_at c.args.prog.now i.0)) (flat_map (λ i. mark c.args.between ∷ own c.args.prog.now (tree_at c.args.prog.now i.0)))
    (λ x xs. refl) (take (length c.args.ids.now - 1) (drop 1 c.args.ids.now)) c.loop-id.id-index (record { 0 = 0 }) _ _ _
    c.loop-id-test.true (wrote _ _ _ c.in_ok-mark.ensures c.in_ok-push_expression-2.ensures) c.loop-id.invariant

pub push_separated-returns : goal.push_separated-returns
push_separated-returns t c =
    rw (each-map c.args.prog.now (tree_at c.args.prog.now) c.args.ids.now)
    (separated_whole (λ i. own c.args.prog.now (tree_at c.args.prog.now i.0)) (mark c.args.between) c.args.ids.now c.loop-id.id-index (record { 0 = 0 }) _ _ _
    (omega arith) c.in_ok-push_expression.ensures c.loop-id-test.false c.loop-id.invariant)
