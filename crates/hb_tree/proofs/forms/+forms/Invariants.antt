use Rattle.std.proofs.Common.{◌≡◌, ◌+◌, ◌*◌, ◌∷◌, [], drop}
use Rattle.std.specs.{Prelude.slice_get, List.flat_map}
use Rattle.hb_tree.specs.{TreeAt.tree_at, Pieces.mark, Canon.own, Page.written}
use Rattle.hb_tree.specs.Nodes.{numbers_of, name_parts, block_in}
use Rattle.hb_tree.proofs.Above.{above}
use Rattle.hb_tree.proofs.forms.+forms.Given as goal

abbrev pub decreases-push_expression : goal.decreases-push_expression
decreases-push_expression l = l.id.0 * 16 + 12

abbrev pub decreases-push_operand : goal.decreases-push_operand
decreases-push_operand l = l.id.0 * 16 + 13

abbrev pub decreases-push_assign : goal.decreases-push_assign
decreases-push_assign l = l.value.0 * 16 + 13

abbrev pub decreases-push_print : goal.decreases-push_print
decreases-push_print l = l.value.0 * 16 + 13

abbrev pub decreases-push_to_str : goal.decreases-push_to_str
decreases-push_to_str l = l.value.0 * 16 + 13

abbrev pub decreases-push_not : goal.decreases-push_not
decreases-push_not l = l.operand.0 * 16 + 14

abbrev pub decreases-push_binary : goal.decreases-push_binary
decreases-push_binary l = above (l.left.0 ∷ l.right.0 ∷ []) * 16

abbrev pub decreases-push_if : goal.decreases-push_if
decreases-push_if l = above (l.condition.0 ∷ l.then.0 ∷ l.other.0 ∷ []) * 16

abbrev pub decreases-push_else : goal.decreases-push_else
decreases-push_else l = l.block.0 * 16 + 15

abbrev pub decreases-push_while : goal.decreases-push_while
decreases-push_while l = above (l.condition.0 ∷ l.body.0 ∷ []) * 16

abbrev pub decreases-push_call : goal.decreases-push_call
decreases-push_call l = above (l.receiver.0 ∷ numbers_of l.args.now) * 16 + 2

abbrev pub decreases-push_arguments : goal.decreases-push_arguments
decreases-push_arguments l = above (numbers_of l.args.now) * 16 + 1

abbrev pub decreases-push_def : goal.decreases-push_def
decreases-push_def l = above (block_in (slice_get l.prog.now.bodies l.site.0) ∷ name_parts l.method) * 16 + 1

abbrev pub decreases-push_declare : goal.decreases-push_declare
decreases-push_declare l = above (name_parts l.method) * 16 + 1

abbrev pub decreases-push_method : goal.decreases-push_method
decreases-push_method l = above (name_parts l.method) * 16

abbrev pub decreases-push_block : goal.decreases-push_block
decreases-push_block l = l.block.0 * 16 + 14

abbrev pub decreases-push_separated : goal.decreases-push_separated
decreases-push_separated l = above (numbers_of l.ids.now) * 16

abbrev pub invariant-push_separated-loop-id : goal.invariant-push_separated-loop-id
invariant-push_separated-loop-id l =
    written l.sheet (flat_map (λ i. mark l.between ∷ own l.prog (tree_at l.prog i.0)) (drop l.id-index l.rest))
    ≡ written l.initial.sheet (flat_map (λ i. mark l.between ∷ own l.prog (tree_at l.prog i.0)) l.rest)
