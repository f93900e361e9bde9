use Rattle.std.proofs.Common.{◌≡◌, ◌+◌, ◌*◌, [], drop, length}
use Rattle.hb_tree.specs.TreeAt.{forest_at, tree_at}
use Rattle.hb_verify.specs.Walks.{Walks, WalksArgs, WalksItems}
use Rattle.hb_verify.specs.Follows.{IsWithin}
use Rattle.hb_verify.proofs.FollowLemmas.{Leads}
use Rattle.hb_verify.proofs.expressions.+expressions.Given as goal

abbrev pub decreases-walk_node : goal.decreases-walk_node
decreases-walk_node l = l.id.0 * 4 + 3

abbrev pub decreases-walk_assign : goal.decreases-walk_assign
decreases-walk_assign l = l.id.0 * 4 + 2

abbrev pub decreases-walk_part : goal.decreases-walk_part
decreases-walk_part l = l.id.0 * 4 + 2

abbrev pub decreases-walk_binary : goal.decreases-walk_binary
decreases-walk_binary l = l.id.0 * 4 + 2

abbrev pub decreases-walk_if : goal.decreases-walk_if
decreases-walk_if l = l.id.0 * 4 + 2

abbrev pub decreases-walk_while : goal.decreases-walk_while
decreases-walk_while l = l.id.0 * 4 + 2

abbrev pub decreases-walk_call : goal.decreases-walk_call
decreases-walk_call l = l.id.0 * 4 + 2

abbrev pub decreases-walk_args : goal.decreases-walk_args
decreases-walk_args l = l.id.0 * 4 + 1

abbrev pub decreases-walk_method : goal.decreases-walk_method
decreases-walk_method l = l.id.0 * 4 + 2

abbrev pub decreases-walk_items : goal.decreases-walk_items
decreases-walk_items l = l.block.0 * 4 + 2

-- what the arguments that are left come to, the whole comes to; each argument before has its type in hand
abbrev pub invariant-walk_args-loop-arg : goal.invariant-walk_args-loop-arg
invariant-walk_args-loop-arg l = record {
  hand : IsWithin l.scene.uses.now l.scene.steps.now l.at;
  count : length l.types.items ≡ l.arg-index;
  leads : Leads
      (WalksArgs l.scene.prog.now l.scene.class.0
      (forest_at (tree_at l.scene.prog.now) (drop l.arg-index l.args)) l.env l.types.items l.scene.uses.now l.scene.steps.now l.at)
      (WalksArgs l.scene.prog.now l.scene.class.0 (forest_at (tree_at l.scene.prog.now) l.args) l.fn.env [] l.scene.uses.now l.scene.steps.now l.fn.at);
}

-- what the items that are left come to, the block comes to
abbrev pub invariant-walk_items-loop-item : goal.invariant-walk_items-loop-item
invariant-walk_items-loop-item l = record {
  hand : IsWithin l.scene.uses.now l.scene.steps.now l.at;
  leads : Leads
      (WalksItems l.scene.prog.now l.scene.class.0
      (forest_at (tree_at l.scene.prog.now) (drop l.item-index l.item-items)) l.env l.last l.scene.uses.now l.scene.steps.now l.at)
      (Walks l.scene.prog.now l.scene.class.0 (tree_at l.scene.prog.now l.fn.block.0) l.fn.env l.scene.uses.now l.scene.steps.now l.fn.at);
}
