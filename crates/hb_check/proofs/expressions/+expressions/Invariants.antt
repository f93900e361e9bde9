use Rattle.std.proofs.Common.{◌≡◌, ◌+◌, ◌*◌, [], drop, length}
use Rattle.hb_tree.specs.TreeAt.{forest_at, tree_at}
use Rattle.hb_check.specs.Asked.{MayAsk}
use Rattle.hb_check.specs.Checked.{Checks, ChecksArgs, ChecksItems}
use Rattle.hb_check.specs.Runs.{state}
use Rattle.hb_check.proofs.PartLemmas.{Leads}
use Rattle.hb_check.proofs.expressions.+expressions.Given as goal

abbrev pub decreases-check_node : goal.decreases-check_node
decreases-check_node g l = l.id.0 * 4 + 3

abbrev pub decreases-check_assign : goal.decreases-check_assign
decreases-check_assign g l = l.id.0 * 4 + 2

abbrev pub decreases-check_part : goal.decreases-check_part
decreases-check_part g l = l.id.0 * 4 + 2

abbrev pub decreases-check_binary : goal.decreases-check_binary
decreases-check_binary g l = l.id.0 * 4 + 2

abbrev pub decreases-check_if : goal.decreases-check_if
decreases-check_if g l = l.id.0 * 4 + 2

abbrev pub decreases-check_while : goal.decreases-check_while
decreases-check_while g l = l.id.0 * 4 + 2

abbrev pub decreases-check_call : goal.decreases-check_call
decreases-check_call g l = l.id.0 * 4 + 2

abbrev pub decreases-check_args : goal.decreases-check_args
decreases-check_args g l = l.id.0 * 4 + 1

abbrev pub decreases-check_method : goal.decreases-check_method
decreases-check_method g l = l.id.0 * 4 + 2

abbrev pub decreases-check_items : goal.decreases-check_items
decreases-check_items g l = l.block.0 * 4 + 2

-- what the arguments that are left come to, the whole comes to; each argument before has its type in hand
abbrev pub invariant-check_args-loop-arg : goal.invariant-check_args-loop-arg
invariant-check_args-loop-arg g l = record {
  ready : MayAsk (g.L.Lookup.ready l.look) (g.L.Lookup.names l.look) l.scene.prog.now;
  alike : g.L.Lookup.alike l.fn.look l.look;
  count : length l.types.items ≡ l.arg-index;
  leads : Leads
      (ChecksArgs l.scene.prog.now l.scene.class.0 (forest_at (tree_at l.scene.prog.now) (drop l.arg-index l.args)) l.env l.types.items (state (g.L.Lookup.answers l.look) (g.L.Lookup.refused l.look) l.notes))
      (ChecksArgs l.scene.prog.now l.scene.class.0 (forest_at (tree_at l.scene.prog.now) l.args) l.fn.env [] (state (g.L.Lookup.answers l.fn.look) (g.L.Lookup.refused l.fn.look) l.fn.notes));
}

-- what the items that are left come to, the block comes to
abbrev pub invariant-check_items-loop-item : goal.invariant-check_items-loop-item
invariant-check_items-loop-item g l = record {
  ready : MayAsk (g.L.Lookup.ready l.look) (g.L.Lookup.names l.look) l.scene.prog.now;
  alike : g.L.Lookup.alike l.fn.look l.look;
  leads : Leads
      (ChecksItems l.scene.prog.now l.scene.class.0 (forest_at (tree_at l.scene.prog.now) (drop l.item-index l.item-items)) l.env l.last (state (g.L.Lookup.answers l.look) (g.L.Lookup.refused l.look) l.notes))
      (Checks l.scene.prog.now l.scene.class.0 (tree_at l.scene.prog.now l.fn.block.0) l.fn.env (state (g.L.Lookup.answers l.fn.look) (g.L.Lookup.refused l.fn.look) l.fn.notes));
}
