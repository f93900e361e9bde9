use Rattle.std.proofs.Common.{◌≡◌, drop}
use Rattle.std.specs.List.{flat_map}
use Rattle.hb_tree.specs.{TreeAt.tree_at, Canon.line, Canon.own, Page.written}
use Rattle.hb_tree.proofs.print.push_lines.Given as goal

abbrev pub invariant-loop-item : goal.invariant-loop-item
invariant-loop-item l =
    written l.sheet (flat_map (λ i. line (own l.prog (tree_at l.prog i.0))) (drop l.item-index l.item-items))
    ≡ written l.initial.sheet (flat_map (λ i. line (own l.prog (tree_at l.prog i.0))) l.item-items)
