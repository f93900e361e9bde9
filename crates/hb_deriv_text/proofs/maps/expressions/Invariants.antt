use Rattle.std.proofs.Common.{◌<◌, ◌^◌, All, drop}
use Rattle.hb_tree.specs.declared.node.Placed.{Placed}
use Rattle.hb_deriv_text.specs.Finds.{FindsExpressions}
use Rattle.hb_deriv_text.proofs.maps.expressions.Given as goal

-- of those behind, the first are found, and their places are small
abbrev pub invariant-loop-i : goal.invariant-loop-i
invariant-loop-i l = record {
  first : FindsExpressions l.prog l.i l.found;
  small : All (λ (n : Placed). (n.line < 2 ^ 32) × (n.column < 2 ^ 32)) (drop l.i l.prog.nodes);
}
