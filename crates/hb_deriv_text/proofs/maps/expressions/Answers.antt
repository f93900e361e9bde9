use Rattle.std.proofs.Common.{◌∙◌, ap, sym, refl, arith, rules, ℕ, ◌-◌, ◌<◌, ◌^◌}
use Rattle.std.specs.Prelude.{◌&&◌, Some}
use Rattle.hb_types.specs.declared.ids.NodeId.{NodeId}
use Rattle.hb_tree.specs.declared.node.Node.{Node}
use Rattle.hb_tree.specs.declared.node.Placed.{Placed}
use Rattle.hb_deriv_text.specs.Reading.{is_expr, same_place}
use Rattle.hb_deriv_text.specs.Finds.{same_key}
use Rattle.hb_deriv_text.proofs.FirstLemmas.{both_known, node_and_place}
use Rattle.hb_deriv_text.proofs.IndexLemmas.{inserted, skipped, all_back, small_place}
use Rattle.hb_deriv_text.proofs.maps.expressions.Goals as goal

pub loop-i-preserved-in_ok-insert : goal.loop-i-preserved-in_ok-insert
loop-i-preserved-in_ok-insert c =
    let nodes = c.args.prog.now.nodes in
    let place = c.place-place.result in
    let small : (place.0 < 2 ^ 32) × (place.1 < 2 ^ 32) = search rules in
    record {
      first = inserted same_key (λ (e : NodeId). e.0) node_and_place (λ k (n : Node × (ℕ × ℕ)). is_expr n.0 && same_place k (Some n.1)) nodes (c.loop-i.i - 1) c.loop-i.i (c.node.result, place)
          (both_known _ _ _ c.node.ensures.value c.place-place.ensures) (omega (arith, c.loop-i-test.true)) c.loop-i.found c.insert.new.self place _
          (λ k. ap (λ b. b && same_place k (Some place)) (sym c.is_expression.ensures ∙ c.if-is_expression.true)) refl c.in_ok-insert.ensures.updates c.loop-i.invariant.first;
      small = all_back (λ (n : Placed). (n.line < 2 ^ 32) × (n.column < 2 ^ 32)) nodes (c.loop-i.i - 1) c.loop-i.i (omega (arith, c.loop-i-test.true))
          (small_place nodes (c.loop-i.i - 1) place c.place-place.ensures small.0 small.1) c.loop-i.invariant.small;
    }

pub loop-i-preserved : goal.loop-i-preserved
loop-i-preserved c =
    let nodes = c.args.prog.now.nodes in
    let place = c.place-place.result in
    let small : (place.0 < 2 ^ 32) × (place.1 < 2 ^ 32) = search rules in
    record {
      first = skipped same_key (λ (e : NodeId). e.0) node_and_place (λ k (n : Node × (ℕ × ℕ)). is_expr n.0 && same_place k (Some n.1)) nodes (c.loop-i.i - 1) c.loop-i.i (c.node.result, place)
          (both_known _ _ _ c.node.ensures.value c.place-place.ensures) (omega (arith, c.loop-i-test.true)) c.loop-i.found
          (λ k. ap (λ b. b && same_place k (Some place)) (sym c.is_expression.ensures ∙ c.if-is_expression.false)) c.loop-i.invariant.first;
      small = all_back (λ (n : Placed). (n.line < 2 ^ 32) × (n.column < 2 ^ 32)) nodes (c.loop-i.i - 1) c.loop-i.i (omega (arith, c.loop-i-test.true))
          (small_place nodes (c.loop-i.i - 1) place c.place-place.ensures small.0 small.1) c.loop-i.invariant.small;
    }
