use Rattle.std.proofs.Common.{◌∙◌, ap, sym, refl, arith, ◌-◌}
use Rattle.hb_types.specs.declared.ids.NodeId.{NodeId}
use Rattle.hb_types.specs.declared.ids.TypeSite.{TypeSite}
use Rattle.hb_types.specs.declared.types.MethodTy.{MethodTy}
use Rattle.hb_tree.specs.Nodes.{place_at}
use Rattle.hb_deriv_text.specs.Reading.{same_place}
use Rattle.hb_deriv_text.specs.Finds.{same_key}
use Rattle.hb_deriv_text.proofs.IndexLemmas.{inserted, skipped}
use Rattle.hb_deriv_text.proofs.maps.types.Goals as goal

pub loop-i-preserved-in_ok-insert : goal.loop-i-preserved-in_ok-insert
loop-i-preserved-in_ok-insert c =
    let t = c.args.prog.now in
    inserted same_key (λ (y : TypeSite). y.0) (λ (y : MethodTy × NodeId). y.1) (λ k (n : NodeId). same_place k (place_at t n.0)) t.types (c.loop-i.i - 1) c.loop-i.i c.type_node.result
    c.type_node.ensures.value (omega (arith, c.loop-i-test.true)) c.loop-i.found c.insert.new.self c.in-Some.place _
    (λ k. ap (same_place k) (sym c.in-Some.ensures)) refl c.in_ok-insert.ensures.updates c.loop-i.invariant

pub loop-i-preserved : goal.loop-i-preserved
loop-i-preserved c =
    let t = c.args.prog.now in
    skipped same_key (λ (y : TypeSite). y.0) (λ (y : MethodTy × NodeId). y.1) (λ k (n : NodeId). same_place k (place_at t n.0)) t.types (c.loop-i.i - 1) c.loop-i.i c.type_node.result
    c.type_node.ensures.value (omega (arith, c.loop-i-test.true)) c.loop-i.found (λ k. ap (same_place k) (sym c.place_of.ensures ∙ c.in_default.is)) c.loop-i.invariant
