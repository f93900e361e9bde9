use Rattle.std.proofs.Common.{ap, sym, refl, arith, ◌-◌}
use Rattle.std.specs.Option.{option_map}
use Rattle.hb_types.specs.declared.ids.BodySite.{BodySite}
use Rattle.hb_tree.specs.declared.parts.Body.{Body}
use Rattle.hb_tree.specs.Nodes.{place_at}
use Rattle.hb_deriv_text.specs.Reading.{same_place}
use Rattle.hb_deriv_text.specs.Finds.{same_key}
use Rattle.hb_deriv_text.proofs.IndexLemmas.{inserted}
use Rattle.hb_deriv_text.proofs.maps.bodies.Goals as goal

pub loop-i-preserved-in_ok-insert : goal.loop-i-preserved-in_ok-insert
loop-i-preserved-in_ok-insert c =
    let t = c.args.prog.now in
    inserted same_key (λ (b : BodySite). b.0) (λ (b : Body). b.def.0) (λ k n. same_place k (place_at t n)) t.bodies (c.loop-i.i - 1) c.loop-i.i c.body.result.def.0
    (ap (option_map (λ (b : Body). b.def.0)) c.body.ensures.value) (omega (arith, c.loop-i-test.true)) c.loop-i.found c.insert.new.self c.in-Some.place _
    (λ k. ap (same_place k) (sym c.in-Some.ensures)) refl c.in_ok-insert.ensures.updates c.loop-i.invariant
