use Rattle.std.proofs.Common.{◌≡◌, ◌∙◌, ap, length, map, arith}
use Rattle.hb_draft.proofs.{MadeLemmas.def_computed-made, Heights.low-kept, Heights.length-kept}
use Rattle.hb_draft.specs.Unfinished.{Unfinished, IsBodyBlock}
use Rattle.hb_draft.proofs.Computed.{CanDefComputed, name_and_block, computed_def_kept, computed_def_made}
use Rattle.hb_draft.proofs.draft.Draft.def_computed.Goals as goal

pub on_top-name-requires : goal.on_top-name-requires
on_top-name-requires c = omega (arith, name_and_block c.args.self.now (IsBodyBlock (map (λ x. x.0) c.args.params.now)) c.requires.parts)

pub invariant_of-self-in-Ok : goal.invariant_of-self-in-Ok
invariant_of-self-in-Ok c =
    let site : c.len-site.result ≡ length c.self.inside.bodies.items = omega (arith, c.len-site.ensures, c.self.inside.bodies.ok) in
    let id : c.len.result ≡ length c.self.inside.nodes.items = omega (arith, c.len.ensures, c.self.inside.nodes.ok) in
    let can : CanDefComputed c.args.self.now c.args.class.0 c.on_top-name.result c.body_of.result (map (λ x. x.0) c.args.params.now) = record {
      room = c.requires.room;
      known_class = c.requires.class;
      itself = ap (λ i. i.0) c.body_of.ensures.def ∙ id ∙ ap (λ (d : Unfinished). length d.table.nodes) c.self.view_is;
      places = c.body_of.ensures.places;
      few = c.body_of.ensures.few;
      filled = c.body_of.ensures.filled;
      named = c.body_of.ensures.params;
      params = c.requires.params;
      has = c.requires.parts;
      two = c.on_top-name.ensures;
      one = rw c.body_of.ensures.block c.on_top-block.ensures;
    } in
    rw (c.in-Ok.ensures.nodes, c.in-Ok.ensures.hand, c.in-Ok.ensures.heights, c.in_ok-push.ensures.items, c.placed.ensures, site)
    (computed_def_kept _ _ c.self.view_is _ c.self.invariant c.args.place c.args.class _ _ _ can)

pub returns-in-Ok-clause-put : goal.returns-in-Ok-clause-put
returns-in-Ok-clause-put c =
    let site : c.len-site.result ≡ length c.self.inside.bodies.items = omega (arith, c.len-site.ensures, c.self.inside.bodies.ok) in
    let id : c.len.result ≡ length c.self.inside.nodes.items = omega (arith, c.len.ensures, c.self.inside.nodes.ok) in
    let can : CanDefComputed c.args.self.now c.args.class.0 c.on_top-name.result c.body_of.result (map (λ x. x.0) c.args.params.now) = record {
      room = c.requires.room;
      known_class = c.requires.class;
      itself = ap (λ i. i.0) c.body_of.ensures.def ∙ id ∙ ap (λ (d : Unfinished). length d.table.nodes) c.self.view_is;
      places = c.body_of.ensures.places;
      few = c.body_of.ensures.few;
      filled = c.body_of.ensures.filled;
      named = c.body_of.ensures.params;
      params = c.requires.params;
      has = c.requires.parts;
      two = c.on_top-name.ensures;
      one = rw c.body_of.ensures.block c.on_top-block.ensures;
    } in
    rw (c.in-Ok.ensures.nodes, c.in-Ok.ensures.hand, c.in_ok-push.ensures.items, c.placed.ensures, site)
    (computed_def_made _ _ c.self.view_is _ c.self.invariant c.args.place c.args.class _ _ _ can)

pub returns-in-Ok-clause-made : goal.returns-in-Ok-clause-made
returns-in-Ok-clause-made c = def_computed-made _ _ c.args.place c.args.class.0 (map (λ x. x.0) c.args.params.now) (returns-in-Ok-clause-put c)

pub push_node-requires-clause-heights : goal.push_node-requires-clause-heights
push_node-requires-clause-heights c = length-kept _ _ _ c.self.invariant

pub push_node-requires-clause-low : goal.push_node-requires-clause-low
push_node-requires-clause-low c = low-kept _ _ _ c.self.invariant
