use Rattle.std.proofs.Common.{◌∙◌, ap}
use Rattle.std.specs.Option.{option_map}
use Rattle.hb_types.specs.declared.ids.BodySite.{BodySite}
use Rattle.hb_tree.specs.declared.parts.Body.{Body}
use Rattle.hb_tree.specs.Table.{Table}
use Rattle.hb_tree.specs.Nodes.{place_at}
use Rattle.hb_deriv_text.specs.Reading.{first, same_place}
use Rattle.hb_deriv_text.proofs.index.Finder.body.Goals as goal

pub returns : goal.returns
returns c =
    ap (option_map (λ (s : BodySite). s.0)) (c.copied.ensures ∙ c.get.ensures.value) ∙ c.self.invariant.bodies c.args.place
    ∙ ap (λ (t : Table). first (λ (b : Body). same_place c.args.place (place_at t b.def.0)) 0 t.bodies) c.self.view_is
