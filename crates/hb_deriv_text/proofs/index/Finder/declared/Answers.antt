use Rattle.std.proofs.Common.{◌∙◌, ap}
use Rattle.std.specs.Option.{option_map}
use Rattle.hb_types.specs.declared.ids.TypeSite.{TypeSite}
use Rattle.hb_types.specs.declared.ids.NodeId.{NodeId}
use Rattle.hb_types.specs.declared.types.MethodTy.{MethodTy}
use Rattle.hb_tree.specs.Table.{Table}
use Rattle.hb_tree.specs.Nodes.{place_at}
use Rattle.hb_deriv_text.specs.Reading.{first, same_place}
use Rattle.hb_deriv_text.proofs.index.Finder.declared.Goals as goal

pub returns : goal.returns
returns c =
    ap (option_map (λ (s : TypeSite). s.0)) (c.copied.ensures ∙ c.get.ensures.value) ∙ c.self.invariant.types c.args.place
    ∙ ap (λ (t : Table). first (λ (y : MethodTy × NodeId). same_place c.args.place (place_at t y.1.0)) 0 t.types) c.self.view_is
