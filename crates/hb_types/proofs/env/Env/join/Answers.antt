use Rattle.std.proofs.Common.{◌≡◌, ◌∙◌, sym, subst}
use Rattle.hb_types.specs.Variables as variables
use Rattle.hb_types.specs.Variables.{Variables, IsMap}
use Rattle.hb_types.proofs.MapLemmas.{join_map, join_whole}
use Rattle.hb_types.proofs.env.Env.join.Goals as goal

pub invariant_of-result : goal.invariant_of-result
invariant_of-result c =
    let whole : c.loop-name.both.items ≡ variables.join c.args.self.now c.args.other.now = join_whole c.args.self.now c.as_slice-name-items.result.now c.args.other.now c.loop-name.both.items
    c.loop-name.name-index (c.as_slice-name-items.ensures.value ∙ c.self.view_is) c.loop-name-test.false c.loop-name.invariant.rest in
    subst (λ (G : Variables). IsMap G) (sym whole)
    (join_map c.args.self.now c.args.other.now (subst (λ (G : Variables). IsMap G) c.self.view_is c.self.invariant))
