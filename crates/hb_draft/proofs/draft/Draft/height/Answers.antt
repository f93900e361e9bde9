use Rattle.std.proofs.Common.{◌≡◌, ◌∙◌, sym, ap, length, arith, Some}
use Rattle.hb_draft.proofs.Hands.{as_many, height-below}
use Rattle.hb_draft.proofs.draft.Draft.height.Goals as goal

pub overflow_sub-len : goal.overflow_sub-len
overflow_sub-len c = omega (arith, c.len.ensures, c.self.inside.heights.ok, c.requires, as_many _ _ c.self.view_is _ c.self.invariant)

pub overflow_sub-len-2 : goal.overflow_sub-len-2
overflow_sub-len-2 c = omega (arith, c.len.ensures, c.self.inside.heights.ok, c.requires, as_many _ _ c.self.view_is _ c.self.invariant)

pub index-requires : goal.index-requires
index-requires c = omega (arith, c.len.ensures, c.self.inside.heights.ok, c.requires, as_many _ _ c.self.view_is _ c.self.invariant)

pub returns : goal.returns
returns c =
    let len : c.len.result ≡ length c.self.inside.heights.items = omega (arith, c.len.ensures, c.self.inside.heights.ok) in
    height-below _ _ c.self.view_is _ c.self.invariant c.len.result c.args.below c.index.result.now len c.requires c.index.ensures ∙ ap Some (sym c.from.ensures)
