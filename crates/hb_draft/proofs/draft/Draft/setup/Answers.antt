use Rattle.std.proofs.Common.{◌≡◌, length, arith}
use Rattle.hb_draft.proofs.{Sites.one_node, Named.setup_kept, Named.setup_made, MadeLemmas.setup-made}
use Rattle.hb_draft.specs.Unfinished.{IsRootBlock}
use Rattle.hb_draft.proofs.draft.Draft.setup.Goals as goal

pub on_top-block-requires : goal.on_top-block-requires
on_top-block-requires c = omega (arith, one_node c.args.self.now IsRootBlock c.requires)

pub invariant_of-self : goal.invariant_of-self
invariant_of-self c =
    let len : c.len.result ≡ length c.self.inside.hand.items = omega (arith, c.len.ensures, c.self.inside.hand.ok) in
    let heights : c.len-2.result ≡ length c.self.inside.heights.items = omega (arith, c.len-2.ensures, c.self.inside.heights.ok) in
    rw (c.truncate.ensures.items, len, c.truncate-2.ensures.items, heights) (setup_kept _ _ c.self.view_is _ c.self.invariant c.on_top-block.result c.requires c.on_top-block.ensures)

pub returns-clause-setup : goal.returns-clause-setup
returns-clause-setup c =
    let len : c.len.result ≡ length c.self.inside.hand.items = omega (arith, c.len.ensures, c.self.inside.hand.ok) in
    rw (c.truncate.ensures.items, len) (setup_made _ _ c.self.view_is _ c.self.invariant c.on_top-block.result c.requires c.on_top-block.ensures)

pub returns-clause-made : goal.returns-clause-made
returns-clause-made c = setup-made _ _ (returns-clause-setup c)
