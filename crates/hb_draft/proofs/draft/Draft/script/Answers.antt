use Rattle.std.proofs.Common.{◌≡◌, length, arith}
use Rattle.hb_draft.proofs.{Sites.one_node, Named.script_kept, Named.script_made, MadeLemmas.script-made}
use Rattle.hb_draft.specs.Unfinished.{IsRootBlock}
use Rattle.hb_draft.proofs.draft.Draft.script.Goals as goal

pub on_top-block-requires : goal.on_top-block-requires
on_top-block-requires c = omega (arith, one_node c.args.self.now IsRootBlock c.requires.block)

pub invariant_of-self-2 : goal.invariant_of-self-2
invariant_of-self-2 c =
    let len : c.len.result ≡ length c.self.inside.hand.items = omega (arith, c.len.ensures, c.self.inside.hand.ok) in
    let heights : c.len-2.result ≡ length c.self.inside.heights.items = omega (arith, c.len-2.ensures, c.self.inside.heights.ok) in
    rw (c.in_ok-push.ensures.items, c.truncate.ensures.items, len, c.truncate-2.ensures.items, heights)
    (script_kept _ _ c.self.view_is _ c.self.invariant c.on_top-block.result c.requires.block c.on_top-block.ensures c.args.name c.requires.name c.requires.room)

pub returns-clause-script : goal.returns-clause-script
returns-clause-script c =
    let len : c.len.result ≡ length c.self.inside.hand.items = omega (arith, c.len.ensures, c.self.inside.hand.ok) in
    rw (c.in_ok-push.ensures.items, c.truncate.ensures.items, len)
    (script_made _ _ c.self.view_is _ c.self.invariant c.on_top-block.result c.requires.block c.on_top-block.ensures c.args.name c.requires.name c.requires.room)

pub returns-clause-made : goal.returns-clause-made
returns-clause-made c = script-made _ _ c.args.name.0 (returns-clause-script c)
