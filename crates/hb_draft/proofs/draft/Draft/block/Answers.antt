use Rattle.std.proofs.Common.{◌≡◌, length, arith}
use Rattle.hb_draft.proofs.{MadeLemmas.node-made, Heights.low-kept, Heights.length-kept}
use Rattle.hb_draft.proofs.Blocks.{block_enough, block_kept, block_made}
use Rattle.hb_draft.specs.Unfinished.{block_over}
use Rattle.hb_draft.proofs.draft.Draft.block.Goals as goal

pub last_of-requires : goal.last_of-requires
last_of-requires c = rw c.deref.ensures.value (block_enough _ _ c.self.view_is _ c.self.invariant c.args.count c.args.place c.requires.room c.requires.parts)

pub overflow_cast-node-2 : goal.overflow_cast-node-2
overflow_cast-node-2 c = omega (
  arith,
  c.self.invariant.draft.few_items,
  c.self.invariant.draft.program.limits.nodes,
  block_enough _ _ c.self.view_is _ c.self.invariant c.args.count c.args.place
      c.requires.room c.requires.parts,
)

pub push_node-requires-clause-count : goal.push_node-requires-clause-count
push_node-requires-clause-count c = block_enough _ _ c.self.view_is _ c.self.invariant c.args.count c.args.place c.requires.room c.requires.parts

pub invariant_of-self-in-Ok : goal.invariant_of-self-in-Ok
invariant_of-self-in-Ok c =
    let first : c.len-first.result ≡ length c.self.inside.items.items = omega (arith, c.len-first.ensures, c.self.inside.items.ok) in
    rw (c.in-Ok.ensures.nodes, c.in-Ok.ensures.hand, c.in-Ok.ensures.heights, c.in_ok-extend_from_slice.ensures.items, c.last_of.ensures, c.deref.ensures.value, c.placed.ensures, first)
    (block_kept _ _ c.self.view_is _ c.self.invariant c.args.count c.args.place c.requires.room c.requires.parts)

pub returns-in-Ok-clause-put : goal.returns-in-Ok-clause-put
returns-in-Ok-clause-put c =
    let first : c.len-first.result ≡ length c.self.inside.items.items = omega (arith, c.len-first.ensures, c.self.inside.items.ok) in
    rw (c.in-Ok.ensures.nodes, c.in-Ok.ensures.hand, c.in_ok-extend_from_slice.ensures.items, c.last_of.ensures, c.deref.ensures.value, c.placed.ensures, first)
    (block_made _ _ c.self.view_is _ c.self.invariant c.args.count c.args.place c.requires.room c.requires.parts)

pub returns-in-Ok-clause-made : goal.returns-in-Ok-clause-made
returns-in-Ok-clause-made c = node-made _ _ c.args.place (block_over c.args.count) (returns-in-Ok-clause-put c)

pub push_node-requires-clause-heights : goal.push_node-requires-clause-heights
push_node-requires-clause-heights c = length-kept _ _ _ c.self.invariant

pub push_node-requires-clause-low : goal.push_node-requires-clause-low
push_node-requires-clause-low c = low-kept _ _ _ c.self.invariant
