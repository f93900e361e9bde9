use Rattle.hb_draft.proofs.{Puts.put_kept, Puts.put_puts, Heights.low-kept, Heights.length-kept}
use Rattle.hb_draft.proofs.draft.Draft.put.Goals as goal

pub invariant_of-self-2 : goal.invariant_of-self-2
invariant_of-self-2 c = rw (c.in_ok-push_node.ensures.nodes, c.in_ok-push_node.ensures.hand, c.in_ok-push_node.ensures.heights) (put_kept _ _ c.self.view_is _ c.self.invariant c.args.node c.args.count c.requires.over c.requires.expr)

pub returns : goal.returns
returns c = rw (c.in_ok-push_node.ensures.nodes, c.in_ok-push_node.ensures.hand) (put_puts _ _ c.self.view_is _ c.self.invariant c.args.node c.args.count c.requires.over c.requires.expr)

pub push_node-requires-clause-heights : goal.push_node-requires-clause-heights
push_node-requires-clause-heights c = length-kept _ _ _ c.self.invariant

pub push_node-requires-clause-low : goal.push_node-requires-clause-low
push_node-requires-clause-low c = low-kept _ _ _ c.self.invariant
