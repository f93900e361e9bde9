use Rattle.std.proofs.Common.{◌≡◌, ◌+◌, ◌≤◌, ◌<◌, length, slice_range, Some, subst, ap, sym, ◌∙◌}
use Rattle.hb_tree.specs.{Tree.IsBlock, Nodes.items_of, Program.IsProgram, TreeAt.IsExprAt}
use Rattle.hb_tree.proofs.{Lists.All-numbers_of, Known.got_node, Known.node_read, Known.block_only}
use Rattle.hb_tree.proofs.program.Program.items.Goals as goal

pub items_from-requires : goal.items_from-requires
items_from-requires c =
    let value = got_node _ _ c.self.view_is _ _ c.requires.0 c.index.ensures ∙ ap Some c.in-Block.is in
    let read = node_read c.args.self.now (subst (λ t. IsProgram t) c.self.view_is c.self.invariant) _ _ value in
    rw c.deref.ensures.value (subst (λ t. c.in-Block.first + c.in-Block.count ≤ length t.items) (sym c.self.view_is) read.places)

pub unreachable-requires : goal.unreachable-requires
unreachable-requires c =
    let value = got_node _ _ c.self.view_is _ _ c.requires.0 c.index.ensures in
    let read = node_read c.args.self.now (subst (λ t. IsProgram t) c.self.view_is c.self.invariant) _ _ value in
    block_only c.args.self.now c.args.block.0 _ (subst IsBlock read.tree c.requires.1) c.in_default.not-Block

pub returns : goal.returns
returns c =
    let value = got_node _ _ c.self.view_is _ _ c.requires.0 c.index.ensures ∙ ap Some c.in-Block.is in
    let read = node_read c.args.self.now (subst (λ t. IsProgram t) c.self.view_is c.self.invariant) _ _ value in
    let same : c.items_from.result.now ≡ items_of c.args.self.now c.in-Block.first c.in-Block.count = c.items_from.ensures
    ∙ ap (λ is. slice_range is c.in-Block.first (c.in-Block.first + c.in-Block.count)) (c.deref.ensures.value ∙ ap (λ t. t.items) c.self.view_is) in
    record { tree = rw same read.tree; below = rw same (All-numbers_of (λ j. j < c.args.block.0) _ read.parts.0); exprs = rw same (All-numbers_of (IsExprAt c.args.self.now) _ read.kinds.0) }
