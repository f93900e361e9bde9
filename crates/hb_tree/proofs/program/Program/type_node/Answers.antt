use Rattle.std.proofs.Common.{subst}
use Rattle.hb_tree.specs.Program.{IsProgram}
use Rattle.hb_tree.proofs.Known.{got, expr_known, declare_is_expr}
use Rattle.hb_tree.proofs.program.Program.type_node.Goals as goal

pub returns-clause-expr : goal.returns-clause-expr
returns-clause-expr c =
    let ok = subst (λ t. IsProgram t) c.self.view_is c.self.invariant in
    let meets = ok.types _ _ (got (λ t. t.types) _ _ c.self.view_is _ _ c.requires c.index.ensures) in
    expr_known c.args.self.now ok _ (declare_is_expr _ _ meets.named)
