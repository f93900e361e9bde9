use Rattle.std.proofs.Common.{refl, sym}
use Rattle.std.proofs.lemmas.Result.{IfOk-weaker}
use Rattle.hb_tree.specs.TreeAt.{tree_at}
use Rattle.hb_tree.proofs.Trees.{id_of-tree_at}
use Rattle.hb_eval.specs.declared.state.Move.{Move}
use Rattle.hb_call.specs.GrowthLaws.{grown_itself}
use Rattle.hb_call.specs.OwnLaws.{keeps_itself}
use Rattle.hb_eval.proofs.NamedLemmas.{keeps_from, unnamed_on, there}
use Rattle.hb_eval.proofs.named.method_computed.Goals as goal

pub returns-in-Err-clause-acts : goal.returns-in-Err-clause-acts
returns-in-Err-clause-acts g c =
    unnamed_on _ _ _ c.args.prog.now c.args.id (tree_at c.args.prog.now c.args.id.0) c.replace-value.result c.in-Err.stop c.args.state.now (record c.args.state.now { acc = c.replace-value.new.dest }) _ _
    c.requires.fine.1 (id_of-tree_at c.args.prog.now c.args.id.0) c.in-Err.ensures (sym c.replace-value.ensures.value) refl c.halt.ensures.state c.halt.ensures.value

pub returns-in-Err-clause-grown : goal.returns-in-Err-clause-grown
returns-in-Err-clause-grown g c t = grown_itself t _ _ _ _

pub returns-in-Err-clause-own : goal.returns-in-Err-clause-own
returns-in-Err-clause-own g c t = rw c.halt.ensures.state (keeps_itself t _ _ _ _ _)

pub returns-in-Def-Computed-default-clause-keeps : goal.returns-in-Def-Computed-default-clause-keeps
returns-in-Def-Computed-default-clause-keeps g c t = IfOk-weaker c.define.result _ _ (λ (m : Move) k. keeps_from t c.args.state.now _ _ m refl refl refl k) (c.define.ensures.keeps t)

pub known_type-site-requires : goal.known_type-site-requires
known_type-site-requires g c = there _ c.args.prog.now.types c.in-Declare-Computed-default-default.site.0 c.in-Declare-Computed-default-default.ensures.known.1

pub returns-in-Declare-Computed-default-default-clause-keeps : goal.returns-in-Declare-Computed-default-default-clause-keeps
returns-in-Declare-Computed-default-default-clause-keeps g c t = IfOk-weaker c.declare.result _ _ (λ (m : Move) k. keeps_from t c.args.state.now _ _ m refl refl refl k) (c.declare.ensures.keeps t)
