use Rattle.std.proofs.Common.{◌≡◌, ◌+◌, ◌++◌, ap, ◌∙◌, subst, arith, add-one, drop}
use Rattle.hb_tree.specs.declared.parts.Body.{Body}
use Rattle.hb_tree.specs.Nodes.{params_of}
use Rattle.hb_eval.specs.declared.value.Value.TheVariants as value
use Rattle.hb_eval.specs.{Calls.bindings, Entries.entered}
use Rattle.hb_eval.specs.Turns.{Reads, with_operands, after}
use Rattle.hb_eval.proofs.{BindLemmas.take_less, EntryLemmas.body_starts, GoesLemmas.body_goes, GoesLemmas.keeps_of}
use Rattle.hb_eval.proofs.calls.start_body.Goals as goal

pub returns-clause-reads : goal.returns-clause-reads
returns-clause-reads c known who log b found =
    let old = c.args.state.now in
    let cut = c.cut.ensures ∙ take_less c.args.at c.bind.new.operands.items old.operands.items c.bind.ensures.below in
    let bound = c.in_ok-bind.ensures.bound ∙ ap (λ ps. old.vars.items ++ bindings ps (drop (c.args.at + 1) old.operands.items)) c.parameters.ensures
    ∙ ap (λ n. old.vars.items ++ bindings (params_of c.body-body.result) (drop n old.operands.items)) (add-one c.args.at) in
    let same : c.body-body.result ≡ b = let v = c.body-body.ensures.value in cc in
    subst (λ (x : Body). Reads known who log log old c.start_block-of.new.state
    (with_operands c.args.prog.now c.args.at (λ w room vs s. entered w room c.args.frame c.args.class x vs s) c.args.frames.now.items old)
    (after c.args.prog.now c.under.result c.push_reserved.new.self.items c.start_block-of.new.state)) same
    (body_starts known c.args.prog.now who log c.args.frame c.args.class c.body-body.result c.args.at c.len-base.result value.Nil c.args.frames.now.items c.push_reserved.new.self.items old
    c.start_block-of.new.state c.cut.new.operands c.bind.new.vars c.start_block-of.result c.under.result
    c.requires.at (omega (arith, c.len-base.ensures, old.vars.ok)) c.push_reserved.ensures.items cut bound c.start_block-of.ensures.starts c.start_block-of.ensures.steady.begun
    (record {
      made = c.start_block-of.ensures.steady.calls.made;
      decided = c.start_block-of.ensures.steady.calls.decided;
      own = c.start_block-of.ensures.steady.calls.own;
      fresh = c.start_block-of.ensures.steady.calls.fresh;
    }) c.start_block-of.ensures.under c.under.ensures)

pub returns-clause-goes : goal.returns-clause-goes
returns-clause-goes c =
    let old = c.args.state.now in
    let t = c.args.prog.now in
    let cut = c.cut.ensures ∙ take_less c.args.at c.bind.new.operands.items old.operands.items c.bind.ensures.below in
    let bound = c.in_ok-bind.ensures.bound ∙ ap (λ ps. old.vars.items ++ bindings ps (drop (c.args.at + 1) old.operands.items)) c.parameters.ensures
    ∙ ap (λ n. old.vars.items ++ bindings (params_of c.body-body.result) (drop n old.operands.items)) (add-one c.args.at) in
    let same = c.start_block-of.ensures.steady in
    body_goes t c.args.frame c.args.class c.body-body.result c.args.at c.len-base.result c.args.frames.now.items c.push_reserved.new.self.items old c.start_block-of.new.state c.cut.new.operands
    c.bind.new.vars c.start_block-of.result c.under.result
    c.requires.at (omega (arith, c.len-base.ensures, old.vars.ok)) c.requires.class c.push_reserved.ensures.items cut bound
    (keeps_of t _ _ _ _ c.start_block-of.ensures.starts) c.start_block-of.ensures.plain same.begun
    (record { made = same.calls.made; decided = same.calls.decided; own = same.calls.own; fresh = same.calls.fresh }) c.start_block-of.ensures.known c.start_block-of.ensures.under
    c.under.ensures
