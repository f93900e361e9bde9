use Rattle.std.proofs.Common.{rules, ap, sym, ◌∙◌, drop}
use Rattle.hb_tree.specs.declared.node.Op.TheVariants as op
use Rattle.hb_eval.specs.declared.value.Value.TheVariants.{Str}
use Rattle.hb_eval.proofs.{AheadLemmas.operator_comes, AheadLemmas.operator_leaps, KnownLemmas.text_known}
use Rattle.hb_eval.proofs.leap.leap_texts.Goals as goal

pub returns-in_ok-take-in-Ok-clause-leapt : goal.returns-in_ok-take-in-Ok-clause-leapt
returns-in_ok-take-in-Ok-clause-leapt c =
    let texts = c.in-Some-Some in
    operator_leaps _ c.args.state.now c.pass.new.state _ _ _ _ c.in-Ok.value 3
    c.pass.ensures (c.variables_from-vars.ensures ∙ ap (drop c.args.state.now.base) c.deref.ensures.value) (text_known c.args.prog.now _ c.in-Ok.value c.in-Ok.ensures) (search rules) c.if-state-lt3.false
    (operator_comes _ _ _ op.Concat _ _ (Str texts.front.now) (Str texts.behind.now) _ c.requires.operator texts.ensures.comes texts.ensures'.comes (sym c.in-Ok.ensures)) (rw c.in_hand.ensures at c.in_ok-take-in-Ok.ensures.took)
