use Rattle.std.proofs.Common.{ap, refl, ◌∙◌, drop}
use Rattle.hb_eval.proofs.{AheadLemmas.value_leaps, BeginLemmas.while_begins}
use Rattle.hb_eval.proofs.leap.leap_loop.Goals as goal

pub returns-in_ok-take-in-Some-clause-leapt : goal.returns-in_ok-take-in-Some-clause-leapt
returns-in_ok-take-in-Some-clause-leapt c =
    value_leaps _ c.args.state.now c.pass.new.state c.test.new.state _ _ _ _ c.test.result _ c.args.of _ 3
    c.pass.ensures (c.variables_from.ensures ∙ ap (drop c.args.state.now.base) c.deref.ensures.value) tt
    (λ names calls keeps room s us fs h. while_begins (record { program = c.args.prog.now; names = names; calls = calls }) keeps room c.args.state.now.at.0 c.args.of.0 c.args.block.0 s
    c.requires.condition h c.requires.tree)
    (refl, refl) c.in-Some.ensures c.if-state-lt4.false c.test.ensures.moves c.test.ensures.plain c.test.ensures.steady c.test.ensures.known c.in_ok-take-in-Some.ensures.took
