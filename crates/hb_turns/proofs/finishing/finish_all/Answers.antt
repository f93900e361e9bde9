use Rattle.std.proofs.Common.{List, [], ◌∷◌, ◌++◌, ap, ◌∙◌, append_assoc}
use Rattle.hb_eval.specs.declared.script_run.ScriptRun.{ScriptRun}
use Rattle.hb_turns.proofs.FinishLemmas.{finished_push}
use Rattle.hb_turns.proofs.finishing.finish_all.Goals as goal

pub loop-player-preserved : goal.loop-player-preserved
loop-player-preserved c =
    let inv = c.loop-player.invariant in
    let r = c.finish.result in (
      inv.0 ++ r ∷ [],
      c.in_ok-push.ensures.items ∙ ap (λ (l : List ScriptRun). l ++ r ∷ []) inv.1 ∙ append_assoc c.args.runs.items inv.0 (r ∷ []),
      finished_push c.loop-player.yielded inv.0 c.in-Some.player r inv.2 c.finish.ensures.run,
    )
