use Rattle.std.proofs.Common.{◌≡◌, ◌++◌, List}
use Rattle.hb_eval.specs.declared.script_run.ScriptRun.{ScriptRun}
use Rattle.hb_turns.specs.Players.{AreFinished}
use Rattle.hb_turns.proofs.finishing.finish_all.Given as goal

abbrev pub invariant-loop-player : goal.invariant-loop-player
invariant-loop-player l = (more : List ScriptRun) × (l.runs.items ≡ l.fn.runs.items ++ more) × AreFinished l.yielded more
