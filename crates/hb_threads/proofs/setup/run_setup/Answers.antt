use Rattle.std.proofs.Common.{◌≡◌, List, [], ◌∷◌, ◌++◌, Option, sym, ap, subst, ◌∙◌}
use Rattle.hb_types.specs.declared.ids.NodeId.{NodeId}
use Rattle.hb_eval.specs.declared.script_run.ScriptRun.{ScriptRun}
use Rattle.hb_threads.specs.Seated.{known_at}
use Rattle.hb_threads.specs.Setups.{IsSetUp}
use Rattle.hb_threads.proofs.setup.run_setup.Goals as goal

pub returns-in_ok-push-in-Some-clause-set_up : goal.returns-in_ok-push-in-Some-clause-set_up
returns-in_ok-push-in-Some-clause-set_up g c =
    let r = c.in_ok-run-in-Some.run' in let came = c.in_ok-run-in-Some.ensures in
    let one : c.push.new.self.items ≡ r ∷ [] = c.in_ok-push-in-Some.ensures.items ∙ ap (λ (l : List ScriptRun). l ++ r ∷ []) c.new-runs.ensures.items in
    subst (λ (s : Option NodeId). IsSetUp c.args.prog.now c.args.options s c.came_to_its_end-goes_on.result (known_at c.run_seat.new.seat c.run_seat.new.names) c.push.new.self.items) (sym (sym c.setup.ensures.value ∙ c.in-Some.is))
    (r, one, c.came_to_its_end-goes_on.ensures, came.exit, came.journal, c.run_seat.ensures.nothing)
