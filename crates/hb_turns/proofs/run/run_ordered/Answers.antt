use Rattle.std.proofs.Common.{◌≡◌, ℕ, List, [], map, sym, subst}
use Rattle.hb_names.specs.Names.{Name}
use Rattle.hb_tables.specs.declared.entry.Entry.{Entry}
use Rattle.hb_call.specs.Held.{stands}
use Rattle.hb_eval.specs.Told.{told_by}
use Rattle.hb_run.specs.Headline.{KeepsPromise}
use Rattle.hb_turns.proofs.run.run_ordered.Goals as goal

pub returns-clause-promise : goal.returns-clause-promise
returns-clause-promise c =
    let t = c.args.prog.now in
    let runs = map told_by c.in_ok-runs.runs.items in
    subst (λ (names : List Name). KeepsPromise t names c.into_history.result.items runs) (sym c.into_list.ensures)
    (subst (λ (log : List Entry). KeepsPromise t c.run_all.new.names log runs) (sym c.into_history.ensures)
    (c.histories_keep_the_promise.ensures.promise _ _ _ _ _ _ c.in_ok-runs.ensures.ordered.history))

pub returns-clause-bodies : goal.returns-clause-bodies
returns-clause-bodies c once = c.histories_keep_the_promise.ensures.bodies _ _ _ _ _ _ c.nodes-nodes.ensures.program once c.in_ok-runs.ensures.ordered.history

pub returns-clause-free : goal.returns-clause-free
returns-clause-free c = subst (λ (log : List Entry). (d q : ℕ) → stands d q log ≡ []) (sym c.into_history.ensures) c.in_ok-runs.ensures.free
