use Rattle.std.proofs.Common.{ℕ, List, [], ◌∷◌, ◌++◌, ◌≡◌, ap, map, sym, subst, ◌∙◌, rules, true, false}
use Rattle.hb_names.specs.Names.{Name}
use Rattle.hb_tables.specs.declared.entry.Entry.{Entry}
use Rattle.hb_call.specs.Held.{stands}
use Rattle.hb_eval.specs.declared.script_run.ScriptRun.{ScriptRun}
use Rattle.hb_eval.specs.Told.{is_done}
use Rattle.hb_turns.specs.Playing.{IsUnderWay}
use Rattle.hb_turns.specs.Players.{ScriptsRan}
use Rattle.hb_turns.proofs.CollectingLemmas.{collected_on}
use Rattle.hb_turns.proofs.RunLemmas.{nothing_under_way, ordered_done, ordered_none, ordered_stopped}
use Rattle.hb_turns.proofs.run.run_all.Goals as goal

pub run_scripts-requires-clause-under_way : goal.run_scripts-requires-clause-under_way
run_scripts-requires-clause-under_way c =
    let t = c.args.prog.now in let limit = c.args.tables.now.limit in
    subst (λ (l : List Entry). IsUnderWay t limit c.args.names.now l) (sym c.requires.log) (subst (λ (n : List Name). IsUnderWay t limit n []) (sym c.requires.names) (nothing_under_way t limit))

pub returns-then-not-done : goal.returns-then-not-done
returns-then-not-done c =
    let t = c.args.prog.now in
    let order = map (λ x. x.0) c.args.order.now in
    let limit = c.args.tables.now.limit in
    let came = c.in_ok-setup-in-Some.ensures in
    let r = c.in_ok-setup-in-Some.setup in
    let under_way : IsUnderWay t limit c.run_setup.new.names c.run_setup.new.tables.log = came.under_way in
    let one : c.push.new.self.items ≡ r ∷ [] = c.in_ok-push-in-Some.ensures.items ∙ ap (λ (l : List ScriptRun). l ++ r ∷ []) c.new-runs.ensures.items in
    let stopped : is_done r.outcome ≡ false = sym c.if-not-done.ensures in
    record {
      ordered = ordered_stopped t limit c.args.steps order c.run_setup.new.names c.run_setup.new.tables.log c.in-Some.block r c.push.new.self.items
          (sym c.setup.ensures.value ∙ c.in-Some.is) one came.own under_way came.ran stopped;
      collects = came.collects;
      free = came.free;
    }

pub returns-in_ok-runs-in-None : goal.returns-in_ok-runs-in-None
returns-in_ok-runs-in-None c =
    let t = c.args.prog.now in
    let order = map (λ x. x.0) c.args.order.now in
    let limit = c.args.tables.now.limit in
    let ran : ScriptsRan t limit c.args.steps order [] c.run_scripts.new.names [] c.run_scripts.new.tables.log c.new-runs.result.items c.in_ok-runs-in-None.runs.items =
    subst (λ (l : List Entry). ScriptsRan t limit c.args.steps order [] c.run_scripts.new.names l c.run_scripts.new.tables.log c.new-runs.result.items c.in_ok-runs-in-None.runs.items) c.requires.log
    (subst (λ (n : List Name). ScriptsRan t limit c.args.steps order n c.run_scripts.new.names c.args.tables.now.log c.run_scripts.new.tables.log c.new-runs.result.items
    c.in_ok-runs-in-None.runs.items) c.requires.names c.in_ok-runs-in-None.ensures.ran) in
    record {
      ordered = ordered_none t limit c.args.steps order c.run_scripts.new.names c.run_scripts.new.tables.log c.new-runs.result.items c.in_ok-runs-in-None.runs.items
          (sym c.setup.ensures.value ∙ c.in-None.is) c.new-runs.ensures.items ran;
      collects = c.in_ok-runs-in-None.ensures.collects;
      free = c.in_ok-runs-in-None.ensures.free (λ q. ap (λ (l : List Entry). stands 0 q l) c.requires.log);
    }

pub returns-in_ok-runs-in-Some : goal.returns-in_ok-runs-in-Some
returns-in_ok-runs-in-Some c =
    let t = c.args.prog.now in
    let order = map (λ x. x.0) c.args.order.now in
    let limit = c.args.tables.now.limit in
    let came = c.in_ok-setup-in-Some.ensures in
    let r = c.in_ok-setup-in-Some.setup in
    let one : c.push.new.self.items ≡ r ∷ [] = c.in_ok-push-in-Some.ensures.items ∙ ap (λ (l : List ScriptRun). l ++ r ∷ []) c.new-runs.ensures.items in
    let done : is_done r.outcome ≡ true = search rules in
    record {
      ordered = ordered_done t limit c.args.steps order c.run_setup.new.names c.run_scripts-in-Some.new.names c.run_setup.new.tables.log c.run_scripts-in-Some.new.tables.log c.in-Some.block r
          c.push.new.self.items c.in_ok-runs-in-Some.runs.items
          (sym c.setup.ensures.value ∙ c.in-Some.is) one came.own came.ran done
          (subst (λ (n : ℕ). ScriptsRan t n c.args.steps order c.run_setup.new.names c.run_scripts-in-Some.new.names c.run_setup.new.tables.log c.run_scripts-in-Some.new.tables.log
          c.push.new.self.items c.in_ok-runs-in-Some.runs.items) came.limit c.in_ok-runs-in-Some.ensures.ran);
      collects = collected_on t c.args.names.now c.run_setup.new.names c.run_scripts-in-Some.new.names c.args.tables.now.log c.run_setup.new.tables.log c.run_scripts-in-Some.new.tables.log
          c.args.share.now c.run_setup.new.share c.run_scripts-in-Some.new.share came.collects c.in_ok-runs-in-Some.ensures.collects;
      free = c.in_ok-runs-in-Some.ensures.free (came.free 0);
    }
