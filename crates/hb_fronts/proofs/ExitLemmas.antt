-- A machine that ran from nothing to its end is at its caller's exit.
use Rattle.std.proofs.Common.{◌≡◌, inl, inr, ℕ, ◌≤◌, Bool, List, [], ◌++◌, length, map, Some, sym, ap, ◌∙◌, subst}
use mathlib.Core.List.{IsPrefix}
use Rattle.hb_types.specs.declared.ids.CallerId.{CallerId}
use Rattle.hb_types.specs.declared.ids.NodeId.{NodeId}
use Rattle.hb_tree.specs.Table.{Table}
use Rattle.hb_names.specs.declared.names.TheConstants.{NAMES_MAX}
use Rattle.hb_names.specs.Names.{Name}
use Rattle.hb_tables.specs.declared.entry.Act.{Act}
use Rattle.hb_tables.specs.declared.entry.Entry.{Entry}
use Rattle.hb_tables.specs.Answers.{Fixed}
use Rattle.hb_tables.specs.Frames.{acts}
use Rattle.hb_call.specs.Growth.{EachNew, asked_after}
use Rattle.hb_call.specs.GrowthLaws.{prefix_itself, split}
use Rattle.hb_call.specs.OwnCache.{IsOwnCache}
use Rattle.hb_call.specs.Rules.{EntersBy, FitsRules}
use Rattle.hb_eval.specs.Calls.{call_in}
use Rattle.hb_eval.specs.Machines.{Finishes, StandsFor, keeps}
use Rattle.hb_eval.specs.Noting.{journal_of}
use Rattle.hb_eval.specs.Runs.{script_run}
use Rattle.hb_eval.specs.Told.{Told, told, told_by}
use Rattle.hb_eval.specs.declared.machine.Machine.{Machine}
use Rattle.hb_eval.specs.declared.script_run.ScriptRun.{ScriptRun}
use Rattle.hb_run.specs.Going.{Went}
use Rattle.hb_run.specs.History.{block_of}
use Rattle.hb_fronts.specs.Exits.{EachOwn, HasJournal, IsExit}
use Rattle.hb_fronts.proofs.FrontLemmas.{no_own}

-- where a caller had no act, each of its own is new
pub own_of_new : (F : List Entry → Act → Type 0) (c : ℕ) (was now : List Entry) → acts c was ≡ [] → IsPrefix was now → EachNew F c was now → EachOwn (λ before e. F before e.act) c now
own_of_new F c was now none kept each before after e is own = elim (split was kept.0 before after e (kept.1 ∙ is)) [
  | inl behind ↦ each before after e is behind own
  | inr within ↦ absurd (no_own c was before within.0 e none within.1 own)
]

pub exit_of : (t : Table) (door later : Fixed) (steps : ℕ) (names known was asked : List Name) (log now : List Entry) (old new : Machine) (block : NodeId) (r : ScriptRun)
    → block_of t door.caller ≡ Some block → acts door.caller log ≡ [] → was ≡ []
    → Went t door later names known was asked log now old new → StandsFor t names block.0 steps [] old → new.caller.0 ≡ door.caller
    → IsOwnCache t names was door.caller (Some (acts door.caller log)) log old.state.cache
    → ((longer : List Name) (done : List (ℕ × Act)) → StandsFor t known block.0 steps done new → IsPrefix known longer → length longer ≤ NAMES_MAX → Finishes t longer block.0 steps done new r)
    → IsExit t steps door.caller (record { front = now; known = known; asked = asked }) (told_by r)
exit_of t door later steps names known was asked log now old new block r runs idle unasked went stands mine cache finish = record {
  block = block;
  runs = runs;
  rules = own_of_new (FitsRules t known door.caller) door.caller log now idle went.grown.kept went.grown.rules;
  ways = own_of_new (EntersBy door.caller []) door.caller log now idle went.grown.kept
      (went.checks.ways [] (subst (λ (l : List Act). IsOwnCache t names was door.caller (Some l) log old.state.cache) idle cache));
  names = λ longer more. went.grown.names longer more ∙ ap (λ (l : List Name). asked_after longer l went.grown.made) unasked ∙ ap (λ (l : List Act). asked_after longer [] l) (sym asked_made);
  run = λ longer more few.
      let done = finish longer went.goes.made (went.goes.stands block.0 steps [] stands) more few in
      (done.run, ap (λ (l : List Act). script_run t longer (call_in t longer 4096) block.0 steps l) read ∙ done.reads, done.tells ∙ ap (λ (c : ℕ). told c done.run) mine);
}
  where
    asked_made : acts door.caller now ≡ went.grown.made
    asked_made = went.grown.grows ∙ ap (λ (l : List Act). l ++ went.grown.made) idle

    read : acts door.caller now ≡ map (λ (e : ℕ × Act). e.1) went.goes.made
    read = went.goes.grows ∙ ap (λ (l : List Act). l ++ map (λ (e : ℕ × Act). e.1) went.goes.made) idle

-- its run has its caller's entries, where they are kept
pub journal_of_exit : (t : Table) (door later : Fixed) (steps : ℕ) (names known was asked : List Name) (log now : List Entry) (old new : Machine) (block : NodeId) (r : ScriptRun) (keep : Bool)
    → acts door.caller log ≡ [] → Went t door later names known was asked log now old new → StandsFor t names block.0 steps [] old → new.caller.0 ≡ door.caller → keeps old ≡ keep
    → length known ≤ NAMES_MAX
    → ((longer : List Name) (done : List (ℕ × Act)) → StandsFor t known block.0 steps done new → IsPrefix known longer → length longer ≤ NAMES_MAX → Finishes t longer block.0 steps done new r)
    → HasJournal keep now r
journal_of_exit t door later steps names known was asked log now old new block r keep idle went stands mine kept few finish =
    let done = finish known went.goes.made (went.goes.stands block.0 steps [] stands) (prefix_itself known) few in
    let whose : r.caller.0 ≡ new.caller.0 = ap (λ (x : Told). x.caller) done.tells in
    let read : acts r.caller.0 now ≡ map (λ (e : ℕ × Act). e.1) went.goes.made =
    ap (λ (c : ℕ). acts c now) (whose ∙ mine) ∙ went.goes.grows ∙ ap (λ (l : List Act). l ++ map (λ (e : ℕ × Act). e.1) went.goes.made) idle in
    done.journal ∙ ap (λ (b : Bool). journal_of b new.caller (map (λ (e : ℕ × Act). e.1) went.goes.made)) (went.keeps ∙ kept)
    ∙ ap (λ (x : CallerId). journal_of keep x (map (λ (e : ℕ × Act). e.1) went.goes.made)) (same_caller new.caller r.caller (sym whose))
    ∙ ap (λ (l : List Act). journal_of keep r.caller l) (sym read)
  where
    same_caller : (a b : CallerId) → a.0 ≡ b.0 → a ≡ b
    same_caller a b is = ap (λ (n : ℕ). (let x : CallerId = record { 0 = n } in x)) is
