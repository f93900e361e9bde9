-- A history whose names stand in another order.
use Rattle.std.proofs.Common.{◌≡◌, ℕ, ◌<◌, ◌≤◌, Bool, true, false, List, [], ◌∷◌, length, Option, Some, None, sym, ap, ◌∙◌, subst}
use Rattle.std.specs.Option.{option_map}
use Rattle.std.proofs.lemmas.List.Elements.{All-map}
use Rattle.hb_types.specs.declared.ids.NodeId.{NodeId}
use Rattle.hb_tree.specs.Table.{Table}
use Rattle.hb_names.specs.declared.names.TheConstants.{NAMES_MAX}
use Rattle.hb_names.specs.Names.{Differ, Name, place}
use Rattle.hb_tables.specs.declared.entry.Entry.{Entry}
use Rattle.hb_tables.specs.Frames.{acts}
use Rattle.hb_tables.specs.History.{key_of}
use Rattle.hb_eval.specs.Calls.{call_in}
use Rattle.hb_eval.specs.Runs.{script_run}
use Rattle.hb_eval.specs.Told.{Told, is_done}
use Rattle.hb_run.specs.History.{AreAllRuns, AreRuns, HasCaller, IsHistory, IsInTurn, IsRunOf, RunBehind, callers_from}
use Rattle.hb_renamed.specs.Renaming.{HaveSameNames, moved, rename_entry, renamed}
use Rattle.hb_renamed.proofs.ActLemmas.{acts_renamed, cut_renamed, every_renamed, key_renamed, legal_renamed}
use Rattle.hb_renamed.proofs.OrderLemmas.{as_many, back_to, moves, within}
use Rattle.hb_renamed.proofs.OwnLemmas.{ways_renamed}
use Rattle.hb_renamed.proofs.RuleLemmas.{rules_renamed}
use Rattle.hb_renamed.proofs.RunLemmas.{run_under, script_under, told_same}

module _ (names others : List Name) (differ : Differ names) (differ' : Differ others) (alike : HaveSameNames names others) where
  flipped : HaveSameNames others names
  flipped p = sym (alike p)

  there : (k : ℕ) → moved others names (moved names others k) ≡ k
  there = back_to names others differ alike differ'

  here : (k : ℕ) → moved names others (moved others names k) ≡ k
  here = back_to others names differ' flipped differ

  many : length names ≡ length others
  many = as_many names others differ differ' alike

  to : (p : Name) → place others p ≡ option_map (moved names others) (place names p)
  to = moves names others differ alike

  module _ (t : Table) (steps : ℕ) (log : List Entry) where
    run_renamed : (c : ℕ) (x : Told) → IsRunOf t names steps log c x → IsRunOf t others steps (renamed (moved names others) log) c x
    run_renamed c x h = record {
      block = h.block;
      runs = h.runs;
      run = run_under (moved names others) h.run;
      reads = ap (script_run t others (call_in t others 4096) h.block.0 steps) (acts_renamed (moved names others) c log)
          ∙ script_under (moved names others) (moved others names) there here t names others many to 4096 h.block.0 steps (acts c log) ∙ ap (option_map (run_under (moved names others))) h.reads;
      tells = h.tells ∙ sym (told_same (moved names others) (moved others names) there here c h.run);
    }

    runs_renamed : (cs : List ℕ) (rs : List Told) → AreRuns t names steps log cs rs → AreRuns t others steps (renamed (moved names others) log) cs rs
    runs_renamed [] [] h = tt
    runs_renamed [] (x ∷ rs) h = absurd h
    runs_renamed (c ∷ cs) [] h = absurd h
    runs_renamed (c ∷ cs) (x ∷ rs) h = (run_renamed c x h.0, runs_renamed cs rs h.1)

    behind_renamed : (d : Bool) (rs : List Told) → RunBehind t names steps log d rs → RunBehind t others steps (renamed (moved names others) log) d rs
    behind_renamed true rs h = runs_renamed (callers_from 1 t.scripts) rs h
    behind_renamed false rs h =
        (h.0, every_renamed (moved names others) (moved others names) there here (λ before e. e.caller.0 ≡ 0) (λ before e. e.caller.0 ≡ 0) (λ before e own. own) log h.1)

    all_renamed : (o : Option NodeId) (rs : List Told) → AreAllRuns t names steps log o rs → AreAllRuns t others steps (renamed (moved names others) log) o rs
    all_renamed None rs h = runs_renamed (callers_from 1 t.scripts) rs h
    all_renamed (Some block) [] h = absurd h
    all_renamed (Some block) (x ∷ rs) h = (run_renamed 0 x h.0, behind_renamed (is_done x.outcome) rs h.1)

  pub history_renamed : (t : Table) (limit steps : ℕ) (log : List Entry) (runs : List Told) → IsHistory t limit steps names log runs
      → IsHistory t limit steps others (renamed (moved names others) log) runs
  history_renamed t limit steps log runs h = record {
    legal = legal_renamed r s there here limit log h.legal;
    rules = rules_renamed r s there here t names others many to (within names others differ alike) log h.rules;
    ways = ways_renamed r s there here log h.ways;
    differ = differ';
    few = subst (λ n. n ≤ NAMES_MAX) many h.few;
    keys = every_renamed r s there here (λ before e. key_of e.act < length names) (λ before e. key_of e.act < length others)
        (λ before e low. subst (λ k. k < length others) (sym (key_renamed r e.act)) (within names others differ alike (key_of e.act) low)) log h.keys;
    used = λ k low.
        let u = h.used (s k) (within others names differ' flipped k low) in
        (renamed r u.0, renamed r u.1, rename_entry r u.2, cut_renamed r log u.0 u.1 u.2 u.3, key_renamed r u.2.act ∙ ap r u.4 ∙ here k);
    callers = every_renamed r s there here (λ before e. HasCaller t e) (λ before e. HasCaller t e) (λ before e there. there) log h.callers;
    in_turn = every_renamed r s there here IsInTurn IsInTurn (λ before e turn own. All-map (λ (b : Entry). b.caller.0 ≡ 0) (rename_entry r) before (turn own)) log h.in_turn;
    all_runs = all_renamed t steps log t.setup runs h.all_runs;
  }
    where
      r : ℕ → ℕ
      r = moved names others

      s : ℕ → ℕ
      s = moved others names
