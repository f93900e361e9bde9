-- Scripts that are ready, behind a turn of their own and behind one of another.
use Rattle.std.proofs.Common.{◌≡◌, ◌∙◌, ℕ, List, [], Option, None, Result, Ok, Err, OnOk, sym, ap, subst}
use mathlib.Core.List.{IsPrefix}
use Rattle.hb_tree.specs.Table.{Table}
use Rattle.hb_cache.specs.declared.kept.Kept.{Kept}
use Rattle.hb_names.specs.Names.{Name}
use Rattle.hb_tables.specs.declared.entry.Entry.{Entry}
use Rattle.hb_tables.specs.declared.entry.Act.{Act}
use Rattle.hb_tables.specs.History.{journal}
use Rattle.hb_tables.specs.Standing.{standing}
use Rattle.hb_tables.proofs.FrontLemmas.{acts_none}
use Rattle.hb_call.specs.GrowthLaws.{prefix_itself}
use Rattle.hb_call.specs.OwnCache.{IsOwnCache, IsTrueCache, KeepsChecks}
use Rattle.hb_call.specs.OwnLaws.{true_on}
use Rattle.hb_eval.specs.declared.framed.Framed.{Framed}
use Rattle.hb_eval.specs.Holding.{Holding, frames_of}
use Rattle.hb_eval.proofs.HoldingLemmas.{holding_empty}
use Rattle.hb_words.specs.declared.words.MethodWords.{MethodWords}
use Rattle.hb_words.specs.Seats.{view_of}
use Rattle.hb_trials_turns.specs.declared.{pair.Pair.Pair, script.Script.Script}
use Rattle.hb_trials_turns.specs.Scripts.{AreReady, IsReady, IsSameCaller}

-- what is kept goes on to be true
pub checks_on : {X E : Type 0} (r : Result X E) (t : Table) (c : ℕ) (names known : List Name) (old new : List Entry) (cache left : List (Option Kept)) → OnOk r (KeepsChecks t c names known names known old new cache left)
    → IsTrueCache t names names c old cache → OnOk r (IsTrueCache t known known c new left)
checks_on (Ok x) t c names known old new cache left keeps own = keeps.own None own
checks_on (Err e) t c names known old new cache left keeps own = tt

-- a caller without an entry holds nothing
pub nothing_held : (c n : ℕ) (log : List Entry) (frames : List Framed) → frames ≡ [] → journal c log ≡ [] → Holding c n (frames_of frames) log
nothing_held c n log frames empty none = subst (λ (l : List Framed). Holding c n (frames_of l) log) (sym empty) (holding_empty c n log (λ q. ap (standing q) (acts_none c log none)))

-- the turn of another only brings names
pub still_ready : (t : Table) (words : MethodWords) (names known : List Name) (s : Script) → IsPrefix names known → IsReady t words names s → IsReady t words known s
still_ready t words names known s more ready = record {
  fine = ready.fine;
  going = ready.going;
  done = ready.done;
  seat = ready.seat;
  holding = ready.holding;
  checks = true_on t names known names known (view_of s.seat).caller (view_of s.seat).seen (view_of s.seat).seen s.machine.state.cache more more (prefix_itself _) ready.checks;
}

-- what is kept of a caller's own checks is true
pub own_true : (t : Table) (names : List Name) (c : ℕ) (past : Option (List Act)) (log : List Entry) (cache : List (Option Kept)) → IsOwnCache t names names c past log cache → IsTrueCache t names names c log cache
own_true t names c past log cache own = record { same = tt; each = own.each }

module _ {X E : Type 0} (t : Table) (words : MethodWords) (names known : List Name) (p : Pair) (s : Script) (more : IsPrefix names known) where
  -- the first of two took a turn
  pub one_turned : (r : Result X E) → IsSameCaller p.one.seat s.seat → OnOk r (IsReady t words known s) → AreReady t words names p → OnOk r (AreReady t words known (record { one = s; two = p.two }))
  one_turned (Ok x) same ready are = record {
    one = ready;
    two = still_ready t words names known p.two more are.two;
    first = same.0 ∙ are.first;
    second = are.second;
  }
  one_turned (Err e) same ready are = tt

  -- the second of them did
  pub two_turned : (r : Result X E) → IsSameCaller p.two.seat s.seat → OnOk r (IsReady t words known s) → AreReady t words names p → OnOk r (AreReady t words known (record { one = p.one; two = s }))
  two_turned (Ok x) same ready are = record {
    one = still_ready t words names known p.one more are.one;
    two = ready;
    first = are.first;
    second = same.0 ∙ are.second;
  }
  two_turned (Err e) same ready are = tt
