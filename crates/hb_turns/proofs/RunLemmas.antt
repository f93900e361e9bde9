-- The history that turns make.
use Rattle.std.proofs.Common.{◌≡◌, ◌≢◌, ◌⊎◌, inl, inr, ℕ, ◌≤◌, List, [], ◌∷◌, ◌++◌, length, map, Option, Some, None, true, false, Bool, refl, sym, ap, ◌∙◌, subst, arith}
use Rattle.std.specs.Prelude.{Contains, slice_get}
use Rattle.std.proofs.lemmas.Bool.Decides.{eqb_tells}
use Rattle.std.proofs.lemmas.List.{append-nil}
use Rattle.hb_types.specs.declared.ids.NodeId.{NodeId}
use Rattle.hb_tree.specs.Table.{Table}
use Rattle.hb_names.specs.Names.{Name}
use Rattle.hb_tables.specs.declared.entry.Entry.{Entry}
use Rattle.hb_tables.specs.Frames.{acts}
use Rattle.hb_tables.specs.Plain.{AreOwn}
use Rattle.hb_call.specs.GrowthLaws.{prefix_itself}
use Rattle.hb_eval.specs.declared.script_run.ScriptRun.{ScriptRun}
use Rattle.hb_eval.specs.Told.{Told, is_done, told_by}
use Rattle.hb_run.specs.History.{AreAllRuns, AreRuns, IsHistory, RunBehind, callers_from}
use Rattle.hb_turns.specs.declared.player.Player.{Player}
use Rattle.hb_turns.specs.Playing.{IsUnderWay, Taken, turns_by}
use Rattle.hb_turns.specs.Players.{AreFinished, AreOver, ArePlayers, GoOn, HasRun, HaveGone, HavePlayed, IsOrdered, ScriptsRan, turn_order, turns_left}
use Rattle.hb_turns.proofs.FinishLemmas.{run_is, runs_are}
use Rattle.hb_run.proofs.HistoryLemmas.{HasEntry, IsAskedBy, entry_behind, in_asked_after, key-below, used_all}
use Rattle.hb_turns.proofs.KnownLemmas.{all_then}
use Rattle.hb_turns.proofs.OrderLemmas.{order_ends}
use Rattle.hb_turns.proofs.TagLemmas.{tagged_are}

-- another caller has no act where all entries are one's own
pub own_idle : (c d : ℕ) (log : List Entry) → c ≢ d → AreOwn c log → acts d log ≡ []
own_idle c d [] apart own = refl
own_idle c d (e ∷ log) apart own = elim (eqb_tells d e.caller.0) [
  | inl same ↦ absurd (apart (sym own.0 ∙ sym same.1))
  | inr other ↦ (let is = other.0 in rw is (own_idle c d log apart own.1))
]

pub played_none : (t : Table) (limit steps : ℕ) (names : List Name) (log : List Entry) (ps : List Player) → IsUnderWay t limit names log → AreOwn 0 log
    → ((names : List Name) (log : List Entry) → ((c : ℕ) → 1 ≤ c → acts c log ≡ []) → ArePlayers t steps 1 names log [] ps)
    → HavePlayed t limit steps 1 log [] names log ps
played_none t limit steps names log ps under_way own ready = record {
  is = sym (append-nil log);
  numbers = λ before after u is. absurd (none before after u is);
  under_way = under_way;
  players = ready names log (λ c from. own_idle 0 c log (λ is. omega (arith, is, from)) own);
  stood = λ before after u is last. absurd (none before after u is);
  alone = λ none. absurd (omega (arith, none));
  setup = λ from. refl;
}
  where
    none : (before after : List Taken) (u : Taken) → [] ≡ before ++ u ∷ after → ⊥
    none [] after u is = cc is
    none (b ∷ before) after u is = cc is

pub scripts_ran : (t : Table) (limit steps : ℕ) (order : List ℕ) (names mid longer : List Name) (old between new : List Entry) (first ps qs : List Player) (was more now : List ScriptRun)
    → HavePlayed t limit steps 1 old [] names old first → length t.scripts ≡ length first → HaveGone t limit order [] names mid old between first ps → GoOn t limit mid longer between new ps qs
    → AreOver (length qs) qs → now ≡ was ++ more → AreFinished qs more → ScriptsRan t limit steps order names longer old new was now
scripts_ran t limit steps order names mid longer old between new first ps qs was more now had many gone go over behind finished =
    let g = go.gone order names old first gone in
    let h = g.played steps old had in
    record {
      more = more;
      behind = behind;
      turns = g.turns;
      is = h.is;
      numbers = h.numbers;
      in_order = order_ends order t.scripts g.turns qs over g.in_order;
      tagged = tagged_are t steps 1 longer new g.turns t.scripts qs more (many ∙ sym g.many) h.under_way.few over h.players finished;
      under_way = h.under_way;
      named = g.named;
      setup = h.setup (omega arith);
      runs = runs_are t steps 1 longer new g.turns t.scripts qs more (many ∙ sym g.many) h.under_way.few h.players finished;
      all_by_then = all_then t limit steps 1 old g.turns longer new qs more h finished;
    }

-- ── the history ──

in_all : (names : List Name) (name : Name) (log : List Entry) → IsAskedBy names name (map (λ (e : Entry). e.act) log) → HasEntry names name log
in_all names name [] h = absurd h
in_all names name (e ∷ es) (inl key) = record { before = []; e = e; after = es; is = refl; key = key }
in_all names name (e ∷ es) (inr later) = entry_behind names name e es (in_all names name es later)

pub history_of_turns : (t : Table) (limit steps : ℕ) (names : List Name) (log : List Entry) (rs : List Told) → IsUnderWay t limit names log → AreAllRuns t names steps log t.setup rs → IsHistory t limit steps names log rs
history_of_turns t limit steps names log rs u runs = record {
  legal = u.legal;
  rules = u.rules;
  ways = u.ways;
  differ = u.differ;
  few = u.few;
  keys = key-below t names limit log u.rules u.legal;
  used = used_all names log u.differ (λ name there. in_all names name log
      (not_before name (in_asked_after names [] (map (λ (e : Entry). e.act) log) name (subst (λ (l : List Name). Contains l name) (u.asked names (prefix_itself names)) there))));
  callers = u.callers;
  in_turn = u.in_turn;
  all_runs = runs;
}
  where
    not_before : (name : Name) → Contains [] name ⊎ IsAskedBy names name (map (λ (e : Entry). e.act) log) → IsAskedBy names name (map (λ (e : Entry). e.act) log)
    not_before name (inl h) = absurd (omega (arith, h.1))
    not_before name (inr h) = h

pub nothing_under_way : (t : Table) (limit : ℕ) → IsUnderWay t limit [] []
nothing_under_way t limit = record {
  legal = λ before after e is. absurd (none before after e is);
  rules = λ before after e is. absurd (none before after e is);
  ways = λ before after e is. absurd (none before after e is);
  callers = λ before after e is. absurd (none before after e is);
  in_turn = λ before after e is. absurd (none before after e is);
  differ = λ i j name x y. absurd (empty i x);
  few = omega arith;
  asked = λ longer more. refl;
}
  where
    none : (before after : List Entry) (e : Entry) → [] ≡ before ++ e ∷ after → ⊥
    none [] after e is = cc is
    none (b ∷ before) after e is = cc is

    empty : (i : ℕ) {name : Name} → slice_get [] i ≡ Some name → ⊥
    empty i e = cc e

-- without a setup
pub ordered_none : (t : Table) (limit steps : ℕ) (order : List ℕ) (names : List Name) (log : List Entry) (was now : List ScriptRun) → t.setup ≡ None → was ≡ []
    → ScriptsRan t limit steps order [] names [] log was now → IsOrdered t limit steps order names log (map told_by now)
ordered_none t limit steps order names log was now none empty ran =
    let runs : now ≡ ran.more = ran.behind ∙ ap (λ (l : List ScriptRun). l ++ ran.more) empty in
    record {
      history = history_of_turns t limit steps names log (map told_by now) ran.under_way
          (subst (λ (s : Option NodeId). AreAllRuns t names steps log s (map told_by now)) (sym none)
          (subst (λ (l : List ScriptRun). AreRuns t names steps log (callers_from 1 t.scripts) (map told_by l)) (sym runs) ran.runs));
      start = [];
      setup = tt;
      turns = ran.turns;
      is = ran.is;
      numbers = ran.numbers;
      in_order = ran.in_order;
      tagged = inr ran.tagged;
      asked = ran.under_way.asked names (prefix_itself names);
      all_by_then = ran.all_by_then;
    }

-- behind a setup that is done
pub ordered_done : (t : Table) (limit steps : ℕ) (order : List ℕ) (names longer : List Name) (old new : List Entry) (block : NodeId) (r : ScriptRun) (was now : List ScriptRun)
    → t.setup ≡ Some block → was ≡ r ∷ [] → AreOwn 0 old
    → HasRun t steps 0 names old (told_by r) → is_done r.outcome ≡ true → ScriptsRan t limit steps order names longer old new was now → IsOrdered t limit steps order longer new (map told_by now)
ordered_done t limit steps order names longer old new block r was now some one own has done ran =
    let runs : now ≡ r ∷ ran.more = ran.behind ∙ ap (λ (l : List ScriptRun). l ++ ran.more) one in
    let behind : RunBehind t longer steps new (is_done (told_by r).outcome) (map told_by ran.more) = subst (λ (d : Bool). RunBehind t longer steps new d (map told_by ran.more)) (sym done) ran.runs in
    record {
      history = history_of_turns t limit steps longer new (map told_by now) ran.under_way
          (subst (λ (s : Option NodeId). AreAllRuns t longer steps new s (map told_by now)) (sym some)
          (subst (λ (l : List ScriptRun). AreAllRuns t longer steps new (Some block) (map told_by l)) (sym runs)
          (run_is t steps 0 names longer old new (told_by r) has ran.named ran.under_way.few ran.setup, behind)));
      start = old;
      setup = own;
      turns = ran.turns;
      is = ran.is;
      numbers = ran.numbers;
      in_order = ran.in_order;
      tagged = inr ran.tagged;
      asked = ran.under_way.asked longer (prefix_itself longer);
      all_by_then = ran.all_by_then;
    }

-- behind a setup that stopped
pub ordered_stopped : (t : Table) (limit steps : ℕ) (order : List ℕ) (names : List Name) (log : List Entry) (block : NodeId) (r : ScriptRun) (now : List ScriptRun) → t.setup ≡ Some block
    → now ≡ r ∷ [] → AreOwn 0 log → IsUnderWay t limit names log
    → HasRun t steps 0 names log (told_by r) → is_done r.outcome ≡ false → IsOrdered t limit steps order names log (map told_by now)
ordered_stopped t limit steps order names log block r now some one own u has stopped =
    let behind : RunBehind t names steps log (is_done (told_by r).outcome) [] = subst (λ (d : Bool). RunBehind t names steps log d []) (sym stopped) (refl, λ before after e is. mine log before after e own is) in
    record {
      history = history_of_turns t limit steps names log (map told_by now) u
          (subst (λ (s : Option NodeId). AreAllRuns t names steps log s (map told_by now)) (sym some)
          (subst (λ (l : List ScriptRun). AreAllRuns t names steps log (Some block) (map told_by l)) (sym one)
          (run_is t steps 0 names names log log (told_by r) has (prefix_itself names) u.few refl, behind)));
      start = log;
      setup = own;
      turns = [];
      is = sym (append-nil log);
      numbers = λ before after u is. absurd (none_taken before after u is);
      in_order = sym (no_turns order);
      tagged = inl refl;
      asked = u.asked names (prefix_itself names);
      all_by_then = λ before after u is last. absurd (none_taken before after u is);
    }
  where
    mine : (xs before after : List Entry) (e : Entry) → AreOwn 0 xs → xs ≡ before ++ e ∷ after → e.caller.0 ≡ 0
    mine [] [] after e own is = absurd (let none : [] ≡ e ∷ after = is in cc none)
    mine [] (b ∷ before) after e own is = absurd (let none : [] ≡ b ∷ (before ++ e ∷ after) = is in cc none)
    mine (x ∷ xs) [] after e own is = let same : x ≡ e = cc is in subst (λ (y : Entry). y.caller.0 ≡ 0) same own.0
    mine (x ∷ xs) (b ∷ before) after e own is = mine xs before after e own.1 (cc is)

    none_taken : (before after : List Taken) (u : Taken) → [] ≡ before ++ u ∷ after → ⊥
    none_taken [] after u is = cc is
    none_taken (b ∷ before) after u is = cc is

    none_left : (cs : List ℕ) → turns_left (λ c. 0) cs ≡ []
    none_left [] = refl
    none_left (c ∷ cs) = none_left cs

    no_turns : (xs : List ℕ) → turn_order xs (λ c. turns_by c []) (callers_from 1 t.scripts) ≡ []
    no_turns [] = none_left (callers_from 1 t.scripts)
    no_turns (x ∷ xs) = no_turns xs
