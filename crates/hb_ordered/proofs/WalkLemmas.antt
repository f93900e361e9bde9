-- Two histories of one order have the same turns, where the next acts are the same wherever both go on.
use Rattle.std.proofs.Common.{◌≡◌, ◌≢◌, ◌⊎◌, inl, inr, ℕ, zero, suc, Some, length, ◌+◌, ◌-◌, ◌<◌, ◌≤◌, Bool, true, false, List, [], ◌∷◌, ◌++◌}
use Rattle.std.proofs.Common.{map, refl, sym, ap, ◌∙◌, subst, arith, append_assoc, cond, eqb, eq-eqb}
use Rattle.std.specs.Prelude.{if◌then◌else◌}
use Rattle.std.proofs.lemmas.Bool.{eqb-true}
use Rattle.std.proofs.lemmas.Bool.Decides.{eqb_tells}
use mathlib.Core.List.{IsPrefix}
use Rattle.std.proofs.lemmas.List.{append-nil, map-append}
use Rattle.std.proofs.lemmas.Option.{same_Some}
use Rattle.hb_types.specs.declared.ids.NodeId.{NodeId}
use Rattle.hb_types.specs.declared.ids.NameId.{NameId}
use Rattle.hb_tree.specs.Table.{Table}
use Rattle.hb_names.specs.declared.names.TheConstants.{NAMES_MAX}
use Rattle.hb_names.specs.Names.{Differ, IsFull, Name, place}
use Rattle.hb_call.specs.Growth.{asked_after}
use Rattle.hb_eval.specs.declared.stop.Outcome.TheVariants as outcome
use Rattle.hb_eval.specs.declared.stop.Stop.TheVariants as stop
use Rattle.hb_tables.specs.declared.entry.Act.{Act}
use Rattle.hb_tables.specs.declared.entry.Entry.{Entry}
use Rattle.hb_tables.specs.Frames.{acts}
use Rattle.hb_tables.specs.History.{entry}
use Rattle.hb_tables.specs.Plain.{AreOwn}
use Rattle.hb_tables.proofs.FrameLemmas.{acts_append}
use Rattle.hb_eval.specs.Calls.{call_in}
use Rattle.hb_eval.specs.Meaning.{ev}
use Rattle.hb_eval.specs.Runs.{Run, script_run}
use Rattle.hb_eval.specs.State.{tagged}
use Rattle.hb_run.specs.History.{block_of, callers_from}
use Rattle.hb_turns.specs.Playing.{AreNumbered, Taken, acts_by, entries_by, entries_of, turns_by}
use Rattle.hb_turns.specs.Players.{AreAllByThen, AreTagged, IsTagged, less, turn_order, turns_for}
use Rattle.hb_turns.proofs.PlayingLemmas.{acts_by_itself}
use Rattle.hb_turns.proofs.RunLemmas.{own_idle}
use Rattle.hb_ordered.specs.Parting.{FirstLacks, GoOn, Neither, Parted, Parting, SecondLacks}
use Rattle.hb_ordered.specs.Sharing.{AreShared, IsShared, NotFull}
use Rattle.hb_ordered.specs.Turns.{AreAmong, among, HaveSameNext}
use Rattle.hb_ordered.proofs.AnswerLemmas.{all_back}
use Rattle.hb_ordered.proofs.NamesLemmas.{acts_shared, asked_begins, doings, doings_by, doings_join, prefix_never, shared_both, shared_parts}
use Rattle.hb_ordered.proofs.AlongLemmas.{runs_part}
use Rattle.hb_ordered.proofs.NextLemmas.{next_turn}
use Rattle.hb_ordered.proofs.SameTurnLemmas.{FullIn, TagsAre, one_turn, plain}
use Rattle.hb_ordered.proofs.TakenLemmas.{Alike, acts_entries, acts_of, alike_entries, alike_more, alike_plain, alike_turns, before_turn, by_join, entries_join}
use Rattle.hb_ordered.proofs.TakenLemmas.{high_tags, no_acts, number_low, one_of, turns_of}

-- The history is a beginning without scripts and then these turns, which are scripts', and each script's run reads its acts in them.
pub record Turned (t : Table) (steps : ℕ) (names : List Name) (first log : List Entry) (us : List Taken) : Type 0 where
  pub is : log ≡ first ++ entries_of us
  pub own : AreOwn 0 first
  pub numbers : AreNumbered us
  pub tagged : AreTagged t names steps log us (callers_from 1 t.scripts)
  pub mine : AreAmong (callers_from 1 t.scripts) us
  pub asked : names ≡ asked_after names [] (doings log)
  pub differ : Differ names
  pub few : length names ≤ NAMES_MAX
  pub all : AreAllByThen t steps names first log us

-- ── callers ──

pub tagged_at : (t : Table) (names : List Name) (steps : ℕ) (log : List Entry) (us : List Taken) (cs : List ℕ) (c : ℕ) → AreTagged t names steps log us cs → among c cs ≡ true
    → IsTagged t names steps log us c
tagged_at t names steps log us [] c h e = absurd (cc e)
tagged_at t names steps log us (d ∷ ds) c h e = go (eqb c d) refl e (tagged_at t names steps log us ds c h.1)
  where
    go : (b : Bool) → eqb c d ≡ b → (if b then true else among c ds) ≡ true → (among c ds ≡ true → IsTagged t names steps log us c) → IsTagged t names steps log us c
    go true f e more = subst (IsTagged t names steps log us) (sym (eqb-true c d f)) h.0
    go false f e more = more e

among_low : (c d : ℕ) (ss : List (NameId × NodeId)) → among c (callers_from d ss) ≡ true → d ≤ c
among_low c d [] e = absurd (cc e)
among_low c d (s ∷ ss) e = go (eqb c d) refl e (among_low c (suc d) ss)
  where
    go : (b : Bool) → eqb c d ≡ b → (if b then true else among c (callers_from (suc d) ss)) ≡ true → (among c (callers_from (suc d) ss) ≡ true → suc d ≤ c) → d ≤ c
    go true f e more = let same = eqb-true c d f in omega (arith, same)
    go false f e more = let low = more e in omega (arith, low)

pub not_zero : (c : ℕ) (ss : List (NameId × NodeId)) → among c (callers_from 1 ss) ≡ true → 0 ≢ c
not_zero c ss e same = let low = among_low c 1 ss e in omega (arith, low, same)

-- a caller that is none of these takes no turn
pub none_there : (c : ℕ) (cs : List ℕ) (us : List Taken) → among c cs ≡ false → AreAmong cs us → turns_by c us ≡ 0
none_there c cs [] lacks h = refl
none_there c cs (u ∷ us) lacks h = go (eqb c u.caller) refl (none_there c cs us lacks h.1)
  where
    go : (b : Bool) → eqb c u.caller ≡ b → turns_by c us ≡ 0 → cond b 1 0 + turns_by c us ≡ 0
    go true f e = absurd (let same = ap (λ d. among d cs) (eqb-true c u.caller f) in let yes : among u.caller cs ≡ true = h.0 in cc (same, yes, lacks))
    go false f e = omega (arith, e)

pub among_part : (cs : List ℕ) (us vs : List Taken) → AreAmong cs (us ++ vs) → AreAmong cs vs
among_part cs [] vs h = h
among_part cs (u ∷ us) vs h = among_part cs us vs h.1

module _ (t : Table) (steps : ℕ) (names : List Name) (first log : List Entry) (us0 : List Taken) (a : Turned t steps names first log us0) (c : ℕ)
    (real : among c (callers_from 1 t.scripts) ≡ true) where
  pub tags : IsTagged t names steps log us0 c
  tags = tagged_at t names steps log us0 (callers_from 1 t.scripts) c a.tagged real

  -- the caller's acts are those of its turns
  pub journal_is : acts c log ≡ plain (acts_by c us0)
  journal_is = ap (acts c) a.is ∙ acts_append c first (entries_of us0) ∙ ap (λ l. l ++ acts c (entries_of us0)) (own_idle 0 c first (not_zero c t.scripts real) a.own) ∙ acts_entries c us0

-- ── who has turns left ──

-- the last of the turns that a caller took
record LastTurn (c : ℕ) (us : List Taken) : Type 0 where
  pub before : List Taken
  pub turn : Taken
  pub after : List Taken
  pub is : us ≡ before ++ turn ∷ after
  pub mine : turn.caller ≡ c
  pub none : turns_by c after ≡ 0

last_turn : (c : ℕ) (us : List Taken) → 1 ≤ turns_by c us → LastTurn c us
last_turn c [] low = absurd (omega (arith, low))
last_turn c (u ∷ us) low = elim (eqb_tells (turns_by c us) 0) [
  | inl none ↦ here (eqb c u.caller) refl low none.1
  | inr some ↦ (let some_left : 1 ≤ turns_by c us = positive (turns_by c us) some.1 in let l = last_turn c us some_left in
      record { before = u ∷ l.before; turn = l.turn; after = l.after; is = ap (λ k. u ∷ k) l.is; mine = l.mine; none = l.none })
]
  where
    positive : (n : ℕ) → n ≢ 0 → 1 ≤ n
    positive zero not = absurd (not refl)
    positive (suc n) not = omega arith

    here : (b : Bool) → eqb c u.caller ≡ b → 1 ≤ cond b 1 0 + turns_by c us → turns_by c us ≡ 0 → LastTurn c (u ∷ us)
    here true e low none = record { before = []; turn = u; after = us; is = refl; mine = sym (eqb-true c u.caller e); none = none }
    here false e low none = absurd (omega (arith, low, none))

some_turn : (n : ℕ) → 1 ≤ turns_for n
some_turn zero = omega arith
some_turn (suc n) = omega arith

module _ (t : Table) (steps : ℕ) (names others : List Name) (first log log' : List Entry) (us0 ws0 us us' vs ws : List Taken) (a : Turned t steps names first log us0)
    (b : Turned t steps others first log' ws0)
    (eu : us0 ≡ us ++ vs) (ew : ws0 ≡ us' ++ ws) (turns : (c : ℕ) → turns_by c us ≡ turns_by c us') (same : entries_of us ≡ entries_of us')
    (shared : AreShared names others (doings (first ++ entries_of us))) where
  known_acts : (c : ℕ) → AreShared names others (plain (acts_by c us))
  known_acts c = subst (AreShared names others) (acts_entries c us) (acts_shared names others c (entries_of us)
      (shared_parts names others (doings first) (doings (entries_of us)) (subst (AreShared names others) (doings_join first (entries_of us)) shared)).1)

  -- a script that took its turns does not want for a name that the other list has
  wants_none : (c : ℕ) → turns_by c vs ≡ 0 → (x : IsTagged t names steps log us0 c) (id : NodeId) → x.run.outcome ≡ outcome.Stopped stop.Full id → IsPrefix names others
  wants_none c none x id stops =
      let many = x.many in
      let some = some_turn x.run.begun in
      let count : turns_by c us0 ≡ turns_by c us + turns_by c vs = ap (turns_by c) eu ∙ turns_of c us vs in
      let l = last_turn c us (omega (arith, many, some, count, none)) in
      let whole : us0 ≡ l.before ++ l.turn ∷ (l.after ++ vs) = eu ∙ ap (λ k. k ++ vs) l.is ∙ append_assoc l.before (l.turn ∷ l.after) vs in
      let rest : turns_by l.turn.caller (l.after ++ vs) ≡ 0 = ap (λ d. turns_by d (l.after ++ vs)) l.mine ∙ turns_of c l.after vs ∙ (let m = l.none in omega (arith, m, none)) in
      let E : List Entry = first ++ entries_of (l.before ++ l.turn ∷ []) in
      let all : names ≡ asked_after names [] (doings E) = a.all l.before (l.after ++ vs) l.turn whole rest x.block x.run id (ap (block_of t) l.mine ∙ x.runs)
      (ap (λ d. script_run t names (call_in t names 4096) x.block.0 steps (acts d log)) l.mine ∙ x.reads) stops in
      let front : first ++ entries_of us ≡ E ++ entries_of l.after = ap (λ k. first ++ entries_of k) (l.is ∙ sym (append_assoc l.before (l.turn ∷ []) l.after))
      ∙ ap (λ k. first ++ k) (entries_join (l.before ++ l.turn ∷ []) l.after) ∙ sym (append_assoc first (entries_of (l.before ++ l.turn ∷ [])) (entries_of l.after)) in
      let behind : log' ≡ E ++ (entries_of l.after ++ entries_of ws) = b.is ∙ ap (λ k. first ++ entries_of k) ew ∙ ap (λ k. first ++ k) (entries_join us' ws) ∙ sym
      (append_assoc first (entries_of us') (entries_of ws))
      ∙ ap (λ k. (first ++ k) ++ entries_of ws) (sym same) ∙ ap (λ k. k ++ entries_of ws) front ∙ append_assoc E (entries_of l.after) (entries_of ws) in
      let common : AreShared names others (doings E) = (shared_parts names others (doings E) (doings (entries_of l.after))
      (subst (AreShared names others) (ap doings front ∙ doings_join E (entries_of l.after)) shared)).0 in
      asked_begins names others (doings E) [] (doings (entries_of l.after ++ entries_of ws)) common tt (all ∙ ap (asked_after names []) (sym (append-nil (doings E))))
      (b.asked ∙ ap (λ k. asked_after others [] (doings k)) behind ∙ ap (asked_after others []) (doings_join E (entries_of l.after ++ entries_of ws)))

  -- the script's acts end where those of the other history do
  ends_alike : (c : ℕ) → plain (acts_by c us) ≡ plain (acts_by c us') → among c (callers_from 1 t.scripts) ≡ true → turns_by c vs ≡ 0 → turns_by c ws ≡ 0
  ends_alike c acts_are real none = go [] refl (runs_part t names others (plain (acts_by c us)) [] (plain (acts_by c ws)) 4096 x.block.0 steps x.run y.run a.differ b.differ (known_acts c)
      (ap (λ l. script_run t names (call_in t names 4096) x.block.0 steps l) (append-nil (plain (acts_by c us)) ∙ sym mine) ∙ x.reads)
      (ap (λ n. script_run t others (call_in t others 4096) n.0 steps ((plain (acts_by c us)) ++ (plain (acts_by c ws)))) blocks
      ∙ ap (λ l. script_run t others (call_in t others 4096) y.block.0 steps l) (sym others_are) ∙ y.reads))
    where
      x : IsTagged t names steps log us0 c
      x = tagged_at t names steps log us0 (callers_from 1 t.scripts) c a.tagged real

      y : IsTagged t others steps log' ws0 c
      y = tagged_at t others steps log' ws0 (callers_from 1 t.scripts) c b.tagged real

      blocks : x.block ≡ y.block
      blocks = same_Some x.block y.block (sym x.runs ∙ y.runs)

      mine : acts c log ≡ (plain (acts_by c us))
      mine = journal_is t steps names first log us0 a c real ∙ ap (λ l. plain (acts_by c l)) eu ∙ ap plain (acts_of c us vs) ∙ ap (λ l. plain (acts_by c us ++ l)) (no_acts c vs none) ∙ ap plain
          (append-nil (acts_by c us))

      others_are : acts c log' ≡ (plain (acts_by c us)) ++ (plain (acts_by c ws))
      others_are = journal_is t steps others first log' ws0 b c real ∙ ap (λ l. plain (acts_by c l)) ew ∙ ap plain (acts_of c us' ws) ∙ map-append (λ (e : ℕ × Act). e.1) (acts_by c us')
          (acts_by c ws)
          ∙ ap (λ l. l ++ (plain (acts_by c ws))) (sym acts_are)

      counted : x.run ≡ y.run → turns_by c ws ≡ 0
      counted run =
          let begun : turns_by c us0 ≡ turns_by c ws0 = x.many ∙ ap (λ (z : Run). turns_for z.begun) run ∙ sym y.many in
          let one : turns_by c us0 ≡ turns_by c us + turns_by c vs = ap (turns_by c) eu ∙ turns_of c us vs in
          let two : turns_by c ws0 ≡ turns_by c us' + turns_by c ws = ap (turns_by c) ew ∙ turns_of c us' ws in
          let count = turns c in
          omega (arith, begun, one, two, count, none)

      go : (f : List Act) → f ≡ [] → GoOn t names others (plain (acts_by c us)) f (plain (acts_by c ws)) x.run y.run → turns_by c ws ≡ 0
      go f e (Neither h k run) = counted run
      go f e (Parted p) = absurd (let h : [] ≡ p.at.a ∷ p.at.behind_a = sym e ∙ p.at.is_a in cc h)
      go f e (FirstLacks l) = absurd (prefix_never names others (wants_none c none x l.stops.id l.stops.stops) b.few l.name l.key l.full l.has)
      go f e (SecondLacks l) = absurd (let h : [] ≡ l.b ∷ l.behind = sym e ∙ l.is in cc h)

  none_left : ((c : ℕ) → plain (acts_by c us) ≡ plain (acts_by c us')) → (c : ℕ) → turns_by c vs ≡ 0 → turns_by c ws ≡ 0
  none_left acts_are c none = go (among c (callers_from 1 t.scripts)) refl
    where
      go : (r : Bool) → among c (callers_from 1 t.scripts) ≡ r → turns_by c ws ≡ 0
      go true real = ends_alike c (acts_are c) real none
      go false other = none_there c (callers_from 1 t.scripts) ws other (among_part (callers_from 1 t.scripts) us' ws (subst (AreAmong (callers_from 1 t.scripts)) ew b.mine))

-- ── the next turn ──

next_by : (c : ℕ) (u : Taken) (us : List Taken) → u.caller ≡ c → acts_by c (u ∷ us) ≡ tagged u.begun u.acts ++ acts_by c us
next_by c u us e = let same = eq-eqb c u.caller (sym e) in rw same refl

-- the entries of a caller, up to an act and behind it
pub entries_cut : (c : ℕ) (Z rest : List Entry) (early since later : List Act) (x : Act)
    → Z ++ (entries_by c ((early ++ since) ++ x ∷ later) ++ rest) ≡ ((Z ++ entries_by c early) ++ entries_by c since) ++ entry c x ∷ (entries_by c later ++ rest)
entries_cut c Z rest early since later x =
    ap (λ l. Z ++ (l ++ rest)) (by_join c (early ++ since) (x ∷ later) ∙ ap (λ l. l ++ entries_by c (x ∷ later)) (by_join c early since))
    ∙ ap (λ l. Z ++ l) (append_assoc (entries_by c early ++ entries_by c since) (entries_by c (x ∷ later)) rest ∙ append_assoc (entries_by c early) (entries_by c since)
    (entry c x ∷ (entries_by c later ++ rest)))
    ∙ sym (append_assoc Z (entries_by c early) (entries_by c since ++ entry c x ∷ (entries_by c later ++ rest)))
    ∙ sym (append_assoc (Z ++ entries_by c early) (entries_by c since) (entry c x ∷ (entries_by c later ++ rest)))

-- Wherever both histories go on behind the same entries with an act of one caller by which its runs part, the act is the same, where no run gives up for a name that the other list has.
abbrev pub GoOnAlike : Table → (names others : List Name) → (log log' : List Entry) → Type 0
GoOnAlike t names others log log' = (c : ℕ) (before rest rest' : List Entry) (done first second : List Act) (p : Parting t names others done first second) → acts c before ≡ plain p.state.read
    → log ≡ (before ++ entries_by c p.since) ++ entry c p.a ∷ rest → log' ≡ (before ++ entries_by c p.since) ++ entry c p.b ∷ rest'
    → AreShared names others (doings (before ++ entries_by c p.since)) → NotFull names others p.question p.a p.b → NotFull others names p.other p.b p.a → (p.a ≡ p.b) × IsShared names others p.a

-- the turns of a history behind these and one more
at_turn : (first log : List Entry) (us0 us vs : List Taken) (v : Taken) (c : ℕ) (early since later P : List Act) (x : Act) → log ≡ first ++ entries_of us0 → us0 ≡ us ++ v ∷ vs → v.caller ≡ c
    → v.acts ≡ P ++ x ∷ later → P ≡ early ++ since
    → log ≡ (((first ++ entries_of us) ++ entries_by c early) ++ entries_by c since) ++ entry c x ∷ (entries_by c later ++ entries_of vs)
at_turn first log us0 us vs v c early since later P x is eu mine e f =
    is ∙ ap (λ l. first ++ entries_of l) eu ∙ ap (λ l. first ++ l) (entries_join us (v ∷ vs)) ∙ sym (append_assoc first (entries_of us) (entries_by v.caller v.acts ++ entries_of vs))
    ∙ ap (λ d. (first ++ entries_of us) ++ (entries_by d v.acts ++ entries_of vs)) mine
    ∙ ap (λ l. (first ++ entries_of us) ++ (entries_by c l ++ entries_of vs)) (e ∙ ap (λ l. l ++ x ∷ later) f)
    ∙ entries_cut c (first ++ entries_of us) (entries_of vs) early since later x

-- the acts up to a turn, and in it
turn_doings : (first : List Entry) (us vs : List Taken) (v : Taken) (P X : List Act) → v.acts ≡ P ++ X
    → doings (first ++ entries_of (us ++ v ∷ vs)) ≡ (doings (first ++ entries_of us) ++ P) ++ (X ++ doings (entries_of vs))
turn_doings first us vs v P X e =
    ap (λ k. doings (first ++ k)) (entries_join us (v ∷ vs)) ∙ ap doings (sym (append_assoc first (entries_of us) (entries_of (v ∷ vs)))) ∙ doings_join (first ++ entries_of us) (entries_of (v ∷ vs))
    ∙ ap (λ k. doings (first ++ entries_of us) ++ k) (doings_join (entries_by v.caller v.acts) (entries_of vs) ∙ ap (λ k. k ++ doings (entries_of vs)) (doings_by v.caller v.acts ∙ e)
    ∙ append_assoc P X (doings (entries_of vs)))
    ∙ sym (append_assoc (doings (first ++ entries_of us)) P (X ++ doings (entries_of vs)))

turns_low : (k m : ℕ) → k ≤ m + 1 → turns_for k ≤ m + 1
turns_low zero m low = omega arith
turns_low (suc k) m low = low

-- a script that stops in its turn does not want for a name that the other list has
lacks_never : (t : Table) (steps : ℕ) (names others : List Name) (first log log' : List Entry) (us0 ws0 us us' vs ws : List Taken) (v w : Taken) (c : ℕ) → Turned t steps names first log us0
    → Turned t steps others first log' ws0 → us0 ≡ us ++ v ∷ vs → ws0 ≡ us' ++ w ∷ ws → v.caller ≡ c → w.caller ≡ c → turns_by c us ≡ turns_by c us' → entries_of us ≡ entries_of us'
    → AreShared names others (doings (first ++ entries_of us)) → (x : IsTagged t names steps log us0 c) (P X1 Y1 : List Act) (k : ℕ) → (k ≡ v.begun) ⊎ (k ≡ w.begun) → v.acts ≡ P ++ X1
    → w.acts ≡ P ++ Y1
    → AreShared names others P → FullIn x.run k X1 → (p : Name) (key : ℕ) → IsFull names p → place others p ≡ Some key → ⊥
lacks_never t steps names others first log log' us0 ws0 us us' vs ws v w c a b eu ew mv mw count same shared x P X1 Y1 k tag ev ew' sharedP full p key is has =
    prefix_never names others (asked_begins names others (doings (first ++ entries_of us) ++ P) X1 (Y1 ++ doings (entries_of ws))
    (shared_both names others (doings (first ++ entries_of us)) P shared sharedP) full.2
    (all ∙ ap (asked_after names []) (turn_doings first us [] v P X1 ev ∙ ap (λ l. (doings (first ++ entries_of us) ++ P) ++ l) (append-nil X1)))
    (b.asked ∙ ap (λ l. asked_after others [] (doings l)) (b.is ∙ ap (λ l. first ++ entries_of l) ew) ∙ ap (asked_after others []) (turn_doings first us' ws w P Y1 ew'
    ∙ ap (λ l. (doings (first ++ l) ++ P) ++ (Y1 ++ doings (entries_of ws))) (sym same)))) b.few p key is has
  where
    low : k ≤ turns_by c us + 1
    low =
        let mine : v.begun ≤ turns_by c us + 1 = subst (λ d. v.begun ≤ turns_by d us + 1) mv (number_low us vs v (subst AreNumbered eu a.numbers)) in
        let other : w.begun ≤ turns_by c us' + 1 = subst (λ d. w.begun ≤ turns_by d us' + 1) mw (number_low us' ws w (subst AreNumbered ew b.numbers)) in
        elim tag [ inl e ↦ omega (arith, e, mine) | inr e ↦ omega (arith, e, other, count) ]

    last : turns_by c vs ≡ 0
    last =
        let many : turns_by c us0 ≡ turns_for k = x.many ∙ ap turns_for full.1 in
        let whole : turns_by c us0 ≡ turns_by c us + turns_by c (v ∷ vs) = ap (turns_by c) eu ∙ turns_of c us (v ∷ vs) in
        let one : turns_by c (v ∷ vs) ≡ turns_by c vs + 1 = one_of (eqb c v.caller) (turns_by c vs) (eq-eqb c v.caller (sym mv)) in
        let few = turns_low k (turns_by c us) low in
        omega (arith, many, whole, one, few)

    all : names ≡ asked_after names [] (doings (first ++ entries_of (us ++ v ∷ [])))
    all = a.all us vs v eu (ap (λ d. turns_by d vs) mv ∙ last) x.block x.run full.0.0 (ap (block_of t) mv ∙ x.runs)
        (ap (λ d. script_run t names (call_in t names 4096) x.block.0 steps (acts d log)) mv ∙ x.reads) full.0.1

module _ (t : Table) (steps : ℕ) (names others : List Name) (first log log' : List Entry) (us0 ws0 : List Taken) (a : Turned t steps names first log us0) (b : Turned t steps others first log' ws0)
    (alike : GoOnAlike t names others log log') where
  -- the next turns of one caller have the same acts
  same_turn : (us us' vs ws : List Taken) (v w : Taken) (c : ℕ) → among c (callers_from 1 t.scripts) ≡ true → us0 ≡ us ++ v ∷ vs → ws0 ≡ us' ++ w ∷ ws → Alike us us' → AreShared names others
      (doings (first ++ entries_of us)) → v.caller ≡ c → w.caller ≡ c
      → (v.acts ≡ w.acts) × AreShared names others v.acts
  same_turn us us' vs ws v w c real eu ew so_far shared mv mw =
      one_turn t names others a.differ b.differ x.block.0 steps x.run y.run
      (ap (λ l. script_run t names (call_in t names 4096) x.block.0 steps l) (ap plain x.acts ∙ sym (journal_is t steps names first log us0 a c real)) ∙ x.reads)
      (ap (λ l. script_run t others (call_in t others 4096) x.block.0 steps l) (ap plain y.acts ∙ sym (journal_is t steps others first log' ws0 b c real))
      ∙ ap (λ (n : NodeId). script_run t others (call_in t others 4096) n.0 steps (acts c log')) blocks ∙ y.reads)
      (acts_by c us) (acts_by c us') (acts_by c vs) (acts_by c ws) v.begun w.begun (alike_plain c us us' so_far) low high over
      (known_acts t steps names others first log log' us0 ws0 us us' (v ∷ vs) (w ∷ ws) a b eu ew (λ d. alike_turns d us us' so_far) (alike_entries us us' so_far) shared c) v.acts w.acts next
      (lacks_never t steps names others first log log' us0 ws0 us us' vs ws v w c a b eu ew mv mw count (alike_entries us us' so_far) shared x)
      no_second
      (x.acts ∙ ap (acts_by c) eu ∙ acts_of c us (v ∷ vs) ∙ ap (λ l. acts_by c us ++ l) (next_by c v vs mv))
      (y.acts ∙ ap (acts_by c) ew ∙ acts_of c us' (w ∷ ws) ∙ ap (λ l. acts_by c us' ++ l) (next_by c w ws mw))
    where
      x : IsTagged t names steps log us0 c
      x = tagged_at t names steps log us0 (callers_from 1 t.scripts) c a.tagged real

      y : IsTagged t others steps log' ws0 c
      y = tagged_at t others steps log' ws0 (callers_from 1 t.scripts) c b.tagged real

      blocks : x.block ≡ y.block
      blocks = same_Some x.block y.block (sym x.runs ∙ y.runs)

      count : turns_by c us ≡ turns_by c us'
      count = alike_turns c us us' so_far

      numbers : AreNumbered (us ++ v ∷ vs)
      numbers = subst AreNumbered eu a.numbers

      numbers' : AreNumbered (us' ++ w ∷ ws)
      numbers' = subst AreNumbered ew b.numbers

      low : TagsAre (λ i. i < v.begun) (acts_by c us)
      low = subst (λ d. TagsAre (λ i. i < v.begun) (acts_by d us)) mv (before_turn us vs v numbers)

      -- one turn more
      taken : (l : List Taken) (u : Taken) → u.caller ≡ c → turns_by c (l ++ u ∷ []) ≡ turns_by c l + 1
      taken l u e = let both = turns_of c l (u ∷ []) in let one = one_of (eqb c u.caller) 0 (eq-eqb c u.caller (sym e)) in omega (arith, both, one)

      tags_weaker : (k m : ℕ) → m ≤ k → (l : List (ℕ × Act)) → TagsAre (λ i. k < i) l → TagsAre (λ i. m < i) l
      tags_weaker k m le [] h = tt
      tags_weaker k m le (z ∷ l) h = (let one = h.0 in omega (arith, le, one), tags_weaker k m le l h.1)

      high : TagsAre (λ i. w.begun < i) (acts_by c vs)
      high =
          let number : w.begun ≤ turns_by c us' + 1 = subst (λ d. w.begun ≤ turns_by d us' + 1) mw (number_low us' ws w numbers') in
          let more = taken us v mv in
          tags_weaker (turns_by c us + 1) w.begun (omega (arith, number, count)) (acts_by c vs)
          (high_tags (us ++ v ∷ vs) numbers c (turns_by c us + 1) (omega arith) (us ++ v ∷ []) vs (sym (append_assoc us (v ∷ []) vs)) (omega (arith, more)))

      over : TagsAre (λ i. v.begun < i) (acts_by c ws)
      over =
          let number : v.begun ≤ turns_by c us + 1 = subst (λ d. v.begun ≤ turns_by d us + 1) mv (number_low us vs v numbers) in
          let more = taken us' w mw in
          tags_weaker (turns_by c us' + 1) v.begun (omega (arith, number, count)) (acts_by c ws)
          (high_tags (us' ++ w ∷ ws) numbers' c (turns_by c us' + 1) (omega arith) (us' ++ w ∷ []) ws (sym (append_assoc us' (w ∷ []) ws)) (omega (arith, more)))

      no_second : (P X1 Y1 : List Act) (k : ℕ) → (k ≡ v.begun) ⊎ (k ≡ w.begun) → v.acts ≡ P ++ X1 → w.acts ≡ P ++ Y1 → AreShared names others P → FullIn y.run k Y1 → (p : Name) (key : ℕ)
          → IsFull others p
          → place names p ≡ Some key → ⊥
      no_second P X1 Y1 k tag ev ew' sharedP full p key is has =
          lacks_never t steps others names first log' log ws0 us0 us' us ws vs w v c b a ew eu mw mv (sym count) (sym (alike_entries us us' so_far))
          (subst (λ l. AreShared others names (doings (first ++ l))) (alike_entries us us' so_far) (all_back names others (doings (first ++ entries_of us)) shared)) y P Y1 X1 k
          (elim tag [ inl e ↦ inr e | inr e ↦ inl e ]) ew' ev (all_back names others P sharedP) full p key is has

      next : (P X1 Y1 early : List Act) (done first' second : List Act) (p : Parting t names others done first' second) → v.acts ≡ P ++ p.a ∷ X1 → w.acts ≡ P ++ p.b ∷ Y1 → P ≡ early ++ p.since
          → plain p.state.read ≡ plain (acts_by c us) ++ early → AreShared names others P → NotFull names others p.question p.a p.b → NotFull others names p.other p.b p.a → (p.a ≡ p.b)
          × IsShared names others p.a
      next P X1 Y1 early done first' second p ev ew' eP read sharedP stays stays' =
          let Z : List Entry = first ++ entries_of us in
          let here : acts c (Z ++ entries_by c early) ≡ plain p.state.read =
          acts_append c Z (entries_by c early) ∙ ap (λ l. acts c Z ++ l) (acts_by_itself c early)
          ∙ ap (λ l. l ++ early) (acts_append c first (entries_of us) ∙ ap (λ l. l ++ acts c (entries_of us)) (own_idle 0 c first (not_zero c t.scripts real) a.own) ∙ acts_entries c us) ∙ sym read in
          alike c (Z ++ entries_by c early) (entries_by c X1 ++ entries_of vs) (entries_by c Y1 ++ entries_of ws) done first' second p here
          (at_turn first log us0 us vs v c early p.since X1 P p.a a.is eu mv ev eP)
          (at_turn first log' ws0 us' ws w c early p.since Y1 P p.b b.is ew mw ew' eP
          ∙ ap (λ l. (((first ++ l) ++ entries_by c early) ++ entries_by c p.since) ++ entry c p.b ∷ (entries_by c Y1 ++ entries_of ws)) (sym (alike_entries us us' so_far)))
          (subst (AreShared names others) (sym (doings_join (Z ++ entries_by c early) (entries_by c p.since) ∙ ap (λ l. l ++ doings (entries_by c p.since))
          (doings_join Z (entries_by c early) ∙ ap (λ l. doings Z ++ l) (doings_by c early))
          ∙ ap (λ l. (doings Z ++ early) ++ l) (doings_by c p.since) ∙ append_assoc (doings Z) early p.since ∙ ap (λ l. doings Z ++ l) (sym eP)))
          (shared_both names others (doings Z) P shared sharedP)) stays stays'

  -- what is left behind the next turn
  left_behind : (rest : List ℕ) (v : Taken) (vs : List Taken) (c : ℕ) → v.caller ≡ c → map (λ (u : Taken). u.caller) (v ∷ vs) ≡ c ∷ turn_order rest (less c (λ d. turns_by d (v ∷ vs)))
      (callers_from 1 t.scripts)
      → map (λ (u : Taken). u.caller) vs ≡ turn_order rest (λ d. turns_by d vs) (callers_from 1 t.scripts)
  left_behind rest v vs c mine e =
      let tail : map (λ (u : Taken). u.caller) vs ≡ turn_order rest (less c (λ d. turns_by d (v ∷ vs))) (callers_from 1 t.scripts) = cc e in
      tail ∙ ap (λ f. turn_order rest f (callers_from 1 t.scripts)) (λ i. λ d. less_is d i)
    where
      less_is : (d : ℕ) → less c (λ d. turns_by d (v ∷ vs)) d ≡ turns_by d vs
      less_is d = ap (λ z. if eqb d c then (cond (eqb d z) 1 0 + turns_by d vs) - 1 else (cond (eqb d z) 1 0 + turns_by d vs)) mine ∙ go (eqb d c)
        where
          go : (b : Bool) → (if b then (cond b 1 0 + turns_by d vs) - 1 else (cond b 1 0 + turns_by d vs)) ≡ turns_by d vs
          go true = omega arith
          go false = omega arith

  -- the callers of these turns, by what is left of the order
  abbrev pub IsRest : List ℕ → List Taken → Type 0
  IsRest rest vs = map (λ (u : Taken). u.caller) vs ≡ turn_order rest (λ d. turns_by d vs) (callers_from 1 t.scripts)

  nexts : (us us' vs ws : List Taken) (rest : List ℕ) → us0 ≡ us ++ vs → ws0 ≡ us' ++ ws → Alike us us' → AreShared names others (doings (first ++ entries_of us))
      → HaveSameNext rest (λ d. turns_by d vs) (λ d. turns_by d ws) (callers_from 1 t.scripts)
  nexts us us' vs ws rest eu ew so_far shared = next_turn rest (λ d. turns_by d vs) (λ d. turns_by d ws) t.scripts (λ d. (
    none_left t steps names others first log log' us0 ws0 us us' vs ws a b eu ew (λ c. alike_turns c us us' so_far) (alike_entries us us' so_far) shared (λ c. alike_plain c us us' so_far) d,
    none_left t steps others names first log' log ws0 us0 us' us ws vs b a ew eu (λ c. sym (alike_turns c us us' so_far)) (sym (alike_entries us us' so_far))
        (subst (λ l. AreShared others names (doings (first ++ l))) (alike_entries us us' so_far) (all_back names others (doings (first ++ entries_of us)) shared))
        (λ c. sym (alike_plain c us us' so_far)) d,
  ))

  not_empty : (rest : List ℕ) (v : Taken) (vs : List Taken) → IsRest rest (v ∷ vs) → turn_order rest (λ d. turns_by d (v ∷ vs)) (callers_from 1 t.scripts) ≡ [] → ⊥
  not_empty rest v vs o none = let e : v.caller ∷ map (λ (u : Taken). u.caller) vs ≡ [] = o ∙ none in cc e

  is_empty : (rest more : List ℕ) (c : ℕ) → IsRest rest [] → turn_order rest (λ d. 0) (callers_from 1 t.scripts) ≡ c ∷ more → ⊥
  is_empty rest more c o n = let e : [] ≡ c ∷ more = o ∙ n in cc e

  walk : (us us' vs ws : List Taken) (rest : List ℕ) → us0 ≡ us ++ vs → ws0 ≡ us' ++ ws → Alike us us' → AreShared names others (doings (first ++ entries_of us)) → IsRest rest vs → IsRest rest ws
      → Alike vs ws × AreShared names others (doings (entries_of vs))
  walk us us' [] [] rest eu ew so_far shared ov ow = (tt, tt)
  walk us us' [] (w ∷ ws) rest eu ew so_far shared ov ow = elim (nexts us us' [] (w ∷ ws) rest eu ew so_far shared) [
    | inl none ↦ absurd (not_empty rest w ws ow none.1)
    | inr n ↦ absurd (is_empty rest (turn_order n.1 (less n.0 (λ d. 0)) (callers_from 1 t.scripts)) n.0 ov n.2)
  ]
  walk us us' (v ∷ vs) [] rest eu ew so_far shared ov ow = elim (nexts us us' (v ∷ vs) [] rest eu ew so_far shared) [
    | inl none ↦ absurd (not_empty rest v vs ov none.0)
    | inr n ↦ absurd (is_empty rest (turn_order n.1 (less n.0 (λ d. 0)) (callers_from 1 t.scripts)) n.0 ow n.3)
  ]
  walk us us' (v ∷ vs) (w ∷ ws) rest eu ew so_far shared ov ow = elim (nexts us us' (v ∷ vs) (w ∷ ws) rest eu ew so_far shared) [
    | inl none ↦ absurd (not_empty rest v vs ov none.0)
    | inr n ↦ (
        let one : v.caller ∷ map (λ (u : Taken). u.caller) vs ≡ n.0 ∷ turn_order n.1 (less n.0 (λ d. turns_by d (v ∷ vs))) (callers_from 1 t.scripts) = ov ∙ n.2 in
        let two : w.caller ∷ map (λ (u : Taken). u.caller) ws ≡ n.0 ∷ turn_order n.1 (less n.0 (λ d. turns_by d (w ∷ ws))) (callers_from 1 t.scripts) = ow ∙ n.3 in
        let mv : v.caller ≡ n.0 = cc one in
        let mw : w.caller ≡ n.0 = cc two in
        let real : among n.0 (callers_from 1 t.scripts) ≡ true = subst (λ d. among d (callers_from 1 t.scripts) ≡ true) mv
        (among_part (callers_from 1 t.scripts) us (v ∷ vs) (subst (AreAmong (callers_from 1 t.scripts)) eu a.mine)).0 in
        let same = same_turn us us' vs ws v w n.0 real eu ew so_far shared mv mw in
        let onward : AreShared names others (doings (first ++ entries_of (us ++ v ∷ []))) = subst (AreShared names others)
        (sym (turn_doings first us [] v v.acts [] (sym (append-nil v.acts)) ∙ append-nil (doings (first ++ entries_of us) ++ v.acts)))
        (shared_both names others (doings (first ++ entries_of us)) v.acts shared same.1) in
        let more = walk (us ++ v ∷ []) (us' ++ w ∷ []) vs ws n.1 (eu ∙ sym (append_assoc us (v ∷ []) vs)) (ew ∙ sym (append_assoc us' (w ∷ []) ws))
        (alike_more us us' v w so_far (mv ∙ sym mw) same.0) onward
        (left_behind n.1 v vs n.0 mv one) (left_behind n.1 w ws n.0 mw two) in (
          (mv ∙ sym mw, same.0, more.0),
          subst (AreShared names others) (sym (doings_join (entries_by v.caller v.acts) (entries_of vs) ∙ ap (λ l. l ++ doings (entries_of vs)) (doings_by v.caller v.acts)))
              (shared_both names others v.acts (doings (entries_of vs)) same.1 more.1),
        ))
  ]

  -- all turns of two histories of one order are alike
  all_alike : (order : List ℕ) → AreShared names others (doings first) → IsRest order us0 → IsRest order ws0 → Alike us0 ws0 × AreShared names others (doings (entries_of us0))
  all_alike order shared ov ow = walk [] [] us0 ws0 order refl refl tt (subst (λ l. AreShared names others (doings l)) (sym (append-nil first)) shared) ov ow

  pub one_log : (order : List ℕ) → AreShared names others (doings first) → IsRest order us0 → IsRest order ws0 → (log ≡ log') × AreShared names others (doings log)
  one_log order shared ov ow =
      let r = all_alike order shared ov ow in (
        a.is ∙ ap (λ l. first ++ l) (alike_entries us0 ws0 r.0) ∙ sym b.is,
        subst (AreShared names others) (sym (ap doings a.is ∙ doings_join first (entries_of us0))) (shared_both names others (doings first) (doings (entries_of us0)) shared r.1),
      )
