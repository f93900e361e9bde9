-- An order has one history.
use Rattle.std.proofs.Common.{◌≡◌, ◌⊎◌, inl, inr, ℕ, ◌≤◌, Bool, true, false, List, [], ◌∷◌, ◌++◌, length, map, Option, Some, None, refl, sym, ap, ◌∙◌, subst, append_assoc, eqb, eq-eqb}
use mathlib.Core.List.{IsPrefix}
use Rattle.std.specs.Prelude.{IsSome, is_some, if◌then◌else◌}
use Rattle.std.proofs.lemmas.Bool.{eqb-true}
use Rattle.std.proofs.lemmas.List.{append-nil, map-append}
use Rattle.std.proofs.lemmas.Option.{same_Some}
use Rattle.hb_types.specs.declared.ids.NodeId.{NodeId}
use Rattle.hb_tree.specs.Table.{Table}
use Rattle.hb_names.specs.declared.names.TheConstants.{NAMES_MAX}
use Rattle.hb_names.specs.Names.{Differ, Name}
use Rattle.hb_call.specs.Growth.{asked_after}
use Rattle.hb_eval.specs.declared.stop.Outcome.TheVariants as outcome
use Rattle.hb_eval.specs.declared.stop.Stop.TheVariants as stop
use Rattle.hb_eval.specs.State.{tagged}
use Rattle.hb_eval.proofs.TurnLemmas.{tagged_append}
use Rattle.hb_tables.specs.declared.entry.Act.{Act}
use Rattle.hb_tables.specs.declared.entry.Entry.{Entry}
use Rattle.hb_tables.specs.Frames.{acts}
use Rattle.hb_tables.specs.History.{Every, entry, key_of}
use Rattle.hb_tables.specs.Plain.{AreOwn}
use Rattle.hb_tables.proofs.FrameLemmas.{acts_append}
use Rattle.hb_tables.proofs.HistoryLemmas.{legal_prefix}
use Rattle.hb_eval.specs.Calls.{call_in}
use Rattle.hb_eval.specs.Runs.{Run, script_run}
use Rattle.hb_eval.specs.Told.{Told, is_done, told}
use Rattle.hb_run.specs.History.{AreAllRuns, AreRuns, HasCaller, IsHistory, IsRunOf, RunBehind, block_of, callers_from}
use Rattle.hb_ordered.specs.Asking.{IsAnswer}
use Rattle.hb_ordered.specs.Parting.{FirstLacks, GoOn, Lacks, Neither, Part, Parted, SecondLacks}
use Rattle.hb_ordered.specs.Sharing.{AreShared, IsShared, Meet, NotFull}
use Rattle.hb_ordered.specs.Turns.{AreAmong, among}
use Rattle.hb_turns.specs.Playing.{AreNumbered, Taken, entries_by, entries_of, turns_by}
use Rattle.hb_turns.specs.Players.{AreAllByThen, AreTagged, IsOrdered, turn_order}
use Rattle.hb_turns.proofs.PlayingLemmas.{acts_by_itself}
use Rattle.hb_turns.proofs.RunLemmas.{own_idle}
use Rattle.hb_ordered.proofs.AlongLemmas.{runs_part, untagged}
use Rattle.hb_ordered.proofs.AnswerLemmas.{all_back}
use Rattle.hb_ordered.proofs.NamesLemmas.{asked_begins, asked_same, doings, doings_by, doings_join, meets_at, prefix_never, shared_both}
use Rattle.hb_ordered.proofs.ThenLemmas.{then_only}
use Rattle.hb_ordered.proofs.OpenLemmas.{next_one}
use Rattle.hb_ordered.proofs.SameTurnLemmas.{plain}
use Rattle.hb_ordered.proofs.RealLemmas.{numbers_only, only, only_among, order_only, tagged_only}
use Rattle.hb_ordered.proofs.FirstLemmas.{first_of}
use Rattle.hb_ordered.proofs.WalkLemmas.{GoOnAlike, Turned, entries_cut, not_zero, one_log}

-- ── two histories of one list of names ──

pub go_on_alike : (t : Table) (limit steps : ℕ) (names others : List Name) (log log' : List Entry) (runs runs' : List Told) → IsHistory t limit steps names log runs
    → IsHistory t limit steps others log' runs' → names ≡ asked_after names [] (doings log) → others ≡ asked_after others [] (doings log') → GoOnAlike t names others log log'
go_on_alike t limit steps names others log log' runs runs' h k asked asked' c before rest rest' done first second p read e f shared stays stays' =
    let here : List Entry = before ++ entries_by c p.since in
    let one : IsAnswer t limit names c here p.question p.a = record
    { answers = p.answer_a; few = h.few; fits = h.legal here rest (entry c p.a) e; rules = h.rules here rest (entry c p.a) e; way = h.ways here rest (entry c p.a) e } in
    let two : IsAnswer t limit others c here p.other p.b = record
    { answers = p.answer_b; few = k.few; fits = k.legal here rest' (entry c p.b) f; rules = k.rules here rest' (entry c p.b) f; way = k.ways here rest' (entry c p.b) f } in
    let meet : Meet names others p.a p.b = meets_at names others (doings here) (doings rest) (doings rest') p.a p.b shared
    (asked ∙ ap (λ l. asked_after names [] (doings l)) e ∙ ap (asked_after names []) (doings_join here (entry c p.a ∷ rest)))
    (asked' ∙ ap (λ l. asked_after others [] (doings l)) f ∙ ap (asked_after others []) (doings_join here (entry c p.b ∷ rest'))) in
    next_one t limit names others c before done first second p h.differ k.differ shared (legal_prefix limit here log (entry c p.a ∷ rest, sym e) h.legal) read meet stays stays' one two

-- ── the runs ──

one_run : (t : Table) (names : List Name) (steps : ℕ) (log : List Entry) (c : ℕ) (r s : Told) → IsRunOf t names steps log c r → IsRunOf t names steps log c s → r ≡ s
one_run t names steps log c r s x y =
    let blocks : x.block ≡ y.block = same_Some x.block y.block (sym x.runs ∙ y.runs) in
    let runs : x.run ≡ y.run = same_Some x.run y.run (sym x.reads ∙ ap (λ (n : NodeId). script_run t names (call_in t names 4096) n.0 steps (acts c log)) blocks ∙ y.reads) in
    x.tells ∙ ap (told c) runs ∙ sym y.tells

runs_one : (t : Table) (names : List Name) (steps : ℕ) (log : List Entry) (cs : List ℕ) (rs ss : List Told) → AreRuns t names steps log cs rs → AreRuns t names steps log cs ss → rs ≡ ss
runs_one t names steps log [] [] [] h k = refl
runs_one t names steps log [] [] (s ∷ ss) h k = absurd k
runs_one t names steps log [] (r ∷ rs) ss h k = absurd h
runs_one t names steps log (c ∷ cs) [] ss h k = absurd h
runs_one t names steps log (c ∷ cs) (r ∷ rs) [] h k = absurd k
runs_one t names steps log (c ∷ cs) (r ∷ rs) (s ∷ ss) h k = ap (λ x. x ∷ rs) (one_run t names steps log c r s h.0 k.0) ∙ ap (λ l. s ∷ l) (runs_one t names steps log cs rs ss h.1 k.1)

behind_one : (t : Table) (names : List Name) (steps : ℕ) (log : List Entry) (d : Bool) (rs ss : List Told) → RunBehind t names steps log d rs → RunBehind t names steps log d ss → rs ≡ ss
behind_one t names steps log true rs ss h k = runs_one t names steps log (callers_from 1 t.scripts) rs ss h k
behind_one t names steps log false rs ss h k = h.0 ∙ sym k.0

-- one history of one list of names has one list of runs
pub all_one : (t : Table) (names : List Name) (steps : ℕ) (log : List Entry) (o : Option NodeId) (rs ss : List Told) → AreAllRuns t names steps log o rs → AreAllRuns t names steps log o ss → rs ≡ ss
all_one t names steps log None rs ss h k = runs_one t names steps log (callers_from 1 t.scripts) rs ss h k
all_one t names steps log (Some b) [] ss h k = absurd h
all_one t names steps log (Some b) (r ∷ rs) [] h k = absurd k
all_one t names steps log (Some b) (r ∷ rs) (s ∷ ss) h k =
    let same = one_run t names steps log 0 r s h.0 k.0 in
    let rest = behind_one t names steps log (is_done s.outcome) rs ss (subst (λ (x : Told). RunBehind t names steps log (is_done x.outcome) rs) same h.1) k.1 in
    ap (λ x. x ∷ rs) same ∙ ap (λ l. s ∷ l) rest

-- ── the setup ──

-- where one run of the setup stops with Full, its history has no other entries
abbrev IsAlone : List Entry → Run → Type 0
IsAlone log r = (id : NodeId) → r.outcome ≡ outcome.Stopped stop.Full id → log ≡ entries_by 0 (acts 0 log)

setup_never : (names others : List Name) (log log' rest : List Entry) (r : Run) (P X Y : List Act) → log' ≡ entries_by 0 (acts 0 log') ++ rest → names ≡ asked_after names [] (doings log)
    → others ≡ asked_after others [] (doings log') → length others ≤ NAMES_MAX → IsAlone log r → acts 0 log ≡ P ++ X → acts 0 log' ≡ P ++ Y → AreShared names others P → (w : Run)
    → Lacks names others P X Y r w → ⊥
setup_never names others log log' rest r P X Y is asked asked' few alone e f shared w l =
    prefix_never names others (asked_begins names others P X (Y ++ doings rest) shared l.stops.frees
    (asked ∙ ap (λ k. asked_after names [] (doings k)) (alone l.stops.id l.stops.stops) ∙ ap (asked_after names []) (doings_by 0 (acts 0 log) ∙ e))
    (asked' ∙ ap (λ k. asked_after others [] (doings k)) is ∙ ap (asked_after others []) (doings_join (entries_by 0 (acts 0 log')) rest
    ∙ ap (λ k. k ++ doings rest) (doings_by 0 (acts 0 log') ∙ f) ∙ append_assoc P Y (doings rest)))) few l.name l.key l.full l.has

module _ (t : Table) (steps : ℕ) (names others : List Name) (differ : Differ names) (differ' : Differ others) (few : length names ≤ NAMES_MAX) (few' : length others ≤ NAMES_MAX)
    (log log' rest rest' : List Entry)
    (is : log ≡ entries_by 0 (acts 0 log) ++ rest) (is' : log' ≡ entries_by 0 (acts 0 log') ++ rest')
    (asked : names ≡ asked_after names [] (doings log)) (asked' : others ≡ asked_after others [] (doings log')) (alike : GoOnAlike t names others log log') (block : ℕ) (r w : Run)
    (alone : IsAlone log r) (alone' : IsAlone log' w)
    (reads : script_run t names (call_in t names 4096) block steps (acts 0 log) ≡ Some r) (reads' : script_run t others (call_in t others 4096) block steps (acts 0 log') ≡ Some w) where
  parts_at : (P X Y : List Act) → acts 0 log ≡ P ++ X → acts 0 log' ≡ P ++ Y → AreShared names others P → ((X ≡ []) × (Y ≡ [])) ⊎ Part t names others P X Y r w
  parts_at P X Y e f shared = go (runs_part t names others P X Y 4096 block steps r w differ differ' shared
      (ap (λ l. script_run t names (call_in t names 4096) block steps l) (sym e) ∙ reads) (ap (λ l. script_run t others (call_in t others 4096) block steps l) (sym f) ∙ reads'))
    where
      go : GoOn t names others P X Y r w → ((X ≡ []) × (Y ≡ [])) ⊎ Part t names others P X Y r w
      go (Neither x y same) = inl (x, y)
      go (Parted p) = inr p
      go (FirstLacks l) = absurd (setup_never names others log log' rest' r P X Y is' asked asked' few' alone e f shared w l)
      go (SecondLacks l) = absurd (setup_never others names log' log rest w P Y X is asked' asked few alone' f e (all_back names others P shared) r l)

  at_place : (all others : List Entry) (early since later : List Act) (a : Act) (P X : List Act) → all ≡ entries_by 0 (acts 0 all) ++ others → acts 0 all ≡ P ++ X → early ++ since ≡ P → X ≡ a ∷ later
      → all ≡ (entries_by 0 early ++ entries_by 0 since) ++ entry 0 a ∷ (entries_by 0 later ++ others)
  at_place all others early since later a P X is e f g = is ∙ ap (λ l. entries_by 0 l ++ others) (e ∙ ap (λ l. l ++ X) (sym f) ∙ ap (λ l. (early ++ since) ++ l) g)
      ∙ entries_cut 0 [] others early since later a

  same_head : (P X Y : List Act) → acts 0 log ≡ P ++ X → acts 0 log' ≡ P ++ Y → AreShared names others P → (part : Part t names others P X Y r w) → (part.at.a ≡ part.at.b)
      × IsShared names others part.at.a
  same_head P X Y e f shared part =
      let p = part.at in
      let early = plain p.state.read in
      let one = at_place log rest early p.since p.behind_a p.a P X is e p.read p.is_a in
      let two = at_place log' rest' early p.since p.behind_b p.b P Y is' f p.read p.is_b in
      let here : AreShared names others (doings (entries_by 0 early ++ entries_by 0 p.since)) = subst (AreShared names others)
      (sym (doings_join (entries_by 0 early) (entries_by 0 p.since) ∙ ap (λ l. l ++ doings (entries_by 0 p.since)) (doings_by 0 early) ∙ ap (λ l. early ++ l) (doings_by 0 p.since)
      ∙ p.read)) shared in
      let stays : NotFull names others p.question p.a p.b = λ own q full has. setup_never names others log log' rest' r P X Y is' asked asked' few' alone e f shared w (record {
        begun = p.state.begun;
        read = p.state.read ++ tagged p.state.begun p.since;
        read_is = map-append (λ (e : ℕ × Act). e.1) p.state.read (tagged p.state.begun p.since) ∙ ap (λ l. plain p.state.read ++ l) (untagged p.state.begun p.since) ∙ p.read;
        name = q;
        full = full;
        key = key_of p.b;
        has = has;
        b = p.b;
        behind = p.behind_b;
        is = p.is_b;
        goes_on = subst (λ l. IsPrefix l w.acts) (ap (λ l. p.state.read ++ l) (tagged_append p.state.begun p.since (p.b ∷ [])) ∙ sym
            (append_assoc p.state.read (tagged p.state.begun p.since) ((p.state.begun, p.b) ∷ []))) part.second_read;
        stops = part.first_stops own;
      }) in
      let stays' : NotFull others names p.other p.b p.a = λ own q full has. setup_never others names log' log rest w P Y X is asked' asked few alone' f e (all_back names others P shared) r (record {
        begun = p.state.begun;
        read = p.state.read ++ tagged p.state.begun p.since;
        read_is = map-append (λ (e : ℕ × Act). e.1) p.state.read (tagged p.state.begun p.since) ∙ ap (λ l. plain p.state.read ++ l) (untagged p.state.begun p.since) ∙ p.read;
        name = q;
        full = full;
        key = key_of p.a;
        has = has;
        b = p.a;
        behind = p.behind_a;
        is = p.is_a;
        goes_on = subst (λ l. IsPrefix l r.acts) (ap (λ l. p.state.read ++ l) (tagged_append p.state.begun p.since (p.a ∷ [])) ∙ sym
            (append_assoc p.state.read (tagged p.state.begun p.since) ((p.state.begun, p.a) ∷ []))) part.first_read;
        stops = part.second_stops own;
      }) in
      alike 0 (entries_by 0 early) (entries_by 0 p.behind_a ++ rest) (entries_by 0 p.behind_b ++ rest') P X Y p (acts_by_itself 0 early) one two here stays stays'

  same_behind : (P X Y : List Act) → acts 0 log ≡ P ++ X → acts 0 log' ≡ P ++ Y → AreShared names others P → (X ≡ Y) × AreShared names others X
  same_behind P [] [] e f shared = (refl, tt)
  same_behind P [] (y ∷ Y) e f shared = absurd (elim (parts_at P [] (y ∷ Y) e f shared) [ inl none ↦ cc none.1 | inr part ↦ (let h : [] ≡ part.at.a ∷ part.at.behind_a = part.at.is_a in cc h) ])
  same_behind P (x ∷ X) [] e f shared = absurd (elim (parts_at P (x ∷ X) [] e f shared) [ inl none ↦ cc none.0 | inr part ↦ (let h : [] ≡ part.at.b ∷ part.at.behind_b = part.at.is_b in cc h) ])
  same_behind P (x ∷ X) (y ∷ Y) e f shared =
      let one : (x ≡ y) × IsShared names others x = elim (parts_at P (x ∷ X) (y ∷ Y) e f shared) as (λ z. (x ≡ y) × IsShared names others x) [
        | inl none ↦ absurd (let h : x ∷ X ≡ [] = none.0 in cc h)
        | inr part ↦ (let same = same_head P (x ∷ X) (y ∷ Y) e f shared part in let i : x ≡ part.at.a = (let h : x ∷ X ≡ part.at.a ∷ part.at.behind_a = part.at.is_a in cc h) in
            let j : y ≡ part.at.b = (let h : y ∷ Y ≡ part.at.b ∷ part.at.behind_b = part.at.is_b in cc h) in (i ∙ same.0 ∙ sym j, subst (IsShared names others) (sym i) same.1))
      ] in
      let more = same_behind (P ++ x ∷ []) X Y (e ∙ sym (append_assoc P (x ∷ []) X)) (f ∙ ap (λ z. P ++ z ∷ Y) (sym one.0) ∙ sym (append_assoc P (x ∷ []) Y))
      (shared_both names others P (x ∷ []) shared (one.1, tt)) in
      (ap (λ z. z ∷ X) one.0 ∙ ap (λ l. y ∷ l) more.0, (one.1, more.1))

  -- the setup does the same
  pub setup_one : (acts 0 log ≡ acts 0 log') × AreShared names others (acts 0 log)
  setup_one = same_behind [] (acts 0 log) (acts 0 log') refl refl tt

-- ── the turns of scripts ──

own_by : (l : List Act) → AreOwn 0 (entries_by 0 l)
own_by [] = tt
own_by (a ∷ l) = (refl, own_by l)

-- The history is the setup's entries and then these turns, which are scripts', by the order.
record Scripted (t : Table) (steps : ℕ) (order : List ℕ) (names : List Name) (log : List Entry) : Type 0 where
  pub turns : List Taken
  pub is : log ≡ entries_by 0 (acts 0 log) ++ entries_of turns
  pub numbers : AreNumbered turns
  pub in_order : map (λ (u : Taken). u.caller) turns ≡ turn_order order (λ d. turns_by d turns) (callers_from 1 t.scripts)
  pub tagged : (turns ≡ []) ⊎ AreTagged t names steps log turns (callers_from 1 t.scripts)
  pub mine : AreAmong (callers_from 1 t.scripts) turns
  pub asked : names ≡ asked_after names [] (doings log)
  pub all : AreAllByThen t steps names (entries_by 0 (acts 0 log)) log turns

scripted : (t : Table) (limit steps : ℕ) (order : List ℕ) (names : List Name) (log : List Entry) (runs : List Told) → IsOrdered t limit steps order names log runs
    → Scripted t steps order names log
scripted t limit steps order names log runs a = record {
  turns = only (callers_from 1 t.scripts) a.turns;
  is = first_of t log a.start a.turns a.history.in_turn a.history.callers a.is a.setup;
  numbers = numbers_only (callers_from 1 t.scripts) a.turns a.numbers;
  in_order = order_only (callers_from 1 t.scripts) order a.turns a.in_order;
  tagged = elim a.tagged [
    | inl none ↦ inl (ap (only (callers_from 1 t.scripts)) none)
    | inr x ↦ inr
        (tagged_only t names steps log a.turns (callers_from 1 t.scripts) (callers_from 1 t.scripts) (λ d e. e) x)
  ];
  mine = only_among (callers_from 1 t.scripts) a.turns;
  asked = a.asked;
  all = then_only t steps names log a.start a.turns a.history.in_turn a.history.callers a.is a.setup a.all_by_then;
}

-- where there is no setup nothing comes before the turns
no_setup : (t : Table) (l rest : List Entry) → AreOwn 0 l → Every (λ before e. HasCaller t e) (l ++ rest) → t.setup ≡ None → l ≡ []
no_setup t [] rest own callers none = refl
no_setup t (x ∷ l) rest own callers none =
    let there : IsSome (block_of t x.caller.0) = callers [] (l ++ rest) x refl in
    let setup : is_some t.setup ≡ true = subst (λ (d : ℕ). IsSome (block_of t d)) own.0 there in
    let never : false ≡ true = sym (ap (λ (o : Option NodeId). is_some o) none) ∙ setup in
    absurd (cc never)

-- ── histories of which one has no turn ──

left_none : (xs ys : List Act) → xs ++ ys ≡ [] → xs ≡ []
left_none [] ys e = refl
left_none (x ∷ xs) ys e = absurd (cc e)

right_none : (xs ys : List Act) → xs ++ ys ≡ [] → ys ≡ []
right_none [] ys e = e
right_none (x ∷ xs) ys e = absurd (cc e)

no_entries : (cs : List ℕ) (us : List Taken) → AreAmong cs us → ((c : ℕ) → among c cs ≡ true → acts c (entries_of us) ≡ []) → entries_of us ≡ []
no_entries cs [] mine none = refl
no_entries cs (u ∷ us) mine none =
    let here : acts u.caller (entries_by u.caller u.acts) ++ acts u.caller (entries_of us) ≡ [] = sym (acts_append u.caller (entries_by u.caller u.acts) (entries_of us)) ∙ none u.caller mine.0 in
    let own : u.acts ≡ [] = sym (acts_by_itself u.caller u.acts) ∙ left_none _ _ here in
    ap (λ l. entries_by u.caller l ++ entries_of us) own
    ∙ no_entries cs us mine.1 (λ c real. right_none (acts c (entries_by u.caller u.acts)) (acts c (entries_of us)) (sym (acts_append c (entries_by u.caller u.acts) (entries_of us)) ∙ none c real))

own_of : (log : List Entry) → Every (λ before e. e.caller.0 ≡ 0) log → AreOwn 0 log
own_of [] h = tt
own_of (e ∷ l) h = (h [] l e refl, own_of l (λ b a x is. h (e ∷ b) a x (ap (λ (z : List Entry). e ∷ z) is)))

runs_at : (t : Table) (names : List Name) (steps : ℕ) (log : List Entry) (cs : List ℕ) (rs : List Told) (c : ℕ) → AreRuns t names steps log cs rs → among c cs ≡ true → (r : Told)
    × IsRunOf t names steps log c r
runs_at t names steps log [] rs c h e = absurd (cc e)
runs_at t names steps log (d ∷ ds) [] c h e = absurd h
runs_at t names steps log (d ∷ ds) (r ∷ rs) c h e = go (eqb c d) refl e (runs_at t names steps log ds rs c h.1)
  where
    go : (b : Bool) → eqb c d ≡ b → (if b then true else among c ds) ≡ true → (among c ds ≡ true → (r : Told) × IsRunOf t names steps log c r) → (r : Told) × IsRunOf t names steps log c r
    go true f e more = (r, subst (λ k. IsRunOf t names steps log k r) (sym (eqb-true c d f)) h.0)
    go false f e more = more e

own_all : (l : List Entry) → AreOwn 0 l → l ≡ entries_by 0 (acts 0 l)
own_all [] own = refl
own_all (e ∷ l) own = (
    let is = eq-eqb 0 e.caller.0 (sym own.0) in
    let whole : e ≡ entry 0 e.act = ap (λ (d : ℕ). (let x : Entry = record { caller = record { 0 = d }; act = e.act } in x)) own.0 in
    rw is (ap (λ z. z ∷ l) whole ∙ ap (λ k. entry 0 e.act ∷ k) (own_all l own.1)))

module _ (t : Table) (steps : ℕ) (names others : List Name) (differ : Differ names) (differ' : Differ others) (log log' : List Entry) where
  blocks_one : (c : ℕ) (r s : Told) (x : IsRunOf t names steps log c r) (y : IsRunOf t others steps log' c s) → x.block ≡ y.block
  blocks_one c r s x y = same_Some x.block y.block (sym x.runs ∙ y.runs)

  -- the same is told of runs with the same acts
  told_one : (c : ℕ) (r s : Told) → IsRunOf t names steps log c r → IsRunOf t others steps log' c s → acts c log ≡ acts c log' → AreShared names others (acts c log) → r ≡ s
  told_one c r s x y same shared = x.tells ∙ ap (told c) (go [] refl [] refl (runs_part t names others (acts c log) [] [] 4096 x.block.0 steps x.run y.run differ differ' shared
      (ap (λ l. script_run t names (call_in t names 4096) x.block.0 steps l) (append-nil (acts c log)) ∙ x.reads)
      (ap (λ l. script_run t others (call_in t others 4096) x.block.0 steps l) (append-nil (acts c log) ∙ same)
      ∙ ap (λ (n : NodeId). script_run t others (call_in t others 4096) n.0 steps (acts c log')) (blocks_one c r s x y) ∙ y.reads))) ∙ sym y.tells
    where
      go : (f : List Act) → f ≡ [] → (g : List Act) → g ≡ [] → GoOn t names others (acts c log) f g x.run y.run → x.run ≡ y.run
      go f e g i (Neither h k run) = run
      go f e g i (Parted p) = absurd (let h : [] ≡ p.at.a ∷ p.at.behind_a = sym e ∙ p.at.is_a in cc h)
      go f e g i (FirstLacks l) = absurd (let h : [] ≡ l.b ∷ l.behind = sym i ∙ l.is in cc h)
      go f e g i (SecondLacks l) = absurd (let h : [] ≡ l.b ∷ l.behind = sym e ∙ l.is in cc h)

  module _ (begins : IsPrefix names others) (few : length others ≤ NAMES_MAX) where
    -- a block that ran to its end without acts does none elsewhere
    acts_none : (c : ℕ) (r s : Told) → IsRunOf t names steps log c r → IsRunOf t others steps log' c s → acts c log ≡ [] → acts c log' ≡ []
    acts_none c r s x y none = go [] refl (runs_part t names others [] [] (acts c log') 4096 x.block.0 steps x.run y.run differ differ' tt
        (ap (λ l. script_run t names (call_in t names 4096) x.block.0 steps l) (sym none) ∙ x.reads)
        (ap (λ (n : NodeId). script_run t others (call_in t others 4096) n.0 steps (acts c log')) (blocks_one c r s x y) ∙ y.reads))
      where
        go : (f : List Act) → f ≡ [] → GoOn t names others [] f (acts c log') x.run y.run → acts c log' ≡ []
        go f e (Neither h k run) = k
        go f e (Parted p) = absurd (let h : [] ≡ p.at.a ∷ p.at.behind_a = sym e ∙ p.at.is_a in cc h)
        go f e (FirstLacks l) = absurd (prefix_never names others begins few l.name l.key l.full l.has)
        go f e (SecondLacks l) = absurd (let h : [] ≡ l.b ∷ l.behind = sym e ∙ l.is in cc h)

    scripts_none : (o : Option NodeId) (rs ss : List Told) → AreAllRuns t names steps log o rs → AreAllRuns t others steps log' o ss → acts 0 log ≡ acts 0 log' → AreShared names others (acts 0 log)
        → ((c : ℕ) → among c (callers_from 1 t.scripts) ≡ true → acts c log ≡ [])
        → (c : ℕ) → among c (callers_from 1 t.scripts) ≡ true → acts c log' ≡ []
    scripts_none None rs ss h k same shared none c real =
        let x = runs_at t names steps log (callers_from 1 t.scripts) rs c h real in
        let y = runs_at t others steps log' (callers_from 1 t.scripts) ss c k real in
        acts_none c x.0 y.0 x.1 y.1 (none c real)
    scripts_none (Some b) [] ss h k same shared none c real = absurd h
    scripts_none (Some b) (r ∷ rs) [] h k same shared none c real = absurd k
    scripts_none (Some b) (r ∷ rs) (s ∷ ss) h k same shared none c real =
        let one = told_one 0 r s h.0 k.0 same shared in
        go (is_done s.outcome) (subst (λ (x : Told). RunBehind t names steps log (is_done x.outcome) rs) one h.1) k.1
      where
        go : (d : Bool) → RunBehind t names steps log d rs → RunBehind t others steps log' d ss → acts c log' ≡ []
        go true x y =
            let u = runs_at t names steps log (callers_from 1 t.scripts) rs c x real in
            let v = runs_at t others steps log' (callers_from 1 t.scripts) ss c y real in
            acts_none c u.0 v.0 u.1 v.1 (none c real)
        go false x y = own_idle 0 c log' (not_zero c t.scripts real) (own_of log' y.1)

-- ── one history ──

no_acts_of_setup : (t : Table) (steps : ℕ) (order : List ℕ) (names : List Name) (log : List Entry) → Scripted t steps order names log → Every (λ before e. HasCaller t e) log → t.setup ≡ None
    → acts 0 log ≡ []
no_acts_of_setup t steps order names log s callers none =
    let empty = no_setup t (entries_by 0 (acts 0 log)) (entries_of s.turns) (own_by (acts 0 log)) (subst (Every (λ before e. HasCaller t e)) s.is callers) none in
    sym (acts_by_itself 0 (acts 0 log)) ∙ ap (acts 0) empty

-- behind a setup that stopped there are no other entries
setup_alone : (t : Table) (steps : ℕ) (names : List Name) (log : List Entry) (r : Told) (rs : List Told) (x : IsRunOf t names steps log 0 r) → RunBehind t names steps log (is_done r.outcome) rs
    → IsAlone log x.run
setup_alone t steps names log r rs x behind id stops =
    let stopped : RunBehind t names steps log false rs = subst (λ (d : Bool). RunBehind t names steps log d rs) (ap (λ (z : Told). is_done z.outcome) x.tells ∙ ap is_done stops) behind in
    own_all log (own_of log stopped.1)

module _ (t : Table) (limit steps : ℕ) (order : List ℕ) (names others : List Name) (log log' : List Entry) (runs runs' : List Told) (h : IsHistory t limit steps names log runs)
    (k : IsHistory t limit steps others log' runs') (a : Scripted t steps order names log) (b : Scripted t steps order others log') where
  alike : GoOnAlike t names others log log'
  alike = go_on_alike t limit steps names others log log' runs runs' h k a.asked b.asked

  zero_one : (o : Option NodeId) → t.setup ≡ o → (rs ss : List Told) → AreAllRuns t names steps log o rs → AreAllRuns t others steps log' o ss → (acts 0 log ≡ acts 0 log')
      × AreShared names others (acts 0 log)
  zero_one None none rs ss x y =
      let mine = no_acts_of_setup t steps order names log a h.callers none in
      (mine ∙ sym (no_acts_of_setup t steps order others log' b k.callers none), subst (AreShared names others) (sym mine) tt)
  zero_one (Some block) e [] ss x y = absurd x
  zero_one (Some block) e (r ∷ rs) [] x y = absurd y
  zero_one (Some block) e (r ∷ rs) (s ∷ ss) x y =
      let u = x.0 in
      let v = y.0 in
      setup_one t steps names others h.differ k.differ h.few k.few log log' (entries_of a.turns) (entries_of b.turns) a.is b.is a.asked b.asked alike u.block.0 u.run v.run
      (setup_alone t steps names log r rs u x.1) (setup_alone t steps others log' s ss v y.1) u.reads
      (ap (λ (n : NodeId). script_run t others (call_in t others 4096) n.0 steps (acts 0 log')) (same_Some u.block v.block (sym u.runs ∙ v.runs)) ∙ v.reads)

  zero : (acts 0 log ≡ acts 0 log') × AreShared names others (acts 0 log)
  zero = zero_one t.setup refl runs runs' h.all_runs k.all_runs

  -- where one history has no turn, the other has no entries of scripts
  quiet : a.turns ≡ [] → (log ≡ log') × AreShared names others (doings log)
  quiet none =
      let alone : log ≡ entries_by 0 (acts 0 log) = a.is ∙ ap (λ us. entries_by 0 (acts 0 log) ++ entries_of us) none ∙ append-nil (entries_by 0 (acts 0 log)) in
      let same : doings log ≡ acts 0 log = ap doings alone ∙ doings_by 0 (acts 0 log) in
      let shared : AreShared names others (doings log) = subst (AreShared names others) (sym same) zero.1 in
      let longer : log' ≡ log ++ entries_of b.turns = b.is ∙ ap (λ l. entries_by 0 l ++ entries_of b.turns) (sym zero.0) ∙ ap (λ l. l ++ entries_of b.turns) (sym alone) in
      let begins : IsPrefix names others = asked_begins names others (doings log) [] (doings (entries_of b.turns)) shared tt (a.asked ∙ ap (asked_after names []) (sym (append-nil (doings log))))
      (b.asked ∙ ap (λ l. asked_after others [] (doings l)) longer ∙ ap (asked_after others []) (doings_join log (entries_of b.turns))) in
      let silent : (c : ℕ) → among c (callers_from 1 t.scripts) ≡ true → acts c log ≡ [] = λ c real. ap (acts c) alone ∙ own_idle 0 c (entries_by 0 (acts 0 log)) (not_zero c t.scripts real)
      (own_by (acts 0 log)) in
      let others_none : (c : ℕ) → among c (callers_from 1 t.scripts) ≡ true → acts c log' ≡ [] =
      scripts_none t steps names others h.differ k.differ log log' begins k.few t.setup runs runs' h.all_runs k.all_runs zero.0 zero.1 silent in
      let empty : entries_of b.turns ≡ [] = no_entries (callers_from 1 t.scripts) b.turns b.mine (λ c real.
      right_none (acts c (entries_by 0 (acts 0 log'))) (acts c (entries_of b.turns)) (sym (acts_append c (entries_by 0 (acts 0 log')) (entries_of b.turns)) ∙ ap (acts c) (sym b.is)
      ∙ others_none c real)) in
      (sym (longer ∙ ap (λ l. log ++ l) empty ∙ append-nil log), shared)

  walked : AreTagged t names steps log a.turns (callers_from 1 t.scripts) → AreTagged t others steps log' b.turns (callers_from 1 t.scripts) → (log ≡ log') × AreShared names others (doings log)
  walked x y =
      let one : Turned t steps names (entries_by 0 (acts 0 log)) log a.turns = record {
        is = a.is;
        own = own_by (acts 0 log);
        numbers = a.numbers;
        tagged = x;
        mine = a.mine;
        asked = a.asked;
        differ = h.differ;
        few = h.few;
        all = a.all;
      } in
      let two : Turned t steps others (entries_by 0 (acts 0 log)) log' b.turns = record {
        is = b.is ∙ ap (λ l. entries_by 0 l ++ entries_of b.turns) (sym zero.0);
        own = own_by (acts 0 log);
        numbers = b.numbers;
        tagged = y;
        mine = b.mine;
        asked = b.asked;
        differ = k.differ;
        few = k.few;
        all = subst (λ (l : List Act). AreAllByThen t steps others (entries_by 0 l) log' b.turns) (sym zero.0) b.all;
      } in
      one_log t steps names others (entries_by 0 (acts 0 log)) log log' a.turns b.turns one two alike order
      (subst (AreShared names others) (sym (doings_by 0 (acts 0 log))) zero.1) a.in_order b.in_order

one_list : (t : Table) (limit steps : ℕ) (order : List ℕ) (names others : List Name) (log log' : List Entry) (runs runs' : List Told) → IsHistory t limit steps names log runs
    → IsHistory t limit steps others log' runs' → Scripted t steps order names log → Scripted t steps order others log' → (log ≡ log') × AreShared names others (doings log)
one_list t limit steps order names others log log' runs runs' h k a b = go a.tagged b.tagged
  where
    go : (a.turns ≡ []) ⊎ AreTagged t names steps log a.turns (callers_from 1 t.scripts) → (b.turns ≡ []) ⊎ AreTagged t others steps log' b.turns (callers_from 1 t.scripts)
        → (log ≡ log') × AreShared names others (doings log)
    go (inl none) y = quiet t limit steps order names others log log' runs runs' h k a b none
    go (inr x) (inl none) =
        let r = quiet t limit steps order others names log' log runs' runs k h b a none in
        (sym r.0, all_back others names (doings log) (subst (λ l. AreShared others names (doings l)) r.0 r.1))
    go (inr x) (inr y) = walked t limit steps order names others log log' runs runs' h k a b x y

pub one_history : (t : Table) (limit steps : ℕ) (order : List ℕ) (names others : List Name) (log log' : List Entry) (runs runs' : List Told) → IsOrdered t limit steps order names log runs
    → IsOrdered t limit steps order others log' runs' → (names ≡ others) × (log ≡ log') × (runs ≡ runs')
one_history t limit steps order names others log log' runs runs' a b =
    let r = one_list t limit steps order names others log log' runs runs' a.history b.history (scripted t limit steps order names log runs a) (scripted t limit steps order others log' runs' b) in
    let lists : names ≡ others = a.asked ∙ asked_same names others [] (doings log) r.1 ∙ ap (λ l. asked_after others [] (doings l)) r.0 ∙ sym b.asked in
    let mine : AreAllRuns t others steps log' t.setup runs = subst (λ ns. AreAllRuns t ns steps log' t.setup runs) lists
    (subst (λ l. AreAllRuns t names steps l t.setup runs) r.0 a.history.all_runs) in
    (lists, r.0, all_one t others steps log' t.setup runs runs' mine b.history.all_runs)
