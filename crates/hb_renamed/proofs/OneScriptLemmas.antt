-- A program of at most one script has one history whose names stand in the order in which they are asked for.
use Rattle.std.proofs.Common.{◌≡◌, ◌⊎◌, inl, inr, ℕ, zero, suc, ◌≤◌, Bool, true, false, List, [], ◌∷◌, ◌++◌, length}
use Rattle.std.proofs.Common.{Option, Some, None, refl, sym, ap, ◌∙◌, subst, arith, append_assoc, cond, eqb, eq-eqb}
use mathlib.Core.List.{IsPrefix}
use Rattle.std.specs.Prelude.{IsSome, is_some, slice_get}
use Rattle.std.specs.Option.{option_map}
use Rattle.std.proofs.lemmas.Bool.{false≢true}
use Rattle.std.proofs.lemmas.Bool.Decides.{eqb_tells}
use Rattle.std.proofs.lemmas.List.{append-nil, map-append}
use Rattle.std.proofs.lemmas.Option.{same_Some, slice_get_past}
use Rattle.hb_types.specs.declared.ids.NameId.{NameId}
use Rattle.hb_types.specs.declared.ids.NodeId.{NodeId}
use Rattle.hb_tree.specs.Table.{Table}
use Rattle.hb_names.specs.declared.names.TheConstants.{NAMES_MAX}
use Rattle.hb_names.specs.Names.{Differ, Name}
use Rattle.hb_call.specs.Growth.{asked_after}
use Rattle.hb_eval.specs.declared.stop.Outcome.TheVariants as outcome
use Rattle.hb_eval.specs.declared.stop.Stop.TheVariants as stop
use Rattle.hb_eval.specs.Calls.{call_in}
use Rattle.hb_eval.specs.Runs.{Run, script_run}
use Rattle.hb_eval.specs.State.{tagged}
use Rattle.hb_eval.specs.Told.{Told, is_done, told}
use Rattle.hb_eval.proofs.TurnLemmas.{tagged_append}
use Rattle.hb_tables.specs.declared.entry.Act.{Act}
use Rattle.hb_tables.specs.declared.entry.Entry.{Entry}
use Rattle.hb_tables.specs.Frames.{acts}
use Rattle.hb_tables.specs.History.{Every, entry, key_of}
use Rattle.hb_tables.proofs.FrameLemmas.{acts_append}
use Rattle.hb_run.specs.History.{AreAllRuns, AreRuns, HasCaller, IsHistory, IsInTurn, IsRunOf, RunBehind, block_of, callers_from}
use Rattle.hb_turns.specs.Playing.{entries_by}
use Rattle.hb_turns.proofs.PlayingLemmas.{acts_by_itself}
use Rattle.hb_ordered.specs.Parting.{FirstLacks, GoOn, Lacks, Neither, Part, Parted, SecondLacks}
use Rattle.hb_ordered.specs.Sharing.{AreShared, IsShared, NotFull}
use Rattle.hb_ordered.proofs.AlongLemmas.{runs_part, untagged}
use Rattle.hb_ordered.proofs.AnswerLemmas.{all_back}
use Rattle.hb_ordered.proofs.NamesLemmas.{asked_begins, asked_same, doings, doings_by, doings_join, prefix_never, shared_both, shared_parts}
use Rattle.hb_ordered.proofs.OneLemmas.{all_one, go_on_alike}
use Rattle.hb_ordered.proofs.SameTurnLemmas.{plain}
use Rattle.hb_ordered.proofs.WalkLemmas.{GoOnAlike, entries_cut}

-- ── the acts of one caller ──

-- the history is a beginning without the caller's acts, then these, and then a rest
abbrev HasParts : (c : ℕ) → (first rest log : List Entry) → Type 0
HasParts c first rest log = log ≡ first ++ (entries_by c (acts c log) ++ rest)

-- where the run stops with Full, there is no rest
abbrev EndsFull : List Entry → Run → Type 0
EndsFull rest r = (id : NodeId) → r.outcome ≡ outcome.Stopped stop.Full id → rest ≡ []

doings_are : (c : ℕ) (first rest log : List Entry) (P X : List Act) → HasParts c first rest log → acts c log ≡ P ++ X → doings log ≡ (doings first ++ P) ++ (X ++ doings rest)
doings_are c first rest log P X is e =
    ap doings is ∙ doings_join first (entries_by c (acts c log) ++ rest)
    ∙ ap (λ l. doings first ++ l) (doings_join (entries_by c (acts c log)) rest ∙ ap (λ l. l ++ doings rest) (doings_by c (acts c log) ∙ e) ∙ append_assoc P X (doings rest))
    ∙ sym (append_assoc (doings first) P (X ++ doings rest))

-- no run stops for want of a name that the other list has
never : (names others : List Name) (c : ℕ) (first log log' rest rest' : List Entry) (r w : Run) (P X Y : List Act) → HasParts c first rest log → HasParts c first rest' log'
    → names ≡ asked_after names [] (doings log) → others ≡ asked_after others [] (doings log') → length others ≤ NAMES_MAX → EndsFull rest r → acts c log ≡ P ++ X → acts c log' ≡ P ++ Y
    → AreShared names others (doings first) → AreShared names others P → Lacks names others P X Y r w → ⊥
never names others c first log log' rest rest' r w P X Y is is' asked asked' few ends e f known shared l =
    prefix_never names others (asked_begins names others (doings first ++ P) X (Y ++ doings rest') (shared_both names others (doings first) P known shared) l.stops.frees
    (asked ∙ ap (asked_after names []) (doings_are c first rest log P X is e ∙ ap (λ k. (doings first ++ P) ++ (X ++ doings k)) (ends l.stops.id l.stops.stops)
    ∙ ap (λ k. (doings first ++ P) ++ k) (append-nil X)))
    (asked' ∙ ap (asked_after others []) (doings_are c first rest' log' P Y is' f))) few l.name l.key l.full l.has

at_place : (c : ℕ) (first rest log : List Entry) (early since later : List Act) (a : Act) (P X : List Act) → HasParts c first rest log → acts c log ≡ P ++ X → early ++ since ≡ P → X ≡ a ∷ later
    → log ≡ ((first ++ entries_by c early) ++ entries_by c since) ++ entry c a ∷ (entries_by c later ++ rest)
at_place c first rest log early since later a P X is e f g = is ∙ ap (λ l. first ++ (entries_by c l ++ rest)) (e ∙ ap (λ l. l ++ X) (sym f) ∙ ap (λ l. (early ++ since) ++ l) g)
    ∙ entries_cut c first rest early since later a

module _ (t : Table) (steps : ℕ) (names others : List Name) (differ : Differ names) (differ' : Differ others) (few : length names ≤ NAMES_MAX) (few' : length others ≤ NAMES_MAX)
    (c : ℕ) (first log log' rest rest' : List Entry) (own : acts c first ≡ []) (known : AreShared names others (doings first)) (is : HasParts c first rest log) (is' : HasParts c first rest' log')
    (asked : names ≡ asked_after names [] (doings log)) (asked' : others ≡ asked_after others [] (doings log')) (alike : GoOnAlike t names others log log') (block : ℕ) (r w : Run)
    (ends : EndsFull rest r) (ends' : EndsFull rest' w)
    (reads : script_run t names (call_in t names 4096) block steps (acts c log) ≡ Some r) (reads' : script_run t others (call_in t others 4096) block steps (acts c log') ≡ Some w) where
  known_back : AreShared others names (doings first)
  known_back = all_back names others (doings first) known

  parts_at : (P X Y : List Act) → acts c log ≡ P ++ X → acts c log' ≡ P ++ Y → AreShared names others P → ((X ≡ []) × (Y ≡ [])) ⊎ Part t names others P X Y r w
  parts_at P X Y e f shared = go (runs_part t names others P X Y 4096 block steps r w differ differ' shared
      (ap (λ l. script_run t names (call_in t names 4096) block steps l) (sym e) ∙ reads) (ap (λ l. script_run t others (call_in t others 4096) block steps l) (sym f) ∙ reads'))
    where
      go : GoOn t names others P X Y r w → ((X ≡ []) × (Y ≡ [])) ⊎ Part t names others P X Y r w
      go (Neither x y same) = inl (x, y)
      go (Parted p) = inr p
      go (FirstLacks l) = absurd (never names others c first log log' rest rest' r w P X Y is is' asked asked' few' ends e f known shared l)
      go (SecondLacks l) = absurd (never others names c first log' log rest' rest w r P Y X is' is asked' asked few ends' f e known_back (all_back names others P shared) l)

  same_head : (P X Y : List Act) → acts c log ≡ P ++ X → acts c log' ≡ P ++ Y → AreShared names others P → (part : Part t names others P X Y r w) → (part.at.a ≡ part.at.b)
      × IsShared names others part.at.a
  same_head P X Y e f shared part =
      let p = part.at in
      let early = plain p.state.read in
      let one = at_place c first rest log early p.since p.behind_a p.a P X is e p.read p.is_a in
      let two = at_place c first rest' log' early p.since p.behind_b p.b P Y is' f p.read p.is_b in
      let both = shared_parts names others early p.since (subst (AreShared names others) (sym p.read) shared) in
      let front : AreShared names others (doings (first ++ entries_by c early)) = subst (AreShared names others)
      (sym (doings_join first (entries_by c early) ∙ ap (λ l. doings first ++ l) (doings_by c early))) (shared_both names others (doings first) early known both.0) in
      let here : AreShared names others (doings ((first ++ entries_by c early) ++ entries_by c p.since)) = subst (AreShared names others)
      (sym (doings_join (first ++ entries_by c early) (entries_by c p.since) ∙ ap (λ l. doings (first ++ entries_by c early) ++ l) (doings_by c p.since)))
      (shared_both names others (doings (first ++ entries_by c early)) p.since front both.1) in
      let read_is : plain (p.state.read ++ tagged p.state.begun p.since) ≡ P = map-append (λ (e : ℕ × Act). e.1) p.state.read (tagged p.state.begun p.since)
      ∙ ap (λ l. plain p.state.read ++ l) (untagged p.state.begun p.since) ∙ p.read in
      let goes : (z : Act) (x : Run) → IsPrefix (p.state.read ++ tagged p.state.begun (p.since ++ z ∷ [])) x.acts
      → IsPrefix ((p.state.read ++ tagged p.state.begun p.since) ++ (p.state.begun, z) ∷ []) x.acts =
      λ z x pre. subst (λ l. IsPrefix l x.acts) (ap (λ l. p.state.read ++ l) (tagged_append p.state.begun p.since (z ∷ [])) ∙ sym
      (append_assoc p.state.read (tagged p.state.begun p.since) ((p.state.begun, z) ∷ []))) pre in
      let stays : NotFull names others p.question p.a p.b = λ gives q full has. never names others c first log log' rest rest' r w P X Y is is' asked asked' few' ends e f known shared (record {
        begun = p.state.begun;
        read = p.state.read ++ tagged p.state.begun p.since;
        read_is = read_is;
        name = q;
        full = full;
        key = key_of p.b;
        has = has;
        b = p.b;
        behind = p.behind_b;
        is = p.is_b;
        goes_on = goes p.b w part.second_read;
        stops = part.first_stops gives;
      }) in
      let stays' : NotFull others names p.other p.b p.a = λ gives q full has. never others names c first log' log rest' rest w r P Y X is' is asked' asked few ends' f e known_back
      (all_back names others P shared) (record {
        begun = p.state.begun;
        read = p.state.read ++ tagged p.state.begun p.since;
        read_is = read_is;
        name = q;
        full = full;
        key = key_of p.a;
        has = has;
        b = p.a;
        behind = p.behind_a;
        is = p.is_a;
        goes_on = goes p.a r part.first_read;
        stops = part.second_stops gives;
      }) in
      alike c (first ++ entries_by c early) (entries_by c p.behind_a ++ rest) (entries_by c p.behind_b ++ rest') P X Y p
      (acts_append c first (entries_by c early) ∙ ap (λ l. l ++ acts c (entries_by c early)) own ∙ acts_by_itself c early) one two here stays stays'

  same_behind : (P X Y : List Act) → acts c log ≡ P ++ X → acts c log' ≡ P ++ Y → AreShared names others P → (X ≡ Y) × AreShared names others X
  same_behind P [] [] e f shared = (refl, tt)
  same_behind P [] (y ∷ Y) e f shared = absurd (elim (parts_at P [] (y ∷ Y) e f shared) [ inl none ↦ cc none.1 | inr part ↦ (let h : [] ≡ part.at.a ∷ part.at.behind_a = part.at.is_a in cc h) ])
  same_behind P (x ∷ X) [] e f shared = absurd (elim (parts_at P (x ∷ X) [] e f shared) [ inl none ↦ cc none.0 | inr part ↦ (let h : [] ≡ part.at.b ∷ part.at.behind_b = part.at.is_b in cc h) ])
  same_behind P (x ∷ X) (y ∷ Y) e f shared =
      let one : (x ≡ y) × IsShared names others x = elim (parts_at P (x ∷ X) (y ∷ Y) e f shared) as (λ z. (x ≡ y) × IsShared names others x) [
        | inl none ↦ absurd (let h : x ∷ X ≡ [] = none.0 in cc h)
        | inr part ↦ (let same = same_head P (x ∷ X) (y ∷ Y) e f shared part in let i : x ≡ part.at.a = (let h : x ∷ X ≡ part.at.a ∷ part.at.behind_a = part.at.is_a in cc h) in
            let j : y ≡ part.at.b = (let h : y ∷ Y ≡ part.at.b ∷ part.at.behind_b = part.at.is_b in cc h) in (i ∙ same.0 ∙ sym j, subst (IsShared names others) (sym i) same.1))
      ] in
      let more = same_behind (P ++ x ∷ []) X Y (e ∙ sym (append_assoc P (x ∷ []) X)) (f ∙ ap (λ z. P ++ z ∷ Y) (sym one.0) ∙ sym (append_assoc P (x ∷ []) Y))
      (shared_both names others P (x ∷ []) shared (one.1, tt)) in
      (ap (λ z. z ∷ X) one.0 ∙ ap (λ l. y ∷ l) more.0, (one.1, more.1))

  -- the caller has the same acts in both
  one_caller : (acts c log ≡ acts c log') × AreShared names others (acts c log)
  one_caller = same_behind [] (acts c log) (acts c log') refl refl tt

-- ── whose the entries are ──

-- the entry is the setup's, or that of the one script
abbrev IsEither : List Entry → Entry → Type 0
IsEither before e = (e.caller.0 ≡ 0) ⊎ (e.caller.0 ≡ 1)

either_caller : (t : Table) (c : ℕ) → length t.scripts ≤ 1 → IsSome (block_of t c) → (c ≡ 0) ⊎ (c ≡ 1)
either_caller t zero few h = inl refl
either_caller t (suc zero) few h = inr refl
either_caller t (suc (suc i)) few h = absurd (
    let past : slice_get t.scripts (suc i) ≡ None = slice_get_past t.scripts (suc i) (omega (arith, few)) in
    let never : false ≡ true = sym (ap (λ (o : Option (NameId × NodeId)). is_some (option_map (λ s. s.1) o)) past) ∙ h in
    false≢true never)

-- a caller that has no block has no act
no_block : (t : Table) (c : ℕ) (log : List Entry) → Every (λ before e. HasCaller t e) log → block_of t c ≡ None → acts c log ≡ []
no_block t c [] h none = refl
no_block t c (e ∷ log) h none = elim (eqb_tells c e.caller.0) [
  | inl same ↦ absurd (
      let there : IsSome (block_of t c) = subst (λ d. IsSome (block_of t d)) (sym same.1) (h [] log e refl) in
      let never : false ≡ true = sym (ap (λ (o : Option NodeId). is_some o) none) ∙ there in
      false≢true never)
  | inr not ↦ (let is = not.0 in rw is (no_block t c log (λ b a x e'. h (e ∷ b) a x (ap (λ (z : List Entry). e ∷ z) e')) none))
]

-- where all entries are the setup's, the script has no act
all_setup : (log : List Entry) → Every (λ before e. e.caller.0 ≡ 0) log → acts 1 log ≡ []
all_setup [] h = refl
all_setup (e ∷ log) h = elim (eqb_tells 1 e.caller.0) [
  | inl same ↦ absurd (let zero_is = h [] log e refl in let one = same.1 in omega (arith, zero_is, one))
  | inr not ↦ (let is = not.0 in rw is (all_setup log (λ b a x e'. h (e ∷ b) a x (ap (λ (z : List Entry). e ∷ z) e'))))
]

all_script : (log : List Entry) → Every (λ before e. e.caller.0 ≡ 1) log → (acts 0 log ≡ []) × (log ≡ entries_by 1 (acts 1 log))
all_script [] h = (refl, refl)
all_script (e ∷ log) h =
    let one = h [] log e refl in
    let more = all_script log (λ b a x e'. h (e ∷ b) a x (ap (λ (z : List Entry). e ∷ z) e')) in
    let yes = eq-eqb 1 e.caller.0 (sym one) in
    let no : eqb 0 e.caller.0 ≡ false = ap (eqb 0) one in
    let whole : e ≡ entry 1 e.act = ap (λ (d : ℕ). (let x : Entry = record { caller = record { 0 = d }; act = e.act } in x)) one in (
      ap (λ b. cond b (e.act ∷ acts 0 log) (acts 0 log)) no ∙ more.0,
      ap (λ z. z ∷ log) whole ∙ ap (λ k. entry 1 e.act ∷ k) more.1 ∙ ap (λ b. entries_by 1 (cond b (e.act ∷ acts 1 log) (acts 1 log))) (sym yes),
    )

-- the setup's entries, and then the script's
two_parts : (log : List Entry) → Every IsEither log → Every IsInTurn log → log ≡ entries_by 0 (acts 0 log) ++ entries_by 1 (acts 1 log)
two_parts [] h turn = refl
two_parts (e ∷ log) h turn = go (h [] log e refl) (λ ok first. two_parts log ok first)
  where
    later : Every IsEither log
    later b a x e' = h (e ∷ b) a x (ap (λ (z : List Entry). e ∷ z) e')

    go : (e.caller.0 ≡ 0) ⊎ (e.caller.0 ≡ 1) → (Every IsEither log → Every IsInTurn log → log ≡ entries_by 0 (acts 0 log) ++ entries_by 1 (acts 1 log)) → e ∷ log
        ≡ entries_by 0 (acts 0 (e ∷ log)) ++ entries_by 1 (acts 1 (e ∷ log))
    go (inl none) behind =
        let yes = eq-eqb 0 e.caller.0 (sym none) in
        let no : eqb 1 e.caller.0 ≡ false = ap (eqb 1) none in
        let whole : e ≡ entry 0 e.act = ap (λ (d : ℕ). (let x : Entry = record { caller = record { 0 = d }; act = e.act } in x)) none in
        let more = behind later (λ b a x e' mine. λ k d low. turn (e ∷ b) a x (ap (λ (z : List Entry). e ∷ z) e') mine (suc k) d (omega (arith, low))) in
        ap (λ z. z ∷ log) whole ∙ ap (λ k. entry 0 e.act ∷ k) more
        ∙ (λ i. entries_by 0 (cond (sym yes i) (e.act ∷ acts 0 log) (acts 0 log)) ++ entries_by 1 (cond (sym no i) (e.act ∷ acts 1 log) (acts 1 log)))
    go (inr one) behind =
        let script : Every (λ before x. x.caller.0 ≡ 1) log = λ b a x e'. elim (later b a x e') [
          | inl none ↦ absurd (let first = turn (e ∷ b) a x (ap (λ (z : List Entry). e ∷ z) e') none 0 e (omega arith) in omega (arith, first, one))
          | inr same ↦ same
        ] in
        let all = all_script (e ∷ log) (λ b a x e'. of_all b a x e' script) in
        all.1 ∙ ap (λ l. entries_by 0 l ++ entries_by 1 (acts 1 (e ∷ log))) (sym all.0)
      where
        of_all : (b a : List Entry) (x : Entry) → e ∷ log ≡ b ++ x ∷ a → Every (λ before x. x.caller.0 ≡ 1) log → x.caller.0 ≡ 1
        of_all [] a x e' script = ap (λ (z : Entry). z.caller.0) (let same : e ≡ x = cc e' in sym same) ∙ one
        of_all (y ∷ b) a x e' script = script b a x (let rest : log ≡ b ++ x ∷ a = cc e' in rest)

-- ── two histories ──

-- the same is told of runs with the same acts
told_one : (t : Table) (steps : ℕ) (names others : List Name) (log log' : List Entry) (c : ℕ) (r s : Told) → Differ names → Differ others → IsRunOf t names steps log c r
    → IsRunOf t others steps log' c s → acts c log ≡ acts c log' → AreShared names others (acts c log) → r ≡ s
told_one t steps names others log log' c r s differ differ' x y same shared =
    x.tells ∙ ap (told c) (go [] refl [] refl (runs_part t names others (acts c log) [] [] 4096 x.block.0 steps x.run y.run differ differ' shared
    (ap (λ l. script_run t names (call_in t names 4096) x.block.0 steps l) (append-nil (acts c log)) ∙ x.reads)
    (ap (λ l. script_run t others (call_in t others 4096) x.block.0 steps l) (append-nil (acts c log) ∙ same)
    ∙ ap (λ (n : NodeId). script_run t others (call_in t others 4096) n.0 steps (acts c log')) (same_Some x.block y.block (sym x.runs ∙ y.runs)) ∙ y.reads))) ∙ sym y.tells
  where
    go : (f : List Act) → f ≡ [] → (g : List Act) → g ≡ [] → GoOn t names others (acts c log) f g x.run y.run → x.run ≡ y.run
    go f e g i (Neither h k run) = run
    go f e g i (Parted p) = absurd (let h : [] ≡ p.at.a ∷ p.at.behind_a = sym e ∙ p.at.is_a in cc h)
    go f e g i (FirstLacks l) = absurd (let h : [] ≡ l.b ∷ l.behind = sym i ∙ l.is in cc h)
    go f e g i (SecondLacks l) = absurd (let h : [] ≡ l.b ∷ l.behind = sym e ∙ l.is in cc h)

-- a setup that stopped is alone
alone : (t : Table) (steps : ℕ) (names : List Name) (log : List Entry) (r : Told) (rs : List Told) (x : IsRunOf t names steps log 0 r) → RunBehind t names steps log (is_done r.outcome) rs
    → EndsFull (entries_by 1 (acts 1 log)) x.run
alone t steps names log r rs x behind id stops =
    let stopped : RunBehind t names steps log false rs = subst (λ (d : Bool). RunBehind t names steps log d rs) (ap (λ (z : Told). is_done z.outcome) x.tells ∙ ap is_done stops) behind in
    ap (entries_by 1) (all_setup log stopped.1)

module _ (t : Table) (limit steps : ℕ) (names others : List Name) (log log' : List Entry) (runs runs' : List Told) (single : length t.scripts ≤ 1) (h : IsHistory t limit steps names log runs)
    (k : IsHistory t limit steps others log' runs') (asked : names ≡ asked_after names [] (doings log)) (asked' : others ≡ asked_after others [] (doings log')) where
  alike : GoOnAlike t names others log log'
  alike = go_on_alike t limit steps names others log log' runs runs' h k asked asked'

  parts : log ≡ entries_by 0 (acts 0 log) ++ entries_by 1 (acts 1 log)
  parts = two_parts log (λ b a e is. either_caller t e.caller.0 single (h.callers b a e is)) h.in_turn

  parts' : log' ≡ entries_by 0 (acts 0 log') ++ entries_by 1 (acts 1 log')
  parts' = two_parts log' (λ b a e is. either_caller t e.caller.0 single (k.callers b a e is)) k.in_turn

  Same : ℕ → Type 0
  Same c = (acts c log ≡ acts c log') × AreShared names others (acts c log)

  -- neither has acts of the caller
  none_same : (c : ℕ) → acts c log ≡ [] → acts c log' ≡ [] → Same c
  unfolding Same
  none_same c e f = (e ∙ sym f, subst (AreShared names others) (sym e) tt)

  setup_same : (o : Option NodeId) → t.setup ≡ o → (rs ss : List Told) → AreAllRuns t names steps log o rs → AreAllRuns t others steps log' o ss → Same 0
  unfolding Same
  setup_same None none rs ss x y = none_same 0 (no_block t 0 log h.callers none) (no_block t 0 log' k.callers none)
  setup_same (Some block) e [] ss x y = absurd x
  setup_same (Some block) e (r ∷ rs) [] x y = absurd y
  setup_same (Some block) e (r ∷ rs) (s ∷ ss) x y =
      let u = x.0 in
      let v = y.0 in
      one_caller t steps names others h.differ k.differ h.few k.few 0 [] log log' (entries_by 1 (acts 1 log)) (entries_by 1 (acts 1 log')) refl tt parts parts' asked asked' alike u.block.0 u.run v.run
      (alone t steps names log r rs u x.1) (alone t steps others log' s ss v y.1) u.reads
      (ap (λ (n : NodeId). script_run t others (call_in t others 4096) n.0 steps (acts 0 log')) (same_Some u.block v.block (sym u.runs ∙ v.runs)) ∙ v.reads)

  zero_same : Same 0
  zero_same = setup_same t.setup refl runs runs' h.all_runs k.all_runs

  script_same : (scripts : List (NameId × NodeId)) → t.scripts ≡ scripts → (rs ss : List Told) → AreRuns t names steps log (callers_from 1 scripts) rs
      → AreRuns t others steps log' (callers_from 1 scripts) ss → Same 1
  unfolding Same zero_same
  script_same [] e rs ss x y =
      let none : block_of t 1 ≡ None = ap (λ (l : List (NameId × NodeId)). option_map (λ s. s.1) (slice_get l 0)) e in
      none_same 1 (no_block t 1 log h.callers none) (no_block t 1 log' k.callers none)
  script_same (z ∷ zs) e [] ss x y = absurd x
  script_same (z ∷ zs) e (r ∷ rs) [] x y = absurd y
  script_same (z ∷ zs) e (r ∷ rs) (s ∷ ss) x y =
      let u = x.0 in
      let v = y.0 in
      let first : List Entry = entries_by 0 (acts 0 log) in
      one_caller t steps names others h.differ k.differ h.few k.few 1 first log log' [] [] (idle (acts 0 log)) (subst (AreShared names others) (sym (doings_by 0 (acts 0 log))) zero_same.1)
      (parts ∙ ap (λ l. first ++ l) (sym (append-nil (entries_by 1 (acts 1 log)))))
      (parts' ∙ ap (λ l. entries_by 0 l ++ entries_by 1 (acts 1 log')) (sym zero_same.0)
      ∙ ap (λ l. first ++ l) (sym (append-nil (entries_by 1 (acts 1 log'))))) asked asked' alike u.block.0 u.run v.run
      (λ id stops. refl) (λ id stops. refl) u.reads
      (ap (λ (n : NodeId). script_run t others (call_in t others 4096) n.0 steps (acts 1 log')) (same_Some u.block v.block (sym u.runs ∙ v.runs)) ∙ v.reads)
    where
      idle : (l : List Act) → acts 1 (entries_by 0 l) ≡ []
      idle [] = refl
      idle (a ∷ l) = idle l

  behind_same : (o : Option NodeId) → (rs ss : List Told) → AreAllRuns t names steps log o rs → AreAllRuns t others steps log' o ss → Same 1
  unfolding Same zero_same
  behind_same None rs ss x y = script_same t.scripts refl rs ss x y
  behind_same (Some block) [] ss x y = absurd x
  behind_same (Some block) (r ∷ rs) [] x y = absurd y
  behind_same (Some block) (r ∷ rs) (s ∷ ss) x y = go (is_done s.outcome)
      (subst (λ (z : Told). RunBehind t names steps log (is_done z.outcome) rs) (told_one t steps names others log log' 0 r s h.differ k.differ x.0 y.0 zero_same.0 zero_same.1) x.1) y.1
    where
      go : (d : Bool) → RunBehind t names steps log d rs → RunBehind t others steps log' d ss → Same 1
      go true u v = script_same t.scripts refl rs ss u v
      go false u v = none_same 1 (all_setup log u.1) (all_setup log' v.1)

  one_same : Same 1
  one_same = behind_same t.setup runs runs' h.all_runs k.all_runs

  pub one_log : log ≡ log'
  unfolding Same zero_same one_same
  one_log = parts ∙ (λ i. entries_by 0 (zero_same.0 i) ++ entries_by 1 (one_same.0 i)) ∙ sym parts'

  pub one_list : names ≡ others
  unfolding Same zero_same one_same
  one_list =
      let all : doings log ≡ acts 0 log ++ acts 1 log = ap doings parts ∙ doings_join (entries_by 0 (acts 0 log)) (entries_by 1 (acts 1 log))
      ∙ (λ i. doings_by 0 (acts 0 log) i ++ doings_by 1 (acts 1 log) i) in
      let shared : AreShared names others (doings log) = subst (AreShared names others) (sym all) (shared_both names others (acts 0 log) (acts 1 log) zero_same.1 one_same.1) in
      asked ∙ asked_same names others [] (doings log) shared ∙ ap (λ l. asked_after others [] (doings l)) one_log ∙ sym asked'

  pub one_telling : runs ≡ runs'
  one_telling = all_one t others steps log' t.setup runs runs' (subst (λ ns. AreAllRuns t ns steps log' t.setup runs) one_list
      (subst (λ l. AreAllRuns t names steps l t.setup runs) one_log h.all_runs)) k.all_runs
