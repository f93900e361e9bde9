-- What a turn makes of the history, of the caller that takes it, and of the others.
use Rattle.std.proofs.Common.{◌≡◌, ◌≢◌, inl, inr, ℕ, ◌+◌, ◌≤◌, List, [], ◌∷◌, ◌++◌, length, map, Option, Some, refl, sym, ap, ◌∙◌, subst, append_assoc, eq-eqb}
use Rattle.std.specs.Prelude.{drop}
use Rattle.std.proofs.lemmas.Bool.Decides.{eqb_tells}
use Rattle.std.proofs.lemmas.List.{append-nil, append_cancel_left, map-append}
use mathlib.Core.List.{IsPrefix}
use Rattle.hb_types.specs.declared.ids.CallerId.{CallerId}
use Rattle.hb_types.specs.declared.ids.NodeId.{NodeId}
use Rattle.hb_tree.specs.Table.{Table}
use Rattle.hb_names.specs.declared.names.TheConstants.{NAMES_MAX}
use Rattle.hb_names.specs.Names.{Name, Differ}
use Rattle.hb_tables.specs.declared.entry.Act.{Act}
use Rattle.hb_tables.specs.declared.entry.Entry.{Entry}
use Rattle.hb_tables.specs.Frames.{acts}
use Rattle.hb_tables.specs.History.{Every, IsLegal}
use Rattle.hb_tables.specs.Plain.{AreOwn}
use Rattle.hb_tables.proofs.FrameLemmas.{acts_append}
use Rattle.hb_call.specs.Growth.{EachNew, Grown, Grows, asked_after}
use Rattle.hb_call.specs.GrowthLaws.{asked_append, prefix_itself, prefix_more, rules_longer}
use Rattle.hb_cache.specs.declared.kept.Kept.{Kept}
use Rattle.hb_call.specs.OwnCache.{IsOwnCache, KeepsChecks}
use Rattle.hb_call.specs.OwnLaws.{own_grows, own_named}
use Rattle.hb_call.specs.Rules.{EntersBy, FitsRules}
use Rattle.hb_eval.specs.declared.machine.Machine.{Machine}
use Rattle.hb_eval.specs.Holding.{Holding, frames_of}
use Rattle.hb_eval.specs.Machines.{IsFineMachine, StandsFor, keeps}
use Rattle.hb_eval.specs.State.{tagged}
use Rattle.hb_eval.proofs.HoldingLemmas.{holding_waits}
use Rattle.hb_run.specs.History.{HasCaller, IsInTurn, block_of}
use Rattle.hb_turns.specs.Playing.{Plays, IsUnderWay, Came, Took, entries_by}
use Rattle.hb_call.specs.GrowthLaws.{split}
use Rattle.hb_run.proofs.HistoryLemmas.{is_some_block, turn_of_own}

-- ── the acts of what came ──

pub acts_by_itself : (c : ℕ) (l : List Act) → acts c (entries_by c l) ≡ l
acts_by_itself c [] = refl
acts_by_itself c (a ∷ l) = (let is = eq-eqb c c refl in rw is (ap (λ (x : List Act). a ∷ x) (acts_by_itself c l)))

pub acts_by_other : (c d : ℕ) (l : List Act) → c ≢ d → acts d (entries_by c l) ≡ []
acts_by_other c d [] apart = refl
acts_by_other c d (a ∷ l) apart = elim (eqb_tells d c) [
  | inl same ↦ absurd (apart (sym same.1))
  | inr other ↦ (let is = other.0 in rw is (acts_by_other c d l apart))
]

plain_acts : (c : ℕ) (l : List Act) → map (λ (e : Entry). e.act) (entries_by c l) ≡ l
plain_acts c [] = refl
plain_acts c (a ∷ l) = ap (λ (x : List Act). a ∷ x) (plain_acts c l)

pub own_by : (c : ℕ) (l : List Act) → AreOwn c (entries_by c l)
own_by c [] = tt
own_by c (a ∷ l) = (refl, own_by c l)

-- own entries are those of their acts
by_own : (c : ℕ) (log : List Entry) → AreOwn c log → log ≡ entries_by c (map (λ (e : Entry). e.act) log)
by_own c [] own = refl
by_own c (e ∷ log) own =
    ap (λ (l : List Entry). e ∷ l) (by_own c log own.1)
    ∙ ap (λ (d : ℕ). (let x : Entry = record { caller = record { 0 = d }; act = e.act } in x ∷ entries_by c (map (λ (e : Entry). e.act) log))) own.0

pub came_acts : (c : ℕ) (more : List Act) (old new : List Entry) → Came c more old new → acts c new ≡ acts c old ++ more
came_acts c more old new came = ap (acts c) (sym came.is) ∙ acts_append c old (entries_by c more) ∙ ap (λ (l : List Act). acts c old ++ l) (acts_by_itself c more)

pub others_acts : (c d : ℕ) (more : List Act) (old new : List Entry) → c ≢ d → Came c more old new → acts d new ≡ acts d old
others_acts c d more old new apart came =
    ap (acts d) (sym came.is) ∙ acts_append d old (entries_by c more) ∙ ap (λ (l : List Act). acts d old ++ l) (acts_by_other c d more apart) ∙ append-nil (acts d old)

-- ── the others ──

-- what a machine stands for, it does for longer lists of names
stands_longer : (t : Table) (names longer : List Name) (block steps : ℕ) (done : List (ℕ × Act)) (m : Machine) → IsPrefix names longer → StandsFor t names block steps done m → StandsFor t longer block steps done m
stands_longer t names longer block steps done m more s = record { same = λ known from few journal. s.same known (prefix_more names longer known more from) few journal; counts = s.counts; journal = s.journal }

-- a machine whose caller did nothing plays on
pub plays_on : (t : Table) (steps c d : ℕ) (came : List Act) (names longer : List Name) (old new : List Entry) (done : List (ℕ × Act)) (m : Machine) → c ≢ d → Came c came old new
    → IsPrefix names longer → Plays t steps d names old done m → Plays t steps d longer new done m
plays_on t steps c d came names longer old new done m apart is more p = record {
  caller = p.caller;
  plain = p.plain;
  block = p.block;
  runs = p.runs;
  fine = p.fine;
  holding = holding_waits d (m.state.made + 1) (frames_of m.frames.items) old new p.holding same (entries_by c came, is.is);
  own = own_named t names longer names longer d (Some []) new m.state.cache more more (own_grows t names names names names d (Some []) old new m.state.cache quiet (prefix_itself names) tt p.own);
  reads = same ∙ p.reads;
  stands = stands_longer t names longer p.block.0 steps done m more p.stands;
}
  where
    same : acts d new ≡ acts d old
    same = others_acts c d came old new apart is

    quiet : Grows d names names names old new
    quiet = record { made = []; grows = same ∙ sym (append-nil (acts d old)); kept = (entries_by c came, is.is); names = λ longer more. refl }

-- ── the one whose turn it is ──

untagged : (n : ℕ) (l : List Act) → map (λ (e : ℕ × Act). e.1) (tagged n l) ≡ l
untagged n [] = refl
untagged n (a ∷ l) = ap (λ x. a ∷ x) (untagged n l)

pub plays_turn : (t : Table) (steps c begun : ℕ) (came : List Act) (names longer : List Name) (old new : List Entry) (done : List (ℕ × Act)) (was now : Machine) → Plays t steps c names old done was → Came c came old new
    → IsFineMachine t now → Holding c (now.state.made + 1) (frames_of now.frames.items) new → KeepsChecks t c names longer names longer old new was.state.cache now.state.cache → now.caller ≡ was.caller → keeps now ≡ keeps was
    → ((block steps : ℕ) (done : List (ℕ × Act)) → StandsFor t names block steps done was
    → (more : List Act) × (acts c new ≡ acts c old ++ more) × StandsFor t longer block steps (done ++ tagged begun more) now)
    → Plays t steps c longer new (done ++ tagged begun came) now
plays_turn t steps c begun came names longer old new done was now p is fine holding checks caller kept turn =
    let made = turn p.block.0 steps done p.stands in
    let same : made.0 ≡ came = append_cancel_left (acts c old) made.0 came (sym made.1 ∙ came_acts c came old new is) in
    record {
      caller = ap (λ (x : CallerId). x.0) caller ∙ p.caller;
      plain = kept ∙ p.plain;
      block = p.block;
      runs = p.runs;
      fine = fine;
      holding = holding;
      own = checks.own (Some []) p.own;
      reads = came_acts c came old new is ∙ ap (λ (l : List Act). l ++ came) p.reads ∙ ap (λ (l : List Act). map (λ (e : ℕ × Act). e.1) done ++ l) (sym (untagged begun came))
          ∙ sym (map-append (λ (e : ℕ × Act). e.1) done (tagged begun came));
      stands = subst (λ (l : List Act). StandsFor t longer p.block.0 steps (done ++ tagged begun l) now) same made.2;
    }

-- ── the history ──

every_on : (F : List Entry → Entry → Type 0) (c : ℕ) (more : List Act) (old new : List Entry) → Every F old → Came c more old new
    → ((before after : List Entry) (e : Entry) → new ≡ before ++ e ∷ after → IsPrefix old before → e.caller.0 ≡ c → F before e) → Every F new
every_on F c more old new all came each before after e is = elim (split old (entries_by c more) before after e (came.is ∙ is)) [
  | inl behind ↦ each before after e is behind (among (entries_by c more) (own_by c more) behind.0
      (append_cancel_left old (entries_by c more) (behind.0 ++ e ∷ after) (came.is ∙ is ∙ ap (λ (l : List Entry). l ++ e ∷ after) (sym behind.1) ∙ append_assoc old behind.0 (e ∷ after))))
  | inr within ↦ all before within.0 e within.1
]
  where
    among : (xs : List Entry) → AreOwn c xs → (front : List Entry) → xs ≡ front ++ e ∷ after → e.caller.0 ≡ c
    among [] own [] is = absurd (let none : [] ≡ e ∷ after = is in cc none)
    among [] own (x ∷ front) is = absurd (let none : [] ≡ x ∷ (front ++ e ∷ after) = is in cc none)
    among (y ∷ xs) own [] is = let same : y ≡ e = cc is in subst (λ (z : Entry). z.caller.0 ≡ c) same own.0
    among (y ∷ xs) own (x ∷ front) is = among xs own.1 front (cc is)

own_join : (c : ℕ) (xs ys : List Entry) → AreOwn c xs → AreOwn c ys → AreOwn c (xs ++ ys)
own_join c [] ys own more = more
own_join c (x ∷ xs) ys own more = (own.0, own_join c xs ys own.1 more)

pub own_came : (c : ℕ) (more : List Act) (old new : List Entry) → AreOwn c old → Came c more old new → AreOwn c new
own_came c more old new own came = subst (AreOwn c) came.is (own_join c old (entries_by c more) own (own_by c more))

pub under_way_on : (t : Table) (limit c : ℕ) (more : List Act) (names longer : List Name) (old new : List Entry) (block : NodeId) → IsUnderWay t limit names old
    → IsLegal limit new → Came c more old new → IsPrefix names longer → (length names ≤ NAMES_MAX → length longer ≤ NAMES_MAX) → (Differ names → Differ longer)
    → Grown t c longer names longer old new → EachNew (EntersBy c []) c old new → block_of t c ≡ Some block → (c ≡ 0 → AreOwn 0 old)
    → IsUnderWay t limit longer new
under_way_on t limit c more names longer old new block u legal came on few differ grown entered runs alone = record {
  legal = legal;
  rules = every_on (λ before e. FitsRules t longer e.caller.0 before e.act) c more old new (λ before after e is. rules_longer t names longer e.caller.0 before e.act on (u.rules before after e is)) came
      (λ before after e is from own. subst (λ (d : ℕ). FitsRules t longer d before e.act) (sym own) (grown.rules before after e is from own));
  ways = every_on (λ before e. EntersBy e.caller.0 [] before e.act) c more old new u.ways came
      (λ before after e is from own. subst (λ (d : ℕ). EntersBy d [] before e.act) (sym own) (entered before after e is from own));
  callers = every_on (λ before e. HasCaller t e) c more old new u.callers came (λ before after e is from own. is_some_block (block_of t e.caller.0) block (ap (block_of t) own ∙ runs));
  in_turn = every_on IsInTurn c more old new u.in_turn came
      (λ before after e is from own zero. turn_of_own new before after e
      (let none : c ≡ 0 = sym own ∙ zero in subst (λ (d : ℕ). AreOwn d new) none (own_came c more old new (subst (λ (d : ℕ). AreOwn d old) (sym none) (alone none)) came)) is);
  differ = differ u.differ;
  few = few u.few;
  asked = λ known from.
      grown.names known from
      ∙ ap (λ (l : List Name). asked_after known l grown.made) (u.asked known (prefix_more names longer known on from))
      ∙ sym (asked_append known [] (map (λ (e : Entry). e.act) old) grown.made)
      ∙ ap (λ (l : List Act). asked_after known [] l) all_acts;
}
  where
    made : grown.made ≡ map (λ (e : Entry). e.act) (entries_by c more)
    made = append_cancel_left (acts c old) grown.made more (sym grown.grows ∙ came_acts c more old new came) ∙ sym (plain_acts c more)

    all_acts : map (λ (e : Entry). e.act) old ++ grown.made ≡ map (λ (e : Entry). e.act) new
    all_acts = ap (λ (l : List Act). map (λ (e : Entry). e.act) old ++ l) made ∙ sym (map-append (λ (e : Entry). e.act) old (entries_by c more)) ∙ ap (λ (l : List Entry). map (λ (e : Entry). e.act) l) came.is

-- ── the same, at a door that is known to be the caller's ──

-- what came through a door that was opened at this length
pub came_through : (c : ℕ) (old new : List Entry) (kept : IsPrefix old new) → AreOwn c (drop (length old) new) → (more : List Act) × Came c more old new
came_through c old new kept own = (
  map (λ (e : Entry). e.act) kept.0,
  record
      { is = ap (λ (l : List Entry). old ++ l) (sym (by_own c kept.0 (subst (AreOwn c) (gone old kept.0) (subst (λ (l : List Entry). AreOwn c (drop (length old) l)) (sym kept.1) own)))) ∙ kept.1 },
)
  where
    gone : (xs ys : List Entry) → drop (length xs) (xs ++ ys) ≡ ys
    gone [] ys = refl
    gone (x ∷ xs) ys = gone xs ys

-- what is kept of checks through it
checks_here : (t : Table) (c : ℕ) (names longer : List Name) (old new : List Entry) (d : ℕ) (front : List Entry) (cache left : List (Option Kept)) → d ≡ c → front ≡ old
    → KeepsChecks t d names longer names longer front new cache left → KeepsChecks t c names longer names longer old new cache left
checks_here t c names longer old new d front cache left mine there checks =
    subst (λ (x : ℕ). KeepsChecks t x names longer names longer old new cache left) mine (subst (λ (l : List Entry). KeepsChecks t d names longer names longer l new cache left) there checks)

pub took_door : (t : Table) (c : ℕ) (names longer : List Name) (old new : List Entry) (was now : Machine) (d : ℕ) (front : List Entry) → d ≡ c → front ≡ old → (came : (more : List Act) × Came c more old new)
    → IsFineMachine t now → Holding d (now.state.made + 1) (frames_of now.frames.items) new → KeepsChecks t d names longer names longer front new was.state.cache now.state.cache → now.caller ≡ was.caller → keeps now ≡ keeps was
    → ((block steps : ℕ) (done : List (ℕ × Act)) → StandsFor t names block steps done was
    → (more : List Act) × (acts d new ≡ acts d front ++ more) × StandsFor t longer block steps (done ++ tagged now.state.begun more) now)
    → Took t c names longer old new was now
took_door t c names longer old new was now d front mine there came fine holding checks caller kept turn = record {
  more = came.0;
  came = came.1;
  plays = λ steps done p.
      plays_turn t steps c now.state.begun came.0 names longer old new done was now p came.1 fine
      (subst (λ (x : ℕ). Holding x (now.state.made + 1) (frames_of now.frames.items) new) mine holding)
      (checks_here t c names longer old new d front was.state.cache now.state.cache mine there checks) caller kept
      (subst (λ (x : ℕ). Turning x old) mine (subst (Turning d) there turn));
}
  where
    Turning : ℕ → List Entry → Type 0
    Turning x log = (block steps : ℕ) (done : List (ℕ × Act)) → StandsFor t names block steps done was
        → (more : List Act) × (acts x new ≡ acts x log ++ more) × StandsFor t longer block steps (done ++ tagged now.state.begun more) now

pub under_way_door : (t : Table) (limit c : ℕ) (names longer : List Name) (old new : List Entry) (block : NodeId) (cache left : List (Option Kept)) (d : ℕ) (front : List Entry) → d ≡ c
    → front ≡ old → IsUnderWay t limit names old
    → IsLegal limit new → (came : (more : List Act) × Came c more old new) → IsPrefix names longer → (length names ≤ NAMES_MAX → length longer ≤ NAMES_MAX) → (Differ names → Differ longer)
    → Grown t d longer names longer front new → IsOwnCache t names names c (Some []) old cache → KeepsChecks t d names longer names longer front new cache left → block_of t c ≡ Some block → (c ≡ 0 → AreOwn 0 old)
    → IsUnderWay t limit longer new
under_way_door t limit c names longer old new block cache left d front mine there u legal came more few differ grown own checks runs alone =
    under_way_on t limit c came.0 names longer old new block u legal came.1 more few differ
    (subst (λ (x : ℕ). Grown t x longer names longer old new) mine (subst (λ (l : List Entry). Grown t d longer names longer l new) there grown))
    ((checks_here t c names longer old new d front cache left mine there checks).ways [] own) runs alone
