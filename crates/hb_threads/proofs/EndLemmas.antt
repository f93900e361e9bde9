-- All scripts came to their ends: what is put together is a history of the program.
use Rattle.std.proofs.Common.{◌≡◌, ◌≢◌, inl, inr, ℕ, zero, suc, ◌+◌, ◌<◌, ◌≤◌, Bool, true, false, cond, List, [], ◌∷◌, ◌++◌, length, map, get_or, Option, Some, None, refl, sym, ap, subst, ◌∙◌, arith}
use Rattle.std.specs.Prelude.{All, Contains, slice_get, is_some}
use Rattle.std.proofs.lemmas.List.Elements.{All-from_recursion}
use Rattle.std.specs.List.{AllByRecursion}
use Rattle.std.proofs.lemmas.Bool.Decides.{eqb_tells}
use native.Mathlib.Decide.{ℕ_discrete, dec_lt}
use mathlib.Core.Logic.{dite}
use mathlib.Core.List.{IsPrefix}
use mathlib.Core.Option.{some, some-injective, some-ne-none}
use lib.ListN.{get_elem?}
use Rattle.hb_types.specs.declared.ids.NodeId.{NodeId}
use Rattle.hb_types.specs.declared.ids.NameId.{NameId}
use Rattle.hb_tree.specs.Table.{Table}
use Rattle.hb_names.specs.declared.names.TheConstants.{NAMES_MAX}
use Rattle.hb_names.specs.Names.{Name, place}
use Rattle.hb_names.proofs.NameLemmas.{place-at}
use Rattle.hb_tables.specs.declared.entry.Act.{Act}
use Rattle.hb_tables.specs.declared.entry.Entry.{Entry}
use Rattle.hb_tables.specs.Frames.{acts}
use Rattle.hb_tables.specs.History.{journal}
use Rattle.hb_tables.specs.Plain.{AreOwn}
use Rattle.hb_tables.specs.Standing.{standing}
use Rattle.hb_tables.proofs.FrontLemmas.{acts_none}
use Rattle.hb_call.specs.Held.{stands}
use Rattle.hb_eval.specs.declared.script_run.ScriptRun.{ScriptRun}
use Rattle.hb_eval.specs.Noting.{journal_of}
use Rattle.hb_eval.specs.Told.{Told, is_done, told_by}
use Rattle.hb_row.specs.declared.row.NameRow.{NameRow}
use Rattle.hb_row.specs.declared.seat.NameSeat.{NameSeat}
use Rattle.hb_row.specs.Known.{IsNamed}
use Rattle.hb_row.specs.Seats.{IsSeatOf, IsIn, IsGathered, HasAll, asked_by}
use Rattle.hb_fronts.specs.declared.caller.CallerOptions.{CallerOptions}
use Rattle.hb_fronts.specs.Exits.{AreAllExits, AreExits, AreParts, ExitsBehind, HasJournal, IsExit, IsJoined, IsPart, View, WasAsked}
use Rattle.hb_run.specs.History.{IsHistory}
use Rattle.hb_fronts.proofs.FrontLemmas.{history_of_fronts, part_of_journal, own_alone}
use Rattle.hb_words.specs.declared.view.View.{View as WordView}
use Rattle.hb_words.specs.declared.words.MethodWords.{MethodWords}
use Rattle.hb_words.specs.declared.words.WordSeat.{WordSeat}
use Rattle.hb_words.specs.Seats.{IsSeatAt, view_of, seat_front, seat_caller}
use Rattle.hb_words.specs.Words.{among, Covers, Stands, IsWhole}
use Rattle.hb_threads.specs.declared.job.Job.{Job}
use Rattle.hb_threads.specs.Ends.{AreRunsOf}
use Rattle.hb_threads.specs.Heads.{IsHead, IsSince}
use Rattle.hb_threads.specs.Jobs.{AreJobs, HasRun, IsRunOr, job_view}
use Rattle.hb_threads.specs.Setups.{IsSetUp}
use Rattle.hb_threads.proofs.HeadLemmas.{journal_begins, prefix_on}

-- these are the jobs of the callers from this one on, and each is so
abbrev pub JobsFrom : (Job → Type 0) → ℕ → List Job → Type 0
JobsFrom P c [] = Unit {0}
JobsFrom P c (j ∷ js) = P j × (j.caller.0 ≡ c) × JobsFrom P (suc c) js

from_at : (P : Job → Type 0) (c : ℕ) (jobs : List Job) → ((k : ℕ) (d : Job) → k < length jobs → P (get_or jobs k d) × ((get_or jobs k d).caller.0 ≡ c + k)) → JobsFrom P c jobs
from_at P c [] each = tt
from_at P c (j ∷ js) each =
    let here = each 0 j (omega arith) in
    let none : c + 0 ≡ c = omega arith in (
      here.0,
      here.1 ∙ none,
      from_at P (suc c) js (λ k d below.
          let later = each (suc k) d (omega (arith, below)) in
          let shift : c + suc k ≡ suc c + k = omega arith in
          (later.0, later.1 ∙ shift)),
    )

pub jobs_from : (P : Job → Type 0) (jobs : List Job) → AreJobs P jobs → JobsFrom P 1 jobs
jobs_from P jobs are = from_at P 1 jobs (λ k d below. let it = are k d below in let shift : suc k ≡ 1 + k = omega arith in (it.0, it.1 ∙ shift))

abbrev pub seats_of : List Job → List WordSeat
seats_of jobs = map (λ (j : Job). j.seat) jobs

abbrev pub names_of : List Job → List NameSeat
names_of jobs = map (λ (j : Job). j.names) jobs

abbrev pub views_of : List Job → List View
views_of jobs = map job_view jobs

there_map : {A B : Type 0} (f : A → B) (x : A) (xs : List A) → Stands x xs → Stands (f x) (map f xs)
there_map f x [] at = absurd (some-ne-none x (sym at.1))
there_map f x (y ∷ ys) (zero, e) = (0, ap (λ z. some (f z)) (some-injective y x e))
there_map f x (y ∷ ys) (suc i, e) = let later = there_map f x ys (i, e) in (suc later.0, later.1)

-- ── what close and gather ask ──

pub seats_fit : (t : Table) (options : CallerOptions) (words : MethodWords) (row : NameRow) (c : ℕ) (jobs : List Job) → JobsFrom (HasRun t options words row) c jobs → AllByRecursion (λ (o : WordSeat). IsSeatAt words o) (seats_of jobs)
seats_fit t options words row c [] from = tt
seats_fit t options words row c (j ∷ js) from = (from.0.seated.seat, seats_fit t options words row (suc c) js from.2)

pub names_fit : (t : Table) (options : CallerOptions) (words : MethodWords) (row : NameRow) (c : ℕ) (jobs : List Job) → JobsFrom (HasRun t options words row) c jobs → AllByRecursion (IsSeatOf row.table.shared.table_id) (names_of jobs)
names_fit t options words row c [] from = tt
names_fit t options words row c (j ∷ js) from = (from.0.seated.names, names_fit t options words row (suc c) js from.2)

among_jobs : (t : Table) (options : CallerOptions) (words : MethodWords) (row : NameRow) (c : ℕ) (jobs : List Job) → JobsFrom (HasRun t options words row) c jobs
    → (d : ℕ) → c ≤ d → d < c + length jobs → among d (map seat_caller (seats_of jobs)) ≡ true
among_jobs t options words row c [] from d low below = absurd (omega (arith, low, below))
among_jobs t options words row c (j ∷ js) from d low below = elim (eqb_tells d (seat_caller j.seat)) [
  | inl same ↦ subst (λ (b : Bool). cond b true rest ≡ true) (sym same.0) refl
  | inr other ↦ subst (λ (b : Bool). cond b true rest ≡ true) (sym other.0) (among_jobs t options words row (suc c) js from.2 d (later (λ e. other.1 (e ∙ sym mine))) (omega (arith, below)))
]
  where
    rest : Bool
    rest = among d (map seat_caller (seats_of js))

    mine : seat_caller j.seat ≡ c
    mine = from.0.seated.mine ∙ from.1

    later : d ≢ c → suc c ≤ d
    later apart = omega (arith, low, apart)

own_among : (v : WordView) → v.caller ≡ 0 → v.owns ≡ v.caller ∷ [] → (c : ℕ) → c ≡ 0 → among c v.owns ≡ true
own_among v zero_is own c same = rw (own, zero_is, same) refl

pub covers_jobs : (t : Table) (options : CallerOptions) (words : MethodWords) (row : NameRow) (first : WordSeat) (asking : NameSeat) (jobs : List Job)
    → IsHead words row (length jobs + 1) first asking → JobsFrom (HasRun t options words row) 1 jobs → Covers (view_of first) (map seat_caller (seats_of jobs))
covers_jobs t options words row first asking jobs head from c below = let counted = head.counted in dite (ℕ_discrete c 0)
    (λ same. inl (own_among (view_of first) head.mine first.own c same))
    (λ other. inr (among_jobs t options words row 1 jobs from c (omega (arith, other)) (omega (arith, below, counted))))

has_jobs : (t : Table) (options : CallerOptions) (words : MethodWords) (row : NameRow) (c : ℕ) (jobs : List Job) → JobsFrom (HasRun t options words row) c jobs
    → (d : ℕ) → c ≤ d → d < c + length jobs → (seat : NameSeat) × IsIn seat (names_of jobs) × (seat.place.me.0.caller ≡ d)
has_jobs t options words row c [] from d low below = absurd (omega (arith, low, below))
has_jobs t options words row c (j ∷ js) from d low below = dite (ℕ_discrete d c)
    (λ same. (j.names, (0, refl), from.0.seated.names.caller ∙ from.0.seated.named ∙ from.1 ∙ sym same))
    (λ other. let later = has_jobs t options words row (suc c) js from.2 d (omega (arith, low, other)) (omega (arith, below)) in (later.0, (suc later.1.0, later.1.1), later.2))

pub has_all : (t : Table) (options : CallerOptions) (words : MethodWords) (row : NameRow) (first : WordSeat) (asking : NameSeat) (jobs : List Job)
    → IsHead words row (length jobs + 1) first asking → JobsFrom (HasRun t options words row) 1 jobs → HasAll asking.place.me.0.made (asking ∷ names_of jobs)
has_all t options words row first asking jobs head from c below = let made = head.names_fit.made ∙ head.names_counted in dite (ℕ_discrete c 0)
    (λ same. (asking, (0, refl), head.names_fit.caller ∙ head.named ∙ sym same))
    (λ other. let later = has_jobs t options words row 1 jobs from c (omega (arith, other)) (omega (arith, below, made)) in (later.0, (suc later.1.0, later.1.1), later.2))

-- ── the exits ──

run_of : (t : Table) (options : CallerOptions) (words : MethodWords) (row : NameRow) (c : ℕ) (j : Job) (r : ScriptRun) → HasRun t options words row j → j.caller.0 ≡ c → j.run ≡ Some r → IsRunOr t options c (job_view j) (Some r)
run_of t options words row c j r ran mine is = subst (λ (d : ℕ). IsRunOr t options d (job_view j) (Some r)) mine (subst (IsRunOr t options j.caller.0 (job_view j)) is ran.run)

exits_of : (t : Table) (options : CallerOptions) (words : MethodWords) (row : NameRow) (c : ℕ) (ss : List (NameId × NodeId)) (jobs : List Job) (runs : List ScriptRun)
    → length jobs ≡ length ss → JobsFrom (HasRun t options words row) c jobs → AreRunsOf jobs runs → AreExits t options.steps c ss (views_of jobs) (map told_by runs)
exits_of t options words row c [] [] [] many from ran = tt
exits_of t options words row c [] [] (r ∷ rs) many from ran = absurd ran
exits_of t options words row c [] (j ∷ js) runs many from ran = absurd (omega (arith, many))
exits_of t options words row c (s ∷ ss) [] runs many from ran = absurd (omega (arith, many))
exits_of t options words row c (s ∷ ss) (j ∷ js) [] many from ran = absurd ran
exits_of t options words row c (s ∷ ss) (j ∷ js) (r ∷ rs) many from ran =
    ((run_of t options words row c j r from.0 from.1 ran.0).0, exits_of t options words row (suc c) ss js rs (omega (arith, many)) from.2 ran.1)

none_ran : (jobs : List Job) (runs : List ScriptRun) → length jobs ≡ 0 → AreRunsOf jobs runs → (views_of jobs ≡ []) × (map told_by runs ≡ [])
none_ran [] [] many ran = (refl, refl)
none_ran [] (r ∷ rs) many ran = absurd ran
none_ran (j ∷ js) runs many ran = absurd (omega (arith, many))

pub all_exits : (t : Table) (options : CallerOptions) (words : MethodWords) (row : NameRow) (setup : Option NodeId) (goes_on : Bool) (once : View) (runs more : List ScriptRun) (jobs : List Job)
    → IsSetUp t options setup goes_on once runs → AreOwn 0 once.front → length jobs ≡ cond goes_on (length t.scripts) 0 → JobsFrom (HasRun t options words row) 1 jobs → AreRunsOf jobs more
    → AreAllExits t options.steps setup once (views_of jobs) (map told_by (runs ++ more))
all_exits t options words row None goes_on once runs more jobs set own many from ran =
    let count : length jobs ≡ length t.scripts = subst (λ (b : Bool). length jobs ≡ cond b (length t.scripts) 0) set.0 many in
    subst (λ (l : List ScriptRun). AreAllExits t options.steps None once (views_of jobs) (map told_by (l ++ more))) (sym set.1)
    (set.2, set.3, exits_of t options words row 1 t.scripts jobs more count from ran)
all_exits t options words row (Some block) goes_on once runs more jobs set own many from ran =
    subst (λ (l : List ScriptRun). AreAllExits t options.steps (Some block) once (views_of jobs) (map told_by (l ++ more))) (sym set.1)
    (set.3, own, behind (is_done set.0.outcome) (subst (λ (b : Bool). length jobs ≡ cond b (length t.scripts) 0) set.2 many))
  where
    behind : (b : Bool) → length jobs ≡ cond b (length t.scripts) 0 → ExitsBehind t options.steps b (views_of jobs) (map told_by more)
    behind true count = exits_of t options words row 1 t.scripts jobs more count from ran
    behind false count = none_ran jobs more count ran

-- ── the parts ──

parts_of : (names : List Name) (log : List Entry) (t : Table) (options : CallerOptions) (words : MethodWords) (row : NameRow) (c : ℕ) (jobs : List Job) → JobsFrom (HasRun t options words row) c jobs
    → ((j : Job) → Stands j jobs → IsPart names log (seat_caller j.seat) (job_view j)) → ((d : ℕ) → c + length jobs ≤ d → acts d log ≡ []) → AreParts names log c (views_of jobs)
parts_of names log t options words row c [] from each none = λ d low. none d (omega (arith, low))
parts_of names log t options words row c (j ∷ js) from each none = (
  subst (λ (d : ℕ). IsPart names log d (job_view j)) (from.0.seated.mine ∙ from.1) (each j (0, refl)),
  parts_of names log t options words row (suc c) js from.2 (λ k at. each k (suc at.0, at.1)) (λ d low. none d (omega (arith, low))),
)

at_place : (xs : List Name) (k : ℕ) (name : Name) → slice_get xs k ≡ Some name → Contains xs name
at_place [] k name e = absurd cc
at_place (x ∷ xs) zero name e = (0, omega arith, let same : x ≡ name = cc in same)
at_place (x ∷ xs) (suc k) name e = let later = at_place xs k name e in (suc later.0, omega (arith, later.1), later.2)

contains_named : (name : Name) (xs : List Name) → IsNamed name xs → Contains xs name
contains_named name xs named = go (place xs name) refl named
  where
    go : (o : Option ℕ) → place xs name ≡ o → is_some o ≡ true → Contains xs name
    go None is some_there = absurd (cc some_there)
    go (Some k) is some_there = at_place xs k name (place-at xs name k is)

asked_jobs : (name : Name) (jobs : List Job) (seat : NameSeat) → IsIn seat (names_of jobs) → Contains (asked_by seat) name → WasAsked name (views_of jobs)
asked_jobs name [] seat at asked = absurd (some-ne-none seat (sym at.1))
asked_jobs name (j ∷ js) seat (zero, e) asked = inl (subst (λ (s : NameSeat). Contains (asked_by s) name) (sym (some-injective j.names seat e)) asked)
asked_jobs name (j ∷ js) seat (suc i, e) asked = inr (asked_jobs name js seat (i, e) asked)

asked_all : (name : Name) (once : View) (asking : NameSeat) (jobs : List Job) (seat : NameSeat) → asked_by asking ≡ once.asked → IsIn seat (asking ∷ names_of jobs) → Contains (asked_by seat) name → WasAsked name (once ∷ views_of jobs)
asked_all name once asking jobs seat same (zero, e) asked = inl (subst (λ (l : List Name). Contains l name) same (subst (λ (s : NameSeat). Contains (asked_by s) name) (sym (some-injective asking seat e)) asked))
asked_all name once asking jobs seat same (suc i, e) asked = inr (asked_jobs name jobs seat (i, e) asked)

there_at : (names : List Name) (name : Name) → Contains names name → (i : ℕ) × (get_elem? names i ≡ some name)
there_at names name h = go names h.0 h.1 h.2
  where
    go : (xs : List Name) (k : ℕ) → k < length xs → get_or xs k name ≡ name → (i : ℕ) × (get_elem? xs i ≡ some name)
    go [] k below e = absurd (omega (arith, below))
    go (x ∷ xs) zero below e = (0, ap (λ y. some y) e)
    go (x ∷ xs) (suc k) below e = let later = go xs k (omega (arith, below)) e in (suc later.0, later.1)

pub joined : (t : Table) (limit : ℕ) (options : CallerOptions) (words : MethodWords) (row : NameRow) (names : List Name) (log : List Entry) (once : View) (first : WordSeat) (asking : NameSeat) (jobs : List Job)
    → IsHead words row (length jobs + 1) first asking → IsSince once first asking → JobsFrom (HasRun t options words row) 1 jobs
    → IsWhole log limit (view_of first).made (seat_front first ∷ map seat_front (seats_of jobs)) → IsGathered (asking ∷ names_of jobs) names
    → IsJoined limit names log (once ∷ views_of jobs)
joined t limit options words row names log once first asking jobs head since from whole gathered = record {
  legal = whole.legal;
  parts = (own_part, parts_of names log t options words row 1 jobs from each (λ d low. acts_none d log (let counted = head.counted in whole.others d (omega (arith, low, counted)))));
  differ = gathered.differ;
  few = gathered.few;
  asked = λ name there. let at = there_at names name there in let by = gathered.asked at.0 name at.1 in asked_all name once asking jobs by.0 since.asked by.1 (contains_named name (asked_by by.0) by.2);
}
  where
    own_part : IsPart names log 0 once
    own_part = let mine = whole.each_front (seat_front first) (0, refl) in
        part_of_journal names log 0 once (prefix_on once.front (view_of first).seen log since.begins mine.0)
        (subst (λ (c : ℕ). journal c log ≡ journal c (view_of first).seen) head.mine mine.1 ∙ since.same)
        (subst (λ (l : List Name). IsPrefix l names) since.known (gathered.known asking (0, refl)))

    each : (j : Job) → Stands j jobs → IsPart names log (seat_caller j.seat) (job_view j)
    each j at =
        let seat = there_map (λ (k : Job). k.seat) j jobs at in
        let front = there_map seat_front j.seat (seats_of jobs) seat in
        let mine = whole.each_front (seat_front j.seat) (suc front.0, front.1) in
        let asks = there_map (λ (k : Job). k.names) j jobs at in
        part_of_journal names log (seat_caller j.seat) (job_view j) mine.0 mine.1 (gathered.known j.names (suc asks.0, asks.1))

-- ── what caller 0 knew once has its own entries alone ──

pub own_once : (t : Table) (limit : ℕ) (options : CallerOptions) (words : MethodWords) (row : NameRow) (log : List Entry) (once : View) (first : WordSeat) (asking : NameSeat) (jobs : List Job)
    → IsHead words row (length jobs + 1) first asking → IsSince once first asking → (0 < length jobs → (c : ℕ) → 1 ≤ c → journal c once.front ≡ [])
    → IsWhole log limit (view_of first).made (seat_front first ∷ map seat_front (seats_of jobs)) → AreOwn 0 once.front
own_once t limit options words row log once first asking jobs head since alone whole = own_alone 0 once.front (λ d apart. acts_none d once.front (none d (omega (arith, apart))))
  where
    none : (d : ℕ) → 1 ≤ d → journal d once.front ≡ []
    none d low = dite (dec_lt 0 (length jobs)) (λ some_job. alone some_job d low)
        (λ no_job. let counted = head.counted in
        journal_begins d once.front log (prefix_on once.front (view_of first).seen log since.begins (whole.each_front (seat_front first) (0, refl)).0)
        (whole.others d (omega (arith, low, no_job, counted))))

-- ── nobody holds anything ──

free_jobs : (names : List Name) (log : List Entry) (t : Table) (options : CallerOptions) (words : MethodWords) (row : NameRow) (c : ℕ) (jobs : List Job)
    → JobsFrom (HasRun t options words row) c jobs → AreParts names log c (views_of jobs) → (d q : ℕ) → c ≤ d → stands d q log ≡ []
free_jobs names log t options words row c [] from parts d q low = ap (standing q) (parts d low)
free_jobs names log t options words row c (j ∷ js) from parts d q low = dite (ℕ_discrete d c)
    (λ same. subst (λ (x : ℕ). stands x q log ≡ []) (sym same)
    (ap (standing q) parts.0.whole ∙ subst (λ (x : ℕ). stands x q (view_of j.seat).seen ≡ []) from.1 (from.0.free q)))
    (λ other. free_jobs names log t options words row (suc c) js from.2 parts.1 d q (omega (arith, low, other)))

free_setup : (t : Table) (options : CallerOptions) (setup : Option NodeId) (goes_on : Bool) (once : View) (runs : List ScriptRun) → IsSetUp t options setup goes_on once runs → (q : ℕ) → stands 0 q once.front ≡ []
free_setup t options None goes_on once runs set q = ap (standing q) set.2
free_setup t options (Some block) goes_on once runs set q = set.5 q

pub all_free : (names : List Name) (log : List Entry) (t : Table) (options : CallerOptions) (limit : ℕ) (words : MethodWords) (row : NameRow) (setup : Option NodeId) (goes_on : Bool) (once : View) (runs : List ScriptRun) (jobs : List Job)
    → IsSetUp t options setup goes_on once runs → JobsFrom (HasRun t options words row) 1 jobs → IsJoined limit names log (once ∷ views_of jobs) → (c q : ℕ) → stands c q log ≡ []
all_free names log t options limit words row setup goes_on once runs jobs set from join c q = dite (ℕ_discrete c 0)
    (λ same. subst (λ (x : ℕ). stands x q log ≡ []) (sym same) (ap (standing q) join.parts.0.whole ∙ free_setup t options setup goes_on once runs set q))
    (λ other. free_jobs names log t options words row 1 jobs from join.parts.1 c q (omega (arith, other)))

-- ── the journals ──

-- a journal of what the caller knew is one of the whole list
journal_whole : (t : Table) (names : List Name) (log : List Entry) (options : CallerOptions) (c : ℕ) (v : View) (r : ScriptRun) → length names ≤ NAMES_MAX
    → IsExit t options.steps c v (told_by r) → HasJournal options.keep_journal v.front r → IsPart names log c v → HasJournal options.keep_journal log r
journal_whole t names log options c v r few exit kept part =
    let ran = exit.run names part.known few in
    let whose : r.caller.0 ≡ c = ap (λ (x : Told). x.caller) ran.2 in
    let whole : acts r.caller.0 log ≡ acts r.caller.0 v.front = subst (λ (x : ℕ). acts x log ≡ acts x v.front) (sym whose) part.whole in
    kept ∙ ap (λ (l : List Act). journal_of options.keep_journal r.caller l) (sym whole)

jobs_journals : (t : Table) (names : List Name) (log : List Entry) (options : CallerOptions) (words : MethodWords) (row : NameRow) (c : ℕ) (jobs : List Job) (runs : List ScriptRun) → length names ≤ NAMES_MAX
    → JobsFrom (HasRun t options words row) c jobs → AreRunsOf jobs runs → AreParts names log c (views_of jobs) → AllByRecursion (HasJournal options.keep_journal log) runs
jobs_journals t names log options words row c [] [] few from ran parts = tt
jobs_journals t names log options words row c [] (r ∷ rs) few from ran parts = absurd ran
jobs_journals t names log options words row c (j ∷ js) [] few from ran parts = absurd ran
jobs_journals t names log options words row c (j ∷ js) (r ∷ rs) few from ran parts =
    let came = run_of t options words row c j r from.0 from.1 ran.0 in
    (journal_whole t names log options c (job_view j) r few came.0 came.1 parts.0, jobs_journals t names log options words row (suc c) js rs few from.2 ran.1 parts.1)

pub all_journals : (t : Table) (names : List Name) (log : List Entry) (options : CallerOptions) (limit : ℕ) (words : MethodWords) (row : NameRow) (setup : Option NodeId) (goes_on : Bool) (once : View) (runs more : List ScriptRun) (jobs : List Job)
    → IsSetUp t options setup goes_on once runs → JobsFrom (HasRun t options words row) 1 jobs → AreRunsOf jobs more → IsJoined limit names log (once ∷ views_of jobs)
    → AllByRecursion (HasJournal options.keep_journal log) (runs ++ more)
all_journals t names log options limit words row None goes_on once runs more jobs set from ran join =
    subst (λ (l : List ScriptRun). AllByRecursion (HasJournal options.keep_journal log) (l ++ more)) (sym set.1)
    (jobs_journals t names log options words row 1 jobs more join.few from ran join.parts.1)
all_journals t names log options limit words row (Some block) goes_on once runs more jobs set from ran join =
    subst (λ (l : List ScriptRun). AllByRecursion (HasJournal options.keep_journal log) (l ++ more)) (sym set.1)
    (journal_whole t names log options 0 once set.0 join.few set.3 set.4 join.parts.0, jobs_journals t names log options words row 1 jobs more join.few from ran join.parts.1)

-- ── the runs, one by one ──

pub runs_push : (jobs : List Job) (runs : List ScriptRun) (j : Job) (r : ScriptRun) → AreRunsOf jobs runs → j.run ≡ Some r → AreRunsOf (jobs ++ j ∷ []) (runs ++ r ∷ [])
runs_push [] [] j r ran is = (is, tt)
runs_push [] (x ∷ xs) j r ran is = absurd ran
runs_push (k ∷ ks) [] j r ran is = absurd ran
runs_push (k ∷ ks) (x ∷ xs) j r ran is = (ran.0, runs_push ks xs j r ran.1 is)

-- ── as the code has it ──

pub each_seat : (t : Table) (options : CallerOptions) (words : MethodWords) (row : NameRow) (jobs : List Job) (seats : List WordSeat) → seats ≡ seats_of jobs → AreJobs (HasRun t options words row) jobs → All (λ (o : WordSeat). IsSeatAt words o) seats
each_seat t options words row jobs seats is are =
    subst (All (λ (o : WordSeat). IsSeatAt words o)) (sym is) (All-from_recursion (λ (o : WordSeat). IsSeatAt words o) (seats_of jobs) (seats_fit t options words row 1 jobs (jobs_from (HasRun t options words row) jobs are)))

pub each_name_seat : (t : Table) (options : CallerOptions) (words : MethodWords) (row : NameRow) (jobs : List Job) (seats : List NameSeat) → seats ≡ names_of jobs → AreJobs (HasRun t options words row) jobs → All (IsSeatOf row.table.shared.table_id) seats
each_name_seat t options words row jobs seats is are =
    subst (All (IsSeatOf row.table.shared.table_id)) (sym is) (All-from_recursion (IsSeatOf row.table.shared.table_id) (names_of jobs) (names_fit t options words row 1 jobs (jobs_from (HasRun t options words row) jobs are)))

head_of : (words : MethodWords) (row : NameRow) (n count : ℕ) (first : WordSeat) (asking : NameSeat) → n ≡ count → IsHead words row (count + 1) first asking → IsHead words row (n + 1) first asking
head_of words row n count first asking same head = subst (λ (m : ℕ). IsHead words row (m + 1) first asking) (sym same) head

pub seats_cover : (t : Table) (options : CallerOptions) (count : ℕ) (words : MethodWords) (row : NameRow) (first : WordSeat) (asking : NameSeat) (jobs : List Job) (seats : List WordSeat)
    → length jobs ≡ count → IsHead words row (count + 1) first asking → seats ≡ seats_of jobs → AreJobs (HasRun t options words row) jobs → Covers (view_of first) (map seat_caller seats)
seats_cover t options count words row first asking jobs seats many head is are =
    subst (λ (l : List WordSeat). Covers (view_of first) (map seat_caller l)) (sym is)
    (covers_jobs t options words row first asking jobs (head_of words row (length jobs) count first asking many head) (jobs_from (HasRun t options words row) jobs are))

pub names_all : (t : Table) (options : CallerOptions) (count : ℕ) (words : MethodWords) (row : NameRow) (first : WordSeat) (asking : NameSeat) (jobs : List Job) (seats : List NameSeat)
    → length jobs ≡ count → IsHead words row (count + 1) first asking → seats ≡ names_of jobs → AreJobs (HasRun t options words row) jobs → HasAll asking.place.me.0.made (asking ∷ seats)
names_all t options count words row first asking jobs seats many head is are =
    subst (λ (l : List NameSeat). HasAll asking.place.me.0.made (asking ∷ l)) (sym is)
    (has_all t options words row first asking jobs (head_of words row (length jobs) count first asking many head) (jobs_from (HasRun t options words row) jobs are))

-- what the code has when all seats were put together
pub record Ended (t : Table) (limit : ℕ) (options : CallerOptions) (words : MethodWords) (row : NameRow) (goes_on : Bool) (once : View) (before all : List ScriptRun) (first : WordSeat) (asking : NameSeat) (jobs : List Job) (seats : List WordSeat) (others : List NameSeat) (names : List Name) (log : List Entry) : Type 0 where
  pub set_up : IsSetUp t options t.setup goes_on once before
  pub count : ℕ
  pub behind : count ≡ cond goes_on (length t.scripts) 0
  pub many : length jobs ≡ count
  pub head : IsHead words row (count + 1) first asking
  pub since : IsSince once first asking
  pub alone : 0 < count → (c : ℕ) → 1 ≤ c → journal c once.front ≡ []
  pub ran : AreJobs (HasRun t options words row) jobs
  pub seats_are : seats ≡ seats_of jobs
  pub others_are : others ≡ names_of jobs
  pub runs : (more : List ScriptRun) × (all ≡ before ++ more) × AreRunsOf jobs more
  pub whole : IsWhole log limit (view_of first).made (seat_front first ∷ map seat_front seats)
  pub gathered : IsGathered (asking ∷ others) names

module _ {t : Table} {limit : ℕ} {options : CallerOptions} {words : MethodWords} {row : NameRow} {goes_on : Bool} {once : View} {before all : List ScriptRun} {first : WordSeat} {asking : NameSeat} {jobs : List Job} {seats : List WordSeat} {others : List NameSeat} {names : List Name} {log : List Entry} where
  ended_head : Ended t limit options words row goes_on once before all first asking jobs seats others names log → IsHead words row (length jobs + 1) first asking
  ended_head e = head_of words row (length jobs) e.count first asking e.many e.head

  ended_whole : Ended t limit options words row goes_on once before all first asking jobs seats others names log → IsWhole log limit (view_of first).made (seat_front first ∷ map seat_front (seats_of jobs))
  ended_whole e = subst (λ (l : List WordSeat). IsWhole log limit (view_of first).made (seat_front first ∷ map seat_front l)) e.seats_are e.whole

  ended_joined : Ended t limit options words row goes_on once before all first asking jobs seats others names log → IsJoined limit names log (once ∷ views_of jobs)
  ended_joined e =
      joined t limit options words row names log once first asking jobs (ended_head e) e.since (jobs_from (HasRun t options words row) jobs e.ran)
      (ended_whole e) (subst (λ (l : List NameSeat). IsGathered (asking ∷ l) names) e.others_are e.gathered)

  pub ended_history : Ended t limit options words row goes_on once before all first asking jobs seats others names log → IsHistory t limit options.steps names log (map told_by all)
  ended_history e =
      let many = e.many in
      let own = own_once t limit options words row log once first asking jobs (ended_head e) e.since (λ some_job. e.alone (omega (arith, some_job, many))) (ended_whole e) in
      subst (λ (l : List ScriptRun). IsHistory t limit options.steps names log (map told_by l)) (sym e.runs.1)
      (history_of_fronts t limit options.steps names log once (views_of jobs) (map told_by (before ++ e.runs.0))
      (all_exits t options words row t.setup goes_on once before e.runs.0 jobs e.set_up own (e.many ∙ e.behind) (jobs_from (HasRun t options words row) jobs e.ran) e.runs.2)
      (ended_joined e))

  pub ended_free : Ended t limit options words row goes_on once before all first asking jobs seats others names log → (c q : ℕ) → stands c q log ≡ []
  ended_free e = all_free names log t options limit words row t.setup goes_on once before jobs e.set_up (jobs_from (HasRun t options words row) jobs e.ran) (ended_joined e)

  pub ended_journals : Ended t limit options words row goes_on once before all first asking jobs seats others names log → AllByRecursion (HasJournal options.keep_journal log) all
  ended_journals e =
      subst (λ (l : List ScriptRun). AllByRecursion (HasJournal options.keep_journal log) l) (sym e.runs.1)
      (all_journals t names log options limit words row t.setup goes_on once before e.runs.0 jobs e.set_up (jobs_from (HasRun t options words row) jobs e.ran) e.runs.2 (ended_joined e))
