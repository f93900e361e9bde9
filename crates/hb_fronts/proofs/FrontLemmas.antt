-- The history that callers make whose fronts are put together.
use Rattle.std.proofs.Common.{◌≡◌, ◌≢◌, ◌⊎◌, inl, inr, ℕ, suc, ◌≤◌, List, [], ◌∷◌, ◌++◌, length, map, Option, Some, None, true, false, Bool, refl, sym, ap, ◌∙◌, subst, arith, rules, cond, eqb, eq-eqb}
use Rattle.std.specs.Prelude.{Contains, ◌==◌}
use Rattle.std.proofs.lemmas.Bool.Decides.{eqb_tells}
use mathlib.Core.List.{IsPrefix}
use Rattle.hb_types.specs.declared.ids.NodeId.{NodeId}
use Rattle.hb_types.specs.declared.ids.NameId.{NameId}
use Rattle.hb_tree.specs.Table.{Table}
use Rattle.hb_names.specs.declared.names.TheConstants.{NAMES_MAX}
use Rattle.hb_names.specs.Names.{Name}
use Rattle.hb_tables.specs.declared.entry.Act.{Act}
use Rattle.hb_tables.specs.declared.entry.Entry.{Entry}
use Rattle.hb_tables.specs.Frames.{acts}
use Rattle.hb_tables.specs.Fronts.{HasFront}
use Rattle.hb_tables.specs.History.{journal, Every}
use Rattle.hb_tables.specs.Plain.{AreOwn}
use Rattle.hb_tables.proofs.FrontLemmas.{every_of_fronts}
use Rattle.hb_call.specs.GrowthLaws.{rules_longer}
use Rattle.hb_call.specs.Rules.{EntersBy, FitsRules}
use Rattle.hb_eval.specs.Calls.{call_in}
use Rattle.hb_eval.specs.Runs.{script_run}
use Rattle.hb_eval.specs.Told.{Told, is_done}
use Rattle.hb_run.specs.History.{AreAllRuns, AreRuns, HasCaller, IsHistory, IsInTurn, IsRunOf, RunBehind, block_of, callers_from}
use Rattle.hb_run.proofs.HistoryLemmas.{HasEntry, IsAskedBy, entry_behind, in_asked_after, is_some_block, key-below, turn_of_own, used_all}
use Rattle.hb_fronts.specs.Exits.{View, EachOwn, IsExit, AreExits, ExitsBehind, AreAllExits, IsPart, AreParts, WasAsked, IsJoined}

none_there : {X : Type 0} (before after : List X) (e : X) → [] ≡ before ++ e ∷ after → ⊥
none_there [] after e is = cc is
none_there (b ∷ before) after e is = cc is

-- ── what each caller's front says, said of the whole list ──

-- this is true of each of these callers, from this one on
abbrev EachView : (ℕ → View → Type 0) → ℕ → List View → Type 0
EachView P c [] = Unit {0}
EachView P c (v ∷ vs) = P c v × EachView P (suc c) vs

front_of : (F : List Entry → Entry → Type 0) (names : List Name) (log : List Entry) (c : ℕ) (vs : List View)
    → AreParts names log c vs → EachView (λ d v. EachOwn F d v.front) c vs → (d : ℕ) → c ≤ d → HasFront F log d
front_of F names log c [] parts each d from = record { front = []; begins = (log, refl); whole = parts d from; own = λ before after e is own. absurd (none_there before after e is) }
front_of F names log c (v ∷ vs) parts each d from = elim (eqb_tells c d) [
  | inl same ↦ subst (HasFront F log) same.1 (record { front = v.front; begins = parts.0.begins; whole = parts.0.whole; own = each.0 })
  | inr apart ↦ front_of F names log (suc c) vs parts.1 each.1 d (later apart.1)
]
  where
    later : c ≢ d → suc c ≤ d
    later apart = omega (arith, from, apart)

pub every_of_views : (F : List Entry → Entry → Type 0) (names : List Name) (log : List Entry) (vs : List View)
    → AreParts names log 0 vs → EachView (λ d v. EachOwn F d v.front) 0 vs → Every F log
every_of_views F names log vs parts each = every_of_fronts F log (λ d. front_of F names log 0 vs parts each d (omega arith))

-- ── each name that was asked for is that of an entry's key ──

in_log : (names : List Name) (name : Name) (c : ℕ) (log : List Entry) → IsAskedBy names name (acts c log) → HasEntry names name log
in_log names name c [] h = absurd h
in_log names name c (e ∷ es) h = go (c == e.caller.0) (in_log names name c es) h
  where
    go : (own : Bool) → (IsAskedBy names name (acts c es) → HasEntry names name es) → IsAskedBy names name (cond own (e.act ∷ acts c es) (acts c es)) → HasEntry names name (e ∷ es)
    go true onward (inl key) = record { before = []; e = e; after = es; is = refl; key = key }
    go true onward (inr later) = entry_behind names name e es (onward later)
    go false onward later = entry_behind names name e es (onward later)

-- ── what the callers' own clauses say of the whole ──

-- an exit's rules, over the final names
own_rules : (t : Table) (names : List Name) (steps c : ℕ) (v : View) (r : Told) → IsExit t steps c v r → IsPrefix v.known names
    → EachOwn (λ before e. FitsRules t names e.caller.0 before e.act) c v.front
own_rules t names steps c v r exit longer before after e is own =
    rules_longer t v.known names e.caller.0 before e.act longer (subst (λ (d : ℕ). FitsRules t v.known d before e.act) (sym own) (exit.rules before after e is own))

-- an exit's bodies are entered by the right checks, whoever's the entries before are
own_ways : (t : Table) (steps c : ℕ) (v : View) (r : Told) → IsExit t steps c v r → EachOwn (λ before e. EntersBy e.caller.0 [] before e.act) c v.front
own_ways t steps c v r exit before after e is own = subst (λ (d : ℕ). EntersBy d [] before e.act) (sym own) (exit.ways before after e is own)

-- each exit's run reads its acts in the whole list
exit_run : (t : Table) (names : List Name) (log : List Entry) (steps c : ℕ) (v : View) (r : Told)
    → length names ≤ NAMES_MAX → IsExit t steps c v r → IsPart names log c v → IsRunOf t names steps log c r
exit_run t names log steps c v r few exit part =
    let ran = exit.run names part.known few in
    record { block = exit.block; runs = exit.runs; run = ran.0; reads = ap (λ (l : List Act). script_run t names (call_in t names 4096) exit.block.0 steps l) part.whole ∙ ran.1; tells = ran.2 }

exit_runs : (t : Table) (names : List Name) (log : List Entry) (steps c : ℕ) (ss : List (NameId × NodeId)) (vs : List View) (rs : List Told)
    → length names ≤ NAMES_MAX → AreExits t steps c ss vs rs → AreParts names log c vs → AreRuns t names steps log (callers_from c ss) rs
exit_runs t names log steps c [] [] [] few exits parts = tt
exit_runs t names log steps c [] [] (r ∷ rs) few exits parts = absurd exits
exit_runs t names log steps c [] (v ∷ vs) rs few exits parts = absurd exits
exit_runs t names log steps c (s ∷ ss) [] rs few exits parts = absurd exits
exit_runs t names log steps c (s ∷ ss) (v ∷ vs) [] few exits parts = absurd exits
exit_runs t names log steps c (s ∷ ss) (v ∷ vs) (r ∷ rs) few exits parts =
    (exit_run t names log steps c v r few exits.0 parts.0, exit_runs t names log steps (suc c) ss vs rs few exits.1 parts.1)

-- a name that one of the exits asked for is that of an entry's key
exit_entry : (names : List Name) (log : List Entry) (t : Table) (steps c : ℕ) (v : View) (r : Told) (name : Name)
    → IsExit t steps c v r → IsPart names log c v → Contains v.asked name → HasEntry names name log
exit_entry names log t steps c v r name exit part asked =
    in_log names name c log (subst (IsAskedBy names name) (sym part.whole) (not_before (acts c v.front) (in_asked_after names [] (acts c v.front) name (subst (λ (l : List Name). Contains l name) (exit.names names part.known) asked))))
  where
    not_before : (l : List Act) → Contains [] name ⊎ IsAskedBy names name l → IsAskedBy names name l
    not_before l (inl h) = absurd (omega (arith, h.1))
    not_before l (inr h) = h

exits_entry : (names : List Name) (log : List Entry) (t : Table) (steps c : ℕ) (ss : List (NameId × NodeId)) (vs : List View) (rs : List Told) (name : Name)
    → AreExits t steps c ss vs rs → AreParts names log c vs → WasAsked name vs → HasEntry names name log
exits_entry names log t steps c [] [] [] name exits parts asked = absurd asked
exits_entry names log t steps c [] [] (r ∷ rs) name exits parts asked = absurd exits
exits_entry names log t steps c [] (v ∷ vs) rs name exits parts asked = absurd exits
exits_entry names log t steps c (s ∷ ss) [] rs name exits parts asked = absurd exits
exits_entry names log t steps c (s ∷ ss) (v ∷ vs) [] name exits parts asked = absurd exits
exits_entry names log t steps c (s ∷ ss) (v ∷ vs) (r ∷ rs) name exits parts (inl here) = exit_entry names log t steps c v r name exits.0 parts.0 here
exits_entry names log t steps c (s ∷ ss) (v ∷ vs) (r ∷ rs) name exits parts (inr later) = exits_entry names log t steps (suc c) ss vs rs name exits.1 parts.1 later

-- ── the whole ──

-- a list without an act of the caller has no entry of it
pub no_own : (c : ℕ) (log before after : List Entry) (e : Entry) → acts c log ≡ [] → log ≡ before ++ e ∷ after → e.caller.0 ≡ c → ⊥
no_own c [] before after e none is own = none_there before after e is
no_own c (x ∷ log) [] after e none is own =
    let same : x ≡ e = cc is in
    let mine : eqb c x.caller.0 ≡ true = eq-eqb c x.caller.0 (sym own ∙ ap (λ (y : Entry). y.caller.0) (sym same)) in
    let some : x.act ∷ acts c log ≡ [] = sym (rw mine refl) ∙ none in
    cc some
no_own c (x ∷ log) (b ∷ before) after e none is own = go (eqb c x.caller.0) none (λ rest. no_own c log before after e rest (cc is) own)
  where
    go : (mine : Bool) → cond mine (x.act ∷ acts c log) (acts c log) ≡ [] → (acts c log ≡ [] → ⊥) → ⊥
    go true h later = let some : x.act ∷ acts c log ≡ [] = h in cc some
    go false h later = later h

-- what is true of each exit is true of each of these views
exits_all : (P : ℕ → View → Type 0) (t : Table) (names : List Name) (log : List Entry) (steps c : ℕ) (ss : List (NameId × NodeId)) (vs : List View) (rs : List Told)
    → ((d : ℕ) (v : View) (r : Told) → 1 ≤ d → IsExit t steps d v r → IsPart names log d v → P d v) → 1 ≤ c
    → AreExits t steps c ss vs rs → AreParts names log c vs → EachView P c vs
exits_all P t names log steps c [] [] [] each from exits parts = tt
exits_all P t names log steps c [] [] (r ∷ rs) each from exits parts = absurd exits
exits_all P t names log steps c [] (v ∷ vs) rs each from exits parts = absurd exits
exits_all P t names log steps c (s ∷ ss) [] rs each from exits parts = absurd exits
exits_all P t names log steps c (s ∷ ss) (v ∷ vs) [] each from exits parts = absurd exits
exits_all P t names log steps c (s ∷ ss) (v ∷ vs) (r ∷ rs) each from exits parts =
    (each c v r from exits.0 parts.0, exits_all P t names log steps (suc c) ss vs rs each (omega (arith, from)) exits.1 parts.1)

-- so it is of all views, where it is of an idle caller 0 and of a setup
views_all : (P : ℕ → View → Type 0) (t : Table) (names : List Name) (log : List Entry) (steps : ℕ) (setup : Option NodeId) (first : View) (vs : List View) (rs : List Told)
    → (acts 0 first.front ≡ [] → P 0 first)
    → ((r : Told) → IsExit t steps 0 first r → IsPart names log 0 first → AreOwn 0 first.front → P 0 first)
    → ((d : ℕ) (v : View) (r : Told) → 1 ≤ d → IsExit t steps d v r → IsPart names log d v → P d v)
    → AreAllExits t steps setup first vs rs → AreParts names log 0 (first ∷ vs) → EachView P 0 (first ∷ vs)
views_all P t names log steps None first vs rs idle ran each exits parts =
    (idle exits.0, exits_all P t names log steps 1 t.scripts vs rs each (omega arith) exits.2 parts.1)
views_all P t names log steps (Some block) first vs [] idle ran each exits parts = absurd exits
views_all P t names log steps (Some block) first vs (r ∷ rs) idle ran each exits parts =
    (ran r exits.0 parts.0 exits.1, behind (is_done r.outcome) exits.2)
  where
    behind : (setup_done : Bool) → ExitsBehind t steps setup_done vs rs → EachView P 1 vs
    behind true x = exits_all P t names log steps 1 t.scripts vs rs each (omega arith) x parts.1
    behind false x = subst (EachView P 1) (sym x.0) tt

all_entry : (t : Table) (names : List Name) (log : List Entry) (steps : ℕ) (setup : Option NodeId) (first : View) (vs : List View) (rs : List Told) (name : Name)
    → AreAllExits t steps setup first vs rs → AreParts names log 0 (first ∷ vs) → WasAsked name (first ∷ vs) → HasEntry names name log
all_entry t names log steps None first vs rs name exits parts (inl here) = absurd (let h = subst (λ (l : List Name). Contains l name) exits.1 here in omega (arith, h.1))
all_entry t names log steps None first vs rs name exits parts (inr later) = exits_entry names log t steps 1 t.scripts vs rs name exits.2 parts.1 later
all_entry t names log steps (Some block) first vs [] name exits parts asked = absurd exits
all_entry t names log steps (Some block) first vs (r ∷ rs) name exits parts (inl here) = exit_entry names log t steps 0 first r name exits.0 parts.0 here
all_entry t names log steps (Some block) first vs (r ∷ rs) name exits parts (inr later) = behind (is_done r.outcome) exits.2
  where
    behind : (setup_done : Bool) → ExitsBehind t steps setup_done vs rs → HasEntry names name log
    behind true x = exits_entry names log t steps 1 t.scripts vs rs name x parts.1 later
    behind false x = absurd (subst (WasAsked name) x.0 later)

all_runs : (t : Table) (names : List Name) (log : List Entry) (steps : ℕ) (setup : Option NodeId) (first : View) (vs : List View) (rs : List Told)
    → length names ≤ NAMES_MAX → AreAllExits t steps setup first vs rs → AreParts names log 0 (first ∷ vs) → AreAllRuns t names steps log setup rs
all_runs t names log steps None first vs rs few exits parts = exit_runs t names log steps 1 t.scripts vs rs few exits.2 parts.1
all_runs t names log steps (Some block) first vs [] few exits parts = absurd exits
all_runs t names log steps (Some block) first vs (r ∷ rs) few exits parts =
    (exit_run t names log steps 0 first r few exits.0 parts.0, behind (is_done r.outcome) exits.2)
  where
    behind : (setup_done : Bool) → ExitsBehind t steps setup_done vs rs → RunBehind t names steps log setup_done rs
    behind true x = exit_runs t names log steps 1 t.scripts vs rs few x parts.1
    behind false x = (x.1, every_of_views (λ before e. e.caller.0 ≡ 0) names log (first ∷ []) (subst (λ (l : List View). AreParts names log 0 (first ∷ l)) x.0 parts) ((λ before after e is own. own), tt))

pub history_of_fronts : (t : Table) (limit steps : ℕ) (names : List Name) (log : List Entry) (first : View) (vs : List View) (rs : List Told)
    → AreAllExits t steps t.setup first vs rs → IsJoined limit names log (first ∷ vs) → IsHistory t limit steps names log rs
history_of_fronts t limit steps names log first vs rs exits joined = record {
  legal = joined.legal;
  rules = rules_are;
  ways = every_own (λ before e. EntersBy e.caller.0 [] before e.act) (λ c v r exit part. own_ways t steps c v r exit);
  differ = joined.differ;
  few = joined.few;
  keys = key-below t names limit log rules_are joined.legal;
  used = used_all names log joined.differ (λ name there. all_entry t names log steps t.setup first vs rs name exits joined.parts (joined.asked name there));
  callers = every_own (λ before e. HasCaller t e) (λ c v r exit part. caller c v r exit);
  in_turn = every_of_views IsInTurn names log (first ∷ vs) joined.parts
      (views_all (λ c v. EachOwn IsInTurn c v.front) t names log steps t.setup first vs rs
      (λ none before after e is own. absurd (no_own 0 first.front before after e none is own))
      (λ r exit part alone before after e is own zero. turn_of_own first.front before after e alone is)
      (λ d v r from exit part before after e is own zero. absurd (omega (arith, from, own, zero))) exits joined.parts);
  all_runs = all_runs t names log steps t.setup first vs rs joined.few exits joined.parts;
}
  where
    caller : (c : ℕ) (v : View) (r : Told) → IsExit t steps c v r → EachOwn (λ before e. HasCaller t e) c v.front
    caller c v r exit before after e is own = is_some_block (block_of t e.caller.0) exit.block (ap (block_of t) own ∙ exit.runs)

    -- what is true of the own entries of each exit is true of all entries
    every_own : (F : List Entry → Entry → Type 0) → ((c : ℕ) (v : View) (r : Told) → IsExit t steps c v r → IsPart names log c v → EachOwn F c v.front) → Every F log
    every_own F each = every_of_views F names log (first ∷ vs) joined.parts
        (views_all (λ c v. EachOwn F c v.front) t names log steps t.setup first vs rs
        (λ none before after e is own. absurd (no_own 0 first.front before after e none is own))
        (λ r exit part alone. each 0 first r exit part) (λ d v r from exit part. each d v r exit part) exits joined.parts)

    rules_are : Every (λ before e. FitsRules t names e.caller.0 before e.act) log
    rules_are = every_own (λ before e. FitsRules t names e.caller.0 before e.act) (λ c v r exit part. own_rules t names steps c v r exit part.known)

-- ── what the doors' makers tell, said in acts ──

-- the same entries are the same acts
pub acts_of_journal : (c : ℕ) (xs : List Entry) → acts c xs ≡ map (λ (e : Entry). e.act) (journal c xs)
acts_of_journal c [] = refl
acts_of_journal c (x ∷ xs) = go (eqb c x.caller.0) (acts_of_journal c xs)
  where
    go : (mine : Bool) → acts c xs ≡ map (λ (e : Entry). e.act) (journal c xs) → cond mine (x.act ∷ acts c xs) (acts c xs) ≡ map (λ (e : Entry). e.act) (cond mine (x ∷ journal c xs) (journal c xs))
    go true is = ap (λ (l : List Act). x.act ∷ l) is
    go false is = is

pub part_of_journal : (names : List Name) (log : List Entry) (c : ℕ) (v : View) → IsPrefix v.front log → journal c log ≡ journal c v.front → IsPrefix v.known names → IsPart names log c v
part_of_journal names log c v begins same known = record {
  begins = begins;
  whole = acts_of_journal c log ∙ ap (λ (l : List Entry). map (λ (e : Entry). e.act) l) same ∙ sym (acts_of_journal c v.front);
  known = known;
}

-- a list in which no other caller has an act is one's own
pub own_alone : (c : ℕ) (log : List Entry) → ((d : ℕ) → d ≢ c → acts d log ≡ []) → AreOwn c log
own_alone c [] none = tt
own_alone c (x ∷ log) none = elim (eqb_tells x.caller.0 c) [
  | inl same ↦ (same.1, own_alone c log (λ d apart. rest d (none d apart)))
  | inr other ↦ absurd (no_own x.caller.0 (x ∷ log) [] log x (none x.caller.0 other.1) refl refl)
]
  where
    rest : (d : ℕ) → acts d (x ∷ log) ≡ [] → acts d log ≡ []
    rest d h = go (eqb d x.caller.0) h
      where
        go : (mine : Bool) → cond mine (x.act ∷ acts d log) (acts d log) ≡ [] → acts d log ≡ []
        go true h = absurd (let some : x.act ∷ acts d log ≡ [] = h in cc some)
        go false h = h
