-- What the runs of a history kept of their callers' entries is the history caller by caller.
use Rattle.std.proofs.Common.{◌≡◌, inl, inr, ℕ, zero, suc, ◌+◌, Bool, true, false, List, [], ◌∷◌, ◌++◌, length, map, Option, Some, None, refl, sym, ap, ◌∙◌, subst, arith, append_assoc, append-nil}
use Rattle.std.specs.Global.{Vec}
use Rattle.std.specs.List.{AllByRecursion}
use Rattle.std.specs.Option.{option_map}
use Rattle.std.specs.Prelude.{IsSome, is_some, if◌then◌else◌}
use Rattle.std.proofs.lemmas.Bool.{false≢true}
use Rattle.std.proofs.lemmas.Bool.Decides.{eqb_tells}
use Rattle.hb_types.specs.declared.ids.CallerId.{CallerId}
use Rattle.hb_types.specs.declared.ids.NameId.{NameId}
use Rattle.hb_types.specs.declared.ids.NodeId.{NodeId}
use Rattle.hb_tree.specs.Table.{Table}
use Rattle.hb_names.specs.Names.{Name}
use Rattle.hb_tables.specs.declared.entry.Entry.{Entry}
use Rattle.hb_tables.specs.Frames.{acts}
use Rattle.hb_tables.specs.History.{journal, Every}
use Rattle.hb_eval.specs.declared.script_run.ScriptRun.{ScriptRun}
use Rattle.hb_eval.specs.Noting.{entries}
use Rattle.hb_eval.specs.Told.{Told, is_done, told_by}
use Rattle.hb_fronts.specs.Exits.{HasJournal}
use Rattle.hb_run.specs.History.{AreAllRuns, AreRuns, IsHistory, IsRunOf, RunBehind, block_of, callers_from}
use Rattle.hb_report.specs.Journals.{entries_or_none, journals, kept, kept_in}
use Rattle.hb_report.specs.Trace.{trace_of}
use Rattle.hb_jobs.specs.Jobs.{Options}
use Rattle.hb_top.specs.Reports.{trace_by, traced}

-- a caller's entries are those of its acts
entries_are : (c : CallerId) (log : List Entry) → entries c (acts c.0 log) ≡ journal c.0 log
entries_are c [] = refl
entries_are c (e ∷ log) = elim (eqb_tells c.0 e.caller.0) [
  | inl same ↦ (let is = same.0 in rw is (ap (λ (l : List Entry). record { caller = c; act = e.act } ∷ l) (entries_are c log) ∙ whose same.1))
  | inr other ↦ (let is = other.0 in rw is (entries_are c log))
]
  where
    whose : c.0 ≡ e.caller.0 → record { caller = c; act = e.act } ∷ journal c.0 log ≡ e ∷ journal c.0 log
    whose same = ap (λ (n : ℕ). (let x : Entry = record { caller = record { 0 = n }; act = e.act } in x ∷ journal c.0 log)) same

kept_is : (log : List Entry) (r : ScriptRun) → HasJournal true log r → kept r ≡ journal r.caller.0 log
kept_is log r has = go r.journal has ∙ entries_are r.caller log
  where
    go : (o : Option (Vec Entry)) → option_map (λ v. v.items) o ≡ Some (entries r.caller (acts r.caller.0 log)) → entries_or_none o ≡ entries r.caller (acts r.caller.0 log)
    go None is = absurd cc
    go (Some v) is = let same : v.items ≡ entries r.caller (acts r.caller.0 log) = cc is in same

kept_by : (t : Table) (names : List Name) (steps : ℕ) (log : List Entry) (c : ℕ) (r : ScriptRun) → IsRunOf t names steps log c (told_by r) → HasJournal true log r → kept r ≡ journal c log
kept_by t names steps log c r ran has = kept_is log r has ∙ ap (λ (n : ℕ). journal n log) (ap (λ (x : Told). x.caller) ran.tells)

no_entry : (c : ℕ) (log : List Entry) → Every (λ before e. e.caller.0 ≡ c → ⊥) log → journal c log ≡ []
no_entry c [] none = refl
no_entry c (e ∷ log) none = elim (eqb_tells c e.caller.0) [
  | inl same ↦ absurd (none [] log e refl (sym same.1))
  | inr other ↦ (let is = other.0 in rw is (no_entry c log (λ before after x at. none (e ∷ before) after x (ap (λ (l : List Entry). e ∷ l) at))))
]

no_block : (o : Option NodeId) → o ≡ None → IsSome o → ⊥
no_block o none there = (let never : false ≡ true = sym (ap (λ (x : Option NodeId). is_some x) none) ∙ there in false≢true never)

-- the journals of scripts come behind those of the callers before them
scripts_kept : (t : Table) (names : List Name) (steps : ℕ) (log : List Entry) (c : ℕ) (ss : List (NameId × NodeId)) (rs : List ScriptRun) (n : ℕ) → n ≡ c + length ss
    → AreRuns t names steps log (callers_from c ss) (map told_by rs) → AllByRecursion (HasJournal true log) rs → journals c log ++ kept_in rs ≡ journals n log
scripts_kept t names steps log c [] [] n many ran has = append-nil (journals c log) ∙ (let here : c ≡ n = omega (arith, many) in ap (λ (m : ℕ). journals m log) here)
scripts_kept t names steps log c [] (r ∷ rs) n many ran has = absurd ran
scripts_kept t names steps log c (s ∷ ss) [] n many ran has = absurd ran
scripts_kept t names steps log c (s ∷ ss) (r ∷ rs) n many ran has =
    sym (append_assoc (journals c log) (kept r) (kept_in rs))
    ∙ ap (λ (l : List Entry). (journals c log ++ l) ++ kept_in rs) (kept_by t names steps log c r ran.0 has.0)
    ∙ scripts_kept t names steps log (suc c) ss rs n (omega (arith, many)) ran.1 has.1

-- where all entries are the setup's, so are all journals
setup_alone : (log : List Entry) → Every (λ before e. e.caller.0 ≡ 0) log → (n : ℕ) → journals (suc n) log ≡ journal 0 log
setup_alone log own zero = refl
setup_alone log own (suc n) =
    ap (λ (l : List Entry). l ++ journal (suc n) log) (setup_alone log own n)
    ∙ ap (λ (l : List Entry). journal 0 log ++ l) (no_entry (suc n) log (λ before after e at mine. let zero_is = own before after e at in omega (arith, mine, zero_is)))
    ∙ append-nil (journal 0 log)

all_kept : (t : Table) (limit steps : ℕ) (names : List Name) (log : List Entry) (rs : List ScriptRun) → IsHistory t limit steps names log (map told_by rs) → AllByRecursion (HasJournal true log) rs
    → kept_in rs ≡ journals (length t.scripts + 1) log
all_kept t limit steps names log rs history has = go t.setup refl rs history.all_runs has
  where
    count : length t.scripts + 1 ≡ 1 + length t.scripts
    count = omega arith

    behind : (done : Bool) (rs : List ScriptRun) → RunBehind t names steps log done (map told_by rs) → AllByRecursion (HasJournal true log) rs → journal 0 log ++ kept_in rs ≡ journals (length t.scripts + 1) log
    behind true rs ran has = scripts_kept t names steps log 1 t.scripts rs (length t.scripts + 1) count ran has
    behind false [] ran has = append-nil (journal 0 log) ∙ sym (setup_alone log ran.1 (length t.scripts)) ∙ ap (λ (n : ℕ). journals n log) (let next : suc (length t.scripts) ≡ length t.scripts + 1 = omega arith in next)
    behind false (r ∷ rs) ran has = absurd (let none : told_by r ∷ map told_by rs ≡ [] = ran.0 in cc none)

    go : (setup : Option NodeId) → t.setup ≡ setup → (rs : List ScriptRun) → AreAllRuns t names steps log setup (map told_by rs) → AllByRecursion (HasJournal true log) rs
        → kept_in rs ≡ journals (length t.scripts + 1) log
    go None is rs ran has =
        ap (λ (l : List Entry). l ++ kept_in rs) (sym (no_entry 0 log (λ before after e at mine. nobody before after e at mine)))
        ∙ scripts_kept t names steps log 1 t.scripts rs (length t.scripts + 1) count ran has
      where
        nobody : (before after : List Entry) (e : Entry) → log ≡ before ++ e ∷ after → e.caller.0 ≡ 0 → ⊥
        nobody before after e at mine = (let some = subst (λ (n : ℕ). IsSome (block_of t n)) mine (history.callers before after e at) in no_block t.setup is some)
    go (Some block) is [] ran has = absurd ran
    go (Some block) is (r ∷ rs) ran has =
        ap (λ (l : List Entry). l ++ kept_in rs) (kept_by t names steps log 0 r ran.0 has.0) ∙ behind (is_done r.outcome) rs ran.1 has.1

-- the trace of scripts that ran at once, by what their runs kept
pub traced-by_callers : (t : Table) (options : Options) (limit steps : ℕ) (names : List Name) (log : List Entry) (rs : List ScriptRun) → options.order ≡ None
    → IsHistory t limit steps names log (map told_by rs) → AllByRecursion (HasJournal options.trace log) rs
    → (if options.trace then trace_of t names (kept_in rs) else []) ≡ traced t options names log
traced-by_callers t options limit steps names log rs unordered history has = go options.trace has
  where
    go : (wanted : Bool) → AllByRecursion (HasJournal wanted log) rs → (if wanted then trace_of t names (kept_in rs) else []) ≡ (if wanted then trace_by t options.order names log else [])
    go true has = ap (trace_of t names) (all_kept t limit steps names log rs history has) ∙ ap (λ (o : Option (List ℕ)). trace_by t o names log) (sym unordered)
    go false has = refl
