-- What reading a text to its end says of what is due.
use Rattle.std.proofs.Common.{◌≡◌, ◌≢◌, ◌∙◌, ◌≤◌, ◌<◌, ◌+◌, [], inl, inr, ℕ, List, ◌++◌, Some, None, Ok, Err, refl, sym, ap, subst, length, length-append, arith, append-nil, codes, rules, Bool, true, false}
use Rattle.std.specs.Prelude.{IfOk, IsNone, if◌then◌else◌}
use Rattle.std.specs.List.{list_all}
use Rattle.std.specs.Io.KnownBytes.{Keeps}
use Rattle.std.proofs.KnownBytes.{Consumes-nil}
use Rattle.std.specs.declared.option.Option.{Option}
use Rattle.std.specs.declared.result.Result.{Result}
use Rattle.hb_io.specs.Moves.{TakesAll, TakesCount}
use Rattle.hb_tree.specs.Table.{Table}
use Rattle.hb_tree.specs.Program.{IsProgram}
use Rattle.hb_eval.specs.Told.{Told, is_done}
use Rattle.hb_bundle.specs.Bundle.{program_of}
use Rattle.hb_top.specs.Answers.{Answers, AreVerdicts, CameTo, Ends, IsBundle, IsDueFor, IsFaulty, IsOutcomeOf, IsReadAs, IsReport, IsTextOf, IsWhole, IsWithin, Reads}
use Rattle.hb_top.specs.Derived.{IsDerived}
use Rattle.hb_top.specs.Faults.{Fault, IsFirstFault, fault_line}
use Rattle.hb_top.specs.Outcomes.{IsDue, IsDueBy, IsDueFrom, Outcome, faulty, generated_text, status_of, too_long}
use Rattle.hb_names.specs.Names.{Name}
use Rattle.hb_tables.specs.declared.entry.Entry.{Entry}
use Rattle.hb_gen.specs.Generated.{generated}
use Rattle.hb_jobs.specs.Jobs.{Derive, Gen, Options, Run, Verify, Wanted, Work}
use Rattle.hb_report.specs.Report.{report_of}
use Rattle.hb_top.specs.Reports.{IsReported, Ran, ending_of, reported, traced}
use Rattle.hb_top.specs.Verified.{IsVerified, bundle_fault}
use Rattle.hb_top.specs.Work.{IsWorked}
use Rattle.hb_top.specs.declared.due.Due.{Due}
use Rattle.hb_top.specs.declared.due.Ending.{Ending}
use Rattle.hb_top.specs.declared.due.Ending.TheVariants.{Done, Stopped, TextRefused, WordsRefused}
use Rattle.hb_top.specs.declared.top.TheConstants.{LIMIT}
use Rattle.hb_top.specs.declared.verify.TheConstants.{BUNDLE_LIMIT}

-- the outcomes of a kind are never those of refused words
abbrev pub NeverRefuses : (List ℕ → Outcome → Type 0) → Type 0
NeverRefuses Is = (bytes : List ℕ) (o : Outcome) → Is bytes o → o.ending ≢ WordsRefused

if-no_refusal : (b : Bool) → (if b then Done else Stopped) ≢ WordsRefused
if-no_refusal true = λ e. cc
if-no_refusal false = λ e. cc

runs-no_refusal : (runs : List Told) (o : Outcome) → o.ending ≡ ending_of runs → o.ending ≢ WordsRefused
runs-no_refusal runs o same = λ e. if-no_refusal (list_all (λ r. is_done r.outcome) runs) (sym same ∙ e)

faulty-no_refusal : (line : List ℕ) (takes : ℕ) (o : Outcome) → o ≡ faulty line takes → o.ending ≢ WordsRefused
faulty-no_refusal line takes o is = λ e. let same : o.ending ≡ TextRefused = ap (λ (x : Outcome). x.ending) is in cc

read-no_refusal : (Comes : Table → Outcome → Type 0) (text : List ℕ) (takes : ℕ) (o : Outcome) → ((t : Table) → Comes t o → o.ending ≢ WordsRefused)
    → IsReadAs Comes text takes o → o.ending ≢ WordsRefused
read-no_refusal Comes text takes o never (inl h) = faulty-no_refusal (fault_line text h.fault) takes o h.same
read-no_refusal Comes text takes o never (inr h) = never h.program h.comes

pub report-no_refusal : (options : Options) → NeverRefuses (IsReport options)
report-no_refusal options text o h =
    read-no_refusal (λ t. IsReported t options (length text)) text (length text) o (λ t comes. runs-no_refusal comes.runs o (ap (λ (x : Outcome). x.ending) comes.same)) h

pub bundle-no_refusal : NeverRefuses IsBundle
bundle-no_refusal text o h =
    read-no_refusal (λ t. IsDerived t text) text (length text) o (λ t comes. runs-no_refusal comes.runs o (ap (λ (x : Outcome). x.ending) comes.same)) h

verified-no_refusal : (bytes text rest : List ℕ) (t : Table) (o : Outcome) → IsVerified bytes text rest t o → o.ending ≢ WordsRefused
verified-no_refusal bytes text rest t o (inl h) = λ e. if-no_refusal h.good (sym (ap (λ (x : Outcome). x.ending) h.same) ∙ e)
verified-no_refusal bytes text rest t o (inr h) = faulty-no_refusal (fault_line bytes (bundle_fault (length (program_of text) + h.at))) (length bytes) o h.same

pub verdicts-no_refusal : NeverRefuses AreVerdicts
verdicts-no_refusal bytes o (inl h) = faulty-no_refusal (fault_line bytes (bundle_fault 0)) (length bytes) o h.same
verdicts-no_refusal bytes o (inr h) = read-no_refusal (IsVerified bytes h.text h.rest) h.text (length bytes) o (λ t. verified-no_refusal bytes h.text h.rest t o) h.comes

work-no_refusal : (size : ℕ) (o : Outcome) → IsReadAs (IsWorked size) (generated size) 0 o → o.ending ≢ WordsRefused
work-no_refusal size o h =
    read-no_refusal (IsWorked size) (generated size) 0 o (λ t comes. runs-no_refusal comes.runs o (ap (λ (x : Outcome). x.ending) comes.same)) h

within-all : (limit : ℕ) (Is : List ℕ → Outcome → Type 0) → NeverRefuses Is → (a b : Option (List ℕ)) (text : List ℕ) (o : Outcome) → TakesAll a b limit text → Is text o
    → IsOutcomeOf (IsWithin limit Is) a o
within-all limit Is never None b text o h due = never text o due
within-all limit Is never (Some x) None text o h due = absurd h.taken
within-all limit Is never (Some x) (Some y) text o h due =
    let same : x ≡ text = h.taken ∙ ap (λ rest. text ++ rest) h.end ∙ append-nil text in
    subst (λ t. IsWithin limit Is t o) (sym same) (inr (h.within, due))

-- what is due for bytes within the limit is due for the source that they were read from
pub due-within : {E : Type 0} (limit : ℕ) (Is : List ℕ → Outcome → Type 0) → NeverRefuses Is → (a b : Option (List ℕ)) (text kept : List ℕ) (r : Result Due E)
    → text ≡ kept → TakesAll a b limit kept → IfOk r (IsDueBy (Is text) (length text)) → IfOk r (IsDueFrom (IsOutcomeOf (IsWithin limit Is) a) a b)
due-within limit Is never a b text kept (Err e) same h is = tt
due-within limit Is never a b text kept (Ok due) same h (o, of, is, takes) =
    let all : TakesAll a b limit text = subst (TakesAll a b limit) (sym same) h in
    (o, within-all limit Is never a b text o all of, is, (text, all.taken, sym takes))

past : (limit : ℕ) (Is : List ℕ → Outcome → Type 0) (a b : Option (List ℕ)) → TakesCount a b (limit + 1) → IsOutcomeOf (IsWithin limit Is) a (too_long limit)
past limit Is None b h = λ e. cc
past limit Is (Some x) None (bytes, taken, size) = absurd taken
past limit Is (Some x) (Some y) (bytes, taken, size) =
    let long : length x ≡ length bytes + length y = ap length taken ∙ length-append bytes y in
    inl (omega (arith, long, size), refl)

-- and so is the line of bytes that are more
pub due-past : {E : Type 0} (limit : ℕ) (Is : List ℕ → Outcome → Type 0) (a b : Option (List ℕ)) (r : Result Due E) → TakesCount a b (limit + 1)
    → IfOk r (λ due. IsDue due TextRefused (codes "text TooLong\n")) → IfOk r (IsDueFrom (IsOutcomeOf (IsWithin limit Is) a) a b)
due-past limit Is a b (Err e) taken is = tt
due-past limit Is a b (Ok due) taken is = (too_long limit, past limit Is a b taken, is, taken)

-- what is due for a text that is a program, and for one that has a fault
pub whole-due : {E : Type 0} (Comes : Table → Outcome → Type 0) (text : List ℕ) (takes : ℕ) (t : Table) (r : Result Due E) → IsTextOf text t → IsProgram t
    → IfOk r (λ due. IsDueBy (Comes t) takes due) → IfOk r (λ due. IsDueBy (IsReadAs Comes text takes) takes due)
whole-due Comes text takes t (Err e) said is comes = tt
whole-due Comes text takes t (Ok due) said is (o, comes, due_is, taken) =
    let whole : IsWhole Comes text o = record { program = t; said = said; is = is; comes = comes } in
    (o, inr whole, due_is, taken)

pub faulty-due : (Comes : Table → Outcome → Type 0) (text : List ℕ) (takes : ℕ) (due : Due) → (fault : Fault) × IsFirstFault text fault × IsDue due TextRefused (fault_line text fault)
    → IsDueBy (IsReadAs Comes text takes) takes due
faulty-due Comes text takes due (fault, first, is) =
    let told : IsFaulty text takes (faulty (fault_line text fault) takes) = record { fault = fault; first = first; same = refl } in
    (faulty (fault_line text fault) takes, inl told, is, refl)

-- what is due for a job that reads is never that of refused words
within-no_refusal : (limit : ℕ) (Is : List ℕ → Outcome → Type 0) → NeverRefuses Is → (left : Option (List ℕ)) (o : Outcome) → IsOutcomeOf (IsWithin limit Is) left o
    → o.ending ≢ WordsRefused
within-no_refusal limit Is never None o h = h
within-no_refusal limit Is never (Some text) o (inl h) = λ e. let same : o.ending ≡ TextRefused = ap (λ (x : Outcome). x.ending) h.1 in cc
within-no_refusal limit Is never (Some text) o (inr h) = never text o h.1

status_two : (e : Ending) → status_of e ≡ 2 → e ≡ WordsRefused
status_two Done h = absurd (omega arith)
status_two Stopped h = absurd (omega arith)
status_two TextRefused h = absurd (omega arith)
status_two WordsRefused h = refl

status_other : (e : Ending) (n : ℕ) → 2 < n → n < 6 → status_of e ≡ n → ⊥
status_other Done n a b h = omega arith
status_other Stopped n a b h = omega arith
status_other TextRefused n a b h = omega arith
status_other WordsRefused n a b h = omega arith

pub refused-words : (job : Option Wanted) (left : Option (List ℕ)) (o : Outcome) → IsDueFor job left o → o.ending ≡ WordsRefused → IsNone job
refused-words None left o h e = search rules
refused-words (Some (Run options)) left o h e = absurd (within-no_refusal LIMIT (IsReport options) (report-no_refusal options) left o h e)
refused-words (Some Derive) left o h e = absurd (within-no_refusal LIMIT IsBundle bundle-no_refusal left o h e)
refused-words (Some Verify) left o h e = absurd (within-no_refusal BUNDLE_LIMIT AreVerdicts verdicts-no_refusal left o h e)
refused-words (Some (Gen size)) left o h e = absurd (let same : o.ending ≡ Done = ap (λ (x : Outcome). x.ending) h in cc (sym same ∙ e))
refused-words (Some (Work size)) left o h e = absurd (work-no_refusal size o h e)

-- an outcome that is due and came is an answer
pub answers-came : (asked job : Option Wanted) (old new : Ends) (o : Outcome) (answer : ℕ) → asked ≡ job → IsDueFor asked old.left o
    → CameTo o old new answer → ((Reads asked → ⊥) → Keeps old.left new.left) → old.read_faults ≤ new.read_faults → old.write_faults ≤ new.write_faults
    → Answers job old new answer
answers-came asked job old new o answer same due_asked came kept read write =
    let due : IsDueFor job old.left o = subst (λ j. IsDueFor j old.left o) same due_asked in
    record {
      ended = λ a b c. (o, due, came);
      refused = λ e. refused-words job old.left o due (status_two o.ending (sym came.status ∙ e));
      unread = subst (λ j. (Reads j → ⊥) → Keeps old.left new.left) same kept;
      memory = λ e. absurd (status_other o.ending 3 (omega arith) (omega arith) (sym came.status ∙ e));
      reading = λ e. absurd (status_other o.ending 4 (omega arith) (omega arith) (sym came.status ∙ e));
      writing = λ e. absurd (status_other o.ending 5 (omega arith) (omega arith) (sym came.status ∙ e));
      read_count = read;
      write_count = write;
    }

-- the report of these runs, and their trace where it is wanted
pub due-reported : (t : Table) (options : Options) (len : ℕ) (names : List Name) (log : List Entry) (runs : List Told) (ending : Ending) (text : List ℕ)
    → Ran t options names log runs → ending ≡ ending_of runs → text ≡ report_of t runs ++ traced t options names log
    → (o : Outcome) × IsReported t options len o × (ending ≡ o.ending) × (text ≡ o.text) × (o.takes ≡ len)
due-reported t options len names log runs ending text ran e f = (
  reported t options names log runs len,
  record { names = names; log = log; runs = runs; ran = ran; same = refl },
  e,
  f,
  refl,
)

-- what is due for a generated text, of which nothing is read
pub generated-due : {E : Type 0} (job : Option Wanted) (size : ℕ) (left : Option (List ℕ)) (r : Result Due E) → job ≡ Some (Gen size) → IfOk r (λ due. IsDue due Done (generated size))
    → IfOk r (λ due. (o : Outcome) × IsDueFor job left o × IsDue due o.ending o.text × TakesCount left left o.takes)
generated-due job size left (Err e) asked is = tt
generated-due job size left (Ok due) asked is =
    let o = generated_text (generated size) in (o, subst (λ j. IsDueFor j left o) (sym asked) refl, is, ([], Consumes-nil left, refl))

-- and for its runs
pub worked-due : {E : Type 0} (job : Option Wanted) (size : ℕ) (left : Option (List ℕ)) (r : Result Due E) → job ≡ Some (Work size)
    → IfOk r (λ due. IsDueBy (IsReadAs (IsWorked size) (generated size) 0) 0 due)
    → IfOk r (λ due. (o : Outcome) × IsDueFor job left o × IsDue due o.ending o.text × TakesCount left left o.takes)
worked-due job size left (Err e) asked is = tt
worked-due job size left (Ok due) asked (o, of, is, takes) = (o, subst (λ j. IsDueFor j left o) (sym asked) of, is, ([], Consumes-nil left, sym takes))
