-- Where nothing has a fault, what is due comes, or memory is wanted.
use Rattle.std.proofs.Common.{◌≡◌, ◌∙◌, ◌≤◌, ◌⊎◌, inl, inr, ℕ, List, Option, Some, None, refl, sym, ap, arith, length, subst}
use Rattle.std.specs.Prelude.{IsNone}
use Rattle.hb_tree.specs.Table.{Table}
use Rattle.hb_gen.specs.Generated.{generated}
use Rattle.hb_bundle.specs.Bundle.{AreTexts, HasProgram}
use Rattle.hb_bundle.proofs.ListLemmas.{same_some}
use Rattle.hb_bundle.proofs.OpeningLemmas.{each_opened}
use Rattle.hb_jobs.specs.Jobs.{Derive, Gen, Run, Verify, Wanted, Work}
use Rattle.hb_top.specs.Answers.{Answers, AreVerdicts, Ends, IsDueFor, IsOutcomeOf, IsReadAs, IsTextOf, IsWithin}
use Rattle.hb_top.specs.Complete.{HasNoFault, IsWholeBundle, IsComplete, IsInGrammar, Tells}
use Rattle.hb_top.specs.Derived.{IsDerived}
use Rattle.hb_top.specs.Outcomes.{Outcome, status_of}
use Rattle.hb_top.specs.Reports.{IsReported}
use Rattle.hb_top.specs.Verified.{IsVerified}
use Rattle.hb_top.specs.Work.{IsWorked}
use Rattle.hb_top.specs.declared.due.Ending.{Ending}
use Rattle.hb_top.specs.declared.due.Ending.TheVariants.{Done, Stopped, TextRefused, WordsRefused}
use Rattle.hb_top.specs.declared.top.TheConstants.{LIMIT}
use Rattle.hb_top.specs.declared.verify.TheConstants.{BUNDLE_LIMIT}
use Rattle.hb_top.proofs.OneDueLemmas.{OneText, ends-not_refused, one-said, reported-not_refused, runs-not_refused, said-fault}
use Rattle.hb_top.proofs.RunLemmas.{refused-words}

-- the outcome is no refusal of a text
abbrev pub Passes : Outcome → Type 0
Passes o = o.ending ≡ TextRefused → ⊥

-- a text that says a program passes, where what the program comes to does
read-passes : OneText → (Comes : Table → Outcome → Type 0) (text : List ℕ) (takes : ℕ) (o : Outcome) → IsInGrammar text
    → ((t : Table) → Comes t o → Passes o) → IsReadAs Comes text takes o → Passes o
read-passes one Comes text takes o (t, said) passes (inl h) = absurd (said-fault one text t h.fault said h.first)
read-passes one Comes text takes o (t, said) passes (inr h) = passes h.program h.comes

within-passes : (limit : ℕ) (Comes : List ℕ → Outcome → Type 0) (bytes : List ℕ) (o : Outcome) → length bytes ≤ limit → (Comes bytes o → Passes o)
    → IsWithin limit Comes bytes o → Passes o
within-passes limit Comes bytes o short passes (inl h) = absurd (omega (arith, short, h.0))
within-passes limit Comes bytes o short passes (inr h) = passes h.1

tells-passes : (limit : ℕ) (Is : List ℕ → Type 0) (Comes : List ℕ → Outcome → Type 0) (left : Option (List ℕ)) (o : Outcome) → Tells limit Is left
    → ((bytes : List ℕ) → Is bytes → Comes bytes o → Passes o) → IsOutcomeOf (IsWithin limit Comes) left o → Passes o
tells-passes limit Is Comes left o (bytes, told, short, is) passes due =
    within-passes limit Comes bytes o short (passes bytes is) (subst (λ (l : Option (List ℕ)). IsOutcomeOf (IsWithin limit Comes) l o) told due)

-- a bundle has one program's text, and its rest does not go wrong
same-front : (bytes a x b y : List ℕ) → HasProgram bytes a x → HasProgram bytes b y → (a ≡ b) × (x ≡ y)
same-front bytes a x b y h k =
    let same = same_some (a, x) (b, y) (sym (each_opened bytes a x h) ∙ each_opened bytes b y k) in
    (ap (λ (p : List ℕ × List ℕ). p.0) same, ap (λ (p : List ℕ × List ℕ). p.1) same)

bundle-passes : OneText → (bytes : List ℕ) (o : Outcome) → IsWholeBundle bytes → AreVerdicts bytes o → Passes o
bundle-passes one bytes o b (inl h) = absurd (h.no_program b.text b.rest b.begins)
bundle-passes one bytes o b (inr h) =
    let same = same-front bytes b.text b.rest h.text h.rest b.begins h.begins in
    let said : IsTextOf h.text b.program = subst (λ (x : List ℕ). IsTextOf x b.program) same.0 b.said in
    let texts : AreTexts b.program h.rest = subst (AreTexts b.program) same.1 b.texts in
    opened said texts h.comes
  where
    opened : IsTextOf h.text b.program → AreTexts b.program h.rest → IsReadAs (IsVerified bytes h.text h.rest) h.text (length bytes) o → Passes o
    opened said texts (inl w) = absurd (said-fault one h.text b.program w.fault said w.first)
    opened said texts (inr w) = verified w.program (subst (λ (t : Table). AreTexts t h.rest) (one-said one h.text b.program w.program said w.said b.is w.is) texts) w.comes
      where
        verified : (t : Table) → AreTexts t h.rest → IsVerified bytes h.text h.rest t o → Passes o
        verified t texts (inl v) = λ refused. ends-not_refused v.good (sym (ap (λ (x : Outcome). x.ending) v.same) ∙ refused)
        verified t texts (inr v) = absurd (v.fault.other texts)

due-passes : OneText → (job : Wanted) (left : Option (List ℕ)) (o : Outcome) → HasNoFault job left → IsDueFor (Some job) left o → Passes o
due-passes one (Run options) left o h due =
    tells-passes LIMIT IsInGrammar _ left o h (λ text is. read-passes one (λ t. IsReported t options (length text)) text (length text) o is (λ t. reported-not_refused t options (length text) o)) due
due-passes one Derive left o h due =
    tells-passes LIMIT IsInGrammar _ left o h (λ text is. read-passes one (λ t. IsDerived t text) text (length text) o is (λ t d. runs-not_refused d.runs o (ap (λ (x : Outcome). x.ending) d.same))) due
due-passes one Verify left o h due = tells-passes BUNDLE_LIMIT IsWholeBundle AreVerdicts left o h (λ bytes. bundle-passes one bytes o) due
due-passes one (Gen size) left o h due = λ refused. let same : o.ending ≡ Done = ap (λ (x : Outcome). x.ending) due in cc
due-passes one (Work size) left o h due =
    read-passes one (IsWorked size) (generated size) 0 o h (λ t w. runs-not_refused w.runs o (ap (λ (x : Outcome). x.ending) w.same)) due

-- the statuses of what is no refusal
status-passes : (e : Ending) → (e ≡ TextRefused → ⊥) → (e ≡ WordsRefused → ⊥) → (status_of e ≡ 0) ⊎ (status_of e ≡ 6)
status-passes Done a b = inl refl
status-passes Stopped a b = inr refl
status-passes TextRefused a b = absurd (a refl)
status-passes WordsRefused a b = absurd (b refl)

some-asks : (job : Wanted) → IsNone (Some job) → ⊥
some-asks job h = cc h

complete-some : OneText → (job : Wanted) (old new : Ends) (answer : ℕ) → Answers (Some job) old new answer → IsComplete (Some job) old new answer
complete-some one job old new answer answers asked_job asked faultless had memory =
    let same : job ≡ asked_job = cc in
    let sound : HasNoFault job old.left = subst (λ (j : Wanted). HasNoFault j old.left) (sym same) faultless in
    let ended = answers.ended memory (λ e. had.reading (answers.reading e).cause) (λ e. had.writing (answers.writing e).cause) in
    let status = status-passes ended.0.ending (due-passes one job old.left ended.0 sound ended.1)
    (λ e. some-asks job (refused-words (Some job) old.left ended.0 ended.1 e)) in
    (ended, subst (λ (n : ℕ). (n ≡ 0) ⊎ (n ≡ 6)) (sym ended.2.status) status)

pub complete-is : OneText → (asked : Option Wanted) (old new : Ends) (answer : ℕ) → Answers asked old new answer → IsComplete asked old new answer
complete-is one None old new answer answers = λ job asked. absurd (cc)
complete-is one (Some job) old new answer answers = complete-some one job old new answer answers
