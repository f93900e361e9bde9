-- What a bundle comes to.
use Rattle.std.proofs.Common.{◌≡◌, ◌∙◌, ◌≤◌, ◌+◌, inl, inr, ℕ, List, Ok, Err, refl, sym, ap, subst, arith, length, length-append}
use Rattle.std.specs.Prelude.{IfOk}
use Rattle.std.specs.declared.result.Result.{Result}
use Rattle.hb_deriv_text.specs.Faults.{IsFault}
use Rattle.hb_tree.specs.Table.{Table}
use Rattle.hb_bundle.specs.Bundle.{AreTexts, HasNoProgram, HasProgram, program_of}
use Rattle.hb_top.specs.Answers.{AreVerdicts, IsOpened, IsReadAs}
use Rattle.hb_top.specs.Faults.{fault_line}
use Rattle.hb_top.specs.Outcomes.{IsDue, IsDueBy}
use Rattle.hb_top.specs.Verified.{AreWrong, IsNoBundle, IsVerified, bad_bundle, bundle_fault}
use Rattle.hb_top.specs.declared.due.Due.{Due}
use Rattle.hb_top.specs.declared.due.Ending.TheVariants.{TextRefused}

-- the rest of a bundle is all but its front
pub bundle-length : (bytes text rest : List ℕ) → HasProgram bytes text rest → length bytes ≡ length (program_of text) + length rest
bundle-length bytes text rest begins = ap length (sym begins.parts) ∙ length-append (program_of text) rest

-- a fault is no further than the end
pub fault-within : (IsSuch : List ℕ → Type 0) (bytes : List ℕ) (at : ℕ) → IsFault IsSuch bytes at → at ≤ length bytes
fault-within IsSuch bytes at fault =
    let whole : length bytes ≡ length fault.front + length fault.rest = ap length (sym fault.parts) ∙ length-append fault.front fault.rest in
    let place = fault.place in
    omega (arith, whole, place)

-- what its program's text comes to is due for it
pub opened-is : (bytes text rest : List ℕ) (due : Due) → HasProgram bytes text rest
    → IsDueBy (IsReadAs (IsVerified bytes text rest) text (length bytes)) (length bytes) due → IsDueBy (AreVerdicts bytes) (length bytes) due
opened-is bytes text rest due begins (o, comes, is, takes) =
    let opened : IsOpened bytes o = record { text = text; rest = rest; begins = begins; comes = comes } in
    (o, inr opened, is, takes)

pub opened-due : {E : Type 0} (bytes text rest : List ℕ) (r : Result Due E) → HasProgram bytes text rest
    → IfOk r (IsDueBy (IsReadAs (IsVerified bytes text rest) text (length bytes)) (length bytes)) → IfOk r (IsDueBy (AreVerdicts bytes) (length bytes))
opened-due bytes text rest (Err e) begins is = tt
opened-due bytes text rest (Ok due) begins is = opened-is bytes text rest due begins is

-- its faults are due, the first one and the last one
pub none-due : {E : Type 0} (bytes : List ℕ) (r : Result Due E) → HasNoProgram bytes → IfOk r (λ due. IsDue due TextRefused (fault_line bytes (bundle_fault 0)))
    → IfOk r (IsDueBy (AreVerdicts bytes) (length bytes))
none-due bytes (Err e) none is = tt
none-due bytes (Ok due) none is =
    let no : IsNoBundle bytes (bad_bundle bytes 0) = record { no_program = none; same = refl } in
    (bad_bundle bytes 0, inl no, is, refl)

pub wrong-due : {E : Type 0} (t : Table) (bytes text rest : List ℕ) (at place : ℕ) (r : Result Due E) → place ≡ length (program_of text) + at → IsFault (AreTexts t) rest at
    → IfOk r (λ due. IsDue due TextRefused (fault_line bytes (bundle_fault place))) → IfOk r (IsDueBy (IsVerified bytes text rest t) (length bytes))
wrong-due t bytes text rest at place (Err e) same fault is = tt
wrong-due t bytes text rest at place (Ok due) same fault is =
    let o = bad_bundle bytes (length (program_of text) + at) in
    let wrong : AreWrong t bytes text rest o = record { at = at; fault = fault; same = refl } in
    (o, inr wrong, subst (λ (n : ℕ). IsDue due TextRefused (fault_line bytes (bundle_fault n))) same is, refl)
