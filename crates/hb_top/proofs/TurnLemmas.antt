-- What is due for bytes in hand, past a limit and within it.
use Rattle.std.proofs.Common.{◌≡◌, ◌≤◌, ◌<◌, inl, inr, refl, subst, sym, ℕ, List, Ok, Err, Some, length, codes}
use Rattle.std.specs.Prelude.{IfOk}
use Rattle.std.specs.declared.option.Option.{Option}
use Rattle.std.specs.declared.result.Result.{Result}
use Rattle.hb_gen.specs.Generated.{generated}
use Rattle.hb_jobs.specs.Jobs.{Gen, Wanted}
use Rattle.hb_top.specs.Answers.{IsDueFor, IsWithin}
use Rattle.hb_top.specs.Outcomes.{IsDue, IsDueBy, IsDueOf, Outcome, generated_text, too_long}
use Rattle.hb_top.specs.declared.due.Due.{Due}
use Rattle.hb_top.specs.declared.due.Ending.TheVariants.{Done, TextRefused}

pub long-due : {E : Type 0} (limit : ℕ) (Is : List ℕ → Outcome → Type 0) (bytes : List ℕ) (r : Result Due E) → limit < length bytes
    → IfOk r (λ due. IsDue due TextRefused (codes "text TooLong\n")) → IfOk r (IsDueOf (IsWithin limit Is bytes))
long-due limit Is bytes (Err e) long is = tt
long-due limit Is bytes (Ok due) long is = (too_long limit, inl (long, refl), is)

pub short-due : {E : Type 0} (limit : ℕ) (Is : List ℕ → Outcome → Type 0) (bytes : List ℕ) (takes : ℕ) (r : Result Due E) → length bytes ≤ limit
    → IfOk r (IsDueBy (Is bytes) takes) → IfOk r (IsDueOf (IsWithin limit Is bytes))
short-due limit Is bytes takes (Err e) short is = tt
short-due limit Is bytes takes (Ok due) short (o, comes, is, taken) = (o, inr (short, comes), is)

pub made-due : {E : Type 0} (job : Option Wanted) (size : ℕ) (left : Option (List ℕ)) (r : Result Due E) → job ≡ Some (Gen size)
    → IfOk r (λ due. IsDue due Done (generated size)) → IfOk r (IsDueOf (IsDueFor job left))
made-due job size left (Err e) same is = tt
made-due job size left (Ok due) same is =
    let of : IsDueFor job left (generated_text (generated size)) = subst (λ w. IsDueFor w left (generated_text (generated size))) (sym same) refl in
    (generated_text (generated size), of, is)
