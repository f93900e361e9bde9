-- An error that is passed on is the action's fault, or want of memory.
use Rattle.std.proofs.Common.{◌≡◌, ◌⊎◌, Result, Ok, Err, inl, inr, sym, ap, ◌∙◌}
use Rattle.std.proofs.lemmas.Bool.{false≢true}
use Rattle.std.specs.Result.{IsErr, IsErrAnd}
use Rattle.hb_build.specs.{Acts.Answer, Acts.Fails, Answers.Answers}
use Rattle.hb_build.specs.declared.{builder.Builder.Builder, faults.ParseFail.ParseFail}
use Rattle.hb_build.specs.declared.faults.ParseFail.TheVariants as fail

pub answers-fault : {X : Type 0} (answer : Answer) (r : Result X ParseFail) (new : Builder) (fault : ParseFail) → IsErr r × IsErrAnd r (λ e. e ≡ fault)
    → (answer ≡ Fails fault) ⊎ (fault ≡ fail.NoMemory) → Answers answer r new
answers-fault answer (Ok x) new fault is h = absurd (false≢true is.0)
answers-fault answer (Err e) new fault is h = elim h [ inl a ↦ inl (a ∙ ap Fails (sym is.1)) | inr n ↦ inr (is.1 ∙ n) ]
