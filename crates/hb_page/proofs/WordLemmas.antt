-- Words that come as one text.
use Rattle.std.proofs.Common.{◌≡◌, ℕ, List, Bool, true, false, refl, sym, ap, None}
use Rattle.std.specs.Prelude.{if◌then◌else◌}
use Rattle.std.specs.Str.{IsUtf8, is_utf8}
use Rattle.std.specs.Str.Lines.{lines}
use Rattle.std.proofs.lemmas.Str.{IsUtf8-from_is_utf8, is_utf8-from_IsUtf8}
use Rattle.hb_jobs.specs.Jobs.{job_of}
use Rattle.hb_page.specs.Words.{job_in}

pub no_text : (bytes : List ℕ) → (IsUtf8 bytes → ⊥) → None ≡ job_in bytes
no_text bytes not = go (is_utf8 bytes) refl
  where
    go : (b : Bool) → is_utf8 bytes ≡ b → None ≡ (if b then job_of (lines bytes) else None)
    go true e = absurd (not (IsUtf8-from_is_utf8 bytes e))
    go false e = refl

pub text : (bytes : List ℕ) → IsUtf8 bytes → job_of (lines bytes) ≡ job_in bytes
text bytes is = ap (λ (b : Bool). if b then job_of (lines bytes) else None) (sym (is_utf8-from_IsUtf8 bytes is))
