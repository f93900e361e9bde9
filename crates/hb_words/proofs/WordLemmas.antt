-- What a word says is what it was made of.
use Rattle.std.proofs.Common.{◌≡◌, ℕ, ◌+◌, ◌*◌, ◌/◌, ◌%◌, ◌-◌, ◌^◌, ◌<◌, ◌≤◌, length, Option, Some, None, refl, ap, ◌∙◌, arith, ne_eqb}
use Rattle.hb_types.specs.declared.ids.TypeSite.{TypeSite}
use Rattle.hb_types.specs.declared.ids.BodySite.{BodySite}
use Rattle.hb_tables.specs.History.{Spot, Sound, ty_code, body_code}
use Rattle.hb_words.specs.Layout.{type_word, def_word, code_ty, pins_in, ty_in, changes_in, code_body, body_in, redefs_in}
use Rattle.hb_tables.specs.declared.entry.TheConstants.{VERSIONS_MAX}

pub pins_read : (p t n : ℕ) → p < 2 ^ 24 → t < 2 ^ 16 → (p + t * 2 ^ 24 + n * 2 ^ 40) % 2 ^ 24 ≡ p
pins_read p t n a b = omega arith

pub ty_read : (p t n : ℕ) → p < 2 ^ 24 → t < 2 ^ 16 → (p + t * 2 ^ 24 + n * 2 ^ 40) / 2 ^ 24 % 2 ^ 16 ≡ t
ty_read p t n a b = omega arith

pub changes_read : (p t n : ℕ) → p < 2 ^ 24 → t < 2 ^ 16 → (p + t * 2 ^ 24 + n * 2 ^ 40) / 2 ^ 40 ≡ n
changes_read p t n a b = omega arith

pub code_back : (t : Option TypeSite) → code_ty (ty_code t) ≡ t
code_back None = refl
code_back (Some t) =
    let e = ne_eqb (t.0 + 1) 0 (λ h. omega arith) in
    let n : t.0 + 1 - 1 ≡ t.0 = omega arith in
    let S : ℕ → Option TypeSite = λ m. Some record { 0 = m } in
    rw e (ap S n)

pub sound_ty : (limit : ℕ) (s : Spot) → Sound limit s → limit ≤ VERSIONS_MAX → length s.calls < 2 ^ 24 → ty_in (type_word s) ≡ s.ty
sound_ty limit s w low pins = let b = w.ty in ap code_ty (ty_read (length s.calls) (ty_code s.ty) s.changes pins (omega arith)) ∙ code_back s.ty

pub sound_changes : (limit : ℕ) (s : Spot) → Sound limit s → limit ≤ VERSIONS_MAX → length s.calls < 2 ^ 24 → changes_in (type_word s) ≡ s.changes
sound_changes limit s w low pins = let b = w.ty in changes_read (length s.calls) (ty_code s.ty) s.changes pins (omega arith)

pub sound_pins : (limit : ℕ) (s : Spot) → Sound limit s → limit ≤ VERSIONS_MAX → length s.calls < 2 ^ 24 → pins_in (type_word s) ≡ length s.calls
sound_pins limit s w low pins = let b = w.ty in pins_read (length s.calls) (ty_code s.ty) s.changes pins (omega arith)

pub body_back : (t : Option BodySite) → code_body (body_code t) ≡ t
body_back None = refl
body_back (Some t) =
    let e = ne_eqb (t.0 + 1) 0 (λ h. omega arith) in
    let n : t.0 + 1 - 1 ≡ t.0 = omega arith in
    let S : ℕ → Option BodySite = λ m. Some record { 0 = m } in
    rw e (ap S n)

body_read : (b n : ℕ) → b < 2 ^ 32 → (b + n * 2 ^ 32) % 2 ^ 32 ≡ b
body_read b n h = omega arith

redefs_read : (b n : ℕ) → b < 2 ^ 32 → (b + n * 2 ^ 32) / 2 ^ 32 ≡ n
redefs_read b n h = omega arith

pub sound_body : (limit : ℕ) (s : Spot) → Sound limit s → body_in (def_word s) ≡ s.body
sound_body limit s w = let b = w.body in ap code_body (body_read (body_code s.body) s.redefs (omega arith)) ∙ body_back s.body

pub sound_redefs : (limit : ℕ) (s : Spot) → Sound limit s → redefs_in (def_word s) ≡ s.redefs
sound_redefs limit s w = let b = w.body in redefs_read (body_code s.body) s.redefs (omega arith)
