-- Bytes up to a line `end`, line by line.
use Rattle.std.proofs.Common.{◌≡◌, inl, inr, ℕ, ◌+◌, ◌-◌, ◌<◌, ◌≤◌, List, [], ◌∷◌, ◌++◌, length, take, drop, get_or, false, refl, sym, ap, ◌∙◌, subst, append_assoc, append-nil, true≢false, arith}
use Rattle.std.proofs.Math.Seq.{take-add}
use Rattle.std.proofs.lemmas.List.{append_cancel_left, take_more, take_all}
use Rattle.std.specs.Prelude.{nat_eq, bytes_eq, codes}
use Rattle.std.specs.List.{slice_range, AllByRecursion}
use Rattle.hb_deriv_text.specs.Faults.{IsLine}
use Rattle.hb_deriv_text.proofs.MarkLemmas.{lacks_join}
use Rattle.hb_bundle.specs.Lines.{lines_of, IsOther, IsUpToEnd}
use Rattle.hb_bundle.proofs.EndLemmas.{others_join}

-- other lines are these bytes
abbrev pub AreOthers : List ℕ → Type 0
AreOthers bytes = (lines : List (List ℕ)) × AllByRecursion IsOther lines × (lines_of lines ≡ bytes)

lines_join : (ls ms : List (List ℕ)) → lines_of (ls ++ ms) ≡ lines_of ls ++ lines_of ms
lines_join [] ms = refl
lines_join (l ∷ ls) ms = ap (λ (bytes : List ℕ). (l ++ 10 ∷ []) ++ bytes) (lines_join ls ms) ∙ sym (append_assoc (l ++ 10 ∷ []) (lines_of ls) (lines_of ms))

-- the lines before a place, the line there so far, and a byte more
module _ (bytes : List ℕ) (line i d : ℕ) (begun : line ≤ i) (within : i < length bytes) where
  so_far : List ℕ
  so_far = slice_range bytes line i

  whole : take line bytes ++ slice_range bytes line i ≡ take i bytes
  whole = let to : line + (i - line) ≡ i = omega arith in sym (take-add line (i - line) bytes) ∙ ap (λ (n : ℕ). take n bytes) to

  more : (take line bytes ++ slice_range bytes line i) ++ get_or bytes i d ∷ [] ≡ take (i + 1) bytes
  more = ap (λ (l : List ℕ). l ++ get_or bytes i d ∷ []) whole ∙ sym (take_more bytes i d within)

  pub ended_here : AreOthers (take line bytes) → slice_range bytes line i ≡ codes "end" → get_or bytes i d ≡ 10 → IsUpToEnd bytes (i + 1)
  ended_here before same feed = inl (record {
    lines = before.0;
    others = before.1;
    parts =
        ap (λ (l : List ℕ). l ++ codes "end\n") before.2 ∙ sym (append_assoc (take line bytes) (codes "end") (10 ∷ []))
        ∙ ap (λ (l : List ℕ). (take line bytes ++ l) ++ 10 ∷ []) (sym same) ∙ ap (λ (n : ℕ). (take line bytes ++ slice_range bytes line i) ++ n ∷ []) (sym feed) ∙ more;
  })

  -- a line that is not `end`
  pub other_here : AreOthers (take line bytes) → IsLine (slice_range bytes line i) → (slice_range bytes line i ≡ codes "end" → ⊥) → get_or bytes i d ≡ 10 → AreOthers (take (i + 1) bytes)
  other_here before plain other feed = (
    before.0 ++ slice_range bytes line i ∷ [],
    others_join before.0 (slice_range bytes line i ∷ []) before.1 ((plain, other), tt),
    lines_join before.0 (slice_range bytes line i ∷ []) ∙ ap (λ (l : List ℕ). l ++ lines_of (slice_range bytes line i ∷ [])) before.2
        ∙ ap (λ (l : List ℕ). take line bytes ++ l) (append-nil (slice_range bytes line i ++ 10 ∷ [])) ∙ sym (append_assoc (take line bytes) (slice_range bytes line i) (10 ∷ []))
        ∙ ap (λ (n : ℕ). (take line bytes ++ slice_range bytes line i) ++ n ∷ []) (sym feed) ∙ more,
  )

  -- a byte that is no line feed
  pub plain_here : IsLine (slice_range bytes line i) → nat_eq (get_or bytes i d) 10 ≡ false → IsLine (slice_range bytes line (i + 1))
  plain_here plain other = subst IsLine (append_cancel_left (take line bytes) (slice_range bytes line i ++ get_or bytes i d ∷ []) (slice_range bytes line (i + 1))
      (sym (append_assoc (take line bytes) (slice_range bytes line i) (get_or bytes i d ∷ [])) ∙ more
      ∙ sym longer)) (lacks_join 10 (slice_range bytes line i) (get_or bytes i d ∷ []) plain (other, tt))
    where
      longer : take line bytes ++ slice_range bytes line (i + 1) ≡ take (i + 1) bytes
      longer = let to : line + (i + 1 - line) ≡ i + 1 = omega arith in sym (take-add line (i + 1 - line) bytes) ∙ ap (λ (n : ℕ). take n bytes) to

-- a line that has not begun
pub none_begun : (bytes : List ℕ) (at : ℕ) → IsLine (slice_range bytes at at)
none_begun bytes at = subst IsLine (ap (λ (n : ℕ). take n (drop at bytes)) (sym (none at))) tt
  where
    none : (at : ℕ) → at - at ≡ 0
    none at = omega arith

pub not_end : (line word : List ℕ) → word ≡ codes "end" → bytes_eq line word ≡ false → line ≡ codes "end" → ⊥
not_end line word w h e = true≢false (ap (λ (l : List ℕ). bytes_eq l (codes "end")) (sym e) ∙ ap (bytes_eq line) (sym w) ∙ h)

-- no line feed is left
pub unended : (bytes : List ℕ) (line i : ℕ) → line ≤ i → length bytes ≤ i → AreOthers (take line bytes) → IsLine (slice_range bytes line i) → IsUpToEnd bytes (length bytes)
unended bytes line i begun all before plain = inr (
  refl,
  record {
    lines = before.0;
    others = before.1;
    last = slice_range bytes line i;
    plain = plain;
    parts = ap (λ (l : List ℕ). l ++ slice_range bytes line i) before.2 ∙ sym (take-add line (i - line) bytes) ∙ take_all (line + (i - line)) bytes (omega arith);
  },
)
