-- Two lists of the same names in another order: where a key goes, and back.
use Rattle.std.proofs.Common.{◌≡◌, inl, inr, ℕ, suc, ◌<◌, Bool, true, false, List, [], ◌∷◌, length, Option, Some, None, refl, sym, ap, ◌∙◌, arith}
use Rattle.std.specs.Prelude.{slice_get, is_some, slice_index_or, if◌then◌else◌, ◌||◌}
use Rattle.std.specs.List.{IsDistinct, list_any}
use Rattle.std.specs.Option.{option_map}
use Rattle.std.proofs.lemmas.Bool.{false≢true}
use Rattle.std.proofs.lemmas.Map.Keys.{IsDistinct-from_apart}
use Rattle.std.proofs.lemmas.Map.Made.{length-from_same_keys}
use Rattle.std.proofs.lemmas.Option.{slice_get-get_or, slice_get_cases, slice_get_past}
use Rattle.hb_names.specs.Names.{Differ, Name, place, same}
use Rattle.hb_names.proofs.NameLemmas.{place-at, place-one, place-within, same-equiv, same-is}
use Rattle.hb_renamed.specs.Renaming.{HaveSameNames, moved, or_this, place_or}

-- ── as many names ──

distinct : (names : List Name) → Differ names → IsDistinct same names
distinct names differ = IsDistinct-from_apart same names (λ i j d below last.
    let a = slice_index_or names i d in
    let b = slice_index_or names j d in
    go i j a b (slice_get-get_or names i d (omega (arith, below, last))) (slice_get-get_or names j d last) below (same a b) refl)
  where
    go : (i j : ℕ) (a b : Name) → slice_get names i ≡ Some a → slice_get names j ≡ Some b → i < j → (t : Bool) → same a b ≡ t → t ≡ false
    go i j a b at_i at_j below true e = absurd (let one = differ i j a at_i (at_j ∙ ap Some (sym (same-is a b e))) in omega (arith, one, below))
    go i j a b at_i at_j below false e = refl

member : (names : List Name) (p : Name) → list_any (same p) names ≡ is_some (place names p)
member [] p = refl
member (n ∷ names) p = by (same p n) (same n p) (same-equiv.symm p n) (place names p) (member names p)
  where
    by : (a b : Bool) → a ≡ b → (o : Option ℕ) → list_any (same p) names ≡ is_some o → (a || list_any (same p) names) ≡ is_some (if b then Some 0 else option_map suc o)
    by true true e o rest = refl
    by true false e o rest = absurd (false≢true (sym e))
    by false true e o rest = absurd (false≢true e)
    by false false e None rest = rest
    by false false e (Some j) rest = rest

pub as_many : (names others : List Name) → Differ names → Differ others → HaveSameNames names others → length names ≡ length others
as_many names others differ differ' alike = length-from_same_keys same-equiv names others (distinct names differ) (distinct others differ') (λ p. member names p ∙ alike p ∙ sym (member others p))

-- ── where a key goes ──

pub has_place : (names : List Name) (p : Name) → is_some (place names p) ≡ true → (k : ℕ) × (place names p ≡ Some k)
has_place names p e = go (place names p) refl e
  where
    go : (o : Option ℕ) → place names p ≡ o → is_some o ≡ true → (k : ℕ) × (place names p ≡ Some k)
    go None e h = absurd (false≢true h)
    go (Some k) e h = (k, e)

module _ (names others : List Name) (differ : Differ names) (alike : HaveSameNames names others) where
  -- the name at a key has a place in the other list
  pub goes_to : (k : ℕ) (p : Name) → slice_get names k ≡ Some p → (place others p ≡ Some (moved names others k))
  goes_to k p e =
      let there = has_place others p (sym (alike p) ∙ ap is_some (place-one names p k differ e)) in
      let is : moved names others k ≡ there.0 = ap (place_or k others) e ∙ ap (or_this k) there.1 in
      there.1 ∙ ap Some (sym is)

  pub stays_at : (k : ℕ) → slice_get names k ≡ None → moved names others k ≡ k
  stays_at k e = ap (place_or k others) e

  pub moves : (p : Name) → place others p ≡ option_map (moved names others) (place names p)
  moves p = go (place names p) refl
    where
      go : (o : Option ℕ) → place names p ≡ o → place others p ≡ option_map (moved names others) o
      go (Some k) e = goes_to k p (place-at names p k e)
      go None e = none (place others p) refl
        where
          none : (o : Option ℕ) → place others p ≡ o → place others p ≡ None
          none None f = f
          none (Some j) f = absurd (let never : false ≡ true = sym (ap is_some e) ∙ alike p ∙ ap is_some f in false≢true never)

  pub within : (k : ℕ) → k < length names → moved names others k < length others
  within k low = elim (slice_get_cases names k).1 [
    | inl here ↦ place-within others here.0 (moved names others k) (goes_to k here.0 here.2)
    | inr past ↦ absurd (let high = past.0 in omega (arith, high, low))
  ]

  module _ (differ' : Differ others) where
    many : length names ≡ length others
    many = as_many names others differ differ' alike

    -- each name stands at its key's other key
    pub stands_at : (k : ℕ) → slice_get others (moved names others k) ≡ slice_get names k
    stands_at k = elim (slice_get_cases names k).1 [
      | inl here ↦ place-at others here.0 (moved names others k) (goes_to k here.0 here.2) ∙ sym here.2
      | inr past ↦ ap (slice_get others) (stays_at k past.1) ∙ slice_get_past others k (let high = past.0 in let n = many in omega (arith, high, n)) ∙ sym past.1
    ]

    pub back_to : (k : ℕ) → moved others names (moved names others k) ≡ k
    back_to k = elim (slice_get_cases names k).1 [
      | inl here ↦ ap (place_or (moved names others k) names) (stands_at k ∙ here.2) ∙ ap (or_this (moved names others k)) (place-one names here.0 k differ here.2)
      | inr past ↦ ap (place_or (moved names others k) names) (stands_at k ∙ past.1) ∙ stays_at k past.1
    ]

-- a key goes over a list in between to where it goes at once
pub moved_on : (names mid others : List Name) → Differ names → Differ mid → HaveSameNames names mid → HaveSameNames names others → (k : ℕ) → moved mid others (moved names mid k) ≡ moved names others k
moved_on names mid others differ differ' alike whole k = elim (slice_get_cases names k).1 [
  | inl here ↦ ap (place_or (moved names mid k) others) (stands_at names mid differ alike differ' k ∙ here.2) ∙ ap (or_this (moved names mid k)) (goes_to names others differ whole k here.0 here.2)
  | inr past ↦ ap (place_or (moved names mid k) others) (stands_at names mid differ alike differ' k ∙ past.1) ∙ stays_at names mid differ alike k past.1
      ∙ sym (stays_at names others differ whole k past.1)
]
