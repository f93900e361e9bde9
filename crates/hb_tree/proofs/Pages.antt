-- Pages that go on.
use Rattle.std.proofs.Common.{◌≡◌, ℕ, suc, ◌<◌, ◌≤◌, ◌+◌, ◌-◌, List, [], ◌∷◌, ◌++◌, map, length, take, drop, get_or, refl, sym, ap, ap₂, ◌∙◌, arith, append-nil, Bool}
use Rattle.std.specs.Prelude.{if◌then◌else◌, ◌&&◌, All, OnOk, Result, Ok, Err, slice_get, Some}
use Rattle.std.proofs.{lemmas.List.append_assoc, lemmas.List.drop_more, Math.Seq.take-length, lemmas.List.Folds.flat_map-map, Math.ListN.drop_of_length-le}
use Rattle.std.proofs.lemmas.Option.{slice_get-get_or, slice_get_within, same_Some}
use Rattle.std.specs.List.{flat_map}
use Rattle.hb_tree.specs.{Pieces.Piece, Pieces.spell, Pieces.spell_behind, Canon.separated}
use Rattle.hb_tree.specs.Page.{Page, blank, spaced_behind, written}

spell_behind-append : (spaced : Bool) (ps qs : List Piece) → spell_behind spaced (ps ++ qs) ≡ spell_behind spaced ps ++ spell_behind (spaced_behind spaced ps) qs
spell_behind-append spaced [] qs = refl
spell_behind-append spaced (p ∷ ps) qs =
    ap (λ z. (if spaced && p.before then 32 ∷ [] else []) ++ p.bytes ++ z) (spell_behind-append p.behind ps qs)
    ∙ sym (append_assoc ((if spaced && p.before then 32 ∷ [] else []) ++ p.bytes) (spell_behind p.behind ps) (spell_behind (spaced_behind p.behind ps) qs))

spaced_behind-append : (spaced : Bool) (ps qs : List Piece) → spaced_behind spaced (ps ++ qs) ≡ spaced_behind (spaced_behind spaced ps) qs
spaced_behind-append spaced [] qs = refl
spaced_behind-append spaced (p ∷ ps) qs = spaced_behind-append p.behind ps qs

same_page : {a b : Page} → a.text ≡ b.text → a.spaced ≡ b.spaced → a ≡ b
same_page {a} {b} e k = ap₂ (λ (text : List ℕ) (spaced : Bool). (let page : Page = record { text = text; spaced = spaced } in page)) e k

pub written-nil : (page : Page) → written page [] ≡ page
unfolding written
written-nil page = same_page (append-nil page.text) refl

pub written-append : (page : Page) (ps qs : List Piece) → written page (ps ++ qs) ≡ written (written page ps) qs
unfolding written
written-append page ps qs =
    same_page
    (ap (λ z. page.text ++ z) (spell_behind-append page.spaced ps qs) ∙ sym (append_assoc page.text (spell_behind page.spaced ps) (spell_behind (spaced_behind page.spaced ps) qs)))
    (spaced_behind-append page.spaced ps qs)

-- pieces, and then more
pub wrote : {b c : Page} (a : Page) (ps qs : List Piece) → b ≡ written a ps → c ≡ written b qs → c ≡ written a (ps ++ qs)
wrote {b} {c} a ps qs e k = k ∙ ap (λ page. written page qs) e ∙ sym (written-append a ps qs)

-- a space where one may stand, and then a piece
pub put_piece : (a b : Page) (p : Piece) → b.text ≡ (a.text ++ (if a.spaced && p.before then 32 ∷ [] else [])) ++ p.bytes → b.spaced ≡ p.behind → b ≡ written a (p ∷ [])
unfolding written
put_piece a b p e k =
    let space : List ℕ = if a.spaced && p.before then 32 ∷ [] else [] in
    same_page (e ∙ append_assoc a.text space p.bytes ∙ ap (λ z. a.text ++ z) (sym (append-nil (space ++ p.bytes)))) k

module _ {X : Type 0} (f : X → List Piece) (F : List X → List Piece) where
  -- A loop that writes the pieces of one element after another: what is written, and then what is left, is the whole.
  pub walk_step : ((x : X) (xs : List X) → F (x ∷ xs) ≡ f x ++ F xs) → (xs : List X) (i : ℕ) (d : X) (page next whole : Page)
      → i < length xs → next ≡ written page (f (get_or xs i d)) → written page (F (drop i xs)) ≡ whole → written next (F (drop (i + 1) xs)) ≡ whole
  walk_step cons xs i d page next whole within grown held =
      ap (λ z. written z (F (drop (i + 1) xs))) grown
      ∙ sym (written-append page (f (get_or xs i d)) (F (drop (i + 1) xs)))
      ∙ ap (written page) (sym (ap F (drop_more xs i d within) ∙ cons (get_or xs i d) (drop (i + 1) xs)))
      ∙ held

  pub walk_end : F [] ≡ [] → (xs : List X) (i : ℕ) (page whole : Page) → length xs ≤ i → written page (F (drop i xs)) ≡ whole → page ≡ whole
  walk_end none xs i page whole past held =
      sym (ap (written page) (ap F (drop_of_length-le xs past) ∙ none) ∙ written-nil page) ∙ held

-- pieces, and then more where that succeeds
pub wrote_last : {X E : Type 0} {b : Page} (r : Result X E) (a c : Page) (ps qs : List Piece)
    → b ≡ written a ps → OnOk r (c ≡ written b qs) → OnOk r (c ≡ written a (ps ++ qs))
wrote_last (Ok x) a c ps qs e k = wrote a ps qs e k
wrote_last (Err x) a c ps qs e k = tt

-- the same where the element was looked up
pub walk_found : {X : Type 0} (f : X → List Piece) (xs : List X) (i : ℕ) (x : X) (page next whole : Page)
    → slice_get xs i ≡ Some x → next ≡ written page (f x) → written page (flat_map f (drop i xs)) ≡ whole → written next (flat_map f (drop (i + 1) xs)) ≡ whole
walk_found f xs i x page next whole found grown held =
    let within = slice_get_within xs i x found in
    let there = same_Some x (get_or xs i x) (sym found ∙ slice_get-get_or xs i x within) in
    walk_step f (flat_map f) (λ y ys. refl) xs i x page next whole within (grown ∙ ap (λ y. written page (f y)) there) held

-- the text of a page that was blank
pub text_of_written : (page : Page) (ps : List Piece) → page ≡ written blank ps → page.text ≡ spell ps
unfolding written
text_of_written page ps e = ap (λ p. p.text) e

-- the elements behind the first
pub rest_of : {X : Type 0} (x : X) (xs : List X) → take (length (x ∷ xs) - 1) (drop 1 (x ∷ xs)) ≡ xs
rest_of x xs = let n : length (x ∷ xs) - 1 ≡ length xs = omega arith in rw n (take-length xs)

-- a fact of each element holds of each behind the first
pub rest_all : {X : Type 0} (P : X → Type 0) (xs : List X) (k : ℕ) (d : X) → 0 < length xs → All P xs → k < length (take (length xs - 1) (drop 1 xs)) → P (get_or (take (length xs - 1) (drop 1 xs)) k d)
rest_all P [] k d some h within = absurd (omega arith)
rest_all P (x ∷ xs) k d some h within =
    let inside : k < length xs = rw (rest_of x xs) at within in
    rw (rest_of x xs) (h (suc k) d (omega arith))

module _ {X : Type 0} (f : X → List Piece) (sep : Piece) where
  -- nothing is written of no elements
  pub separated_none : (xs : List X) (page : Page) → length xs < 1 → page ≡ written page (separated sep (map f xs))
  separated_none [] page h = sym (written-nil page)
  separated_none (x ∷ xs) page h = absurd (omega arith)

  -- the first, and each further one behind the separator
  pub separated_whole : (xs : List X) (i : ℕ) (d : X) (a b page : Page) → 0 < length xs → b ≡ written a (f (get_or xs 0 d))
      → length (take (length xs - 1) (drop 1 xs)) ≤ i
      → written page (flat_map (λ x. sep ∷ f x) (drop i (take (length xs - 1) (drop 1 xs)))) ≡ written b (flat_map (λ x. sep ∷ f x) (take (length xs - 1) (drop 1 xs)))
      → page ≡ written a (separated sep (map f xs))
  separated_whole [] i d a b page some first past held = absurd (omega arith)
  separated_whole (x ∷ xs) i d a b page some first past held =
      let all : page ≡ written b (flat_map (λ y. sep ∷ f y) (take (length (x ∷ xs) - 1) (drop 1 (x ∷ xs)))) =
      walk_end (λ y. sep ∷ f y) (flat_map (λ y. sep ∷ f y)) refl _ i page _ past held in
      wrote a (f x) (flat_map (λ qs. sep ∷ qs) (map f xs)) first
      (all ∙ ap (λ ys. written b (flat_map (λ y. sep ∷ f y) ys)) (rest_of x xs) ∙ ap (written b) (sym (flat_map-map (λ qs. sep ∷ qs) f xs)))
