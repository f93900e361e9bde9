-- Nodes that are no blocks, and those that are to come, have own tokens that begin at different bytes.
use Rattle.std.proofs.Common.{◌≡◌, ◌⊎◌, inl, inr, ℕ, zero, suc, ◌+◌, ◌≤◌, List, [], ◌∷◌, ◌++◌, Option, Some, None, length, slice_get, refl, sym, ◌∙◌, ap, subst, arith}
use Rattle.std.proofs.{lemmas.Bool.cases_eq, lemmas.Option.none-some, lemmas.Option.same_Some}
use Rattle.hb_lex.specs.Place.{column_at, line_at}
use Rattle.hb_build.specs.declared.held.Spot.{Spot}
use Rattle.hb_build.specs.Follow.{spot_at}
use Rattle.hb_parse.proofs.BlockCounts.{hit, hit-same, hit-other}

-- the line and the column of a byte of the text
abbrev pub IsSpot : List ℕ → Spot → Type 0
IsSpot text p = (p ≡ spot_at text p.at) × (p.at ≤ length text)

-- ── the nodes made so far: the byte at which the own token of one begins, and nothing of a block ──

abbrev pub AreMade : List ℕ → List (Option ℕ) → List (ℕ × ℕ) → Type 0
AreMade text [] [] = Unit {0}
AreMade text (None ∷ made) (place ∷ places) = AreMade text made places
AreMade text (Some b ∷ made) (place ∷ places) = (b ≤ length text) × (place ≡ (line_at text b, column_at text b)) × AreMade text made places
AreMade text _ _ = ⊥

-- how many of them have a token that begins here
abbrev pub taken : ℕ → List (Option ℕ) → ℕ
taken a [] = 0
taken a (None ∷ made) = taken a made
taken a (Some b ∷ made) = hit a b + taken a made

-- Of the nodes made so far each block still lies in some tree, and so many nodes to come have a token that begins at a
-- byte. No byte begins two tokens of nodes, and none from the bound on begins one.
pub record Apart (text : List ℕ) (bound : ℕ) (places : List (ℕ × ℕ)) (blocks coming : ℕ → ℕ) : Type 0 where
  pub made : List (Option ℕ)
  pub are_made : AreMade text made places
  pub kept : (k : ℕ) → slice_get made k ≡ Some None → 1 ≤ blocks k
  pub once : (a : ℕ) → taken a made + coming a ≤ 1
  pub below : (a : ℕ) → bound ≤ a → taken a made + coming a ≡ 0

-- ── one node more ──

taken-more : (a : ℕ) (made : List (Option ℕ)) (b : ℕ) → taken a (made ++ Some b ∷ []) ≡ taken a made + hit a b
taken-more a [] b = omega arith
taken-more a (None ∷ made) b = taken-more a made b
taken-more a (Some c ∷ made) b = let h : taken a (made ++ Some b ∷ []) ≡ taken a made + hit a b = taken-more a made b in omega (arith, h)

taken-block : (a : ℕ) (made : List (Option ℕ)) → taken a (made ++ None ∷ []) ≡ taken a made
taken-block a [] = refl
taken-block a (None ∷ made) = taken-block a made
taken-block a (Some c ∷ made) = ap (λ n. hit a c + n) (taken-block a made)

made-length : (text : List ℕ) (made : List (Option ℕ)) (places : List (ℕ × ℕ)) → AreMade text made places → length made ≡ length places
made-length text [] [] h = refl
made-length text (None ∷ made) (place ∷ places) h = ap suc (made-length text made places h)
made-length text (Some b ∷ made) (place ∷ places) h = ap suc (made-length text made places h.2)
made-length _ _ _ h = absurd h

made-more : (text : List ℕ) (made : List (Option ℕ)) (places : List (ℕ × ℕ)) (p : Spot) → IsSpot text p → AreMade text made places → AreMade text (made ++ Some p.at ∷ []) (places ++ (p.line, p.column) ∷ [])
made-more text [] [] p is h = (is.1, ap (λ (q : Spot). (q.line, q.column)) is.0, tt)
made-more text (None ∷ made) (place ∷ places) p is h = made-more text made places p is h
made-more text (Some b ∷ made) (place ∷ places) p is h = (h.0, h.1, made-more text made places p is h.2)
made-more _ _ _ _ _ h = absurd h

made-block : (text : List ℕ) (made : List (Option ℕ)) (places : List (ℕ × ℕ)) (place : ℕ × ℕ) → AreMade text made places → AreMade text (made ++ None ∷ []) (places ++ place ∷ [])
made-block text [] [] place h = tt
made-block text (None ∷ made) (other ∷ places) place h = made-block text made places place h
made-block text (Some b ∷ made) (other ∷ places) place h = (h.0, h.1, made-block text made places place h.2)
made-block _ _ _ _ h = absurd h

get-more : {X : Type 0} (xs : List X) (x y : X) (k : ℕ) → slice_get (xs ++ x ∷ []) k ≡ Some y → (slice_get xs k ≡ Some y) ⊎ ((k ≡ length xs) × (x ≡ y))
get-more [] x y zero e = inr (refl, same_Some x y e)
get-more [] x y (suc k) e = absurd (none-some y e)
get-more (z ∷ xs) x y zero e = inl e
get-more (z ∷ xs) x y (suc k) e = elim (get-more xs x y k e) [ inl h ↦ inl h | inr h ↦ inr (ap suc h.0, h.1) ]

module _ (text : List ℕ) (bound : ℕ) (places : List (ℕ × ℕ)) (blocks blocks' coming coming' : ℕ → ℕ) (more : (k : ℕ) → blocks k ≤ blocks' k) (h : Apart text bound places blocks coming) where
  -- no node more
  pub apart-same : ((a : ℕ) → coming' a ≤ coming a) → Apart text bound places blocks' coming'
  apart-same fewer = record {
    made = h.made;
    are_made = h.are_made;
    kept = λ k e. omega (arith, h.kept k e, more k);
    once = λ a. omega (arith, h.once a, fewer a);
    below = λ a le. omega (arith, h.below a le, fewer a);
  }

  -- a node with this token, which was to come
  pub apart-node : (p : Spot) → IsSpot text p → ((a : ℕ) → hit a p.at + coming' a ≤ coming a) → Apart text bound (places ++ (p.line, p.column) ∷ []) blocks' coming'
  apart-node p is fewer = record {
    made = h.made ++ Some p.at ∷ [];
    are_made = made-more text h.made places p is h.are_made;
    kept = λ k e. elim (get-more h.made (Some p.at) None k e) [
      | inl old ↦ omega (arith, h.kept k old, more k)
      | inr new ↦ absurd (none-some p.at (sym new.1))
    ];
    once = λ a. omega (arith, h.once a, fewer a, taken-more a h.made p.at);
    below = λ a le. omega (arith, h.below a le, fewer a, taken-more a h.made p.at);
  }

  -- a block, which lies in a tree
  pub apart-block : (place : ℕ × ℕ) → 1 ≤ blocks' (length places) → ((a : ℕ) → coming' a ≤ coming a) → Apart text bound (places ++ place ∷ []) blocks' coming'
  apart-block place lies fewer = record {
    made = h.made ++ None ∷ [];
    are_made = made-block text h.made places place h.are_made;
    kept = λ k e. elim (get-more h.made None None k e) [
      | inl old ↦ omega (arith, h.kept k old, more k)
      | inr new ↦ subst (λ n. 1 ≤ blocks' n) (sym (new.0 ∙ made-length text h.made places h.are_made)) lies
    ];
    once = λ a. omega (arith, h.once a, fewer a, taken-block a h.made);
    below = λ a le. omega (arith, h.below a le, fewer a, taken-block a h.made);
  }

-- a token from the bound on becomes the own token of a node to come
pub apart-used : (text : List ℕ) (bound : ℕ) (places : List (ℕ × ℕ)) (blocks coming : ℕ → ℕ) (at : ℕ) → Apart text bound places blocks coming → bound ≤ at
    → Apart text (at + 1) places blocks (λ a. hit a at + coming a)
apart-used text bound places blocks coming at h le = record {
  made = h.made;
  are_made = h.are_made;
  kept = h.kept;
  once = λ a. elim (cases_eq a at) [
    | inl same ↦ omega (arith, h.below a (subst (λ n. bound ≤ n) (sym same) le), ap (λ n. hit n at) same, hit-same at)
    | inr other ↦ omega (arith, h.once a, hit-other a at other)
  ];
  below = λ a over. omega (arith, h.below a (omega (arith, over, le)), hit-other a at (λ e. absurd (omega (arith, e, over))));
}

-- two nodes that are no blocks have tokens that begin at different bytes
none-twice : (made : List (Option ℕ)) (i : ℕ) (b : ℕ) → slice_get made i ≡ Some (Some b) → 1 ≤ taken b made
none-twice [] i b e = absurd (none-some (Some b) e)
none-twice (None ∷ made) zero b e = absurd (none-some b (same_Some None (Some b) e))
none-twice (None ∷ made) (suc i) b e = none-twice made i b e
none-twice (Some c ∷ made) zero b e = let same : c ≡ b = same_Some c b (same_Some (Some c) (Some b) e) in omega (arith, hit-same b, ap (λ n. hit b n) same)
none-twice (Some c ∷ made) (suc i) b e = let h : 1 ≤ taken b made = none-twice made i b e in omega (arith, h)

pub made-apart : (made : List (Option ℕ)) (i j : ℕ) (b : ℕ) → slice_get made i ≡ Some (Some b) → slice_get made j ≡ Some (Some b) → taken b made ≤ 1 → i ≡ j
made-apart [] i j b e f le = absurd (none-some (Some b) e)
made-apart (None ∷ made) zero j b e f le = absurd (none-some b (same_Some None (Some b) e))
made-apart (None ∷ made) (suc i) zero b e f le = absurd (none-some b (same_Some None (Some b) f))
made-apart (None ∷ made) (suc i) (suc j) b e f le = ap suc (made-apart made i j b e f le)
made-apart (Some c ∷ made) zero zero b e f le = refl
made-apart (Some c ∷ made) zero (suc j) b e f le =
    let same : c ≡ b = same_Some c b (same_Some (Some c) (Some b) e) in
    absurd (omega (arith, hit-same b, ap (λ n. hit b n) same, none-twice made j b f, le))
made-apart (Some c ∷ made) (suc i) zero b e f le =
    let same : c ≡ b = same_Some c b (same_Some (Some c) (Some b) f) in
    absurd (omega (arith, hit-same b, ap (λ n. hit b n) same, none-twice made i b e, le))
made-apart (Some c ∷ made) (suc i) (suc j) b e f le = ap suc (made-apart made i j b e f (omega (arith, le)))

-- a node of those made, and its place
pub made-at : (text : List ℕ) (made : List (Option ℕ)) (places : List (ℕ × ℕ)) (i : ℕ) (place : ℕ × ℕ) → AreMade text made places → slice_get places i ≡ Some place
    → (slice_get made i ≡ Some None) ⊎ ((b : ℕ) × (slice_get made i ≡ Some (Some b)) × (b ≤ length text) × (place ≡ (line_at text b, column_at text b)))
made-at text [] [] i place h e = absurd (none-some place e)
made-at text (None ∷ made) (first ∷ places) zero place h e = inl refl
made-at text (Some b ∷ made) (first ∷ places) zero place h e = inr (b, refl, h.0, sym (same_Some first place e) ∙ h.1)
made-at text (None ∷ made) (first ∷ places) (suc i) place h e = made-at text made places i place h e
made-at text (Some b ∷ made) (first ∷ places) (suc i) place h e = made-at text made places i place h.2 e
made-at _ _ _ _ _ h _ = absurd h
