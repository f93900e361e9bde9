-- Names that are what the keys of a set say.
use Rattle.std.proofs.Common.{◌≡◌, ℕ, suc, ◌+◌, ◌<◌, ◌≤◌, ◌↔◌, ◌⊎◌, inl, inr, Bool, true, false, cond, not, ◌||◌, if◌then◌else◌, List, [], ◌∷◌, ◌++◌, map, length, Option, Some}
use Rattle.std.proofs.Common.{None, refl, sym, ap, subst, ◌∙◌, arith, position, true≢false}
use Rattle.std.specs.Prelude.{slice_get, option_map, nat_lt, is_some}
use Rattle.std.specs.List.{IsDistinct, list_any, position_or_len}
use Rattle.std.proofs.lemmas.Bool.{lt-ltb, le-ltb, ltb-true, ltb-false, cases_order}
use Rattle.std.proofs.{lemmas.List.length-map, lemmas.List.map-append, lemmas.Map.Keys.apart_from_distinct}
use Rattle.std.proofs.lemmas.Option.{none-some, slice_get-map, get_or_from_slice_get, slice_get_within}
use Rattle.indexmap.specs.IndexSet.{insert_key}
use Rattle.hb_names.specs.{Names.Name, Names.same, Names.place, Names.Differ, Stored.Stock}
use Rattle.hb_names.proofs.NameLemmas.{same-equiv, place-test, place-within}

pub same-names : {s t : Stock} → s ≡ t → s.names ≡ t.names
same-names e = λ i. (e i).names

position-cons : {X : Type 0} (p : X → Bool) (x : X) (xs : List X) → position p (x ∷ xs) ≡ (if p x then Some 0 else option_map suc (position p xs))
position-cons p x xs = by (p x) (position_or_len p xs) (length xs)
  where
    later : (n l : ℕ) (t : Bool) → nat_lt n l ≡ t → cond (nat_lt (1 + n) (suc l)) (Some (1 + n)) None ≡ option_map suc (cond t (Some n) None)
    later n l true e =
        let next : 1 + n ≡ suc n = omega arith in
        ap (λ t. cond t (Some (1 + n)) None) (lt-ltb (1 + n) (suc l) (let below = ltb-true n l e in omega arith)) ∙ ap Some next
    later n l false e = ap (λ t. cond t (Some (1 + n)) None) (le-ltb (1 + n) (suc l) (let past = ltb-false n l e in omega arith))

    by : (b : Bool) (n l : ℕ) → cond (nat_lt (cond (not b) (1 + n) 0) (suc l)) (Some (cond (not b) (1 + n) 0)) None ≡ (if b then Some 0 else option_map suc (cond (nat_lt n l) (Some n) None))
    by true n l = ap (λ t. cond t (Some 0) None) (lt-ltb 0 (suc l) (omega arith))
    by false n l = later n l (nat_lt n l) refl

past : {X : Type 0} (p : X → Bool) (xs : List X) → position p xs ≡ None → position_or_len p xs ≡ length xs
past p [] e = refl
past p (x ∷ xs) e = by (p x) (position p xs) refl (sym (position-cons p x xs) ∙ e) (past p xs)
  where
    by : (b : Bool) (o : Option ℕ) → position p xs ≡ o → (if b then Some 0 else option_map suc o) ≡ None → (position p xs ≡ None → position_or_len p xs ≡ length xs)
        → cond (not b) (1 + position_or_len p xs) 0 ≡ suc (length xs)
    by true o s e rest = absurd (none-some 0 (sym e))
    by false None s e rest = let last = rest s in omega arith
    by false (Some j) s e rest = absurd (none-some (suc j) (sym e))

module _ {X : Type 0} (f : X → Name) where
  pub place-of : (keys : List X) (name : Name) → position (λ k. same name (f k)) keys ≡ place (map f keys) name
  place-of [] name = refl
  place-of (k ∷ keys) name =
      position-cons (λ k. same name (f k)) k keys
      ∙ ap (λ b. if b then Some 0 else option_map suc (position (λ k. same name (f k)) keys)) (same-equiv.symm name (f k))
      ∙ ap (λ o. if same (f k) name then Some 0 else option_map suc o) (place-of keys name)

  pub any-of : (keys : List X) (name : Name) → list_any (λ k. same name (f k)) keys ≡ is_some (place (map f keys) name)
  any-of [] name = refl
  any-of (k ∷ keys) name = by (same name (f k)) (same (f k) name) (same-equiv.symm name (f k)) (place (map f keys) name) (any-of keys name)
    where
      by : (a b : Bool) → a ≡ b → (o : Option ℕ) → list_any (λ k. same name (f k)) keys ≡ is_some o
          → (a || list_any (λ k. same name (f k)) keys) ≡ is_some (if b then Some 0 else option_map suc o)
      by true true e o rest = refl
      by true false e o rest = absurd (true≢false e)
      by false true e o rest = absurd (true≢false (sym e))
      by false false e None rest = rest
      by false false e (Some j) rest = rest

  shown : (o : Option X) (name : Name) → option_map f o ≡ Some name → (x : X) × (o ≡ Some x) × (f x ≡ name)
  shown None name e = absurd (none-some name e)
  shown (Some x) name e = (x, refl, cc)

  -- keys that differ say names that differ
  pub differ : (keys : List X) → IsDistinct (λ a b. same (f a) (f b)) keys → Differ (map f keys)
  differ keys apart i j name at_i at_j = by (cases_order i j)
    where
      before : (i j : ℕ) → slice_get (map f keys) i ≡ Some name → slice_get (map f keys) j ≡ Some name → i < j → ⊥
      before i j at_i at_j below =
          let x = shown (slice_get keys i) name (sym (slice_get-map f keys i) ∙ at_i) in
          let y = shown (slice_get keys j) name (sym (slice_get-map f keys j) ∙ at_j) in
          let apart = apart_from_distinct (λ a b. same (f a) (f b)) keys i j x.0 apart below (slice_get_within keys j y.0 y.1) in
          let first = get_or_from_slice_get keys i x.0 x.0 x.1 in
          let second = get_or_from_slice_get keys j y.0 x.0 y.1 in
          true≢false (sym (same-equiv.refl name) ∙ cc)

      by : (i ≡ j) ⊎ ((i < j) ⊎ (j < i)) → i ≡ j
      by (inl e) = e
      by (inr (inl below)) = absurd (before i j at_i at_j below)
      by (inr (inr below)) = absurd (before j i at_j at_i below)

-- what a set's look-up and a key that is put last say of the names
module _ {X : Type 0} (f : X → Name) (keys : List X) (names : List Name) (seen : map f keys ≡ names) (key : X) (name : Name) (is : f key ≡ name) where
  pub found : (o : Option ℕ) → o ≡ position (λ k. same (f key) (f k)) keys → place names name ≡ o
  found o e = sym (e ∙ place-of f keys (f key) ∙ ap (place (map f keys)) is ∙ ap (λ ns. place ns name) seen)

  pub added : place names name ≡ None → (after : List X) → after ≡ insert_key (λ a b. same (f a) (f b)) keys key → map f after ≡ names ++ name ∷ []
  added new after e =
      let absent = any-of f keys (f key) ∙ ap (λ n. is_some (place (map f keys) n)) is ∙ ap (λ ns. is_some (place ns name)) seen ∙ ap (λ o. is_some o) new in
      ap (map f) (e ∙ ap (λ b. if b then keys else keys ++ key ∷ []) absent) ∙ map-append f keys (key ∷ []) ∙ rw (seen, is) refl

  pub counted : length names ≡ length keys
  counted = sym (ap length seen) ∙ length-map keys f

  -- a key that is new gets the next index
  pub index-new : place names name ≡ None → position_or_len (λ k. same (f key) (f k)) keys ≡ length names
  index-new new = past (λ k. same (f key) (f k)) keys (place-of f keys (f key) ∙ ap (place (map f keys)) is ∙ ap (λ ns. place ns name) seen ∙ new) ∙ sym counted

-- whether a place of a set's keys is a name's
module _ {X : Type 0} (f : X → Name) (keys : List X) (names : List Name) (seen : map f keys ≡ names) (name : Name) (k : ℕ) where
  pub stands : (key : X) → IsDistinct (λ a b. same (f a) (f b)) keys → slice_get keys k ≡ Some key → (same (f key) name ≡ true) ↔ (place names name ≡ Some k)
  stands key distinct at = place-test names name (f key) k (subst Differ seen (differ f keys distinct)) (ap (λ ns. slice_get ns k) (sym seen) ∙ slice_get-map f keys k ∙ ap (option_map f) at)

  pub none-past : length keys ≤ k → place names name ≡ Some k → ⊥
  none-past past e = let below = place-within names name k e in let count = sym (ap length seen) ∙ length-map keys f in omega arith
