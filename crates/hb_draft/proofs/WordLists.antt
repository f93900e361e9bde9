-- Words by their bytes: what a list of vectors says of the list of their contents.
use Rattle.std.proofs.Common.{◌≡◌, ℕ, suc, arith, ◌+◌, ◌≤◌, if◌then◌else◌, take, length-append, Bool, true, false, cond, not, ◌||◌, List, [], ◌∷◌, ◌++◌, map, length, Some, None, refl, sym, ap, ◌∙◌, position, true≢false}
use Rattle.std.specs.{Prelude.slice_get, Prelude.bytes_eq, Prelude.nat_lt, Cmp.Lexicographic.same_text}
use Rattle.std.specs.List.{list_any, prefix_len, position_or_len, IsDistinct, AllByRecursion}
use Rattle.std.proofs.{lemmas.Cmp.nat_list_eq_equiv, lemmas.Map.Keys.IsDistinct-push, lemmas.Option.none-some}
use Rattle.hb_tree.specs.Grows.{BeginsWith}
use Rattle.indexmap.specs.IndexSet.{insert_key}
use Rattle.hb_draft.specs.Words.{with_word}
use Rattle.hb_draft.proofs.Lists.{each-append, slice_get-last}
use Rattle.std.proofs.lemmas.List.{length-map, append-nil, map-append, take_all, take_at}

module _ {X Y : Type 0} (f : X → Y) where
  prefix_len-map : (p : Y → Bool) (xs : List X) → prefix_len p (map f xs) ≡ prefix_len (λ x. p (f x)) xs
  prefix_len-map p [] = refl
  prefix_len-map p (x ∷ xs) = ap (λ n. cond (p (f x)) (1 + n) 0) (prefix_len-map p xs)

  pub position-map : (p : Y → Bool) (xs : List X) → position p (map f xs) ≡ position (λ x. p (f x)) xs
  position-map p xs = rw (prefix_len-map (λ x. not (p x)) xs, length-map xs f) refl

  pub list_any-map : (p : Y → Bool) (xs : List X) → list_any p (map f xs) ≡ list_any (λ x. p (f x)) xs
  list_any-map p [] = refl
  list_any-map p (x ∷ xs) = ap (λ b. p (f x) || b) (list_any-map p xs)

  each-map : (P : Y → Type 0) (xs : List X) → AllByRecursion (λ x. P (f x)) xs → AllByRecursion P (map f xs)
  each-map P [] h = tt
  each-map P (x ∷ xs) h = (h.0, each-map P xs h.1)

  pub IsDistinct-map : (e : Y → Y → Bool) (xs : List X) → IsDistinct (λ a b. e (f a) (f b)) xs → IsDistinct e (map f xs)
  unfolding IsDistinct
  IsDistinct-map e [] h = tt
  IsDistinct-map e (x ∷ xs) h = (each-map (λ y. e (f x) y ≡ false) xs h.0, IsDistinct-map e xs h.1)

-- a word that is there stands at its number
pub number-place : (word : List ℕ) (words : List (List ℕ)) → list_any (bytes_eq word) words ≡ true → slice_get words (position_or_len (bytes_eq word) words) ≡ Some word
number-place word [] h = absurd (true≢false (sym h))
number-place word (w ∷ words) h = by (bytes_eq word w) refl h (number-place word words)
  where
    by : (b : Bool) → bytes_eq word w ≡ b → (b || list_any (bytes_eq word) words) ≡ true
        → (list_any (bytes_eq word) words ≡ true → slice_get words (position_or_len (bytes_eq word) words) ≡ Some word)
        → slice_get (w ∷ words) (cond (not b) (1 + position_or_len (bytes_eq word) words) 0) ≡ Some word
    by true e there rest = ap Some (sym (same_text word w (sym e)))
    by false e there rest = ap (slice_get (w ∷ words)) (let n : ℕ = position_or_len (bytes_eq word) words in let later : 1 + n ≡ suc n = omega arith in later) ∙ rest there

-- the words once this one was met are the same, or one more
with_word-cases : (P : List (List ℕ) → Type 0) (words : List (List ℕ)) (word : List ℕ) → P words → (list_any (bytes_eq word) words ≡ false → P (words ++ word ∷ [])) → P (with_word words word)
with_word-cases P words word same more = by (list_any (bytes_eq word) words) refl
  where
    by : (b : Bool) → list_any (bytes_eq word) words ≡ b → P (if b then words else words ++ word ∷ [])
    by true e = same
    by false e = more e

module _ (words : List (List ℕ)) (word : List ℕ) where
  pub with_word-there : list_any (bytes_eq word) words ≡ true → with_word words word ≡ words
  with_word-there h = ap (λ b. if b then words else words ++ word ∷ []) h

  pub with_word-new : list_any (bytes_eq word) words ≡ false → with_word words word ≡ words ++ word ∷ []
  with_word-new h = ap (λ b. if b then words else words ++ word ∷ []) h

  pub with_word-begins : BeginsWith words (with_word words word)
  with_word-begins = with_word-cases (BeginsWith words) words word ([], sym (append-nil words)) (λ h. (word ∷ [], refl))

  pub with_word-each : (P : List ℕ → Type 0) → AllByRecursion P words → P word → AllByRecursion P (with_word words word)
  with_word-each P h k = with_word-cases (AllByRecursion P) words word h (λ e. each-append P words (word ∷ []) h (k, tt))

  pub with_word-length : length (with_word words word) ≤ length words + 1
  with_word-length = with_word-cases (λ ws. length ws ≤ length words + 1) words word (omega arith) (λ h. omega (arith, length-append words (word ∷ [])))

  pub with_word-apart : IsDistinct bytes_eq words → IsDistinct bytes_eq (with_word words word)
  with_word-apart h = with_word-cases (IsDistinct bytes_eq) words word h (λ e. IsDistinct-push nat_list_eq_equiv words word h e)

  pub with_word-front : take (length words) (with_word words word) ≡ words
  with_word-front = with_word-cases (λ ws. take (length words) ws ≡ words) words word (take_all (length words) words (omega arith)) (λ h. take_at words (word ∷ []) (length words) refl)

-- a word that is new has the next number
pub number-new : (p : List ℕ → Bool) (words : List (List ℕ)) → list_any p words ≡ false → position_or_len p words ≡ length words
number-new p [] h = refl
number-new p (w ∷ words) h = by (p w) refl h (number-new p words)
  where
    by : (b : Bool) → p w ≡ b → (b || list_any p words) ≡ false → (list_any p words ≡ false → position_or_len p words ≡ length words) → cond (not b) (1 + position_or_len p words) 0 ≡ suc (length words)
    by true e there rest = absurd (true≢false there)
    by false e there rest = let same = rest there in omega arith

-- the word stands at its number
pub with_word-place : (words : List (List ℕ)) (word : List ℕ) → slice_get (with_word words word) (position_or_len (bytes_eq word) words) ≡ Some word
with_word-place words word = by (list_any (bytes_eq word) words) refl
  where
    by : (b : Bool) → list_any (bytes_eq word) words ≡ b → slice_get (with_word words word) (position_or_len (bytes_eq word) words) ≡ Some word
    by true e = rw (with_word-there words word e) (number-place word words e)
    by false e = rw (with_word-new words word e, number-new (bytes_eq word) words e) (slice_get-last words word)

position-Some : {X : Type 0} (p : X → Bool) (xs : List X) (i : ℕ) → Some i ≡ position p xs → i ≡ position_or_len p xs
position-Some p xs i = by (nat_lt (position_or_len p xs) (length xs))
  where
    by : (b : Bool) → Some i ≡ cond b (Some (position_or_len p xs)) None → i ≡ position_or_len p xs
    by true e = cc
    by false e = absurd (none-some i (sym e))

-- words that are the contents of keys
module _ {X : Type 0} (keys : List X) (f : X → List ℕ) (words : List (List ℕ)) (seen : map f keys ≡ words) (word : List ℕ) where
  pub word-any : list_any (λ k. bytes_eq word (f k)) keys ≡ list_any (bytes_eq word) words
  word-any = sym (list_any-map f (bytes_eq word) keys) ∙ ap (list_any (bytes_eq word)) seen

  pub word-position : position (λ k. bytes_eq word (f k)) keys ≡ position (bytes_eq word) words
  word-position = sym (position-map f (bytes_eq word) keys) ∙ ap (position (bytes_eq word)) seen

  pub word-found : (i : ℕ) → Some i ≡ position (λ k. bytes_eq word (f k)) keys → i ≡ position_or_len (bytes_eq word) words
  word-found i e = position-Some (bytes_eq word) words i (e ∙ word-position)

  pub word-number : position_or_len (λ k. bytes_eq word (f k)) keys ≡ position_or_len (bytes_eq word) words
  word-number = sym (prefix_len-map f (λ w. not (bytes_eq word w)) keys) ∙ ap (position_or_len (bytes_eq word)) seen

  -- one key more, whose content is new
  pub word-inserted : (k : X) → f k ≡ word → (after : List X) → after ≡ insert_key (λ a b. bytes_eq (f a) (f b)) keys k → map f after ≡ with_word words word
  word-inserted k is after e =
      ap (map f) e ∙ by (list_any (λ j. bytes_eq (f k) (f j)) keys) ∙ ap (λ b. if b then words else words ++ word ∷ []) (ap (λ w. list_any (λ j. bytes_eq w (f j)) keys) is ∙ word-any)
    where
      by : (b : Bool) → map f (if b then keys else keys ++ k ∷ []) ≡ (if b then words else words ++ word ∷ [])
      by true = seen
      by false = map-append f keys (k ∷ []) ∙ rw (seen, is) refl
