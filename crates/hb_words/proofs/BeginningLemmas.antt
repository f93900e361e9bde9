-- Beginnings of one list.
use Rattle.std.proofs.Common.{◌≡◌, ℕ, zero, suc, ◌≤◌, ◌⊎◌, inl, inr, ⊎_elim, List, [], ◌∷◌, ◌++◌, length, get_or, set, refl, ap, sym, ◌∙◌, arith, append_assoc, length-append}
use mathlib.Core.Option.{some, some-ne-none, some-injective}
use mathlib.Core.List.{IsPrefix}
use lib.ListN.{get_elem?}
use Rattle.std.proofs.lemmas.List.{nil_from_length, append-nil}
use Rattle.hb_tables.specs.declared.entry.Entry.{Entry}
use Rattle.hb_tables.specs.History.{journal}
use Rattle.hb_words.specs.Words.{longer}
use Rattle.hb_tables.proofs.HistoryLemmas.{journal_append}

pub prefix_self : {A : Type 0} (xs : List A) → IsPrefix xs xs
prefix_self xs = ([], append-nil xs)

pub prefix_more : {A : Type 0} (xs ys zs : List A) → IsPrefix xs ys → IsPrefix xs (ys ++ zs)
prefix_more xs ys zs p = (p.0 ++ zs, sym (append_assoc xs p.0 zs) ∙ ap (λ w. w ++ zs) p.1)

pub prefix_trans : {A : Type 0} (xs ys zs : List A) → IsPrefix xs ys → IsPrefix ys zs → IsPrefix xs zs
prefix_trans xs ys zs p q = (p.0 ++ q.0, sym (append_assoc xs p.0 q.0) ∙ (ap (λ w. w ++ q.0) p.1 ∙ q.1))

pub set_there : {A : Type 0} (l : List A) (i : ℕ) (a b : A) → get_elem? l i ≡ some a → get_elem? (set l i b) i ≡ some b
set_there [] i a b e = absurd (some-ne-none a (sym e))
set_there (x ∷ xs) zero a b e = refl
set_there (x ∷ xs) (suc i) a b e = set_there xs i a b e

-- a number that stands in a list is what is read there
pub read_there : (l : List ℕ) (i a d : ℕ) → get_elem? l i ≡ some a → a ≡ get_or l i d
read_there [] i a d e = absurd (some-ne-none a (sym e))
read_there (x ∷ xs) zero a d e = sym (some-injective x a e)
read_there (x ∷ xs) (suc i) a d e = read_there xs i a d e

-- where a beginning has all entries of a caller, the rest has none
pub rest_of_others : (c : ℕ) (seen log : List Entry) (p : IsPrefix seen log) → journal c log ≡ journal c seen → journal c p.0 ≡ []
rest_of_others c seen log p own =
    let whole : journal c seen ++ journal c p.0 ≡ journal c seen = sym (journal_append c seen p.0) ∙ (ap (journal c) p.1 ∙ own) in
    let n = ap length whole in let m = length-append (journal c seen) (journal c p.0) in
    nil_from_length (journal c p.0) (omega (arith, n, m))

pub at_behind : {A : Type 0} (l : List A) (a b : A) (j : ℕ) → get_elem? (l ++ a ∷ []) j ≡ some b → (get_elem? l j ≡ some b) ⊎ ((j ≡ length l) × (a ≡ b))
at_behind [] a b zero e = inr (refl, some-injective a b e)
at_behind [] a b (suc j) e = absurd (some-ne-none b (sym e))
at_behind (x ∷ xs) a b zero e = inl e
at_behind (x ∷ xs) a b (suc j) e = ⊎_elim (λ t. inl t) (λ t. inr (ap suc t.0, t.1)) (at_behind xs a b j e)

pub prefix_length : {A : Type 0} (xs ys : List A) → IsPrefix xs ys → length xs ≤ length ys
prefix_length xs ys p = omega (arith, sym (ap length p.1) ∙ length-append xs p.0)

-- a beginning as long as the whole is the whole
pub prefix_whole : {A : Type 0} (xs ys : List A) → IsPrefix xs ys → length ys ≤ length xs → xs ≡ ys
prefix_whole [] [] p le = refl
prefix_whole [] (y ∷ ys) p le = absurd (omega arith)
prefix_whole (x ∷ xs) [] p le = absurd (cc (p.1))
prefix_whole (x ∷ xs) (y ∷ ys) p le =
    let rest = prefix_whole xs ys (p.0, cc (p.1)) (omega arith) in cc (p.1, rest)

pub record IsLonger (xs ys zs : List Entry) : Type 0 where
  pub begins : IsPrefix (longer xs ys) zs
  pub left : IsPrefix xs (longer xs ys)
  pub right : IsPrefix ys (longer xs ys)

pub longer_begins : (xs ys zs : List Entry) → IsPrefix xs zs → IsPrefix ys zs → IsLonger xs ys zs
longer_begins [] ys zs p q = record { begins = q; left = (ys, refl); right = prefix_self ys }
longer_begins (x ∷ xs) [] zs p q = record { begins = p; left = prefix_self (x ∷ xs); right = (x ∷ xs, refl) }
longer_begins (x ∷ xs) (y ∷ ys) [] p q = absurd (cc (p.1))
longer_begins (x ∷ xs) (y ∷ ys) (z ∷ zs) p q =
    let r = longer_begins xs ys zs (p.0, cc (p.1)) (q.0, cc (q.1)) in
    let xz : x ≡ z = cc (p.1) in let yx : y ≡ x = cc (p.1, q.1) in
    let b = r.begins.1 in let l = r.left.1 in let t = r.right.1 in
    record { begins = (r.begins.0, cc (xz, b)); left = (r.left.0, cc (l)); right = (r.right.0, cc (yx, t)) }

-- a list between one that has all of a caller's entries and the whole has them too
pub between_has : (c : ℕ) (a b l : List Entry) → IsPrefix a b → IsPrefix b l → journal c l ≡ journal c a → journal c l ≡ journal c b
between_has c a b l p q own =
    let bl : journal c b ++ journal c q.0 ≡ journal c l = sym (journal_append c b q.0) ∙ ap (journal c) q.1 in
    let ab : journal c a ++ journal c p.0 ≡ journal c b = sym (journal_append c a p.0) ∙ ap (journal c) p.1 in
    let n1 = ap length bl in let n2 = ap length ab in let n3 = ap length own in let m1 = length-append (journal c b) (journal c q.0) in let m2 = length-append (journal c a) (journal c p.0) in
    let none = nil_from_length (journal c q.0) (omega (arith, n1, n2, n3, m1, m2)) in
    sym bl ∙ (ap (λ w. journal c b ++ w) none ∙ append-nil (journal c b))

-- a beginning has no entry of a caller of whom the whole has none
pub none_before : (c : ℕ) (a l : List Entry) → IsPrefix a l → journal c l ≡ [] → journal c a ≡ []
none_before c a l p none =
    let al : journal c a ++ journal c p.0 ≡ journal c l = sym (journal_append c a p.0) ∙ ap (journal c) p.1 in
    let n1 = ap length al in let n2 = ap length none in let m = length-append (journal c a) (journal c p.0) in
    nil_from_length (journal c a) (omega (arith, n1, n2, m))
