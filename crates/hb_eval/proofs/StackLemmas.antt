-- A stack, the last of it first.
use Rattle.std.proofs.Common.{◌≡◌, ℕ, suc, ◌+◌, ◌-◌, List, [], ◌∷◌, ◌++◌, length, take, drop, refl, sym, ap, ◌∙◌, arith}
use Rattle.std.specs.Prelude.{reverse}
use Rattle.std.proofs.lemmas.List.{reverse-append, reverse-reverse, take-append-drop, length-drop, length-reverse}
use Rattle.std.proofs.Math.Seq.{drop-append_seam, take-append_seam, take-length}
use Rattle.hb_eval.specs.declared.{framed.Framed.Framed, state.State.State}
use Rattle.hb_eval.specs.{State.Bindings, Stacks.views, Stacks.frames_at}

-- what was pushed comes first
pub pushed_first : {A : Type 0} (xs : List A) (x : A) → reverse (xs ++ x ∷ []) ≡ x ∷ reverse xs
pushed_first xs x = reverse-append xs (x ∷ [])

pub next_last : {A : Type 0} (x : A) (xs : List A) → reverse (x ∷ xs) ≡ reverse xs ++ x ∷ []
next_last x xs = reverse-append (x ∷ []) xs

-- without the last n
pub reverse_drop : {A : Type 0} (xs : List A) (m n : ℕ) → m + n ≡ length xs → reverse (take m xs) ≡ drop n (reverse xs)
reverse_drop xs m n e =
    let a = take m xs in
    let b = drop m xs in
    let len : length (reverse b) ≡ n = omega (arith, length-reverse b, length-drop m xs) in
    sym (drop-append_seam (reverse b) (reverse a)) ∙ ap (λ k. drop k (reverse b ++ reverse a)) len ∙ ap (drop n) (sym (reverse-append a b) ∙ ap reverse (take-append-drop m xs))

-- the last n
pub reverse_take : {A : Type 0} (xs : List A) (m n : ℕ) → m + n ≡ length xs → reverse (take n (reverse xs)) ≡ drop m xs
reverse_take xs m n e =
    let a = take m xs in
    let b = drop m xs in
    let len : length (reverse b) ≡ n = omega (arith, length-reverse b, length-drop m xs) in
    ap reverse (ap (take n) (ap reverse (sym (take-append-drop m xs)) ∙ reverse-append a b) ∙ ap (λ k. take k (reverse b ++ reverse a)) (sym len) ∙ take-append_seam (reverse b) (reverse a)) ∙ reverse-reverse b

views_length : (fs : List Framed) (vs : Bindings) → length (views fs vs) ≡ length fs
views_length [] vs = refl
views_length (f ∷ fs) vs = ap suc (views_length fs (take f.base vs))

pub frames_length : (frames : List Framed) (x : State) → length (frames_at frames x) ≡ length frames
frames_length frames x = views_length (reverse frames) (take x.base x.vars.items) ∙ length-reverse frames

pub tail_of : {A : Type 0} (xs : List A) (k : ℕ) → take (length xs - k) (drop k xs) ≡ drop k xs
tail_of xs k = ap (λ n. take n (drop k xs)) (sym (length-drop k xs)) ∙ take-length (drop k xs)
