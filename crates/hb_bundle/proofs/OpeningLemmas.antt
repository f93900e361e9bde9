-- What is opened is a bundle's program, and each one is opened.
use Rattle.std.proofs.Common.{◌≡◌, ℕ, zero, suc, ◌+◌, ◌<◌, ◌≤◌, ◌^◌, List, [], ◌∷◌, ◌++◌, length, length-append, take, drop, get_or}
use Rattle.std.proofs.Common.{Bool, true, false, refl, sym, ap, ◌∙◌, subst, append_assoc, ltb-true, ltb-false, arith}
use Rattle.std.proofs.lemmas.List.{take-append-drop, length-take-le}
use Rattle.std.proofs.Math.Seq.{take-append_seam, drop-append_seam}
use Rattle.std.specs.Prelude.{Option, Some, None, IfSome, codes, decimal, nat_eq, nat_lt, if◌then◌else◌}
use Rattle.std.specs.Option.{option_map}
use Rattle.hb_deriv_text.specs.Reading.{behind, split, number}
use Rattle.hb_deriv_text.proofs.SpellingLemmas.{then_some, behind_is, split_is, number_is}
use Rattle.hb_deriv_text.proofs.MarkLemmas.{Lacks, then_is, if_false, split_at_mark, behind_written, number_written, lacks_place}
use Rattle.hb_bundle.specs.Bundle.{closing, HasProgram, HasNoProgram}
use Rattle.hb_bundle.specs.Opening.{closed, text_in, counted_in, line_in, opened_in}
use Rattle.hb_bundle.proofs.ListLemmas.{same_some}

abbrev Pair : Type 0
Pair = List ℕ × List ℕ

-- ── the line feed behind a text ──

pub no_text : closing [] ≡ 10 ∷ []
no_text = refl

pub closing_by_last : (text : List ℕ) (n d : ℕ) → n + 1 ≡ length text → closing text ≡ (if nat_eq (get_or text n d) 10 then [] else 10 ∷ [])
closing_by_last [] n d h = absurd (omega (arith, h))
closing_by_last (b ∷ []) zero d h = refl
closing_by_last (b ∷ []) (suc n) d h = absurd (omega (arith, h))
closing_by_last (b ∷ c ∷ text) zero d h = absurd (omega (arith, h))
closing_by_last (b ∷ c ∷ text) (suc n) d h = closing_by_last (c ∷ text) n d (omega (arith, h))

-- ── a text of so many bytes ──

record IsCut (n : ℕ) (bytes text rest : List ℕ) : Type 0 where
  pub few : n ≤ 1048576
  pub count : length text ≡ n
  pub parts : text ++ (closing text ++ rest) ≡ bytes

cut_is : (n : ℕ) (bytes text rest : List ℕ) → text_in bytes n ≡ Some (text, rest) → IsCut n bytes text rest
cut_is n bytes text rest h = go (nat_lt 1048576 n) (nat_lt (length bytes) n) refl refl h
  where
    go : (a b : Bool) → nat_lt 1048576 n ≡ a → nat_lt (length bytes) n ≡ b
        → (if a then None else (if b then None else closed (take n bytes) (drop n bytes))) ≡ Some (text, rest) → IsCut n bytes text rest
    go true b e f h = absurd (cc)
    go false true e f h = absurd (cc)
    go false false e f h =
        let c = then_some (behind (closing (take n bytes)) (drop n bytes)) _ (text, rest) h in
        let low = ltb-false 1048576 n e in
        let within = ltb-false (length bytes) n f in
        subst (λ (p : Pair). IsCut n bytes p.0 p.1) (same_some (take n bytes, c.0) (text, rest) c.2) (record {
          few = omega (arith, low);
          count = length-take-le n bytes (omega (arith, within));
          parts = ap (λ (l : List ℕ). take n bytes ++ l) (behind_is (closing (take n bytes)) (drop n bytes) c.0 c.1) ∙ take-append-drop n bytes;
        })

spelled : (head word text end rest : List ℕ) → ((((head ++ word) ++ 10 ∷ []) ++ text) ++ end) ++ rest ≡ head ++ (word ++ 10 ∷ (text ++ (end ++ rest)))
spelled head word text end rest =
    append_assoc (((head ++ word) ++ 10 ∷ []) ++ text) end rest ∙ append_assoc ((head ++ word) ++ 10 ∷ []) text (end ++ rest)
    ∙ append_assoc (head ++ word) (10 ∷ []) (text ++ (end ++ rest)) ∙ append_assoc head word (10 ∷ (text ++ (end ++ rest)))

pub opened_is : (bytes text rest : List ℕ) → opened_in bytes ≡ Some (text, rest) → HasProgram bytes text rest
opened_is bytes text rest h =
    let w = then_some (behind (codes "program ") bytes) line_in (text, rest) h in
    let p = then_some (split 10 w.0) counted_in (text, rest) w.2 in
    let n = then_some (number p.0.0) (text_in p.0.1) (text, rest) p.2 in
    let c = cut_is n.0 p.0.1 text rest n.2 in
    let few = c.few in
    let count = c.count in
    record {
      short = omega (arith, few, count);
      parts =
          spelled (codes "program ") (decimal (length text)) text (closing text) rest
          ∙ ap (λ (l : List ℕ). codes "program " ++ (decimal (length text) ++ 10 ∷ l)) c.parts
          ∙ ap (λ (l : List ℕ). codes "program " ++ (l ++ 10 ∷ p.0.1)) (ap decimal count ∙ number_is p.0.0 n.0 n.1)
          ∙ ap (λ (l : List ℕ). codes "program " ++ l) (split_is 10 w.0 p.0 p.1) ∙ behind_is (codes "program ") bytes w.0 w.1;
    }

-- ── each program is opened ──

lacks_front : (mark : ℕ) (front rest : List ℕ) → Lacks mark (front ++ rest) → Lacks mark front
lacks_front mark [] rest h = tt
lacks_front mark (b ∷ front) rest h = (h.0, lacks_front mark front rest h.1)

no_feed : (n : ℕ) → n < 2 ^ 32 → Lacks 10 (decimal n)
no_feed n h = lacks_front 10 (decimal n) (58 ∷ []) (lacks_front 10 (decimal n ++ 58 ∷ []) (decimal 0) (lacks_place 10 (n, 0) refl refl h (omega arith)))

not_less : (n m : ℕ) → m ≤ n → nat_lt n m ≡ false
not_less n m h = go (nat_lt n m) refl
  where
    go : (b : Bool) → nat_lt n m ≡ b → nat_lt n m ≡ false
    go true e = let less = ltb-true n m e in absurd (omega (arith, less, h))
    go false e = e

cut_written : (text rest : List ℕ) → length text ≤ 1048576 → text_in (text ++ (closing text ++ rest)) (length text) ≡ Some (text, rest)
cut_written text rest h =
    if_false {A = Option Pair} (nat_lt 1048576 n) None (if nat_lt (length bytes) n then None else closed (take n bytes) (drop n bytes)) (not_less 1048576 n h)
    ∙ if_false {A = Option Pair} (nat_lt (length bytes) n) None (closed (take n bytes) (drop n bytes)) (not_less (length bytes) n within)
    ∙ ap (λ (l : List ℕ). closed l (drop n bytes)) (take-append_seam text (closing text ++ rest))
    ∙ ap (closed text) (drop-append_seam text (closing text ++ rest))
    ∙ then_is (behind (closing text) (closing text ++ rest)) (λ (r : List ℕ). Some (text, r)) rest (Some (text, rest)) (behind_written (closing text) rest) refl
  where
    n : ℕ
    n = length text

    bytes : List ℕ
    bytes = text ++ (closing text ++ rest)

    within : n ≤ length bytes
    within = simp (length-append) (omega arith)

pub each_opened : (bytes text rest : List ℕ) → HasProgram bytes text rest → opened_in bytes ≡ Some (text, rest)
each_opened bytes text rest h =
    let n = length text in
    let short = h.short in
    let small : n < 2 ^ 32 = omega (arith, short) in
    let body = text ++ (closing text ++ rest) in
    ap opened_in (sym (sym (spelled (codes "program ") (decimal n) text (closing text) rest) ∙ h.parts))
    ∙ then_is (behind (codes "program ") (codes "program " ++ (decimal n ++ 10 ∷ body))) line_in (decimal n ++ 10 ∷ body) (Some (text, rest))
    (behind_written (codes "program ") (decimal n ++ 10 ∷ body))
    (then_is (split 10 (decimal n ++ 10 ∷ body)) counted_in (decimal n, body) (Some (text, rest)) (split_at_mark (decimal n) body 10 (no_feed n small))
    (then_is (number (decimal n)) (text_in body) n (Some (text, rest)) (number_written n small) (cut_written text rest h.short)))

pub none_opened : (bytes : List ℕ) → opened_in bytes ≡ None → (text rest : List ℕ) → HasProgram bytes text rest → ⊥
none_opened bytes h text rest p = apart (sym h ∙ each_opened bytes text rest p)
  where
    apart : (let o : Option Pair = None in o) ≡ Some (text, rest) → ⊥
    apart e = cc

-- ── what was found ──

pub is_opened : {X : Type 0} (f : X → Pair) (o : Option X) (bytes : List ℕ) → option_map f o ≡ opened_in bytes → IfSome o (λ x. HasProgram bytes (f x).0 (f x).1)
is_opened f None bytes h = tt
is_opened f (Some x) bytes h = opened_is bytes (f x).0 (f x).1 (sym h)

pub is_none : {X : Type 0} (f : X → Pair) (o : Option X) (bytes : List ℕ) → option_map f o ≡ opened_in bytes → o ≡ None → HasNoProgram bytes
is_none f None bytes h e = none_opened bytes (sym h)
is_none f (Some x) bytes h e = absurd (cc)
