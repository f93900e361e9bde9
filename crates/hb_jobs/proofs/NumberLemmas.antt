-- A text of digits that is no `u32` writes a number past each range of `u32`.
use Rattle.std.proofs.Common.{◌≡◌, ◌<◌, ◌^◌, ◌&&◌, ℕ, Bool, true, false, cond, refl, arith, List, length, Some, None, Err, nat_le}
use Rattle.std.specs.Str.Parse.{ParsesUnsigned, digits_value}
use Rattle.std.proofs.lemmas.Bool.{leb-true, le-leb}
use Rattle.std.proofs.lemmas.Str.Parse.{IsDigitsTest, numerals_by_value, parse_digits}
use Rattle.hb_jobs.specs.Numbers.{digits_alone, in_range, is_digit, is_number, number_of}

both : (a b : Bool) → (a && b) ≡ true → (a ≡ true) × (b ≡ true)
both true b e = (refl, e)
both false b e = cc

digits_test : IsDigitsTest (λ ds. digits_alone ds ≡ true)
digits_test = record {
  empty = refl;
  parts = λ c cs e. let k = both (is_digit c) (digits_alone cs) e in let m = both (nat_le 48 c) (nat_le c 57) k.0 in
      ((leb-true 48 c m.0, leb-true c 57 m.1), k.1);
  more = λ c cs k e. rw (le-leb 48 c k.0, le-leb c 57 k.1) e;
}

pub number_of-Err : {E : Type 0} (least most : ℕ) (text : List ℕ) (e : E) → most < 2 ^ 32 → is_number text ≡ true
    → ParsesUnsigned 32 10 text (Err e) → None ≡ number_of least most text
number_of-Err least most text e fits form parsed =
    go (is_number text && in_range least most (digits_value 10 text)) past
  where
    go : (b : Bool) → (b ≡ true → ⊥) → None ≡ cond b (Some (digits_value 10 text)) None
    go true never = absurd (never refl)
    go false never = refl

    past : (is_number text && in_range least most (digits_value 10 text)) ≡ true → ⊥
    past all =
        let parts = both (nat_le 1 (length text) && nat_le (length text) 10) (digits_alone text) form in
        let sizes = both (nat_le 1 (length text)) (nat_le (length text) 10) parts.0 in
        let range = both (nat_le least (digits_value 10 text)) (nat_le (digits_value 10 text) most)
        (both (is_number text) (in_range least most (digits_value 10 text)) all).1 in
        parse_digits (numerals_by_value (λ ds. digits_alone ds ≡ true) digits_test) 32 text (Err e) parsed parts.1
        (leb-true 1 (length text) sizes.0, omega (arith, fits, leb-true _ _ range.1))
