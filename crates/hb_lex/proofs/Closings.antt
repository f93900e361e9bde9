-- The bytes behind an opening quote, read one by one.
use Rattle.std.proofs.Common.{◌≡◌, ℕ, suc, ◌+◌, ◌<◌, List, ◌∷◌, length, take, drop, get_or, Bool, true, false, Some, refl, sym, ◌∙◌, ap, arith}
use Rattle.std.proofs.{lemmas.Bool.and_from, lemmas.Bool.cond-true, lemmas.Bool.cond-false, lemmas.List.drop_more}
use Rattle.hb_lex.specs.declared.faults.LexFail.{LexFail}
use Rattle.hb_lex.specs.Bytes.{is_line_feed, is_quote, is_backslash, is_plain, is_escape}
use Rattle.hb_lex.specs.Literal.{is_closed, text_fault}

-- The bytes up to `i` neither close the text nor go wrong.
pub record Inside (quote : ℕ) (behind : List ℕ) (i : ℕ) (escaped : Bool) : Type 0 where
  pub fault : text_fault quote escaped (quote + 1 + i) (drop i behind) ≡ text_fault quote false (quote + 1) behind
  pub closed : (m : ℕ) → is_closed escaped (take m (drop i behind)) ≡ true → is_closed false (take (i + m) behind) ≡ true

module _ (quote : ℕ) (behind : List ℕ) (i : ℕ) (escaped : Bool) (lt : i < length behind) (r : Inside quote behind i escaped) where
  abbrev b : ℕ
  b = get_or behind i 0

  abbrev rest : List ℕ
  rest = drop (i + 1) behind

  fault_here : text_fault quote escaped (quote + 1 + i) (b ∷ rest) ≡ text_fault quote false (quote + 1) behind
  fault_here = ap (λ bytes. text_fault quote escaped (quote + 1 + i) bytes) (sym (drop_more behind i 0 lt)) ∙ r.fault

  closed_here : (m : ℕ) → is_closed escaped (take m (b ∷ rest)) ≡ true → is_closed false (take (i + m) behind) ≡ true
  closed_here m h = r.closed m (ap (λ bytes. is_closed escaped (take m bytes)) (drop_more behind i 0 lt) ∙ h)

  -- one byte more, where it goes on in this state
  more : (next : Bool) → text_fault quote next (quote + 1 + i + 1) rest ≡ text_fault quote escaped (quote + 1 + i) (b ∷ rest)
      → ((m : ℕ) → is_closed next (take m rest) ≡ true → is_closed escaped (b ∷ take m rest) ≡ true) → Inside quote behind (i + 1) next
  more next same closes = record {
    fault = let e : quote + 1 + (i + 1) ≡ quote + 1 + i + 1 = omega arith in rw e (same ∙ fault_here);
    closed = λ m h. let e : i + 1 + m ≡ i + suc m = omega arith in rw e (closed_here (suc m) (closes m h));
  }

  pub Inside-escape : escaped ≡ true → is_line_feed b ≡ false → is_escape b ≡ true → Inside quote behind (i + 1) false
  Inside-escape e no_feed holds = more false (rw (e, no_feed, holds) refl) (λ m h. rw e (and_from (is_escape b) (is_closed false (take m rest)) holds h))

  pub Inside-backslash : escaped ≡ false → is_quote b ≡ false → is_backslash b ≡ true → Inside quote behind (i + 1) true
  Inside-backslash e no_quote holds = more true (rw (e, no_quote, holds) refl) (λ m h. rw (e, no_quote, holds) h)

  pub Inside-plain : escaped ≡ false → is_quote b ≡ false → is_backslash b ≡ false → is_line_feed b ≡ false → is_plain b ≡ true → Inside quote behind (i + 1) false
  Inside-plain e no_quote no_slash no_feed holds =
      more false
      (rw e (sym (cond-false (is_quote b) _ _ no_quote ∙ cond-false (is_backslash b) _ _ no_slash ∙ cond-false (is_line_feed b) _ _ no_feed ∙ cond-true (is_plain b) _ _ holds)))
      (λ m h. rw e (cond-false (is_quote b) _ _ no_quote ∙ cond-false (is_backslash b) _ _ no_slash ∙ and_from (is_plain b) (is_closed false (take m rest)) holds h))

  -- here the text goes wrong
  pub stops : (fault : LexFail) → text_fault quote escaped (quote + 1 + i) (b ∷ rest) ≡ Some fault → text_fault quote false (quote + 1) behind ≡ Some fault
  stops fault h = sym fault_here ∙ h

  -- here the text ends
  pub closes : escaped ≡ false → is_quote b ≡ true → is_closed false (take (i + 1) behind) ≡ true
  closes e holds = closed_here 1 (rw (e, holds) refl)
