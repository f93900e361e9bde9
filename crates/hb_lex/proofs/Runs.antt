-- What is read so far, and what is read behind it.
use Rattle.std.proofs.Common.{◌≡◌, ℕ, zero, suc, ◌+◌, ◌-◌, ◌<◌, ◌≤◌, List, [], ◌∷◌, ◌++◌, length, take, drop, Bool, true, false, not, Option, Some, None, Ok, Err, refl, sym}
use Rattle.std.proofs.Common.{◌∙◌, ap, subst, arith, append_assoc, get_or, length-drop, length-take}
use Rattle.std.specs.{Prelude.MatchBool, Prelude.Result, List.prefix_len}
use Rattle.std.proofs.lemmas.Bool.{both_ways, cond-true, not_from_false}
use Rattle.std.proofs.{lemmas.Bool.Decides.nat_tests, lemmas.List.Sums.take_while-cons}
use Rattle.std.proofs.lemmas.List.{drop_more, drop_all, drop-drop, append-nil, take_rest}
use Rattle.hb_lex.specs.declared.{kinds.TokenKind.TokenKind, faults.LexFail.LexFail, spans.Token.Token}
use Rattle.hb_lex.specs.declared.kinds.TokenKind.TheVariants as k
use Rattle.hb_lex.specs.{Bytes.is_blank, Bytes.is_hash, Bytes.is_line_feed, Tokens.IsNext}
use Rattle.hb_lex.specs.Text.{Answer, Lexes, HasTokens, HasFault, IsFront, after, comment_len, separates, token_at}
use Rattle.hb_lex.proofs.Forms.{empty_none}

-- ── one step of the relation ──

pub on_true : (b : Bool) (P Q : Type 0) → b ≡ true → P → MatchBool b P Q
on_true true P Q h p = p
on_true false P Q h p = absurd (both_ways false refl h)

pub on_false : (b : Bool) (P Q : Type 0) → b ≡ false → Q → MatchBool b P Q
on_false false P Q h q = q
on_false true P Q h q = absurd (both_ways true h refl)

module _ (n at : ℕ) (before : Option TokenKind) (b : ℕ) (text : List ℕ) where
  step-blank : (answer : Answer) → is_blank b ≡ true → Lexes n (at + 1) before text answer → Lexes (suc n) at before (b ∷ text) answer
  step-blank answer blank h = on_true (is_blank b) _ _ blank h

  step-comment : (answer : Answer) → is_blank b ≡ false → is_hash b ≡ true → Lexes n (at + comment_len (b ∷ text)) before (drop (comment_len (b ∷ text)) (b ∷ text)) answer → Lexes (suc n) at before (b ∷ text) answer
  step-comment answer blank hash h = on_false (is_blank b) _ _ blank (on_true (is_hash b) _ _ hash h)

  step-line : (answer : Answer) → is_blank b ≡ false → is_hash b ≡ false → is_line_feed b ≡ true → separates before ≡ false → Lexes n (at + 1) before text answer → Lexes (suc n) at before (b ∷ text) answer
  step-line answer blank hash feed joins h = on_false (is_blank b) _ _ blank (on_false (is_hash b) _ _ hash (on_true (is_line_feed b) _ _ feed (on_false (separates before) _ _ joins h)))

  step-break : (answer : Answer) → is_blank b ≡ false → is_hash b ≡ false → is_line_feed b ≡ true → separates before ≡ true → Lexes n (at + 1) (Some k.Separator) text answer
      → Lexes (suc n) at before (b ∷ text) (after (token_at k.Separator at 1) answer)
  step-break answer blank hash feed splits h = on_false (is_blank b) _ _ blank (on_false (is_hash b) _ _ hash (on_true (is_line_feed b) _ _ feed (on_true (separates before) _ _ splits (answer, h, refl))))

  step-token : (answer : Answer) (kind : TokenKind) (m : ℕ) → is_blank b ≡ false → is_hash b ≡ false → is_line_feed b ≡ false → IsFront at (b ∷ text) (Ok (kind, m))
      → Lexes n (at + m) (Some kind) (drop m (b ∷ text)) answer → Lexes (suc n) at before (b ∷ text) (after (token_at kind at m) answer)
  step-token answer kind m blank hash feed front h = on_false (is_blank b) _ _ blank (on_false (is_hash b) _ _ hash (on_false (is_line_feed b) _ _ feed (Ok (kind, m), front, (answer, h, refl))))

  step-fault : (fault : LexFail) → is_blank b ≡ false → is_hash b ≡ false → is_line_feed b ≡ false → IsFront at (b ∷ text) (Err fault) → Lexes (suc n) at before (b ∷ text) (Err fault)
  step-fault fault blank hash feed front = on_false (is_blank b) _ _ blank (on_false (is_hash b) _ _ hash (on_false (is_line_feed b) _ _ feed (Err fault, front, refl)))

-- ── the loop's invariant ──

-- tokens, and then an answer
abbrev joined : List Token → Answer → Answer
joined done (Ok tokens) = Ok (done ++ tokens)
joined done (Err fault) = Err fault

joined-after : (done : List Token) (token : Token) (answer : Answer) → joined done (after token answer) ≡ joined (done ++ token ∷ []) answer
joined-after done token (Ok tokens) = ap (λ ts. Ok ts) (sym (append_assoc done (token ∷ []) tokens))
joined-after done token (Err fault) = refl

joined-nil : (answer : Answer) → joined [] answer ≡ answer
joined-nil (Ok tokens) = refl
joined-nil (Err fault) = refl

abbrev Answers : List ℕ → Answer → Type 0
Answers text answer = (n : ℕ) × Lexes n 0 None text answer

-- The tokens up to `at` are `done`: whatever is read behind is read of the whole.
pub record Read (text : List ℕ) (done : List Token) (at : ℕ) (before : Option TokenKind) : Type 0 where
  pub within : at ≤ length text
  pub goes_on : (n : ℕ) (answer : Answer) → Lexes n at before (drop at text) answer → Answers text (joined done answer)

pub Read-none : (text : List ℕ) → Read text [] 0 None
Read-none text = record {
  within = omega arith;
  goes_on = λ n answer h. let P = λ (x : Answer). Answers text x in subst P (sym (joined-nil answer)) (n, h);
}

comment-within : (text : List ℕ) → comment_len text ≤ length text
comment-within text = omega (arith, length-take (prefix_len (λ x. not (is_line_feed x)) text) text)

pub next-some : (text : List ℕ) (kind : TokenKind) (n : ℕ) → IsNext text kind n → 0 < n
next-some text kind zero next = absurd (cc (sym empty_none ∙ next.token))
next-some text kind (suc n) next = omega arith

-- `&text[at..]`, and its first byte
abbrev pub rest_of : List ℕ → ℕ → List ℕ
rest_of text at = take (length text - at) (drop at text)

abbrev pub first_of : List ℕ → ℕ → ℕ
first_of text at = get_or (rest_of text at) 0 0

module _ (text : List ℕ) (done : List Token) (at : ℕ) (before : Option TokenKind) (r : Read text done at before) (lt : at < length text) where
  abbrev b : ℕ
  b = first_of text at

  abbrev tail : List ℕ
  tail = drop (at + 1) text

  rest_is : rest_of text at ≡ b ∷ tail
  rest_is =
      let e : rest_of text at ≡ get_or text at 0 ∷ tail = take_rest text at ∙ drop_more text at 0 lt in
      e ∙ ap (λ x. x ∷ tail) (sym (ap (λ s. get_or s 0 0) e))

  here : drop at text ≡ b ∷ tail
  here = sym (take_rest text at) ∙ rest_is

  behind : (m : ℕ) → drop (at + m) text ≡ drop m (b ∷ tail)
  behind m = sym (drop-drop m at text) ∙ ap (λ s. drop m s) here

  goes_here : (n : ℕ) (answer : Answer) → Lexes n at before (b ∷ tail) answer → Answers text (joined done answer)
  goes_here n answer h = let P = λ (s : List ℕ). Lexes n at before s answer in r.goes_on n answer (subst P (sym here) h)

  -- a token more, where an answer behind it is one of the whole
  goes_after : (token : Token) (answer : Answer) → Answers text (joined done (after token answer)) → Answers text (joined (done ++ token ∷ []) answer)
  goes_after token answer h = let P = λ (x : Answer). Answers text x in subst P (joined-after done token answer) h

  pub Read-blank : is_blank b ≡ true → Read text done (at + 1) before
  Read-blank blank = record {
    within = omega arith;
    goes_on = λ n answer h. goes_here (suc n) answer (step-blank n at before b tail answer blank h);
  }

  pub Read-comment : is_blank b ≡ false → is_hash b ≡ true → Read text done (at + comment_len (rest_of text at)) before
  Read-comment blank hash = record {
    within = omega (arith, comment-within (rest_of text at), length-take (length text - at) (drop at text), length-drop at text);
    goes_on = λ n answer h.
        let P = λ (m : ℕ). Lexes n (at + m) before (drop (at + m) text) answer in
        let Q = λ (s : List ℕ). Lexes n (at + comment_len (b ∷ tail)) before s answer in
        let m : comment_len (rest_of text at) ≡ comment_len (b ∷ tail) = ap comment_len rest_is in
        goes_here (suc n) answer (step-comment n at before b tail answer blank hash (subst Q (behind (comment_len (b ∷ tail))) (subst P m h)));
  }

  pub Read-line : is_blank b ≡ false → is_hash b ≡ false → is_line_feed b ≡ true → separates before ≡ false → Read text done (at + 1) before
  Read-line blank hash feed joins = record {
    within = omega arith;
    goes_on = λ n answer h. goes_here (suc n) answer (step-line n at before b tail answer blank hash feed joins h);
  }

  pub Read-break : is_blank b ≡ false → is_hash b ≡ false → is_line_feed b ≡ true → separates before ≡ true → Read text (done ++ token_at k.Separator at 1 ∷ []) (at + 1) (Some k.Separator)
  Read-break blank hash feed splits = record {
    within = omega arith;
    goes_on = λ n answer h.
        let token : Token = token_at k.Separator at 1 in
        goes_after token answer (goes_here (suc n) (after token answer) (step-break n at before b tail answer blank hash feed splits h));
  }

  front_here : (front : Result (TokenKind × ℕ) LexFail) → IsFront at (rest_of text at) front → IsFront at (b ∷ tail) front
  front_here front h = let P = λ (s : List ℕ). IsFront at s front in subst P rest_is h

  pub Read-token : (kind : TokenKind) (m : ℕ) → is_blank b ≡ false → is_hash b ≡ false → is_line_feed b ≡ false → IsFront at (rest_of text at) (Ok (kind, m))
      → Read text (done ++ token_at kind at m ∷ []) (at + m) (Some kind)
  Read-token kind m blank hash feed front = record {
    within = omega (arith, (front.0).within, length-take (length text - at) (drop at text), length-drop at text);
    goes_on = λ n answer h.
        let token : Token = token_at kind at m in
        let Q = λ (s : List ℕ). Lexes n (at + m) (Some kind) s answer in
        goes_after token answer (goes_here (suc n) (after token answer) (step-token n at before b tail answer kind m blank hash feed (front_here (Ok (kind, m)) front) (subst Q (behind m) h)));
  }

  pub token-goes : (kind : TokenKind) (m : ℕ) → IsFront at (rest_of text at) (Ok (kind, m)) → (0 < m) × (at + m ≤ length text)
  token-goes kind m front = (next-some (rest_of text at) kind m front.0, omega (arith, (front.0).within, length-take (length text - at) (drop at text), length-drop at text))

  pub Read-fault : (fault : LexFail) → is_blank b ≡ false → is_hash b ≡ false → is_line_feed b ≡ false → IsFront at (rest_of text at) (Err fault) → HasFault text fault
  Read-fault fault blank hash feed front = goes_here 1 (Err fault) (step-fault 0 at before b tail fault blank hash feed (front_here (Err fault) front))

pub Read-end : (text : List ℕ) (done : List Token) (at : ℕ) (before : Option TokenKind) → Read text done at before → length text ≤ at → HasTokens text done
Read-end text done at before r le =
    let P = λ (s : List ℕ). Lexes 1 at before s (Ok []) in
    let h : Answers text (Ok (done ++ [])) = r.goes_on 1 (Ok []) (subst P (sym (drop_all at text le)) refl) in
    let Q = λ (ts : List Token). HasTokens text ts in
    subst Q (append-nil done) h
