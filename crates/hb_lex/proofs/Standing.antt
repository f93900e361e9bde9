-- The tokens of a text stand in it in order, and its first fault has a place in it.
use Rattle.std.proofs.Common.{◌≡◌, ℕ, zero, suc, ◌+◌, ◌-◌, ◌<◌, ◌≤◌, List, [], ◌∷◌, length, take, drop, Bool, true, false, Option, Some, None, Ok, Err, refl, sym, ◌∙◌, ap, subst, inl, inr, arith, length-drop}
use Rattle.std.specs.Prelude.{nat_lt, MatchBool, MatchResult, All}
use Rattle.std.proofs.{Common.cond, lemmas.Bool.eqb-true, lemmas.Bool.ltb-false, lemmas.List.drop-drop, lemmas.List.Elements.All-nil, lemmas.List.Elements.All-cons}
use Rattle.hb_lex.proofs.{Forms.cond_cases, Runs.next-some}
use Rattle.hb_lex.specs.declared.{kinds.TokenKind.TokenKind, faults.LexFail.LexFail, spans.Token.Token}
use Rattle.hb_lex.specs.declared.kinds.TokenKind.TheVariants as k
use Rattle.hb_lex.specs.declared.faults.LexFail.TheVariants as fail
use Rattle.hb_lex.specs.Bytes.{is_blank, is_hash, is_line_feed, is_quote, is_backslash, is_plain, is_escape}
use Rattle.hb_lex.specs.{Fault.IsFaultOf, Literal.text_fault, Literal.value_of_number, Literal.value_of_text, Sizes.longest_name, Sizes.longest_text, Sizes.greatest_number}
use Rattle.hb_lex.specs.Tokens.{IsNext, Stands, AreInOrder, bytes_of, kind_of, excess}
use Rattle.hb_lex.specs.Text.{Answer, Follows, Front, IsFront, Lexes, after, comment_len, front_fault, separates, token_at}

-- the tokens of an answer stand in the text, from `at` on, and its fault is one of the text
abbrev pub StandsFrom : List ℕ → ℕ → Answer → Type 0
StandsFrom text at (Ok tokens) = AreInOrder at tokens × All (Stands text) tokens
StandsFrom text at (Err fault) = IsFaultOf text fault

in_order_sooner : (at later : ℕ) (tokens : List Token) → at ≤ later → AreInOrder later tokens → AreInOrder at tokens
in_order_sooner at later [] le h = tt
in_order_sooner at later (token ∷ tokens) le h = (omega (arith, h.0), h.1)

sooner : (text : List ℕ) (at later : ℕ) (answer : Answer) → at ≤ later → StandsFrom text later answer → StandsFrom text at answer
sooner text at later (Ok tokens) le h = (in_order_sooner at later tokens le h.0, h.1)
sooner text at later (Err fault) le h = h

with_token : (text : List ℕ) (kind : TokenKind) (at n : ℕ) (answer more : Answer) → Stands text (token_at kind at n) → StandsFrom text (at + n) more → answer ≡ after (token_at kind at n) more → StandsFrom text at answer
with_token text kind at n answer (Ok tokens) stands h e =
    let P = λ (x : Answer). StandsFrom text at x in
    subst P (sym e) ((omega arith, h.0), All-cons (Stands text) (token_at kind at n) tokens stands h.1)
with_token text kind at n answer (Err fault) stands h e = let P = λ (x : Answer). StandsFrom text at x in subst P (sym e) h

-- ── a token that is next stands in the text ──

span_bytes : (whole : List ℕ) (kind : TokenKind) (at n : ℕ) (text : List ℕ) → text ≡ drop at whole → bytes_of whole (token_at kind at n) ≡ take n text
span_bytes whole kind at n text e =
    let len : at + n - at ≡ n = omega arith in
    ap (λ m. take m (drop at whole)) len ∙ ap (take n) (sym e)

span_within : (whole : List ℕ) (at n : ℕ) (text : List ℕ) → text ≡ drop at whole → 0 < n → n ≤ length text → at + n ≤ length whole
span_within whole at n text e some le = omega (arith, ap length e, length-drop at whole)

next-stands : (whole : List ℕ) (kind : TokenKind) (at n : ℕ) (text : List ℕ) → text ≡ drop at whole → IsNext text kind n → excess kind at (take n text) ≡ None → Stands whole (token_at kind at n)
next-stands whole kind at n text e next small =
    let bytes : bytes_of whole (token_at kind at n) ≡ take n text = span_bytes whole kind at n text e in
    let some : 0 < n = next-some text kind n next in
    record {
      some = omega arith;
      within = span_within whole at n text e some next.within;
      kind = inl (ap kind_of bytes ∙ next.token);
      small = ap (excess kind at) bytes ∙ small;
    }

break-stands : (whole : List ℕ) (at b : ℕ) (text : List ℕ) → b ∷ text ≡ drop at whole → is_line_feed b ≡ true → Stands whole (token_at k.Separator at 1)
break-stands whole at b text e feed = record {
  some = omega arith;
  within = span_within whole at 1 (b ∷ text) e (omega arith) (omega arith);
  kind = inr (span_bytes whole k.Separator at 1 (b ∷ text) e ∙ ap (λ x. x ∷ []) (eqb-true b 10 feed), refl);
  small = refl;
}

-- ── a fault is one of the text ──

is_fault : (whole : List ℕ) (e f : LexFail) → IsFaultOf whole e → Some e ≡ Some f → IsFaultOf whole f
is_fault whole e f h same = let is : e ≡ f = cc same in let P = λ (x : LexFail). IsFaultOf whole x in subst P is h

limit_fault : (whole : List ℕ) (b : Bool) (e f : LexFail) → IsFaultOf whole e → cond b (Some e) None ≡ Some f → IsFaultOf whole f
limit_fault whole true e f h same = is_fault whole e f h same
limit_fault whole false e f h same = absurd (cc same)

excess_fault : (whole : List ℕ) (kind : TokenKind) (at : ℕ) (bytes : List ℕ) (f : LexFail) → at ≤ length whole → excess kind at bytes ≡ Some f → IsFaultOf whole f
excess_fault whole k.Name at bytes f le h = limit_fault whole _ (fail.LongName at) f le h
excess_fault whole k.ClassName at bytes f le h = limit_fault whole _ (fail.LongName at) f le h
excess_fault whole k.Number at bytes f le h = limit_fault whole _ (fail.BigNumber at) f le h
excess_fault whole k.Text at bytes f le h = limit_fault whole _ (fail.LongLiteral at) f le h
excess_fault whole _ at bytes f le h = absurd (cc h)

text_fault_within : (whole : List ℕ) (quote : ℕ) (escaped : Bool) (at : ℕ) (bytes : List ℕ) (f : LexFail) → quote ≤ length whole → at + length bytes ≤ length whole
    → text_fault quote escaped at bytes ≡ Some f → IsFaultOf whole f
text_fault_within whole quote escaped at [] f q le h = is_fault whole (fail.OpenText quote) f q h
text_fault_within whole quote true at (b ∷ bytes) f q le h = elim (cond_cases (is_line_feed b) _ _ _ h) [
  | inl feed ↦ is_fault whole (fail.OpenText quote) f q feed.1
  | inr r ↦ elim (cond_cases (is_escape b) _ _ _ r.1) [
    | inl goes ↦ text_fault_within whole quote false (at + 1) bytes f q (omega arith) goes.1
    | inr bad ↦ is_fault whole (fail.BadEscape (at - 1)) f (omega arith) bad.1
  ]
]
text_fault_within whole quote false at (b ∷ bytes) f q le h = elim (cond_cases (is_quote b) _ _ _ h) [
  | inl ends ↦ absurd (cc ends.1)
  | inr r ↦ elim (cond_cases (is_backslash b) _ _ _ r.1) [
    | inl goes ↦ text_fault_within whole quote true (at + 1) bytes f q (omega arith) goes.1
    | inr s ↦ elim (cond_cases (is_line_feed b) _ _ _ s.1) [
      | inl feed ↦ is_fault whole (fail.OpenText quote) f q feed.1
      | inr t ↦ elim (cond_cases (is_plain b) _ _ _ t.1) [
        | inl goes ↦ text_fault_within whole quote false (at + 1) bytes f q (omega arith) goes.1
        | inr bad ↦ is_fault whole (fail.BadByte at) f (omega arith) bad.1
      ]
    ]
  ]
]

none_begins : (whole : List ℕ) (at : ℕ) (text : List ℕ) (f : LexFail) → at + length text ≤ length whole → front_fault at text ≡ Some f → IsFaultOf whole f
none_begins whole at [] f le h = absurd (cc h)
none_begins whole at (b ∷ text) f le h = elim (cond_cases (is_quote b) _ _ _ h) [
  | inl quote ↦ text_fault_within whole at false (at + 1) text f (omega arith) (omega arith) quote.1
  | inr bad ↦ is_fault whole (fail.BadByte at) f (omega arith) bad.1
]

front-fault : (whole : List ℕ) (at : ℕ) (text : List ℕ) (f : LexFail) → text ≡ drop at whole → 0 < length text → IsFront at text (Err f) → IsFaultOf whole f
front-fault whole at text f e some (inl h) = excess_fault whole h.0 at (take h.1 text) f (omega (arith, ap length e, length-drop at whole)) h.3
front-fault whole at text f e some (inr h) = none_begins whole at text f (omega (arith, ap length e, length-drop at whole)) h.1

-- ── all tokens do ──

split : (b : Bool) (P Q R : Type 0) → MatchBool b P Q → (b ≡ true → P → R) → (b ≡ false → Q → R) → R
split true P Q R h f g = f refl h
split false P Q R h f g = g refl h

pub behind : (whole : List ℕ) (at m : ℕ) (text : List ℕ) → text ≡ drop at whole → drop m text ≡ drop (at + m) whole
behind whole at m text e = ap (drop m) e ∙ drop-drop m at whole

front_stands : (whole : List ℕ) (at : ℕ) (text : List ℕ) (P : ℕ → TokenKind → Answer → Type 0) (answer : Answer) (front : Front) → text ≡ drop at whole
    → ((m : ℕ) (kind : TokenKind) (more : Answer) → P m kind more → StandsFrom whole (at + m) more) → 0 < length text → IsFront at text front
    → MatchResult front (λ found. Follows (token_at found.0 at found.1) (P found.1 found.0) answer) (λ fault. answer ≡ Err fault) → StandsFrom whole at answer
front_stands whole at text P answer (Ok (kind, m)) e more some is h = with_token whole kind at m answer h.0 (next-stands whole kind at m text e is.0 is.1) (more m kind h.0 h.1) h.2
front_stands whole at text P answer (Err fault) e more some is h = let Q = λ (x : Answer). StandsFrom whole at x in subst Q (sym h) (front-fault whole at text fault e some is)

pub stands_from : (whole : List ℕ) (n at : ℕ) (before : Option TokenKind) (text : List ℕ) (answer : Answer) → text ≡ drop at whole → Lexes n at before text answer → StandsFrom whole at answer
stands_from whole zero at before text answer e h = absurd h
stands_from whole (suc n) at before [] answer e h = let P = λ (x : Answer). StandsFrom whole at x in subst P (sym h) (tt, All-nil (Stands whole))
stands_from whole (suc n) at before (b ∷ text) answer e h =
    let one : text ≡ drop (at + 1) whole = behind whole at 1 (b ∷ text) e in
    split (is_blank b) _ _ _ h (λ _ h. sooner whole at (at + 1) answer (omega arith) (stands_from whole n (at + 1) before text answer one h))
    (λ _ h. split (is_hash b) _ _ _ h (λ _ h.
    sooner whole at (at + comment_len (b ∷ text)) answer (omega arith)
    (stands_from whole n (at + comment_len (b ∷ text)) before (drop (comment_len (b ∷ text)) (b ∷ text)) answer (behind whole at (comment_len (b ∷ text)) (b ∷ text) e) h))
    (λ _ h. split (is_line_feed b) _ _ _ h
    (λ feed h. split (separates before) _ _ _ h
    (λ _ h. with_token whole k.Separator at 1 answer h.0 (break-stands whole at b text e feed) (stands_from whole n (at + 1) (Some k.Separator) text h.0 one h.1) h.2)
    (λ _ h. sooner whole at (at + 1) answer (omega arith) (stands_from whole n (at + 1) before text answer one h)))
    (λ _ h. front_stands whole at (b ∷ text) (λ m kind. Lexes n (at + m) (Some kind) (drop m (b ∷ text))) answer h.0 e
    (λ m kind more h. stands_from whole n (at + m) (Some kind) (drop m (b ∷ text)) more (behind whole at m (b ∷ text) e) h)
    (omega arith) h.1 h.2)))

-- ── what the bytes of a token are ──

pub bytes_have_kind : (text : List ℕ) (token : Token) → Stands text token → (kind : TokenKind) → token.kind ≡ kind → (kind ≡ k.Separator → ⊥) → kind_of (bytes_of text token) ≡ Some kind
bytes_have_kind text token h kind e other = elim h.kind [
  | inl is ↦ is ∙ ap (λ x. Some x) e
  | inr break ↦ absurd (other (sym e ∙ break.1))
]

below_limit : (limit n : ℕ) (fault : LexFail) → cond (nat_lt limit n) (Some fault) None ≡ None → n ≤ limit
below_limit limit n fault h = elim (cond_cases (nat_lt limit n) _ _ _ h) [ inl over ↦ absurd (cc over.1) | inr under ↦ ltb-false limit n under.0 ]

pub number_small : (text : List ℕ) (token : Token) → Stands text token → token.kind ≡ k.Number → value_of_number (bytes_of text token) ≤ greatest_number
number_small text token h e = below_limit greatest_number _ (fail.BigNumber token.from) (ap (λ x. excess x token.from (bytes_of text token)) (sym e) ∙ h.small)

pub text_small : (text : List ℕ) (token : Token) → Stands text token → token.kind ≡ k.Text → length (value_of_text (bytes_of text token)) ≤ longest_text
text_small text token h e = below_limit longest_text _ (fail.LongLiteral token.from) (ap (λ x. excess x token.from (bytes_of text token)) (sym e) ∙ h.small)

pub name_small : (text : List ℕ) (token : Token) → Stands text token → token.kind ≡ k.Name → length (bytes_of text token) ≤ longest_name
name_small text token h e = below_limit longest_name _ (fail.LongName token.from) (ap (λ x. excess x token.from (bytes_of text token)) (sym e) ∙ h.small)

pub class_small : (text : List ℕ) (token : Token) → Stands text token → token.kind ≡ k.ClassName → length (bytes_of text token) ≤ longest_name
class_small text token h e = below_limit longest_name _ (fail.LongName token.from) (ap (λ x. excess x token.from (bytes_of text token)) (sym e) ∙ h.small)
