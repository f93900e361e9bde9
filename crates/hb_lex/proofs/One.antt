-- A text has one answer: one list of tokens, or one first fault.
use Rattle.std.proofs.Common.{◌≡◌, ℕ, zero, suc, ◌+◌, List, [], ◌∷◌, take, drop, Bool, true, false, Option, Some, Ok, Err, sym, ◌∙◌, ap, subst, inl, inr}
use Rattle.std.specs.Prelude.{MatchBool, MatchResult}
use Rattle.std.proofs.lemmas.Bool.{cases_order}
use Rattle.hb_lex.specs.declared.{kinds.TokenKind.TokenKind, spans.Token.Token}
use Rattle.hb_lex.specs.declared.kinds.TokenKind.TheVariants as k
use Rattle.hb_lex.specs.Bytes.{is_blank, is_hash, is_line_feed}
use Rattle.hb_lex.specs.Tokens.{IsNext, BeginsNone, kind_of, excess}
use Rattle.hb_lex.specs.Text.{Answer, Follows, Front, IsFront, Lexes, after, comment_len, separates, token_at}

-- ── one token or fault is in front ──

same_next : (text : List ℕ) (a b : TokenKind) (m n : ℕ) → IsNext text a m → IsNext text b n → (a ≡ b) × (m ≡ n)
same_next text a b m n h g = elim (cases_order m n) [
  | inl e ↦ (let same : Some a ≡ Some b = sym h.token ∙ ap (λ x. kind_of (take x text)) e ∙ g.token in cc, e)
  | inr r ↦ elim r [
    | inl lt ↦ absurd (cc (sym (h.longest n lt g.within) ∙ g.token))
    | inr lt ↦ absurd (cc (sym (g.longest m lt h.within) ∙ h.token))
  ]
]

not_begun : (text : List ℕ) (a : TokenKind) (m : ℕ) → IsNext text a m → BeginsNone text → ⊥
not_begun text a m h none = cc (sym (none m h.within) ∙ h.token)

same_excess : (at : ℕ) (text : List ℕ) (a b : TokenKind) (m n : ℕ) → IsNext text a m → IsNext text b n → excess a at (take m text) ≡ excess b at (take n text)
same_excess at text a b m n h g =
    let same : (a ≡ b) × (m ≡ n) = same_next text a b m n h g in
    ap (λ x. excess x at (take m text)) same.0 ∙ ap (λ x. excess b at (take x text)) same.1

same_front : (at : ℕ) (text : List ℕ) (x y : Front) → IsFront at text x → IsFront at text y → x ≡ y
same_front at text (Ok (a, m)) (Ok (b, n)) h g = let same : (a ≡ b) × (m ≡ n) = same_next text a b m n h.0 g.0 in cc (same.0, same.1)
same_front at text (Ok (a, m)) (Err f) h (inl g) = absurd (cc (sym h.1 ∙ same_excess at text a g.0 m g.1 h.0 g.2 ∙ g.3))
same_front at text (Ok (a, m)) (Err f) h (inr g) = absurd (not_begun text a m h.0 g.0)
same_front at text (Err e) (Ok (b, n)) (inl h) g = absurd (cc (sym g.1 ∙ same_excess at text b h.0 n h.1 g.0 h.2 ∙ h.3))
same_front at text (Err e) (Ok (b, n)) (inr h) g = absurd (not_begun text b n g.0 h.0)
same_front at text (Err e) (Err f) (inl h) (inl g) = let same : Some e ≡ Some f = sym h.3 ∙ same_excess at text h.0 g.0 h.1 g.1 h.2 g.2 ∙ g.3 in cc
same_front at text (Err e) (Err f) (inl h) (inr g) = absurd (not_begun text h.0 h.1 h.2 g.0)
same_front at text (Err e) (Err f) (inr h) (inl g) = absurd (not_begun text g.0 g.1 g.2 h.0)
same_front at text (Err e) (Err f) (inr h) (inr g) = let same : Some e ≡ Some f = sym h.1 ∙ g.1 in cc

-- ── one answer ──

both : (b : Bool) (P Q P' Q' R : Type 0) → MatchBool b P Q → MatchBool b P' Q' → (P → P' → R) → (Q → Q' → R) → R
both true P Q P' Q' R h g f f' = f h g
both false P Q P' Q' R h g f f' = f' h g

same_follows : (token : Token) (P Q : Answer → Type 0) (x y : Answer) → ((a b : Answer) → P a → Q b → a ≡ b) → Follows token P x → Follows token Q y → x ≡ y
same_follows token P Q x y same h g = h.2 ∙ ap (after token) (same h.0 g.0 h.1 g.1) ∙ sym g.2

-- what the front of the text gives, where one answer stands behind it
same_behind : (at : ℕ) (P Q : ℕ → TokenKind → Answer → Type 0) (x y : Answer) (front : Front) → ((m : ℕ) (kind : TokenKind) (a b : Answer) → P m kind a → Q m kind b → a ≡ b)
    → MatchResult front (λ found. Follows (token_at found.0 at found.1) (P found.1 found.0) x) (λ fault. x ≡ Err fault)
    → MatchResult front (λ found. Follows (token_at found.0 at found.1) (Q found.1 found.0) y) (λ fault. y ≡ Err fault) → x ≡ y
same_behind at P Q x y (Ok found) same h g = same_follows (token_at found.0 at found.1) (P found.1 found.0) (Q found.1 found.0) x y (same found.1 found.0) h g
same_behind at P Q x y (Err fault) same h g = h ∙ sym g

pub one_answer : (n m at : ℕ) (before : Option TokenKind) (text : List ℕ) (x y : Answer) → Lexes n at before text x → Lexes m at before text y → x ≡ y
one_answer zero m at before text x y h g = absurd h
one_answer (suc n) zero at before text x y h g = absurd g
one_answer (suc n) (suc m) at before [] x y h g = h ∙ sym g
one_answer (suc n) (suc m) at before (b ∷ text) x y h g =
    both (is_blank b) _ _ _ _ _ h g (λ h g. one_answer n m (at + 1) before text x y h g)
    (λ h g. both (is_hash b) _ _ _ _ _ h g (λ h g. one_answer n m (at + comment_len (b ∷ text)) before (drop (comment_len (b ∷ text)) (b ∷ text)) x y h g)
    (λ h g. both (is_line_feed b) _ _ _ _ _ h g
    (λ h g. both (separates before) _ _ _ _ _ h g
    (λ h g. same_follows (token_at k.Separator at 1) _ _ x y (λ c d p q. one_answer n m (at + 1) (Some k.Separator) text c d p q) h g)
    (λ h g. one_answer n m (at + 1) before text x y h g))
    (λ h g.
    let P = λ (front : Front). MatchResult front (λ found. Follows (token_at found.0 at found.1) (Lexes m (at + found.1) (Some found.0) (drop found.1 (b ∷ text))) y) (λ fault. y ≡ Err fault) in
    same_behind at (λ i kind. Lexes n (at + i) (Some kind) (drop i (b ∷ text))) (λ i kind. Lexes m (at + i) (Some kind) (drop i (b ∷ text))) x y h.0
    (λ i kind c d p q. one_answer n m (at + i) (Some kind) (drop i (b ∷ text)) c d p q)
    h.2 (subst P (sym (same_front at (b ∷ text) h.0 g.0 h.1 g.1)) g.2))))
