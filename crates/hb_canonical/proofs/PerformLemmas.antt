-- What the actions of a text build, its deeds build with no sight of the text.
use Rattle.std.proofs.Common.{◌≡◌, ℕ, zero, suc, pos, ◌+◌, ◌<◌, ◌^◌, List, [], ◌∷◌, ◌++◌, drop, false, Option, Some, None, Ok, refl, sym, ◌∙◌, ap, subst, inl, inr, arith, add-one, append_assoc, codes}
use Rattle.std.specs.{Prelude.All, Prelude.nat_eq, List.flat_map, Fmt.signed_decimal}
use Rattle.std.proofs.lemmas.Bool.{cases_Bool, cond-true, cond-false, eqb-true}
use Rattle.hb_lex.specs.{Bytes.is_quote, Bytes.is_backslash, Tokens.Stands, Tokens.bytes_of, Text.HasTokens}
use Rattle.hb_lex.specs.declared.{kinds.TokenKind.TokenKind, spans.Token.Token}
use Rattle.hb_lex.specs.Literal.{value_of_number, value_of_text, value_behind}
use Rattle.hb_lex.proofs.Standing.{stands_from}
use Rattle.hb_grammar.specs.declared.{actions.Action.Action, symbols.Symbol.Symbol, symbols.Symbol.TheVariants.Token as T, symbols.Symbol.TheVariants.Phrase as N}
use Rattle.hb_grammar.specs.declared.{symbols.Symbol.TheVariants.Action as A}
use Rattle.hb_grammar.specs.declared.actions.Action.TheVariants as a
use Rattle.hb_grammar.specs.Language.{Act, act as act_at, Translates, HasActions, kinds_of, program}
use Rattle.hb_build.specs.{Needs.needs, Needs.HasToken, Tags.leaves}
use Rattle.hb_build.specs.declared.held.Spot.{Spot}
use Rattle.hb_build.specs.Acts.{Work, Answer, Goes, Fails, Lost, act, leaf}
use Rattle.hb_build.specs.Follow.{follow, and_then, spot_of, bytes_in, last_of}
use Rattle.hb_build.specs.Fits.{State, Fits, unused}
use Rattle.hb_build.proofs.FitLemmas.{fits-program, fits-token, fits-phrase, fits-has_token, still-known}
use Rattle.hb_build.proofs.LeafLemmas.{number-small}
use Rattle.hb_canonical.specs.{Deeds.looked_at, Deeds.deeds_in, Perform.perform, Perform.spots_in}
use Rattle.hb_canonical.proofs.LeafLemmas.{digits_of}
use Rattle.hb_tree.specs.{Tree.TInt, Tree.TText, Canon.escape, Canon.quoted}
use Rattle.hb_draft.specs.{Words.with_word, Made.word_number}
use Rattle.hb_parse.proofs.{TokenLemmas.token-has, CourseLemmas.read-kind, CourseLemmas.all-at}
use Rattle.hb_parse.proofs.FollowLemmas.{then-same}

-- ── literals that are spelled anew keep their value ──

pub number-anew : (n : ℕ) → n < 2 ^ 64 → value_of_number (signed_decimal (pos n)) ≡ n
number-anew n small = (digits_of n small).1

value-escape : (b : ℕ) (more : List ℕ) → value_behind false (escape b ++ more) ≡ b ∷ value_behind false more
value-escape b more = elim (cases_Bool (nat_eq b 34)) [
  | inl q ↦ escapes (codes "\\\"") 34 (cond-true (nat_eq b 34) _ _ q) (sym (eqb-true b 34 q)) refl
  | inr q ↦ elim (cases_Bool (nat_eq b 92)) [
    | inl s ↦ escapes (codes "\\\\") 92 (cond-false (nat_eq b 34) _ _ q ∙ cond-true (nat_eq b 92) _ _ s) (sym (eqb-true b 92 s)) refl
    | inr s ↦ elim (cases_Bool (nat_eq b 10)) [
      | inl n ↦ escapes (codes "\\n") 10 (cond-false (nat_eq b 34) _ _ q ∙ cond-false (nat_eq b 92) _ _ s ∙ cond-true (nat_eq b 10) _ _ n) (sym (eqb-true b 10 n)) refl
      | inr n ↦ elim (cases_Bool (nat_eq b 9)) [
        | inl t ↦ escapes (codes "\\t") 9 (cond-false (nat_eq b 34) _ _ q ∙ cond-false (nat_eq b 92) _ _ s ∙ cond-false (nat_eq b 10) _ _ n ∙ cond-true (nat_eq b 9) _ _ t) (sym (eqb-true b 9 t)) refl
        | inr t ↦
            let same : escape b ≡ b ∷ [] = cond-false (nat_eq b 34) _ _ q ∙ cond-false (nat_eq b 92) _ _ s ∙ cond-false (nat_eq b 10) _ _ n ∙ cond-false (nat_eq b 9) _ _ t in
            ap (λ e. value_behind false (e ++ more)) same ∙ cond-false (is_quote b) _ _ q ∙ cond-false (is_backslash b) _ _ s
      ]
    ]
  ]
]
  where
    escapes : (written : List ℕ) (d : ℕ) → escape b ≡ written → d ≡ b → value_behind false (written ++ more) ≡ d ∷ value_behind false more → value_behind false (escape b ++ more) ≡ b ∷ value_behind false more
    escapes written d e is h = ap (λ w. value_behind false (w ++ more)) e ∙ h ∙ ap (λ x. x ∷ value_behind false more) is

value-escaped : (value : List ℕ) → value_behind false (flat_map escape value ++ 34 ∷ []) ≡ value
value-escaped [] = refl
value-escaped (b ∷ value) =
    ap (λ l. value_behind false l) (append_assoc (escape b) (flat_map escape value) (34 ∷ []))
    ∙ value-escape b (flat_map escape value ++ 34 ∷ []) ∙ ap (λ v. b ∷ v) (value-escaped value)

pub text-anew : (value : List ℕ) → value_of_text (quoted value) ≡ value
text-anew value = value-escaped value

-- ── an action looks at no more ──

-- the action for a text of this value
abbrev put_text : Spot → List ℕ → Work → Answer
put_text p value w = leaf p (λ id. TText id (word_number w.said.texts value)) (record w { said = record w.said { texts = with_word w.said.texts value } })

act-anew : (action : Action) (p : Spot) (bytes : List ℕ) (w : Work) → HasToken (needs action) bytes → act action p bytes w ≡ act action p (looked_at (needs action) bytes) w
act-anew a.PutNumber p bytes w h =
    let small = number-small bytes h in
    ap (λ n. leaf p (λ id. TInt id (pos n)) w) (sym (number-anew (value_of_number bytes) (omega arith)))
act-anew a.PutText p bytes w h = ap (λ v. put_text p v w) (sym (text-anew (value_of_text bytes)))
act-anew _ p bytes w h = refl

-- ── all of them ──

module _ (text : List ℕ) (tokens : List Token) (standing : All (Stands text) tokens) where
  abbrev Same : List Act → Work → Type 0
  Same done w = follow text tokens done w ≡ perform (spots_in text tokens done) (deeds_in text tokens done) w

  performs : (n : ℕ) (stack : List Symbol) (at : ℕ) (kinds : List TokenKind) (done : List Act) (s : State) → Translates n stack at kinds done → drop at (kinds_of tokens) ≡ kinds
      → Fits stack s → HasToken s.last (bytes_in text (last_of tokens at)) → (w : Work) → Same done w
  performs zero stack at kinds done s h left fits has w = absurd h
  performs (suc n) [] at kinds done s h left fits has w = subst (λ (x : List Act). Same x w) (sym h.1) refl
  performs (suc n) (T j ∷ stack) at kinds done s h left fits has w =
      let t = read-kind tokens at j h.0 (left ∙ h.1) in
      let known : HasToken (Some t.0.kind) (bytes_of text t.0) = token-has text t.0 (all-at (Stands text) tokens at t.0 standing t.1) in
      let next : bytes_in text (last_of tokens (suc at)) ≡ bytes_of text t.0 = ap (bytes_in text) t.1 in
      let read : HasToken (Some j) (bytes_in text (last_of tokens (suc at))) = subst (λ (x : List ℕ). HasToken (Some j) x) (sym next) (subst (λ (kind : TokenKind). HasToken (Some kind) (bytes_of text t.0)) t.2 known) in
      performs n stack (at + 1) h.0 done (record { last = Some j; tags = s.tags }) h.2
      (subst (λ (m : ℕ). drop m (kinds_of tokens) ≡ h.0) (sym (add-one at)) t.3) (fits-token stack s j fits)
      (subst (λ (m : ℕ). HasToken (Some j) (bytes_in text (last_of tokens m))) (sym (add-one at)) read) w
  performs (suc n) (A action ∷ stack) at kinds done s h left fits has w =
      let x : Act = act_at action at in
      let bytes : List ℕ = bytes_in text (last_of tokens at) in
      let rest : (u : Work) → Same h.0 u = performs n stack at kinds h.0 (record { last = unused (needs action) s.last; tags = leaves action ++ fits.1 }) h.2 left fits.3 (still-known (needs action) s.last bytes has) in
      subst (λ (y : List Act). Same y w) (sym h.1)
      (ap (λ answer. and_then answer (follow text tokens h.0)) (act-anew action (spot_of text (last_of tokens at)) bytes w (fits-has_token action stack s fits bytes has))
      ∙ then-same (act action (spot_of text (last_of tokens at)) (looked_at (needs action) bytes) w) (follow text tokens h.0) (perform (spots_in text tokens h.0) (deeds_in text tokens h.0)) rest)
  performs (suc n) (N sort ∷ stack) at kinds done s h left fits has w =
      performs n (h.0 ++ stack) at kinds done s h.2 left (fits-phrase stack s sort h.0 fits h.1) has w

pub deeds-build : (text : List ℕ) (tokens : List Token) (done : List Act) (w : Work) → HasTokens text tokens → HasActions (kinds_of tokens) done
    → follow text tokens done w ≡ perform (spots_in text tokens done) (deeds_in text tokens done) w
deeds-build text tokens done w h has =
    performs text tokens (stands_from text h.0 0 None text (Ok tokens) refl h.1).1 has.0 program 0 (kinds_of tokens) done (record { last = None; tags = [] }) has.1 refl fits-program tt w
