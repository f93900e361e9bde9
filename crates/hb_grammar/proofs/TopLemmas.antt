-- What a run over all the tokens says of the language.
use Rattle.std.proofs.Common.{◌≡◌, ℕ, ◌+◌, ◌<◌, ◌≤◌, List, [], ◌∷◌, ◌++◌, Option, Some, None, refl, sym, ◌∙◌, ap, subst, inl, length, true, false, drop, take, arith, append_assoc, length-append, length-drop, add-one}
use Rattle.std.proofs.lemmas.Bool.{both_ways}
use Rattle.std.specs.Prelude.{is_none}
use Rattle.hb_lex.specs.declared.kinds.TokenKind.{TokenKind}
use Rattle.hb_grammar.proofs.{TableLemmas.may_follow, SightLemmas.IsFollowed}
use Rattle.hb_grammar.specs.declared.symbols.Sort.TheVariants as g
use Rattle.hb_grammar.specs.declared.{symbols.Symbol.Symbol, wanted.Wanted.Wanted}
use Rattle.hb_grammar.specs.declared.wanted.Wanted.TheVariants as want
use Rattle.hb_grammar.specs.Sight.{Runs, run, may_begin, Outcome, Done, Missed}
use Rattle.hb_grammar.specs.Language.{Begins, IsSentence, IsFirstMissed, IsFirstWanted, Misses, IsProgramText, Derives, program}
use Rattle.hb_grammar.proofs.WantedLemmas.{IsCapped, Follows, follows-run, lowest}
use Rattle.hb_grammar.proofs.ExactLemmas.{excludes, begins-run, derives-run, BeginsBefore, EndsAt, with_first}

-- a list cut in two is cut at the length of its first part
pub cut_at : (before rest : List TokenKind) → take (length before) (before ++ rest) ≡ before
cut_at [] rest = refl
cut_at (x ∷ before) rest = ap (λ z. x ∷ z) (cut_at before rest)

cut_after : (before : List TokenKind) (t : TokenKind) (rest : List TokenKind) → take (length before + 1) (before ++ t ∷ rest) ≡ before ++ t ∷ []
cut_after [] t rest = refl
cut_after (x ∷ before) t rest = rw add-one (ap (λ z. x ∷ z) (let h : take (length before + 1) (before ++ t ∷ rest) ≡ before ++ t ∷ [] = cut_after before t rest in rw add-one at h))

pub ends_program : IsFollowed program
ends_program = (
  (λ sight b. elim sight as (λ (x : Option TokenKind). may_begin [] (is_none x) x ≡ true → may_follow g.Program x ≡ true) [
    | None ↦ (λ e. refl)
    | Some t ↦ (λ e. absurd (both_ways false refl e))
  ] b),
  tt,
)

nothing_more : (stack : List Symbol) (n : ℕ) (before rest : List TokenKind) → length rest ≡ 0 → ((more : List TokenKind) → Derives n stack (before ++ with_first rest more) → ⊥) → Derives n stack (before ++ rest) → ⊥
nothing_more stack n before [] none x h = x [] h
nothing_more stack n before (t ∷ ts) none x h = absurd (omega arith)

one_more : (stack : List Symbol) (before rest : List TokenKind) → 0 < length rest → ((n : ℕ) (more : List TokenKind) → Derives n stack (before ++ with_first rest more) → ⊥)
    → Begins stack (take (length before + 1) (before ++ rest)) → ⊥
one_more stack before [] some x h = absurd (omega arith)
one_more stack before (t ∷ ts) some x h =
    let e : take (length before + 1) (before ++ t ∷ ts) ++ h.0 ≡ before ++ (t ∷ h.0) = ap (λ z. z ++ h.0) (cut_after before t ts) ∙ append_assoc before (t ∷ []) h.0 in
    let P = λ (z : List TokenKind). Derives h.1.0 stack z in
    x h.1.0 h.0 (subst P e h.1.1)

module _ (stack : List Symbol) (ok : IsFollowed stack) (before rest : List TokenKind) (w : Wanted) (n : ℕ) (tokens : List TokenKind) (cut : tokens ≡ before ++ rest)
    (ends : run n stack tokens ≡ Missed w (length rest)) where
  here : run n stack (before ++ rest) ≡ Missed w (length rest)
  here = let P = λ (z : List TokenKind). run n stack z ≡ Missed w (length rest) in subst P cut ends

  cannot_end : length rest ≡ 0 → IsSentence stack tokens → ⊥
  cannot_end none h = let P = λ (z : List TokenKind). Derives h.0 stack z in nothing_more stack h.0 before rest none (λ more d. excludes n stack before rest w ok here h.0 more d) (subst P cut h.1)

  cannot_go_on : 0 < length rest → Begins stack (take (length before + 1) tokens) → ⊥
  cannot_go_on some h = let P = λ (z : List TokenKind). Begins stack (take (length before + 1) z) in one_more stack before rest some (λ m more d. excludes n stack before rest w ok here m more d) (subst P cut h)

-- the tokens before a place where a run ends
module _ (stack : List Symbol) (tokens : List TokenKind) (at : ℕ) (within : at ≤ length tokens) (b : BeginsBefore stack tokens (length (drop at tokens))) where
  place : length b.before ≡ at
  place = omega (arith, length-drop at tokens, length-append b.before b.rest, ap length b.cut, b.here)

  before_is : take at tokens ≡ b.before
  before_is = ap (λ z. take at z) b.cut ∙ ap (λ n. take n (b.before ++ b.rest)) (sym place) ∙ cut_at b.before b.rest

  begins_at : Begins stack (take at tokens)
  begins_at = let P = λ (z : List TokenKind). Begins stack z in subst P (sym before_is) b.begins

ends_early : (o : Outcome) (left : ℕ) (e : Outcome) → o ≡ e → EndsAt e left → EndsAt o left
ends_early o left e h k = let P = λ (x : Outcome). EndsAt x left in subst P (sym h) k

pub missed : (stack : List Symbol) → IsFollowed stack → (tokens : List TokenKind) (w : Wanted) (at : ℕ) → at ≤ length tokens → Runs stack tokens (Missed w (length (drop at tokens))) → IsFirstMissed stack tokens at
missed stack ok tokens w at within r =
    let b : BeginsBefore stack tokens (length (drop at tokens)) = begins-run r.steps stack tokens (length (drop at tokens)) (ends_early _ _ _ r.ends refl) in
    let e : run r.steps stack tokens ≡ Missed w (length b.rest) = r.ends ∙ ap (λ n. Missed w n) (sym b.here) in
    record {
      within = within;
      begins = begins_at stack tokens at within b;
      no_more = λ lt h. let P = λ (n : ℕ). Begins stack (take (n + 1) tokens) in
          cannot_go_on stack ok b.before b.rest w r.steps tokens b.cut e (omega (arith, length-drop at tokens, b.here)) (subst P (sym (place stack tokens at within b)) h);
      not_whole = λ eq h. cannot_end stack ok b.before b.rest w r.steps tokens b.cut e (omega (arith, length-drop at tokens, b.here)) h;
    }

capped_program : IsCapped program
capped_program = (record { want = want.Item; low = omega arith; begins = refl }, tt)

pub named : (tokens : List TokenKind) (w : Wanted) (at : ℕ) → at ≤ length tokens → Runs program tokens (Missed w (length (drop at tokens))) → IsFirstWanted program (take at tokens) w
named tokens w at within r =
    let b : Follows program tokens w (length (drop at tokens)) = follows-run r.steps program tokens w (length (drop at tokens)) (inl refl) r.ends in
    let e : run r.steps program (b.before ++ b.rest) ≡ Missed w (length b.rest) =
    (let P = λ (z : List TokenKind). run r.steps program z ≡ Missed w (length b.rest) in subst P b.cut (r.ends ∙ ap (λ n. Missed w n) (sym b.here))) in
    let low : IsFirstWanted program b.before w = record { may = b.may; first = λ other h. lowest r.steps program b.before b.rest w ends_program capped_program e other h.1.0 h.0 h.1.1 } in
    let place : length b.before ≡ at = omega (arith, length-drop at tokens, length-append b.before b.rest, ap length b.cut, b.here) in
    let front : take at tokens ≡ b.before = ap (λ z. take at z) b.cut ∙ ap (λ n. take n (b.before ++ b.rest)) (sym place) ∙ cut_at b.before b.rest in
    let P = λ (z : List TokenKind). IsFirstWanted program z w in subst P (sym front) low

pub misses-run : (tokens : List TokenKind) (w : Wanted) (at : ℕ) → at ≤ length tokens → Runs program tokens (Missed w (length (drop at tokens))) → Misses tokens at w
misses-run tokens w at within r = record { missed = missed program ends_program tokens w at within r; wanted = named tokens w at within r }
