-- What the actions of a run say of the language.
use Rattle.std.proofs.Common.{◌≡◌, ℕ, suc, zero, ◌+◌, ◌-◌, ◌<◌, ◌≤◌, List, [], ◌∷◌, ◌++◌, true, Option, Some, None, refl, sym, ◌∙◌, ap, subst, inl, inr, length, arith, drop}
use Rattle.std.proofs.Common.{take, append_assoc, length-append, length-drop}
use Rattle.std.proofs.lemmas.Bool.{cases_Bool, cond-true, cond-false, le-leb, lt-leb}
use Rattle.std.proofs.lemmas.List.{length-map, length-take-le}
use Rattle.std.specs.{List.AllByRecursion, Prelude.nat_le, Prelude.if◌then◌else◌}
use Rattle.hb_lex.specs.declared.{spans.Token.Token, kinds.TokenKind.TokenKind}
use Rattle.hb_tree.proofs.Lists.{each_weaker}
use Rattle.hb_grammar.proofs.{TableLemmas.sorts, OneLemmas.one-place, OneLemmas.one-wanted}
use Rattle.hb_grammar.specs.{Grammar.alternatives, Course.Course, Course.left, Measure.potential}
use Rattle.hb_grammar.specs.declared.{actions.Action.Action, symbols.Sort.Sort, symbols.Symbol.Symbol, symbols.Symbol.TheVariants.Token as T}
use Rattle.hb_grammar.specs.declared.{symbols.Symbol.TheVariants.Phrase as N, symbols.Symbol.TheVariants.Action as A, wanted.Wanted.Wanted}
use Rattle.hb_grammar.specs.declared.wanted.Wanted.TheVariants as want
use Rattle.hb_grammar.specs.Language.{Act, act, kinds_of, program, Derives, Translates, HasActions, HasFirstActions, sign, with_sign}
use Rattle.hb_grammar.specs.Sight.{kind_eq, is_kind, front, choice, run, acts, Does, Outcome, Unfinished, Done, Missed, wanted_for}
use Rattle.hb_grammar.proofs.SightLemmas.{same_kind, choice-derives, IsFollowed, IsFollowed-phrase, holds_of, is_sort}
use Rattle.hb_grammar.proofs.ExactLemmas.{is_choice, missed_not_done, phrase_of, phrase_done}
use Rattle.hb_grammar.proofs.WantedLemmas.{IsSigned, sign_is, signs_ok, all_signs, signed_choice, signed_sort, signed_action, signed_tail, signed_first, same_want}
use Rattle.hb_grammar.proofs.{TopLemmas.misses-run, TopLemmas.cut_at, TopLemmas.ends_program, PotentialLemmas.potential-action, PotentialLemmas.potential-phrase}
use Rattle.hb_grammar.proofs.{PotentialLemmas.potential-token}
use Rattle.hb_grammar.proofs.CourseLemmas.{Does-token, Does-phrase, Does-action, Does-missed, Does-left, Does-done}

-- ── a run that is done translates the tokens ──

pub translates-run : (n : ℕ) (stack : List Symbol) (at : ℕ) (tokens : List TokenKind) → run n stack tokens ≡ Done → Translates n stack at tokens (acts n stack at tokens)
unfolding run acts
translates-run (suc n) [] at [] e = (refl, refl)
translates-run (suc n) (T j ∷ stack) at (t ∷ ts) e = elim (cases_Bool (kind_eq t j)) [
  | inl y ↦
      let rest : Translates n stack (at + 1) ts (acts n stack (at + 1) ts) = translates-run n stack (at + 1) ts (sym (cond-true (kind_eq t j) (run n stack ts) (Missed (wanted_for j) (length (t ∷ ts))) y) ∙ e) in
      let same : acts (suc n) (T j ∷ stack) at (t ∷ ts) ≡ acts n stack (at + 1) ts = cond-true (kind_eq t j) (acts n stack (at + 1) ts) [] y in
      (ts, ap (λ x. x ∷ ts) (same_kind t j y), subst (λ (z : List Act). Translates n stack (at + 1) ts z) (sym same) rest)
  | inr f ↦ absurd (missed_not_done (sym (cond-false (kind_eq t j) (run n stack ts) (Missed (wanted_for j) (length (t ∷ ts))) f) ∙ e))
]
translates-run (suc n) (A a ∷ stack) at tokens e = (acts n stack at tokens, refl, translates-run n stack at tokens e)
translates-run (suc n) (N sort ∷ stack) at tokens e = (choice (alternatives sort) (front tokens), is_choice sort tokens, translates-run n (choice (alternatives sort) (front tokens) ++ stack) at tokens e)
translates-run _ stack at tokens e = absurd (cc)

pub has_actions : (tokens : List Token) (done : List Act) → Does program 0 (kinds_of tokens) done Done → HasActions (kinds_of tokens) done
has_actions tokens done d = (d.steps, subst (λ (z : List Act). Translates d.steps program 0 (kinds_of tokens) z) d.acts (translates-run d.steps program 0 (kinds_of tokens) d.ends))

-- ── each stack has a sentence, with its actions ──

Translates-append : (n m : ℕ) (a b : List Symbol) (at : ℕ) (x y : List TokenKind) (d e : List Act) → Translates n a at x d → Translates m b (at + length x) y e → (k : ℕ) × Translates k (a ++ b) at (x ++ y) (d ++ e)
Translates-append zero m a b at x y d e v w = absurd v
Translates-append (suc n) m [] b at x y d e v w =
    let here : at + length x ≡ at = omega (arith, ap length v.0) in
    let at_here : Translates m b at y e = subst (λ (z : ℕ). Translates m b z y e) here w in
    (m, subst (λ (z : List TokenKind). Translates m b at (z ++ y) (d ++ e)) (sym v.0) (subst (λ (z : List Act). Translates m b at y (z ++ e)) (sym v.1) at_here))
Translates-append (suc n) m (T j ∷ a) b at x y d e v w =
    let place : at + length x ≡ at + 1 + length v.0 = omega (arith, ap length v.1) in
    let r : (k : ℕ) × Translates k (a ++ b) (at + 1) (v.0 ++ y) (d ++ e) = Translates-append n m a b (at + 1) v.0 y d e v.2 (subst (λ (z : ℕ). Translates m b z y e) place w) in
    (suc r.0, (v.0 ++ y, ap (λ z. z ++ y) v.1, r.1))
Translates-append (suc n) m (A c ∷ a) b at x y d e v w =
    let r : (k : ℕ) × Translates k (a ++ b) at (x ++ y) (v.0 ++ e) = Translates-append n m a b at x y v.0 e v.2 w in
    (suc r.0, (v.0 ++ e, ap (λ z. z ++ e) v.1, r.1))
Translates-append (suc n) m (N sort ∷ a) b at x y d e v w =
    let r : (k : ℕ) × Translates k ((v.0 ++ a) ++ b) at (x ++ y) (d ++ e) = Translates-append n m (v.0 ++ a) b at x y d e v.2 w in
    (suc r.0, (v.0, v.1, subst (λ (z : List Symbol). Translates r.0 z at (x ++ y) (d ++ e)) (append_assoc v.0 a b) r.1))

record HasTranslation (stack : List Symbol) (at : ℕ) : Type 0 where
  pub tokens : List TokenKind
  pub done : List Act
  pub steps : ℕ
  pub translates : Translates steps stack at tokens done

has_translation : (stack : List Symbol) (at : ℕ) → HasTranslation stack at
has_translation [] at = record { tokens = []; done = []; steps = 1; translates = (refl, refl) }
has_translation (T j ∷ stack) at =
    let h : HasTranslation stack (at + 1) = has_translation stack (at + 1) in
    record { tokens = j ∷ h.tokens; done = h.done; steps = suc h.steps; translates = (h.tokens, refl, h.translates) }
has_translation (A a ∷ stack) at =
    let h : HasTranslation stack at = has_translation stack at in
    record { tokens = h.tokens; done = act a at ∷ h.done; steps = suc h.steps; translates = (h.done, refl, h.translates) }
has_translation (N sort ∷ stack) at =
    let h : HasTranslation stack (at + length (phrase_of sort)) = has_translation stack (at + length (phrase_of sort)) in
    let d : Translates 40 (N sort ∷ []) at (phrase_of sort) (acts 40 (N sort ∷ []) at (phrase_of sort)) = translates-run 40 (N sort ∷ []) at (phrase_of sort) (phrase_done sort) in
    let r : (k : ℕ) × Translates k (N sort ∷ stack) at (phrase_of sort ++ h.tokens) (acts 40 (N sort ∷ []) at (phrase_of sort) ++ h.done) = Translates-append 40 h.steps (N sort ∷ []) stack at
    (phrase_of sort) h.tokens (acts 40 (N sort ∷ []) at (phrase_of sort)) h.done d h.translates in
    record { tokens = phrase_of sort ++ h.tokens; done = acts 40 (N sort ∷ []) at (phrase_of sort) ++ h.done; steps = r.0; translates = r.1 }

-- an action comes behind the tokens that were read before
translates-behind : (n : ℕ) (stack : List Symbol) (at : ℕ) (tokens : List TokenKind) (done : List Act) → Translates n stack at tokens done → AllByRecursion (λ x. at ≤ x.at) done
translates-behind zero stack at tokens done d = absurd d
translates-behind (suc n) [] at tokens done d = subst (λ (z : List Act). AllByRecursion (λ x. at ≤ x.at) z) (sym d.1) tt
translates-behind (suc n) (T j ∷ stack) at tokens done d = each_weaker (λ x. at + 1 ≤ x.at) (λ x. at ≤ x.at) (λ x h. omega (arith, h)) done (translates-behind n stack (at + 1) d.0 done d.2)
translates-behind (suc n) (A a ∷ stack) at tokens done d = subst (λ (z : List Act). AllByRecursion (λ x. at ≤ x.at) z) (sym d.1) (omega arith, translates-behind n stack at tokens d.0 d.2)
translates-behind (suc n) (N sort ∷ stack) at tokens done d = translates-behind n (d.0 ++ stack) at tokens done d.2

-- ── the actions of a run that ends early come in a sentence ──

record FollowsActs (stack : List Symbol) (at : ℕ) (tokens : List TokenKind) (w : Wanted) (left : ℕ) (done : List Act) : Type 0 where
  pub before : List TokenKind
  pub rest : List TokenKind
  pub cut : tokens ≡ before ++ rest
  pub here : length rest ≡ left
  pub more : List TokenKind
  pub later : List Act
  pub steps : ℕ
  pub translates : Translates steps stack at (before ++ with_sign (sign w) more) (done ++ later)
  pub early : AllByRecursion (λ x. x.at ≤ at + length before) done
  pub late : AllByRecursion (λ x. at + length before < x.at) later

-- a stack whose first symbol is a sign
acts_at_once : (j : TokenKind) (stack : List Symbol) (at : ℕ) (tokens : List TokenKind) (w : Wanted) → w ≡ wanted_for j → is_kind (sign (wanted_for j)) j ≡ true → FollowsActs (T j ∷ stack) at tokens w (length tokens) []
acts_at_once j stack at tokens w e h =
    let whole : HasTranslation stack (at + 1) = has_translation stack (at + 1) in
    let o : sign w ≡ Some j = ap sign e ∙ sign_is (sign (wanted_for j)) j h in
    let P = λ (x : Option TokenKind). Translates (suc whole.steps) (T j ∷ stack) at (with_sign x whole.tokens) whole.done in
    record {
      before = [];
      rest = tokens;
      cut = refl;
      here = refl;
      more = whole.tokens;
      later = whole.done;
      steps = suc whole.steps;
      translates = subst P (sym o) (whole.tokens, refl, whole.translates);
      early = tt;
      late = each_weaker (λ x. at + 1 ≤ x.at) (λ x. at + 0 < x.at) (λ x k. omega (arith, k)) whole.done (translates-behind whole.steps stack (at + 1) whole.tokens whole.done whole.translates);
    }

acts_token : (j t : TokenKind) (stack : List Symbol) (at : ℕ) (ts : List TokenKind) (w : Wanted) (left : ℕ) (done : List Act) → t ≡ j → FollowsActs stack (at + 1) ts w left done
    → FollowsActs (T j ∷ stack) at (t ∷ ts) w left done
acts_token j t stack at ts w left done same r = record {
  before = t ∷ r.before;
  rest = r.rest;
  cut = ap (λ x. t ∷ x) r.cut;
  here = r.here;
  more = r.more;
  later = r.later;
  steps = suc r.steps;
  translates = (r.before ++ with_sign (sign w) r.more, ap (λ x. x ∷ (r.before ++ with_sign (sign w) r.more)) same, r.translates);
  early = each_weaker (λ x. x.at ≤ at + 1 + length r.before) (λ x. x.at ≤ at + length (t ∷ r.before)) (λ x h. omega (arith, h)) done r.early;
  late = each_weaker (λ x. at + 1 + length r.before < x.at) (λ x. at + length (t ∷ r.before) < x.at) (λ x h. omega (arith, h)) r.later r.late;
}

acts_action : (a : Action) (stack : List Symbol) (at : ℕ) (tokens : List TokenKind) (w : Wanted) (left : ℕ) (done : List Act) → FollowsActs stack at tokens w left done
    → FollowsActs (A a ∷ stack) at tokens w left (act a at ∷ done)
acts_action a stack at tokens w left done r = record {
  before = r.before;
  rest = r.rest;
  cut = r.cut;
  here = r.here;
  more = r.more;
  later = r.later;
  steps = suc r.steps;
  translates = (done ++ r.later, refl, r.translates);
  early = (omega arith, r.early);
  late = r.late;
}

acts_phrase : (sort : Sort) (stack : List Symbol) (at : ℕ) (tokens : List TokenKind) (w : Wanted) (left : ℕ) (done : List Act)
    → FollowsActs (choice (alternatives sort) (front tokens) ++ stack) at tokens w left done → FollowsActs (N sort ∷ stack) at tokens w left done
acts_phrase sort stack at tokens w left done r = record {
  before = r.before;
  rest = r.rest;
  cut = r.cut;
  here = r.here;
  more = r.more;
  later = r.later;
  steps = suc r.steps;
  translates = (choice (alternatives sort) (front tokens), is_choice sort tokens, r.translates);
  early = r.early;
  late = r.late;
}

follows-acts : (n : ℕ) (stack : List Symbol) (at : ℕ) (tokens : List TokenKind) (w : Wanted) (left : ℕ) → IsSigned (front tokens) stack → run n stack tokens ≡ Missed w left
    → FollowsActs stack at tokens w left (acts n stack at tokens)
unfolding run acts
follows-acts zero stack at tokens w left g e = absurd (cc)
follows-acts (suc n) [] at [] w left g e = absurd (cc)
follows-acts (suc n) [] at (t ∷ ts) w left g e =
    let P = λ (x : Wanted). FollowsActs [] at (t ∷ ts) x left [] in
    let h : length (t ∷ ts) ≡ left = cc e in
    subst P (same_want e) (record { before = []; rest = t ∷ ts; cut = refl; here = h; more = []; later = []; steps = 1; translates = (refl, refl); early = tt; late = tt })
follows-acts (suc n) (T j ∷ stack) at [] w left g e =
    let P = λ (x : ℕ). FollowsActs (T j ∷ stack) at [] w x [] in
    let h : 0 ≡ left = cc e in
    subst P h (acts_at_once j stack at [] w (sym (same_want e)) (signed_first None j stack g refl))
follows-acts (suc n) (T j ∷ stack) at (t ∷ ts) w left g e = elim (cases_Bool (kind_eq t j)) [
  | inl y ↦
      let r : FollowsActs stack (at + 1) ts w left (acts n stack (at + 1) ts) = follows-acts n stack (at + 1) ts w left (inl (signed_tail t j stack g))
      (sym (cond-true (kind_eq t j) (run n stack ts) (Missed (wanted_for j) (length (t ∷ ts))) y) ∙ e) in
      let same : acts (suc n) (T j ∷ stack) at (t ∷ ts) ≡ acts n stack (at + 1) ts = cond-true (kind_eq t j) (acts n stack (at + 1) ts) [] y in
      subst (λ (z : List Act). FollowsActs (T j ∷ stack) at (t ∷ ts) w left z) (sym same) (acts_token j t stack at ts w left (acts n stack (at + 1) ts) (same_kind t j y) r)
  | inr f ↦
      let z : Missed (wanted_for j) (length (t ∷ ts)) ≡ Missed w left = sym (cond-false (kind_eq t j) (run n stack ts) (Missed (wanted_for j) (length (t ∷ ts))) f) ∙ e in
      let h : length (t ∷ ts) ≡ left = cc z in
      let none : acts (suc n) (T j ∷ stack) at (t ∷ ts) ≡ [] = cond-false (kind_eq t j) (acts n stack (at + 1) ts) [] f in
      let r : FollowsActs (T j ∷ stack) at (t ∷ ts) w left [] = subst (λ (x : ℕ). FollowsActs (T j ∷ stack) at (t ∷ ts) w x []) h
      (acts_at_once j stack at (t ∷ ts) w (sym (same_want z)) (signed_first (Some t) j stack g f)) in
      subst (λ (x : List Act). FollowsActs (T j ∷ stack) at (t ∷ ts) w left x) (sym none) r
]
follows-acts (suc n) (A a ∷ stack) at tokens w left g e = acts_action a stack at tokens w left (acts n stack at tokens) (follows-acts n stack at tokens w left (inl (signed_action (front tokens) a stack g)) e)
follows-acts (suc n) (N sort ∷ stack) at tokens w left g e =
    let ok : signs_ok (alternatives sort) ≡ true = holds_of (λ (x : Sort). signs_ok (alternatives x)) sorts sort all_signs (is_sort sort) in
    let r : FollowsActs (choice (alternatives sort) (front tokens) ++ stack) at tokens w left (acts n (choice (alternatives sort) (front tokens) ++ stack) at tokens) = follows-acts n
    (choice (alternatives sort) (front tokens) ++ stack) at tokens w left (signed_choice (alternatives sort) (front tokens) stack ok (signed_sort (front tokens) sort stack g)) e in
    acts_phrase sort stack at tokens w left (acts n (choice (alternatives sort) (front tokens) ++ stack) at tokens) r

first_actions : (kinds : List TokenKind) (at : ℕ) (w : Wanted) (done : List Act) (n : ℕ) → at ≤ length kinds → run n program kinds ≡ Missed w (length (drop at kinds))
    → acts n program 0 kinds ≡ done → HasFirstActions kinds at w done
first_actions kinds at w done n within ends same =
    let r : FollowsActs program 0 kinds w (length (drop at kinds)) (acts n program 0 kinds) = follows-acts n program 0 kinds w (length (drop at kinds)) (inl refl) ends in
    let q : FollowsActs program 0 kinds w (length (drop at kinds)) done = subst (λ (z : List Act). FollowsActs program 0 kinds w (length (drop at kinds)) z) same r in
    let place : length q.before ≡ at = omega (arith, within, length-drop at kinds, length-append q.before q.rest, ap length q.cut, q.here) in
    let cut : take at kinds ≡ q.before = ap (λ z. take at z) q.cut ∙ ap (λ (n : ℕ). take n (q.before ++ q.rest)) (sym place) ∙ cut_at q.before q.rest in
    record {
      missed = misses-run kinds w at within (record { steps = n; ends = ends });
      more = q.more;
      later = q.later;
      program = (q.steps, subst (λ (z : List TokenKind). Translates q.steps program 0 (z ++ with_sign (sign w) q.more) (done ++ q.later)) (sym cut) q.translates);
      before = each_weaker (λ x. x.at ≤ 0 + length q.before) (λ x. x.at ≤ at) (λ x h. omega (arith, h, place)) done q.early;
      behind = each_weaker (λ x. 0 + length q.before < x.at) (λ x. at < x.at) (λ x h. omega (arith, h, place)) q.later q.late;
    }

pub has_first_actions : (tokens : List Token) (at : ℕ) (w : Wanted) (done : List Act) → Does program 0 (kinds_of tokens) done (Missed w (length tokens - at)) → at ≤ length tokens
    → HasFirstActions (kinds_of tokens) at w done
has_first_actions tokens at w done d within =
    let count : length (kinds_of tokens) ≡ length tokens = length-map tokens (λ token. token.kind) in
    let rest : length tokens - at ≡ length (drop at (kinds_of tokens)) = omega (arith, count, length-drop at (kinds_of tokens)) in
    first_actions (kinds_of tokens) at w done d.steps (omega (arith, count, within)) (d.ends ∙ ap (λ (n : ℕ). Missed w n) rest) d.acts

-- ── a run ends ──

pub record Ends (stack : List Symbol) (at : ℕ) (tokens : List TokenKind) : Type 0 where
  pub done : List Act
  pub outcome : Outcome
  pub does : Does stack at tokens done outcome
  pub ended : outcome ≡ Unfinished → ⊥

done_ended : Done ≡ Unfinished → ⊥
done_ended e = cc

missed_ended : {w : Wanted} {n : ℕ} → Missed w n ≡ Unfinished → ⊥
missed_ended e = cc

ends-within : (most : ℕ) (stack : List Symbol) (at : ℕ) (tokens : List TokenKind) → potential stack tokens < most → Ends stack at tokens
ends-within zero stack at tokens h = absurd (omega (arith, h))
ends-within (suc most) [] at [] h = record { done = []; outcome = Done; does = Does-done at [] refl; ended = done_ended }
ends-within (suc most) [] at (t ∷ ts) h = record { done = []; outcome = Missed want.Item (length (t ∷ ts)); does = Does-left at (t ∷ ts) (omega arith); ended = missed_ended }
ends-within (suc most) (T j ∷ stack) at [] h = record { done = []; outcome = Missed (wanted_for j) 0; does = Does-missed j stack at [] refl; ended = missed_ended }
ends-within (suc most) (T j ∷ stack) at (t ∷ ts) h = elim (cases_Bool (kind_eq t j)) [
  | inl y ↦
      let r : Ends stack (at + 1) ts = ends-within most stack (at + 1) ts (omega (arith, h, potential-token j t stack ts y)) in
      record { done = r.done; outcome = r.outcome; does = Does-token j t stack at ts r.done r.outcome (same_kind t j y) r.does; ended = r.ended }
  | inr f ↦ record { done = []; outcome = Missed (wanted_for j) (length (t ∷ ts)); does = Does-missed j stack at (t ∷ ts) f; ended = missed_ended }
]
ends-within (suc most) (A a ∷ stack) at tokens h =
    let r : Ends stack at tokens = ends-within most stack at tokens (omega (arith, h, potential-action a stack tokens)) in
    record { done = act a at ∷ r.done; outcome = r.outcome; does = Does-action a stack at tokens r.done r.outcome r.does; ended = r.ended }
ends-within (suc most) (N s ∷ stack) at tokens h =
    let r : Ends (choice (alternatives s) (front tokens) ++ stack) at tokens = ends-within most (choice (alternatives s) (front tokens) ++ stack) at tokens (omega (arith, h, potential-phrase s stack tokens)) in
    record { done = r.done; outcome = r.outcome; does = Does-phrase s stack at tokens r.done r.outcome r.does; ended = r.ended }

pub ends : (c : Course) → Ends c.ahead c.read (left c)
ends c = ends-within (suc (potential c.ahead (left c))) c.ahead c.read (left c) (omega arith)

-- ── tokens have one list of actions ──

pub derives-translates : (n : ℕ) (stack : List Symbol) (at : ℕ) (tokens : List TokenKind) (done : List Act) → Translates n stack at tokens done → Derives n stack tokens
derives-translates zero stack at tokens done d = d
derives-translates (suc n) [] at tokens done d = d.0
derives-translates (suc n) (T j ∷ stack) at tokens done d = (d.0, d.1, derives-translates n stack (at + 1) d.0 done d.2)
derives-translates (suc n) (A a ∷ stack) at tokens done d = derives-translates n stack at tokens d.0 d.2
derives-translates (suc n) (N sort ∷ stack) at tokens done d = (d.0, d.1, derives-translates n (d.0 ++ stack) at tokens done d.2)

same_tail : {j : TokenKind} {tokens x y : List TokenKind} → tokens ≡ j ∷ x → tokens ≡ j ∷ y → y ≡ x
same_tail e f = cc

translates-one : (n m : ℕ) (stack : List Symbol) (at : ℕ) (tokens : List TokenKind) (a b : List Act) → IsFollowed stack → Translates n stack at tokens a → Translates m stack at tokens b → a ≡ b
translates-one zero m stack at tokens a b f d e = absurd d
translates-one (suc n) zero stack at tokens a b f d e = absurd e
translates-one (suc n) (suc m) [] at tokens a b f d e = d.1 ∙ sym e.1
translates-one (suc n) (suc m) (T j ∷ stack) at tokens a b f d e = translates-one n m stack (at + 1) d.0 a b f d.2 (subst (λ (z : List TokenKind). Translates m stack (at + 1) z b) (same_tail d.1 e.1) e.2)
translates-one (suc n) (suc m) (A x ∷ stack) at tokens a b f d e = d.1 ∙ ap (λ (z : List Act). act x at ∷ z) (translates-one n m stack at tokens d.0 e.0 f d.2 e.2) ∙ sym e.1
translates-one (suc n) (suc m) (N sort ∷ stack) at tokens a b f d e =
    let left_one : choice (alternatives sort) (front tokens) ≡ d.0 = choice-derives n sort stack tokens d.0 f d.1 (derives-translates n (d.0 ++ stack) at tokens a d.2) in
    let right_one : choice (alternatives sort) (front tokens) ≡ e.0 = choice-derives m sort stack tokens e.0 f e.1 (derives-translates m (e.0 ++ stack) at tokens b e.2) in
    translates-one n m (d.0 ++ stack) at tokens a b (IsFollowed-phrase sort stack d.0 d.1 f) d.2 (subst (λ (z : List Symbol). Translates m (z ++ stack) at tokens b) (sym right_one ∙ left_one) e.2)

pub one_actions : (kinds : List TokenKind) (a b : List Act) → HasActions kinds a → HasActions kinds b → a ≡ b
one_actions kinds a b x y = translates-one x.0 y.0 program 0 kinds a b ends_program x.1 y.1

-- ── tokens that stop to begin a program have one list of actions before ──

-- the actions that come before more tokens than these are read
abbrev until : ℕ → List Act → List Act
until most [] = []
until most (x ∷ done) = if nat_le x.at most then x ∷ until most done else until most done

until-late : (most : ℕ) (done : List Act) → AllByRecursion (λ x. most < x.at) done → until most done ≡ []
until-late most [] h = refl
until-late most (x ∷ done) h = cond-false (nat_le x.at most) (x ∷ until most done) (until most done) (lt-leb x.at most h.0) ∙ until-late most done h.1

until-early : (most : ℕ) (x : Act) (done : List Act) → x.at ≤ most → until most (x ∷ done) ≡ x ∷ until most done
until-early most x done h = cond-true (nat_le x.at most) (x ∷ until most done) (until most done) (le-leb x.at most h)

until-split : (most : ℕ) (done later : List Act) → AllByRecursion (λ x. x.at ≤ most) done → AllByRecursion (λ x. most < x.at) later → until most (done ++ later) ≡ done
until-split most [] later h k = until-late most later k
until-split most (x ∷ done) later h k = until-early most x (done ++ later) h.0 ∙ ap (λ (z : List Act). x ∷ z) (until-split most done later h.1 k)

front-sign : (before : List TokenKind) (s : Option TokenKind) (more more' : List TokenKind) → front (before ++ with_sign s more) ≡ front (before ++ with_sign s more')
front-sign [] None more more' = refl
front-sign [] (Some t) more more' = refl
front-sign (t ∷ before) s more more' = refl

-- behind a token that was read, no action comes before it
until-read : (n : ℕ) (stack : List Symbol) (at : ℕ) (tokens : List TokenKind) (done : List Act) → Translates n stack (at + 1) tokens done → until (at + 0) done ≡ []
until-read n stack at tokens done d = until-late (at + 0) done (each_weaker (λ x. at + 1 ≤ x.at) (λ x. at + 0 < x.at) (λ x h. omega (arith, h)) done (translates-behind n stack (at + 1) tokens done d))

second_same : {j t : TokenKind} {x y : List TokenKind} → t ∷ x ≡ j ∷ y → y ≡ x
second_same e = cc

translates-until : (n m : ℕ) (stack : List Symbol) (at : ℕ) (before : List TokenKind) (s : Option TokenKind) (more more' : List TokenKind) (a b : List Act) → IsFollowed stack
    → Translates n stack at (before ++ with_sign s more) a → Translates m stack at (before ++ with_sign s more') b → until (at + length before) a ≡ until (at + length before) b
translates-until zero m stack at before s more more' a b f d e = absurd d
translates-until (suc n) zero stack at before s more more' a b f d e = absurd e
translates-until (suc n) (suc m) [] at before s more more' a b f d e = ap (λ (z : List Act). until (at + length before) z) (d.1 ∙ sym e.1)
translates-until (suc n) (suc m) (T j ∷ stack) at [] s more more' a b f d e = until-read n stack at d.0 a d.2 ∙ sym (until-read m stack at e.0 b e.2)
translates-until (suc n) (suc m) (T j ∷ stack) at (t ∷ before) s more more' a b f d e =
    let left_one : Translates n stack (at + 1) (before ++ with_sign s more) a = subst (λ (z : List TokenKind). Translates n stack (at + 1) z a) (second_same d.1) d.2 in
    let right_one : Translates m stack (at + 1) (before ++ with_sign s more') b = subst (λ (z : List TokenKind). Translates m stack (at + 1) z b) (second_same e.1) e.2 in
    let place : at + 1 + length before ≡ at + length (t ∷ before) = omega arith in
    subst (λ (z : ℕ). until z a ≡ until z b) place (translates-until n m stack (at + 1) before s more more' a b f left_one right_one)
translates-until (suc n) (suc m) (A x ∷ stack) at before s more more' a b f d e =
    let here : at ≤ at + length before = omega arith in
    let same : until (at + length before) d.0 ≡ until (at + length before) e.0 = translates-until n m stack at before s more more' d.0 e.0 f d.2 e.2 in
    ap (λ (z : List Act). until (at + length before) z) d.1 ∙ until-early (at + length before) (act x at) d.0 here ∙ ap (λ (z : List Act). act x at ∷ z) same
    ∙ sym (until-early (at + length before) (act x at) e.0 here) ∙ ap (λ (z : List Act). until (at + length before) z) (sym e.1)
translates-until (suc n) (suc m) (N sort ∷ stack) at before s more more' a b f d e =
    let left_one : choice (alternatives sort) (front (before ++ with_sign s more)) ≡ d.0 = choice-derives n sort stack (before ++ with_sign s more) d.0 f d.1
    (derives-translates n (d.0 ++ stack) at (before ++ with_sign s more) a d.2) in
    let right_one : choice (alternatives sort) (front (before ++ with_sign s more')) ≡ e.0 = choice-derives m sort stack (before ++ with_sign s more') e.0 f e.1
    (derives-translates m (e.0 ++ stack) at (before ++ with_sign s more') b e.2) in
    let same : e.0 ≡ d.0 = sym right_one ∙ ap (λ z. choice (alternatives sort) z) (front-sign before s more' more) ∙ left_one in
    translates-until n m (d.0 ++ stack) at before s more more' a b (IsFollowed-phrase sort stack d.0 d.1 f) d.2 (subst (λ (z : List Symbol). Translates m (z ++ stack) at (before ++ with_sign s more') b) same e.2)

first_alike : (kinds : List TokenKind) (at : ℕ) (w : Wanted) (a b : List Act) → HasFirstActions kinds at w a → HasFirstActions kinds at w b → a ≡ b
first_alike kinds at w a b x y =
    let place : 0 + length (take at kinds) ≡ at = omega (arith, length-take-le at kinds x.missed.missed.within, x.missed.missed.within) in
    let same : until (0 + length (take at kinds)) (a ++ x.later) ≡ until (0 + length (take at kinds)) (b ++ y.later) =
    translates-until x.program.0 y.program.0 program 0 (take at kinds) (sign w) x.more y.more (a ++ x.later) (b ++ y.later) ends_program x.program.1 y.program.1 in
    let here : until at (a ++ x.later) ≡ until at (b ++ y.later) = subst (λ (z : ℕ). until z (a ++ x.later) ≡ until z (b ++ y.later)) place same in
    sym (until-split at a x.later x.before x.behind) ∙ here ∙ until-split at b y.later y.before y.behind

pub one_first_actions : (kinds : List TokenKind) (at at2 : ℕ) (w w2 : Wanted) (a b : List Act) → HasFirstActions kinds at w a → HasFirstActions kinds at2 w2 b → a ≡ b
one_first_actions kinds at at2 w w2 a b x y =
    let place : at ≡ at2 = one-place kinds at at2 w w2 x.missed y.missed in
    let named : w ≡ w2 = one-wanted kinds at at2 w w2 x.missed y.missed in
    first_alike kinds at w a b x (subst (λ (n : ℕ). HasFirstActions kinds n w b) (sym place) (subst (λ (z : Wanted). HasFirstActions kinds at2 z b) (sym named) y))
