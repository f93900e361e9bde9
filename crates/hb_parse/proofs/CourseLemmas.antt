-- The loop of the parser: what it keeps from action to action, and where it ends.
use Rattle.std.proofs.Common.{◌≡◌, inl, inr, ℕ, zero, suc, ◌+◌, ◌-◌, ◌<◌, ◌≤◌, List, [], ◌∷◌, ◌++◌, Option, Some, refl, sym, ◌∙◌, ap, subst, length, drop, slice_get, arith, add-one, append_assoc, length-drop}
use Rattle.std.specs.{Prelude.All, Prelude.IfSome, Prelude.slice_index_or}
use Rattle.std.proofs.{lemmas.Option.slice_get_within, lemmas.List.length-map, lemmas.List.append-nil}
use Rattle.hb_lex.specs.declared.{kinds.TokenKind.TokenKind, spans.Token.Token}
use Rattle.hb_lex.specs.Tokens.{AreInOrder, Stands, bytes_of}
use Rattle.hb_grammar.specs.{Grammar.alternatives, Sight.run}
use Rattle.hb_grammar.specs.declared.{actions.Action.Action, symbols.Sort.Sort, symbols.Symbol.Symbol, symbols.Symbol.TheVariants.Token as T}
use Rattle.hb_grammar.specs.declared.{symbols.Symbol.TheVariants.Phrase as N, symbols.Symbol.TheVariants.Action as A, wanted.Wanted.Wanted}
use Rattle.hb_grammar.specs.Language.{Act, act, HasFirstActions, kinds_of, program}
use Rattle.hb_grammar.specs.Sight.{choice, front, Does, Outcome, Unfinished, Done, Missed}
use Rattle.hb_grammar.specs.Course.{Course, ComesTo, StopsAt, Turns, left, start_of}
use Rattle.hb_grammar.proofs.{ExactLemmas.is_choice, ExactLemmas.ends_at, ExactLemmas.left_at_most, CourseLemmas.Leads-keep, CourseLemmas.Does-comes}
use Rattle.hb_grammar.proofs.ActionLemmas.{has_actions, has_first_actions, ends, Ends}
use Rattle.hb_build.specs.{Needs.HasToken, Acts.act as perform, Ready.Ready, Sound.IsSound, Sound.work_of}
use Rattle.hb_build.specs.declared.{builder.Builder.Builder, faults.ParseFail.ParseFail, held.Spot.Spot}
use Rattle.hb_build.specs.Acts.{Answer, Goes, Fails, Work, nothing}
use Rattle.hb_build.specs.Follow.{and_then, bytes_in, first_byte, follow, last_of, spot_at, spot_of}
use Rattle.hb_build.proofs.ReadyLemmas.{ready-start, ready-token, ready-phrase, ready-goes}
use Rattle.hb_parse.proofs.{FollowLemmas.follow-append, FollowLemmas.follow-last, TokenLemmas.token-has}
use Rattle.hb_parse.specs.Text.{AreActions, IsFound, Says}

-- ── a token that is read ──

pub read-kind : (tokens : List Token) (n : ℕ) (j : TokenKind) (rest : List TokenKind) → drop n (kinds_of tokens) ≡ j ∷ rest
    → (t : Token) × (slice_get tokens n ≡ Some t) × (t.kind ≡ j) × (drop (suc n) (kinds_of tokens) ≡ rest)
read-kind [] zero j rest e = absurd (cc)
read-kind [] (suc n) j rest e = absurd (cc)
read-kind (t ∷ tokens) zero j rest e = (t, refl, cc, cc)
read-kind (t ∷ tokens) (suc n) j rest e = read-kind tokens n j rest e

index-is : (tokens : List Token) (n : ℕ) (t : Token) → slice_get tokens n ≡ Some t → slice_index_or tokens n t ≡ t
index-is [] n t e = absurd (cc)
index-is (x ∷ tokens) zero t e = cc
index-is (x ∷ tokens) (suc n) t e = index-is tokens n t e

pub all-at : (P : Token → Type 0) (tokens : List Token) (n : ℕ) (t : Token) → All P tokens → slice_get tokens n ≡ Some t → P t
all-at P tokens n t all e =
    let P' = λ (x : Token). P x in
    subst P' (index-is tokens n t e) (all n t (slice_get_within tokens n t e))

-- so far so much was read, and what is ahead is ready
abbrev pub IsReady : List ℕ → List Token → Work → List Symbol → List TokenKind → Type 0
IsReady text tokens w stack rest = (read : ℕ) × (read ≤ length tokens) × (drop read (kinds_of tokens) ≡ rest) × Ready stack (bytes_in text (last_of tokens read)) read w

-- ── the way to the next action ──

module _ (text : List ℕ) (tokens : List Token) (standing : All (Stands text) tokens) (w : Work) where
  ready-on-token : (j : TokenKind) (stack : List Symbol) (rest : List TokenKind) → IsReady text tokens w (T j ∷ stack) (j ∷ rest) → IsReady text tokens w stack rest
  ready-on-token j stack rest h =
      let t = read-kind tokens h.0 j rest h.2 in
      let has : HasToken (Some t.0.kind) (bytes_of text t.0) = token-has text t.0 (all-at (Stands text) tokens h.0 t.0 standing t.1) in
      let next : bytes_in text (last_of tokens (suc h.0)) ≡ bytes_of text t.0 = ap (bytes_in text) t.1 in
      let has' : HasToken (Some j) (bytes_in text (last_of tokens (suc h.0))) = subst (λ (x : List ℕ). HasToken (Some j) x) (sym next) (subst (λ (k : TokenKind). HasToken (Some k) (bytes_of text t.0)) t.2 has) in
      let ready : Ready stack (bytes_in text (last_of tokens (suc h.0))) (h.0 + 1) w = ready-token j stack _ _ h.0 w h.3 has' in
      (suc h.0, slice_get_within tokens h.0 t.0 t.1, t.3, subst (λ (n : ℕ). Ready stack (bytes_in text (last_of tokens (suc h.0))) n w) (add-one h.0) ready)

  ready-on-phrase : (s : Sort) (stack : List Symbol) (rest : List TokenKind) → IsReady text tokens w (N s ∷ stack) rest → IsReady text tokens w (choice (alternatives s) (front rest) ++ stack) rest
  ready-on-phrase s stack rest h = (h.0, h.1, h.2, ready-phrase s stack (choice (alternatives s) (front rest)) _ h.0 w h.3 (is_choice s rest))

  -- behind so many tokens, by what is left
  one-place : (c : Course) → c.tokens ≡ tokens → c.read ≤ length c.tokens → (n : ℕ) → n ≤ length tokens → drop n (kinds_of tokens) ≡ left c → n ≡ c.read
  one-place c same within n le e =
      let a : length (drop n (kinds_of tokens)) ≡ length (left c) = ap length e in
      let k : length (kinds_of tokens) ≡ length tokens = length-map tokens (λ token. token.kind) in
      let k2 : length (kinds_of c.tokens) ≡ length c.tokens = length-map c.tokens (λ token. token.kind) in
      omega (arith, a, k, k2, length-drop n (kinds_of tokens), length-drop c.read (kinds_of c.tokens), within, le, ap length same)

  pub ready-here : (old new : Course) (a : Action) → old.tokens ≡ tokens → old.read ≤ length old.tokens → ComesTo old a new
      → Ready old.ahead (bytes_in text (last_of tokens old.read)) old.read w → Ready (A a ∷ new.ahead) (bytes_in text (last_of tokens new.read)) new.read w
  ready-here old new a same within comes ready =
      let start : IsReady text tokens w old.ahead (left old) = (old.read, subst (λ (x : List Token). old.read ≤ length x) same within, ap (λ (x : List Token). drop old.read (kinds_of x)) (sym same), ready) in
      let there : IsReady text tokens w (A a ∷ new.ahead) (left new) =
      Leads-keep (IsReady text tokens w) ready-on-token ready-on-phrase old.ahead (left old) (A a ∷ new.ahead) (left new) comes.reached start in
      let place : there.0 ≡ new.read = one-place new (comes.tokens ∙ same) comes.within there.0 there.1 there.2 in
      subst (λ (n : ℕ). Ready (A a ∷ new.ahead) (bytes_in text (last_of tokens n)) n w) place there.3

-- ── what the loop keeps ──

pub record Kept (text : List ℕ) (tokens : List Token) (course : Course) (builder : Builder) (spot : Spot) : Type 0 where
  pub same : course.tokens ≡ tokens
  pub within : course.read ≤ length course.tokens
  pub done : List Act
  pub comes : (later : List Act) (o : Outcome) → Does course.ahead course.read (left course) later o → Does program 0 (kinds_of tokens) (done ++ later) o
  pub built : follow text tokens done nothing ≡ Goes (work_of builder)
  pub sound : IsSound builder
  pub ready : Ready course.ahead (bytes_in text (last_of tokens course.read)) course.read (work_of builder)
  pub seen : ℕ
  pub seen_within : seen ≤ course.read
  pub spot_is : spot ≡ spot_of text (last_of tokens seen)

-- behind an action that goes on
pub kept-next : (text : List ℕ) (tokens : List Token) (old new : Course) (a : Action) (b c : Builder) (spot : Spot) (k : Kept text tokens old b spot) → All (Stands text) tokens → ComesTo old a new
    → perform a (spot_of text (last_of tokens new.read)) (bytes_in text (last_of tokens new.read)) (work_of b) ≡ Goes (work_of c) → IsSound c → Kept text tokens new c (spot_of text (last_of tokens new.read))
kept-next text tokens old new a b c spot k standing comes goes sound = record {
  same = comes.tokens ∙ k.same;
  within = comes.within;
  done = k.done ++ act a new.read ∷ [];
  comes = λ later o does.
      let whole = k.comes (act a new.read ∷ later) o (Does-comes old new a later o comes does) in
      subst (λ (x : List Act). Does program 0 (kinds_of tokens) x o) (sym (append_assoc k.done (act a new.read ∷ []) later)) whole;
  built = follow-last text tokens k.done (act a new.read) nothing (work_of b) k.built ∙ goes;
  sound = sound;
  ready = ready-goes a new.ahead (spot_of text (last_of tokens new.read)) (bytes_in text (last_of tokens new.read)) new.read (work_of b)
      (ready-here text tokens standing (work_of b) old new a k.same k.within comes k.ready) (work_of c) goes;
  seen = new.read;
  seen_within = omega arith;
  spot_is = refl;
}

pub kept-start : (text : List ℕ) (tokens : List Token) (b : Builder) (course : Course) (spot : Spot) → course ≡ start_of tokens → IsSound b → work_of b ≡ nothing
    → spot ≡ spot_of text (last_of tokens 0) → Kept text tokens course b spot
kept-start text tokens b course spot is sound empty here =
    let at_start : Kept text tokens (start_of tokens) b spot = record {
      same = refl;
      within = omega arith;
      done = [];
      comes = λ later o does. does;
      built = ap (λ (w : Work). Goes w) (sym empty);
      sound = sound;
      ready = ready-start (bytes_in text (last_of tokens 0)) (work_of b) (ap (λ (w : Work). w.pile) empty) (ap (λ (w : Work). w.said.names) empty);
      seen = 0;
      seen_within = omega arith;
      spot_is = here;
    } in
    subst (λ (c : Course). Kept text tokens c b spot) (sym is) at_start

-- ── where it ends ──

pub at-the-end : (text : List ℕ) (tokens : List Token) (course : Course) (b : Builder) (spot : Spot) (k : Kept text tokens course b spot) → Does course.ahead course.read (left course) [] Done
    → Says text tokens (work_of b).said
at-the-end text tokens course b spot k does = record {
  done = k.done;
  actions = has_actions tokens k.done (subst (λ (x : List Act). Does program 0 (kinds_of tokens) x Done) (append-nil k.done) (k.comes [] Done does));
  work = work_of b;
  built = k.built;
  said_is = refl;
}

left-is : (tokens : List Token) (c : Course) → c.tokens ≡ tokens → c.read ≤ length c.tokens → length (left c) ≡ length tokens - c.read
left-is tokens c same within =
    omega (arith, length-drop c.read (kinds_of c.tokens), length-map c.tokens (λ token. token.kind), within, ap length same)

pub at-a-miss : (text : List ℕ) (tokens : List Token) (old new : Course) (b : Builder) (spot : Spot) (w : Wanted) (k : Kept text tokens old b spot) → StopsAt old w new
    → HasFirstActions (kinds_of tokens) new.read w k.done
at-a-miss text tokens old new b spot w k stops =
    let whole : Does program 0 (kinds_of tokens) (k.done ++ []) (Missed w (length (left new))) = k.comes [] (Missed w (length (left new))) stops.does in
    let done : Does program 0 (kinds_of tokens) k.done (Missed w (length (left new))) = subst (λ (x : List Act). Does program 0 (kinds_of tokens) x (Missed w (length (left new)))) (append-nil k.done) whole in
    let same : new.tokens ≡ tokens = stops.tokens ∙ k.same in
    has_first_actions tokens new.read w k.done
    (subst (λ (n : ℕ). Does program 0 (kinds_of tokens) k.done (Missed w n)) (left-is tokens new same stops.within) done)
    (subst (λ (x : List Token). new.read ≤ length x) same stops.within)

-- a run over the tokens ends in one of two ways
ended-actions : (tokens : List Token) (done : List Act) (o : Outcome) → Does program 0 (kinds_of tokens) done o → (o ≡ Unfinished → ⊥) → AreActions tokens done
ended-actions tokens done Unfinished does other = absurd (other refl)
ended-actions tokens done Done does other = inl (has_actions tokens done does)
ended-actions tokens done (Missed w n) does other =
    let le : n ≤ length (kinds_of tokens) = left_at_most does.steps program (kinds_of tokens) n (ends_at (run does.steps program (kinds_of tokens)) w n does.ends) in
    let size : length (kinds_of tokens) ≡ length tokens = length-map tokens (λ token. token.kind) in
    let back : n ≡ length tokens - (length tokens - n) = omega (arith, le, size) in
    inr (length tokens - n, w, has_first_actions tokens (length tokens - n) w done (subst (λ (m : ℕ). Does program 0 (kinds_of tokens) done (Missed w m)) back does) (omega arith))

pub at-a-fault : (text : List ℕ) (tokens : List Token) (old new : Course) (a : Action) (b : Builder) (spot : Spot) (k : Kept text tokens old b spot) (fault : ParseFail) → ComesTo old a new
    → perform a (spot_of text (last_of tokens new.read)) (bytes_in text (last_of tokens new.read)) (work_of b) ≡ Fails fault → IsFound text tokens fault
at-a-fault text tokens old new a b spot k fault comes fails =
    let e : Ends new.ahead new.read (left new) = ends new in
    let whole : Does program 0 (kinds_of tokens) (k.done ++ act a new.read ∷ e.done) e.outcome = k.comes (act a new.read ∷ e.done) e.outcome (Does-comes old new a e.done e.outcome comes e.does) in
    let first : follow text tokens (k.done ++ act a new.read ∷ []) nothing ≡ Fails fault = follow-last text tokens k.done (act a new.read) nothing (work_of b) k.built ∙ fails in
    let found : follow text tokens ((k.done ++ act a new.read ∷ []) ++ e.done) nothing ≡ Fails fault =
    follow-append text tokens (k.done ++ act a new.read ∷ []) e.done nothing ∙ ap (λ (x : Answer). and_then x (follow text tokens e.done)) first in
    let same : (k.done ++ act a new.read ∷ []) ++ e.done ≡ k.done ++ act a new.read ∷ e.done = append_assoc k.done (act a new.read ∷ []) e.done in
    record {
      done = k.done ++ act a new.read ∷ e.done;
      actions = ended-actions tokens (k.done ++ act a new.read ∷ e.done) e.outcome whole e.ended;
      found = ap (λ (x : List Act). follow text tokens x nothing) (sym same) ∙ found;
    }

-- ── there are no more tokens than bytes ──

tokens-from : (text : List ℕ) (at : ℕ) (tokens : List Token) → AreInOrder at tokens → All (Stands text) tokens → at ≤ length text → at + length tokens ≤ length text
tokens-from text at [] ordered standing le = omega (arith, le)
tokens-from text at (t ∷ tokens) ordered standing le =
    let first : Stands text t = standing 0 t (omega arith) in
    let others : All (Stands text) tokens = λ n d lt. standing (suc n) d (omega (arith, lt)) in
    let h : t.to + length tokens ≤ length text = tokens-from text t.to tokens ordered.1 others first.within in
    omega (arith, h, first.some, ordered.0)

pub few-tokens : (text : List ℕ) (tokens : List Token) → AreInOrder 0 tokens → All (Stands text) tokens → length tokens ≤ length text
few-tokens text tokens ordered standing = let h : 0 + length tokens ≤ length text = tokens-from text 0 tokens ordered standing (omega arith) in omega (arith, h)

from-after : (text : List ℕ) (at : ℕ) (tokens : List Token) (n : ℕ) (t : Token) → AreInOrder at tokens → All (Stands text) tokens → slice_get tokens n ≡ Some t → at ≤ t.from
from-after text at [] n t ordered standing e = absurd (cc)
from-after text at (x ∷ tokens) zero t ordered standing e = let same : x ≡ t = cc in subst (λ (y : Token). at ≤ y.from) same ordered.0
from-after text at (x ∷ tokens) (suc n) t ordered standing e =
    let first : Stands text x = standing 0 x (omega arith) in
    let h : x.to ≤ t.from = from-after text x.to tokens n t ordered.1 (λ m d lt. standing (suc m) d (omega (arith, lt))) e in
    omega (arith, h, first.some, ordered.0)

two-in-order : (text : List ℕ) (at : ℕ) (tokens : List Token) (n m : ℕ) (s t : Token) → AreInOrder at tokens → All (Stands text) tokens → n ≤ m → slice_get tokens n ≡ Some s
    → slice_get tokens m ≡ Some t → s.from ≤ t.from
two-in-order text at [] n m s t ordered standing le e f = absurd (cc)
two-in-order text at (x ∷ tokens) zero zero s t ordered standing le e f = let same : s ≡ t = cc in subst (λ (y : Token). s.from ≤ y.from) same (omega arith)
two-in-order text at (x ∷ tokens) zero (suc m) s t ordered standing le e f =
    let first : Stands text x = standing 0 x (omega arith) in
    let same : x ≡ s = cc in
    let h : x.to ≤ t.from = from-after text x.to tokens m t ordered.1 (λ k d lt. standing (suc k) d (omega (arith, lt))) f in
    subst (λ (y : Token). y.from ≤ t.from) same (omega (arith, h, first.some))
two-in-order text at (x ∷ tokens) (suc n) zero s t ordered standing le e f = absurd (omega (arith, le))
two-in-order text at (x ∷ tokens) (suc n) (suc m) s t ordered standing le e f =
    two-in-order text x.to tokens n m s t ordered.1 (λ k d lt. standing (suc k) d (omega (arith, lt))) (omega (arith, le)) e f

pub get-some : (tokens : List Token) (n : ℕ) → n < length tokens → (t : Token) × (slice_get tokens n ≡ Some t)
get-some [] n lt = absurd (omega (arith, lt))
get-some (t ∷ tokens) zero lt = (t, refl)
get-some (t ∷ tokens) (suc n) lt = get-some tokens n (omega (arith, lt))

-- later tokens stand later
pub in-order : (text : List ℕ) (tokens : List Token) → AreInOrder 0 tokens → All (Stands text) tokens → (a b : ℕ) → a ≤ b → b ≤ length tokens → first_byte (last_of tokens a) ≤ first_byte (last_of tokens b)
in-order text tokens ordered standing zero b le within = omega arith
in-order text tokens ordered standing (suc a) zero le within = absurd (omega (arith, le))
in-order text tokens ordered standing (suc a) (suc b) le within =
    let s : (t : Token) × (slice_get tokens a ≡ Some t) = get-some tokens a (omega (arith, le, within)) in
    let t : (t : Token) × (slice_get tokens b ≡ Some t) = get-some tokens b (omega (arith, within)) in
    let h : s.0.from ≤ t.0.from = two-in-order text 0 tokens a b s.0 t.0 ordered standing (omega (arith, le)) s.1 t.1 in
    subst (λ (x : Option Token). first_byte x ≤ first_byte (slice_get tokens b)) (sym s.1) (subst (λ (x : Option Token). s.0.from ≤ first_byte x) (sym t.1) h)

pub last-stands : (text : List ℕ) (tokens : List Token) (n : ℕ) → All (Stands text) tokens → n ≤ length tokens → IfSome (last_of tokens n) (Stands text)
last-stands text tokens zero standing within = tt
last-stands text tokens (suc n) standing within =
    let t : (t : Token) × (slice_get tokens n ≡ Some t) = get-some tokens n (omega (arith, within)) in
    subst (λ (x : Option Token). IfSome x (Stands text)) (sym t.1) (all-at (Stands text) tokens n t.0 standing t.1)

pub byte-within : (text : List ℕ) (tokens : List Token) (n : ℕ) → All (Stands text) tokens → n ≤ length tokens → first_byte (last_of tokens n) ≤ length text
byte-within text tokens zero standing within = omega arith
byte-within text tokens (suc n) standing within =
    let t : (t : Token) × (slice_get tokens n ≡ Some t) = get-some tokens n (omega (arith, within)) in
    let stands : Stands text t.0 = all-at (Stands text) tokens n t.0 standing t.1 in
    subst (λ (x : Option Token). first_byte x ≤ length text) (sym t.1) (omega (arith, stands.some, stands.within))

-- ── what the code read ──

pub spot-here : (text : List ℕ) (tokens : List Token) (spot : Spot) (at : ℕ) (token : Option Token) (read n : ℕ) → spot ≡ spot_at text at → at ≡ first_byte token → token ≡ last_of tokens read
    → read ≡ n → spot ≡ spot_of text (last_of tokens n)
spot-here text tokens spot at token read n e f g h = e ∙ ap (spot_at text) (f ∙ ap first_byte (g ∙ ap (last_of tokens) h))

pub bytes-here : (text : List ℕ) (tokens : List Token) (bytes : List ℕ) (token : Option Token) (read n : ℕ) → bytes ≡ bytes_in text token → token ≡ last_of tokens read → read ≡ n
    → bytes ≡ bytes_in text (last_of tokens n)
bytes-here text tokens bytes token read n e g h = e ∙ ap (bytes_in text) (g ∙ ap (last_of tokens) h)

-- fewer tokens are left
fewer-left : (n : ℕ) (s : List Symbol) (ts : List TokenKind) (s' : List Symbol) (ts' : List TokenKind) → Turns n s ts s' ts' → length ts' ≤ length ts
fewer-left zero s ts s' ts' h = omega (arith, ap length h.1)
fewer-left (suc n) (T j ∷ s) (t ∷ ts) s' ts' h = let k : length ts' ≤ length ts = fewer-left n s ts s' ts' h.1 in omega (arith, k)
fewer-left (suc n) (N x ∷ s) ts s' ts' h = fewer-left n (choice (alternatives x) (front ts) ++ s) ts s' ts' h
fewer-left _ _ _ _ _ h = absurd h

further : (old new : Course) (a : Action) → ComesTo old a new → old.read ≤ new.read
further old new a comes =
    let h : length (left new) ≤ length (left old) = fewer-left comes.reached.turns old.ahead (left old) (A a ∷ new.ahead) (left new) comes.reached.way in
    omega (arith, h, comes.read)

pub at-order : (text : List ℕ) (tokens : List Token) (old new : Course) (a : Action) (b : Builder) (spot : Spot) (k : Kept text tokens old b spot) → AreInOrder 0 tokens → All (Stands text) tokens
    → ComesTo old a new → spot.at ≤ first_byte (last_of tokens new.read)
at-order text tokens old new a b spot k ordered standing comes =
    let new_within : new.read ≤ length tokens = subst (λ (x : List Token). new.read ≤ length x) (comes.tokens ∙ k.same) comes.within in
    let more : old.read ≤ new.read = further old new a comes in
    let h : first_byte (last_of tokens k.seen) ≤ first_byte (last_of tokens new.read) = in-order text tokens ordered standing k.seen new.read (omega (arith, k.seen_within, more)) new_within in
    omega (arith, h, ap (λ (x : Spot). x.at) k.spot_is)

pub new-within : (tokens : List Token) (old new : Course) (a : Action) → old.tokens ≡ tokens → ComesTo old a new → new.read ≤ length tokens
new-within tokens old new a same comes = subst (λ (x : List Token). new.read ≤ length x) (comes.tokens ∙ same) comes.within
