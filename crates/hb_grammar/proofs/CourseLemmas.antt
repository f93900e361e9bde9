-- A course, turn by turn.
use Rattle.std.proofs.Common.{◌≡◌, ℕ, suc, zero, ◌+◌, ◌<◌, ◌≤◌, slice_index_or, List, [], ◌∷◌, ◌++◌, true, false, Some, refl, sym, ◌∙◌, ap, subst, length, arith, drop, reverse, length-drop}
use Rattle.std.proofs.lemmas.Bool.{cond-true, cond-false, both_ways}
use Rattle.std.proofs.lemmas.List.{append-nil, drop-drop, length-map, reverse-append}
use Rattle.hb_lex.specs.declared.{spans.Token.Token, kinds.TokenKind.TokenKind}
use Rattle.hb_grammar.specs.{Grammar.alternatives, Measure.potential, Measure.size}
use Rattle.hb_grammar.specs.declared.{actions.Action.Action, symbols.Sort.Sort, symbols.Symbol.Symbol, symbols.Symbol.TheVariants.Token as T}
use Rattle.hb_grammar.specs.declared.{symbols.Symbol.TheVariants.Phrase as N, symbols.Symbol.TheVariants.Action as A, wanted.Wanted.Wanted}
use Rattle.hb_grammar.specs.declared.wanted.Wanted.TheVariants as want
use Rattle.hb_grammar.specs.Language.{Act, act, kinds_of}
use Rattle.hb_grammar.specs.Sight.{is_kind, kind_eq, front, choice, run, acts, Does, Outcome, Done, Missed, wanted_for}
use Rattle.hb_grammar.specs.Course.{Course, left, Turns, Leads, Reaches, ComesTo, StopsAt}
use Rattle.hb_grammar.proofs.{SightLemmas.same_kind, SightLemmas.kind_same, PotentialLemmas.potential-action, PotentialLemmas.potential-phrase, PotentialLemmas.potential-token}

-- ── what a run does, turn by turn ──

pub Does-token : (j t : TokenKind) (stack : List Symbol) (at : ℕ) (tokens : List TokenKind) (done : List Act) (o : Outcome) → t ≡ j → Does stack (at + 1) tokens done o → Does (T j ∷ stack) at (t ∷ tokens) done o
unfolding run acts
Does-token j t stack at tokens done o same r =
    let y : kind_eq t j ≡ true = rw same (kind_same j) in record {
      steps = suc r.steps;
      ends = cond-true (kind_eq t j) (run r.steps stack tokens) (Missed (wanted_for j) (length (t ∷ tokens))) y ∙ r.ends;
      acts = cond-true (kind_eq t j) (acts r.steps stack (at + 1) tokens) [] y ∙ r.acts;
    }

pub Does-phrase : (s : Sort) (stack : List Symbol) (at : ℕ) (tokens : List TokenKind) (done : List Act) (o : Outcome) → Does (choice (alternatives s) (front tokens) ++ stack) at tokens done o
    → Does (N s ∷ stack) at tokens done o
unfolding run acts
Does-phrase s stack at tokens done o r = record { steps = suc r.steps; ends = r.ends; acts = r.acts }

pub Does-action : (a : Action) (stack : List Symbol) (at : ℕ) (tokens : List TokenKind) (done : List Act) (o : Outcome) → Does stack at tokens done o → Does (A a ∷ stack) at tokens (act a at ∷ done) o
unfolding run acts
Does-action a stack at tokens done o r = record { steps = suc r.steps; ends = r.ends; acts = ap (λ (z : List Act). act a at ∷ z) r.acts }

pub Does-missed : (j : TokenKind) (stack : List Symbol) (at : ℕ) (tokens : List TokenKind) → is_kind (front tokens) j ≡ false → Does (T j ∷ stack) at tokens [] (Missed (wanted_for j) (length tokens))
unfolding run acts
Does-missed j stack at [] f = record { steps = 1; ends = refl; acts = refl }
Does-missed j stack at (t ∷ ts) f = record {
  steps = 1;
  ends = cond-false (kind_eq t j) (run 0 stack ts) (Missed (wanted_for j) (length (t ∷ ts))) f;
  acts = cond-false (kind_eq t j) (acts 0 stack (at + 1) ts) [] f;
}

pub Does-left : (at : ℕ) (tokens : List TokenKind) → 0 < length tokens → Does [] at tokens [] (Missed want.Item (length tokens))
unfolding run acts
Does-left at [] h = absurd (omega (arith, h))
Does-left at (t ∷ ts) h = record { steps = 1; ends = refl; acts = refl }

pub Does-done : (at : ℕ) (tokens : List TokenKind) → length tokens ≡ 0 → Does [] at tokens [] Done
unfolding run acts
Does-done at [] h = record { steps = 1; ends = refl; acts = refl }
Does-done at (t ∷ ts) h = absurd (omega (arith, h))

-- ── turns without an action ──

-- what is kept by a token that is read and by a phrase that is replaced is kept by all turns
module _ (P : List Symbol → List TokenKind → Type 0) (token : (j : TokenKind) (stack : List Symbol) (tokens : List TokenKind) → P (T j ∷ stack) (j ∷ tokens) → P stack tokens)
    (phrase : (s : Sort) (stack : List Symbol) (tokens : List TokenKind) → P (N s ∷ stack) tokens → P (choice (alternatives s) (front tokens) ++ stack) tokens) where
  pub Turns-keep : (n : ℕ) (stack : List Symbol) (tokens : List TokenKind) (stack' : List Symbol) (tokens' : List TokenKind) → Turns n stack tokens stack' tokens' → P stack tokens → P stack' tokens'
  Turns-keep zero stack tokens stack' tokens' w p = subst (λ (z : List Symbol). P z tokens') w.0 (subst (λ (z : List TokenKind). P stack z) w.1 p)
  Turns-keep (suc n) (T j ∷ stack) (t ∷ ts) stack' tokens' w p = Turns-keep n stack ts stack' tokens' w.1 (token j stack ts (subst (λ (z : TokenKind). P (T j ∷ stack) (z ∷ ts)) w.0 p))
  Turns-keep (suc n) (N s ∷ stack) tokens stack' tokens' w p = Turns-keep n (choice (alternatives s) (front tokens) ++ stack) tokens stack' tokens' w (phrase s stack tokens p)
  Turns-keep _ _ _ _ _ w _ = absurd w

  pub Leads-keep : (stack : List Symbol) (tokens : List TokenKind) (stack' : List Symbol) (tokens' : List TokenKind) → Leads stack tokens stack' tokens' → P stack tokens → P stack' tokens'
  Leads-keep stack tokens stack' tokens' l p = Turns-keep l.turns stack tokens stack' tokens' l.way p

Turns-append : (n m : ℕ) (stack : List Symbol) (tokens : List TokenKind) (stack' : List Symbol) (tokens' : List TokenKind) (stack'' : List Symbol) (tokens'' : List TokenKind)
    → Turns n stack tokens stack' tokens' → Turns m stack' tokens' stack'' tokens'' → (k : ℕ) × Turns k stack tokens stack'' tokens''
Turns-append zero m stack tokens stack' tokens' stack'' tokens'' v w =
    (m, subst (λ (z : List Symbol). Turns m z tokens stack'' tokens'') (sym v.0) (subst (λ (z : List TokenKind). Turns m stack' z stack'' tokens'') (sym v.1) w))
Turns-append (suc n) m (T j ∷ stack) (t ∷ ts) stack' tokens' stack'' tokens'' v w =
    let r : (k : ℕ) × Turns k stack ts stack'' tokens'' = Turns-append n m stack ts stack' tokens' stack'' tokens'' v.1 w in (suc r.0, (v.0, r.1))
Turns-append (suc n) m (N s ∷ stack) tokens stack' tokens' stack'' tokens'' v w =
    let r : (k : ℕ) × Turns k (choice (alternatives s) (front tokens) ++ stack) tokens stack'' tokens'' = Turns-append n m
    (choice (alternatives s) (front tokens) ++ stack) tokens stack' tokens' stack'' tokens'' v w in (suc r.0, r.1)
Turns-append _ _ _ _ _ _ _ _ v _ = absurd v

pub Leads-on : (stack : List Symbol) (tokens : List TokenKind) (stack' : List Symbol) (tokens' : List TokenKind) (stack'' : List Symbol) (tokens'' : List TokenKind)
    → Leads stack tokens stack' tokens' → Leads stack' tokens' stack'' tokens'' → Leads stack tokens stack'' tokens''
Leads-on stack tokens stack' tokens' stack'' tokens'' v w =
    let r : (k : ℕ) × Turns k stack tokens stack'' tokens'' = Turns-append v.turns w.turns stack tokens stack' tokens' stack'' tokens'' v.way w.way in
    record { turns = r.0; way = r.1 }

-- what is done from the place that one is led to is done from the place before
Does-turns : (n : ℕ) (stack : List Symbol) (tokens : List TokenKind) (stack' : List Symbol) (tokens' : List TokenKind) (at at' : ℕ) (done : List Act) (o : Outcome)
    → Turns n stack tokens stack' tokens' → at' + length tokens' ≡ at + length tokens → Does stack' at' tokens' done o → Does stack at tokens done o
Does-turns zero stack tokens stack' tokens' at at' done o w e r =
    let same : at' ≡ at = omega (arith, e, ap length w.1) in
    subst (λ (z : ℕ). Does stack z tokens done o) same (subst (λ (z : List Symbol). Does z at' tokens done o) (sym w.0) (subst (λ (z : List TokenKind). Does stack' at' z done o) (sym w.1) r))
Does-turns (suc n) (T j ∷ stack) (t ∷ ts) stack' tokens' at at' done o w e r = Does-token j t stack at ts done o w.0 (Does-turns n stack ts stack' tokens' (at + 1) at' done o w.1 (omega (arith, e)) r)
Does-turns (suc n) (N s ∷ stack) tokens stack' tokens' at at' done o w e r = Does-phrase s stack at tokens done o (Does-turns n (choice (alternatives s) (front tokens) ++ stack) tokens stack' tokens' at at' done o w e r)
Does-turns _ _ _ _ _ _ _ _ _ w _ _ = absurd w

pub Does-leads : (stack : List Symbol) (tokens : List TokenKind) (stack' : List Symbol) (tokens' : List TokenKind) (at at' : ℕ) (done : List Act) (o : Outcome)
    → Leads stack tokens stack' tokens' → at' + length tokens' ≡ at + length tokens → Does stack' at' tokens' done o → Does stack at tokens done o
Does-leads stack tokens stack' tokens' at at' done o l e r = Does-turns l.turns stack tokens stack' tokens' at at' done o l.way e r

pub Does-reaches : (stack : List Symbol) (tokens : List TokenKind) (a : Action) (stack' : List Symbol) (tokens' : List TokenKind) (at at' : ℕ) (done : List Act) (o : Outcome)
    → Reaches stack tokens a stack' tokens' → at' + length tokens' ≡ at + length tokens → Does stack' at' tokens' done o → Does stack at tokens (act a at' ∷ done) o
Does-reaches stack tokens a stack' tokens' at at' done o l e r = Does-leads stack tokens (A a ∷ stack') tokens' at at' (act a at' ∷ done) o l e (Does-action a stack' at' tokens' done o r)

-- what the run does behind an action, it does behind the one before, with this action first
pub Does-comes : (old new : Course) (a : Action) (done : List Act) (o : Outcome) → ComesTo old a new → Does new.ahead new.read (left new) done o → Does old.ahead old.read (left old) (act a new.read ∷ done) o
Does-comes old new a done o c r = Does-reaches old.ahead (left old) a new.ahead (left new) old.read new.read done o c.reached c.read r

-- ── less is left to do ──

Turns-size : (n : ℕ) (stack : List Symbol) (tokens : List TokenKind) (stack' : List Symbol) (tokens' : List TokenKind) → Turns n stack tokens stack' tokens' → potential stack' tokens' ≤ potential stack tokens
Turns-size zero stack tokens stack' tokens' w = subst (λ (z : List Symbol). potential z tokens' ≤ potential stack tokens) w.0
    (subst (λ (z : List TokenKind). potential stack z ≤ potential stack tokens) w.1 (omega (arith)))
Turns-size (suc n) (T j ∷ stack) (t ∷ ts) stack' tokens' w =
    let y : is_kind (Some t) j ≡ true = ap (λ (z : TokenKind). kind_eq z j) w.0 ∙ kind_same j in
    omega (arith, Turns-size n stack ts stack' tokens' w.1, potential-token j t stack ts y)
Turns-size (suc n) (N s ∷ stack) tokens stack' tokens' w = omega (arith, Turns-size n (choice (alternatives s) (front tokens) ++ stack) tokens stack' tokens' w, potential-phrase s stack tokens)
Turns-size _ _ _ _ _ w = absurd w

pub nearer : (old new : Course) (a : Action) → ComesTo old a new → size new < size old
nearer old new a c = omega (arith, Turns-size c.reached.turns old.ahead (left old) (A a ∷ new.ahead) (left new) c.reached.way, potential-action a new.ahead (left new))

-- ── the loop ──

pub popped : (old new : List Symbol) (x : Symbol) → old ≡ new ++ x ∷ [] → reverse old ≡ x ∷ reverse new
popped old new x e = ap reverse e ∙ reverse-append new (x ∷ [])

pub no_symbols : (items : List Symbol) → (0 < length items → ⊥) → reverse items ≡ []
no_symbols [] none = refl
no_symbols (x ∷ items) none = absurd (none (omega arith))

-- a token that is read is the first of those that are left
front_is : (tokens : List TokenKind) (j : TokenKind) → is_kind (front tokens) j ≡ true → tokens ≡ j ∷ drop 1 tokens
front_is [] j y = absurd (both_ways false refl y)
front_is (t ∷ ts) j y = ap (λ (z : TokenKind). z ∷ ts) (same_kind t j y)

drop-next : (n : ℕ) (tokens : List TokenKind) → drop 1 (drop n tokens) ≡ drop (n + 1) tokens
drop-next n tokens = drop-drop 1 n tokens

pub some_left : (tokens : List Token) (read : ℕ) (j : TokenKind) → is_kind (front (drop read (kinds_of tokens))) j ≡ true → read < length tokens
some_left tokens read j y = omega (arith, ap length (front_is (drop read (kinds_of tokens)) j y), length-drop read (kinds_of tokens), length-map tokens (λ token. token.kind))

pub sight_is : (tokens : List Token) (read : ℕ) (other : Token) → read < length tokens → Some (slice_index_or tokens read other).kind ≡ front (drop read (kinds_of tokens))
sight_is [] read other h = absurd (omega (arith, h))
sight_is (t ∷ tokens) zero other h = refl
sight_is (t ∷ tokens) (suc n) other h = sight_is tokens n other (omega (arith, h))

-- ── what the loop keeps, and what it answers ──

pub leads_token : (old : Course) (tokens : List Token) (read : ℕ) (stack mid : List Symbol) (j : TokenKind) → stack ≡ mid ++ T j ∷ [] → is_kind (front (drop read (kinds_of tokens))) j ≡ true
    → Leads old.ahead (left old) (reverse stack) (drop read (kinds_of tokens)) → Leads old.ahead (left old) (reverse mid) (drop (read + 1) (kinds_of tokens))
leads_token old tokens read stack mid j top y l =
    let here : List TokenKind = drop read (kinds_of tokens) in
    let next : Leads (T j ∷ reverse mid) (j ∷ drop 1 here) (reverse mid) (drop 1 here) = record { turns = 1; way = (refl, (refl, refl)) } in
    let at : Leads (reverse stack) here (reverse mid) (drop (read + 1) (kinds_of tokens)) =
    subst (λ (z : List Symbol). Leads z here (reverse mid) (drop (read + 1) (kinds_of tokens))) (sym (popped stack mid (T j) top))
    (subst (λ (z : List TokenKind). Leads (T j ∷ reverse mid) here (reverse mid) z) (drop-next read (kinds_of tokens))
    (subst (λ (z : List TokenKind). Leads (T j ∷ reverse mid) z (reverse mid) (drop 1 here)) (sym (front_is here j y)) next)) in
    Leads-on old.ahead (left old) (reverse stack) here (reverse mid) (drop (read + 1) (kinds_of tokens)) l at

pub leads_phrase : (old : Course) (tokens : List TokenKind) (stack mid new : List Symbol) (s : Sort) → stack ≡ mid ++ N s ∷ [] → reverse new ≡ choice (alternatives s) (front tokens) ++ reverse mid
    → Leads old.ahead (left old) (reverse stack) tokens → Leads old.ahead (left old) (reverse new) tokens
leads_phrase old tokens stack mid new s top put l =
    let next : Leads (N s ∷ reverse mid) tokens (choice (alternatives s) (front tokens) ++ reverse mid) tokens = record { turns = 1; way = (refl, refl) } in
    let at : Leads (reverse stack) tokens (reverse new) tokens =
    subst (λ (z : List Symbol). Leads z tokens (reverse new) tokens) (sym (popped stack mid (N s) top))
    (subst (λ (z : List Symbol). Leads (N s ∷ reverse mid) tokens z tokens) (sym put) next) in
    Leads-on old.ahead (left old) (reverse stack) tokens (reverse new) tokens l at

pub smaller_token : (tokens : List Token) (read : ℕ) (stack mid : List Symbol) (j : TokenKind) → stack ≡ mid ++ T j ∷ [] → is_kind (front (drop read (kinds_of tokens))) j ≡ true
    → potential (reverse mid) (drop (read + 1) (kinds_of tokens)) < potential (reverse stack) (drop read (kinds_of tokens))
smaller_token tokens read stack mid j top y =
    let here : List TokenKind = drop read (kinds_of tokens) in
    subst (λ (z : List Symbol). potential (reverse mid) (drop (read + 1) (kinds_of tokens)) < potential z here) (sym (popped stack mid (T j) top))
    (subst (λ (z : List TokenKind). potential (reverse mid) z < potential (T j ∷ reverse mid) here) (drop-next read (kinds_of tokens))
    (subst (λ (z : List TokenKind). potential (reverse mid) (drop 1 here) < potential (T j ∷ reverse mid) z) (sym (front_is here j y)) (potential-token j j (reverse mid) (drop 1 here) (kind_same j))))

pub smaller_phrase : (tokens : List TokenKind) (stack mid new : List Symbol) (s : Sort) → stack ≡ mid ++ N s ∷ [] → reverse new ≡ choice (alternatives s) (front tokens) ++ reverse mid
    → potential (reverse new) tokens < potential (reverse stack) tokens
smaller_phrase tokens stack mid new s top put =
    subst (λ (z : List Symbol). potential (reverse new) tokens < potential z tokens) (sym (popped stack mid (N s) top))
    (subst (λ (z : List Symbol). potential z tokens < potential (N s ∷ reverse mid) tokens) (sym put) (potential-phrase s (reverse mid) tokens))

-- what was read and what is left are all tokens
all_tokens : (c : Course) → c.read ≤ length c.tokens → c.read + length (left c) ≡ length c.tokens
all_tokens c h = omega (arith, h, length-drop c.read (kinds_of c.tokens), length-map c.tokens (λ token. token.kind))

same_count : (old new : Course) → new.tokens ≡ old.tokens → old.read ≤ length old.tokens → new.read ≤ length new.tokens → new.read + length (left new) ≡ old.read + length (left old)
same_count old new same h k = omega (arith, ap length same, all_tokens old h, all_tokens new k)

-- where no symbol was left to pop
pub none_popped : (old : Course) (stack new : List Symbol) (tokens : List TokenKind) → stack ≡ new ++ [] → Leads old.ahead (left old) (reverse stack) tokens → Leads old.ahead (left old) (reverse new) tokens
none_popped old stack new tokens e l = subst (λ (z : List Symbol). Leads old.ahead (left old) (reverse z) tokens) (e ∙ append-nil new) l

pub comes : (old : Course) (tokens : List Token) (read : ℕ) (stack mid : List Symbol) (a : Action) → tokens ≡ old.tokens → read ≤ length tokens → old.read ≤ length old.tokens → stack ≡ mid ++ A a ∷ []
    → Leads old.ahead (left old) (reverse stack) (drop read (kinds_of tokens)) → ComesTo old a (record { tokens = tokens; ahead = reverse mid; read = read })
comes old tokens read stack mid a same within started top l = record {
  tokens = same;
  within = within;
  reached = subst (λ (z : List Symbol). Leads old.ahead (left old) z (drop read (kinds_of tokens))) (popped stack mid (A a) top) l;
  read = same_count old (record { tokens = tokens; ahead = reverse mid; read = read }) same started within;
}

-- what the run does at the place of the loop is what it does at the start
does_here : (old new : Course) (stack : List Symbol) (done : List Act) (o : Outcome) → new.tokens ≡ old.tokens → old.read ≤ length old.tokens → new.read ≤ length new.tokens
    → Leads old.ahead (left old) stack (left new) → Does stack new.read (left new) done o → Does old.ahead old.read (left old) done o
does_here old new stack done o same started within l r = Does-leads old.ahead (left old) stack (left new) old.read new.read done o l (same_count old new same started within) r

pub stops : (old : Course) (tokens : List Token) (read : ℕ) (stack mid : List Symbol) (j : TokenKind) (w : Wanted) → tokens ≡ old.tokens → read ≤ length tokens → old.read ≤ length old.tokens → stack ≡ mid ++ T j ∷ []
    → is_kind (front (drop read (kinds_of tokens))) j ≡ false → w ≡ wanted_for j
    → Leads old.ahead (left old) (reverse stack) (drop read (kinds_of tokens)) → StopsAt old w (record { tokens = tokens; ahead = reverse mid; read = read })
stops old tokens read stack mid j w same within started top f named l =
    let here : List TokenKind = drop read (kinds_of tokens) in
    let new : Course = record { tokens = tokens; ahead = reverse mid; read = read } in
    let l' : Leads old.ahead (left old) (T j ∷ reverse mid) here = subst (λ (z : List Symbol). Leads old.ahead (left old) z here) (popped stack mid (T j) top) l in
    let r : Does old.ahead old.read (left old) [] (Missed (wanted_for j) (length here)) = does_here old new (T j ∷ reverse mid) [] (Missed (wanted_for j) (length here)) same started within l'
    (Does-missed j (reverse mid) read here f) in
    record { tokens = same; within = within; does = subst (λ (z : Wanted). Does old.ahead old.read (left old) [] (Missed z (length here))) (sym named) r }

pub stops_behind : (old : Course) (tokens : List Token) (read : ℕ) (stack : List Symbol) → tokens ≡ old.tokens → read < length tokens → old.read ≤ length old.tokens → reverse stack ≡ []
    → Leads old.ahead (left old) (reverse stack) (drop read (kinds_of tokens)) → StopsAt old want.Item (record { tokens = tokens; ahead = reverse stack; read = read })
stops_behind old tokens read stack same some started none l =
    let here : List TokenKind = drop read (kinds_of tokens) in
    let new : Course = record { tokens = tokens; ahead = reverse stack; read = read } in
    let l' : Leads old.ahead (left old) [] here = subst (λ (z : List Symbol). Leads old.ahead (left old) z here) none l in
    let rest : 0 < length here = omega (arith, some, length-drop read (kinds_of tokens), length-map tokens (λ token. token.kind)) in
    let within : read ≤ length tokens = omega (arith, some) in
    record { tokens = same; within = within; does = does_here old new [] [] (Missed want.Item (length here)) same started within l' (Does-left read here rest) }

pub ended : (old : Course) (tokens : List Token) (read : ℕ) (stack : List Symbol) → tokens ≡ old.tokens → read ≤ length tokens → length tokens ≤ read → old.read ≤ length old.tokens → reverse stack ≡ []
    → Leads old.ahead (left old) (reverse stack) (drop read (kinds_of tokens)) → Does old.ahead old.read (left old) [] Done
ended old tokens read stack same within all started none l =
    let here : List TokenKind = drop read (kinds_of tokens) in
    let new : Course = record { tokens = tokens; ahead = reverse stack; read = read } in
    let l' : Leads old.ahead (left old) [] here = subst (λ (z : List Symbol). Leads old.ahead (left old) z here) none l in
    let rest : length here ≡ 0 = omega (arith, all, length-drop read (kinds_of tokens), length-map tokens (λ token. token.kind)) in
    does_here old new [] [] Done same started within l' (Does-done read here rest)
