-- What a call holds are its own key and those of the answers on which its verdict rests.
use Rattle.std.proofs.Common.{◌≡◌, ℕ, ◌⊎◌, inl, inr, List, [], ◌∷◌, ◌++◌, map, Some, None, refl, sym, ap, ◌∙◌, subst}
use Rattle.std.proofs.lemmas.Option.{none-some}
use Rattle.std.specs.Prelude.{Option}
use Rattle.hb_types.specs.declared.{ids.KeyId.KeyId, ids.BodySite.BodySite}
use Rattle.hb_tree.specs.Table.{Table}
use Rattle.hb_deriv.specs.{Judge.Key, Programs.sites_of}
use Rattle.hb_check.specs.Asked.{key_asked, types_in}
use Rattle.hb_names.specs.Names.{Name, place}
use Rattle.hb_tables.specs.declared.{entry.Entry.Entry, entry.Verdict.Verdict}
use Rattle.hb_tables.specs.{Names.name_of, Verdicts.looks_of}
use Rattle.hb_tables.specs.Rows.{body_at, declared_in, kinds_of}
use Rattle.hb_call.specs.declared.answers.Answer.{Answer}
use Rattle.hb_call.specs.Calling.{AreTrue, Given, IsAmong, IsCalling, answers_of}
use Rattle.hb_call.specs.Deciding.{AreNext, IsRuled, type_declared}
use Rattle.hb_call.proofs.{DecidingLemmas.agrees, LookingLemmas.true_back, LookingLemmas.true_front}

among_parts : (k : ℕ) (xs ys : List Answer) → IsAmong k (xs ++ ys) → IsAmong k xs ⊎ IsAmong k ys
among_parts k [] ys i = inr i
among_parts k (a ∷ xs) ys (inl e) = inl (inl e)
among_parts k (a ∷ xs) ys (inr i) = elim (among_parts k xs ys i) [ inl p ↦ inl (inr p) | inr p ↦ inr p ]

-- where an answer of the key stands
record Placed (k : ℕ) (answers : List Answer) : Type 0 where
  first : List Answer
  a : Answer
  rest : List Answer
  is : answers ≡ first ++ a ∷ rest
  key : k ≡ a.key.0

placed : (k : ℕ) (answers : List Answer) → IsAmong k answers → Placed k answers
placed k [] i = absurd i
placed k (a ∷ answers) (inl e) = record { first = []; a = a; rest = answers; is = refl; key = e }
placed k (a ∷ answers) (inr i) = let p = placed k answers i in record { first = a ∷ p.first; a = p.a; rest = p.rest; is = ap (λ l. a ∷ l) p.is; key = p.key }

-- the methods of answers
abbrev pub keys_of : List Answer → List Key
keys_of answers = map key_asked (answers_of answers)

-- the looks behind the list
abbrev pub looks_here : Given → List Name → List Entry → Option BodySite → List Key
looks_here g names log site = looks_of g.t (types_in (sites_of g.t) (declared_in g.t names log)) g.class.0 (body_at g.t site) (type_declared g.t g.own.ty) (kinds_of g.args)

module _ (t : Table) (names : List Name) (log : List Entry) (x : ℕ × ℕ) where
  named_first : (first rest : List Answer) (a : Answer) → AreTrue t names log x (first ++ a ∷ rest) → place names (name_of t (a.class.0, a.name.0)) ≡ Some a.key.0
  named_first [] rest a h = h.0
  named_first (b ∷ first) rest a h = named_first first rest a h.2

  -- a key that stands among those of the answers has one of them
  among_keys : (k : ℕ) (answers : List Answer) (fs os : List Key) (y : Key) → keys_of answers ≡ fs ++ y ∷ os → AreTrue t names log x answers → place names (name_of t y) ≡ Some k → IsAmong k answers
  among_keys k [] [] os y e h n = absurd (cc e)
  among_keys k [] (f ∷ fs) os y e h n = absurd (cc e)
  among_keys k (b ∷ answers) [] os y e h n = let same : (b.class.0, b.name.0) ≡ y = cc e in
      inl (let one : place names (name_of t y) ≡ Some b.key.0 = subst (λ (z : Key). place names (name_of t z) ≡ Some b.key.0) same h.0 in let two : Some k ≡ Some b.key.0 = sym n ∙ one in cc two)
  among_keys k (b ∷ answers) (f ∷ fs) os y e h n = inr (among_keys k answers fs os y (cc e) h.2 n)

  -- and so does one that stands before a key without a name, behind keys with names
  among_before : (k : ℕ) (answers first : List Answer) (y r : Key) (os ps : List Key) → keys_of answers ++ r ∷ os ≡ keys_of first ++ y ∷ ps → AreTrue t names log x answers
      → AreTrue t names log x first → place names (name_of t y) ≡ Some k → place names (name_of t r) ≡ None → IsAmong k answers
  among_before k [] [] y r os ps e h i n none = let same : r ≡ y = cc e in absurd (none-some k (sym (subst (λ (z : Key). place names (name_of t z) ≡ None) same none) ∙ n))
  among_before k [] (f ∷ first) y r os ps e h i n none = let same : r ≡ (f.class.0, f.name.0) = cc e in absurd (none-some f.key.0 (sym (subst (λ (z : Key). place names (name_of t z) ≡ None) same none) ∙ i.0))
  among_before k (b ∷ answers) [] y r os ps e h i n none = let same : (b.class.0, b.name.0) ≡ y = cc e in
      inl (let one : place names (name_of t y) ≡ Some b.key.0 = subst (λ (z : Key). place names (name_of t z) ≡ Some b.key.0) same h.0 in let two : Some k ≡ Some b.key.0 = sym n ∙ one in cc two)
  among_before k (b ∷ answers) (f ∷ first) y r os ps e h i n none = inr (among_before k answers first y r os ps (cc e) h.2 i.2 n none)

module _ (g : Given) (names asked : List Name) (log : List Entry) (held : List KeyId) (compared answers : List Answer) (h : IsCalling g.t g.door g.q.0 names asked log g.key g.own held (compared ++ answers)) where
  narrowed : ((k : ℕ) → IsAmong k compared → IsAmong k answers) → IsCalling g.t g.door g.q.0 names asked log g.key g.own held answers
  narrowed within = record {
    legal = h.legal;
    room = h.room;
    holds = h.holds;
    first = h.first;
    own_is = h.own_is;
    answered = true_back g.t names log (g.door.caller, g.q.0) compared answers h.answered;
    only = λ k one. elim (h.only k one) [ inl e ↦ inl e | inr i ↦ elim (among_parts k compared answers i) [ inl p ↦ inr (within k p) | inr p ↦ inr p ] ];
    asked_for = h.asked_for;
    whole = h.whole;
  }

  -- where an answer of the comparison stands among the looks
  record Looked (site : Option BodySite) (k : ℕ) : Type 0 where
    first : List Answer
    y : Key
    others : List Key
    looks : looks_here g names log site ≡ keys_of first ++ y ∷ others
    named : place names (name_of g.t y) ≡ Some k
    told : AreTrue g.t names log (g.door.caller, g.q.0) first

  looked_at : (site : Option BodySite) (k : ℕ) → AreNext g site compared → IsAmong k compared → Looked site k
  looked_at site k next i =
      let p = placed k compared i in
      let told = subst (λ (l : List Answer). AreTrue g.t names log (g.door.caller, g.q.0) l) p.is (true_front g.t names log (g.door.caller, g.q.0) compared answers h.answered) in
      let front = true_front g.t names log (g.door.caller, g.q.0) p.first (p.a ∷ p.rest) told in
      let on = next p.first p.rest p.a p.is (declared_in g.t names log) (agrees g.t names log (g.door.caller, g.q.0) p.first front) in
      record {
        first = p.first;
        y = (p.a.class.0, p.a.name.0);
        others = on.0;
        looks = on.1;
        named = named_first g.t names log (g.door.caller, g.q.0) p.first p.rest p.a told ∙ ap Some (sym p.key);
        told = front;
      }

  -- a verdict rests on all that a comparison had
  pub narrow : (site : Option BodySite) (v : Verdict) → IsRuled g site compared answers v → IsCalling g.t g.door g.q.0 names asked log g.key g.own held answers
  narrow site v r = narrowed (λ k i.
      let l = looked_at site k r.next i in
      let all = (r.verdict (declared_in g.t names log) (agrees g.t names log (g.door.caller, g.q.0) answers (true_back g.t names log (g.door.caller, g.q.0) compared answers h.answered))).1 in
      among_keys g.t names log (g.door.caller, g.q.0) k answers (keys_of l.first) l.others l.y (sym all ∙ l.looks) (true_back g.t names log (g.door.caller, g.q.0) compared answers h.answered) l.named)

  -- so does a check that ended before a key without a name
  pub narrow_before : (site : Option BodySite) (r : Key) (others : List Key) → AreNext g site compared → looks_here g names log site ≡ keys_of answers ++ r ∷ others
      → place names (name_of g.t r) ≡ None → IsCalling g.t g.door g.q.0 names asked log g.key g.own held answers
  narrow_before site r others next all none = narrowed (λ k i.
      let l = looked_at site k next i in let told = true_back g.t names log (g.door.caller, g.q.0) compared answers h.answered in
      among_before g.t names log (g.door.caller, g.q.0) k answers l.first l.y r others l.others (sym all ∙ l.looks) told l.told l.named none)
