-- From the fronts of callers to the whole list.
use Rattle.std.proofs.Common.{◌≡◌, ◌⊎◌, inl, inr, ℕ, eqb, Bool, true, false, cond, List, [], ◌∷◌, ◌++◌, sym, refl, ap, ◌∙◌, eq-eqb}
use Rattle.std.proofs.lemmas.List.{append-nil}
use Rattle.hb_tables.specs.{Frames.acts, Fronts.HasFront}
use Rattle.hb_tables.specs.declared.{entry.Entry.Entry, entry.Act.Act}
use Rattle.hb_tables.specs.History.{entry, journal, Every, Adds}
use Rattle.hb_tables.proofs.FrameLemmas.{acts_append}

-- an element of two lists joined stands in the first, or in the second
in_two : (xs ys before after : List Entry) (e : Entry) → xs ++ ys ≡ before ++ e ∷ after → ((back : List Entry) × (xs ≡ before ++ e ∷ back)) ⊎ ((front : List Entry) × (ys ≡ front ++ e ∷ after))
in_two [] ys before after e h = inr (before, h)
in_two (x ∷ xs) ys [] after e h = inl (xs, ap (λ y. y ∷ xs) (cc h))
in_two (x ∷ xs) ys (b ∷ bs) after e h = go (in_two xs ys bs after e (cc h))
  where
    head : x ≡ b
    head = cc h

    go : ((back : List Entry) × (xs ≡ bs ++ e ∷ back)) ⊎ ((front : List Entry) × (ys ≡ front ++ e ∷ after)) → ((back : List Entry) × (x ∷ xs ≡ b ∷ bs ++ e ∷ back)) ⊎ ((front : List Entry) × (ys ≡ front ++ e ∷ after))
    go (inl p) = inl (p.0, ap (λ y. y ∷ xs) head ∙ ap (λ w. b ∷ w) p.1)
    go (inr p) = inr p

none_more : (xs ys : List Act) → xs ++ ys ≡ xs → ys ≡ []
none_more [] ys h = h
none_more (x ∷ xs) ys h = none_more xs ys (cc h)

own_here : (c : ℕ) (xs ys : List Entry) (e : Entry) → e.caller.0 ≡ c → acts c (xs ++ e ∷ ys) ≡ [] → ⊥
own_here c xs ys e is h =
    let t : eqb c e.caller.0 ≡ true = eq-eqb c e.caller.0 (sym is) in
    let a : acts c (e ∷ ys) ≡ e.act ∷ acts c ys = rw t refl in
    let all : acts c xs ++ (e.act ∷ acts c ys) ≡ [] = sym (acts_append c xs (e ∷ ys) ∙ ap (λ w. acts c xs ++ w) a) ∙ h in
    go (acts c xs) all
  where
    go : (l : List Act) → l ++ (e.act ∷ acts c ys) ≡ [] → ⊥
    go [] k = cc k
    go (y ∷ l) k = cc k

-- what holds of each caller's own entries in its front holds of all entries
pub every_of_fronts : (F : List Entry → Entry → Type 0) (log : List Entry) → ((c : ℕ) → HasFront F log c) → Every F log
every_of_fronts F log fronts before after e is = go (in_two f.front f.begins.0 before after e (f.begins.1 ∙ is))
  where
    f : HasFront F log e.caller.0
    f = fronts e.caller.0

    rest : acts e.caller.0 f.begins.0 ≡ []
    rest = none_more (acts e.caller.0 f.front) (acts e.caller.0 f.begins.0) (sym (acts_append e.caller.0 f.front f.begins.0) ∙ ap (acts e.caller.0) f.begins.1 ∙ f.whole)

    go : ((back : List Entry) × (f.front ≡ before ++ e ∷ back)) ⊎ ((fr : List Entry) × (f.begins.0 ≡ fr ++ e ∷ after)) → F before e
    go (inl p) = f.own before p.0 e p.1 refl
    go (inr p) = absurd (own_here e.caller.0 p.0 after e refl (sym (ap (acts e.caller.0) p.1) ∙ rest))

-- a caller with no entries has no acts
pub acts_none : (c : ℕ) (xs : List Entry) → journal c xs ≡ [] → acts c xs ≡ []
acts_none c [] h = refl
acts_none c (x ∷ xs) h = go (eqb c x.caller.0) h (acts_none c xs)
  where
    go : (b : Bool) → cond b (x ∷ journal c xs) (journal c xs) ≡ [] → (journal c xs ≡ [] → acts c xs ≡ []) → cond b (x.act ∷ acts c xs) (acts c xs) ≡ []
    go true h r = absurd (cc h)
    go false h r = r h

-- a call of a desk adds its act
pub adds_act : (c : ℕ) (old new : List Entry) (a : Act) → Adds c old new a → acts c new ≡ acts c old ++ a ∷ []
adds_act c old new a adds =
    let e = eq-eqb c c refl in let one : acts c (entry c a ∷ []) ≡ a ∷ [] = rw e refl in
    ap (acts c) adds.1 ∙ acts_append c (old ++ adds.0) (entry c a ∷ []) ∙ ap (λ w. acts c (old ++ adds.0) ++ w) one
    ∙ ap (λ w. w ++ a ∷ []) (acts_append c old adds.0 ∙ ap (λ w. acts c old ++ w) (acts_none c adds.0 adds.2) ∙ append-nil (acts c old))
