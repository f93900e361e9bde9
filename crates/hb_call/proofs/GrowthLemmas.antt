-- What comes to a caller's front by one step of a call, and the names that are asked for meanwhile.
use Rattle.std.proofs.Common.{◌≡◌, inl, ℕ, zero, suc, Bool, true, false, cond, Option, List, [], ◌∷◌, ◌++◌, Some, refl, sym, ap, ◌∙◌, subst, append_assoc, eq-eqb, eqb, ne_eqb}
use Rattle.std.proofs.lemmas.List.{append-nil, append_cancel_left}
use Rattle.std.proofs.lemmas.Option.{none-some}
use Rattle.std.specs.Prelude.{slice_get}
use mathlib.Core.List.{IsPrefix}
use Rattle.hb_types.specs.declared.ids.CallNo.{CallNo}
use Rattle.hb_types.specs.declared.ids.KeyId.{KeyId}
use Rattle.hb_tree.specs.Table.{Table}
use Rattle.hb_names.specs.Names.{Name, place, with_name}
use Rattle.hb_names.proofs.NameLemmas.{place-at, place-longer, with_name-known, with_name-place}
use Rattle.hb_tables.specs.declared.entry.Entry.{Entry}
use Rattle.hb_tables.specs.declared.entry.Act.{Act}
use Rattle.hb_tables.specs.declared.entry.Act.TheVariants.{Hold, Free, Retype, Busy, WornType, Define, WornDef, Call}
use Rattle.hb_tables.specs.History.{entry, Adds, Learns}
use Rattle.hb_tables.specs.Frames.{acts}
use Rattle.hb_tables.specs.Standing.{Stand, all_but, standing, standing_from}
use Rattle.hb_tables.proofs.FrameLemmas.{acts_append}
use Rattle.hb_tables.proofs.FrontLemmas.{adds_act}
use Rattle.hb_tables.proofs.DeskLemmas.{adds_prefix, learns_acts, learns_prefix}
use Rattle.hb_tables.proofs.StandingLemmas.{standing_append}
use Rattle.hb_call.specs.Held.{HasCall, frees, stands}
use Rattle.hb_call.specs.Calling.{IsAskedFor}
use Rattle.hb_call.specs.Rules.{FitsRules, IsWhole, gives}
use Rattle.hb_types.specs.declared.ids.TypeSite.{TypeSite}
use Rattle.hb_call.specs.Growth.{EachNew, Grown, Grows, asked_by, asked_after, with_found, with_key}
use Rattle.hb_call.specs.GrowthLaws.{each_on, has_call_on, with_rules}

-- ── names ──

at_longer : (names more : List Name) (k : ℕ) (name : Name) → slice_get names k ≡ Some name → slice_get (names ++ more) k ≡ Some name
at_longer [] more k name e = absurd (none-some name e)
at_longer (n ∷ names) more zero name e = e
at_longer (n ∷ names) more (suc k) name e = at_longer names more k name e

pub asked_on : (names known asked more : List Name) (k : ℕ) → IsPrefix names known → IsPrefix asked more → IsAskedFor names asked k → IsAskedFor known more k
asked_on names known asked more k p q h = record {
  name = h.name;
  named = ap (λ ns. slice_get ns k) (sym p.1) ∙ at_longer names p.0 k h.name h.named;
  at = h.at;
  there = place-longer asked more h.name h.at q h.there;
}

-- the name of a key that was just asked for
pub asked_now : (known asked : List Name) (name : Name) (k : ℕ) → place known name ≡ Some k → IsAskedFor known (with_name asked name) k
asked_now known asked name k e = let p = with_name-place asked name in record { name = name; named = place-at known name k e; at = p.0; there = p.1 }

-- a name that was asked for before
pub asked_again : (known asked : List Name) (name : Name) (k : ℕ) → IsAskedFor known asked k → place known name ≡ Some k → with_name asked name ≡ asked
asked_again known asked name k h e =
    let there = place-at known name k e in let before = h.named in let same : h.name ≡ name = cc in
    with_name-known asked name h.at (ap (place asked) (sym same) ∙ h.there)

pub key_named : (known names asked : List Name) (name : Name) (k : ℕ) → place known name ≡ Some k → IsPrefix known names → with_key names asked k ≡ with_name asked name
key_named known names asked name k e longer = ap (with_found asked) (place-at names name k (place-longer known names name k longer e))

-- ── entries ──

own_act : (c : ℕ) (xs ys : List Entry) (e : Entry) → e.caller.0 ≡ c → acts c (xs ++ e ∷ ys) ≡ acts c xs ++ e.act ∷ acts c ys
own_act c xs ys e own =
    let t : eqb c e.caller.0 ≡ true = eq-eqb c e.caller.0 (sym own) in
    let a : acts c (e ∷ ys) ≡ e.act ∷ acts c ys = rw t refl in
    acts_append c xs (e ∷ ys) ∙ ap (λ w. acts c xs ++ w) a

-- the acts that came are these: what holds of each holds of each entry
pub each_made : (F : List Entry → Act → Type 0) (c : ℕ) (old new : List Entry) (made : List Act) → acts c new ≡ acts c old ++ made
    → ((xs ys : List Act) (a : Act) (before : List Entry) → made ≡ xs ++ a ∷ ys → IsPrefix old before → IsPrefix before new → acts c before ≡ acts c old ++ xs → F before a) → EachNew F c old new
each_made F c old new made grows all before after e is from own =
    let past : acts c before ≡ acts c old ++ acts c from.0 = ap (acts c) (sym from.1) ∙ acts_append c old from.0 in
    all (acts c from.0) (acts c after) e.act before
    (append_cancel_left (acts c old) made (acts c from.0 ++ e.act ∷ acts c after)
    (sym grows ∙ ap (acts c) is ∙ own_act c before after e own ∙ ap (λ w. w ++ e.act ∷ acts c after) past ∙ append_assoc (acts c old) (acts c from.0) (e.act ∷ acts c after)))
    from (e ∷ after, sym is) past

pub empty_not : {X : Type 0} (xs ys : List X) (x : X) → [] ≡ xs ++ x ∷ ys → ⊥
empty_not [] ys x e = cc e
empty_not (z ∷ xs) ys x e = cc e

pub each_learns : (F : List Entry → Act → Type 0) (c : ℕ) (old new : List Entry) → Learns c old new → EachNew F c old new
each_learns F c old new learns = each_made F c old new [] (learns_acts c old new learns ∙ sym (append-nil (acts c old))) (λ xs ys a before e from to past. absurd (empty_not xs ys a e))

one_only : (a x : Entry) (xs ys : List Entry) → a ∷ [] ≡ xs ++ x ∷ ys → (xs ≡ []) × (a ≡ x)
one_only a x [] ys e = (refl, cc e)
one_only a x (z ∷ xs) ys e = absurd (empty_not xs ys x (cc e))

pub each_adds : (F : List Entry → Act → Type 0) (c : ℕ) (old new : List Entry) (a : Act) (adds : Adds c old new a) → F (old ++ adds.0) a → EachNew F c old new
each_adds F c old new a adds fits =
    each_on F c old here new (entry c a ∷ [], sym adds.1) (each_learns F c old here (adds.0, refl, adds.2)) last
  where
    here : List Entry
    here = old ++ adds.0

    last : EachNew F c here new
    last before after e is from own =
        let only = one_only (entry c a) e from.0 after (append_cancel_left here (entry c a ∷ []) (from.0 ++ e ∷ after) (sym adds.1 ∙ is ∙ ap (λ w. w ++ e ∷ after) (sym from.1) ∙ append_assoc here from.0 (e ∷ after))) in
        let at : here ≡ before = sym (append-nil here) ∙ ap (λ w. here ++ w) (sym only.0) ∙ from.1 in
        subst (λ (l : List Entry). F l e.act) at (subst (λ (x : Entry). F here x.act) only.1 fits)

-- ── others ──

standing_frees : (p : ℕ) (q : CallNo) (hs : List Stand) (keys : List KeyId) → (p ≡ q.0 → ⊥) → standing_from p hs (frees q keys) ≡ hs
standing_frees p q hs [] other = refl
standing_frees p q hs (key ∷ keys) other = ap (λ b. standing_from p (cond b (all_but key.0 hs) hs) (frees q keys)) (ne_eqb p q.0 other) ∙ standing_frees p q hs keys other

pub others_frees : (c p : ℕ) (q : CallNo) (old new : List Entry) (keys : List KeyId) → acts c new ≡ acts c old ++ frees q keys → (p ≡ q.0 → ⊥) → stands c p new ≡ stands c p old
others_frees c p q old new keys is other = ap (standing p) is ∙ standing_append p [] (acts c old) (frees q keys) ∙ standing_frees p q (stands c p old) keys other

-- ── what a call gave back ──

gives_append : (q : ℕ) (going : Bool) (l m : List Act) → gives q going (l ++ m) ≡ gives q (gives q going l) m
gives_append q going [] m = refl
gives_append q going (Hold key p ty changes ∷ l) m = gives_append q (cond (eqb q p.0) false going) l m
gives_append q going (Free key p ∷ l) m = gives_append q (cond (eqb q p.0) true going) l m
gives_append q going (Retype key site ∷ l) m = gives_append q going l m
gives_append q going (Busy key pins ∷ l) m = gives_append q going l m
gives_append q going (WornType key ∷ l) m = gives_append q going l m
gives_append q going (Define key site ∷ l) m = gives_append q going l m
gives_append q going (WornDef key ∷ l) m = gives_append q going l m
gives_append q going (Call key p site args v ∷ l) m = gives_append q going l m

-- the last part of a call is a Hold
pub whole_hold : (c : ℕ) (q : CallNo) (key : KeyId) (ty : Option TypeSite) (n : ℕ) (old new : List Entry) → Adds c old new (Hold key q ty n) → IsWhole c q.0 new
whole_hold c q key ty n old new adds gave =
    let a = ap (gives q.0 false) (adds_act c old new (Hold key q ty n) adds) ∙ gives_append q.0 false (acts c old) (Hold key q ty n ∷ []) ∙ ap (λ b. cond b false (gives q.0 false (acts c old))) (eq-eqb q.0 q.0 refl) in absurd (cc)

pub whole_same : (c q : ℕ) (old new : List Entry) → acts c new ≡ acts c old → IsWhole c q old → IsWhole c q new
whole_same c q old new same h gave = let o = h (ap (gives q false) (sym same) ∙ gave) in (o.0, ap (standing q) same ∙ o.1)

-- ── steps ──

module _ (c : ℕ) (known was asked : List Name) (old new : List Entry) where
  abbrev pub grows_adds : (a : Act) (adds : Adds c old new a) → ((names : List Name) → IsPrefix known names → asked ≡ asked_by names was a) → Grows c known was asked old new
  grows_adds a adds named = record {
    made = a ∷ [];
    grows = adds_act c old new a adds;
    kept = adds_prefix c old new a adds;
    names = named;
  }

  abbrev pub grows_learns : Learns c old new → asked ≡ was → Grows c known was asked old new
  grows_learns learns same = record {
    made = [];
    grows = learns_acts c old new learns ∙ sym (append-nil (acts c old));
    kept = learns_prefix c old new learns;
    names = λ names p. same;
  }

pub frees_after : (names asked : List Name) (q : CallNo) (keys : List KeyId) → asked_after names asked (frees q keys) ≡ asked
frees_after names asked q [] = refl
frees_after names asked q (key ∷ keys) = frees_after names asked q keys

frees_in : (q : CallNo) (keys : List KeyId) (xs ys : List Act) (a : Act) → frees q keys ≡ xs ++ a ∷ ys → (key : KeyId) × (Free key q ≡ a)
frees_in q [] xs ys a e = absurd (empty_not xs ys a e)
frees_in q (key ∷ keys) [] ys a e = (key, cc e)
frees_in q (key ∷ keys) (x ∷ xs) ys a e = frees_in q keys xs ys a (cc e)

abbrev pub grows_frees : (c : ℕ) (known asked : List Name) (q : CallNo) (keys : List KeyId) (old new : List Entry) → IsPrefix old new → acts c new ≡ acts c old ++ frees q keys → Grows c known asked asked old new
grows_frees c known asked q keys old new kept is = record { made = frees q keys; grows = is; kept = kept; names = λ names p. sym (frees_after names asked q keys) }

pub each_frees : (F : List Entry → Act → Type 0) (c : ℕ) (q : CallNo) (keys : List KeyId) (old new : List Entry) → acts c new ≡ acts c old ++ frees q keys → ((before : List Entry) (key : KeyId) → IsPrefix old before → F before (Free key q)) → EachNew F c old new
each_frees F c q keys old new is fits = each_made F c old new (frees q keys) is (λ xs ys a before e from to past. let f = frees_in q keys xs ys a e in subst (F before) f.1 (fits before f.0 from))

-- what a call gives back behind its Call fits the rules
pub called_fits : (t : Table) (c : ℕ) (known : List Name) (q : CallNo) (keys : List KeyId) (old new : List Entry) → HasCall c q.0 old → acts c new ≡ acts c old ++ frees q keys → EachNew (FitsRules t known c) c old new
called_fits t c known q keys old new called is = each_frees (FitsRules t known c) c q keys old new is (λ before key from. record { row = tt; hold = tt; free = inl (has_call_on c q.0 old before called from); whole = tt; named = tt })

pub grown_frees : (t : Table) (c : ℕ) (known asked : List Name) (q : CallNo) (keys : List KeyId) (old new : List Entry) → HasCall c q.0 old → IsPrefix old new → acts c new ≡ acts c old ++ frees q keys → Grown t c known asked asked old new
grown_frees t c known asked q keys old new called kept is =
    with_rules t c known asked asked old new (grows_frees c known asked q keys old new kept is) (called_fits t c known q keys old new called is)
