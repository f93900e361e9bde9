-- The names that common acts ask for, by two lists.
use Rattle.std.proofs.Common.{◌≡◌, ◌⊎◌, inl, inr, ℕ, ◌≤◌, Bool, true, false, cond, eqb, map, List, [], ◌∷◌, ◌++◌, length, length-append}
use Rattle.std.proofs.Common.{Option, Some, None, refl, sym, ap, ◌∙◌, subst, arith}
use Rattle.std.specs.Prelude.{slice_get}
use Rattle.std.proofs.lemmas.List.{append-nil, map-append}
use Rattle.std.proofs.lemmas.Option.{none-some, same_Some}
use mathlib.Core.List.{IsPrefix}
use Rattle.hb_names.specs.declared.names.TheConstants.{NAMES_MAX}
use Rattle.hb_names.specs.Names.{IsFull, Name, place, with_name}
use Rattle.hb_names.proofs.NameLemmas.{place-at, place-last, place-longer, with_name-begins, with_name-known, with_name-new}
use Rattle.hb_tables.specs.declared.entry.Act.{Act}
use Rattle.hb_tables.specs.declared.entry.Act.TheVariants.{Hold, Free, Retype, Busy, WornType, Define, WornDef, Call}
use Rattle.hb_tables.specs.declared.entry.Entry.{Entry}
use Rattle.hb_tables.specs.Frames.{acts}
use Rattle.hb_turns.specs.Playing.{entries_by}
use Rattle.hb_call.specs.Growth.{asked_after, asked_by, with_found, with_key}
use Rattle.hb_call.specs.GrowthLaws.{asked_append, prefix_itself, prefix_more}
use Rattle.hb_ordered.specs.Parting.{AreFrees}
use Rattle.hb_ordered.specs.Sharing.{AreShared, HasKey, IsShared, Meet}

-- ── parts of lists ──

-- the acts of entries
abbrev pub doings : List Entry → List Act
doings log = map (λ e. e.act) log

pub doings_by : (c : ℕ) (l : List Act) → doings (entries_by c l) ≡ l
doings_by c [] = refl
doings_by c (a ∷ l) = ap (λ k. a ∷ k) (doings_by c l)

pub doings_join : (l m : List Entry) → doings (l ++ m) ≡ doings l ++ doings m
doings_join l m = map-append (λ (e : Entry). e.act) l m

pub acts_shared : (names others : List Name) (c : ℕ) (log : List Entry) → AreShared names others (doings log) → AreShared names others (acts c log)
acts_shared names others c [] h = tt
acts_shared names others c (e ∷ log) h = go (eqb c e.caller.0) (acts_shared names others c log h.1)
  where
    go : (b : Bool) → AreShared names others (acts c log) → AreShared names others (cond b (e.act ∷ acts c log) (acts c log))
    go true k = (h.0, k)
    go false k = k

pub shared_both : (names others : List Name) (l m : List Act) → AreShared names others l → AreShared names others m → AreShared names others (l ++ m)
shared_both names others [] m h k = k
shared_both names others (a ∷ l) m h k = (h.0, shared_both names others l m h.1 k)

pub shared_parts : (names others : List Name) (l m : List Act) → AreShared names others (l ++ m) → AreShared names others l × AreShared names others m
shared_parts names others [] m h = (tt, h)
shared_parts names others (a ∷ l) m h = (let r = shared_parts names others l m h.1 in ((h.0, r.0), r.1))

pub frees_part : (l m : List Act) → AreFrees (l ++ m) → AreFrees l
frees_part [] m h = tt
frees_part (Free key q ∷ l) m h = frees_part l m h
frees_part _ _ h = absurd h

-- where an act asks by this key, both lists have one name there
pub shared_at : (names others : List Name) (k : ℕ) (a : Act) → IsShared names others a → HasKey k a → slice_get names k ≡ slice_get others k
shared_at names others k (Free key p) h e = absurd e
shared_at names others k (Call key p site args v) h e = absurd e
shared_at names others _ _ h e = subst (λ j. slice_get names j ≡ slice_get others j) e h

-- ── the names that are asked for ──

-- common acts ask for the same names
asked_one : (names others asked : List Name) (a : Act) → IsShared names others a → asked_by names asked a ≡ asked_by others asked a
asked_one names others asked (Free key q) h = refl
asked_one names others asked (Call key q site args v) h = refl
asked_one _ _ asked _ h = ap (with_found asked) h

pub asked_same : (names others asked : List Name) (l : List Act) → AreShared names others l → asked_after names asked l ≡ asked_after others asked l
asked_same names others asked [] h = refl
asked_same names others asked (a ∷ l) h = asked_same names others (asked_by names asked a) l h.1 ∙ ap (λ w. asked_after others w l) (asked_one names others asked a h.0)

-- Frees ask for none
asked_frees : (names asked : List Name) (l : List Act) → AreFrees l → asked_after names asked l ≡ asked
asked_frees names asked [] h = refl
asked_frees names asked (Free key q ∷ l) h = asked_frees names asked l h
asked_frees _ _ _ h = absurd h

found_grows : (asked : List Name) (o : Option Name) → IsPrefix asked (with_found asked o)
found_grows asked None = prefix_itself asked
found_grows asked (Some name) = with_name-begins asked name

by_grows : (names asked : List Name) (a : Act) → IsPrefix asked (asked_by names asked a)
by_grows names asked (Hold key q ty n) = found_grows asked (slice_get names key.0)
by_grows names asked (Free key q) = prefix_itself asked
by_grows names asked (Retype key site) = found_grows asked (slice_get names key.0)
by_grows names asked (Busy key pins) = found_grows asked (slice_get names key.0)
by_grows names asked (WornType key) = found_grows asked (slice_get names key.0)
by_grows names asked (Define key site) = found_grows asked (slice_get names key.0)
by_grows names asked (WornDef key) = found_grows asked (slice_get names key.0)
by_grows names asked (Call key q site args v) = prefix_itself asked

asked_grows : (names asked : List Name) (l : List Act) → IsPrefix asked (asked_after names asked l)
asked_grows names asked [] = prefix_itself asked
asked_grows names asked (a ∷ l) = prefix_more asked (asked_by names asked a) (asked_after names (asked_by names asked a) l) (by_grows names asked a) (asked_grows names (asked_by names asked a) l)

-- what was asked for so far is the front of the list
asked_front : (names : List Name) (l m : List Act) → names ≡ asked_after names [] (l ++ m) → IsPrefix (asked_after names [] l) names
asked_front names l m e = subst (IsPrefix (asked_after names [] l)) (sym (e ∙ asked_append names [] l m)) (asked_grows names (asked_after names [] l) m)

-- ── one name has one key ──

key_asks : (names asked : List Name) (k : ℕ) (a : Act) → HasKey k a → asked_by names asked a ≡ with_key names asked k
key_asks names asked k (Free key q) e = absurd e
key_asks names asked k (Call key q site args v) e = absurd e
key_asks names asked _ _ e = ap (with_key names asked) e

-- the name's key is known, or it is the next
next_key : (names : List Name) (l m : List Act) (a : Act) (p : Name) (k : ℕ) → names ≡ asked_after names [] (l ++ a ∷ m) → HasKey k a → place names p ≡ Some k
    → (place (asked_after names [] l) p ≡ Some k) ⊎ (k ≡ length (asked_after names [] l))
next_key names l m a p k e has is = go (place (asked_after names [] l) p) refl
  where
    begins : IsPrefix (with_name (asked_after names [] l) p) names
    begins =
        let named : asked_by names (asked_after names [] l) a ≡ with_name (asked_after names [] l) p = key_asks names (asked_after names [] l) k a has ∙ ap (with_found (asked_after names [] l))
        (place-at names p k is) in
        subst (λ w. IsPrefix w names) named (subst (IsPrefix (asked_by names (asked_after names [] l) a)) (sym (e ∙ asked_append names [] l (a ∷ m)))
        (asked_grows names (asked_by names (asked_after names [] l) a) m))

    go : (o : Option ℕ) → place (asked_after names [] l) p ≡ o → (place (asked_after names [] l) p ≡ Some k) ⊎ (k ≡ length (asked_after names [] l))
    go (Some i) f =
        let there : place names p ≡ Some i = place-longer (asked_after names [] l) names p i (subst (λ w. IsPrefix w names) (with_name-known (asked_after names [] l) p i f) begins) f in
        inl (f ∙ sym there ∙ is)
    go None f =
        let last : place names p ≡ Some (length (asked_after names [] l)) = place-longer (asked_after names [] l ++ p ∷ []) names p (length (asked_after names [] l))
        (subst (λ w. IsPrefix w names) (with_name-new (asked_after names [] l) p f) begins) (place-last (asked_after names [] l) p f) in
        inr (same_Some k (length (asked_after names [] l)) (sym is ∙ last))

pub meets_at : (names others : List Name) (l m m' : List Act) (a b : Act) → AreShared names others l → names ≡ asked_after names [] (l ++ a ∷ m) → others ≡ asked_after others [] (l ++ b ∷ m')
    → Meet names others a b
meets_at names others l m m' a b shared e f p k j x y ha hb =
    let same : asked_after names [] l ≡ asked_after others [] l = asked_same names others [] l shared in
    elim (next_key names l m a p k e ha x) [
      | inl known ↦ same_Some k j (sym (place-longer (asked_after others [] l) others p k (asked_front others l (b ∷ m') f) (ap (λ w. place w p) (sym same) ∙ known)) ∙ y)
      | inr new ↦ elim (next_key others l m' b p j f hb y) [
        | inl known ↦ same_Some k j (sym x ∙ place-longer (asked_after names [] l) names p j (asked_front names l (a ∷ m) e) (ap (λ w. place w p) same ∙ known))
        | inr other ↦ new ∙ ap length same ∙ sym other
      ]
    ]

-- ── no name is wanted ──

-- a full list that begins another one is that one
pub full_is : (names others : List Name) → IsPrefix names others → length names ≡ NAMES_MAX → length others ≤ NAMES_MAX → names ≡ others
full_is names others p full few =
    let n = ap length p.1 in let a = length-append names p.0 in
    sym (append-nil names) ∙ ap (λ w. names ++ w) (sym (nothing p.0 (omega (arith, n, a, few, full)))) ∙ p.1
  where
    nothing : (l : List Name) → length l ≡ 0 → l ≡ []
    nothing [] e = refl
    nothing (x ∷ l) e = absurd (omega (arith, e))

pub prefix_never : (names others : List Name) → IsPrefix names others → length others ≤ NAMES_MAX → (p : Name) (k : ℕ) → IsFull names p → place others p ≡ Some k → ⊥
prefix_never names others begins few p k full has = none-some k (sym full.1 ∙ ap (λ w. place w p) (full_is names others begins full.0 few) ∙ has)

-- where all names of one list are asked for by common acts and Frees, it begins the other one
pub asked_begins : (names others : List Name) (l fs m : List Act) → AreShared names others l → AreFrees fs → names ≡ asked_after names [] (l ++ fs) → others ≡ asked_after others [] (l ++ m)
    → IsPrefix names others
asked_begins names others l fs m shared frees e f =
    let all : asked_after others [] l ≡ names = sym (asked_same names others [] l shared) ∙ sym (asked_frees names (asked_after names [] l) fs frees) ∙ sym (asked_append names [] l fs) ∙ sym e in
    subst (λ w. IsPrefix w others) all (asked_front others l m f)
