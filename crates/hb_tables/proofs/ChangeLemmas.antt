-- The state of a key is what its changes left.
use Rattle.std.proofs.Common.{◌≡◌, ℕ, ◌+◌, eqb, true, false, cond, List, [], ◌∷◌, ◌++◌, length, length-append, Option, Some, refl, ap, ◌∙◌, sym, arith}
use Rattle.std.specs.List.{last_or}
use Rattle.hb_types.specs.declared.{ids.TypeSite.TypeSite, ids.BodySite.BodySite}
use Rattle.hb_tables.specs.declared.{entry.Entry.Entry, entry.Act.Act, entry.Act.TheVariants.Hold, entry.Act.TheVariants.Free, entry.Act.TheVariants.Retype}
use Rattle.hb_tables.specs.declared.{entry.Act.TheVariants.Busy, entry.Act.TheVariants.WornType, entry.Act.TheVariants.Define, entry.Act.TheVariants.WornDef}
use Rattle.hb_tables.specs.declared.{entry.Act.TheVariants.Call}
use Rattle.hb_tables.specs.History.{Spot, blank, key_of, done, turn, spot_from, spot}
use Rattle.hb_tables.specs.Changes.{type_given, body_given, types_given, bodies_given}

last_append : {A : Type 0} (o : Option A) (xs ys : List A) → last_or o (xs ++ ys) ≡ last_or (last_or o xs) ys
last_append o [] ys = refl
last_append o (x ∷ xs) ys = last_append (Some x) xs ys

-- one state has the type that was given last, and one more change for each that was given
abbrev pub Typed : List TypeSite → Spot → Spot → Type 0
Typed given s z = (z.ty ≡ last_or s.ty given) × (z.changes ≡ s.changes + length given)

abbrev pub Defined : List BodySite → Spot → Spot → Type 0
Defined given s z = (z.body ≡ last_or s.body given) × (z.redefs ≡ s.redefs + length given)

done_typed : (k c : ℕ) (s : Spot) (a : Act) → Typed (type_given k a) s (cond (eqb k (key_of a)) (done c s a) s)
done_typed k c s (Retype key site) = elim (eqb k key.0) as (λ b. Typed (cond b (site ∷ []) []) s (cond b (done c s (Retype key site)) s)) [ true ↦ (refl, omega arith) | false ↦ (refl, omega arith) ]
done_typed k c s (Hold key q ty changes) = elim (eqb k key.0) as (λ b. Typed [] s (cond b (done c s (Hold key q ty changes)) s)) [ true ↦ (refl, omega arith) | false ↦ (refl, omega arith) ]
done_typed k c s (Free key q) = elim (eqb k key.0) as (λ b. Typed [] s (cond b (done c s (Free key q)) s)) [ true ↦ (refl, omega arith) | false ↦ (refl, omega arith) ]
done_typed k c s (Busy key pins) = elim (eqb k key.0) as (λ b. Typed [] s (cond b s s)) [ true ↦ (refl, omega arith) | false ↦ (refl, omega arith) ]
done_typed k c s (WornType key) = elim (eqb k key.0) as (λ b. Typed [] s (cond b s s)) [ true ↦ (refl, omega arith) | false ↦ (refl, omega arith) ]
done_typed k c s (Define key site) = elim (eqb k key.0) as (λ b. Typed [] s (cond b (done c s (Define key site)) s)) [ true ↦ (refl, omega arith) | false ↦ (refl, omega arith) ]
done_typed k c s (WornDef key) = elim (eqb k key.0) as (λ b. Typed [] s (cond b s s)) [ true ↦ (refl, omega arith) | false ↦ (refl, omega arith) ]
done_typed k c s (Call key q site args verdict) = elim (eqb k key.0) as (λ b. Typed [] s (cond b s s)) [ true ↦ (refl, omega arith) | false ↦ (refl, omega arith) ]

done_defined : (k c : ℕ) (s : Spot) (a : Act) → Defined (body_given k a) s (cond (eqb k (key_of a)) (done c s a) s)
done_defined k c s (Define key site) = elim (eqb k key.0) as (λ b. Defined (cond b (site ∷ []) []) s (cond b (done c s (Define key site)) s)) [ true ↦ (refl, omega arith) | false ↦ (refl, omega arith) ]
done_defined k c s (Hold key q ty changes) = elim (eqb k key.0) as (λ b. Defined [] s (cond b (done c s (Hold key q ty changes)) s)) [ true ↦ (refl, omega arith) | false ↦ (refl, omega arith) ]
done_defined k c s (Free key q) = elim (eqb k key.0) as (λ b. Defined [] s (cond b (done c s (Free key q)) s)) [ true ↦ (refl, omega arith) | false ↦ (refl, omega arith) ]
done_defined k c s (Retype key site) = elim (eqb k key.0) as (λ b. Defined [] s (cond b (done c s (Retype key site)) s)) [ true ↦ (refl, omega arith) | false ↦ (refl, omega arith) ]
done_defined k c s (Busy key pins) = elim (eqb k key.0) as (λ b. Defined [] s (cond b s s)) [ true ↦ (refl, omega arith) | false ↦ (refl, omega arith) ]
done_defined k c s (WornType key) = elim (eqb k key.0) as (λ b. Defined [] s (cond b s s)) [ true ↦ (refl, omega arith) | false ↦ (refl, omega arith) ]
done_defined k c s (WornDef key) = elim (eqb k key.0) as (λ b. Defined [] s (cond b s s)) [ true ↦ (refl, omega arith) | false ↦ (refl, omega arith) ]
done_defined k c s (Call key q site args verdict) = elim (eqb k key.0) as (λ b. Defined [] s (cond b s s)) [ true ↦ (refl, omega arith) | false ↦ (refl, omega arith) ]

typed_from : (k : ℕ) (s : Spot) (xs : List Entry) → Typed (types_given k xs) s (spot_from k s xs)
typed_from k s [] = (refl, omega arith)
typed_from k s (x ∷ xs) =
    let one = done_typed k x.caller.0 s x.act in let more = typed_from k (turn k s x) xs in
    let n = length-append (type_given k x.act) (types_given k xs) in let a = one.1 in let b = more.1 in
    (more.0 ∙ ap (λ o. last_or o (types_given k xs)) one.0 ∙ sym (last_append s.ty (type_given k x.act) (types_given k xs)), omega (arith, n, a, b))

defined_from : (k : ℕ) (s : Spot) (xs : List Entry) → Defined (bodies_given k xs) s (spot_from k s xs)
defined_from k s [] = (refl, omega arith)
defined_from k s (x ∷ xs) =
    let one = done_defined k x.caller.0 s x.act in let more = defined_from k (turn k s x) xs in
    let n = length-append (body_given k x.act) (bodies_given k xs) in let a = one.1 in let b = more.1 in
    (more.0 ∙ ap (λ o. last_or o (bodies_given k xs)) one.0 ∙ sym (last_append s.body (body_given k x.act) (bodies_given k xs)), omega (arith, n, a, b))

-- a key's type is the last that it was given, and its changes are as many as were given
pub types_of_spot : (k : ℕ) (log : List Entry) → Typed (types_given k log) blank (spot k log)
types_of_spot k log = typed_from k blank log

pub bodies_of_spot : (k : ℕ) (log : List Entry) → Defined (bodies_given k log) blank (spot k log)
bodies_of_spot k log = defined_from k blank log
