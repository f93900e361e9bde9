-- What the acts of a call have, where they were read.
use Rattle.std.proofs.Common.{◌≡◌, ◌≢◌, ℕ, Bool, true, false, List, [], ◌∷◌, ◌++◌, Option, Some, None, sym, refl, ap, ◌∙◌, nat_eq, ne_eqb}
use Rattle.std.specs.Prelude.{◌&&◌, if◌then◌else◌}
use Rattle.std.proofs.lemmas.Bool.{eqb-true}
use Rattle.hb_types.specs.declared.ids.KeyId.{KeyId}
use Rattle.hb_types.specs.declared.ids.CallNo.{CallNo}
use Rattle.hb_types.specs.declared.ids.BodySite.{BodySite}
use Rattle.hb_types.specs.declared.types.Ty.{Ty}
use Rattle.hb_types.proofs.Below.{same_ty_is}
use Rattle.hb_deriv.proofs.JudgementLemmas.{and_both}
use Rattle.hb_tree.specs.Table.{Table}
use Rattle.hb_tables.specs.declared.entry.ArgKinds.{ArgKinds}
use Rattle.hb_tables.specs.declared.entry.By.{By}
use Rattle.hb_tables.specs.declared.entry.Verdict.{Verdict}
use Rattle.hb_tables.specs.declared.entry.Verdict.TheVariants as verdict
use Rattle.hb_tables.specs.declared.entry.Act.{Act}
use Rattle.hb_tables.specs.declared.entry.Act.TheVariants.{Hold, Free, Retype, Busy, WornType, Define, WornDef, Call}
use Rattle.hb_tables.specs.Frames.{frees, StaysLive}
use Rattle.hb_tables.specs.Standing.{Stand, all_but}
use Rattle.hb_tables.specs.Rows.{kinds_of}
use Rattle.hb_call.specs.Reading.{Read, Called, FullAt, Lost, freed, refused_at, full_at, called, same_kinds, decision, call_of, takes_at}

-- A Call was read behind acts that give back nothing but keys of this call. Where it enters, nothing behind it was read.
pub record CallRead (q k : ℕ) (kinds : List Ty) (l : List Act) (site : Option BodySite) (v : Verdict) (rest : List Act) : Type 0 where
  pub front : List Act
  pub number : CallNo
  pub key : KeyId
  pub args : ArgKinds
  pub behind : List Act
  pub is : l ≡ front ++ Call key number site args v ∷ behind
  pub of_call : number.0 ≡ q
  pub of_key : key.0 ≡ k
  pub of_kinds : kinds_of args ≡ kinds
  pub quiet : (n : ℕ) → n ≢ q → StaysLive n front
  pub enters : (way : By) → v ≡ verdict.Enter way → behind ≡ rest

unfoldable pub HasRead : ℕ → ℕ → List Ty → List Act → Read → Type 0
HasRead q k kinds l Lost = Unit {0}
HasRead q k kinds l (Called site v held rest) = CallRead q k kinds l site v rest
HasRead q k kinds l (FullAt rest) = Unit {0}

read_behind : (q k : ℕ) (kinds : List Ty) (a : Act) (l : List Act) (r : Read) → ((n : ℕ) → n ≢ q → frees n a ≡ false) → HasRead q k kinds l r → HasRead q k kinds (a ∷ l) r
unfolding HasRead
read_behind q k kinds a l Lost f h = tt
read_behind q k kinds a l (Called site v held rest) f h = record {
  front = a ∷ h.front;
  number = h.number;
  key = h.key;
  args = h.args;
  behind = h.behind;
  is = ap (λ w. a ∷ w) h.is;
  of_call = h.of_call;
  of_key = h.of_key;
  of_kinds = h.of_kinds;
  quiet = λ n ne. (f n ne, h.quiet n ne);
  enters = h.enters;
}
read_behind q k kinds a l (FullAt rest) f h = tt

read_if : (q k : ℕ) (kinds : List Ty) (l : List Act) (b : Bool) (x y : Read) → (b ≡ true → HasRead q k kinds l x) → HasRead q k kinds l y → HasRead q k kinds l (if b then x else y)
read_if q k kinds l true x y h g = h refl
read_if q k kinds l false x y h g = g

pub kinds_same : (ts us : List Ty) → same_kinds ts us ≡ true → us ≡ ts
kinds_same [] [] h = refl
kinds_same [] (u ∷ us) h = absurd (cc)
kinds_same (t ∷ ts) [] h = absurd (cc)
kinds_same (t ∷ ts) (u ∷ us) h = let p = and_both _ _ h in ap (λ x. x ∷ us) (sym (same_ty_is t u p.0)) ∙ ap (λ w. t ∷ w) (kinds_same ts us p.1)

other_free : (q : ℕ) (p : CallNo) (j : KeyId) → nat_eq p.0 q ≡ true → (n : ℕ) → n ≢ q → frees n (Free j p) ≡ false
other_free q p j e n ne = ne_eqb n p.0 (λ is. ne (is ∙ eqb-true p.0 q e))

-- a Free of the call's own key ends what is read, with no call
full_reads : (q k : ℕ) (kinds : List Ty) (l : List Act) (o : Option (List Act)) → HasRead q k kinds l (full_at o)
unfolding HasRead
full_reads q k kinds l None = tt
full_reads q k kinds l (Some rest) = tt

-- what is read at a Call
call_reads : (q k : ℕ) (kinds : List Ty) (p : CallNo) (j : KeyId) (site : Option BodySite) (args : ArgKinds) (v : Verdict) (held : List Stand) (l : List Act) → p.0 ≡ q → j.0 ≡ k → kinds_of args ≡ kinds → HasRead q k kinds (Call j p site args v ∷ l) (called q site v held l)
unfolding HasRead
call_reads q k kinds p j site args v held l pq jk same = by v
  where
    here : (v : Verdict) (rest : List Act) → ((way : By) → v ≡ verdict.Enter way → l ≡ rest) → CallRead q k kinds (Call j p site args v ∷ l) site v rest
    here v rest f = record { front = []; number = p; key = j; args = args; behind = l; is = refl; of_call = pq; of_key = jk; of_kinds = same; quiet = λ n ne. tt; enters = f }

    refused : (v : Verdict) → ((way : By) → v ≡ verdict.Enter way → ⊥) → (o : Option (List Act)) → HasRead q k kinds (Call j p site args v ∷ l) (refused_at site v o)
    refused v f None = tt
    refused v f (Some rest) = here v rest (λ way e. absurd (f way e))

    by : (v : Verdict) → HasRead q k kinds (Call j p site args v ∷ l) (called q site v held l)
    by (verdict.Enter way) = here (verdict.Enter way) l (λ w e. refl)
    by verdict.NoBody = refused verdict.NoBody (λ way e. cc) (freed q held l)
    by verdict.NoType = refused verdict.NoType (λ way e. cc) (freed q held l)
    by verdict.BadArgs = refused verdict.BadArgs (λ way e. cc) (freed q held l)
    by (verdict.IllTyped f) = refused (verdict.IllTyped f) (λ way e. cc) (freed q held l)

decision_reads : (fits : Bool) (q k : ℕ) (kinds : List Ty) (held : List Stand) (l : List Act) → HasRead q k kinds l (decision fits q k kinds held l)
unfolding HasRead
decision_reads fits q k kinds held (Hold j p ty n ∷ l) = read_if q k kinds (Hold j p ty n ∷ l) (fits && nat_eq p.0 q) _ Lost (λ e. read_behind q k kinds (Hold j p ty n) l _ (λ m ne. refl) (decision_reads fits q k kinds (held ++ record { key = j.0; ty = ty; changes = n } ∷ []) l)) tt
decision_reads fits q k kinds held (Free j p ∷ l) = read_if q k kinds (Free j p ∷ l) (fits && nat_eq p.0 q) _ Lost
    (λ e. read_if q k kinds (Free j p ∷ l) (nat_eq j.0 k) _ _ (λ _. full_reads q k kinds (Free j p ∷ l) (freed q held (Free j p ∷ l))) (read_behind q k kinds (Free j p) l _ (other_free q p j (and_both _ _ e).1) (decision_reads fits q k kinds (all_but j.0 held) l))) tt
decision_reads fits q k kinds held (Call j p site args v ∷ l) = read_if q k kinds (Call j p site args v ∷ l) (nat_eq p.0 q && nat_eq j.0 k && same_kinds kinds (kinds_of args)) (called q site v held l) Lost
    (λ e. let a = and_both _ _ e in let b = and_both _ _ a.0 in call_reads q k kinds p j site args v held l (eqb-true p.0 q b.0) (eqb-true j.0 k b.1) (kinds_same kinds (kinds_of args) a.1)) tt
decision_reads _ _ _ _ _ _ = tt

pub call_of_reads : (t : Table) (q k : ℕ) (kinds : List Ty) (l : List Act) → HasRead q k kinds l (call_of t q k kinds l)
unfolding HasRead
call_of_reads t q k kinds (Hold j p ty n ∷ l) = read_if q k kinds (Hold j p ty n ∷ l) (nat_eq p.0 q && nat_eq j.0 k) _ Lost (λ e. read_behind q k kinds (Hold j p ty n) l _ (λ m ne. refl) (decision_reads (takes_at t ty kinds) q k kinds (record { key = j.0; ty = ty; changes = n } ∷ []) l)) tt
call_of_reads _ _ _ _ _ = tt

-- Frees of one call were read, which free no other
pub record FreesRead (q : ℕ) (l rest : List Act) : Type 0 where
  pub front : List Act
  pub is : l ≡ front ++ rest
  pub quiet : (n : ℕ) → n ≢ q → StaysLive n front

pub freed_reads : (q : ℕ) (held : List Stand) (l rest : List Act) → freed q held l ≡ Some rest → FreesRead q l rest
freed_reads q [] l rest e = record { front = []; is = cc; quiet = λ n ne. tt }
freed_reads q (h ∷ hs) (Free j p ∷ l) rest e = go (nat_eq p.0 q && nat_eq j.0 h.key) refl e (freed_reads q hs l rest)
  where
    go : (b : Bool) → (nat_eq p.0 q && nat_eq j.0 h.key) ≡ b → (if b then freed q hs l else None) ≡ Some rest → (freed q hs l ≡ Some rest → FreesRead q l rest) → FreesRead q (Free j p ∷ l) rest
    go true t e r = let s = r e in record { front = Free j p ∷ s.front; is = ap (λ w. Free j p ∷ w) s.is; quiet = λ n ne. (other_free q p j (and_both _ _ t).0 n ne, s.quiet n ne) }
    go false t e r = absurd (cc)
freed_reads q _ _ rest e = absurd (cc)
