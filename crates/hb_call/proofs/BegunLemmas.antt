-- What a call reads goes on with each act.
use Rattle.std.proofs.Common.{◌≡◌, ℕ, Bool, true, false, cond, eqb, List, [], ◌∷◌, ◌++◌, sym, refl, ap, ◌∙◌, subst, eq-eqb, append_assoc, nat_eq}
use Rattle.std.proofs.lemmas.List.{append-nil}
use Rattle.std.specs.Prelude.{Option, ◌&&◌}
use Rattle.std.proofs.lemmas.Bool.{eqb-true}
use Rattle.hb_types.specs.declared.ids.KeyId.{KeyId}
use Rattle.hb_types.specs.declared.ids.CallNo.{CallNo}
use Rattle.hb_types.specs.declared.ids.TypeSite.{TypeSite}
use Rattle.hb_types.specs.declared.ids.BodySite.{BodySite}
use Rattle.hb_types.specs.declared.types.Ty.{Ty}
use Rattle.hb_types.specs.declared.types.Ty.TheVariants as ty
use Rattle.hb_types.specs.Types.{same_ty}
use Rattle.hb_tables.specs.declared.entry.Verdict.{Verdict}
use Rattle.hb_tables.specs.declared.entry.Entry.{Entry}
use Rattle.hb_tables.specs.declared.entry.Act.{Act}
use Rattle.hb_tables.specs.declared.entry.Act.TheVariants.{Hold, Call}
use Rattle.hb_tables.specs.Answers.{Fixed}
use Rattle.hb_tables.specs.History.{Adds, Learns}
use Rattle.hb_tables.specs.Rows.{kinds_of}
use Rattle.hb_tables.specs.Frames.{acts, KeepsHold}
use Rattle.hb_tables.specs.Standing.{Stand, all_but, standing, standing_from}
use Rattle.hb_tables.proofs.DeskLemmas.{learns_acts, adds_apart}
use Rattle.hb_tables.proofs.FrontLemmas.{adds_act}
use Rattle.hb_tables.proofs.StandingLemmas.{standing_append}
use Rattle.hb_call.specs.Reading.{Lost, decision, call_of, called, same_kinds}
use Rattle.hb_call.specs.Held.{frees, stands}
use Rattle.hb_call.specs.Calling.{Begun, Given, fits_of}
use Rattle.hb_call.proofs.CallingLemmas.{hold_stands}

-- acts that take a decision from these Holds to those go on
begun_more : (g : Given) (start old new : List Entry) (more : List Act) → acts g.door.caller new ≡ acts g.door.caller old ++ more
    → ((l : List Act) → decision (fits_of g) g.q.0 g.key.0 (kinds_of g.args) (stands g.door.caller g.q.0 old) (more ++ l) ≡ decision (fits_of g) g.q.0 g.key.0 (kinds_of g.args) (stands g.door.caller g.q.0 new) l) → Begun g start old → Begun g start new
begun_more g start old new more is one b = record {
  made = b.made ++ more;
  grows = is ∙ ap (λ w. w ++ more) b.grows ∙ append_assoc (acts g.door.caller start) b.made more;
  reads = λ l. ap (call_of g.t g.q.0 g.key.0 (kinds_of g.args)) (append_assoc b.made more l) ∙ b.reads (more ++ l) ∙ one l;
}

pub begun_hold : (g : Given) (j : KeyId) (ty : Option TypeSite) (n : ℕ) (start old new : List Entry) → Adds g.door.caller old new (Hold j g.q ty n) → fits_of g ≡ true → Begun g start old → Begun g start new
begun_hold g j ty n start old new adds fits b =
    let c = g.door.caller in let q = g.q in let kinds = kinds_of g.args in let hs = stands c q.0 old ++ record { key = j.0; ty = ty; changes = n } ∷ [] in
    begun_more g start old new (Hold j q ty n ∷ []) (adds_act c old new (Hold j q ty n) adds)
    (λ l. ap (λ (b : Bool). cond (b && eqb q.0 q.0) (decision (fits_of g) q.0 g.key.0 kinds hs l) Lost) fits ∙ ap (λ (b : Bool). cond b (decision (fits_of g) q.0 g.key.0 kinds hs l) Lost) (eq-eqb q.0 q.0 refl)
    ∙ ap (λ hs. decision (fits_of g) q.0 g.key.0 kinds hs l) (sym (hold_stands c q j ty n old new adds))) b

-- while the caller does nothing
pub begun_same : (g : Given) (start old new : List Entry) → acts g.door.caller new ≡ acts g.door.caller old → Begun g start old → Begun g start new
begun_same g start old new same b =
    begun_more g start old new [] (same ∙ sym (append-nil (acts g.door.caller old))) (λ l. ap (λ hs. decision (fits_of g) g.q.0 g.key.0 (kinds_of g.args) hs l) (ap (standing g.q.0) (sym same))) b

pub begun_learns : (g : Given) (start old new : List Entry) → Learns g.door.caller old new → Begun g start old → Begun g start new
begun_learns g start old new learns b = begun_same g start old new (learns_acts g.door.caller old new learns) b

-- these keys are others than this one
abbrev pub AreOthers : ℕ → List KeyId → Type 0
AreOthers k [] = Unit {0}
AreOthers k (key ∷ keys) = (nat_eq key.0 k ≡ false) × AreOthers k keys

pub keeps_others : (q : CallNo) (k : ℕ) (others : List KeyId) → AreOthers k others → KeepsHold q.0 k (frees q others)
keeps_others q k [] h = tt
keeps_others q k (key ∷ others) h = (by (eqb k key.0) refl, keeps_others q k others h.1)
  where
    by : (x : Bool) → eqb k key.0 ≡ x → (eqb q.0 q.0 && eqb k key.0) ≡ false
    by true x = absurd (let u = eq-eqb key.0 k (sym (eqb-true k key.0 x)) in let v = h.0 in cc)
    by false x = let e = eq-eqb q.0 q.0 refl in rw (e, x) refl

frees_read : (q : CallNo) (key : KeyId) (kinds : List Ty) (others : List KeyId) (hs : List Stand) (l : List Act) → AreOthers key.0 others → decision true q.0 key.0 kinds hs (frees q others ++ l) ≡ decision true q.0 key.0 kinds (standing_from q.0 hs (frees q others)) l
frees_read q key kinds [] hs l h = refl
frees_read q key kinds (j ∷ others) hs l h =
    let e = eq-eqb q.0 q.0 refl in let ne = h.0 in
    let first : decision true q.0 key.0 kinds hs (frees q (j ∷ others) ++ l) ≡ decision true q.0 key.0 kinds (standing_from q.0 (all_but j.0 hs) (frees q others)) l = rw (e, ne) (frees_read q key kinds others (all_but j.0 hs) l h.1) in
    first ∙ ap (λ (b : Bool). decision true q.0 key.0 kinds (standing_from q.0 (cond b (all_but j.0 hs) hs) (frees q others)) l) (sym e)

pub begun_frees : (g : Given) (others : List KeyId) (start old new : List Entry) → acts g.door.caller new ≡ acts g.door.caller old ++ frees g.q others → AreOthers g.key.0 others → fits_of g ≡ true → Begun g start old → Begun g start new
begun_frees g others start old new is h fits b =
    let c = g.door.caller in let q = g.q in let kinds = kinds_of g.args in
    begun_more g start old new (frees q others) is
    (λ l. ap (λ (f : Bool). decision f q.0 g.key.0 kinds (stands c q.0 old) (frees q others ++ l)) fits ∙ frees_read q g.key kinds others (stands c q.0 old) l h
    ∙ ap (λ hs. decision true q.0 g.key.0 kinds hs l) (sym (ap (standing q.0) is ∙ standing_append q.0 [] (acts c old) (frees q others)))
    ∙ ap (λ (f : Bool). decision f q.0 g.key.0 kinds (stands c q.0 new) l) (sym fits)) b

-- the first Hold begins it
pub begun_first : (g : Given) (old new : List Entry) → Adds g.door.caller old new (Hold g.key g.q g.own.ty g.own.changes) → stands g.door.caller g.q.0 old ≡ [] → Begun g old new
begun_first g old new adds none =
    let c = g.door.caller in let q = g.q in let key = g.key in let kinds = kinds_of g.args in let first : Stand = record { key = key.0; ty = g.own.ty; changes = g.own.changes } in
    record {
      made = Hold key q g.own.ty g.own.changes ∷ [];
      grows = adds_act c old new (Hold key q g.own.ty g.own.changes) adds;
      reads = λ l. ap (λ (b : Bool). cond (b && eqb key.0 key.0) (decision (fits_of g) q.0 key.0 kinds (first ∷ []) l) Lost) (eq-eqb q.0 q.0 refl)
          ∙ ap (λ (b : Bool). cond b (decision (fits_of g) q.0 key.0 kinds (first ∷ []) l) Lost) (eq-eqb key.0 key.0 refl)
          ∙ ap (λ hs. decision (fits_of g) q.0 key.0 kinds hs l) (sym (hold_stands c q key g.own.ty g.own.changes old new adds ∙ ap (λ hs. hs ++ first ∷ []) none));
    }

-- what others do then leaves it so
pub begun_started : (g : Given) (door : Fixed) → g.door ≡ door → (old mid new : List Entry) → Adds door.caller old mid (Hold g.key g.q g.own.ty g.own.changes) → stands door.caller g.q.0 old ≡ [] → Learns door.caller mid new → Begun g old new
begun_started g door same old mid new adds none learns =
    begun_learns g old mid new (subst (λ (d : Fixed). Learns d.caller mid new) (sym same) learns)
    (begun_first g old mid (subst (λ (d : Fixed). Adds d.caller old mid (Hold g.key g.q g.own.ty g.own.changes)) (sym same) adds) (subst (λ (d : Fixed). stands d.caller g.q.0 old ≡ []) (sym same) none))

same_itself : (t : Ty) → same_ty t t ≡ true
same_itself (ty.Class c) = eq-eqb c.0 c.0 refl
same_itself _ = refl

kinds_itself : (ts : List Ty) → same_kinds ts ts ≡ true
kinds_itself [] = refl
kinds_itself (t ∷ ts) = rw (same_itself t) (kinds_itself ts)

-- the Call ends it
pub call_ends : (g : Given) (site : Option BodySite) (v : Verdict) (start old new : List Entry) → Adds g.door.caller old new (Call g.key g.q site g.args v) → Begun g start old
    → (made : List Act) × (acts g.door.caller new ≡ acts g.door.caller start ++ made) × ((l : List Act) → call_of g.t g.q.0 g.key.0 (kinds_of g.args) (made ++ l) ≡ called g.q.0 site v (stands g.door.caller g.q.0 new) l)
call_ends g site v start old new adds b =
    let c = g.door.caller in let q = g.q in let key = g.key in let kinds = kinds_of g.args in
    let a : Act = Call key q site g.args v in
    let same = adds_apart c q.0 old new a adds refl in (
      b.made ++ a ∷ [],
      adds_act c old new a adds ∙ ap (λ w. w ++ a ∷ []) b.grows ∙ append_assoc (acts c start) b.made (a ∷ []),
      λ l. let e = eq-eqb q.0 q.0 refl in let k = eq-eqb key.0 key.0 refl in let s = kinds_itself kinds in
          let one : decision (fits_of g) q.0 key.0 kinds (stands c q.0 old) (a ∷ l) ≡ called q.0 site v (stands c q.0 old) l = rw (e, k, s) refl in
          ap (call_of g.t q.0 key.0 kinds) (append_assoc b.made (a ∷ []) l) ∙ b.reads (a ∷ l) ∙ one ∙ ap (λ hs. called q.0 site v hs l) (sym same),
    )
