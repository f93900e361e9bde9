-- A declaration's types are taken off, and make the type of a method.
use Rattle.std.proofs.Common.{◌≡◌, ℕ, zero, suc, ◌-◌, ◌≤◌, List, [], ◌∷◌, ◌++◌, refl, sym, ◌∙◌, ap, subst, length, take, drop, reverse, arith}
use Rattle.std.specs.List.{AllByRecursion, All}
use Rattle.std.proofs.{lemmas.List.length-reverse, lemmas.List.length_push, lemmas.List.Elements.All-nil, lemmas.List.Elements.All-cons}
use Rattle.hb_types.specs.declared.{types.Ty.Ty, types.MethodTy.MethodTy, types.TheConstants.PARAMS_MAX, ids.ClassId.ClassId, ids.NameId.NameId}
use Rattle.hb_types.specs.declared.types.Ty.TheVariants as ty
use Rattle.hb_draft.specs.Unfinished.{in_hand}
use Rattle.hb_build.proofs.{PushLemmas.KeepsRest, PiledLemmas.types-piled, PiledLemmas.below-types-piled, ParameterLemmas.few-types-on, TruncateLemmas.reverse-take}
use Rattle.hb_build.specs.declared.{builder.Builder.Builder, held.Held.Held, held.Spot.Spot}
use Rattle.hb_build.specs.declared.held.Held.TheVariants as held
use Rattle.hb_build.specs.Pile.{Slot, Operand, OfType, ParameterType, piled, types_on, below_types}
use Rattle.hb_build.specs.Acts.{Work, Lost, filled, method_ty, declare, with_type, with_declaring, complete, typing}
use Rattle.std.proofs.Common.{Bool, true, false, ap₂}
use Rattle.hb_build.proofs.TakeLemmas.{top-method, Plainly, Computedly, top-declaring}
use Rattle.hb_build.specs.Sound.{IsSound, IsGood, IsTy, things_of, pile_of, trees_in, parameter_types_of, is_named}
use Rattle.hb_build.proofs.{ParamsLemmas.types-few, ParamsLemmas.types-known, ParamsLemmas.below-types-good, RelaidLemmas.IsSameCount, RelaidLemmas.good-was}
use Rattle.hb_build.proofs.{RelaidLemmas.sound-becomes}
use Rattle.hb_tree.specs.{Table.Table, Program.IsMethodTyIn, Program.IsTyIn, Tree.TDeclare, Tree.TDeclareComputed}

-- ── the type ──

length-filled : (n : ℕ) (types : List Ty) → length (filled n types) ≡ n
length-filled zero types = refl
length-filled (suc n) [] = ap suc (length-filled n [])
length-filled (suc n) (y ∷ types) = ap suc (length-filled n types)

take-filled : (n : ℕ) (types : List Ty) → length types ≤ n → take (length types) (filled n types) ≡ types
take-filled n [] few = refl
take-filled zero (y ∷ types) few = absurd (omega arith)
take-filled (suc n) (y ∷ types) few = ap (λ (ys : List Ty). y ∷ ys) (take-filled n types (omega arith))

nils : (n : ℕ) → AllByRecursion (λ t. t ≡ ty.Nil) (filled n [])
nils zero = tt
nils (suc n) = (refl, nils n)

drop-filled : (n : ℕ) (types : List Ty) → length types ≤ n → AllByRecursion (λ t. t ≡ ty.Nil) (drop (length types) (filled n types))
drop-filled n [] few = nils n
drop-filled zero (y ∷ types) few = absurd (omega arith)
drop-filled (suc n) (y ∷ types) few = drop-filled n types (omega arith)

is_ty-in : (t : Table) (y : Ty) → IsTy (length t.classes) y → IsTyIn t y
is_ty-in t (ty.Class c) is = is
is_ty-in _ _ _ = tt

are_ty-in : (t : Table) (ys : List Ty) → AllByRecursion (IsTy (length t.classes)) ys → AllByRecursion (IsTyIn t) ys
are_ty-in t [] are = tt
are_ty-in t (y ∷ ys) are = (is_ty-in t y are.0, are_ty-in t ys are.1)

all-nil : (ys : List Ty) → AllByRecursion (λ t. t ≡ ty.Nil) ys → All (λ t. t ≡ ty.Nil) ys
all-nil [] are = All-nil (λ t. t ≡ ty.Nil)
all-nil (y ∷ ys) are = All-cons (λ t. t ≡ ty.Nil) y ys are.0 (all-nil ys are.1)

-- up to four types that are known, and a known one, make the type of a method
pub method-in : (t : Table) (types : List Ty) (y : Ty) → length types ≤ PARAMS_MAX → AllByRecursion (IsTy (length t.classes)) types → IsTy (length t.classes) y
    → IsMethodTyIn t (method_ty types y)
method-in t types y few known is = record {
  form = record { places = length-filled 4 types; few = few; filled = all-nil (drop (length types) (filled 4 types)) (drop-filled 4 types few) };
  params = subst (AllByRecursion (IsTyIn t)) (sym (take-filled 4 types few)) (are_ty-in t types known);
  result = is_ty-in t y is;
}

-- ── what is left once they are taken off ──

trees-below-types : (things : List Held) → trees_in (drop (length (parameter_types_of things)) things) ≡ trees_in things
trees-below-types (held.ParameterType y ∷ things) =
    let e : length (parameter_types_of things ++ y ∷ []) ≡ suc (length (parameter_types_of things)) = omega (arith, length_push (parameter_types_of things) y) in
    rw e (trees-below-types things)
trees-below-types [] = refl
trees-below-types (_ ∷ things) = refl

count-below-types : (pile : List Slot) → IsSameCount pile (below_types pile)
count-below-types (ParameterType y ∷ pile) =
    let is : IsSameCount pile (below_types pile) = count-below-types pile in
    record { body = is.body; nodes = is.nodes; calls = is.calls; names = is.names; outer = is.outer; scopes = is.scopes; pending = is.pending }
count-below-types [] = record { body = refl; nodes = refl; calls = refl; names = refl; outer = refl; scopes = refl; pending = refl }
count-below-types (_ ∷ pile) = record { body = refl; nodes = refl; calls = refl; names = refl; outer = refl; scopes = refl; pending = refl }

-- The result's type and then those of the parameters are taken off.
pub record IsSigned (old new : Builder) (y : Ty) (rest : List Held) : Type 0 where
  pub keeps : KeepsRest old new
  pub scope : new.scope ≡ old.scope
  pub was : things_of old ≡ held.Type y ∷ rest
  pub things : things_of new ≡ drop (length (parameter_types_of rest)) rest

module _ (old new : Builder) (y : Ty) (rest : List Held) (s : IsSigned old new y rest) (sound : IsSound old) where
  good : IsTy (length old.draft.table.classes) y × IsGood (length old.draft.table.names) (length old.draft.table.classes) (piled rest (in_hand old.draft))
  good = good-was old (held.Type y ∷ rest) (in_hand old.draft) s.was refl sound

  pub few-signed : length (parameter_types_of rest) ≤ PARAMS_MAX
  few-signed = omega (arith, types-few _ _ (piled rest (in_hand old.draft)) good.1, ap length (types-piled rest (in_hand old.draft)))

  pub method-signed : IsMethodTyIn old.draft.table (method_ty (parameter_types_of rest) y)
  method-signed = method-in old.draft.table (parameter_types_of rest) y few-signed
      (subst (AllByRecursion (IsTy (length old.draft.table.classes))) (types-piled rest (in_hand old.draft)) (types-known _ _ (piled rest (in_hand old.draft)) good.1)) good.0

  pub sound-signed : IsSound new
  sound-signed =
      let hand = in_hand old.draft in
      let after = drop (length (parameter_types_of rest)) rest in
      let below = below-types-piled rest hand in
      let same = count-below-types (piled rest hand) in
      sound-becomes old new (held.Type y ∷ rest) after hand s.keeps s.scope s.was refl s.things sound (trees-below-types rest)
      (subst (IsGood (length old.draft.table.names) (length old.draft.table.classes)) below (below-types-good _ _ (piled rest hand) good.1))
      (subst (IsSameCount (OfType y ∷ piled rest hand)) below (record { body = same.body; nodes = same.nodes; calls = same.calls; names = same.names; outer = same.outer; scopes = same.scopes; pending = same.pending }))

-- so it is at the code's values
pub signed : (old new : Builder) (y : Ty) (taken : List Held) (types : List Ty) (long count : ℕ) → things_of old ≡ held.Type y ∷ reverse taken
    → types ≡ parameter_types_of (reverse taken) → count ≡ length types → long ≡ length taken → new.held.items ≡ take (long - count) taken
    → KeepsRest old new → new.scope ≡ old.scope → IsSigned old new y (reverse taken)
signed old new y taken types long count was types_are counted is_long items keeps scope =
    let n = length (parameter_types_of (reverse taken)) in
    let same : count ≡ n = counted ∙ ap length types_are in
    let few : n ≤ length taken = omega (arith, few-types-on (reverse taken), length-reverse taken) in
    record {
      keeps = keeps;
      scope = scope;
      was = was;
      things = ap reverse (items ∙ ap₂ (λ (l k : ℕ). take (l - k) taken) is_long same) ∙ reverse-take n taken few;
    }

pub declare-there : (old new : Builder) (y : Ty) (rest : List Held) (s : IsSigned old new y rest) (asks : Bool) (types : List Ty) (w : Work) → types ≡ parameter_types_of rest
    → with_type (pile_of old) (λ y pile. declare (method_ty (types_on pile) y) asks (below_types pile) w) ≡ declare (method_ty types y) asks (pile_of new) w
declare-there old new y rest s asks types w is =
    let hand = in_hand old.draft in
    ap (λ (things : List Held). with_type (piled things hand) (λ y pile. declare (method_ty (types_on pile) y) asks (below_types pile) w)) s.was
    ∙ ap (λ (ys : List Ty). declare (method_ty ys y) asks (below_types (piled rest hand)) w) (types-piled rest hand ∙ sym is)
    ∙ ap (λ (pile : List Slot). declare (method_ty types y) asks pile w) (sym (pile-of-signed old new y rest s))
  where
    pile-of-signed : (old new : Builder) (y : Ty) (rest : List Held) (s : IsSigned old new y rest) → pile_of new ≡ below_types (piled rest (in_hand old.draft))
    pile-of-signed old new y rest s = ap (λ things. piled things (in_hand new.draft)) s.things ∙ ap (λ d. piled (drop (length (parameter_types_of rest)) rest) (in_hand d)) s.keeps.draft
        ∙ sym (below-types-piled rest (in_hand old.draft))

-- ── the method that lies on top then ──

pub named-there : (b : Builder) (type : MethodTy) (asks : Bool) (w : Work) → (declare type asks (pile_of b) w ≡ Lost → ⊥)
    → (items : List Held) → items ≡ b.held.items → (r : Bool) → ((top : Held) (rest : List Held) → reverse items ≡ top ∷ rest → r ≡ is_named top) → r ≡ true
    → (c : ClassId) × (m : NameId) × (p : Spot) × (rest : List Held) × (things_of b ≡ held.Named c m ∷ held.Declaring p ∷ rest)
named-there b type asks w kept items same r is yes_named =
    elim (top-method (things_of b) (in_hand b.draft)
    (λ c m pile. with_declaring pile (λ p pile. complete p (λ id. TDeclare id c m (length w.said.types) asks) Operand pile (typing type w)))
    (λ c e pile. with_declaring pile (λ p pile. complete p (λ id. TDeclareComputed id c e (length w.said.types) asks) Operand pile (typing type w))) kept) [
      | Plainly rest c m things left ↦
          let t = top-declaring rest (in_hand b.draft) (λ p pile. complete p (λ id. TDeclare id c.0 m.0 (length w.said.types) asks) Operand pile (typing type w)) left in
          (c, m, t.1, t.0, things ∙ ap (λ (r : List Held). held.Named c m ∷ r) t.2)
      | Computedly rest c e others things hand left ↦
          let no_name : r ≡ false = is (held.Computed c) rest (ap reverse same ∙ things) in absurd (cc)
    ]

pub computed-there : (b : Builder) (type : MethodTy) (asks : Bool) (w : Work) → (declare type asks (pile_of b) w ≡ Lost → ⊥)
    → (items : List Held) → items ≡ b.held.items → (r : Bool) → ((top : Held) (rest : List Held) → reverse items ≡ top ∷ rest → r ≡ is_named top) → r ≡ false
    → (c : ClassId) × (p : Spot) × (rest : List Held) × (things_of b ≡ held.Computed c ∷ held.Declaring p ∷ rest)
computed-there b type asks w kept items same r is not_named =
    elim (top-method (things_of b) (in_hand b.draft)
    (λ c m pile. with_declaring pile (λ p pile. complete p (λ id. TDeclare id c m (length w.said.types) asks) Operand pile (typing type w)))
    (λ c e pile. with_declaring pile (λ p pile. complete p (λ id. TDeclareComputed id c e (length w.said.types) asks) Operand pile (typing type w))) kept) [
      | Plainly rest c m things left ↦
          let a_name : r ≡ true = is (held.Named c m) rest (ap reverse same ∙ things) in absurd (cc)
      | Computedly rest c e others things hand left ↦
          let t = top-declaring rest others (λ p pile. complete p (λ id. TDeclareComputed id c.0 e (length w.said.types) asks) Operand pile (typing type w)) left in
          (c, t.1, t.0, things ∙ ap (λ (r : List Held). held.Computed c ∷ r) t.2)
    ]
