-- What a scope counts when a call or an assignment to come is put on the pile.
use Rattle.std.proofs.Common.{◌≡◌, ℕ, ◌<◌, ◌+◌, List, [], ◌∷◌, ◌++◌, Bool, true, false, length, refl, sym, ap, ap₂, ◌∙◌, arith, subst, inl, inr}
use Rattle.std.specs.Prelude.{◌&&◌, ◌||◌, nat_le, nat_lt, nat_eq}
use Rattle.std.specs.{Cmp.nat_eq_equiv, List.IsDistinct, List.list_any, Set.is_member, Set.distinct_count}
use Rattle.std.proofs.{lemmas.List.length_push, lemmas.List.length-map, lemmas.List.Folds.list_any-append, lemmas.Map.Keys.IsDistinct-push, lemmas.Map.Made.length-from_keys}
use Rattle.std.proofs.{lemmas.Map.Steps.list_any_congr, lemmas.Bool.cases_Bool, lemmas.Bool.cond-true, lemmas.Bool.Decides.nat_tests}
use Rattle.hb_tree.specs.declared.limits.TheConstants.{CALLS_IN_BODY_MAX, VARIABLES_MAX}
use Rattle.hb_types.specs.declared.ids.NameId.{NameId}
use Rattle.hb_build.specs.declared.{builder.Scope.Scope, held.Spot.Spot}
use Rattle.hb_build.specs.Pile.{Slot, Called, Target, in_body, calls_since, names_since, has_too_many_calls, has_too_many_variables}
use Rattle.hb_build.specs.Sound.{IsCount, Assigns, IsOneTooMany, numbers, with_call}

-- a body that may have one call more has at most as many as it may
room-for_call : (s : Scope) (pile : List Slot) → IsCount s pile → (s.is_body && nat_le CALLS_IN_BODY_MAX s.calls) ≡ false → in_body pile ≡ true → calls_since pile < CALLS_IN_BODY_MAX
room-for_call s pile is room inside =
    let body : s.is_body ≡ true = is.body ∙ inside in
    let free : nat_le CALLS_IN_BODY_MAX s.calls ≡ false = sym (ap (λ b. b && nat_le CALLS_IN_BODY_MAX s.calls) body) ∙ room in
    let calls : s.calls ≡ calls_since pile = is.calls inside in
    grind (arith, nat_tests)

-- the scope with the call counts the pile with the call
pub count-called : (s : Scope) (pile : List Slot) (m : ℕ) (p : Spot) → IsCount s pile → (s.is_body && nat_le CALLS_IN_BODY_MAX s.calls) ≡ false → IsCount (with_call s) (Called m p ∷ pile)
count-called s pile m p is room = record {
  body = is.body;
  nodes = is.nodes;
  calls = λ inside. cond-true s.is_body (s.calls + 1) s.calls (is.body ∙ inside) ∙ ap (λ n. n + 1) (is.calls inside);
  apart = is.apart;
  same = is.same;
  few = is.few;
  few_nodes = is.few_nodes;
  few_calls = λ inside. let few = room-for_call s pile is room inside in omega arith;
}

pub few-called : (s : Scope) (pile : List Slot) (m : ℕ) (p : Spot) → IsCount s pile → (s.is_body && nat_le CALLS_IN_BODY_MAX s.calls) ≡ false → has_too_many_calls (Called m p ∷ pile) ≡ false
few-called s pile m p is room = elim (cases_Bool (in_body pile)) [
  | inl inside ↦
      let few = room-for_call s pile is room inside in
      let over : nat_lt CALLS_IN_BODY_MAX (calls_since pile + 1) ≡ false = grind (arith, nat_tests) in
      ap₂ ◌&&◌ inside over
  | inr outside ↦ ap (λ b. b && nat_lt CALLS_IN_BODY_MAX (calls_since pile + 1)) outside
]

-- ── variables ──

pub numbers-push : (xs : List NameId) (x : NameId) → numbers (xs ++ x ∷ []) ≡ numbers xs ++ x.0 ∷ []
numbers-push [] x = refl
numbers-push (y ∷ xs) x = ap (λ ys. y.0 ∷ ys) (numbers-push xs x)

-- whether a variable is one of these
pub is_member-numbers : (xs : List NameId) (x : NameId) → list_any (λ y. nat_eq y.0 x.0) xs ≡ is_member nat_eq (numbers xs) x.0
is_member-numbers [] x = refl
is_member-numbers (y ∷ xs) x = ap₂ ◌||◌ (nat_eq_equiv.symm y.0 x.0) (is_member-numbers xs x)

-- a member that is added once more changes nothing
member-again : (xs : List ℕ) (x y : ℕ) → is_member nat_eq xs x ≡ true → is_member nat_eq xs y ≡ is_member nat_eq (xs ++ x ∷ []) y
member-again xs x y h = sym (list_any-append (nat_eq y) xs (x ∷ []) ∙ by (nat_eq y x) refl)
  where
    by : (b : Bool) → nat_eq y x ≡ b → (is_member nat_eq xs y || (nat_eq y x || false)) ≡ is_member nat_eq xs y
    by true e = let m : is_member nat_eq xs y ≡ true = list_any_congr nat_eq_equiv y x xs e ∙ h in rw m refl
    by false e = ap (λ b. is_member nat_eq xs y || (b || false)) e ∙ or-false (is_member nat_eq xs y)
      where
        or-false : (b : Bool) → (b || false) ≡ b
        or-false true = refl
        or-false false = refl

pub assigns-again : (s : Scope) (x : NameId) → is_member nat_eq (numbers s.variables.items) x.0 ≡ true → Assigns s x s
assigns-again s x h = record { apart = λ d. d; same = λ y. member-again (numbers s.variables.items) x.0 y h; few = λ f. f }

pub assigns-first : (old new : Scope) (x : NameId) → is_member nat_eq (numbers old.variables.items) x.0 ≡ false → length old.variables.items < VARIABLES_MAX
    → new.variables.items ≡ old.variables.items ++ x ∷ [] → Assigns old x new
assigns-first old new x h room e =
    let all : numbers new.variables.items ≡ numbers old.variables.items ++ x.0 ∷ [] = ap numbers e ∙ numbers-push old.variables.items x in
    record {
      apart = λ d. subst (IsDistinct nat_eq) (sym all) (IsDistinct-push nat_eq_equiv (numbers old.variables.items) x.0 d h);
      same = λ y. ap (λ xs. is_member nat_eq xs y) all;
      few = λ f. let long : length new.variables.items ≡ length (old.variables.items ++ x ∷ []) = ap length e in omega (arith, length_push old.variables.items x);
    }

-- the names once this one is assigned, at the scope and at the pile
same-then : (s : Scope) (pile : List Slot) (x y : ℕ) → IsCount s pile → is_member nat_eq (numbers s.variables.items ++ x ∷ []) y ≡ is_member nat_eq (names_since pile ++ x ∷ []) y
same-then s pile x y is =
    list_any-append (nat_eq y) (numbers s.variables.items) (x ∷ []) ∙ ap (λ b. b || is_member nat_eq (x ∷ []) y) (is.same y)
    ∙ sym (list_any-append (nat_eq y) (names_since pile) (x ∷ []))

-- the scope with the variable counts the pile with the assignment
pub count-assigned : (s new : Scope) (pile : List Slot) (x : NameId) (p : Spot) → IsCount s pile → new ≡ record s { variables = new.variables } → Assigns s x new
    → IsCount new (Target x.0 p ∷ pile)
count-assigned s new pile x p is e assigns = record {
  body = ap (λ t. t.is_body) e ∙ is.body;
  nodes = λ inside. ap (λ t. t.nodes) e ∙ is.nodes inside;
  calls = λ inside. ap (λ t. t.calls) e ∙ is.calls inside;
  apart = assigns.apart is.apart;
  same = λ y. assigns.same y ∙ same-then s pile x.0 y is;
  few = assigns.few is.few;
  few_nodes = is.few_nodes;
  few_calls = is.few_calls;
}

-- so it has no variable too many
pub few-assigned : (new : Scope) (pile : List Slot) → IsCount new pile → has_too_many_variables pile ≡ false
few-assigned new pile is =
    let count : length (numbers new.variables.items) ≡ distinct_count nat_eq (names_since pile) =
    length-from_keys nat_eq_equiv (numbers new.variables.items) (names_since pile) is.apart is.same in
    let few = is.few in
    let long : length (numbers new.variables.items) ≡ length new.variables.items = length-map new.variables.items (λ x. x.0) in
    grind (arith, nat_tests)

-- and where there is no room, it has
pub many-assigned : (s : Scope) (pile : List Slot) (x : NameId) (p : Spot) → IsCount s pile → IsOneTooMany s x → has_too_many_variables (Target x.0 p ∷ pile) ≡ true
many-assigned s pile x p is many =
    let xs = numbers s.variables.items in
    let count : length (xs ++ x.0 ∷ []) ≡ distinct_count nat_eq (names_since pile ++ x.0 ∷ []) =
    length-from_keys nat_eq_equiv (xs ++ x.0 ∷ []) (names_since pile ++ x.0 ∷ []) (IsDistinct-push nat_eq_equiv xs x.0 is.apart many.new) (λ y. same-then s pile x.0 y is) in
    let full = many.full in
    let long : length xs ≡ length s.variables.items = length-map s.variables.items (λ x. x.0) in
    let more : length (xs ++ x.0 ∷ []) ≡ length xs + 1 = length_push xs x.0 in
    grind (arith, nat_tests)
