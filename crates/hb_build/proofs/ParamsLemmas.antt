-- What a good pile says of the parameters on top of it.
use Rattle.std.proofs.Common.{ℕ, ◌<◌, ◌≤◌, List, [], ◌∷◌, length, arith}
use Rattle.std.specs.{Prelude.nat_eq, Cmp.nat_eq_equiv, List.IsDistinct, List.AllByRecursion}
use Rattle.std.proofs.{lemmas.List.length_push, lemmas.Map.Keys.IsDistinct-push}
use Rattle.hb_types.specs.declared.types.TheConstants.{PARAMS_MAX}
use Rattle.hb_draft.proofs.Lists.{each-append}
use Rattle.hb_build.specs.Pile.{Slot, Parameter, ParameterType, parameters_on, below_parameters, types_on, below_types}
use Rattle.hb_build.specs.Sound.{IsGood, IsTy}

pub params-apart : (names classes : ℕ) (pile : List Slot) → IsGood names classes pile → IsDistinct nat_eq (parameters_on pile)
unfolding IsDistinct
params-apart ns cs (Parameter x ∷ pile) good = IsDistinct-push nat_eq_equiv (parameters_on pile) x (params-apart ns cs pile good.3) good.1
params-apart ns cs [] good = tt
params-apart ns cs (_ ∷ pile) good = tt

pub params-few : (names classes : ℕ) (pile : List Slot) → IsGood names classes pile → length (parameters_on pile) ≤ PARAMS_MAX
params-few ns cs (Parameter x ∷ pile) good = omega (arith, good.2, length_push (parameters_on pile) x)
params-few ns cs [] good = omega arith
params-few ns cs (_ ∷ pile) good = omega arith

pub params-known : (names classes : ℕ) (pile : List Slot) → IsGood names classes pile → AllByRecursion (λ x. x < names) (parameters_on pile)
params-known ns cs (Parameter x ∷ pile) good = each-append (λ x. x < ns) (parameters_on pile) (x ∷ []) (params-known ns cs pile good.3) (good.0, tt)
params-known ns cs [] good = tt
params-known ns cs (_ ∷ pile) good = tt

pub below-params-good : (names classes : ℕ) (pile : List Slot) → IsGood names classes pile → IsGood names classes (below_parameters pile)
below-params-good ns cs (Parameter x ∷ pile) good = below-params-good ns cs pile good.3
below-params-good ns cs [] good = good
below-params-good ns cs (_ ∷ pile) good = good

-- ── their types ──

pub types-few : (names classes : ℕ) (pile : List Slot) → IsGood names classes pile → length (types_on pile) ≤ PARAMS_MAX
types-few ns cs (ParameterType y ∷ pile) good = omega (arith, good.1, length_push (types_on pile) y)
types-few ns cs [] good = omega arith
types-few ns cs (_ ∷ pile) good = omega arith

pub types-known : (names classes : ℕ) (pile : List Slot) → IsGood names classes pile → AllByRecursion (IsTy classes) (types_on pile)
types-known ns cs (ParameterType y ∷ pile) good = each-append (IsTy cs) (types_on pile) (y ∷ []) (types-known ns cs pile good.2) (good.0, tt)
types-known ns cs [] good = tt
types-known ns cs (_ ∷ pile) good = tt

pub below-types-good : (names classes : ℕ) (pile : List Slot) → IsGood names classes pile → IsGood names classes (below_types pile)
below-types-good ns cs (ParameterType y ∷ pile) good = below-types-good ns cs pile good.2
below-types-good ns cs [] good = good
below-types-good ns cs (_ ∷ pile) good = good
