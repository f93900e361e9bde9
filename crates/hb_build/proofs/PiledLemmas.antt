-- The parameters on top of a pile, and what lies below them, are those of the things.
use Rattle.std.proofs.Common.{◌≡◌, suc, List, [], ◌∷◌, ◌++◌, length, drop, refl, ap, arith, length-append}
use Rattle.hb_tree.specs.Tree.{Tree}
use Rattle.hb_build.specs.declared.held.Held.{Held}
use Rattle.hb_build.specs.declared.held.Held.TheVariants as held
use Rattle.hb_build.specs.Pile.{piled, parameters_on, below_parameters, types_on, below_types}
use Rattle.hb_build.specs.Sound.{parameters_of, parameter_types_of}

pub parameters-piled : (things : List Held) (hand : List Tree) → parameters_on (piled things hand) ≡ parameters_of things
parameters-piled (held.Operand ∷ things) [] = refl
parameters-piled (held.Closed ∷ things) [] = refl
parameters-piled (held.Item ∷ things) [] = refl
parameters-piled (held.Argument ∷ things) [] = refl
parameters-piled (held.Computed c ∷ things) [] = refl
parameters-piled (held.Parameter x ∷ things) hand = ap (λ xs. xs ++ x.0 ∷ []) (parameters-piled things hand)
parameters-piled _ _ = refl

pub types-piled : (things : List Held) (hand : List Tree) → types_on (piled things hand) ≡ parameter_types_of things
types-piled (held.Operand ∷ things) [] = refl
types-piled (held.Closed ∷ things) [] = refl
types-piled (held.Item ∷ things) [] = refl
types-piled (held.Argument ∷ things) [] = refl
types-piled (held.Computed c ∷ things) [] = refl
types-piled (held.ParameterType y ∷ things) hand = ap (λ ys. ys ++ y ∷ []) (types-piled things hand)
types-piled _ _ = refl

pub below-parameters-piled : (things : List Held) (hand : List Tree) → below_parameters (piled things hand) ≡ piled (drop (length (parameters_of things)) things) hand
below-parameters-piled (held.Operand ∷ things) [] = refl
below-parameters-piled (held.Closed ∷ things) [] = refl
below-parameters-piled (held.Item ∷ things) [] = refl
below-parameters-piled (held.Argument ∷ things) [] = refl
below-parameters-piled (held.Computed c ∷ things) [] = refl
below-parameters-piled (held.Parameter x ∷ things) hand =
    let e : length (parameters_of things ++ x.0 ∷ []) ≡ suc (length (parameters_of things)) = omega (arith, length-append (parameters_of things) (x.0 ∷ [])) in
    rw e (below-parameters-piled things hand)
below-parameters-piled _ _ = refl

pub below-types-piled : (things : List Held) (hand : List Tree) → below_types (piled things hand) ≡ piled (drop (length (parameter_types_of things)) things) hand
below-types-piled (held.Operand ∷ things) [] = refl
below-types-piled (held.Closed ∷ things) [] = refl
below-types-piled (held.Item ∷ things) [] = refl
below-types-piled (held.Argument ∷ things) [] = refl
below-types-piled (held.Computed c ∷ things) [] = refl
below-types-piled (held.ParameterType y ∷ things) hand =
    let e : length (parameter_types_of things ++ y ∷ []) ≡ suc (length (parameter_types_of things)) = omega (arith, length-append (parameter_types_of things) (y ∷ [])) in
    rw e (below-types-piled things hand)
below-types-piled _ _ = refl
