-- How many arguments lie on top of a pile.
use Rattle.std.proofs.Common.{◌≡◌, ◌≤◌, ℕ, zero, suc, List, [], ◌∷◌, Some, length, take, reverse, arith, refl, ap, subst, sym}
use Rattle.std.specs.List.{AllByRecursion, slice_get}
use Rattle.std.proofs.lemmas.List.{length_push, length-reverse}
use Rattle.hb_tree.specs.Tree.{Tree}
use Rattle.hb_draft.specs.Unfinished.{in_hand}
use Rattle.hb_build.specs.declared.{builder.Builder.Builder, held.Held.Held}
use Rattle.hb_build.specs.declared.held.Held.TheVariants as held
use Rattle.hb_build.specs.Pile.{arguments_on, piled}
use Rattle.hb_build.specs.Sound.{IsSound, trees_in, things_of, pile_of}

-- nothing but an argument on top is one
no-arguments : (things : List Held) (hand : List Tree) → (slice_get things 0 ≡ Some held.Argument → ⊥) → arguments_on (piled things hand) ≡ []
no-arguments (held.Operand ∷ things) [] other = refl
no-arguments (held.Closed ∷ things) [] other = refl
no-arguments (held.Item ∷ things) [] other = refl
no-arguments (held.Argument ∷ things) hand other = absurd (other refl)
no-arguments (held.Computed c ∷ things) [] other = refl
no-arguments _ _ _ = refl

-- the arguments on top are as many as the run of things that are arguments
pub length-arguments : (n : ℕ) (things : List Held) (hand : List Tree) → n ≤ length things → AllByRecursion (λ t. t ≡ held.Argument) (take n things)
    → (slice_get things n ≡ Some held.Argument → ⊥) → trees_in things ≤ length hand → length (arguments_on (piled things hand)) ≡ n
length-arguments zero things hand within same ends enough = ap length (no-arguments things hand ends)
length-arguments (suc n) [] hand within same ends enough = absurd (omega arith)
length-arguments (suc n) (t ∷ things) hand within same ends enough =
    subst (λ t. trees_in (t ∷ things) ≤ length hand → length (arguments_on (piled (t ∷ things) hand)) ≡ suc n) (sym same.0)
    (one-more hand (λ others few. length-arguments n things others (omega arith) same.1 ends few)) enough
  where
    one-more : (hand : List Tree) → ((others : List Tree) → trees_in things ≤ length others → length (arguments_on (piled things others)) ≡ n)
        → trees_in (held.Argument ∷ things) ≤ length hand → length (arguments_on (piled (held.Argument ∷ things) hand)) ≡ suc n
    one-more [] below enough = absurd (omega arith)
    one-more (e ∷ others) below enough =
        let rest : length (arguments_on (piled things others)) ≡ n = below others (omega arith) in
        omega (arith, length_push (arguments_on (piled things others)) e)

-- so it is at a builder
pub arguments-counted : (b : Builder) (items : List Held) (n : ℕ) → IsSound b → items ≡ b.held.items → n ≤ length items
    → AllByRecursion (λ t. t ≡ held.Argument) (take n (reverse items)) → (slice_get (reverse items) n ≡ Some held.Argument → ⊥)
    → length (arguments_on (pile_of b)) ≡ n
arguments-counted b items n sound is within same ends =
    let e : reverse items ≡ things_of b = ap reverse is in
    let small : n ≤ length (reverse items) = omega (arith, length-reverse items) in
    subst (λ things. n ≤ length things → AllByRecursion (λ t. t ≡ held.Argument) (take n things) → (slice_get things n ≡ Some held.Argument → ⊥)
    → length (arguments_on (pile_of b)) ≡ n) (sym e)
    (λ small same ends. length-arguments n (things_of b) (in_hand b.draft) small same ends sound.matched) small same ends
