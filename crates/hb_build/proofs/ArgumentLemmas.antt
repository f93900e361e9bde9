-- The arguments below the expression on top, as a builder counts them.
use Rattle.std.proofs.Common.{◌≡◌, ℕ, ◌≤◌, ◌<◌, List, true, false, Some, length, take, reverse, sym, ap, arith, subst}
use Rattle.std.specs.List.{AllByRecursion, slice_get}
use Rattle.std.proofs.{lemmas.List.length-reverse, lemmas.Bool.Decides.nat_tests}
use Rattle.hb_build.proofs.{CountLemmas.length-arguments, ItemLemmas.HasOperand}
use Rattle.hb_build.specs.declared.{builder.Builder.Builder, held.Held.Held}
use Rattle.hb_build.specs.declared.held.Held.TheVariants as held
use Rattle.hb_build.specs.Pile.{Slot, arguments_on, is_full, piled}
use Rattle.hb_build.specs.Sound.{IsSound, trees_in}

pub arguments-below : (b : Builder) (t : HasOperand b) → IsSound b → (items : List Held) → reverse items ≡ t.rest → (n : ℕ) → n ≤ length items
    → AllByRecursion (λ t. t ≡ held.Argument) (take n (reverse items)) → (slice_get (reverse items) n ≡ Some held.Argument → ⊥)
    → length (arguments_on (piled t.rest t.others)) ≡ n
arguments-below b t sound items e n within same ends =
    let few : n ≤ length (reverse items) = omega (arith, length-reverse items) in
    let matched : trees_in t.rest ≤ length t.others = omega (arith, sound.matched, ap trees_in t.things_are, ap length t.hand_is) in
    subst (λ things. n ≤ length things → AllByRecursion (λ t. t ≡ held.Argument) (take n things) → (slice_get things n ≡ Some held.Argument → ⊥)
    → length (arguments_on (piled t.rest t.others)) ≡ n) (sym e)
    (λ few same ends. length-arguments n t.rest t.others few same ends matched) few same ends

pub full-below : (pile : List Slot) (n : ℕ) → length (arguments_on pile) ≡ n → 4 ≤ n → is_full pile ≡ true
full-below pile n e many = grind (arith, nat_tests)

pub room-below : (pile : List Slot) (n : ℕ) → length (arguments_on pile) ≡ n → n < 4 → is_full pile ≡ false
room-below pile n e few = grind (arith, nat_tests)
