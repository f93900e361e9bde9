-- The first that passes, one after another.
use Rattle.std.proofs.Common.{◌≡◌, ℕ, zero, suc, ◌+◌, List, [], ◌∷◌, drop, drop-cons, length, ◌<◌, ◌≤◌, Bool, refl, sym, ap, ◌∙◌, slice_get}
use Rattle.std.proofs.Math.ListN.{drop_of_length-le}
use Rattle.std.specs.Prelude.{Option, Some, None, if◌then◌else◌}
use Rattle.std.specs.Option.{option_map}
use Rattle.hb_tree.specs.declared.node.Node.{Node}
use Rattle.hb_tree.specs.declared.node.Placed.{Placed}
use Rattle.hb_deriv_text.specs.Reading.{first, behind}

pub same_value : {Z : Type 0} (x z : Z) → Some x ≡ Some z → x ≡ z
same_value x z h = cc

pub split_first : {X Z : Type 0} (f : X → Z) (q : Z → Bool) (xs : List X) (i j : ℕ) (z : Z) → option_map f (slice_get xs i) ≡ Some z
    → first (λ x. q (f x)) j (drop i xs) ≡ (if q z then Some j else first (λ x. q (f x)) (j + 1) (drop (suc i) xs))
split_first f q [] i j z h = absurd (cc)
split_first f q (x ∷ xs) zero j z h = rw (sym (same_value (f x) z h)) refl
split_first f q (x ∷ xs) (suc i) j z h = split_first f q xs i j z h

abbrev pub node_and_place : Placed → Node × (ℕ × ℕ)
node_and_place p = (p.node, (p.line, p.column))

abbrev pub place_of : Placed → ℕ × ℕ
place_of p = (p.line, p.column)

pub both_known : (o : Option Placed) (n : Node) (place : ℕ × ℕ) → option_map (λ (p : Placed). p.node) o ≡ Some n → option_map place_of o ≡ Some place
    → option_map node_and_place o ≡ Some (n, place)
both_known None n place h k = absurd (cc)
both_known (Some p) n place h k = ap (λ (m : Node). Some (m, place_of p)) (same_value p.node n h) ∙ ap (λ (q : ℕ × ℕ). Some (n, q)) (same_value (place_of p) place k)

-- bytes that end before what they are to begin with
pub too_short : (prefix bytes : List ℕ) (i : ℕ) → i < length prefix → length bytes ≤ i → behind (drop i prefix) (drop i bytes) ≡ None
too_short prefix bytes i h k = rw (drop-cons prefix i 0 h, drop_of_length-le bytes k) refl
