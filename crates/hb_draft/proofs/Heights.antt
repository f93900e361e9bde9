-- The height of a node from those of its parts, and the heights of the trees in hand.
use Rattle.std.proofs.Common.{◌≡◌, ℕ, ◌+◌, ◌<◌, ◌≤◌, max, List, [], ◌∷◌, ◌++◌, map, length, take, drop, length-drop, ◌-◌, refl, sym, ap, ◌∙◌, subst, arith, option_map, inl, inr}
use Rattle.std.specs.List.{AllByRecursion}
use Rattle.std.proofs.{lemmas.List.take-append-drop, lemmas.List.take_all, lemmas.List.length-map, lemmas.Option.slice_get_cases}
use Rattle.hb_types.specs.declared.ids.NodeId.{NodeId}
use Rattle.hb_tree.specs.{Table.Table, Tree.Tree, Counts.height, Counts.highest}
use Rattle.hb_tree.specs.declared.node.Node.{Node}
use Rattle.hb_tree.specs.declared.node.Node.TheVariants as node
use Rattle.hb_tree.specs.declared.node.Method.TheVariants as method
use Rattle.hb_tree.specs.Nodes.{args_of, items_of, numbers_of, parts_of}
use Rattle.hb_tree.specs.TreeAt.{forest_at, tree_of, tree_at}
use Rattle.hb_draft.specs.Kept.{IsKept, greatest, heights_of}
use Rattle.hb_draft.proofs.Lists.{each-back}

highest-greatest : (f : ℕ → Tree) (is : List NodeId) → highest (forest_at f is) ≡ greatest (map (λ j. height (f j)) (numbers_of is ++ []))
highest-greatest f [] = refl
highest-greatest f (i ∷ is) = ap (max (height (f i.0))) (highest-greatest f is)

-- a node is one higher than the highest of its parts
pub height-parts : (t : Table) (f : ℕ → Tree) (id : ℕ) (n : Node) → height (tree_of t f id n) ≡ 1 + greatest (map (λ j. height (f j)) (parts_of t n))
height-parts t f id (node.Call r m args) = ap (λ n. 1 + max (height (f r.0)) n) (highest-greatest f (args_of args))
height-parts t f id (node.Def (method.Named c m) s) = omega arith
height-parts t f id (node.Declare (method.Named c m) s q) = omega arith
height-parts t f id (node.Block first count) = ap (λ n. 1 + n) (highest-greatest f (items_of t first count))
height-parts t f id _ = omega arith

greatest-low : (k : ℕ) (hs : List ℕ) → AllByRecursion (λ h. h ≤ k) hs → greatest hs ≤ k
greatest-low k [] low = omega arith
greatest-low k (h ∷ hs) low = omega (arith, low.0, greatest-low k hs low.1)

-- so it fits where each of them is low
pub greatest-drop : (k n : ℕ) (hs : List ℕ) → AllByRecursion (λ h. h ≤ k) hs → greatest (drop n hs) ≤ k
greatest-drop k n hs low =
    greatest-low k (drop n hs) (each-back (λ h. h ≤ k) (take n hs) (drop n hs) (subst (AllByRecursion (λ h. h ≤ k)) (sym (take-append-drop n hs)) low))

-- the heights at these nodes, by the nodes' numbers
pub heights_of-numbers : (t : Table) (ids : List NodeId) → map (λ j. height (tree_at t j)) (numbers_of ids) ≡ heights_of t ids
heights_of-numbers t [] = refl
heights_of-numbers t (i ∷ ids) = ap (λ hs. height (tree_at t i.0) ∷ hs) (heights_of-numbers t ids)

-- no tree in hand is higher than a tree may be
module _ (t : Table) (ids : List NodeId) (hs : List ℕ) (kept : IsKept t ids hs) where
  low-at : (j : ℕ) → j < length t.nodes → height (tree_at t j) ≤ 256
  low-at j within = elim (slice_get_cases t.nodes j).1 [
    | inl k ↦ (kept.draft.program.nodes j (k.0).node (ap (option_map (λ p. p.node)) k.2)).low
    | inr k ↦ omega arith
  ]

  lows : (is : List NodeId) → AllByRecursion (λ j. j < length t.nodes) (numbers_of is) → AllByRecursion (λ h. h ≤ 256) (heights_of t is)
  lows [] h = tt
  lows (i ∷ is) h = (low-at i.0 h.0, lows is h.1)

  pub low-kept : AllByRecursion (λ h. h ≤ 256) hs
  low-kept = rw kept.same (lows ids kept.draft.within)

  pub length-kept : length hs ≡ length ids
  length-kept = ap length kept.same ∙ length-map ids (λ i. height (tree_at t i.0))

-- the greatest of the last ones, as a slice gives them
pub greatest-last : (hs given : List ℕ) (n count r : ℕ) → given ≡ hs → n ≡ length hs → r ≡ greatest (take (length given - (n - count)) (drop (n - count) given)) → r ≡ greatest (drop (length hs - count) hs)
greatest-last hs given n count r same long is =
    is ∙ ap (λ xs. greatest (take (length xs - (n - count)) (drop (n - count) xs))) same
    ∙ ap (λ m. greatest (take (length hs - (m - count)) (drop (m - count) hs))) long
    ∙ ap greatest (take_all (length hs - (length hs - count)) (drop (length hs - count) hs) (omega (arith, length-drop (length hs - count) hs)))
