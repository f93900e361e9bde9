-- The trees in hand: the last ones, and those below them.
use Rattle.std.proofs.Common.{◌≡◌, ℕ, ◌+◌, ◌-◌, ◌<◌, ◌≤◌, List, [], ◌∷◌, ◌++◌, map, reverse, take, drop, length, length-drop, refl, sym, ap, ◌∙◌, subst, arith, append_assoc, get_or, option_map, Some}
use Rattle.std.specs.{Prelude.slice_get, List.AllByRecursion}
use Rattle.std.proofs.lemmas.List.{append-nil, take-append-drop, map-append, reverse-append, reverse-reverse, take_at, drop_at, drop_all, length-map, length-reverse, get_or-reverse}
use Rattle.std.proofs.{lemmas.Option.slice_get-map, lemmas.Option.slice_get_read, lemmas.List.Elements.All-from_recursion, lemmas.List.Elements.recursion_from_All}
use Rattle.std.proofs.lemmas.List.Sorted.{All-permutation, IsPermutation-reverse, IsPermutation-sym}
use Rattle.hb_types.specs.declared.ids.NodeId.{NodeId}
use Rattle.hb_tree.specs.{Table.Table, Tree.Tree, Tree.Trees, Counts.height, Program.HasPlaces, Program.IsKnownIn}
use Rattle.hb_tree.specs.declared.node.Placed.{Placed}
use Rattle.hb_tree.specs.{Nodes.numbers_of, Nodes.exprs_of, Nodes.blocks_of, TreeAt.tree_at, TreeAt.tree_of, TreeAt.forest_at}
use Rattle.hb_draft.specs.Kept.{IsKept, heights_of}
use Rattle.hb_draft.specs.Put.{CanPut, PutsNode, with_node, last_nodes}
use Rattle.hb_draft.specs.Unfinished.{Unfinished, IsExprPart, HasExprs, Puts, in_hand, trees_of, last_in, forest_of}

pub length-hand : (t : Table) (ids : List NodeId) → length (trees_of t ids) ≡ length ids
length-hand t ids = let f : NodeId → Tree = λ i. tree_at t i.0 in length-reverse (map f ids) ∙ length-map ids f

module _ (t : Table) (ids : List NodeId) where
  abbrev pub f : NodeId → Tree
  f i = tree_at t i.0

  abbrev pub below : ℕ → List Tree
  below n = trees_of t (take (length ids - n) ids)

  hand-split : (n : ℕ) → trees_of t ids ≡ reverse (map f (last_nodes n ids)) ++ below n
  hand-split n =
      ap (λ ns. reverse (map f ns)) (sym (take-append-drop (length ids - n) ids))
      ∙ ap reverse (map-append f (take (length ids - n) ids) (last_nodes n ids))
      ∙ reverse-append (map f (take (length ids - n) ids)) (map f (last_nodes n ids))

  length-taken : (n : ℕ) → n ≤ length ids → length (reverse (map f (last_nodes n ids))) ≡ n
  length-taken n enough = let k : ℕ = length ids - n in let h : length (drop k ids) ≡ length ids - k = length-drop k ids in length-reverse (map f (last_nodes n ids)) ∙ length-map (last_nodes n ids) f ∙ h ∙ omega arith

  module _ (n : ℕ) (enough : n ≤ length ids) where
    pub take-hand : take n (trees_of t ids) ≡ reverse (map f (last_nodes n ids))
    take-hand = ap (take n) (hand-split n) ∙ take_at (reverse (map f (last_nodes n ids))) (below n) n (length-taken n enough)

    pub drop-hand : drop n (trees_of t ids) ≡ below n
    drop-hand = ap (drop n) (hand-split n) ∙ drop_at (reverse (map f (last_nodes n ids))) (below n) n (length-taken n enough)

    pub forest-hand : forest_of (last_in n (trees_of t ids)) ≡ forest_at (tree_at t) (last_nodes n ids)
    forest-hand = ap (λ ts. forest_of (reverse ts)) take-hand ∙ ap forest_of (reverse-reverse (map f (last_nodes n ids))) ∙ forest (last_nodes n ids)
      where
        forest : (is : List NodeId) → forest_of (map (λ i. tree_at t i.0) is) ≡ forest_at (tree_at t) is
        forest [] = refl
        forest (i ∷ is) = ap (Trees (tree_at t i.0)) (forest is)

    pub hand-exprs : AllByRecursion IsExprPart (take n (trees_of t ids)) → AllByRecursion (λ j. IsExprPart (tree_at t j)) (numbers_of (last_nodes n ids))
    hand-exprs h =
        numbers (last_nodes n ids)
        (recursion_from_All IsExprPart (map f (last_nodes n ids))
        (All-permutation IsExprPart (reverse (map f (last_nodes n ids))) (map f (last_nodes n ids))
        (IsPermutation-sym (map f (last_nodes n ids)) (reverse (map f (last_nodes n ids))) (IsPermutation-reverse (map f (last_nodes n ids))))
        (All-from_recursion IsExprPart (reverse (map f (last_nodes n ids))) (subst (AllByRecursion IsExprPart) take-hand h))))
      where
        numbers : (is : List NodeId) → AllByRecursion IsExprPart (map (λ i. tree_at t i.0) is) → AllByRecursion (λ j. IsExprPart (tree_at t j)) (numbers_of is)
        numbers [] k = tt
        numbers (i ∷ is) k = (k.0, numbers is k.1)

  -- the tree below the last n
  pub next-hand : (n : ℕ) (i : NodeId) → n + 1 ≤ length ids → last_nodes (n + 1) ids ≡ i ∷ last_nodes n ids → drop n (trees_of t ids) ≡ tree_at t i.0 ∷ drop (n + 1) (trees_of t ids)
  next-hand n i enough last =
      ap (drop n) (hand-split (n + 1)
      ∙ ap (λ ns. reverse (map f ns) ++ below (n + 1)) last
      ∙ ap (λ ts. ts ++ below (n + 1)) (reverse-append (f i ∷ []) (map f (last_nodes n ids)))
      ∙ append_assoc (reverse (map f (last_nodes n ids))) (f i ∷ []) (below (n + 1)))
      ∙ drop_at (reverse (map f (last_nodes n ids))) (f i ∷ below (n + 1)) n (length-taken n (omega arith))
      ∙ ap (λ ts. f i ∷ ts) (sym (drop-hand (n + 1) enough))

  pub last_none : last_nodes 0 ids ≡ []
  last_none = drop_all (length ids - 0) ids (omega arith)

  pub last_one : (a : NodeId) → last_nodes 1 ids ≡ a ∷ last_nodes 0 ids → last_nodes 1 ids ≡ a ∷ []
  last_one a one = one ∙ ap (λ ns. a ∷ ns) last_none

  pub last_two : (a b : NodeId) → last_nodes 2 ids ≡ a ∷ last_nodes 1 ids → last_nodes 1 ids ≡ b ∷ last_nodes 0 ids → last_nodes 2 ids ≡ a ∷ b ∷ []
  last_two a b two one = two ∙ ap (λ ns. a ∷ ns) (last_one b one)

-- a node over expressions alone
module _ (d : Unfinished) (p : Placed) (n : ℕ) where
  pub can_put : length d.table.nodes < 65535 → HasExprs n (in_hand d)
      → exprs_of (with_node d.table p) p.node ≡ numbers_of (last_nodes n d.nodes) → blocks_of (with_node d.table p) p.node ≡ []
      → HasPlaces (with_node d.table p) p.node → IsKnownIn (with_node d.table p) (length d.table.nodes) p.node
      → CanPut d p n
  unfolding in_hand
  can_put room has exprs blocks places known =
      let enough : n ≤ length d.nodes = omega (arith, has.enough, length-hand d.table d.nodes) in
      record {
        room = room;
        enough = enough;
        places = places;
        parts = rw (exprs, blocks) (append-nil (numbers_of (last_nodes n d.nodes)));
        exprs = rw exprs (hand-exprs d.table d.nodes n enough has.exprs);
        blocks = rw blocks tt;
        known = known;
      }

  -- what it makes of the hand
  pub puts : (new : Unfinished) (over : ℕ → List Tree → List Tree) → PutsNode d new p n
      → tree_of new.table (tree_at d.table) (length d.table.nodes) p.node ∷ drop n (in_hand d) ≡ over (length d.table.nodes) (in_hand d)
      → Puts d new (p.line, p.column) over
  puts new over h made = record {
    hand = h.hand ∙ made;
    texts = ap (λ (t : Table). t.texts) h.table;
    table = record {
      nodes = (p.node, ap (λ (t : Table). t.nodes) h.table);
      classes = ap (λ (t : Table). t.classes) h.table;
      names = ap (λ (t : Table). t.names) h.table;
      bodies = ap (λ (t : Table). t.bodies) h.table;
      types = ap (λ (t : Table). t.types) h.table;
      roots = h.roots;
    };
  }

map-reversed : {X Y : Type 0} (f : X → Y) (xs : List X) → map f (reverse xs) ≡ reverse (map f xs)
map-reversed f [] = refl
map-reversed f (x ∷ xs) =
    ap (map f) (reverse-append (x ∷ []) xs) ∙ map-append f (reverse xs) (x ∷ []) ∙ ap (λ ys. ys ++ f x ∷ []) (map-reversed f xs) ∙ sym (reverse-append (f x ∷ []) (map f xs))

-- the heights in hand, read from the last one
module _ (s d : Unfinished) (same : s ≡ d) (hs : List ℕ) (kept : IsKept s.table s.nodes hs) where
  hand-heights : map height (in_hand s) ≡ reverse hs
  unfolding in_hand
  hand-heights =
      let f : NodeId → Tree = λ i. tree_at s.table i.0 in
      map-reversed height (map f s.nodes) ∙ ap reverse (heights s.nodes ∙ sym kept.same)
    where
      heights : (is : List NodeId) → map height (map (λ i. tree_at s.table i.0) is) ≡ heights_of s.table is
      heights [] = refl
      heights (i ∷ is) = ap (λ ns. height (tree_at s.table i.0) ∷ ns) (heights is)

  pub as_many : length hs ≡ length (in_hand d)
  as_many = sym (length-reverse hs) ∙ sym (ap length hand-heights) ∙ length-map (in_hand s) height ∙ ap (λ v. length (in_hand v)) same

  pub height-below : (n below r : ℕ) → n ≡ length hs → below < length (in_hand d) → r ≡ get_or hs (n - 1 - below) r → option_map height (slice_get (in_hand d) below) ≡ Some r
  height-below n below r long within read =
      ap (λ v. option_map height (slice_get (in_hand v) below)) (sym same)
      ∙ sym (slice_get-map height (in_hand s) below)
      ∙ ap (λ ns. slice_get ns below) hand-heights
      ∙ slice_get_read (reverse hs) (length hs) below r (sym (length-reverse hs)) (omega (arith, as_many))
      (read ∙ ap (λ m. get_or hs (m - 1 - below) r) long ∙ sym (get_or-reverse hs below r (omega (arith, as_many))))
