-- A node of a root's block is none of a body's, where no node is reached twice.
use Rattle.std.proofs.Common.{◌≡◌, ◌⊎◌, inl, inr, ℕ, zero, suc, ◌+◌, ◌<◌, ◌≤◌, List, [], ◌∷◌, ◌++◌, Option, Some, None, false, refl, sym, ap, ◌∙◌, subst, arith, nat_eq, eq-eqb}
use Rattle.std.specs.Prelude.{Contains, length, get_or, slice_get}
use Rattle.std.specs.List.{AllByRecursion, flat_map, IsDistinct}
use Rattle.std.specs.Option.{option_map}
use Rattle.std.proofs.{lemmas.Bool.cases_lt, lemmas.List.Concat.flat_map-cons, lemmas.Bool.Decides.eqb_tells, lemmas.Option.none-some, lemmas.Option.same_Some}
use Rattle.hb_types.specs.declared.ids.NodeId.{NodeId}
use Rattle.hb_tree.specs.declared.node.Method.TheVariants as method
use Rattle.hb_tree.specs.declared.{node.Node.Node, node.Placed.Placed, parts.Body.Body}
use Rattle.hb_tree.specs.declared.node.Node.TheVariants as node
use Rattle.hb_tree.specs.{Table.Table, Grows.IsFounded, Roots.IsReachedOnce, Roots.roots, Tree.Tree}
use Rattle.hb_tree.specs.Nodes.{args_of, items_of, numbers_of, node_at, block_in, exprs_of, blocks_of, parts_of}
use Rattle.hb_tree.specs.Program.{IsProgram, IsDefNode, all_parts}
use Rattle.hb_tree.specs.TreeAt.{forest_at, tree_of, tree_of_place, tree_down, tree_at}
use Rattle.hb_tree.proofs.{Lists.each_append, Trees.tree_at_node}
use Rattle.hb_tree.proofs.Reached.{same, times, total-append, once_of_distinct}
use Rattle.hb_sound.specs.Scripts.{IsNodeIn, IsNodeAmong, IsInBody}

-- the number stands in the list
abbrev Stands : ℕ → List ℕ → Type 0
Stands j xs = 1 ≤ times j xs

stands_here : (j : ℕ) (xs : List ℕ) → Stands j (j ∷ xs)
stands_here j xs = rw (eq-eqb j j refl) (omega arith)

same_no : (j x : ℕ) → nat_eq j x ≡ false → same j x ≡ 0
same_no j x e = rw e refl

stands_later : (j x : ℕ) (xs : List ℕ) → Stands j xs → Stands j (x ∷ xs)
stands_later j x xs h = omega (arith, h)

times_both : (j : ℕ) (xs ys : List ℕ) → times j (xs ++ ys) ≡ times j xs + times j ys
times_both j xs ys = total-append (same j) xs ys

stands_front : (j : ℕ) (xs ys : List ℕ) → Stands j xs → Stands j (xs ++ ys)
stands_front j xs ys h = omega (arith, h, times_both j xs ys)

-- what stands in the pieces of one place, or of two, stands in the whole list
module _ {X : Type 0} (f : X → List ℕ) (j : ℕ) where
  whole : (x : X) (xs : List X) → times j (flat_map f (x ∷ xs)) ≡ times j (f x) + times j (flat_map f xs)
  whole x xs = ap (times j) (flat_map-cons f x xs) ∙ times_both j (f x) (flat_map f xs)

  in_one : (xs : List X) (i : ℕ) (x : X) → slice_get xs i ≡ Some x → times j (f x) ≤ times j (flat_map f xs)
  in_one [] i x e = absurd (none-some x e)
  in_one (y ∷ xs) zero x e = let is : y ≡ x = cc in let w = whole y xs in let v = ap (λ z. times j (f z)) is in omega (arith, w, v)
  in_one (y ∷ xs) (suc i) x e = let w = whole y xs in let r = in_one xs i x e in omega (arith, w, r)

  in_two : (xs : List X) (i k : ℕ) (x y : X) → slice_get xs i ≡ Some x → slice_get xs k ≡ Some y → i < k → times j (f x) + times j (f y) ≤ times j (flat_map f xs)
  in_two [] i k x y e g less = absurd (none-some x e)
  in_two (z ∷ xs) i zero x y e g less = absurd (omega (arith, less))
  in_two (z ∷ xs) zero (suc k) x y e g less = let is : z ≡ x = cc in let w = whole z xs in let v = ap (λ z. times j (f z)) is in let r = in_one xs k y g in omega (arith, w, v, r)
  in_two (z ∷ xs) (suc i) (suc k) x y e g less = let w = whole z xs in let r = in_two xs i k x y e g (omega (arith, less)) in omega (arith, w, r)

-- the parts of a node without the block of a definition
own_of : Table → Node → List ℕ
own_of t (node.Def m s) = exprs_of t (node.Def m s)
own_of t n = parts_of t n

own_some : (t : Table) (n : Node) (j : ℕ) → times j (own_of t n) ≤ times j (parts_of t n)
unfolding own_of
own_some t (node.Def m s) j = omega (arith, times_both j (exprs_of t (node.Def m s)) (blocks_of t (node.Def m s)))
own_some t _ j = omega arith

-- a node that is reached from another one through own parts
data Under (t : Table) (root : ℕ) : ℕ → Type 0 where
  Top : Under t root root
  Part : (p j : ℕ) (n : Node) → Under t root p → node_at t p ≡ Some n → Stands j (own_of t n) → Under t root j

-- no node has it as an own part
IsHead : Table → ℕ → Type 0
IsHead t a = (p : ℕ) (n : Node) → node_at t p ≡ Some n → Stands a (own_of t n) → ⊥

module _ (t : Table) (apart : IsDistinct nat_eq (all_parts t)) where
  -- where a node is read
  placed : (i : ℕ) (n : Node) → node_at t i ≡ Some n → (p : Placed) × (slice_get t.nodes i ≡ Some p) × (p.node ≡ n)
  placed i n e = go (slice_get t.nodes i) refl e
    where
      go : (o : Option Placed) → slice_get t.nodes i ≡ o → option_map (λ p. p.node) o ≡ Some n → (p : Placed) × (slice_get t.nodes i ≡ Some p) × (p.node ≡ n)
      go None k e = absurd (none-some n e)
      go (Some p) k e = (p, k, cc)

  -- the parts of a node are among all parts
  of_node : (i : ℕ) (n : Node) (j : ℕ) → node_at t i ≡ Some n → times j (parts_of t n) ≤ times j (all_parts t)
  of_node i n j e =
      let p = placed i n e in
      subst (λ m. times j (parts_of t m) ≤ times j (all_parts t)) p.2 (in_one (λ (q : Placed). parts_of t q.node) j t.nodes i p.0 p.1)

  -- a number is a part of one node at most
  one_parent : (i k : ℕ) (m n : Node) (j : ℕ) → node_at t i ≡ Some m → node_at t k ≡ Some n → Stands j (parts_of t m) → Stands j (parts_of t n) → i < k → ⊥
  one_parent i k m n j e g h l less =
      let p = placed i m e in let q = placed k n g in
      let both = in_two (λ (q : Placed). parts_of t q.node) j t.nodes i k p.0 q.0 p.1 q.1 less in
      let once = once_of_distinct j (all_parts t) apart in
      let a = subst (λ x. Stands j (parts_of t x)) (sym p.2) h in
      let b = subst (λ x. Stands j (parts_of t x)) (sym q.2) l in
      omega (arith, both, once, a, b)

  own_parent : (i k : ℕ) (m n : Node) (j : ℕ) → node_at t i ≡ Some m → node_at t k ≡ Some n → Stands j (own_of t m) → Stands j (own_of t n) → i ≡ k
  own_parent i k m n j e g h l = elim (cases_lt i k) [ inl less ↦ absurd (one_parent i k m n j e g (part m h) (part n l) less) | inr ge ↦ last (cases_lt k i) ge ]
    where
      part : (n : Node) → Stands j (own_of t n) → Stands j (parts_of t n)
      part n h = omega (arith, h, own_some t n j)

      last : (k < i) ⊎ (i ≤ k) → k ≤ i → i ≡ k
      last (inl less) ge = absurd (one_parent k i n m j g e (part n l) (part m h) less)
      last (inr le) ge = omega (arith, le, ge)

  top_meets : (a b : ℕ) → Under t b a → IsHead t a → a ≡ b
  unfolding IsHead
  top_meets a _ Top h = refl
  top_meets a b (Part p _ n u e s) h = absurd (h p n e s)

  -- a node from which an own part is reached is reached itself
  parent_of : (b j : ℕ) → Under t b j → (p : ℕ) (n : Node) → node_at t p ≡ Some n → Stands j (own_of t n) → IsHead t b → Under t b p
  unfolding IsHead
  parent_of b _ Top p n e s hb = absurd (hb p n e s)
  parent_of b j (Part q _ m w g l) p n e s hb = subst (λ k. Under t b k) (sym (own_parent p q n m j e g s l)) w

  -- two heads from which one node is reached are one
  heads_meet : (a b j : ℕ) → Under t a j → Under t b j → IsHead t a → IsHead t b → a ≡ b
  heads_meet a b _ Top v ha hb = top_meets a b v ha
  heads_meet a b j (Part p _ n u e s) v ha hb = heads_meet a b p u (parent_of b j v p n e s hb) ha hb

  -- the block of a definition is a part of it, and an own part of no node
  def_part : (d j : ℕ) (n : Node) → node_at t d ≡ Some n → Stands j (blocks_of t n) → own_of t n ≡ exprs_of t n → Stands j (all_parts t) × IsHead t j
  unfolding IsHead
  def_part d j n e h own = (omega (arith, here, of_node d n j e), λ p m g s. elim (cases_lt p d) [ inl less ↦ one_parent p d m n j g e (part m s) here less | inr ge ↦ last p m g s (cases_lt d p) ge ])
    where
      both : times j (parts_of t n) ≡ times j (exprs_of t n) + times j (blocks_of t n)
      both = times_both j (exprs_of t n) (blocks_of t n)

      here : Stands j (parts_of t n)
      here = omega (arith, h, both)

      part : (m : Node) → Stands j (own_of t m) → Stands j (parts_of t m)
      part m s = omega (arith, s, own_some t m j)

      last : (p : ℕ) (m : Node) → node_at t p ≡ Some m → Stands j (own_of t m) → (d < p) ⊎ (p ≤ d) → d ≤ p → ⊥
      last p m g s (inl less) ge = one_parent d p n m j e g here (part m s) less
      last p m g s (inr le) ge =
          let at : p ≡ d = omega (arith, le, ge) in
          let is : m ≡ n = same_Some m n (sym g ∙ ap (node_at t) at ∙ e) in
          let mine : Stands j (exprs_of t n) = subst (λ (l : List ℕ). Stands j l) own (subst (λ (q : Node). Stands j (own_of t q)) is s) in
          let once = once_of_distinct j (all_parts t) apart in
          let upto = of_node d n j e in
          omega (arith, mine, h, both, once, upto)

  -- so is that of a body
  body_part : IsProgram t → (site : ℕ) (b : Body) → slice_get t.bodies site ≡ Some b → Stands b.block.0 (all_parts t) × IsHead t b.block.0
  unfolding own_of
  body_part p site b e = go (node_at t b.def.0) refl (p.bodies site b e).named
    where
      go : (o : Option Node) → node_at t b.def.0 ≡ o → IsDefNode site o → Stands b.block.0 (all_parts t) × IsHead t b.block.0
      go None g h = absurd h
      go (Some (node.Def m s)) g h =
          let is : block_in (slice_get t.bodies s.0) ≡ b.block.0 = ap (λ i. block_in (slice_get t.bodies i)) h ∙ ap block_in e in
          def_part b.def.0 b.block.0 (node.Def m s) g (subst (λ i. Stands b.block.0 (i ∷ [])) (sym is) (stands_here b.block.0 [])) refl
      go (Some _) g h = absurd h

  -- and that of the setup or of a script
  root_part : IsReachedOnce t → (block : ℕ) → Stands block (roots t) → (Stands block (all_parts t) → ⊥) × IsHead t block
  unfolding IsHead
  root_part once block h = (none, λ p n g s. none (omega (arith, s, own_some t n block, of_node p n block g)))
    where
      none : Stands block (all_parts t) → ⊥
      none k = let one = once_of_distinct block (all_parts t ++ roots t) once in let both = times_both block (all_parts t) (roots t) in omega (arith, one, both, h, k)

module _ (t : Table) (founded : IsFounded t) where
  -- a list of trees has a node where one of them has
  among_one : (is : List NodeId) (x : ℕ) → IsNodeAmong (forest_at (tree_at t) is) x → (j : ℕ) × Stands j (numbers_of is) × IsNodeIn (tree_at t j) x
  among_one [] x h = absurd h
  among_one (i ∷ is) x (inl h) = (i.0, stands_here i.0 (numbers_of is), h)
  among_one (i ∷ is) x (inr h) = let r = among_one is x h in (r.0, stands_later r.0 i.0 (numbers_of is) r.1, r.2)

  -- a node of a node's tree is its own, or one of the tree of an own part
  in_part : (id : ℕ) (n : Node) (x : ℕ) → IsNodeIn (tree_of t (tree_at t) id n) x → (x ≡ id) ⊎ ((j : ℕ) × Stands j (own_of t n) × IsNodeIn (tree_at t j) x)
  unfolding own_of
  in_part id (node.Assign y e) x (inl h) = inl h
  in_part id (node.Assign y e) x (inr h) = inr (e.0, stands_here e.0 [], h)
  in_part id (node.Print e) x (inl h) = inl h
  in_part id (node.Print e) x (inr h) = inr (e.0, stands_here e.0 [], h)
  in_part id (node.ToStr e) x (inl h) = inl h
  in_part id (node.ToStr e) x (inr h) = inr (e.0, stands_here e.0 [], h)
  in_part id (node.Not e) x (inl h) = inl h
  in_part id (node.Not e) x (inr h) = inr (e.0, stands_here e.0 [], h)
  in_part id (node.Binary op a b) x (inl h) = inl h
  in_part id (node.Binary op a b) x (inr (inl h)) = inr (a.0, stands_here a.0 (b.0 ∷ []), h)
  in_part id (node.Binary op a b) x (inr (inr h)) = inr (b.0, stands_later b.0 a.0 (b.0 ∷ []) (stands_here b.0 []), h)
  in_part id (node.If c a b) x (inl h) = inl h
  in_part id (node.If c a b) x (inr (inl h)) = inr (c.0, stands_here c.0 (a.0 ∷ b.0 ∷ []), h)
  in_part id (node.If c a b) x (inr (inr (inl h))) = inr (a.0, stands_later a.0 c.0 (a.0 ∷ b.0 ∷ []) (stands_here a.0 (b.0 ∷ [])), h)
  in_part id (node.If c a b) x (inr (inr (inr h))) = inr (b.0, stands_later b.0 c.0 (a.0 ∷ b.0 ∷ []) (stands_later b.0 a.0 (b.0 ∷ []) (stands_here b.0 [])), h)
  in_part id (node.While c b) x (inl h) = inl h
  in_part id (node.While c b) x (inr (inl h)) = inr (c.0, stands_here c.0 (b.0 ∷ []), h)
  in_part id (node.While c b) x (inr (inr h)) = inr (b.0, stands_later b.0 c.0 (b.0 ∷ []) (stands_here b.0 []), h)
  in_part id (node.Call r m args) x (inl h) = inl h
  in_part id (node.Call r m args) x (inr (inl h)) = inr (r.0, stands_here r.0 (numbers_of (args_of args) ++ []), h)
  in_part id (node.Call r m args) x (inr (inr h)) = let k = among_one (args_of args) x h in inr (k.0, stands_later k.0 r.0 (numbers_of (args_of args) ++ []) (stands_front k.0 (numbers_of (args_of args)) [] k.1), k.2)
  in_part id (node.Def (method.Computed c e) s) x (inl h) = inl h
  in_part id (node.Def (method.Computed c e) s) x (inr h) = inr (e.0, stands_here e.0 [], h)
  in_part id (node.Declare (method.Computed c e) s q) x (inl h) = inl h
  in_part id (node.Declare (method.Computed c e) s q) x (inr h) = inr (e.0, stands_here e.0 [], h)
  in_part id (node.Block first count) x h = let k = among_one (items_of t first count) x h in inr (k.0, stands_front k.0 (numbers_of (items_of t first count)) [] k.1, k.2)
  in_part _ _ _ h = inl h

  -- a fact of each number in a list
  each_stands : (P : ℕ → Type 0) (j : ℕ) (xs : List ℕ) → AllByRecursion P xs → Stands j xs → P j
  each_stands P j [] a h = absurd (omega (arith, h))
  each_stands P j (x ∷ xs) a h = elim (eqb_tells j x) [ inl e ↦ subst P (sym e.1) a.0 | inr e ↦ each_stands P j xs a.1 (omega (arith, h, same_no j x e.0)) ]

  own_below : (id : ℕ) (n : Node) (j : ℕ) → node_at t id ≡ Some n → Stands j (own_of t n) → j < id
  own_below id n j e s =
      let b = (founded id n e).below in
      each_stands (λ j. j < id) j (parts_of t n) (each_append (λ j. j < id) (exprs_of t n) (blocks_of t n) b.0 b.1) (omega (arith, s, own_some t n j))

  -- a node of the tree of a node that is reached is reached
  node_under : (k id : ℕ) → id < k → (root : ℕ) → Under t root id → (x : ℕ) → IsNodeIn (tree_at t id) x → Under t root x
  unfolding tree_at tree_down
  node_under zero id less root u x h = absurd (omega (arith, less))
  node_under (suc k) id less root u x h = go (node_at t id) refl (λ j l w h. node_under k j (omega (arith, l, less)) root w x h)
    where
      by : (n : Node) → node_at t id ≡ Some n → ((j : ℕ) → j < id → Under t root j → IsNodeIn (tree_at t j) x → Under t root x) → (x ≡ id) ⊎ ((j : ℕ) × Stands j (own_of t n) × IsNodeIn (tree_at t j) x) → Under t root x
      by n e rec (inl is) = subst (λ y. Under t root y) (sym is) u
      by n e rec (inr p) = rec p.0 (own_below id n p.0 e p.1) (Part id p.0 n u e p.1) p.2

      go : (o : Option Node) → node_at t id ≡ o → ((j : ℕ) → j < id → Under t root j → IsNodeIn (tree_at t j) x → Under t root x) → Under t root x
      go None e rec = let is : x ≡ id = subst (λ o. IsNodeIn (tree_of_place t (tree_down t id) id o) x) e h in subst (λ y. Under t root y) (sym is) u
      go (Some n) e rec = by n e rec (in_part id n x (subst (λ (y : Tree). IsNodeIn y x) (tree_at_node t founded id n e) h))

  under_of : (id x : ℕ) → IsNodeIn (tree_at t id) x → Under t id x
  under_of id x h = node_under (suc id) id (omega arith) id Top x h

contains_stands : (j : ℕ) (xs : List ℕ) → Contains xs j → Stands j xs
contains_stands j [] h = let n = h.1 in absurd (omega (arith, n))
contains_stands j (x ∷ xs) h = by h.0 h.1 h.2 (λ i n e. contains_stands j xs (i, n, e))
  where
    by : (i : ℕ) → i < length (x ∷ xs) → get_or (x ∷ xs) i j ≡ j → ((i : ℕ) → i < length xs → get_or xs i j ≡ j → Stands j xs) → Stands j (x ∷ xs)
    by zero n e rec = subst (λ y. Stands j (y ∷ xs)) (sym e) (stands_here j xs)
    by (suc i) n e rec = stands_later j x xs (rec i (omega (arith, n)) e)

-- no node stands in the block of a root and in a body
pub apart_nodes : (t : Table) → IsProgram t → IsReachedOnce t → (block : ℕ) → Contains (roots t) block → (x : ℕ) → IsNodeIn (tree_at t block) x → IsInBody t x → ⊥
apart_nodes t p once block root x h body =
    let b = body.1 in
    let founded : IsFounded t = λ id n e. (p.nodes id n e).parts in
    let r = root_part t p.apart once block (contains_stands block (roots t) root) in
    let d = body_part t p.apart p body.0 b body.2 in
    let one : block ≡ b.block.0 = heads_meet t p.apart block b.block.0 x (under_of t founded block x h) (under_of t founded b.block.0 x body.3) r.1 d.1 in
    r.0 (subst (λ y. Stands y (all_parts t)) (sym one) d.0)
