-- What each node over expressions asks of the hand, and what it makes of it.
use Rattle.std.proofs.Common.{◌≡◌, ℕ, ◌+◌, ◌<◌, ◌≤◌, List, [], ◌∷◌, drop, length, refl, sym, ap, ◌∙◌, subst, arith}
use Rattle.hb_types.specs.declared.{ids.NodeId.NodeId, ids.NameId.NameId}
use Rattle.hb_tree.specs.declared.{node.ArgList.ArgList, node.Op.Op, node.Node.Node, node.Placed.Placed, limits.TheConstants.NODES_MAX}
use Rattle.hb_tree.specs.declared.node.Node.TheVariants as node
use Rattle.hb_tree.specs.{Tree.Tree, Tree.TCall, TreeAt.tree_at, TreeAt.tree_of, TreeAt.forest_at, Program.IsArgList, Program.HasPlaces, Program.IsKnownIn}
use Rattle.hb_tree.specs.Nodes.{numbers_of, args_of, exprs_of, blocks_of}
use Rattle.hb_draft.specs.Put.{CanPut, PutsNode, with_node, last_nodes}
use Rattle.hb_draft.specs.Unfinished.{Unfinished, HasExprs, Puts, HasTurn, HasBranches, in_hand, unary_over, if_over, while_over, binary_over, call_over, receive, last_in, forest_of}
use Rattle.hb_draft.proofs.Hands.{length-hand, can_put, puts, next-hand, forest-hand, last_one, last_two}

abbrev pub placed_at : Node → ℕ × ℕ → Placed
placed_at n place = record { node = n; line = place.0; column = place.1 }

-- there are as many nodes in hand as trees
pub enough_nodes : (d : Unfinished) (n : ℕ) → HasExprs n (in_hand d) → n ≤ length d.nodes
unfolding in_hand
enough_nodes d n has = omega (arith, has.enough, length-hand d.table d.nodes)

-- the trees on top, by the nodes there
pub two_on_top : (d : Unfinished) (a b : NodeId) → 2 ≤ length d.nodes → last_nodes 2 d.nodes ≡ a ∷ last_nodes 1 d.nodes → last_nodes 1 d.nodes ≡ b ∷ last_nodes 0 d.nodes
    → in_hand d ≡ tree_at d.table b.0 ∷ tree_at d.table a.0 ∷ drop 2 (in_hand d)
unfolding in_hand
two_on_top d a b enough two one = next-hand d.table d.nodes 0 b (omega arith) one ∙ ap (λ ts. tree_at d.table b.0 ∷ ts) (next-hand d.table d.nodes 1 a enough two)

three_on_top : (d : Unfinished) (c a b : NodeId) → 3 ≤ length d.nodes → last_nodes 3 d.nodes ≡ c ∷ last_nodes 2 d.nodes → last_nodes 2 d.nodes ≡ a ∷ last_nodes 1 d.nodes → last_nodes 1 d.nodes ≡ b ∷ last_nodes 0 d.nodes
    → in_hand d ≡ tree_at d.table b.0 ∷ tree_at d.table a.0 ∷ tree_at d.table c.0 ∷ drop 3 (in_hand d)
unfolding in_hand
three_on_top d c a b enough three two one = two_on_top d a b (omega arith) two one ∙ ap (λ ts. tree_at d.table b.0 ∷ tree_at d.table a.0 ∷ ts) (next-hand d.table d.nodes 2 c enough three)

has_two : (ts : List Tree) → HasTurn ts → 2 ≤ length ts
has_two (b ∷ c ∷ ts) h = omega arith
has_two _ h = absurd h

has_three : (ts : List Tree) → HasBranches ts → 3 ≤ length ts
has_three (b ∷ a ∷ c ∷ ts) h = omega arith
has_three _ h = absurd h

pub two_nodes : (d : Unfinished) → HasTurn (in_hand d) → 2 ≤ length d.nodes
unfolding in_hand
two_nodes d has = omega (arith, has_two (in_hand d) has, length-hand d.table d.nodes)

pub three_nodes : (d : Unfinished) → HasBranches (in_hand d) → 3 ≤ length d.nodes
unfolding in_hand
three_nodes d has = omega (arith, has_three (in_hand d) has, length-hand d.table d.nodes)

module _ (d : Unfinished) (place : ℕ × ℕ) (room : length d.table.nodes < NODES_MAX) where
  -- a node over one expression
  pub unary_can : (n : Node) (e : NodeId) → HasExprs 1 (in_hand d) → last_nodes 1 d.nodes ≡ e ∷ last_nodes 0 d.nodes
      → exprs_of (with_node d.table (placed_at n place)) n ≡ e.0 ∷ [] → blocks_of (with_node d.table (placed_at n place)) n ≡ []
      → HasPlaces (with_node d.table (placed_at n place)) n → IsKnownIn (with_node d.table (placed_at n place)) (length d.table.nodes) n → CanPut d (placed_at n place) 1
  unary_can n e has last exprs blocks places known = can_put d (placed_at n place) 1 room has (exprs ∙ sym (ap numbers_of (last_one d.table d.nodes e last))) blocks places known

  pub if_can : (c a b : NodeId) → HasBranches (in_hand d) → last_nodes 3 d.nodes ≡ c ∷ last_nodes 2 d.nodes → last_nodes 2 d.nodes ≡ a ∷ last_nodes 1 d.nodes
      → last_nodes 1 d.nodes ≡ b ∷ last_nodes 0 d.nodes → CanPut d (placed_at (node.If c a b) place) 3
  if_can c a b has three two one =
      let parts = subst HasBranches (three_on_top d c a b (three_nodes d has) three two one) has in
      record {
        room = room;
        enough = three_nodes d has;
        places = tt;
        parts = sym (ap numbers_of (three ∙ ap (λ is. c ∷ is) (last_two d.table d.nodes a b two one)));
        exprs = (parts.0, tt);
        blocks = (parts.1, (parts.2, tt));
        known = tt;
      }

  pub while_can : (c b : NodeId) → HasTurn (in_hand d) → last_nodes 2 d.nodes ≡ c ∷ last_nodes 1 d.nodes → last_nodes 1 d.nodes ≡ b ∷ last_nodes 0 d.nodes → CanPut d (placed_at (node.While c b) place) 2
  while_can c b has two one =
      let parts = subst HasTurn (two_on_top d c b (two_nodes d has) two one) has in
      record {
        room = room;
        enough = two_nodes d has;
        places = tt;
        parts = sym (ap numbers_of (last_two d.table d.nodes c b two one));
        exprs = (parts.0, tt);
        blocks = (parts.1, tt);
        known = tt;
      }

  pub binary_can : (op : Op) (a b : NodeId) → HasExprs 2 (in_hand d) → last_nodes 2 d.nodes ≡ a ∷ last_nodes 1 d.nodes → last_nodes 1 d.nodes ≡ b ∷ last_nodes 0 d.nodes → CanPut d (placed_at (node.Binary op a b) place) 2
  binary_can op a b has two one = can_put d (placed_at (node.Binary op a b) place) 2 room has (sym (ap numbers_of (last_two d.table d.nodes a b two one))) refl tt tt

  pub call_can : (r : NodeId) (m : NameId) (args : ArgList) (count : ℕ) → HasExprs (count + 1) (in_hand d) → last_nodes (count + 1) d.nodes ≡ r ∷ last_nodes count d.nodes
      → args_of args ≡ last_nodes count d.nodes → IsArgList r args → m.0 < length d.table.names → CanPut d (placed_at (node.Call r m args) place) (count + 1)
  call_can r m args count has last same form known =
      can_put d (placed_at (node.Call r m args) place) (count + 1) room has (sym (ap numbers_of (last ∙ ap (λ is. r ∷ is) (sym same)))) refl tt (known, form)

module _ (d new : Unfinished) (place : ℕ × ℕ) where
  pub unary_puts : (n : Node) (e : NodeId) (make : ℕ → Tree → Tree) → HasExprs 1 (in_hand d) → last_nodes 1 d.nodes ≡ e ∷ last_nodes 0 d.nodes
      → tree_of new.table (tree_at d.table) (length d.table.nodes) n ≡ make (length d.table.nodes) (tree_at d.table e.0) → PutsNode d new (placed_at n place) 1 → Puts d new place (unary_over make)
  unfolding in_hand
  unary_puts n e make has last made h =
      let top = next-hand d.table d.nodes 0 e (enough_nodes d 1 has) last in
      puts d (placed_at n place) 1 new (unary_over make) h (ap (λ t. t ∷ drop 1 (in_hand d)) made ∙ sym (ap (unary_over make (length d.table.nodes)) top))

  pub if_puts : (c a b : NodeId) → HasBranches (in_hand d) → last_nodes 3 d.nodes ≡ c ∷ last_nodes 2 d.nodes → last_nodes 2 d.nodes ≡ a ∷ last_nodes 1 d.nodes → last_nodes 1 d.nodes ≡ b ∷ last_nodes 0 d.nodes
      → PutsNode d new (placed_at (node.If c a b) place) 3 → Puts d new place if_over
  if_puts c a b has three two one h =
      puts d (placed_at (node.If c a b) place) 3 new if_over h (sym (ap (if_over (length d.table.nodes)) (three_on_top d c a b (three_nodes d has) three two one)))

  pub while_puts : (c b : NodeId) → HasTurn (in_hand d) → last_nodes 2 d.nodes ≡ c ∷ last_nodes 1 d.nodes → last_nodes 1 d.nodes ≡ b ∷ last_nodes 0 d.nodes
      → PutsNode d new (placed_at (node.While c b) place) 2 → Puts d new place while_over
  while_puts c b has two one h = puts d (placed_at (node.While c b) place) 2 new while_over h (sym (ap (while_over (length d.table.nodes)) (two_on_top d c b (two_nodes d has) two one)))

  pub binary_puts : (op : Op) (a b : NodeId) → HasExprs 2 (in_hand d) → last_nodes 2 d.nodes ≡ a ∷ last_nodes 1 d.nodes → last_nodes 1 d.nodes ≡ b ∷ last_nodes 0 d.nodes
      → PutsNode d new (placed_at (node.Binary op a b) place) 2 → Puts d new place (binary_over op)
  binary_puts op a b has two one h =
      puts d (placed_at (node.Binary op a b) place) 2 new (binary_over op) h (sym (ap (binary_over op (length d.table.nodes)) (two_on_top d a b (enough_nodes d 2 has) two one)))

  pub call_puts : (r : NodeId) (m : NameId) (args : ArgList) (count : ℕ) → HasExprs (count + 1) (in_hand d) → last_nodes (count + 1) d.nodes ≡ r ∷ last_nodes count d.nodes
      → args_of args ≡ last_nodes count d.nodes → PutsNode d new (placed_at (node.Call r m args) place) (count + 1) → Puts d new place (call_over m.0 count)
  unfolding in_hand
  call_puts r m args count has last same h =
      let enough : count + 1 ≤ length d.nodes = enough_nodes d (count + 1) has in
      let id : ℕ = length d.table.nodes in
      let below = next-hand d.table d.nodes count r enough last in
      let es : forest_at (tree_at d.table) (args_of args) ≡ forest_of (last_in count (in_hand d)) = ap (forest_at (tree_at d.table)) same ∙ sym (forest-hand d.table d.nodes count (omega arith)) in
      puts d (placed_at (node.Call r m args) place) (count + 1) new (call_over m.0 count) h
      (ap (λ ts. TCall id (tree_at d.table r.0) m.0 ts ∷ drop (count + 1) (in_hand d)) es
      ∙ sym (ap (receive (λ e. TCall id e m.0 (forest_of (last_in count (in_hand d))))) below))
