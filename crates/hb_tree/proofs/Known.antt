-- What is known of the things that a program names.
use Rattle.std.proofs.Common.{get_or, slice_get, subst, ap, ◌∙◌, map, arith, List, ◌≡◌, ℕ, ◌<◌, length, Option, Some, refl}
use Rattle.hb_tree.specs.{Table.Table, Tree.IsBlock, Grows.IsFounded}
use Rattle.hb_tree.specs.declared.{node.Node.Node, node.Placed.Placed}
use Rattle.hb_tree.specs.declared.node.Node.TheVariants as node
use Rattle.std.specs.Option.{option_map, IfSome}
use Rattle.std.proofs.{lemmas.Option.slice_get_read, lemmas.Option.slice_get-map, lemmas.Option.IfSome_then, lemmas.List.length-map}
use Rattle.hb_tree.specs.Nodes.{node_at, exprs_of, blocks_of, AllParts}
use Rattle.hb_tree.specs.TreeAt.{tree_of, tree_at, IsExprAt, IsBlockAt, HasKinds}
use Rattle.hb_tree.specs.Program.{IsProgram, HasPlaces, IsKnownIn, IsExprNode, IsBlockNode, IsDeclareNode}
use Rattle.hb_tree.specs.declared.node.Method.TheVariants as method
use Rattle.hb_tree.proofs.{Lists.each_weaker, Trees.tree_at_node, Trees.expr_seen, Trees.block_seen}

-- what was read at a place of a list, whatever the table is called
pub got : {X : Type 0} (field : Table → List X) (s t : Table) → s ≡ t → (i : ℕ) (x : X) → i < length (field t) → x ≡ get_or (field s) i x → slice_get (field t) i ≡ Some x
got field s t same i x within read = slice_get_read (field t) (length (field t)) i x refl within (subst (λ u. x ≡ get_or (field u) i x) same read)

-- and what is seen of it
pub got_view : {X Y : Type 0} (field : Table → List Y) (view : X → Y) (xs : List X) (s t : Table) → s ≡ t → field s ≡ map view xs → (i : ℕ) (x : X) → i < length (field t) → x ≡ get_or xs i x
    → slice_get (field t) i ≡ Some (view x)
got_view field view xs s t same seen i x within read =
    let all : field t ≡ map view xs = subst (λ u. field u ≡ map view xs) same seen in
    let inside : i < length xs = omega (arith, ap length all, length-map xs view) in
    ap (λ ys. slice_get ys i) all ∙ slice_get-map view xs i ∙ ap (option_map view) (slice_get_read xs (length xs) i x refl inside read)

-- the node that was read
pub got_node : (s t : Table) → s ≡ t → (id : ℕ) (p : Placed) → id < length t.nodes → p ≡ get_or s.nodes id p → node_at t id ≡ Some p.node
got_node s t same id p within read = ap (option_map (λ q. q.node)) (got (λ u. u.nodes) s t same id p within read)

-- what a caller knows of a node
pub record NodeRead (t : Table) (id : ℕ) (n : Node) : Type 0 where
  pub tree : tree_at t id ≡ tree_of t (tree_at t) id n
  pub parts : AllParts (λ j. j < id) t n
  pub kinds : HasKinds t n
  pub known : IsKnownIn t id n
  pub places : HasPlaces t n

module _ (t : Table) (ok : IsProgram t) where
  pub program_founded : IsFounded t
  program_founded id n e = (ok.nodes id n e).parts

  pub expr_known : (id : ℕ) → IsExprNode (node_at t id) → IsExprAt t id
  expr_known = expr_seen t program_founded

  pub block_known : (id : ℕ) → IsBlockNode (node_at t id) → IsBlockAt t id
  block_known = block_seen t program_founded

  pub node_read : (id : ℕ) (n : Node) → node_at t id ≡ Some n → NodeRead t id n
  node_read id n e =
      let meets = ok.nodes id n e in
      record {
        tree = tree_at_node t program_founded id n e;
        parts = meets.parts.below;
        kinds = (each_weaker (λ j. IsExprNode (node_at t j)) (IsExprAt t) expr_known (exprs_of t n) meets.exprs, each_weaker (λ j. IsBlockNode (node_at t j)) (IsBlockAt t) block_known (blocks_of t n) meets.blocks);
        known = meets.known;
        places = meets.parts.places;
      }

-- the setup that was read
pub setup_read : (s t : Table) → s ≡ t → IsProgram s → IfSome s.setup (λ block. IsBlockAt t block.0)
setup_read s t same ok = subst (λ u. IfSome s.setup (λ block. IsBlockAt u block.0)) same (IfSome_then s.setup ok.setup (λ block h. block_known s ok block.0 h.block))

-- a declaration is an expression
pub declare_is_expr : (site : ℕ) (o : Option Node) → IsDeclareNode site o → IsExprNode o
declare_is_expr site (Some (node.Declare m s q)) h = tt
declare_is_expr site _ h = absurd h

-- no other node than a block is a block
pub block_only : (t : Table) (id : ℕ) (n : Node) → IsBlock (tree_of t (tree_at t) id n) → ((first count : ℕ) → n ≡ node.Block first count → ⊥) → ⊥
block_only t id (node.Block first count) h k = k first count refl
block_only t id (node.Def (method.Named c m) s) h k = h
block_only t id (node.Declare (method.Named c m) s q) h k = h
block_only _ _ _ h _ = h
