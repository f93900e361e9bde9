-- What is laid stays laid while a table grows.
use Rattle.std.proofs.Common.{◌≡◌, ℕ, zero, suc, ◌<◌, ◌≤◌, List, [], ◌∷◌, length, Some, refl, sym, ap, ◌∙◌, subst, arith}
use Rattle.hb_types.specs.declared.ids.NodeId.{NodeId}
use Rattle.hb_tree.specs.{Table.Table, Tree.Tree, TreeAt.forest_at, TreeAt.tree_at, TreeAt.tree_of, Program.IsExprNode, Grows.Grows, Grows.IsFounded}
use Rattle.hb_tree.specs.declared.node.Node.{Node}
use Rattle.hb_tree.specs.declared.node.Node.TheVariants as node
use Rattle.hb_tree.specs.declared.node.Method.TheVariants as method
use Rattle.hb_tree.specs.Nodes.{node_at, numbers_of}
use Rattle.hb_tree.proofs.{Trees.id_of-tree_at, Trees.node_within, Growth.tree_at-grown}
use Rattle.hb_draft.specs.Laid.{IsLaid, ids_of, items_in, items_before}
use Rattle.hb_draft.specs.Kept.{IsKept}
use Rattle.hb_draft.specs.Unfinished.{Unfinished}

-- the numbers of nodes are those of their trees
pub ids_of-trees : (t : Table) (is : List NodeId) → ids_of (forest_at (tree_at t) is) ≡ numbers_of is
ids_of-trees t [] = refl
ids_of-trees t (i ∷ is) = rw (id_of-tree_at t i.0, ids_of-trees t is) refl

-- a node that is no block has no items
pub no_items : (t : Table) (f : ℕ → Tree) (id : ℕ) (n : Node) → IsExprNode (Some n) → items_in (tree_of t f id n) ≡ []
no_items t f id (node.Block first count) h = absurd h
no_items t f id (node.Def (method.Named c m) s) h = refl
no_items t f id (node.Def (method.Computed c e) s) h = refl
no_items t f id (node.Declare (method.Named c m) s q) h = refl
no_items t f id (node.Declare (method.Computed c e) s q) h = refl
no_items t f id _ h = refl

pub no_block : (n : Node) (place : ℕ) → IsExprNode (Some n) → (first count : ℕ) → n ≡ node.Block first count → first ≡ place
no_block n place h first count e = let none : IsExprNode (Some (node.Block first count)) = subst (λ (m : Node). IsExprNode (Some m)) e h in absurd none

module _ (t u : Table) (grown : Grows t u) (founded : IsFounded t) where
  pub items_before-grown : (i : ℕ) → i ≤ length t.nodes → items_before u i ≡ items_before t i
  items_before-grown zero within = refl
  items_before-grown (suc i) within = rw (items_before-grown i (omega arith), tree_at-grown t u grown founded i (omega arith)) refl

  -- the same nodes, items and bodies
  pub laid-named : u.nodes ≡ t.nodes → u.items ≡ t.items → u.bodies ≡ t.bodies → IsLaid t → IsLaid u
  laid-named nodes items bodies laid = record {
    blocks = λ id first count e.
        let old : node_at t id ≡ Some (node.Block first count) = subst (λ ns. node_at (record t { nodes = ns }) id ≡ Some (node.Block first count)) nodes e in
        let within : id < length t.nodes = node_within t id (node.Block first count) old in
        laid.blocks id first count old ∙ sym (ap length (items_before-grown id (omega arith)));
    items = ap numbers_of items ∙ laid.items ∙ sym (items_before-grown (length t.nodes) (omega arith)) ∙ ap (λ ns. items_before u (length ns)) (sym nodes);
    bodies = rw bodies laid.bodies;
  }

-- what a draft keeps, whatever the draft is called
pub kept-laid : (s d : Unfinished) → s ≡ d → (hs : List ℕ) → IsKept s.table s.nodes hs → IsLaid d.table
kept-laid s d same hs kept = subst (λ (v : Unfinished). IsLaid v.table) same kept.draft.laid
