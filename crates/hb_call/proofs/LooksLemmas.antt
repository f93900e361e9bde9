-- The judgement of a program's node looks only at keys whose names are the program's.
use Rattle.std.proofs.Common.{◌≡◌, ℕ, zero, suc, ◌<◌, List, [], ◌∷◌, ◌++◌, length, Some, None, refl}
use Rattle.std.proofs.lemmas.Option.{none-some}
use Rattle.std.specs.Prelude.{Err, Ok, Option}
use Rattle.hb_types.specs.declared.{ids.NodeId.NodeId, types.MethodTy.MethodTy, types.Ty.Ty}
use Rattle.hb_types.specs.declared.types.Ty.TheVariants as ty
use Rattle.hb_types.specs.Variables.{Variables}
use Rattle.hb_tree.specs.declared.node.Method.TheVariants as method
use Rattle.hb_tree.specs.declared.{node.Node.Node, parts.Body.Body}
use Rattle.hb_tree.specs.declared.node.Node.TheVariants as node
use Rattle.hb_tree.specs.Nodes.{args_of, items_of, node_at}
use Rattle.hb_tree.specs.{Program.IsKnownIn, Program.IsProgram, Table.Table, Tree.Tree}
use Rattle.hb_tree.specs.TreeAt.{forest_at, tree_at, tree_down, tree_of, tree_of_place}
use Rattle.hb_deriv.specs.Events.{Done, Events, Look, behind, done, events, events_args, events_items, look_at}
use Rattle.hb_deriv.specs.Judge.{Subject, Typed, Types, Verdict, keys_of}
use Rattle.hb_deriv.specs.Programs.{subject_from}

-- each look is at a key whose name is below
abbrev pub LooksBelow : ℕ → Events → Type 0
LooksBelow n [] = Unit {0}
LooksBelow n (Look id k ∷ es) = (k.1 < n) × LooksBelow n es
LooksBelow n (Done id t ∷ es) = LooksBelow n es

below_both : (n : ℕ) (es fs : Events) → LooksBelow n es → LooksBelow n fs → LooksBelow n (es ++ fs)
below_both n [] fs h k = k
below_both n (Look id x ∷ es) fs h k = (h.0, below_both n es fs h.1 k)
below_both n (Done id t ∷ es) fs h k = below_both n es fs h k

below_behind : {A : Type 0} (n : ℕ) (v : Verdict A) (f : A → Events) → ((r : A) → LooksBelow n (f r)) → LooksBelow n (behind v f)
unfolding behind
below_behind n (Ok r) f h = h r
below_behind n (Err e) f h = tt

-- the same as a record, from which the events can be read
pub record AreNamed (n : ℕ) (es : Events) : Type 0 where
  pub below : LooksBelow n es

-- an expression is finished, which is no look
named_done : (n id : ℕ) (t : Ty) → AreNamed n (Done id t ∷ [])
named_done n id t = record { below = tt }

named_last : {A : Type 0} (n id : ℕ) (v : Verdict A) (f : A → Ty) → AreNamed n (behind v (λ r. Done id (f r) ∷ []))
named_last n id v f = record { below = below_behind n v (λ r. Done id (f r) ∷ []) (λ r. tt) }

-- one part, and then what follows from it
named_then : {A : Type 0} (n : ℕ) (es : Events) (v : Verdict A) (f : A → Events) → AreNamed n es → ((r : A) → AreNamed n (f r)) → AreNamed n (es ++ behind v f)
named_then n es v f h k = record { below = below_both n es (behind v f) h.below (below_behind n v f (λ r. (k r).below)) }

below_keys : (n id m : ℕ) (t : Ty) → m < n → LooksBelow n (look_at id (keys_of t m))
below_keys n id m (ty.Class c) h = (h, tt)
below_keys _ _ _ _ _ = tt

-- a call looks at its own name
named_call : (n id m : ℕ) (t : Ty) (v : Verdict Typed) → m < n → AreNamed n (look_at id (keys_of t m) ++ done id v)
named_call n id m t v h = record { below = below_both n (look_at id (keys_of t m)) (done id v) (below_keys n id m t h) (below_behind n v (λ r. Done id r.1 ∷ []) (λ r. tt)) }

module _ (t : Table) (types : Types) (self : ℕ) where
  -- the looks in a tree are at the program's names
  abbrev pub LooksIn : Tree → Type 0
  LooksIn e = (G : Variables) → AreNamed (length t.names) (events types self e G)

  module _ (part : ℕ → Tree) (each : (id : ℕ) → LooksIn (part id)) where
    named_items : (is : List NodeId) (G : Variables) (r : Ty) → AreNamed (length t.names) (events_items types self (forest_at part is) G r)
    named_items [] G r = record { below = tt }
    named_items (i ∷ is) G r = named_then _ _ _ _ (each i.0 G) (λ (p : Typed). named_items is p.0 p.1)

    named_args : (is : List NodeId) (G : Variables) (rs : List Ty) → AreNamed (length t.names) (events_args types self (forest_at part is) G rs)
    named_args [] G rs = record { below = tt }
    named_args (i ∷ is) G rs = named_then _ _ _ _ (each i.0 G) (λ (p : Typed). named_args is p.0 (rs ++ p.1 ∷ []))

    named_node : (id : ℕ) (n : Node) → IsKnownIn t id n → LooksIn (tree_of t part id n)
    named_node id (node.Var x) h G = named_last _ id _ _
    named_node id (node.Assign x e) h G = named_then _ _ _ _ (each e.0 G) (λ r. named_done _ id _)
    named_node id (node.Print e) h G = named_then _ _ _ _ (each e.0 G) (λ r. named_done _ id _)
    named_node id (node.ToStr e) h G = named_then _ _ _ _ (each e.0 G) (λ r. named_done _ id _)
    named_node id (node.Not e) h G = named_then _ _ _ _ (each e.0 G) (λ r. named_done _ id _)
    named_node id (node.Binary op a b) h G = named_then _ _ _ _ (each a.0 G) (λ (r : Typed). named_then _ _ _ _ (each b.0 r.0) (λ q. named_last _ id _ _))
    named_node id (node.If c a b) h G = named_then _ _ _ _ (each c.0 G) (λ (r : Typed). named_then _ _ _ _ (each a.0 r.0) (λ p. named_then _ _ _ _ (each b.0 r.0) (λ q. named_done _ id _)))
    named_node id (node.While c b) h G = named_then _ _ _ _ (each c.0 G) (λ (r : Typed). named_then _ _ _ _ (each b.0 r.0) (λ q. named_last _ id _ _))
    named_node id (node.Call r m args) h G = named_then _ _ _ _ (each r.0 G) (λ (p : Typed). named_then _ _ _ _ (named_args (args_of args) p.0 []) (λ q. named_call _ id m.0 p.1 _ h.0))
    named_node id (node.Def (method.Computed c e) s) h G = named_then _ _ _ _ (each e.0 G) (λ r. named_last _ id _ _)
    named_node id (node.Declare (method.Computed c e) s q) h G = named_then _ _ _ _ (each e.0 G) (λ r. named_last _ id _ _)
    named_node id (node.Block first count) h G = named_items (items_of t first count) G ty.Nil
    named_node id _ _ _ = named_done _ id _

    named_place : (id : ℕ) (o : Option Node) → ((n : Node) → o ≡ Some n → IsKnownIn t id n) → LooksIn (tree_of_place t part id o)
    named_place id None h G = named_done _ id _
    named_place id (Some n) h G = named_node id n (h n refl) G

  named_down : IsProgram t → (depth id : ℕ) → LooksIn (tree_down t depth id)
  unfolding tree_down
  named_down program zero id G = named_done _ id _
  named_down program (suc depth) id G = named_place (tree_down t depth) (named_down program depth) id (node_at t id) (λ n e. (program.nodes id n e).known) G

  pub looks_below : IsProgram t → (id : ℕ) (G : Variables) → LooksBelow (length t.names) (events types self (tree_at t id) G)
  unfolding tree_at
  looks_below program id G = (named_down program (suc id) id G).below

-- the block of a body that is judged is the tree at a node
pub block_at : (t : Table) (class : ℕ) (b : Option Body) (declared : Option MethodTy) (s : Subject) → subject_from t class b declared ≡ Some s → (id : ℕ) × (s.block ≡ tree_at t id)
block_at t class None declared s e = absurd (none-some s e)
block_at t class (Some b) None s e = absurd (none-some s e)
block_at t class (Some b) (Some m) s e = (b.block.0, let same = some_is e in same)
  where
    some_is : {x : Subject} → Some x ≡ Some s → s.block ≡ x.block
    some_is e = cc
