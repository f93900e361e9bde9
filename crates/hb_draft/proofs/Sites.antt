-- A definition with its body, and a declaration with its type.
use Rattle.std.proofs.Common.{◌≡◌, ℕ, ◌<◌, ◌≤◌, List, [], ◌∷◌, ◌++◌, drop, length, length-append, Some, Bool, refl, sym, ap, ◌∙◌, subst, arith, add-zero, IsSomeAnd, option_map}
use Rattle.std.specs.{Prelude.slice_get, List.AllByRecursion}
use Rattle.std.proofs.{lemmas.List.append-nil, lemmas.Option.none-some}
use Rattle.hb_types.specs.declared.{ids.NodeId.NodeId, ids.NameId.NameId, ids.ClassId.ClassId, types.MethodTy.MethodTy}
use Rattle.hb_tree.proofs.{Trees.id_of-tree_at, Growth.tree_at-grown}
use Rattle.hb_tree.specs.{Table.Table, TreeAt.tree_at}
use Rattle.hb_tree.specs.declared.{node.Node.Node, node.Placed.Placed, parts.Body.Body}
use Rattle.hb_tree.specs.declared.node.Node.TheVariants as node
use Rattle.hb_tree.specs.declared.node.Method.TheVariants as method
use Rattle.hb_tree.specs.Tree.{Tree, IsBlock, TDef, TDeclare}
use Rattle.hb_tree.specs.Nodes.{numbers_of, params_of, block_in, node_at}
use Rattle.hb_tree.specs.Program.{IsBodyIn, IsTypeIn, IsMethodTyIn, IsDefNode, IsDeclareNode}
use Rattle.hb_draft.proofs.{Laid.no_block, Lists.slice_get-last, Lists.slice_get-single, Puts.hand_after, Steps.placed_at}
use Rattle.hb_draft.specs.Kept.{IsDraft, IsKept, heights_of, heights_after}
use Rattle.hb_draft.specs.{Laid.IsFilled, Put.IsOver, Put.last_nodes}
use Rattle.hb_draft.specs.Unfinished.{Unfinished, IsBlockPart, HasBlock, IsBodyBlock, AreParams, KeepsRoots, PutsDef, PutsDeclare, in_hand, trees_of}
use Rattle.hb_draft.proofs.Append.{appended, appended-grows, founded, same_texts, has_parts, block_part, IsNext, kept-next, hand-next, roots-next}
use Rattle.hb_draft.proofs.Hands.{length-hand, next-hand, last_none, last_one}

has_one : (P : Tree → Type 0) (ts : List Tree) → HasBlock P ts → 1 ≤ length ts
has_one P [] h = absurd h
has_one P (t ∷ ts) h = omega arith

module _ (d : Unfinished) (P : Tree → Type 0) (has : HasBlock P (in_hand d)) where
  pub one_node : 1 ≤ length d.nodes
  unfolding in_hand
  one_node = omega (arith, has_one P (in_hand d) has, length-hand d.table d.nodes)

  pub top_hand : (b : NodeId) → last_nodes 1 d.nodes ≡ b ∷ last_nodes 0 d.nodes → in_hand d ≡ tree_at d.table b.0 ∷ drop 1 (in_hand d)
  unfolding in_hand
  top_hand b last = next-hand d.table d.nodes 0 b one_node last

  pub top_block : (b : NodeId) → last_nodes 1 d.nodes ≡ b ∷ last_nodes 0 d.nodes → IsBlock (tree_at d.table b.0) × P (tree_at d.table b.0)
  top_block b last = subst (HasBlock P) (top_hand b last) has

-- the table with a definition more, and its body
abbrev pub with_body : Table → Body → Placed → Table
with_body t b p = record t { nodes = t.nodes ++ p ∷ []; bodies = t.bodies ++ b ∷ [] }

-- what a definition asks for
pub record CanDef (d : Unfinished) (class m : ℕ) (b : Body) (xs : List ℕ) : Type 0 where
  pub room : length d.table.nodes < 65535
  pub known_class : class < length d.table.classes
  pub known_name : m < length d.table.names
  pub itself : b.def.0 ≡ length d.table.nodes
  pub places : length b.params ≡ 4
  pub few : b.count ≤ 4
  pub filled : IsFilled b
  pub named : params_of b ≡ xs
  pub params : AreParams d.table xs
  pub has : HasBlock (IsBodyBlock xs) (in_hand d)
  pub last : last_nodes 1 d.nodes ≡ b.block ∷ last_nodes 0 d.nodes

module _ (t : Table) (ids : List NodeId) (draft : IsDraft t ids) (place : ℕ × ℕ) (class : ClassId) (m : NameId) (b : Body) (xs : List ℕ) (can : CanDef (record { table = t; nodes = ids }) class.0 m.0 b xs) where
  abbrev n : Node
  n = node.Def (method.Named class m) (record { 0 = length t.bodies })

  abbrev p : Placed
  p = placed_at n place

  abbrev u : Table
  u = appended t t.texts [] (b ∷ []) [] p

  plain : u ≡ with_body t b p
  plain = rw (append-nil t.items, append-nil t.types) refl

  abbrev old : Unfinished
  old = record { table = t; nodes = ids }

  at_site : slice_get (t.bodies ++ b ∷ []) (length t.bodies) ≡ Some b
  at_site = slice_get-last t.bodies b

  at_node : node_at u (length t.nodes) ≡ Some n
  at_node = ap (option_map (λ q. q.node)) (slice_get-last t.nodes p)

  block : IsBlock (tree_at t b.block.0) × IsBodyBlock xs (tree_at t b.block.0)
  block = top_block old (IsBodyBlock xs) can.has b.block can.last

  over : IsOver t u ids 1 n
  over = record {
    room = can.room;
    enough = one_node old (IsBodyBlock xs) can.has;
    places = omega (arith, length-append t.bodies (b ∷ []));
    parts = ap (λ o. block_in o ∷ []) at_site ∙ sym (ap numbers_of (last_one t ids b.block can.last));
    exprs = tt;
    blocks = subst (λ o. AllByRecursion (λ j. IsBlockPart (tree_at t j)) (block_in o ∷ [])) (sym at_site) (record { kind = block.0; low = block.1.low }, tt);
    known = ((can.known_class, can.known_name), subst (λ o. IsSomeAnd o (λ c. c.def.0 ≡ length t.nodes)) (sym at_site) can.itself);
  }

  low : b.block.0 < length t.nodes
  low = subst (λ o. block_in o < length t.nodes) at_site (has_parts t ids t.texts (same_texts t draft.program) [] 1 (b ∷ []) [] p draft over).below.1.0

  same_tree : tree_at u b.block.0 ≡ tree_at t b.block.0
  same_tree = tree_at-grown t u (appended-grows t ids t.texts (same_texts t draft.program) [] 1 (b ∷ []) [] p) (founded t draft.program) b.block.0 low

  body : IsBodyIn u (length t.bodies) b
  body = record {
    named = rw can.itself (subst (IsDefNode (length t.bodies)) (sym at_node) refl);
    block = block_part t ids t.texts (same_texts t draft.program) [] 1 (b ∷ []) [] p draft over b.block.0 low (record { kind = block.0; low = block.1.low });
    params = record { places = can.places; few = can.few; known = rw can.named can.params.known; apart = rw can.named can.params.apart };
    few_nodes = rw same_tree block.1.few_nodes;
    few_calls = rw same_tree block.1.few_calls;
    few_variables = rw (can.named, same_tree) block.1.few_variables;
  }

  next : IsNext t ids t.texts [] 1 (b ∷ []) [] p
  next = record {
    over = over;
    items = tt;
    few_items = omega arith;
    bodies = λ k c e. let only = slice_get-single b c k e in rw (only.0, only.1, add-zero) body;
    few_bodies = omega arith;
    types = λ k y e. absurd (none-some y e);
    few_types = omega (arith, draft.program.limits.types);
    begins = no_block n (length t.items) tt;
    laid = refl;
    filled = (can.filled, tt);
  }

  def_keeps : (hs : List ℕ) → hs ≡ heights_of t ids → IsKept (with_body t b p) (hand_after t ids 1) (heights_after 1 hs)
  def_keeps hs same = subst (λ (v : Table). IsKept v (hand_after t ids 1) (heights_after 1 hs)) plain (kept-next t ids t.texts (same_texts t draft.program) [] 1 (b ∷ []) [] p draft over hs same next)

  pub def_puts : PutsDef old (record { table = with_body t b p; nodes = hand_after t ids 1 }) place class.0 m.0 xs
  unfolding in_hand
  def_puts = record {
    block = tree_at t b.block.0;
    rest = drop 1 (trees_of t ids);
    was = top_hand old (IsBodyBlock xs) can.has b.block can.last;
    hand =
        subst (λ (v : Table). trees_of v (hand_after t ids 1) ≡ TDef (length t.nodes) class.0 m.0 (length t.bodies) (tree_at t b.block.0) ∷ drop 1 (trees_of t ids)) plain
        (hand-next t ids t.texts (same_texts t draft.program) [] 1 (b ∷ []) [] p draft over
        ∙ ap (λ o. TDef (length t.nodes) class.0 m.0 (length t.bodies) (tree_at t (block_in o)) ∷ drop 1 (trees_of t ids)) at_site);
    texts = refl;
    body = b;
    gives = record { def = can.itself; block = sym (id_of-tree_at t b.block.0); params = can.named };
    table = record {
      nodes = (n, refl);
      classes = refl;
      names = refl;
      bodies = refl;
      types = refl;
      roots = subst (λ (v : Table). KeepsRoots t v) plain (roots-next t ids t.texts (same_texts t draft.program) [] 1 (b ∷ []) [] p draft);
    };
  }

-- the same, whatever the draft is called
module _ (s d : Unfinished) (same : s ≡ d) (hs : List ℕ) (kept : IsKept s.table s.nodes hs) (place : ℕ × ℕ) (class : ClassId) (m : NameId) (b : Body) (xs : List ℕ) (can : CanDef d class.0 m.0 b xs) where
  abbrev pub def_node : Placed
  def_node = placed_at (node.Def (method.Named class m) (record { 0 = length s.table.bodies })) place

  can' : CanDef s class.0 m.0 b xs
  can' = subst (λ v. CanDef v class.0 m.0 b xs) (sym same) can

  pub def_kept : IsKept (with_body s.table b def_node) (hand_after s.table s.nodes 1) (heights_after 1 hs)
  def_kept = def_keeps s.table s.nodes kept.draft place class m b xs can' hs kept.same

  pub def_made : PutsDef d (record { table = with_body s.table b def_node; nodes = hand_after s.table s.nodes 1 }) place class.0 m.0 xs
  def_made =
      let new : Unfinished = record { table = with_body s.table b def_node; nodes = hand_after s.table s.nodes 1 } in
      subst (λ v. PutsDef v new place class.0 m.0 xs) same (def_puts s.table s.nodes kept.draft place class m b xs can')

-- the table with a declaration more, and its type
abbrev pub with_type : Table → MethodTy × NodeId → Placed → Table
with_type t y p = record t { nodes = t.nodes ++ p ∷ []; types = t.types ++ y ∷ [] }

-- what a declaration asks for
pub record CanDeclare (d : Unfinished) (class m : ℕ) (ty : MethodTy) : Type 0 where
  pub room : length d.table.nodes < 65535
  pub known_class : class < length d.table.classes
  pub known_name : m < length d.table.names
  pub known_ty : IsMethodTyIn d.table ty
  pub few : length d.table.types < 65534

module _ (t : Table) (ids : List NodeId) (draft : IsDraft t ids) (place : ℕ × ℕ) (class : ClassId) (m : NameId) (ty : MethodTy) (asks : Bool) (can : CanDeclare (record { table = t; nodes = ids }) class.0 m.0 ty) where
  abbrev dn : Node
  dn = node.Declare (method.Named class m) (record { 0 = length t.types }) asks

  abbrev dp : Placed
  dp = placed_at dn place

  abbrev y : MethodTy × NodeId
  y = (ty, record { 0 = length t.nodes })

  abbrev du : Table
  du = appended t t.texts [] [] (y ∷ []) dp

  type_plain : du ≡ with_type t y dp
  type_plain = rw (append-nil t.items, append-nil t.bodies) refl

  type_site : slice_get (t.types ++ y ∷ []) (length t.types) ≡ Some y
  type_site = slice_get-last t.types y

  type_node : node_at du (length t.nodes) ≡ Some dn
  type_node = ap (option_map (λ q. q.node)) (slice_get-last t.nodes dp)

  type_over : IsOver t du ids 0 dn
  type_over = record {
    room = can.room;
    enough = omega arith;
    places = tt;
    parts = sym (ap numbers_of (last_none t ids));
    exprs = tt;
    blocks = tt;
    known = ((can.known_class, can.known_name), subst (λ o. IsSomeAnd o (λ z. z.1.0 ≡ length t.nodes)) (sym type_site) refl);
  }

  type_in : IsTypeIn du (length t.types) y
  type_in = record {
    named = subst (IsDeclareNode (length t.types)) (sym type_node) refl;
    known = record { form = can.known_ty.form; params = can.known_ty.params; result = can.known_ty.result };
  }

  type_next : IsNext t ids t.texts [] 0 [] (y ∷ []) dp
  type_next = record {
    over = type_over;
    items = tt;
    few_items = omega arith;
    bodies = λ k c e. absurd (none-some c e);
    few_bodies = omega arith;
    types = λ k z e. let only = slice_get-single y z k e in rw (only.0, only.1, add-zero) type_in;
    few_types = omega (arith, can.few);
    begins = no_block dn (length t.items) tt;
    laid = refl;
    filled = tt;
  }

  declare_keeps : (hs : List ℕ) → hs ≡ heights_of t ids → IsKept (with_type t y dp) (hand_after t ids 0) (heights_after 0 hs)
  declare_keeps hs same = subst (λ (v : Table). IsKept v (hand_after t ids 0) (heights_after 0 hs)) type_plain (kept-next t ids t.texts (same_texts t draft.program) [] 0 [] (y ∷ []) dp draft type_over hs same type_next)

  pub declare_puts : PutsDeclare (record { table = t; nodes = ids }) (record { table = with_type t y dp; nodes = hand_after t ids 0 }) place class.0 m.0 ty asks
  unfolding in_hand
  declare_puts = record {
    hand =
        subst (λ (v : Table). trees_of v (hand_after t ids 0) ≡ TDeclare (length t.nodes) class.0 m.0 (length t.types) asks ∷ trees_of t ids) type_plain
        (hand-next t ids t.texts (same_texts t draft.program) [] 0 [] (y ∷ []) dp draft type_over);
    texts = refl;
    table = record {
      nodes = (dn, refl);
      classes = refl;
      names = refl;
      bodies = refl;
      types = refl;
      roots = subst (λ (v : Table). KeepsRoots t v) type_plain (roots-next t ids t.texts (same_texts t draft.program) [] 0 [] (y ∷ []) dp draft);
    };
  }

-- the same, whatever the draft is called
module _ (s d : Unfinished) (same : s ≡ d) (hs : List ℕ) (kept : IsKept s.table s.nodes hs) (place : ℕ × ℕ) (class : ClassId) (m : NameId) (ty : MethodTy) (asks : Bool) (can : CanDeclare d class.0 m.0 ty) where
  abbrev pub declare_node : Placed
  declare_node = placed_at (node.Declare (method.Named class m) (record { 0 = length s.table.types }) asks) place

  abbrev pub declared : MethodTy × NodeId
  declared = (ty, record { 0 = length s.table.nodes })

  can_declare : CanDeclare s class.0 m.0 ty
  can_declare = subst (λ v. CanDeclare v class.0 m.0 ty) (sym same) can

  pub declare_kept : IsKept (with_type s.table declared declare_node) (hand_after s.table s.nodes 0) (heights_after 0 hs)
  declare_kept = declare_keeps s.table s.nodes kept.draft place class m ty asks can_declare hs kept.same

  pub declare_made : PutsDeclare d (record { table = with_type s.table declared declare_node; nodes = hand_after s.table s.nodes 0 }) place class.0 m.0 ty asks
  declare_made =
      let new : Unfinished = record { table = with_type s.table declared declare_node; nodes = hand_after s.table s.nodes 0 } in
      subst (λ v. PutsDeclare v new place class.0 m.0 ty asks) same (declare_puts s.table s.nodes kept.draft place class m ty asks can_declare)
