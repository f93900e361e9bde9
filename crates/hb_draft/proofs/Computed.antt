-- A definition and a declaration whose method's name is computed by an expression in hand.
use Rattle.std.proofs.Common.{◌≡◌, ℕ, ◌<◌, ◌≤◌, List, [], ◌∷◌, ◌++◌, drop, length, length-append, Some, Bool, refl, sym, ap, ◌∙◌, subst, arith, add-zero, IsSomeAnd, option_map}
use Rattle.std.specs.{Prelude.slice_get, List.AllByRecursion}
use Rattle.std.proofs.{lemmas.List.append-nil, lemmas.Option.none-some}
use Rattle.hb_types.specs.declared.{ids.NodeId.NodeId, ids.ClassId.ClassId, types.MethodTy.MethodTy}
use Rattle.hb_tree.proofs.{Trees.id_of-tree_at, Growth.tree_at-grown}
use Rattle.hb_tree.specs.{Table.Table, TreeAt.tree_at}
use Rattle.hb_tree.specs.declared.{node.Node.Node, node.Placed.Placed, parts.Body.Body}
use Rattle.hb_tree.specs.declared.node.Node.TheVariants as node
use Rattle.hb_tree.specs.declared.node.Method.TheVariants as method
use Rattle.hb_tree.specs.Tree.{Tree, IsBlock, TDefComputed, TDeclareComputed}
use Rattle.hb_tree.specs.Nodes.{numbers_of, params_of, block_in, node_at}
use Rattle.hb_tree.specs.Program.{IsBodyIn, IsTypeIn, IsMethodTyIn, IsDefNode, IsDeclareNode}
use Rattle.hb_draft.proofs.{Laid.no_block, Lists.slice_get-last, Lists.slice_get-single, Puts.hand_after, Sites.with_body, Sites.with_type}
use Rattle.hb_draft.specs.Kept.{IsDraft, IsKept, heights_of, heights_after}
use Rattle.hb_draft.specs.{Laid.IsFilled, Put.IsOver, Put.last_nodes}
use Rattle.hb_draft.specs.Unfinished.{Unfinished, IsExprPart, IsBlockPart, HasExprs, HasNameAndBlock, IsBodyBlock, AreParams, KeepsRoots, PutsComputedDef, PutsComputedDeclare, in_hand, trees_of, unary_over}
use Rattle.hb_draft.proofs.Append.{appended, appended-grows, founded, same_texts, has_parts, block_part, IsNext, kept-next, hand-next, roots-next}
use Rattle.hb_draft.proofs.Hands.{length-hand, next-hand, hand-exprs, last_one, last_two}
use Rattle.hb_draft.proofs.Steps.{placed_at, two_on_top, enough_nodes}

has_two : (P : Tree → Type 0) (ts : List Tree) → HasNameAndBlock P ts → 2 ≤ length ts
has_two P (b ∷ e ∷ ts) h = omega arith
has_two P _ h = absurd h

module _ (d : Unfinished) (P : Tree → Type 0) (has : HasNameAndBlock P (in_hand d)) where
  pub name_and_block : 2 ≤ length d.nodes
  unfolding in_hand
  name_and_block = omega (arith, has_two P (in_hand d) has, length-hand d.table d.nodes)

  module _ (e b : NodeId) (two : last_nodes 2 d.nodes ≡ e ∷ last_nodes 1 d.nodes) (one : last_nodes 1 d.nodes ≡ b ∷ last_nodes 0 d.nodes) where
    both_on_top : in_hand d ≡ tree_at d.table b.0 ∷ tree_at d.table e.0 ∷ drop 2 (in_hand d)
    both_on_top = two_on_top d e b name_and_block two one

    top_parts : IsExprPart (tree_at d.table e.0) × IsBlock (tree_at d.table b.0) × P (tree_at d.table b.0)
    top_parts = subst (HasNameAndBlock P) both_on_top has

-- what a definition with a computed name asks for
pub record CanDefComputed (d : Unfinished) (class : ℕ) (e : NodeId) (b : Body) (xs : List ℕ) : Type 0 where
  pub room : length d.table.nodes < 65535
  pub known_class : class < length d.table.classes
  pub itself : b.def.0 ≡ length d.table.nodes
  pub places : length b.params ≡ 4
  pub few : b.count ≤ 4
  pub filled : IsFilled b
  pub named : params_of b ≡ xs
  pub params : AreParams d.table xs
  pub has : HasNameAndBlock (IsBodyBlock xs) (in_hand d)
  pub two : last_nodes 2 d.nodes ≡ e ∷ last_nodes 1 d.nodes
  pub one : last_nodes 1 d.nodes ≡ b.block ∷ last_nodes 0 d.nodes

module _ (t : Table) (ids : List NodeId) (draft : IsDraft t ids) (place : ℕ × ℕ) (class : ClassId) (e : NodeId) (b : Body) (xs : List ℕ) (can : CanDefComputed (record { table = t; nodes = ids }) class.0 e b xs) where
  abbrev n : Node
  n = node.Def (method.Computed class e) (record { 0 = length t.bodies })

  abbrev p : Placed
  p = placed_at n place

  abbrev u : Table
  u = appended t t.texts [] (b ∷ []) [] p

  plain : u ≡ with_body t b p
  plain = rw (append-nil t.items, append-nil t.types) refl

  abbrev old : Unfinished
  old = record { table = t; nodes = ids }

  at_site : slice_get (t.bodies ++ b ∷ []) (length t.bodies) ≡ Some b
  at_site = slice_get-last t.bodies b

  at_node : node_at u (length t.nodes) ≡ Some n
  at_node = ap (option_map (λ q. q.node)) (slice_get-last t.nodes p)

  parts : IsExprPart (tree_at t e.0) × IsBlock (tree_at t b.block.0) × IsBodyBlock xs (tree_at t b.block.0)
  parts = top_parts old (IsBodyBlock xs) can.has e b.block can.two can.one

  block_can : IsBlockPart (tree_at t b.block.0)
  block_can = record { kind = parts.1; low = parts.2.low }

  over : IsOver t u ids 2 n
  over = record {
    room = can.room;
    enough = name_and_block old (IsBodyBlock xs) can.has;
    places = omega (arith, length-append t.bodies (b ∷ []));
    parts = ap (λ o. e.0 ∷ block_in o ∷ []) at_site ∙ sym (ap numbers_of (last_two t ids e b.block can.two can.one));
    exprs = (parts.0, tt);
    blocks = subst (λ o. AllByRecursion (λ j. IsBlockPart (tree_at t j)) (block_in o ∷ [])) (sym at_site) (block_can, tt);
    known = (can.known_class, subst (λ o. IsSomeAnd o (λ c. c.def.0 ≡ length t.nodes)) (sym at_site) can.itself);
  }

  low : b.block.0 < length t.nodes
  low = subst (λ o. block_in o < length t.nodes) at_site (has_parts t ids t.texts (same_texts t draft.program) [] 2 (b ∷ []) [] p draft over).below.1.0

  same_tree : tree_at u b.block.0 ≡ tree_at t b.block.0
  same_tree = tree_at-grown t u (appended-grows t ids t.texts (same_texts t draft.program) [] 2 (b ∷ []) [] p) (founded t draft.program) b.block.0 low

  body : IsBodyIn u (length t.bodies) b
  body = record {
    named = rw can.itself (subst (IsDefNode (length t.bodies)) (sym at_node) refl);
    block = block_part t ids t.texts (same_texts t draft.program) [] 2 (b ∷ []) [] p draft over b.block.0 low block_can;
    params = record { places = can.places; few = can.few; known = rw can.named can.params.known; apart = rw can.named can.params.apart };
    few_nodes = rw same_tree parts.2.few_nodes;
    few_calls = rw same_tree parts.2.few_calls;
    few_variables = rw (can.named, same_tree) parts.2.few_variables;
  }

  next : IsNext t ids t.texts [] 2 (b ∷ []) [] p
  next = record {
    over = over;
    items = tt;
    few_items = omega arith;
    bodies = λ k c i. let only = slice_get-single b c k i in rw (only.0, only.1, add-zero) body;
    few_bodies = omega arith;
    types = λ k y i. absurd (none-some y i);
    few_types = omega (arith, draft.program.limits.types);
    begins = no_block n (length t.items) tt;
    laid = refl;
    filled = (can.filled, tt);
  }

  def_keeps : (hs : List ℕ) → hs ≡ heights_of t ids → IsKept (with_body t b p) (hand_after t ids 2) (heights_after 2 hs)
  def_keeps hs same = subst (λ (v : Table). IsKept v (hand_after t ids 2) (heights_after 2 hs)) plain (kept-next t ids t.texts (same_texts t draft.program) [] 2 (b ∷ []) [] p draft over hs same next)

  def_puts : PutsComputedDef old (record { table = with_body t b p; nodes = hand_after t ids 2 }) place class.0 xs
  unfolding in_hand
  def_puts = record {
    block = tree_at t b.block.0;
    name = tree_at t e.0;
    rest = drop 2 (trees_of t ids);
    was = both_on_top old (IsBodyBlock xs) can.has e b.block can.two can.one;
    hand =
        subst (λ (v : Table). trees_of v (hand_after t ids 2) ≡ TDefComputed (length t.nodes) class.0 (tree_at t e.0) (length t.bodies) (tree_at t b.block.0) ∷ drop 2 (trees_of t ids)) plain
        (hand-next t ids t.texts (same_texts t draft.program) [] 2 (b ∷ []) [] p draft over
        ∙ ap (λ o. TDefComputed (length t.nodes) class.0 (tree_at t e.0) (length t.bodies) (tree_at t (block_in o)) ∷ drop 2 (trees_of t ids)) at_site);
    texts = refl;
    body = b;
    gives = record { def = can.itself; block = sym (id_of-tree_at t b.block.0); params = can.named };
    table = record {
      nodes = (n, refl);
      classes = refl;
      names = refl;
      bodies = refl;
      types = refl;
      roots = subst (λ (v : Table). KeepsRoots t v) plain (roots-next t ids t.texts (same_texts t draft.program) [] 2 (b ∷ []) [] p draft);
    };
  }

-- the same, whatever the draft is called
module _ (s d : Unfinished) (same : s ≡ d) (hs : List ℕ) (kept : IsKept s.table s.nodes hs) (place : ℕ × ℕ) (class : ClassId) (e : NodeId) (b : Body) (xs : List ℕ) (can : CanDefComputed d class.0 e b xs) where
  abbrev pub computed_def_node : Placed
  computed_def_node = placed_at (node.Def (method.Computed class e) (record { 0 = length s.table.bodies })) place

  can' : CanDefComputed s class.0 e b xs
  can' = subst (λ v. CanDefComputed v class.0 e b xs) (sym same) can

  pub computed_def_kept : IsKept (with_body s.table b computed_def_node) (hand_after s.table s.nodes 2) (heights_after 2 hs)
  computed_def_kept = def_keeps s.table s.nodes kept.draft place class e b xs can' hs kept.same

  pub computed_def_made : PutsComputedDef d (record { table = with_body s.table b computed_def_node; nodes = hand_after s.table s.nodes 2 }) place class.0 xs
  computed_def_made =
      let new : Unfinished = record { table = with_body s.table b computed_def_node; nodes = hand_after s.table s.nodes 2 } in
      subst (λ v. PutsComputedDef v new place class.0 xs) same (def_puts s.table s.nodes kept.draft place class e b xs can')

-- what a declaration with a computed name asks for
pub record CanDeclareComputed (d : Unfinished) (class : ℕ) (e : NodeId) (ty : MethodTy) : Type 0 where
  pub room : length d.table.nodes < 65535
  pub known_class : class < length d.table.classes
  pub known_ty : IsMethodTyIn d.table ty
  pub few : length d.table.types < 65534
  pub has : HasExprs 1 (in_hand d)
  pub last : last_nodes 1 d.nodes ≡ e ∷ last_nodes 0 d.nodes

module _ (t : Table) (ids : List NodeId) (draft : IsDraft t ids) (place : ℕ × ℕ) (class : ClassId) (e : NodeId) (ty : MethodTy) (asks : Bool)
    (can : CanDeclareComputed (record { table = t; nodes = ids }) class.0 e ty) where
  abbrev dn : Node
  dn = node.Declare (method.Computed class e) (record { 0 = length t.types }) asks

  abbrev dp : Placed
  dp = placed_at dn place

  abbrev y : MethodTy × NodeId
  y = (ty, record { 0 = length t.nodes })

  abbrev du : Table
  du = appended t t.texts [] [] (y ∷ []) dp

  abbrev before : Unfinished
  before = record { table = t; nodes = ids }

  type_plain : du ≡ with_type t y dp
  type_plain = rw (append-nil t.items, append-nil t.bodies) refl

  type_site : slice_get (t.types ++ y ∷ []) (length t.types) ≡ Some y
  type_site = slice_get-last t.types y

  type_node : node_at du (length t.nodes) ≡ Some dn
  type_node = ap (option_map (λ q. q.node)) (slice_get-last t.nodes dp)

  only : numbers_of (last_nodes 1 ids) ≡ e.0 ∷ []
  only = ap numbers_of (last_one t ids e can.last)

  enough : 1 ≤ length ids
  enough = enough_nodes before 1 can.has

  type_over : IsOver t du ids 1 dn
  unfolding in_hand
  type_over = record {
    room = can.room;
    enough = enough;
    places = tt;
    parts = sym only;
    exprs = subst (AllByRecursion (λ j. IsExprPart (tree_at t j))) only (hand-exprs t ids 1 enough can.has.exprs);
    blocks = tt;
    known = (can.known_class, subst (λ o. IsSomeAnd o (λ z. z.1.0 ≡ length t.nodes)) (sym type_site) refl);
  }

  type_in : IsTypeIn du (length t.types) y
  type_in = record {
    named = subst (IsDeclareNode (length t.types)) (sym type_node) refl;
    known = record { form = can.known_ty.form; params = can.known_ty.params; result = can.known_ty.result };
  }

  type_next : IsNext t ids t.texts [] 1 [] (y ∷ []) dp
  type_next = record {
    over = type_over;
    items = tt;
    few_items = omega arith;
    bodies = λ k c i. absurd (none-some c i);
    few_bodies = omega arith;
    types = λ k z i. let same = slice_get-single y z k i in rw (same.0, same.1, add-zero) type_in;
    few_types = omega (arith, can.few);
    begins = no_block dn (length t.items) tt;
    laid = refl;
    filled = tt;
  }

  declare_keeps : (hs : List ℕ) → hs ≡ heights_of t ids → IsKept (with_type t y dp) (hand_after t ids 1) (heights_after 1 hs)
  declare_keeps hs same = subst (λ (v : Table). IsKept v (hand_after t ids 1) (heights_after 1 hs)) type_plain (kept-next t ids t.texts (same_texts t draft.program) [] 1 [] (y ∷ []) dp draft type_over hs same type_next)

  abbrev make : ℕ → Tree → Tree
  make id name = TDeclareComputed id class.0 name (length t.types) asks

  declare_puts : PutsComputedDeclare before (record { table = with_type t y dp; nodes = hand_after t ids 1 }) place class.0 ty asks
  unfolding in_hand
  declare_puts = record {
    hand =
        subst (λ (v : Table). trees_of v (hand_after t ids 1) ≡ make (length t.nodes) (tree_at t e.0) ∷ drop 1 (trees_of t ids)) type_plain
        (hand-next t ids t.texts (same_texts t draft.program) [] 1 [] (y ∷ []) dp draft type_over)
        ∙ sym (ap (unary_over make (length t.nodes)) (next-hand t ids 0 e enough can.last));
    texts = refl;
    table = record {
      nodes = (dn, refl);
      classes = refl;
      names = refl;
      bodies = refl;
      types = refl;
      roots = subst (λ (v : Table). KeepsRoots t v) type_plain (roots-next t ids t.texts (same_texts t draft.program) [] 1 [] (y ∷ []) dp draft);
    };
  }

-- the same, whatever the draft is called
module _ (s d : Unfinished) (same : s ≡ d) (hs : List ℕ) (kept : IsKept s.table s.nodes hs) (place : ℕ × ℕ) (class : ClassId) (e : NodeId) (ty : MethodTy) (asks : Bool) (can : CanDeclareComputed d class.0 e ty) where
  abbrev pub computed_declare_node : Placed
  computed_declare_node = placed_at (node.Declare (method.Computed class e) (record { 0 = length s.table.types }) asks) place

  abbrev pub computed_declared : MethodTy × NodeId
  computed_declared = (ty, record { 0 = length s.table.nodes })

  can_declare : CanDeclareComputed s class.0 e ty
  can_declare = subst (λ v. CanDeclareComputed v class.0 e ty) (sym same) can

  pub computed_declare_kept : IsKept (with_type s.table computed_declared computed_declare_node) (hand_after s.table s.nodes 1) (heights_after 1 hs)
  computed_declare_kept = declare_keeps s.table s.nodes kept.draft place class e ty asks can_declare hs kept.same

  pub computed_declare_made : PutsComputedDeclare d (record { table = with_type s.table computed_declared computed_declare_node; nodes = hand_after s.table s.nodes 1 }) place class.0 ty asks
  computed_declare_made =
      let new : Unfinished = record { table = with_type s.table computed_declared computed_declare_node; nodes = hand_after s.table s.nodes 1 } in
      subst (λ v. PutsComputedDeclare v new place class.0 ty asks) same (declare_puts s.table s.nodes kept.draft place class e ty asks can_declare)
