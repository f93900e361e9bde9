-- The canonical text of a program in which no node is reached twice is below 2^28 bytes.
use Rattle.std.proofs.Common.{◌≡◌, subst, ℕ, zero, suc, ◌<◌, ◌≤◌, ◌+◌, ◌*◌, ◌^◌, List, [], ◌∷◌, ◌++◌, map, length, take, get_or, Option, Some, None, refl, sym, ap, ◌∙◌, arith, pos, negsuc, ◌≤ℤ◌, false}
use Rattle.std.specs.{Prelude.slice_get, Prelude.IfSome, Option.option_map, List.AllByRecursion, List.flat_map}
use Rattle.std.proofs.lemmas.Option.{none-some, same_Some, slice_get-get_or, slice_get_within}
use Rattle.std.proofs.{lemmas.List.take_more, Math.Seq.take-length, lemmas.Grind.flat_map-append}
use Rattle.hb_lex.specs.declared.kinds.TokenKind.TheVariants as k
use Rattle.hb_types.specs.declared.{ids.NodeId.NodeId, ids.NameId.NameId, types.MethodTy.MethodTy}
use Rattle.hb_tree.proofs.{Lists.each_append, Lists.past_none, Trees.tree_at_node, Trees.node_within, Known.program_founded}
use Rattle.hb_tree.specs.{Spelling.IsClassName, Table.Table}
use Rattle.hb_tree.specs.declared.{node.Node.Node, node.Placed.Placed}
use Rattle.hb_tree.specs.declared.node.Node.TheVariants as node
use Rattle.hb_tree.specs.declared.node.Method.TheVariants as method
use Rattle.hb_tree.specs.{Tree.Tree, Tree.TNil, Tree.TBlock, Roots.IsReachedOnce, Roots.roots, Roots.setup_root, Pieces.Piece, Pieces.mark, Pieces.line_end}
use Rattle.hb_tree.specs.Nodes.{numbers_of, args_of, items_of, node_at, block_in, parts_of, exprs_of, blocks_of}
use Rattle.hb_tree.specs.TreeAt.{tree_at, tree_of, tree_of_place, tree_down, forest_at}
use Rattle.hb_tree.specs.Program.{IsProgram, IsRootIn, IsBlockNode, IsScriptIn, all_parts}
use Rattle.hb_tree.specs.Canon.{own, each, wrap, least_left, least_right, op_kind, arguments, otherwise, separated, named, computed, parameters, signature, declares}
use Rattle.hb_tree.specs.Canon.{name_piece, line, lines_of, class_line, setup_lines, script_lines, pieces_of, canon, bytes_at}
use Rattle.hb_tree.proofs.Reached.{total, total-append, same, times, before, once_of_distinct, reached_once}
use Rattle.hb_tree.proofs.Weights.{weight, weight-append, spell-le, quoted-le, number-le, name-le, class-le, text-le, op-le, declares-le, wrap-le, otherwise-le, separated-le, parameters-le, signature-le}

arguments-le : (pss : List (List Piece)) → weight (arguments pss) ≤ 4 + total (λ ps. 2 + weight ps) pss
arguments-le [] = omega arith
arguments-le (ps ∷ pss) =
    let all = separated-le (mark k.Comma) (ps ∷ pss) (omega arith) in
    let a = weight-append (separated (mark k.Comma) (ps ∷ pss)) (mark k.CloseParen ∷ []) in omega arith

def-le : (head params block : List Piece) → weight ((mark k.KwDef ∷ head) ++ params ++ block ++ mark k.KwEnd ∷ []) ≤ 8 + weight head + weight params + weight block
def-le head params block =
    let one = weight-append (mark k.KwDef ∷ head) params in
    let two = weight-append ((mark k.KwDef ∷ head) ++ params) block in
    let all = weight-append ((mark k.KwDef ∷ head) ++ params ++ block) (mark k.KwEnd ∷ []) in omega arith

abbrev parts_in : Table → Option Node → List ℕ
parts_in t None = []
parts_in t (Some n) = parts_of t n

-- lines of items weigh little more than the items in one line
lines-each-le : (pss : List (List Piece)) → weight (flat_map line pss) ≤ 2 + weight (separated (mark k.Separator) pss)
lines-each-le [] = omega arith
lines-each-le (ps ∷ pss) =
    let rest = further pss in
    let one = weight-append ps (line_end ∷ []) in
    let all = weight-append (line ps) (flat_map line pss) in
    let items = weight-append ps (flat_map (λ qs. mark k.Separator ∷ qs) pss) in omega arith
  where
    further : (qss : List (List Piece)) → weight (flat_map line qss) ≤ weight (flat_map (λ qs. mark k.Separator ∷ qs) qss)
    further [] = omega arith
    further (qs ∷ qss) =
        let more = further qss in
        let one = weight-append qs (line_end ∷ []) in
        let a = weight-append (line qs) (flat_map line qss) in
        let b = weight-append (mark k.Separator ∷ qs) (flat_map (λ rs. mark k.Separator ∷ rs) qss) in omega arith

tree_at_none : (t : Table) (id : ℕ) → node_at t id ≡ None → tree_at t id ≡ TNil id
unfolding tree_at tree_down
tree_at_none t id e = ap (tree_of_place t (tree_down t id) id) e

module _ (t : Table) (ok : IsProgram t) where
  -- what a node's pieces weigh, and what may stand round them
  abbrev cost : ℕ → ℕ
  cost id = 4 + weight (own t (tree_at t id))

  each-le : (is : List NodeId) → total (λ ps. 2 + weight ps) (each t (forest_at (tree_at t) is)) ≤ total cost (numbers_of is)
  each-le [] = omega arith
  each-le (i ∷ is) = let rest = each-le is in omega arith

  few_parameters : (s : ℕ) → weight (parameters t s) ≤ 300
  few_parameters s = parameters-le t ok.spelled (slice_get t.bodies s) (λ b e. (ok.bodies s b e).params.few)

  few_types : (s : ℕ) → weight (signature t s) ≤ 400
  few_types s = signature-le t ok.spelled (option_map (λ y. y.0) (slice_get t.types s)) (λ m e. go (slice_get t.types s) refl m e)
    where
      go : (o : Option (MethodTy × NodeId)) → slice_get t.types s ≡ o → (m : MethodTy) → option_map (λ y. y.0) o ≡ Some m → m.count ≤ 4
      go None found m e = absurd (none-some m e)
      go (Some y) found m e = subst (λ n. n.count ≤ 4) (same_Some y.0 m e) (ok.types s y found).known.form.few

  named-le : (c m : ℕ) → weight (named t c m) ≤ 140
  named-le c m = let class = class-le t ok.spelled c in let name = name-le t ok.spelled m in omega arith

  computed-le : (c : ℕ) (ps : List Piece) → weight (computed t c ps) ≤ 80 + weight ps
  computed-le c ps = let class = class-le t ok.spelled c in let a = weight-append ps (mark k.CloseParen ∷ []) in omega arith

  -- each node costs at most so much and its parts
  node-le : (id : ℕ) (n : Node) → node_at t id ≡ Some n → cost id ≡ 4 + weight (own t (tree_of t (tree_at t) id n)) → cost id ≤ 2100 + total cost (parts_of t n)
  node-le id node.Nil e same = omega arith
  node-le id node.True e same = omega arith
  node-le id node.False e same = omega arith
  node-le id node.SelfRef e same = omega arith
  node-le id (node.Int (pos n)) e same = let fits = (ok.nodes id (node.Int (pos n)) e).known.1.sfits in let digits = number-le n (omega arith) in omega arith
  node-le id (node.Int (negsuc n)) e same = (let known : pos 0 ≤ℤ negsuc n = (ok.nodes id (node.Int (negsuc n)) e).known.0 in absurd (omega arith))
  node-le id (node.Text x) e same = let bytes = text-le t ok.spelled x.0 in let all = quoted-le (bytes_at t.texts x.0) in omega arith
  node-le id (node.Var x) e same = let name = name-le t ok.spelled x.0 in omega arith
  node-le id (node.New c) e same = let name = class-le t ok.spelled c.0 in omega arith
  node-le id (node.Assign x v) e same = let name = name-le t ok.spelled x.0 in omega arith
  node-le id (node.Print v) e same = omega arith
  node-le id (node.ToStr v) e same = let a = weight-append (own t (tree_at t v.0)) (mark k.CloseParen ∷ []) in omega arith
  node-le id (node.Not v) e same = let a = wrap-le 4 (tree_at t v.0) (own t (tree_at t v.0)) in omega arith
  node-le id (node.Binary op l r) e same =
      let left = wrap-le (least_left op) (tree_at t l.0) (own t (tree_at t l.0)) in
      let right = wrap-le (least_right op) (tree_at t r.0) (own t (tree_at t r.0)) in
      let middle = op-le op in
      let a = weight-append (wrap (least_left op) (tree_at t l.0) (own t (tree_at t l.0))) (mark (op_kind op) ∷ wrap (least_right op) (tree_at t r.0) (own t (tree_at t r.0))) in
      omega arith
  node-le id (node.If c l r) e same =
      let other = otherwise-le (tree_at t r.0) (own t (tree_at t r.0)) in
      let one = weight-append (mark k.KwIf ∷ own t (tree_at t c.0)) (mark k.KwThen ∷ own t (tree_at t l.0)) in
      let two = weight-append ((mark k.KwIf ∷ own t (tree_at t c.0)) ++ mark k.KwThen ∷ own t (tree_at t l.0)) (otherwise (tree_at t r.0) (own t (tree_at t r.0))) in
      let all = weight-append ((mark k.KwIf ∷ own t (tree_at t c.0)) ++ mark k.KwThen ∷ own t (tree_at t l.0) ++ otherwise (tree_at t r.0) (own t (tree_at t r.0))) (mark k.KwEnd ∷ []) in
      omega arith
  node-le id (node.While c b) e same =
      let one = weight-append (mark k.KwWhile ∷ own t (tree_at t c.0)) (mark k.KwDo ∷ own t (tree_at t b.0)) in
      let all = weight-append ((mark k.KwWhile ∷ own t (tree_at t c.0)) ++ mark k.KwDo ∷ own t (tree_at t b.0)) (mark k.KwEnd ∷ []) in
      omega arith
  node-le id (node.Call r m args) e same =
      let name = name-le t ok.spelled m.0 in
      let receiver = wrap-le 5 (tree_at t r.0) (own t (tree_at t r.0)) in
      let given = arguments-le (each t (forest_at (tree_at t) (args_of args))) in
      let parts = each-le (args_of args) in
      let sum = total-append cost (numbers_of (args_of args)) [] in
      let all = weight-append (wrap 5 (tree_at t r.0) (own t (tree_at t r.0))) (mark k.Dot ∷ name_piece t m.0 ∷ arguments (each t (forest_at (tree_at t) (args_of args)))) in
      omega arith
  node-le id (node.Def (method.Named c m) s) e same =
      let head = named-le c.0 m.0 in
      let params = few_parameters s.0 in
      let all = def-le (named t c.0 m.0) (parameters t s.0) (own t (tree_at t (block_in (slice_get t.bodies s.0)))) in omega arith
  node-le id (node.Def (method.Computed c v) s) e same =
      let head = computed-le c.0 (own t (tree_at t v.0)) in
      let params = few_parameters s.0 in
      let all = def-le (computed t c.0 (own t (tree_at t v.0))) (parameters t s.0) (own t (tree_at t (block_in (slice_get t.bodies s.0)))) in omega arith
  node-le id (node.Declare (method.Named c m) s q) e same =
      let word = declares-le q in
      let head = named-le c.0 m.0 in
      let types = few_types s.0 in
      let all = weight-append (mark (declares q) ∷ named t c.0 m.0) (signature t s.0) in omega arith
  node-le id (node.Declare (method.Computed c v) s q) e same =
      let word = declares-le q in
      let head = computed-le c.0 (own t (tree_at t v.0)) in
      let types = few_types s.0 in
      let all = weight-append (mark (declares q) ∷ computed t c.0 (own t (tree_at t v.0))) (signature t s.0) in omega arith
  node-le id (node.Block first count) e same =
      let all = separated-le (mark k.Separator) (each t (forest_at (tree_at t) (items_of t first count))) (omega arith) in
      let parts = each-le (items_of t first count) in
      let sum = total-append cost (numbers_of (items_of t first count)) [] in
      omega arith

  -- and so does a number without a node
  cost-le : (id : ℕ) → cost id ≤ 2100 + total cost (parts_in t (node_at t id))
  cost-le id = go (node_at t id) refl
    where
      go : (o : Option Node) → node_at t id ≡ o → cost id ≤ 2100 + total cost (parts_in t o)
      go None e = let tree = tree_at_none t id e in let same = ap (λ e'. 4 + weight (own t e')) tree in omega arith
      go (Some n) e = node-le id n e (ap (λ e'. 4 + weight (own t e')) (tree_at_node t (program_founded t ok) id n e))

  parts_low : (id : ℕ) → AllByRecursion (λ j. j < id) (parts_in t (node_at t id))
  parts_low id = go (node_at t id) refl
    where
      go : (o : Option Node) → node_at t id ≡ o → AllByRecursion (λ j. j < id) (parts_in t o)
      go None e = tt
      go (Some n) e = let below = (ok.nodes id n e).parts.below in each_append (λ j. j < id) (exprs_of t n) (blocks_of t n) below.0 below.1

  -- how often a number is a part of the nodes before a place
  before-is : (j i : ℕ) → i ≤ length t.nodes → before (λ id. parts_in t (node_at t id)) i j ≡ times j (flat_map (λ p. parts_of t p.node) (take i t.nodes))
  before-is j zero within = refl
  before-is j (suc i) within = go (slice_get t.nodes i) refl (before-is j i (omega arith))
    where
      go : (o : Option Placed) → slice_get t.nodes i ≡ o → before (λ id. parts_in t (node_at t id)) i j ≡ times j (flat_map (λ p. parts_of t p.node) (take i t.nodes))
          → before (λ id. parts_in t (node_at t id)) (suc i) j ≡ times j (flat_map (λ p. parts_of t p.node) (take (suc i) t.nodes))
      go None e front = let past = past_none t.nodes i e in absurd (omega arith)
      go (Some p) e front =
          let inside = slice_get_within t.nodes i p e in
          let there = same_Some p (get_or t.nodes i p) (sym e ∙ slice_get-get_or t.nodes i p inside) in
          let next : suc i ≡ i + 1 = omega arith in
          let more = ap (λ n. take n t.nodes) next ∙ take_more t.nodes i p inside ∙ ap (λ q. take i t.nodes ++ q ∷ []) (sym there) in
          let own_parts = ap (times j) (ap (parts_in t) (ap (option_map (λ (q : Placed). q.node)) e)) in
          let all = ap (times j) (ap (flat_map (λ q. parts_of t q.node)) more ∙ flat_map-append (λ q. parts_of t q.node) (take i t.nodes) (p ∷ [])) in
          let sum = total-append (same j) (flat_map (λ q. parts_of t q.node) (take i t.nodes)) (parts_of t p.node ++ []) in
          let last = total-append (same j) (parts_of t p.node) [] in
          omega arith

  -- the roots are nodes
  pub roots_within : AllByRecursion (λ j. j < length t.nodes) (roots t)
  roots_within = each_append (λ j. j < length t.nodes) (setup_root t.setup) (map (λ s. s.1.0) t.scripts) (of_setup t.setup ok.setup) (of_scripts t.scripts ok.scripts)
    where
      is_node : (id : ℕ) → IsBlockNode (node_at t id) → id < length t.nodes
      is_node id h = go (node_at t id) refl h
        where
          go : (o : Option Node) → node_at t id ≡ o → IsBlockNode o → id < length t.nodes
          go None e b = absurd b
          go (Some n) e b = node_within t id n e

      of_setup : (o : Option NodeId) → IfSome o (IsRootIn t) → AllByRecursion (λ j. j < length t.nodes) (setup_root o)
      of_setup None h = tt
      of_setup (Some block) h = (is_node block.0 h.block, tt)

      of_scripts : (ss : List (NameId × NodeId)) → AllByRecursion (IsScriptIn t) ss → AllByRecursion (λ j. j < length t.nodes) (map (λ s. s.1.0) ss)
      of_scripts [] h = tt
      of_scripts (s ∷ ss) h = (is_node s.1.0 h.0.root.block, of_scripts ss h.1)

  -- what the roots cost together
  roots-le : IsReachedOnce t → total cost (roots t) ≤ 2100 * length t.nodes
  roots-le apart =
      reached_once cost (λ id. parts_in t (node_at t id)) cost-le parts_low (length t.nodes) (roots t) roots_within
      (λ j.
      (let once = once_of_distinct j (all_parts t ++ roots t) apart in
      let sum = total-append (same j) (all_parts t) (roots t) in
      let parts = before-is j (length t.nodes) (omega arith) in
      let all = ap (times j) (ap (flat_map (λ p. parts_of t p.node)) (take-length t.nodes)) in
      omega arith))

  class_lines-le : (names : List (List ℕ)) → AllByRecursion IsClassName names → weight (flat_map class_line names) ≤ 80 * length names
  class_lines-le [] h = omega arith
  class_lines-le (name ∷ names) h =
      let bytes : length name ≤ 64 = h.0.short in let rest = class_lines-le names h.1 in let a = weight-append (class_line name) (flat_map class_line names) in omega arith

  -- the lines of a block weigh little more than the block
  lines-le : (e : Tree) → weight (lines_of t e) ≤ 10 + weight (own t e)
  lines-le (TBlock id es) = let items = lines-each-le (each t es) in let a = weight-append (flat_map line (each t es)) (line (mark k.KwEnd ∷ [])) in omega arith
  lines-le _ = omega arith

  setup-le : (o : Option NodeId) → weight (setup_lines t o) ≤ 20 + total cost (setup_root o)
  setup-le None = omega arith
  setup-le (Some block) = let lines = lines-le (tree_at t block.0) in let a = weight-append (line (mark k.KwSetup ∷ [])) (lines_of t (tree_at t block.0)) in omega arith

  scripts-le : (ss : List (NameId × NodeId)) → weight (flat_map (script_lines t) ss) ≤ 100 * length ss + total cost (map (λ s. s.1.0) ss)
  scripts-le [] = omega arith
  scripts-le (s ∷ ss) =
      let name = name-le t ok.spelled s.0.0 in
      let lines = lines-le (tree_at t s.1.0) in
      let rest = scripts-le ss in
      let one = weight-append (line (mark k.KwScript ∷ name_piece t s.0.0 ∷ [])) (lines_of t (tree_at t s.1.0)) in
      let a = weight-append (script_lines t s) (flat_map (script_lines t) ss) in omega arith

  pub canon-short : IsReachedOnce t → length (canon t) < 2 ^ 28
  canon-short apart =
      let text = spell-le false (pieces_of t) in
      let classes = class_lines-le t.classes ok.spelled.classes in
      let setup = setup-le t.setup in
      let scripts = scripts-le t.scripts in
      let all = roots-le apart in
      let sum = total-append cost (setup_root t.setup) (map (λ s. s.1.0) t.scripts) in
      let one = weight-append (flat_map class_line t.classes) (setup_lines t t.setup) in
      let two = weight-append (flat_map class_line t.classes ++ setup_lines t t.setup) (flat_map (script_lines t) t.scripts) in
      let few_classes = ok.limits.classes in let few_nodes = ok.limits.nodes in let few_scripts = ok.limits.scripts in
      omega arith
