-- A laid table is told by what it says.
use Rattle.std.proofs.Common.{◌≡◌, ℕ, zero, suc, ◌+◌, ◌-◌, ◌<◌, ◌≤◌, List, [], ◌∷◌, ◌++◌, map, take, drop, length, length-drop, length-take, Option, Some, None, refl, sym, ap, ap₂, ◌∙◌, arith, option_map}
use Rattle.std.specs.{Prelude.slice_get, List.AllByRecursion}
use Rattle.std.proofs.lemmas.List.{length-map, take-append-drop}
use Rattle.std.proofs.lemmas.List.Elements.{recursion_from_All}
use Rattle.std.proofs.lemmas.Option.{none-some, same_Some, slice_get-map, slice_get_within}
use Rattle.hb_types.specs.declared.{ids.NodeId.NodeId, ids.NameId.NameId, types.MethodTy.MethodTy}
use Rattle.hb_tree.specs.declared.{node.Node.Node, node.Placed.Placed, node.ArgList.ArgList, parts.Body.Body}
use Rattle.hb_tree.specs.declared.node.Node.TheVariants as node
use Rattle.hb_tree.specs.declared.node.Method.TheVariants as method
use Rattle.hb_tree.specs.{Table.Table, TreeAt.tree_at, TreeAt.tree_of}
use Rattle.hb_tree.specs.Program.{HasPlaces, IsArgList, IsKnownIn, IsNodeIn, IsProgram}
use Rattle.hb_tree.specs.Tree.{Tree, TNil, TTrue, TFalse, TSelf, TInt, TText, TVar, TNew, TAssign, TPrint, TToStr, TNot, TBinary, TIf, TWhile, TCall, TDef, TDefComputed, TDeclare, TDeclareComputed, TBlock, id_of}
use Rattle.hb_tree.specs.Nodes.{args_of, items_of, node_at, numbers_of, params_of}
use Rattle.hb_tree.proofs.{Lists.each_from, Lists.each_weaker, Trees.id_of-tree_at, Trees.tree_at_node}
use Rattle.hb_draft.specs.Laid.{IsFilled, IsLaid, ids_of, items_before, items_in}
use Rattle.hb_draft.specs.Made.{Given, given_by, place_of, type_of}
use Rattle.hb_draft.specs.{Unfinished.scripts_in, Unfinished.setup_in, Whole.IsWhole}
use Rattle.hb_draft.proofs.{Append.founded, Laid.ids_of-trees, Lists.each_both, Reached.agree-said}

-- ── lists ──

lists-alike : {X : Type 0} (xs ys : List X) → length xs ≡ length ys → ((i : ℕ) (x y : X) → slice_get xs i ≡ Some x → slice_get ys i ≡ Some y → x ≡ y) → xs ≡ ys
lists-alike [] [] e h = refl
lists-alike [] (y ∷ ys) e h = absurd (omega (arith, e))
lists-alike (x ∷ xs) [] e h = absurd (omega (arith, e))
lists-alike (x ∷ xs) (y ∷ ys) e h =
    let first : x ≡ y = h 0 x y refl refl in
    let rest : xs ≡ ys = lists-alike xs ys (omega (arith, e)) (λ i a b k l. h (suc i) a b k l) in
    ap₂ (λ a more. a ∷ more) first rest

-- lists of which the same is said, where that tells each element
module _ {X Y : Type 0} (f g : X → Y) (P : X → Type 0) (tells : (x y : X) → P x → P y → f x ≡ g y → x ≡ y) where
  map-tells : (xs ys : List X) → AllByRecursion P xs → AllByRecursion P ys → map f xs ≡ map g ys → xs ≡ ys
  map-tells [] [] h k e = refl
  map-tells [] (y ∷ ys) h k e = absurd (let n : 0 ≡ length (g y ∷ map g ys) = ap length e in omega (arith, n))
  map-tells (x ∷ xs) [] h k e = absurd (let n : length (f x ∷ map f xs) ≡ 0 = ap length e in omega (arith, n))
  map-tells (x ∷ xs) (y ∷ ys) h k e =
      let all : f x ∷ map f xs ≡ g y ∷ map g ys = e in
      let head : f x ≡ g y = cc in
      let tail : map f xs ≡ map g ys = cc in
      ap₂ (λ a more. a ∷ more) (tells x y h.0 k.0 head) (map-tells xs ys h.1 k.1 tail)

abbrev Anything : {X : Type 0} → X → Type 0
Anything x = Unit {0}

each-any : {X : Type 0} (xs : List X) → AllByRecursion Anything xs
each-any [] = tt
each-any (x ∷ xs) = (tt, each-any xs)

abbrev copies : {X : Type 0} → ℕ → X → List X
copies zero x = []
copies (suc n) x = x ∷ copies n x

all-copies : {X : Type 0} (x : X) (xs : List X) → AllByRecursion (λ y. y ≡ x) xs → xs ≡ copies (length xs) x
all-copies x [] h = refl
all-copies x (y ∷ ys) h = ap₂ (λ a more. a ∷ more) h.0 (all-copies x ys h.1)

-- a list that goes on with copies behind its first elements
filled-up : {X : Type 0} (n count : ℕ) (x : X) (xs : List X) → length xs ≡ n → AllByRecursion (λ y. y ≡ x) (drop count xs) → xs ≡ take count xs ++ copies (n - count) x
filled-up n count x xs long h =
    sym (take-append-drop count xs)
    ∙ ap (λ ys. take count xs ++ ys) (all-copies x (drop count xs) h ∙ ap (λ k. copies k x) (length-drop count xs ∙ ap (λ k. k - count) long))

length-first : {X : Type 0} (n count : ℕ) (xs : List X) → length xs ≡ n → count ≤ n → length (take count xs) ≡ count
length-first n count xs long few = let h = length-take count xs in omega (arith, h, long, few)

-- ── a node from its tree ──

abbrev numbered : ℕ → NodeId
numbered k = record { 0 = k }

numbers-back : (is : List NodeId) → map numbered (numbers_of is) ≡ is
numbers-back [] = refl
numbers-back (i ∷ is) = ap (λ js. i ∷ js) (numbers-back is)

abbrev args_from : List ℕ → ℕ → ArgList
args_from args receiver = record { count = length args; ids = map numbered args ++ copies (4 - length args) (numbered receiver) }

args-are : (r : NodeId) (a : ArgList) → IsArgList r a → a ≡ args_from (numbers_of (args_of a)) r.0
args-are r a h =
    let many : length (numbers_of (args_of a)) ≡ a.count = length-map (args_of a) (λ i. i.0) ∙ length-first 4 a.count a.ids h.places h.few in
    let ids : a.ids ≡ args_of a ++ copies (4 - a.count) r = filled-up 4 a.count r a.ids h.places (recursion_from_All (λ i. i ≡ r) (drop a.count a.ids) h.filled) in
    let make : ℕ → List NodeId → ArgList = λ n is. record { count = n; ids = is } in
    ap₂ make (sym many) (ids ∙ ap₂ (λ is n. is ++ copies (4 - n) r) (sym (numbers-back (args_of a))) (sym many))

-- the node of a tree, where the items of a block begin at this place
abbrev node_from : Tree → ℕ → Node
node_from (TNil id) first = node.Nil
node_from (TTrue id) first = node.True
node_from (TFalse id) first = node.False
node_from (TSelf id) first = node.SelfRef
node_from (TInt id n) first = node.Int n
node_from (TText id x) first = node.Text (record { 0 = x })
node_from (TVar id x) first = node.Var (record { 0 = x })
node_from (TNew id c) first = node.New (record { 0 = c })
node_from (TAssign id x e) first = node.Assign (record { 0 = x }) (numbered (id_of e))
node_from (TPrint id e) first = node.Print (numbered (id_of e))
node_from (TToStr id e) first = node.ToStr (numbered (id_of e))
node_from (TNot id e) first = node.Not (numbered (id_of e))
node_from (TBinary id op a b) first = node.Binary op (numbered (id_of a)) (numbered (id_of b))
node_from (TIf id c a b) first = node.If (numbered (id_of c)) (numbered (id_of a)) (numbered (id_of b))
node_from (TWhile id c b) first = node.While (numbered (id_of c)) (numbered (id_of b))
node_from (TCall id r m args) first = node.Call (numbered (id_of r)) (record { 0 = m }) (args_from (ids_of args) (id_of r))
node_from (TDef id c m s b) first = node.Def (method.Named (record { 0 = c }) (record { 0 = m })) (record { 0 = s })
node_from (TDefComputed id c e s b) first = node.Def (method.Computed (record { 0 = c }) (numbered (id_of e))) (record { 0 = s })
node_from (TDeclare id c m s q) first = node.Declare (method.Named (record { 0 = c }) (record { 0 = m })) (record { 0 = s }) q
node_from (TDeclareComputed id c e s q) first = node.Declare (method.Computed (record { 0 = c }) (numbered (id_of e))) (record { 0 = s }) q
node_from (TBlock id es) first = node.Block first (length (ids_of es))

length-items : (t : Table) (first count : ℕ) → first + count ≤ length t.items → length (numbers_of (items_of t first count)) ≡ count
length-items t first count within =
    let n : ℕ = (first + count) - first in
    let all = length-take n (drop first t.items) in
    let behind = length-drop first t.items in
    length-map (items_of t first count) (λ i. i.0) ∙ omega (arith, all, behind, within)

module _ (t : Table) (id first : ℕ) where
  abbrev From : Node → Type 0
  From n = n ≡ node_from (tree_of t (tree_at t) id n) first

  node-from : (n : Node) → IsKnownIn t id n → HasPlaces t n → ((begin count : ℕ) → n ≡ node.Block begin count → begin ≡ first) → From n
  node-from (node.Assign x e) known places begins = rw (id_of-tree_at t e.0) refl
  node-from (node.Print e) known places begins = rw (id_of-tree_at t e.0) refl
  node-from (node.ToStr e) known places begins = rw (id_of-tree_at t e.0) refl
  node-from (node.Not e) known places begins = rw (id_of-tree_at t e.0) refl
  node-from (node.Binary op a b) known places begins = rw (id_of-tree_at t a.0, id_of-tree_at t b.0) refl
  node-from (node.If c a b) known places begins = rw (id_of-tree_at t c.0, id_of-tree_at t a.0, id_of-tree_at t b.0) refl
  node-from (node.While c b) known places begins = rw (id_of-tree_at t c.0, id_of-tree_at t b.0) refl
  node-from (node.Call r m args) known places begins = rw (id_of-tree_at t r.0, ids_of-trees t (args_of args)) (ap (node.Call r m) (args-are r args known.1))
  node-from (node.Def (method.Named c m) s) known places begins = refl
  node-from (node.Def (method.Computed c e) s) known places begins = rw (id_of-tree_at t e.0) refl
  node-from (node.Declare (method.Named c m) s q) known places begins = refl
  node-from (node.Declare (method.Computed c e) s q) known places begins = rw (id_of-tree_at t e.0) refl
  node-from (node.Block begin count) known places begins =
      rw (ids_of-trees t (items_of t begin count), length-items t begin count places) (ap (λ b. node.Block b count) (begins begin count refl))
  node-from _ known places begins = refl

-- ── bodies ──

-- what tells the places past the parameters
record HasRoom (b : Body) : Type 0 where
  places : length b.params ≡ 4
  few : b.count ≤ 4
  filled : IsFilled b

abbrev nobody : NameId
nobody = record { 0 = 0 }

many : (b : Body) → HasRoom b → length (params_of b) ≡ b.count
many b h = length-map (take b.count b.params) (λ x. x.0) ∙ length-first 4 b.count b.params h.places h.few

filled-params : (b : Body) → HasRoom b → b.params ≡ take b.count b.params ++ copies (4 - b.count) nobody
filled-params b h =
    filled-up 4 b.count nobody b.params h.places
    (each_weaker (λ x. x.0 ≡ 0) (λ x. x ≡ nobody) (λ x s. (let f : ℕ → NameId = λ j. record { 0 = j } in ap f s)) (drop b.count b.params)
    (recursion_from_All (λ x. x.0 ≡ 0) (drop b.count b.params) h.filled))

body-tells : (b c : Body) → HasRoom b → HasRoom c → given_by b ≡ given_by c → b ≡ c
body-tells b c h k e =
    let def : b.def.0 ≡ c.def.0 = ap (λ (g : Given). g.def) e in
    let block : b.block.0 ≡ c.block.0 = ap (λ (g : Given). g.block) e in
    let params : params_of b ≡ params_of c = ap (λ (g : Given). g.params) e in
    let count : b.count ≡ c.count = sym (many b h) ∙ ap length params ∙ many c k in
    let first : take b.count b.params ≡ take c.count c.params =
    map-tells (λ x. x.0) (λ x. x.0) Anything (λ x y p q s. (let f : ℕ → NameId = λ j. record { 0 = j } in ap f s)) (take b.count b.params) (take c.count c.params) (each-any (take b.count b.params)) (each-any (take c.count c.params)) params in
    let all : b.params ≡ c.params = filled-params b h ∙ ap₂ (λ xs n. xs ++ copies (4 - n) nobody) first count ∙ sym (filled-params c k) in
    let make : ℕ → ℕ → ℕ → List NameId → Body = λ d i n xs. record { def = record { 0 = d }; block = record { 0 = i }; count = n; params = xs } in
    ap (λ d. make d b.block.0 b.count b.params) def ∙ ap (λ i. make c.def.0 i b.count b.params) block ∙ ap₂ (make c.def.0 c.block.0) count all

-- ── tables ──

table-alike : (t u : Table) → t.classes ≡ u.classes → t.names ≡ u.names → t.texts ≡ u.texts → t.nodes ≡ u.nodes → t.items ≡ u.items
    → t.bodies ≡ u.bodies → t.types ≡ u.types → t.setup ≡ u.setup → t.scripts ≡ u.scripts → t ≡ u
table-alike t u classes names texts nodes items bodies types setup scripts =
    ap (λ v. record t { classes = v }) classes
    ∙ ap (λ v. record t { classes = u.classes; names = v }) names
    ∙ ap (λ v. record t { classes = u.classes; names = u.names; texts = v }) texts
    ∙ ap (λ v. record t { classes = u.classes; names = u.names; texts = u.texts; nodes = v }) nodes
    ∙ ap (λ v. record t { classes = u.classes; names = u.names; texts = u.texts; nodes = u.nodes; items = v }) items
    ∙ ap (λ v. record u { bodies = v; types = t.types; setup = t.setup; scripts = t.scripts }) bodies
    ∙ ap (λ v. record u { types = v; setup = t.setup; scripts = t.scripts }) types
    ∙ ap (λ v. record u { setup = v; scripts = t.scripts }) setup
    ∙ ap (λ v. record u { scripts = v }) scripts

-- a script by its name and tree
abbrev script_of : Table → NameId × NodeId → ℕ × Tree
script_of t s = (s.0.0, tree_at t s.1.0)

module _ (t u : Table) (program : IsProgram t) (other : IsProgram u) (laid : IsLaid t) (likewise : IsLaid u) where
  setup-tells : (a b : Option NodeId) → option_map (λ i. tree_at t i.0) a ≡ option_map (λ i. tree_at u i.0) b → a ≡ b
  setup-tells None None e = refl
  setup-tells None (Some b) e = absurd (none-some (tree_at u b.0) e)
  setup-tells (Some a) None e = absurd (none-some (tree_at t a.0) (sym e))
  setup-tells (Some a) (Some b) e =
      let trees : tree_at t a.0 ≡ tree_at u b.0 = same_Some (tree_at t a.0) (tree_at u b.0) e in
      ap (λ k. Some (numbered k)) (sym (id_of-tree_at t a.0) ∙ ap id_of trees ∙ id_of-tree_at u b.0)

  script-tells : (a b : NameId × NodeId) → Anything a → Anything b → script_of t a ≡ script_of u b → a ≡ b
  script-tells a b h k e =
      let name : a.0.0 ≡ b.0.0 = ap (λ (s : ℕ × Tree). s.0) e in
      let tree : tree_at t a.1.0 ≡ tree_at u b.1.0 = ap (λ (s : ℕ × Tree). s.1) e in
      let block : a.1.0 ≡ b.1.0 = sym (id_of-tree_at t a.1.0) ∙ ap id_of tree ∙ id_of-tree_at u b.1.0 in
      let make : ℕ → ℕ → NameId × NodeId = λ x i. (record { 0 = x }, record { 0 = i }) in
      ap₂ make name block

  type-tells : (a b : MethodTy × NodeId) → Anything a → Anything b → type_of a ≡ type_of b → a ≡ b
  type-tells a b h k e =
      let make : MethodTy → ℕ → MethodTy × NodeId = λ y i. (y, record { 0 = i }) in
      ap₂ make (ap (λ (s : MethodTy × ℕ). s.0) e) (ap (λ (s : MethodTy × ℕ). s.1) e)

  rooms : (v : Table) → IsProgram v → IsLaid v → AllByRecursion HasRoom v.bodies
  rooms v ok is =
      each_both (λ b. (length b.params ≡ 4) × (b.count ≤ 4)) IsFilled HasRoom (λ b h k. record { places = h.0; few = h.1; filled = k }) v.bodies
      (each_from (λ b. (length b.params ≡ 4) × (b.count ≤ 4)) v.bodies (λ i b e. (let h = (ok.bodies i b e).params in (h.places, h.few)))) is.bodies

  module _ (places : map place_of t.nodes ≡ map place_of u.nodes) (alike : (i : ℕ) → i < length t.nodes → tree_at t i ≡ tree_at u i) where
    lengths : length t.nodes ≡ length u.nodes
    lengths = sym (length-map t.nodes place_of) ∙ ap length places ∙ length-map u.nodes place_of

    before : (i : ℕ) → i ≤ length t.nodes → items_before t i ≡ items_before u i
    before zero within = refl
    before (suc i) within = ap₂ (λ js e. js ++ items_in e) (before i (omega arith)) (alike i (omega arith))

    -- the node of a table from the tree at it
    node-at : (v : Table) → IsProgram v → IsLaid v → (i : ℕ) (p : Placed) → slice_get v.nodes i ≡ Some p → p.node ≡ node_from (tree_at v i) (length (items_before v i))
    node-at v ok is i p e =
        let here : node_at v i ≡ Some p.node = ap (option_map (λ q. q.node)) e in
        let meets : IsNodeIn v i p.node = ok.nodes i p.node here in
        node-from v i (length (items_before v i)) p.node meets.known meets.parts.places (λ begin count b. is.blocks i begin count (here ∙ ap Some b))
        ∙ ap (λ tree. node_from tree (length (items_before v i))) (sym (tree_at_node v (founded v ok) i p.node here))

    placed-alike : (i : ℕ) (p q : Placed) → slice_get t.nodes i ≡ Some p → slice_get u.nodes i ≡ Some q → p ≡ q
    placed-alike i p q e f =
        let within : i < length t.nodes = slice_get_within t.nodes i p e in
        let nodes : p.node ≡ q.node = node-at t program laid i p e ∙ ap₂ (λ tree js. node_from tree (length js)) (alike i within) (before i (omega arith)) ∙ sym (node-at u other likewise i q f) in
        let one : slice_get (map place_of t.nodes) i ≡ Some (place_of p) = slice_get-map place_of t.nodes i ∙ ap (option_map place_of) e in
        let two : slice_get (map place_of u.nodes) i ≡ Some (place_of q) = slice_get-map place_of u.nodes i ∙ ap (option_map place_of) f in
        let place : place_of p ≡ place_of q = same_Some (place_of p) (place_of q) (sym one ∙ ap (λ ps. slice_get ps i) places ∙ two) in
        let make : Node → ℕ × ℕ → Placed = λ n x. record { node = n; line = x.0; column = x.1 } in
        ap₂ make nodes place

    nodes-alike : t.nodes ≡ u.nodes
    nodes-alike = lists-alike t.nodes u.nodes lengths placed-alike

    items-alike : t.items ≡ u.items
    items-alike =
        map-tells (λ i. i.0) (λ i. i.0) Anything (λ x y p q s. ap numbered s) t.items u.items (each-any t.items) (each-any u.items)
        (laid.items ∙ before (length t.nodes) (omega arith) ∙ ap (items_before u) lengths ∙ sym likewise.items)

  -- from what they say
  pub one-table : t.classes ≡ u.classes → t.names ≡ u.names → t.texts ≡ u.texts → map place_of t.nodes ≡ map place_of u.nodes → map given_by t.bodies ≡ map given_by u.bodies
      → map type_of t.types ≡ map type_of u.types → setup_in t ≡ setup_in u → scripts_in t ≡ scripts_in u → IsWhole (length t.nodes) (setup_in t) (scripts_in t) → t ≡ u
  one-table classes names texts places bodies types setup scripts whole =
      let alike : (i : ℕ) → i < length t.nodes → tree_at t i ≡ tree_at u i = λ i within. agree-said t u i program other (length t.nodes) whole setup scripts within in
      table-alike t u classes names texts (nodes-alike places alike) (items-alike places alike)
      (map-tells given_by given_by HasRoom body-tells t.bodies u.bodies (rooms t program laid) (rooms u other likewise) bodies)
      (map-tells type_of type_of Anything type-tells t.types u.types (each-any t.types) (each-any u.types) types)
      (setup-tells t.setup u.setup setup)
      (map-tells (script_of t) (script_of u) Anything script-tells t.scripts u.scripts (each-any t.scripts) (each-any u.scripts) scripts)
