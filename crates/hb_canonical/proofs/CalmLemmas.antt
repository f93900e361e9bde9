-- The deeds of what a program says are calm: each parenthesis opens where an expression begins, or over no argument.
use Rattle.std.proofs.Common.{◌≡◌, ℕ, zero, suc, List, [], ◌∷◌, ◌++◌, map, Bool, true, false, Option, Some, None, refl, sym, ◌∙◌, ap, subst, append_assoc}
use Rattle.std.specs.Prelude.{slice_get, nat_lt, if◌then◌else◌, ◌||◌}
use Rattle.std.specs.{Option.option_map, List.flat_map, Fmt.signed_decimal}
use Rattle.std.proofs.lemmas.List.{append-nil}
use Rattle.hb_types.specs.declared.{ids.NodeId.NodeId, ids.NameId.NameId, types.Ty.Ty, types.MethodTy.MethodTy}
use Rattle.hb_types.specs.declared.types.Ty.TheVariants as ty
use Rattle.hb_types.specs.Types.{params_of as param_types_of}
use Rattle.hb_tree.specs.{Table.Table, Program.IsProgram, Program.IsExprNode}
use Rattle.hb_tree.specs.declared.node.Node.{Node}
use Rattle.hb_tree.specs.declared.node.Node.TheVariants as node
use Rattle.hb_tree.specs.declared.node.Method.TheVariants as method
use Rattle.hb_tree.specs.Tree.{Tree, Forest, NoTree, Trees}
use Rattle.hb_tree.specs.Nodes.{args_of, items_of, node_at, block_in}
use Rattle.hb_tree.specs.TreeAt.{forest_at, tree_at, tree_of, tree_of_place, tree_down}
use Rattle.hb_tree.specs.Canon.{bytes_at, quoted, level, least_left, least_right}
use Rattle.hb_draft.specs.Made.{Given}
use Rattle.hb_grammar.specs.declared.actions.Action.{Action}
use Rattle.hb_grammar.specs.declared.actions.Action.TheVariants as a
use Rattle.hb_build.specs.Said.{Said, said_in}
use Rattle.hb_canonical.specs.Deeds.{Deed, deed, plain, name, class, type_deed, signature_of, parameters_of, boolean, wrap, named, computed, arguments, own, each, class_deeds, setup_deeds, script_deeds, deeds_of}
use Rattle.hb_canonical.specs.Calm.{IsCalm, IsCalmBehind, begins, is_open, is_other}

-- ── calm deeds ──

-- with calm deeds behind them these are calm, behind such an action as the flag says
abbrev Behind : Bool → List Deed → Type 0
Behind other ps = (ds : List Deed) → IsCalm ds → IsCalmBehind other (ps ++ ds)

abbrev Calm : List Deed → Type 0
Calm ps = Behind false ps

-- an expression begins with these
abbrev Begins : List Deed → Type 0
Begins ps = (ds : List Deed) → begins (ps ++ ds) ≡ true

weaken : (other : Bool) (ds : List Deed) → IsCalm ds → IsCalmBehind other ds
weaken other [] h = tt
weaken other (d ∷ ds) h = (by other (is_open d.action) h.0, h.1)
  where
    by : (other opens : Bool) → (if opens then false || begins ds else true) ≡ true → (if opens then other || begins ds else true) ≡ true
    by other false e = refl
    by false true e = e
    by true true e = refl

none : (other : Bool) → Behind other []
none other ds h = weaken other ds h

cons : (other : Bool) (x : Deed) (ps : List Deed) → is_open x.action ≡ false → Behind (is_other x.action) ps → Behind other (x ∷ ps)
cons other x ps e c ds h = (ap (λ b. if b then other || begins (ps ++ ds) else true) e, c ds h)

-- behind an action that does not leave something else
more : (x : Deed) (ps : List Deed) → is_open x.action ≡ false → Calm ps → Calm (x ∷ ps)
more x ps e c = cons false x ps e (λ ds h. weaken (is_other x.action) (ps ++ ds) (c ds h))

append : (other : Bool) (ps qs : List Deed) → Behind other ps → Calm qs → Behind other (ps ++ qs)
append other ps qs c k ds h = subst (IsCalmBehind other) (sym (append_assoc ps qs ds)) (c (qs ++ ds) (k ds h))

begins-append : (ps qs : List Deed) → Begins ps → Begins (ps ++ qs)
begins-append ps qs b ds = ap begins (append_assoc ps qs ds) ∙ b (qs ++ ds)

-- a parenthesis directly behind an action that leaves something else on top, and what stands in it
enclosed : (ps qs : List Deed) → Calm ps → Calm qs → Behind true (plain a.Open ∷ (ps ++ plain a.Close ∷ qs))
enclosed ps qs c k ds h = (refl, append false ps (plain a.Close ∷ qs) c (more (plain a.Close) qs refl k) ds h)

wrapped : (least : ℕ) (e : Tree) (ps : List Deed) → Calm ps → Begins ps → Calm (wrap least e ps)
wrapped least e ps c b = by (nat_lt (level e) least)
  where
    by : (w : Bool) → Calm (if w then (plain a.Open ∷ (ps ++ plain a.Close ∷ [])) else ps)
    by true = λ ds h. (begins-append ps (plain a.Close ∷ []) b ds, append false ps (plain a.Close ∷ []) c (more (plain a.Close) [] refl (none false)) ds h)
    by false = c

begins-wrapped : (least : ℕ) (e : Tree) (ps : List Deed) → Begins ps → Begins (wrap least e ps)
begins-wrapped least e ps b = by (nat_lt (level e) least)
  where
    by : (w : Bool) → Begins (if w then (plain a.Open ∷ (ps ++ plain a.Close ∷ [])) else ps)
    by true = begins-append ps (plain a.Close ∷ []) b
    by false = b

-- the front of a definition or declaration, behind which parentheses may open
abbrev Heads : List Deed → Type 0
Heads ps = (qs : List Deed) → Behind true qs → Calm (ps ++ qs)

module _ (s : Said) where
  -- one deed alone
  single : (x : Deed) → is_open x.action ≡ false → Calm (x ∷ [])
  single x e = more x [] e (none false)

  type-is-none : (y : Ty) → is_open (type_deed s y).action ≡ false
  type-is-none (ty.Class c) = refl
  type-is-none _ = refl

  types-calm : (ys : List Ty) → Calm (flat_map (λ p. type_deed s p ∷ plain a.AddParameterType ∷ []) ys)
  types-calm [] = none false
  types-calm (y ∷ ys) =
      let rest : List Deed = flat_map (λ p. type_deed s p ∷ plain a.AddParameterType ∷ []) ys in
      more (type_deed s y) (plain a.AddParameterType ∷ rest) (type-is-none y) (more (plain a.AddParameterType) rest refl (types-calm ys))

  signature-calm : (o : Option (MethodTy × ℕ)) → Behind true (signature_of s o)
  signature-calm None = none true
  signature-calm (Some y) =
      enclosed (flat_map (λ p. type_deed s p ∷ plain a.AddParameterType ∷ []) (param_types_of y.0)) (type_deed s y.0.result ∷ [])
      (types-calm (param_types_of y.0)) (single (type_deed s y.0.result) (type-is-none y.0.result))

  names-calm : (xs : List ℕ) → Calm (map (name s a.HoldParameter) xs)
  names-calm [] = none false
  names-calm (x ∷ xs) = more (name s a.HoldParameter x) (map (name s a.HoldParameter) xs) refl (names-calm xs)

  parameters-calm : (o : Option Given) → Behind true (parameters_of s o)
  parameters-calm None = none true
  parameters-calm (Some b) = enclosed (map (name s a.HoldParameter) b.params) [] (names-calm b.params) (none false)

  arguments-calm : (args : Forest) (ps : List Deed) → Calm ps → Behind true (arguments args ps)
  arguments-calm NoTree ps c = none true
  arguments-calm (Trees e es) ps c = enclosed ps [] c (none false)

  named-heads : (c m : ℕ) → Heads (named s c m)
  named-heads c m qs k = cons false (class s a.HoldClass c) (name s a.NameMethod m ∷ qs) refl (cons true (name s a.NameMethod m) qs refl k)

  computed-heads : (c : ℕ) (ps : List Deed) → Calm ps → Heads (computed s c ps)
  computed-heads c ps h qs k =
      let end : List Deed = plain a.Close ∷ plain a.ComputeMethod ∷ [] in
      let P = λ (l : List Deed). Behind true (plain a.Open ∷ l) in
      cons false (class s a.HoldClass c) (plain a.Open ∷ ((ps ++ end) ++ qs)) refl
      (subst P (sym (append_assoc ps end qs)) (enclosed ps (plain a.ComputeMethod ∷ qs) h (cons false (plain a.ComputeMethod) qs refl k)))

  definition-calm : (head : List Deed) (site : ℕ) (b : Tree) → Heads head → Calm (own s b)
      → Calm (plain a.OpenWord ∷ (head ++ parameters_of s (slice_get s.bodies site) ++ plain a.BeginBody ∷ (own s b ++ plain a.PutDef ∷ [])))
  definition-calm head site b h k =
      let params : List Deed = parameters_of s (slice_get s.bodies site) in
      let block : List Deed = own s b ++ plain a.PutDef ∷ [] in
      more (plain a.OpenWord) (head ++ params ++ plain a.BeginBody ∷ block) refl
      (append false (head ++ params) (plain a.BeginBody ∷ block) (h params (parameters-calm (slice_get s.bodies site)))
      (more (plain a.BeginBody) block refl (append false (own s b) (plain a.PutDef ∷ []) k (single (plain a.PutDef) refl))))

  declaration-calm : (head : List Deed) (site : ℕ) (asks : Bool) → Heads head
      → Calm (plain a.HoldDeclare ∷ (head ++ signature_of s (slice_get s.types site) ++ plain (a.PutDeclare asks) ∷ []))
  declaration-calm head site asks h =
      let type : List Deed = signature_of s (slice_get s.types site) in
      more (plain a.HoldDeclare) (head ++ type ++ plain (a.PutDeclare asks) ∷ []) refl
      (append false (head ++ type) (plain (a.PutDeclare asks) ∷ []) (h type (signature-calm (slice_get s.types site))) (single (plain (a.PutDeclare asks)) refl))

  -- ── the trees of a program ──

  module _ (t : Table) (ok : IsProgram t) where
    record Stands (e : Tree) (o : Option Node) : Type 0 where
      calm : Calm (own s e)
      first : IsExprNode o → Begins (own s e)

    module _ (part : ℕ → Tree) (stands : (j : ℕ) → Stands (part j) (node_at t j)) where
      calmly : (j : ℕ) → Calm (own s (part j))
      calmly j = (stands j).calm

      each-calm : (joins : Action) (is : List NodeId) → is_open joins ≡ false → Calm (each s joins (forest_at part is))
      each-calm joins [] e = none false
      each-calm joins (i ∷ is) e = append false (own s (part i.0)) (plain joins ∷ each s joins (forest_at part is)) (calmly i.0) (more (plain joins) (each s joins (forest_at part is)) e (each-calm joins is e))

      -- an operand at its place
      wraps : (least j : ℕ) → IsExprNode (node_at t j) → Calm (wrap least (part j) (own s (part j)))
      wraps least j h = wrapped least (part j) (own s (part j)) (calmly j) ((stands j).first h)

      -- a part, and its end
      ended : (j : ℕ) (x : Deed) → is_open x.action ≡ false → Calm (own s (part j) ++ x ∷ [])
      ended j x e = append false (own s (part j)) (x ∷ []) (calmly j) (single x e)

      node-calm : (id : ℕ) (n : Node) → node_at t id ≡ Some n → Calm (own s (tree_of t part id n))
      node-calm id node.Nil e = single (plain a.PutNil) refl
      node-calm id node.True e = single (boolean true) refl
      node-calm id node.False e = single (boolean false) refl
      node-calm id node.SelfRef e = single (plain a.PutSelf) refl
      node-calm id (node.Int n) e = single (deed a.PutNumber (signed_decimal n)) refl
      node-calm id (node.Text x) e = single (deed a.PutText (quoted (bytes_at s.texts x.0))) refl
      node-calm id (node.Var x) e = more (name s a.HoldName x.0) (plain a.PutVariable ∷ []) refl (single (plain a.PutVariable) refl)
      node-calm id (node.New c) e = more (class s a.HoldClass c.0) (plain a.PutNew ∷ []) refl (single (plain a.PutNew) refl)
      node-calm id (node.Assign x v) e =
          let value : List Deed = own s (part v.0) ++ plain a.PutAssign ∷ [] in
          more (name s a.HoldName x.0) (plain a.OpenAssign ∷ value) refl (more (plain a.OpenAssign) value refl (ended v.0 (plain a.PutAssign) refl))
      node-calm id (node.Print v) e = more (plain a.OpenWord) (own s (part v.0) ++ plain a.PutPrint ∷ []) refl (ended v.0 (plain a.PutPrint) refl)
      node-calm id (node.ToStr v) e =
          cons false (plain a.HoldStr) (plain a.Open ∷ (own s (part v.0) ++ plain a.Close ∷ plain a.PutStr ∷ [])) refl
          (enclosed (own s (part v.0)) (plain a.PutStr ∷ []) (calmly v.0) (single (plain a.PutStr) refl))
      node-calm id (node.Not v) e =
          let value : List Deed = wrap 4 (part v.0) (own s (part v.0)) in
          more (plain a.OpenWord) (value ++ plain a.PutNot ∷ []) refl
          (append false value (plain a.PutNot ∷ []) (wraps 4 v.0 (ok.nodes id (node.Not v) e).exprs.0) (single (plain a.PutNot) refl))
      node-calm id (node.Binary op l r) e =
          let met = ok.nodes id (node.Binary op l r) e in
          let left : List Deed = wrap (least_left op) (part l.0) (own s (part l.0)) in
          let right : List Deed = wrap (least_right op) (part r.0) (own s (part r.0)) in
          let last : List Deed = plain (a.PutBinary op) ∷ [] in
          append false left (plain a.HoldOperator ∷ (right ++ last)) (wraps (least_left op) l.0 met.exprs.0)
          (more (plain a.HoldOperator) (right ++ last) refl (append false right last (wraps (least_right op) r.0 met.exprs.1.0) (single (plain (a.PutBinary op)) refl)))
      node-calm id (node.If c l r) e =
          let front : List Deed = own s (part c.0) ++ own s (part l.0) in
          more (plain a.OpenWord) (front ++ own s (part r.0) ++ plain a.PutIf ∷ []) refl
          (append false (front ++ own s (part r.0)) (plain a.PutIf ∷ [])
          (append false front (own s (part r.0)) (append false (own s (part c.0)) (own s (part l.0)) (calmly c.0) (calmly l.0)) (calmly r.0)) (single (plain a.PutIf) refl))
      node-calm id (node.While c b) e =
          let front : List Deed = own s (part c.0) ++ own s (part b.0) in
          more (plain a.OpenWord) (front ++ plain a.PutWhile ∷ []) refl
          (append false front (plain a.PutWhile ∷ []) (append false (own s (part c.0)) (own s (part b.0)) (calmly c.0) (calmly b.0)) (single (plain a.PutWhile) refl))
      node-calm id (node.Call r m args) e =
          let receiver : List Deed = wrap 5 (part r.0) (own s (part r.0)) in
          let es : Forest = forest_at part (args_of args) in
          let given : List Deed = arguments es (each s a.AddArgument es) in
          let last : List Deed = plain a.PutCall ∷ [] in
          append false receiver (name s a.HoldCall m.0 ∷ (given ++ last)) (wraps 5 r.0 (ok.nodes id (node.Call r m args) e).exprs.0)
          (cons false (name s a.HoldCall m.0) (given ++ last) refl
          (append true given last (arguments-calm es (each s a.AddArgument es) (each-calm a.AddArgument (args_of args) refl)) (single (plain a.PutCall) refl)))
      node-calm id (node.Def (method.Named c m) site) e =
          let b : ℕ = block_in (slice_get t.bodies site.0) in
          definition-calm (named s c.0 m.0) site.0 (part b) (named-heads c.0 m.0) (calmly b)
      node-calm id (node.Def (method.Computed c v) site) e =
          let b : ℕ = block_in (slice_get t.bodies site.0) in
          definition-calm (computed s c.0 (own s (part v.0))) site.0 (part b) (computed-heads c.0 (own s (part v.0)) (calmly v.0)) (calmly b)
      node-calm id (node.Declare (method.Named c m) site asks) e = declaration-calm (named s c.0 m.0) site.0 asks (named-heads c.0 m.0)
      node-calm id (node.Declare (method.Computed c v) site asks) e =
          declaration-calm (computed s c.0 (own s (part v.0))) site.0 asks (computed-heads c.0 (own s (part v.0)) (calmly v.0))
      node-calm id (node.Block first count) e =
          let items : List Deed = each s a.AddItem (forest_at part (items_of t first count)) in
          more (plain a.BeginBlock) (items ++ plain a.EndBlock ∷ []) refl
          (append false items (plain a.EndBlock ∷ []) (each-calm a.AddItem (items_of t first count) refl) (single (plain a.EndBlock) refl))

      node-begins : (id : ℕ) (n : Node) → node_at t id ≡ Some n → IsExprNode (Some n) → Begins (own s (tree_of t part id n))
      node-begins id (node.Binary op l r) e h =
          let left : List Deed = wrap (least_left op) (part l.0) (own s (part l.0)) in
          begins-append left (plain a.HoldOperator ∷ (wrap (least_right op) (part r.0) (own s (part r.0)) ++ plain (a.PutBinary op) ∷ []))
          (begins-wrapped (least_left op) (part l.0) (own s (part l.0)) ((stands l.0).first (ok.nodes id (node.Binary op l r) e).exprs.0))
      node-begins id (node.Call r m args) e h =
          let es : Forest = forest_at part (args_of args) in
          begins-append (wrap 5 (part r.0) (own s (part r.0))) (name s a.HoldCall m.0 ∷ (arguments es (each s a.AddArgument es) ++ plain a.PutCall ∷ []))
          (begins-wrapped 5 (part r.0) (own s (part r.0)) ((stands r.0).first (ok.nodes id (node.Call r m args) e).exprs.0))
      node-begins id (node.Block first count) e h = absurd h
      node-begins id (node.Def (method.Named c m) site) e h = λ ds. refl
      node-begins id (node.Declare (method.Named c m) site asks) e h = λ ds. refl
      node-begins _ _ _ _ = λ ds. refl

    down-stands : (depth id : ℕ) → Stands (tree_down t depth id) (node_at t id)
    unfolding tree_down
    down-stands zero id = record { calm = single (plain a.PutNil) refl; first = λ h ds. refl }
    down-stands (suc depth) id = go (down-stands depth) (node_at t id) refl
      where
        go : ((j : ℕ) → Stands (tree_down t depth j) (node_at t j)) → (o : Option Node) → node_at t id ≡ o → Stands (tree_of_place t (tree_down t depth) id o) o
        go parts None e = record { calm = single (plain a.PutNil) refl; first = λ h ds. refl }
        go parts (Some n) e = record { calm = node-calm (tree_down t depth) parts id n e; first = node-begins (tree_down t depth) parts id n e }

    tree-calm : (id : ℕ) → Calm (own s (tree_at t id))
    unfolding tree_at
    tree-calm id = (down-stands (suc id) id).calm

    -- ── all that is said ──

    classes-calm : (cs : List (List ℕ)) → Calm (class_deeds cs)
    classes-calm [] = none false
    classes-calm (c ∷ cs) = more (deed a.DeclareClass c) (class_deeds cs) refl (classes-calm cs)

    root-calm : (id : ℕ) (x y : Deed) → is_open x.action ≡ false → is_open y.action ≡ false → Calm (x ∷ (own s (tree_at t id) ++ y ∷ []))
    root-calm id x y e f = more x (own s (tree_at t id) ++ y ∷ []) e (append false (own s (tree_at t id)) (y ∷ []) (tree-calm id) (single y f))

    setup-calm : (o : Option NodeId) → Calm (setup_deeds s (option_map (λ b. tree_at t b.0) o))
    setup-calm None = none false
    setup-calm (Some b) = root-calm b.0 (plain a.BeginSetup) (plain a.EndSetup) refl refl

    scripts-calm : (scripts : List (NameId × NodeId)) → Calm (flat_map (script_deeds s) (map (λ c. (c.0.0, tree_at t c.1.0)) scripts))
    scripts-calm [] = none false
    scripts-calm (script ∷ scripts) =
        append false (script_deeds s (script.0.0, tree_at t script.1.0)) (flat_map (script_deeds s) (map (λ c. (c.0.0, tree_at t c.1.0)) scripts))
        (root-calm script.1.0 (name s a.BeginScript script.0.0) (plain a.EndScript) refl refl) (scripts-calm scripts)

pub deeds-calm : (t : Table) → IsProgram t → IsCalm (deeds_of (said_in t))
deeds-calm t ok =
    let s : Said = said_in t in
    let front : List Deed = class_deeds s.classes ++ setup_deeds s s.setup in
    let scripts : List Deed = flat_map (script_deeds s) s.scripts in
    subst IsCalm (append-nil (front ++ scripts))
    (append false front scripts (append false (class_deeds s.classes) (setup_deeds s s.setup) (classes-calm s t ok s.classes) (setup-calm s t ok t.setup)) (scripts-calm s t ok t.scripts) [] tt)
