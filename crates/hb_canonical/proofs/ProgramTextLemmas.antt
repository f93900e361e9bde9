-- The tokens of a program's canonical text are a program's, and what is done for them is known.
use Rattle.std.proofs.Common.{◌≡◌, ℕ, zero, suc, pos, negsuc, ◌<◌, ◌≤ℤ◌, List, [], ◌∷◌, ◌++◌, map, Bool, true, false, Option, Some, None, Ok, refl, sym, subst, arith}
use Rattle.std.specs.Prelude.{slice_get, IfSome, IsSomeAnd}
use Rattle.std.specs.{Option.option_map, List.AllByRecursion, List.flat_map, Fmt.signed_decimal}
use Rattle.std.proofs.{lemmas.List.append-nil, lemmas.Option.slice_get-map}
use Rattle.hb_lex.specs.declared.{kinds.TokenKind.TokenKind, spans.Token.Token}
use Rattle.hb_lex.specs.declared.kinds.TokenKind.TheVariants as k
use Rattle.hb_lex.specs.Text.{HasTokens}
use Rattle.hb_lex.proofs.One.{one_answer}
use Rattle.hb_types.specs.declared.{ids.NameId.NameId, ids.NodeId.NodeId, types.Ty.Ty, types.MethodTy.MethodTy}
use Rattle.hb_types.specs.declared.types.Ty.TheVariants as ty
use Rattle.hb_types.specs.Types.{params_of as param_types_of}
use Rattle.hb_tree.specs.{Table.Table, Tree.Tree, Tree.Forest}
use Rattle.hb_tree.specs.declared.{node.Node.Node, parts.Body.Body}
use Rattle.hb_tree.specs.declared.node.Node.TheVariants as node
use Rattle.hb_tree.specs.declared.node.Method.TheVariants as method
use Rattle.hb_tree.specs.Nodes.{args_of, items_of, node_at, numbers_of, params_of, block_in}
use Rattle.hb_tree.specs.TreeAt.{forest_at, tree_at, tree_of, tree_of_place, tree_down}
use Rattle.hb_tree.specs.Program.{IsProgram, IsBlockNode, IsExprNode, IsRootIn, IsScriptIn}
use Rattle.hb_tree.specs.Pieces.{Piece, mark, line_end}
use Rattle.hb_tree.specs.Canon.{own, each, level, arguments, otherwise, separated, named, computed, parameters, parameters_of, signature, signature_of, declares, name_piece}
use Rattle.hb_tree.specs.Canon.{type_piece, bytes_at, quoted, line, lines_of, class_line, setup_lines, script_lines, pieces_of, canon}
use Rattle.hb_draft.specs.Made.{Given, given_by, type_of}
use Rattle.hb_grammar.specs.declared.symbols.Sort.TheVariants as g
use Rattle.hb_grammar.specs.declared.{symbols.Symbol.Symbol, symbols.Symbol.TheVariants.Token as T, symbols.Symbol.TheVariants.Phrase as N, symbols.Symbol.TheVariants.Action as A}
use Rattle.hb_grammar.specs.declared.actions.Action.TheVariants as a
use Rattle.hb_grammar.specs.Language.{Act, HasActions, IsProgramText, Translates, kinds_of, program}
use Rattle.hb_build.specs.Said.{Said, said_in}
use Rattle.hb_canonical.proofs.{CanonicalLemmas.canonical_pieces, PerformLemmas.number-anew, PerformLemmas.text-anew}
use Rattle.hb_canonical.specs.Canonical.{HasPieces}
use Rattle.hb_canonical.specs.Deeds as does
use Rattle.hb_canonical.specs.Deeds.{Deed, deed, plain, deeds_in, deeds_of}
use Rattle.hb_canonical.proofs.SentenceLemmas.{Sentence, over, token, action, looks, choose, split, join, piece_kinds, derives, acts}
use Rattle.hb_canonical.proofs.DeriveLemmas as d
use Rattle.hb_canonical.proofs.DeriveLemmas.{Leads, Holds, AsExpression, AreExpressions, AsPostfix, AsBlock, whole, value}

-- the parameters of a definition, with their parentheses
record AreParameters (ps : List Piece) (ds : List Deed) : Type 0 where
  on : {stack : List Symbol} {behind : List Piece} {later : List Deed} → Sentence stack behind later
      → Sentence (T k.OpenParen ∷ A a.Open ∷ N g.Parameters ∷ T k.CloseParen ∷ A a.Close ∷ stack) (ps ++ behind) (ds ++ later)

-- the type of a method, with the colon before it
record IsSignature (ps : List Piece) (ds : List Deed) : Type 0 where
  on : {stack : List Symbol} {behind : List Piece} {later : List Deed} → Sentence stack behind later → Sentence (T k.Colon ∷ N g.Signature ∷ stack) (ps ++ behind) (ds ++ later)

defined : (head params ps : List Piece) (ds es fs : List Deed) → Leads g.Method head ds [] → AreParameters params es → AsBlock ps fs
    → AsPostfix (mark k.KwDef ∷ head ++ params ++ ps ++ mark k.KwEnd ∷ []) (plain a.OpenWord ∷ (ds ++ es ++ plain a.BeginBody ∷ (fs ++ plain a.PutDef ∷ [])))
defined head params ps ds es fs m p b = value (record {
  on = λ h.
      choose g.Value 10 refl (token (action refl
      (split ((head ++ params) ++ ps) (mark k.KwEnd ∷ []) _
      (split (head ++ params) ps _
      (split head params _
      (join (ds ++ es) (plain a.BeginBody ∷ (fs ++ plain a.PutDef ∷ [])) _
      (join ds es _ (m.on (p.on (action refl (join fs (plain a.PutDef ∷ []) _ (b.on (token (action refl (action refl h)))))))))))))));
})

declared : (asks : Bool) (head ps : List Piece) (ds es : List Deed) → Leads g.Method head ds [] → IsSignature ps es
    → AsExpression (mark (declares asks) ∷ head ++ ps) (plain a.HoldDeclare ∷ (ds ++ es ++ plain (a.PutDeclare asks) ∷ []))
declared true head ps ds es m s = record {
  on = λ h. choose g.Expression 3 refl (token (action refl (split head ps _ (join (ds ++ es) (plain (a.PutDeclare true) ∷ []) _ (join ds es _ (m.on (s.on (action refl h))))))));
}
declared false head ps ds es m s = record {
  on = λ h. choose g.Expression 2 refl (token (action refl (split head ps _ (join (ds ++ es) (plain (a.PutDeclare false) ∷ []) _ (join ds es _ (m.on (s.on (action refl h))))))));
}

module _ (t : Table) where
  abbrev said : Said
  said = said_in t

  -- ── methods, their parameters and their types ──

  plain_name : (c m : ℕ) → Leads g.Method (named t c m) (does.named said c m) []
  plain_name c m = record { on = λ h. choose g.Method 0 refl (looks (token (choose g.MethodName 1 refl (looks h)))) }

  computed_name : (c : ℕ) (ps : List Piece) (ds : List Deed) → AsExpression ps ds → Leads g.Method (computed t c ps) (does.computed said c ds) []
  computed_name c ps ds e = record {
    on = λ h.
        choose g.Method 0 refl (looks (token (choose g.MethodName 0 refl (token (action refl
        (split ps (mark k.CloseParen ∷ []) _
        (join ds (plain a.Close ∷ plain a.ComputeMethod ∷ []) _ (e.on (token (action refl (action refl h)))))))))));
  }

  abbrev names_of : List ℕ → List (List Piece)
  names_of xs = map (λ x. name_piece t x ∷ []) xs

  abbrev held : List ℕ → List Deed
  held xs = map (does.name said a.HoldParameter) xs

  more_names : (xs : List ℕ) → Leads g.MoreParameters (flat_map (λ qs. mark k.Comma ∷ qs) (names_of xs)) (held xs) []
  more_names [] = record { on = λ h. choose g.MoreParameters 1 refl h }
  more_names (x ∷ xs) = record { on = λ h. choose g.MoreParameters 0 refl (token (looks ((more_names xs).on h))) }

  all_names : (xs : List ℕ) → Leads g.Parameters (separated (mark k.Comma) (names_of xs)) (held xs) []
  all_names [] = record { on = λ h. choose g.Parameters 1 refl h }
  all_names (x ∷ xs) = record { on = λ h. choose g.Parameters 0 refl (looks ((more_names xs).on h)) }

  parameters_are : (s : ℕ) (P : Body → Type 0) → IsSomeAnd (slice_get t.bodies s) P → AreParameters (parameters t s) (does.parameters said s)
  parameters_are s P known =
      subst (λ (o : Option Given). AreParameters (parameters t s) (does.parameters_of said o)) (sym (slice_get-map given_by t.bodies s)) (go (slice_get t.bodies s) known)
    where
      go : (o : Option Body) → IsSomeAnd o P → AreParameters (parameters_of t o) (does.parameters_of said (option_map given_by o))
      go None h = absurd h
      go (Some b) h = record {
        on = λ i.
            token (action refl
            (split (separated (mark k.Comma) (names_of (params_of b))) (mark k.CloseParen ∷ []) _
            (join (held (params_of b)) (plain a.Close ∷ []) _ ((all_names (params_of b)).on (token (action refl i))))));
      }

  type_word : (y : Ty) → Leads g.TypeWord (type_piece t y ∷ []) (does.type_deed said y ∷ []) []
  type_word (ty.Class c) = record { on = λ h. choose g.TypeWord 0 refl (looks h) }
  type_word ty.Bool = record { on = λ h. choose g.TypeWord 1 refl (token (action refl h)) }
  type_word ty.Int = record { on = λ h. choose g.TypeWord 2 refl (token (action refl h)) }
  type_word ty.Str = record { on = λ h. choose g.TypeWord 3 refl (token (action refl h)) }
  type_word ty.Any = record { on = λ h. choose g.TypeWord 4 refl (token (action refl h)) }
  type_word ty.Nil = record { on = λ h. choose g.TypeWord 5 refl (token (action refl h)) }

  abbrev types_of : List Ty → List (List Piece)
  types_of ys = map (λ y. type_piece t y ∷ []) ys

  abbrev added : List Ty → List Deed
  added ys = flat_map (λ p. does.type_deed said p ∷ plain a.AddParameterType ∷ []) ys

  more_types : (ys : List Ty) → Leads g.MoreTypes (flat_map (λ qs. mark k.Comma ∷ qs) (types_of ys)) (added ys) []
  more_types [] = record { on = λ h. choose g.MoreTypes 1 refl h }
  more_types (y ∷ ys) = record { on = λ h. choose g.MoreTypes 0 refl (token ((type_word y).on (action refl ((more_types ys).on h)))) }

  all_types : (ys : List Ty) → Leads g.Types (separated (mark k.Comma) (types_of ys)) (added ys) []
  all_types [] = record { on = λ h. choose g.Types 1 refl h }
  all_types (y ∷ ys) = record { on = λ h. choose g.Types 0 refl ((type_word y).on (action refl ((more_types ys).on h))) }

  signature_is : (s : ℕ) (P : MethodTy × NodeId → Type 0) → IsSomeAnd (slice_get t.types s) P → IsSignature (signature t s) (does.signature said s)
  signature_is s P known =
      subst (λ (o : Option (MethodTy × ℕ)). IsSignature (signature t s) (does.signature_of said o)) (sym (slice_get-map type_of t.types s)) (go (slice_get t.types s) known)
    where
      go : (o : Option (MethodTy × NodeId)) → IsSomeAnd o P → IsSignature (signature_of t (option_map (λ y. y.0) o)) (does.signature_of said (option_map type_of o))
      go None h = absurd h
      go (Some y) h =
          let ys : List Ty = param_types_of y.0 in
          record {
            on = λ i. token (choose g.Signature 0 refl (token (action refl
                (split (separated (mark k.Comma) (types_of ys)) (mark k.CloseParen ∷ mark k.Arrow ∷ type_piece t y.0.result ∷ []) _
                (join (added ys) (plain a.Close ∷ does.type_deed said y.0.result ∷ []) _
                ((all_types ys).on (token (action refl (token ((type_word y.0.result).on i))))))))));
          }

module _ (t : Table) (ok : IsProgram t) where
  -- ── nodes ──

  abbrev of_tree : Tree → List Deed
  of_tree e = does.own (said t) e

  -- the tree stands where its node may
  record Stands (e : Tree) (o : Option Node) : Type 0 where
    expression : IsExprNode o → Holds (level e) (own t e) (of_tree e)
    block : IsBlockNode o → AsBlock (own t e) (of_tree e)

  -- the parts of a node are nodes below it
  module _ (part : ℕ → Tree) (id : ℕ) (stands : (j : ℕ) → j < id → Stands (part j) (node_at t j)) where
    part_whole : (j : ℕ) → j < id → IsExprNode (node_at t j) → AsExpression (own t (part j)) (of_tree (part j))
    part_whole j below h = whole (level (part j)) (own t (part j)) (of_tree (part j)) ((stands j below).expression h)

    each_whole : (is : List NodeId) → AllByRecursion (λ j. j < id) (numbers_of is) → AllByRecursion (λ j. IsExprNode (node_at t j)) (numbers_of is) → AreExpressions t (said t) (forest_at part is)
    each_whole [] below h = tt
    each_whole (i ∷ is) below h = (part_whole i.0 below.0 h.0, each_whole is below.1 h.1)

    node_holds : (n : Node) → node_at t id ≡ Some n → IsExprNode (Some n) → Holds (level (tree_of t part id n)) (own t (tree_of t part id n)) (of_tree (tree_of t part id n))
    node_holds node.Nil e h = d.nil
    node_holds node.True e h = d.truth
    node_holds node.False e h = d.falsehood
    node_holds node.SelfRef e h = d.oneself
    node_holds (node.Int (pos n)) e h =
        let fits = (ok.nodes id (node.Int (pos n)) e).known.1.sfits in
        d.number (signed_decimal (pos n)) n (number-anew n (omega arith))
    node_holds (node.Int (negsuc n)) e h = (let known : pos 0 ≤ℤ negsuc n = (ok.nodes id (node.Int (negsuc n)) e).known.0 in absurd (omega arith))
    node_holds (node.Text x) e h = d.text (quoted (bytes_at t.texts x.0)) (bytes_at t.texts x.0) (text-anew (bytes_at t.texts x.0))
    node_holds (node.Var x) e h = d.variable (bytes_at t.names x.0)
    node_holds (node.New c) e h = d.made (bytes_at t.classes c.0)
    node_holds (node.Assign x v) e h =
        let met = ok.nodes id (node.Assign x v) e in
        d.assigned (bytes_at t.names x.0) (own t (part v.0)) (of_tree (part v.0)) (part_whole v.0 met.parts.below.0.0 met.exprs.0)
    node_holds (node.Print v) e h =
        let met = ok.nodes id (node.Print v) e in
        d.printed (own t (part v.0)) (of_tree (part v.0)) (part_whole v.0 met.parts.below.0.0 met.exprs.0)
    node_holds (node.ToStr v) e h =
        let met = ok.nodes id (node.ToStr v) e in
        d.spelled (own t (part v.0)) (of_tree (part v.0)) (part_whole v.0 met.parts.below.0.0 met.exprs.0)
    node_holds (node.Not v) e h =
        let met = ok.nodes id (node.Not v) e in
        d.negated (part v.0) (own t (part v.0)) (of_tree (part v.0)) ((stands v.0 met.parts.below.0.0).expression met.exprs.0)
    node_holds (node.Binary o l r) e h =
        let met = ok.nodes id (node.Binary o l r) e in
        d.binary o (part l.0) (part r.0) (own t (part l.0)) (own t (part r.0)) (of_tree (part l.0)) (of_tree (part r.0))
        ((stands l.0 met.parts.below.0.0).expression met.exprs.0) ((stands r.0 met.parts.below.0.1.0).expression met.exprs.1.0)
    node_holds (node.If c l r) e h =
        let met = ok.nodes id (node.If c l r) e in
        d.chosen (own t (part c.0)) (own t (part l.0)) (otherwise (part r.0) (own t (part r.0))) (of_tree (part c.0)) (of_tree (part l.0)) (of_tree (part r.0))
        (part_whole c.0 met.parts.below.0.0 met.exprs.0) ((stands l.0 met.parts.below.1.0).block met.blocks.0)
        (d.other t (said t) (part r.0) ((stands r.0 met.parts.below.1.1.0).block met.blocks.1.0))
    node_holds (node.While c b) e h =
        let met = ok.nodes id (node.While c b) e in
        d.repeated (own t (part c.0)) (own t (part b.0)) (of_tree (part c.0)) (of_tree (part b.0))
        (part_whole c.0 met.parts.below.0.0 met.exprs.0) ((stands b.0 met.parts.below.1.0).block met.blocks.0)
    node_holds (node.Call r m args) e h =
        let met = ok.nodes id (node.Call r m args) e in
        let es = forest_at part (args_of args) in
        d.call (part r.0) (own t (part r.0)) (of_tree (part r.0)) (bytes_at t.names m.0) (arguments (each t es)) (does.arguments es (does.each (said t) a.AddArgument es))
        ((stands r.0 met.parts.below.0.0).expression met.exprs.0)
        (d.given t (said t) es (each_whole (args_of args) met.parts.below.0.1 met.exprs.1))
    node_holds (node.Def (method.Named c m) s) e h =
        let met = ok.nodes id (node.Def (method.Named c m) s) e in
        let b : ℕ = block_in (slice_get t.bodies s.0) in
        defined (named t c.0 m.0) (parameters t s.0) (own t (part b)) (does.named (said t) c.0 m.0) (does.parameters (said t) s.0) (of_tree (part b))
        (plain_name t c.0 m.0) (parameters_are t s.0 _ met.known.1) ((stands b met.parts.below.1.0).block met.blocks.0)
    node_holds (node.Def (method.Computed c v) s) e h =
        let met = ok.nodes id (node.Def (method.Computed c v) s) e in
        let b : ℕ = block_in (slice_get t.bodies s.0) in
        let ps : List Piece = own t (part v.0) in
        defined (computed t c.0 ps) (parameters t s.0) (own t (part b)) (does.computed (said t) c.0 (of_tree (part v.0))) (does.parameters (said t) s.0) (of_tree (part b))
        (computed_name t c.0 ps (of_tree (part v.0)) (part_whole v.0 met.parts.below.0.0 met.exprs.0)) (parameters_are t s.0 _ met.known.1) ((stands b met.parts.below.1.0).block met.blocks.0)
    node_holds (node.Declare (method.Named c m) s q) e h =
        let met = ok.nodes id (node.Declare (method.Named c m) s q) e in
        declared q (named t c.0 m.0) (signature t s.0) (does.named (said t) c.0 m.0) (does.signature (said t) s.0) (plain_name t c.0 m.0) (signature_is t s.0 _ met.known.1)
    node_holds (node.Declare (method.Computed c v) s q) e h =
        let met = ok.nodes id (node.Declare (method.Computed c v) s q) e in
        let ps : List Piece = own t (part v.0) in
        declared q (computed t c.0 ps) (signature t s.0) (does.computed (said t) c.0 (of_tree (part v.0))) (does.signature (said t) s.0)
        (computed_name t c.0 ps (of_tree (part v.0)) (part_whole v.0 met.parts.below.0.0 met.exprs.0)) (signature_is t s.0 _ met.known.1)
    node_holds (node.Block first count) e h = absurd h

    node_block : (n : Node) → node_at t id ≡ Some n → IsBlockNode (Some n) → AsBlock (own t (tree_of t part id n)) (of_tree (tree_of t part id n))
    node_block (node.Block first count) e h =
        let met = ok.nodes id (node.Block first count) e in
        let is : List NodeId = items_of t first count in
        d.block t (said t) (forest_at part is) (each_whole is met.parts.below.0 met.exprs)
    node_block _ e h = absurd h

  down_stands : (depth id : ℕ) → id < depth → Stands (tree_down t depth id) (node_at t id)
  unfolding tree_down
  down_stands zero id deep = absurd (omega arith)
  down_stands (suc depth) id deep = go (λ j below. down_stands depth j (omega arith)) (node_at t id) refl
    where
      go : ((j : ℕ) → j < id → Stands (tree_down t depth j) (node_at t j)) → (o : Option Node) → node_at t id ≡ o → Stands (tree_of_place t (tree_down t depth) id o) o
      go parts None e = record { expression = λ h. absurd h; block = λ h. absurd h }
      go parts (Some n) e = record { expression = λ h. node_holds (tree_down t depth) id parts n e h; block = λ h. node_block (tree_down t depth) id parts n e h }

  -- ── lines ──

  -- the items of a block on lines, behind a line feed, and the `end` on a line
  record AreLines (ps : List Piece) (ds : List Deed) : Type 0 where
    on : {stack : List Symbol} {behind : List Piece} {later : List Deed} → Sentence stack (line_end ∷ behind) later
        → Sentence (N g.Block ∷ T k.KwEnd ∷ A a.EndBlock ∷ stack) (line_end ∷ (ps ++ behind)) (ds ++ later)

  lined : (es : Forest) → AreExpressions t (said t) es → AreLines (flat_map line (each t es) ++ line (mark k.KwEnd ∷ [])) (plain a.BeginBlock ∷ (does.each (said t) a.AddItem es ++ plain a.EndBlock ∷ []))
  lined es h = record {
    on = λ i.
        choose g.Block 0 refl (action refl (choose g.Items 0 refl (token
        (split (flat_map line (each t es)) (line (mark k.KwEnd ∷ [])) _
        (join (does.each (said t) a.AddItem es) (plain a.EndBlock ∷ []) _ ((d.lines t (said t) es h).on (token (action refl i))))))));
  }

  root : (id : ℕ) → IsBlockNode (node_at t id) → AreLines (lines_of t (tree_at t id)) (of_tree (tree_at t id))
  unfolding tree_at tree_down
  root id h = go (node_at t id) refl h
    where
      go : (o : Option Node) → node_at t id ≡ o → IsBlockNode o → AreLines (lines_of t (tree_of_place t (tree_down t id) id o)) (of_tree (tree_of_place t (tree_down t id) id o))
      go (Some (node.Block first count)) e h =
          let met = ok.nodes id (node.Block first count) e in
          let is : List NodeId = items_of t first count in
          lined (forest_at (tree_down t id) is) (each_whole (tree_down t id) id (λ j below. down_stands id j below) is met.parts.below.0 met.exprs)
      go _ e h = absurd h

  abbrev script : List Symbol
  script = T k.KwScript ∷ T k.Name ∷ A a.BeginScript ∷ N g.Block ∷ T k.KwEnd ∷ A a.EndBlock ∷ A a.EndScript ∷ N g.Scripts ∷ []

  abbrev tree_of_script : NameId × NodeId → ℕ × Tree
  tree_of_script s = (s.0.0, tree_at t s.1.0)

  one_script : (s : NameId × NodeId) → IsScriptIn t s → {stack : List Symbol} (behind : List Piece) (later : List Deed) → Sentence (N g.Scripts ∷ stack) behind later
      → Sentence (script ++ stack) (script_lines t s ++ behind) (does.script_deeds (said t) (tree_of_script s) ++ later)
  one_script s h behind later i =
      token (looks (join (of_tree (tree_at t s.1.0)) (plain a.EndScript ∷ []) later ((root s.1.0 h.root.block).on (action refl (choose g.Scripts 0 refl (token i))))))

  abbrev scripts_of : List (NameId × NodeId) → List Piece
  scripts_of scripts = flat_map (script_lines t) scripts

  abbrev deeds_of_scripts : List (NameId × NodeId) → List Deed
  deeds_of_scripts scripts = flat_map (does.script_deeds (said t)) (map tree_of_script scripts)

  all_scripts : (scripts : List (NameId × NodeId)) → AllByRecursion (IsScriptIn t) scripts → Leads g.Scripts (scripts_of scripts) (deeds_of_scripts scripts) []
  all_scripts [] h = record { on = λ i. choose g.Scripts 2 refl i }
  all_scripts (s ∷ scripts) h = record {
    on = λ i.
        split (script_lines t s) (scripts_of scripts) _ (join (does.script_deeds (said t) (tree_of_script s)) (deeds_of_scripts scripts) _
        (choose g.Scripts 1 refl (one_script s h.0 _ _ ((all_scripts scripts h.1).on i))));
  }

  -- behind the classes
  first_script : (scripts : List (NameId × NodeId)) → AllByRecursion (IsScriptIn t) scripts → Leads g.Classes (scripts_of scripts) (deeds_of_scripts scripts) []
  first_script [] h = record { on = λ i. choose g.Classes 4 refl i }
  first_script (s ∷ scripts) h = record {
    on = λ i.
        split (script_lines t s) (scripts_of scripts) _ (join (does.script_deeds (said t) (tree_of_script s)) (deeds_of_scripts scripts) _
        (choose g.Classes 3 refl (one_script s h.0 _ _ ((all_scripts scripts h.1).on i))));
  }

  abbrev deeds_of_setup : Option NodeId → List Deed
  deeds_of_setup o = does.setup_deeds (said t) (option_map (λ b. tree_at t b.0) o)

  setup_first : (o : Option NodeId) → IfSome o (IsRootIn t) → (scripts : List (NameId × NodeId)) → AllByRecursion (IsScriptIn t) scripts
      → Sentence (N g.Classes ∷ []) (setup_lines t o ++ (scripts_of scripts ++ [])) (deeds_of_setup o ++ (deeds_of_scripts scripts ++ []))
  setup_first None h scripts hs = (first_script scripts hs).on over
  setup_first (Some id) h scripts hs =
      choose g.Classes 2 refl (token (action refl
      (join (of_tree (tree_at t id.0)) (plain a.EndSetup ∷ []) _ ((root id.0 h.block).on (action refl (choose g.Scripts 0 refl (token ((all_scripts scripts hs).on over))))))))

  all_classes : (names : List (List ℕ)) → Leads g.Classes (flat_map class_line names) (does.class_deeds names) (N g.Classes ∷ [])
  all_classes [] = record { on = λ i. i }
  all_classes (name ∷ names) = record { on = λ i. choose g.Classes 1 refl (token (looks (choose g.Classes 0 refl (token ((all_classes names).on i))))) }

  derived : Sentence program (pieces_of t ++ []) (deeds_of (said t) ++ [])
  derived = choose g.Program 0 refl
      (split (flat_map class_line t.classes ++ setup_lines t t.setup) (scripts_of t.scripts) _
      (split (flat_map class_line t.classes) (setup_lines t t.setup) _
      (join (does.class_deeds t.classes ++ deeds_of_setup t.setup) (deeds_of_scripts t.scripts) _
      (join (does.class_deeds t.classes) (deeds_of_setup t.setup) _
      ((all_classes t.classes).on (setup_first t.setup ok.setup t.scripts ok.scripts))))))

  written : Sentence program (pieces_of t) (deeds_of (said t))
  written =
      subst (λ (ds : List Deed). Sentence program (pieces_of t) ds) (append-nil (deeds_of (said t)))
      (subst (λ (ps : List Piece). Sentence program ps (deeds_of (said t) ++ [])) (append-nil (pieces_of t)) derived)

  -- ── the whole text ──

  -- the tokens of the canonical text are a program's
  pub canonical_program : IsProgramText (piece_kinds (pieces_of t))
  canonical_program = (written.steps, derives written.steps program [] (pieces_of t) (deeds_of (said t)) (written.yields []))

  -- and what is done for them is what the canonical text of what is said wants
  pub canonical_deeds : (tokens : List Token) → HasTokens (canon t) tokens → (done : List Act) × HasActions (kinds_of tokens) done × (deeds_in (canon t) tokens done ≡ deeds_of (said t))
  canonical_deeds tokens h =
      let pieces : HasPieces (canon t) (pieces_of t) = canonical_pieces t ok in
      let answer : Ok pieces.tokens ≡ Ok tokens = one_answer pieces.tokens_are.0 h.0 0 None (canon t) (Ok pieces.tokens) (Ok tokens) pieces.tokens_are.1 h.1 in
      let same : pieces.tokens ≡ tokens = cc in
      let r = acts (canon t) pieces.tokens written.steps program 0 (pieces_of t) (deeds_of (said t)) (written.yields []) pieces.kinds pieces.bytes in
      subst (λ (ts : List Token). (done : List Act) × HasActions (kinds_of ts) done × (deeds_in (canon t) ts done ≡ deeds_of (said t))) same
      (r.0, (written.steps, subst (λ (kinds : List TokenKind). Translates written.steps program 0 kinds r.0) (sym pieces.kinds) r.1), r.2)
