-- The pieces of a program's trees are tokens, and a line feed behind an expression separates.
use Rattle.std.proofs.Common.{◌≡◌, ℕ, zero, suc, ◌<◌, ◌≤◌, ◌≤ℤ◌, pos, negsuc, List, [], ◌∷◌, ◌++◌, map, length, Bool, true, false, Option, Some, None, refl, sym, subst, arith}
use Rattle.std.specs.Prelude.{slice_get, nat_lt, if◌then◌else◌}
use Rattle.std.specs.{Option.option_map, List.AllByRecursion, List.flat_map}
use Rattle.hb_lex.specs.declared.kinds.TokenKind.{TokenKind}
use Rattle.hb_lex.specs.declared.kinds.TokenKind.TheVariants as k
use Rattle.hb_lex.specs.Text.{separates}
use Rattle.hb_types.specs.declared.{ids.NodeId.NodeId, types.Ty.Ty, types.MethodTy.MethodTy}
use Rattle.hb_types.specs.declared.types.Ty.TheVariants as ty
use Rattle.hb_types.specs.Types.{params_of as param_types_of}
use Rattle.hb_tree.specs.declared.{node.Op.Op, node.Node.Node, parts.Body.Body}
use Rattle.hb_tree.specs.declared.node.Op.TheVariants as op
use Rattle.hb_tree.specs.declared.node.Node.TheVariants as node
use Rattle.hb_tree.specs.declared.node.Method.TheVariants as method
use Rattle.hb_tree.specs.{Table.Table, Tree.Tree, Tree.TBlock, Tree.NoTree, Pieces.Piece, Pieces.mark, Pieces.joined_paren, Spelling.IsName, Spelling.IsClassName, Spelling.IsText}
use Rattle.hb_tree.specs.Nodes.{args_of, items_of, node_at, params_of, block_in}
use Rattle.hb_tree.specs.TreeAt.{forest_at, tree_of, tree_of_place, tree_down}
use Rattle.hb_tree.specs.Program.{IsProgram, IsExprNode, IsTyIn, IsMethodTyIn}
use Rattle.hb_tree.specs.Canon.{own, each, wrap, least_left, least_right, op_kind, level, arguments, otherwise, separated, named, computed, parameters, parameters_of}
use Rattle.hb_tree.specs.Canon.{signature, signature_of, declares, name_piece, class_piece, type_piece, bytes_at}
use Rattle.hb_tree.proofs.Lists.{each_append, each_at, past_none}
use Rattle.hb_canonical.proofs.LeafLemmas.{name_token, class_token, text_token, number_token}
use Rattle.hb_canonical.proofs.LooseLemmas.{IsPlain, ArePlain, plain_mark, plain_paren, last_kind, Ends, ends_append}

-- ── lists of pieces ──

plain_append : (ps qs : List Piece) → ArePlain ps → ArePlain qs → ArePlain (ps ++ qs)
plain_append ps qs h g = each_append IsPlain ps qs h g

abbrev AllPlain : List (List Piece) → Type 0
AllPlain pss = AllByRecursion ArePlain pss

separated_plain : (sep : Piece) (pss : List (List Piece)) → IsPlain sep → AllPlain pss → ArePlain (separated sep pss)
separated_plain sep [] s h = tt
separated_plain sep (ps ∷ pss) s h = plain_append ps (flat_map (λ qs. sep ∷ qs) pss) h.0 (further pss h.1)
  where
    further : (qss : List (List Piece)) → AllPlain qss → ArePlain (flat_map (λ qs. sep ∷ qs) qss)
    further [] g = tt
    further (qs ∷ qss) g = plain_append (sep ∷ qs) (flat_map (λ rs. sep ∷ rs) qss) (s, g.0) (further qss g.1)

comma : IsPlain (mark k.Comma)
comma = plain_mark k.Comma (omega arith)

closing : ArePlain (mark k.CloseParen ∷ [])
closing = (plain_mark k.CloseParen (omega arith), tt)

ending : ArePlain (mark k.KwEnd ∷ [])
ending = (plain_mark k.KwEnd (omega arith), tt)

wrap_plain : (least : ℕ) (e : Tree) (ps : List Piece) → ArePlain ps → ArePlain (wrap least e ps)
wrap_plain least e ps h = go (nat_lt (level e) least)
  where
    go : (b : Bool) → ArePlain (if b then (mark k.OpenParen ∷ (ps ++ mark k.CloseParen ∷ [])) else ps)
    go true = (plain_mark k.OpenParen (omega arith), plain_append ps (mark k.CloseParen ∷ []) h closing)
    go false = h

wrap_ends : (least : ℕ) (e : Tree) (ps : List Piece) → Ends ps → Ends (wrap least e ps)
wrap_ends least e ps h = go (nat_lt (level e) least)
  where
    go : (b : Bool) → Ends (if b then (mark k.OpenParen ∷ (ps ++ mark k.CloseParen ∷ [])) else ps)
    go true = ends_append (mark k.OpenParen ∷ ps) (mark k.CloseParen ∷ []) (λ before. refl)
    go false = h

arguments_plain : (pss : List (List Piece)) → AllPlain pss → ArePlain (arguments pss)
arguments_plain [] h = tt
arguments_plain (ps ∷ pss) h = (plain_paren, plain_append (separated (mark k.Comma) (ps ∷ pss)) (mark k.CloseParen ∷ []) (separated_plain (mark k.Comma) (ps ∷ pss) comma h) closing)

-- behind a name
arguments_end : (p : Piece) (pss : List (List Piece)) → p.kind ≡ k.Name → Ends (p ∷ arguments pss)
arguments_end p [] is before = subst (λ (x : TokenKind). separates (Some x) ≡ true) (sym is) refl
arguments_end p (ps ∷ pss) is before = ends_append (p ∷ joined_paren ∷ separated (mark k.Comma) (ps ∷ pss)) (mark k.CloseParen ∷ []) (λ b. refl) before

otherwise_plain : (block : Tree) (ps : List Piece) → ArePlain ps → ArePlain (otherwise block ps)
otherwise_plain (TBlock id NoTree) ps h = tt
otherwise_plain _ ps h = (plain_mark k.KwElse (omega arith), h)

op_plain : (o : Op) → IsPlain (mark (op_kind o))
op_plain op.Add = plain_mark k.Plus (omega arith)
op_plain op.Sub = plain_mark k.Minus (omega arith)
op_plain op.Mul = plain_mark k.Times (omega arith)
op_plain op.Concat = plain_mark k.Concat (omega arith)
op_plain op.Less = plain_mark k.Less (omega arith)
op_plain op.Equal = plain_mark k.Equals (omega arith)

declares_plain : (q : Bool) → IsPlain (mark (declares q))
declares_plain true = plain_mark k.KwTypeAsk (omega arith)
declares_plain false = plain_mark k.KwType (omega arith)

-- ── words of a program ──

-- a word that is known keeps what each word keeps
word_at : (P : List ℕ → Type 0) (words : List (List ℕ)) (i : ℕ) → i < length words → AllByRecursion P words → P (bytes_at words i)
word_at P words i inside all = go (slice_get words i) refl
  where
    go : (o : Option (List ℕ)) → slice_get words i ≡ o → P (bytes_at words i)
    go None e = let past : length words ≤ i = past_none words i e in absurd (omega arith)
    go (Some w) e = rw e (each_at P words i w e all)

module _ (t : Table) (ok : IsProgram t) where
  pub name_plain : (x : ℕ) → x < length t.names → IsPlain (name_piece t x)
  name_plain x inside = record { token = name_token (bytes_at t.names x) (word_at IsName t.names x inside ok.spelled.names); loose = refl }

  class_plain : (c : ℕ) → c < length t.classes → IsPlain (class_piece t c)
  class_plain c inside = record { token = class_token (bytes_at t.classes c) (word_at IsClassName t.classes c inside ok.spelled.classes); loose = refl }

  type_plain : (y : Ty) → IsTyIn t y → IsPlain (type_piece t y)
  type_plain ty.Nil h = plain_mark k.TyNil (omega arith)
  type_plain ty.Bool h = plain_mark k.TyBool (omega arith)
  type_plain ty.Int h = plain_mark k.TyInt (omega arith)
  type_plain ty.Str h = plain_mark k.TyStr (omega arith)
  type_plain ty.Any h = plain_mark k.TyAny (omega arith)
  type_plain (ty.Class c) h = class_plain c.0 h

  type_ends : (y : Ty) → Ends (type_piece t y ∷ [])
  type_ends ty.Nil before = refl
  type_ends _ _ = refl

  words_plain : {X : Type 0} (P : X → Type 0) (f : X → Piece) (xs : List X) → ((x : X) → P x → IsPlain (f x)) → AllByRecursion P xs → AllPlain (map (λ x. f x ∷ []) xs)
  words_plain P f [] g h = tt
  words_plain P f (x ∷ xs) g h = ((g x h.0, tt), words_plain P f xs g h.1)

  parameters_plain : (s : ℕ) → ArePlain (parameters t s)
  parameters_plain s = go (slice_get t.bodies s) refl
    where
      go : (o : Option Body) → slice_get t.bodies s ≡ o → ArePlain (parameters_of t o)
      go None e = tt
      go (Some b) e =
          let pss : List (List Piece) = map (λ x. name_piece t x ∷ []) (params_of b) in
          let names : AllPlain pss = words_plain (λ x. x < length t.names) (λ x. name_piece t x) (params_of b) name_plain (ok.bodies s b e).params.known in
          plain_append (joined_paren ∷ separated (mark k.Comma) pss) (mark k.CloseParen ∷ []) (plain_paren, separated_plain (mark k.Comma) pss comma names) closing

  signature_of_plain : (m : MethodTy) → IsMethodTyIn t m → ArePlain (signature_of t (Some m))
  signature_of_plain m known =
      let pss : List (List Piece) = map (λ y. type_piece t y ∷ []) (param_types_of m) in
      let types : AllPlain pss = words_plain (IsTyIn t) (λ y. type_piece t y) (param_types_of m) type_plain known.params in
      plain_append (mark k.Colon ∷ mark k.OpenParen ∷ separated (mark k.Comma) pss) (mark k.CloseParen ∷ mark k.Arrow ∷ type_piece t m.result ∷ [])
      (plain_mark k.Colon (omega arith), (plain_mark k.OpenParen (omega arith), separated_plain (mark k.Comma) pss comma types))
      (plain_mark k.CloseParen (omega arith), (plain_mark k.Arrow (omega arith), (type_plain m.result known.result, tt)))

  signature_plain : (s : ℕ) → ArePlain (signature t s)
  signature_plain s = go (slice_get t.types s) refl
    where
      go : (o : Option (MethodTy × NodeId)) → slice_get t.types s ≡ o → ArePlain (signature_of t (option_map (λ y. y.0) o))
      go None e = tt
      go (Some y) e = signature_of_plain y.0 (ok.types s y e).known

  -- behind pieces that a line feed ends
  signature_ends : (ps : List Piece) (o : Option MethodTy) → Ends ps → Ends (ps ++ signature_of t o)
  signature_ends ps None h = nil_ends ps h
    where
      nil_ends : (ps : List Piece) → Ends ps → Ends (ps ++ [])
      nil_ends ps h before = ends_nil ps before (h before)
        where
          ends_nil : (qs : List Piece) (before : Option TokenKind) → separates (last_kind before qs) ≡ true → separates (last_kind before (qs ++ [])) ≡ true
          ends_nil [] before g = g
          ends_nil (q ∷ qs) before g = ends_nil qs (Some q.kind) g
  signature_ends ps (Some m) h =
      let pss : List (List Piece) = map (λ y. type_piece t y ∷ []) (param_types_of m) in
      ends_append ps (signature_of t (Some m)) (ends_append (mark k.Colon ∷ mark k.OpenParen ∷ separated (mark k.Comma) pss) (mark k.CloseParen ∷ mark k.Arrow ∷ type_piece t m.result ∷ [])
      (λ before. type_ends m.result (Some k.Arrow)))

  named_plain : (c m : ℕ) → c < length t.classes → m < length t.names → ArePlain (named t c m)
  named_plain c m p q = (class_plain c p, (plain_mark k.Dot (omega arith), (name_plain m q, tt)))

  computed_plain : (c : ℕ) (ps : List Piece) → c < length t.classes → ArePlain ps → ArePlain (computed t c ps)
  computed_plain c ps p h = (class_plain c p, (plain_mark k.Dot (omega arith), (plain_mark k.OpenParen (omega arith), plain_append ps (mark k.CloseParen ∷ []) h closing)))

  computed_ends : (c : ℕ) (ps : List Piece) → Ends (computed t c ps)
  computed_ends c ps = ends_append (class_piece t c ∷ mark k.Dot ∷ mark k.OpenParen ∷ ps) (mark k.CloseParen ∷ []) (λ before. refl)

  def_plain : (head params block : List Piece) → ArePlain head → ArePlain params → ArePlain block → ArePlain ((mark k.KwDef ∷ head) ++ params ++ block ++ mark k.KwEnd ∷ [])
  def_plain head params block h p b =
      plain_append ((mark k.KwDef ∷ head) ++ params ++ block) (mark k.KwEnd ∷ [])
      (plain_append ((mark k.KwDef ∷ head) ++ params) block (plain_append (mark k.KwDef ∷ head) params (plain_mark k.KwDef (omega arith), h) p) b) ending

  -- ── nodes ──

  module _ (part : ℕ → Tree) (plain : (j : ℕ) → ArePlain (own t (part j))) where
    each_plain : (is : List NodeId) → AllPlain (each t (forest_at part is))
    each_plain [] = tt
    each_plain (i ∷ is) = (plain i.0, each_plain is)

    node_plain : (id : ℕ) (n : Node) → node_at t id ≡ Some n → ArePlain (own t (tree_of t part id n))
    node_plain id node.Nil e = (plain_mark k.KwNil (omega arith), tt)
    node_plain id node.True e = (plain_mark k.KwTrue (omega arith), tt)
    node_plain id node.False e = (plain_mark k.KwFalse (omega arith), tt)
    node_plain id node.SelfRef e = (plain_mark k.KwSelf (omega arith), tt)
    node_plain id (node.Int (pos n)) e = let fits = (ok.nodes id (node.Int (pos n)) e).known.1.sfits in (record { token = number_token n (omega arith); loose = refl }, tt)
    node_plain id (node.Int (negsuc n)) e = (let known : pos 0 ≤ℤ negsuc n = (ok.nodes id (node.Int (negsuc n)) e).known.0 in absurd (omega arith))
    node_plain id (node.Text x) e = (record { token = text_token (bytes_at t.texts x.0) (word_at IsText t.texts x.0 (ok.nodes id (node.Text x) e).known ok.spelled.texts); loose = refl }, tt)
    node_plain id (node.Var x) e = (name_plain x.0 (ok.nodes id (node.Var x) e).known, tt)
    node_plain id (node.New c) e = (class_plain c.0 (ok.nodes id (node.New c) e).known, (plain_mark k.Dot (omega arith), (plain_mark k.KwNew (omega arith), tt)))
    node_plain id (node.Assign x v) e = (name_plain x.0 (ok.nodes id (node.Assign x v) e).known, (plain_mark k.Assign (omega arith), plain v.0))
    node_plain id (node.Print v) e = (plain_mark k.KwPrint (omega arith), plain v.0)
    node_plain id (node.ToStr v) e = (plain_mark k.KwStr (omega arith), (plain_paren, plain_append (own t (part v.0)) (mark k.CloseParen ∷ []) (plain v.0) closing))
    node_plain id (node.Not v) e = (plain_mark k.KwNot (omega arith), wrap_plain 4 (part v.0) (own t (part v.0)) (plain v.0))
    node_plain id (node.Binary op l r) e =
        plain_append (wrap (least_left op) (part l.0) (own t (part l.0))) (mark (op_kind op) ∷ wrap (least_right op) (part r.0) (own t (part r.0)))
        (wrap_plain (least_left op) (part l.0) (own t (part l.0)) (plain l.0))
        (op_plain op, wrap_plain (least_right op) (part r.0) (own t (part r.0)) (plain r.0))
    node_plain id (node.If c l r) e =
        let first : List Piece = mark k.KwIf ∷ own t (part c.0) in
        let yes : List Piece = mark k.KwThen ∷ own t (part l.0) in
        let other : List Piece = otherwise (part r.0) (own t (part r.0)) in
        plain_append (first ++ yes ++ other) (mark k.KwEnd ∷ [])
        (plain_append (first ++ yes) other
        (plain_append first yes (plain_mark k.KwIf (omega arith), plain c.0) (plain_mark k.KwThen (omega arith), plain l.0))
        (otherwise_plain (part r.0) (own t (part r.0)) (plain r.0))) ending
    node_plain id (node.While c b) e =
        let first : List Piece = mark k.KwWhile ∷ own t (part c.0) in
        let block : List Piece = mark k.KwDo ∷ own t (part b.0) in
        plain_append (first ++ block) (mark k.KwEnd ∷ [])
        (plain_append first block (plain_mark k.KwWhile (omega arith), plain c.0) (plain_mark k.KwDo (omega arith), plain b.0)) ending
    node_plain id (node.Call r m args) e =
        let given : List (List Piece) = each t (forest_at part (args_of args)) in
        plain_append (wrap 5 (part r.0) (own t (part r.0))) (mark k.Dot ∷ name_piece t m.0 ∷ arguments given)
        (wrap_plain 5 (part r.0) (own t (part r.0)) (plain r.0))
        (plain_mark k.Dot (omega arith), (name_plain m.0 (ok.nodes id (node.Call r m args) e).known.0, arguments_plain given (each_plain (args_of args))))
    node_plain id (node.Def (method.Named c m) s) e =
        let known = (ok.nodes id (node.Def (method.Named c m) s) e).known in
        def_plain (named t c.0 m.0) (parameters t s.0) (own t (part (block_in (slice_get t.bodies s.0))))
        (named_plain c.0 m.0 known.0.0 known.0.1) (parameters_plain s.0) (plain (block_in (slice_get t.bodies s.0)))
    node_plain id (node.Def (method.Computed c v) s) e =
        let known = (ok.nodes id (node.Def (method.Computed c v) s) e).known in
        def_plain (computed t c.0 (own t (part v.0))) (parameters t s.0) (own t (part (block_in (slice_get t.bodies s.0))))
        (computed_plain c.0 (own t (part v.0)) known.0 (plain v.0)) (parameters_plain s.0) (plain (block_in (slice_get t.bodies s.0)))
    node_plain id (node.Declare (method.Named c m) s q) e =
        let known = (ok.nodes id (node.Declare (method.Named c m) s q) e).known in
        plain_append (mark (declares q) ∷ named t c.0 m.0) (signature t s.0) (declares_plain q, named_plain c.0 m.0 known.0.0 known.0.1) (signature_plain s.0)
    node_plain id (node.Declare (method.Computed c v) s q) e =
        let known = (ok.nodes id (node.Declare (method.Computed c v) s q) e).known in
        plain_append (mark (declares q) ∷ computed t c.0 (own t (part v.0))) (signature t s.0) (declares_plain q, computed_plain c.0 (own t (part v.0)) known.0 (plain v.0)) (signature_plain s.0)
    node_plain id (node.Block first count) e = separated_plain (mark k.Separator) (each t (forest_at part (items_of t first count))) (plain_mark k.Separator (omega arith)) (each_plain (items_of t first count))

  -- the pieces of each tree
  pub down_plain : (depth id : ℕ) → ArePlain (own t (tree_down t depth id))
  unfolding tree_down
  down_plain zero id = (plain_mark k.KwNil (omega arith), tt)
  down_plain (suc depth) id = go (down_plain depth) (node_at t id) refl
    where
      go : ((j : ℕ) → ArePlain (own t (tree_down t depth j))) → (o : Option Node) → node_at t id ≡ o → ArePlain (own t (tree_of_place t (tree_down t depth) id o))
      go parts None e = (plain_mark k.KwNil (omega arith), tt)
      go parts (Some n) e = node_plain (tree_down t depth) parts id n e

  -- ── the ends of expressions ──

  module _ (part : ℕ → Tree) (ends : (j : ℕ) → IsExprNode (node_at t j) → Ends (own t (part j))) where
    node_ends : (id : ℕ) (n : Node) → node_at t id ≡ Some n → IsExprNode (Some n) → Ends (own t (tree_of t part id n))
    node_ends id (node.Assign x v) e h before = ends v.0 (ok.nodes id (node.Assign x v) e).exprs.0 (Some k.Assign)
    node_ends id (node.Print v) e h before = ends v.0 (ok.nodes id (node.Print v) e).exprs.0 (Some k.KwPrint)
    node_ends id (node.ToStr v) e h before = ends_append (mark k.KwStr ∷ joined_paren ∷ own t (part v.0)) (mark k.CloseParen ∷ []) (λ b. refl) before
    node_ends id (node.Not v) e h before = wrap_ends 4 (part v.0) (own t (part v.0)) (ends v.0 (ok.nodes id (node.Not v) e).exprs.0) (Some k.KwNot)
    node_ends id (node.Binary op l r) e h before =
        ends_append (wrap (least_left op) (part l.0) (own t (part l.0))) (mark (op_kind op) ∷ wrap (least_right op) (part r.0) (own t (part r.0)))
        (λ b. wrap_ends (least_right op) (part r.0) (own t (part r.0)) (ends r.0 (ok.nodes id (node.Binary op l r) e).exprs.1.0) (Some (op_kind op))) before
    node_ends id (node.If c l r) e h before =
        ends_append ((mark k.KwIf ∷ own t (part c.0)) ++ (mark k.KwThen ∷ own t (part l.0)) ++ otherwise (part r.0) (own t (part r.0))) (mark k.KwEnd ∷ []) (λ b. refl) before
    node_ends id (node.While c b) e h before = ends_append ((mark k.KwWhile ∷ own t (part c.0)) ++ mark k.KwDo ∷ own t (part b.0)) (mark k.KwEnd ∷ []) (λ b. refl) before
    node_ends id (node.Call r m args) e h before =
        ends_append (wrap 5 (part r.0) (own t (part r.0))) (mark k.Dot ∷ name_piece t m.0 ∷ arguments (each t (forest_at part (args_of args))))
        (λ b. arguments_end (name_piece t m.0) (each t (forest_at part (args_of args))) refl (Some k.Dot)) before
    node_ends id (node.Def (method.Named c m) s) e h before =
        ends_append ((mark k.KwDef ∷ named t c.0 m.0) ++ parameters t s.0 ++ own t (part (block_in (slice_get t.bodies s.0)))) (mark k.KwEnd ∷ []) (λ b. refl) before
    node_ends id (node.Def (method.Computed c v) s) e h before =
        ends_append ((mark k.KwDef ∷ computed t c.0 (own t (part v.0))) ++ parameters t s.0 ++ own t (part (block_in (slice_get t.bodies s.0)))) (mark k.KwEnd ∷ []) (λ b. refl) before
    node_ends id (node.Declare (method.Named c m) s q) e h before = signature_ends (mark (declares q) ∷ named t c.0 m.0) (option_map (λ y. y.0) (slice_get t.types s.0)) (λ b. refl) before
    node_ends id (node.Declare (method.Computed c v) s q) e h before =
        signature_ends (mark (declares q) ∷ computed t c.0 (own t (part v.0))) (option_map (λ y. y.0) (slice_get t.types s.0)) (λ b. computed_ends c.0 (own t (part v.0)) (Some (declares q))) before
    node_ends id (node.Block first count) e h before = absurd h
    node_ends _ _ _ _ _ = refl

  -- a line feed behind an expression separates
  pub down_ends : (depth id : ℕ) → IsExprNode (node_at t id) → Ends (own t (tree_down t depth id))
  unfolding tree_down
  down_ends zero id h = λ before. refl
  down_ends (suc depth) id h = go (down_ends depth) (node_at t id) refl h
    where
      go : ((j : ℕ) → IsExprNode (node_at t j) → Ends (own t (tree_down t depth j))) → (o : Option Node) → node_at t id ≡ o → IsExprNode o → Ends (own t (tree_of_place t (tree_down t depth) id o))
      go parts None e h = absurd h
      go parts (Some n) e h = node_ends (tree_down t depth) parts id n e h
