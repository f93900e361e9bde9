-- The pieces of each form.
use Rattle.std.proofs.Common.{◌≡◌, ℕ, zero, suc, ◌<◌, ◌≤◌, List, [], ◌∷◌, ◌++◌, map, length, take, arith, Option, Some, None, refl, sym, ap, ◌∙◌, true, false}
use Rattle.std.specs.Prelude.{slice_get, Bool, IsSomeAnd, All, ◌==◌}
use Rattle.std.specs.List.{AllByRecursion, flat_map}
use Rattle.std.proofs.{lemmas.List.Folds.flat_map-map, lemmas.List.Elements.All-from_recursion, lemmas.Option.slice_get_within}
use Rattle.std.proofs.lemmas.Bool.{lt-ltb, le-ltb, eqb-true, eqb-false}
use Rattle.hb_tree.specs.{Table.Table, Tree.Tree, Tree.TBlock, Nodes.block_in, Page.Page, Page.written, Forms.method_pieces, Forms.node_level}
use Rattle.hb_tree.proofs.Pages.{written-nil}
use Rattle.hb_lex.specs.declared.kinds.TokenKind.TheVariants as k
use Rattle.hb_types.specs.declared.{ids.BodySite.BodySite, ids.TypeSite.TypeSite, ids.NameId.NameId, ids.NodeId.NodeId}
use Rattle.hb_tree.specs.declared.{node.Node.Node, node.Method.Method, parts.Body.Body}
use Rattle.hb_tree.specs.declared.node.Node.TheVariants as node
use Rattle.hb_tree.specs.declared.node.Method.TheVariants as method
use Rattle.hb_tree.specs.{TreeAt.tree_of, TreeAt.tree_at, TreeAt.forest_at, Pieces.Piece, Pieces.mark, Pieces.joined_paren}
use Rattle.hb_tree.specs.Canon.{level, line, wrap, own, each, arguments, separated, otherwise, named, computed, parameters, parameters_of, name_piece, signature, declares}

pub level-tree_of : (t : Table) (part : ℕ → Tree) (id : ℕ) (n : Node) → level (tree_of t part id n) ≡ node_level n
level-tree_of t part id (node.Def (method.Named c m) s) = refl
level-tree_of t part id (node.Declare (method.Named c m) s q) = refl
level-tree_of _ _ _ _ = refl

pub own-def : (t : Table) (m : Method) (s : BodySite) (b : Body) → slice_get t.bodies s.0 ≡ Some b
    → own t (tree_of t (tree_at t) 0 (node.Def m s)) ≡ (mark k.KwDef ∷ method_pieces t m) ++ parameters t s.0 ++ own t (tree_at t b.block.0) ++ mark k.KwEnd ∷ []
own-def t (method.Named c m) s b e =
    ap (λ (i : ℕ). (mark k.KwDef ∷ named t c.0 m.0) ++ parameters t s.0 ++ own t (tree_at t i) ++ mark k.KwEnd ∷ []) (ap block_in e)
own-def t (method.Computed c name) s b e =
    ap (λ (i : ℕ). (mark k.KwDef ∷ computed t c.0 (own t (tree_at t name.0))) ++ parameters t s.0 ++ own t (tree_at t i) ++ mark k.KwEnd ∷ []) (ap block_in e)

pub own-declare : (t : Table) (m : Method) (s : TypeSite) (q : Bool)
    → own t (tree_of t (tree_at t) 0 (node.Declare m s q)) ≡ (mark (declares q) ∷ method_pieces t m) ++ signature t s.0
own-declare t (method.Named c m) s q = refl
own-declare t (method.Computed c e) s q = refl

-- what is in parentheses, and what is not
pub wrap-paren : (least : ℕ) (e : Tree) (ps : List Piece) → level e < least → wrap least e ps ≡ mark k.OpenParen ∷ (ps ++ mark k.CloseParen ∷ [])
wrap-paren least e ps h = rw (lt-ltb (level e) least h)

pub each-map : (t : Table) (part : ℕ → Tree) (is : List NodeId) → each t (forest_at part is) ≡ map (λ i. own t (part i.0)) is
each-map t part [] = refl
each-map t part (i ∷ is) = ap (λ pss. own t (part i.0) ∷ pss) (each-map t part is)

-- arguments, and none
pub arguments-none : (t : Table) (part : ℕ → Tree) (is : List NodeId) (page : Page) → length is ≡ 0 → page ≡ written page (arguments (each t (forest_at part is)))
arguments-none t part [] page h = sym (written-nil page)
arguments-none t part (i ∷ is) page h = absurd (omega arith)

pub arguments-some : (t : Table) (part : ℕ → Tree) (is : List NodeId) → 0 < length is
    → arguments (each t (forest_at part is)) ≡ joined_paren ∷ (separated (mark k.Comma) (each t (forest_at part is)) ++ mark k.CloseParen ∷ [])
arguments-some t part [] h = absurd (omega arith)
arguments-some t part (i ∷ is) h = refl

-- the block behind `else`, and an empty one
pub otherwise-none : (part : ℕ → Tree) (id : ℕ) (is : List NodeId) (block : Tree) (ps : List Piece) → block ≡ TBlock id (forest_at part is) → length is ≡ 0 → otherwise block ps ≡ []
otherwise-none part id [] block ps e h = rw e
otherwise-none part id (i ∷ is) block ps e h = absurd (omega arith)

pub otherwise-some : (part : ℕ → Tree) (id : ℕ) (is : List NodeId) (block : Tree) (ps : List Piece) → block ≡ TBlock id (forest_at part is) → 0 < length is → otherwise block ps ≡ mark k.KwElse ∷ ps
otherwise-some part id [] block ps e h = absurd (omega arith)
otherwise-some part id (i ∷ is) block ps e h = rw e

-- a place where something is found is one of the list
pub found_within : {X : Type 0} (P : X → Type 0) (xs : List X) (i : ℕ) → IsSomeAnd (slice_get xs i) P → i < length xs
found_within P xs i h = go (slice_get xs i) refl h
  where
    go : (o : Option _) → slice_get xs i ≡ o → IsSomeAnd o P → i < length xs
    go None e k = absurd k
    go (Some x) e k = slice_get_within xs i x e

-- what the test for an empty slice says
pub none_there : (n : ℕ) (b : Bool) → b ≡ (n == 0) → b ≡ true → n ≡ 0
none_there n b e h = eqb-true n 0 (sym e ∙ h)

pub some_there : (n : ℕ) (b : Bool) → b ≡ (n == 0) → b ≡ false → 0 < n
some_there zero b e h = absurd (eqb-false 0 0 (sym e ∙ h) refl)
some_there (suc n) b e h = omega arith

-- a fact of what each element is taken to
pub all_taken : {X Y : Type 0} (f : X → Y) (P : Y → Type 0) (xs : List X) → AllByRecursion P (map f xs) → All (λ x. P (f x)) xs
all_taken f P xs h = All-from_recursion (λ x. P (f x)) xs (go xs h)
  where
    go : (ys : List _) → AllByRecursion P (map f ys) → AllByRecursion (λ x. P (f x)) ys
    go [] k = tt
    go (y ∷ ys) k = (k.0, go ys k.1)

-- the lines of the items of a block
pub lines-each : (t : Table) (part : ℕ → Tree) (is : List NodeId) → flat_map line (each t (forest_at part is)) ≡ flat_map (λ i. line (own t (part i.0))) is
lines-each t part is = ap (flat_map line) (each-map t part is) ∙ flat_map-map line (λ i. own t (part i.0)) is

-- the parameters of a body, from its names
pub parameters-some : (t : Table) (b : Body)
    → parameters_of t (Some b) ≡ joined_paren ∷ separated (mark k.Comma) (map (λ x. name_piece t x.0 ∷ []) (take b.count b.params)) ++ mark k.CloseParen ∷ []
parameters-some t b = ap (λ pss. joined_paren ∷ separated (mark k.Comma) pss ++ mark k.CloseParen ∷ []) (map-twice (take b.count b.params))
  where
    map-twice : (xs : List NameId) → map (λ x. name_piece t x ∷ []) (map (λ x. x.0) xs) ≡ map (λ x. name_piece t x.0 ∷ []) xs
    map-twice [] = refl
    map-twice (x ∷ xs) = ap (λ pss. (name_piece t x.0 ∷ []) ∷ pss) (map-twice xs)
