-- What a written word names is found again: the first that is written so, and itself where no other is.
use Rattle.std.proofs.Common.{◌≡◌, ℕ, zero, suc, ◌+◌, ◌<◌, ◌^◌, List, [], ◌∷◌, length, get_or}
use Rattle.std.proofs.Common.{slice_get, Bool, true, false, refl, sym, ap, ◌∙◌, subst, true≢false, ltb-true, ltb-false, arith}
use Rattle.std.specs.Prelude.{Option, Some, None, nat_eq, nat_lt, bytes_eq, if◌then◌else◌}
use Rattle.std.specs.Option.{option_map, unwrap_or}
use Rattle.std.specs.List.{IsDistinct, AllByRecursion}
use Rattle.std.proofs.lemmas.List.Elements.{All-get_or}
use Rattle.std.proofs.lemmas.Map.Keys.{apart_from_distinct}
use Rattle.hb_types.specs.declared.ids.NodeId.{NodeId}
use Rattle.hb_types.specs.declared.types.MethodTy.{MethodTy}
use Rattle.hb_tree.specs.declared.node.Node.{Node}
use Rattle.hb_tree.specs.declared.node.Node.TheVariants as node
use Rattle.hb_tree.specs.declared.node.Placed.{Placed}
use Rattle.hb_tree.specs.declared.parts.Body.{Body}
use Rattle.hb_tree.specs.Table.{Table}
use Rattle.hb_tree.specs.Nodes.{node_at, place_at}
use Rattle.hb_tree.specs.Canon.{bytes_at}
use Rattle.hb_tree.specs.Program.{IsProgram, IsExprNode, IsDefNode, IsDeclareNode}
use Rattle.hb_deriv_text.specs.Text.{line_and_column, place, place_of_def, place_of_type}
use Rattle.hb_deriv_text.specs.Reading.{first, is_word, named, place_in, same_place, is_expr, is_expr_at, expr_there, body_there, type_there}
use Rattle.hb_deriv_text.specs.Written.{HasSmallPlaces, HasPlacesApart, first_body, first_type, first_expr}
use Rattle.hb_deriv_text.proofs.FirstLemmas.{place_of}
use Rattle.hb_deriv_text.proofs.ReadLemmas.{there, same_bytes, stands}
use Rattle.hb_deriv_text.proofs.SpellingLemmas.{both_true}
use Rattle.hb_deriv_text.proofs.MarkLemmas.{then_is, both, if_true, if_false, same, place_written}

same_some : {Z : Type 0} (x z : Z) → Some x ≡ Some z → x ≡ z
same_some x z h = cc

-- ── elements of lists ──

pub record At {X : Type 0} (xs : List X) (i : ℕ) : Type 0 where
  pub value : X
  pub there : slice_get xs i ≡ Some value

pub element : {X : Type 0} (xs : List X) (i : ℕ) → i < length xs → At xs i
element [] i h = absurd (omega arith)
element (x ∷ xs) zero h = record { value = x; there = refl }
element (x ∷ xs) (suc i) h = let r = element xs i (omega arith) in record { value = r.value; there = r.there }

pub each_at : {X : Type 0} (P : X → Type 0) (xs : List X) (i : ℕ) (x : X) → AllByRecursion P xs → slice_get xs i ≡ Some x → P x
each_at P [] i x h k = absurd (cc)
each_at P (y ∷ xs) zero x h k = subst P (same_some y x k) h.0
each_at P (y ∷ xs) (suc i) x h k = each_at P xs i x h.1 k

pub within : {X : Type 0} (xs : List X) (i : ℕ) (x : X) → slice_get xs i ≡ Some x → i < length xs
within [] i x h = absurd (cc)
within (y ∷ xs) zero x h = omega arith
within (y ∷ xs) (suc i) x h = let r = within xs i x h in omega (arith, r)

read_at : {X : Type 0} (xs : List X) (i : ℕ) (x d : X) → slice_get xs i ≡ Some x → get_or xs i d ≡ x
read_at [] i x d h = absurd (cc)
read_at (y ∷ xs) zero x d h = same_some y x h
read_at (y ∷ xs) (suc i) x d h = read_at xs i x d h

kept : (o : Option ℕ) (k : ℕ) → o ≡ Some k → o ≡ Some (unwrap_or o 0)
kept None k h = absurd (cc)
kept (Some n) k h = refl

-- ── the first that passes ──

some_first : {X : Type 0} (passes : X → Bool) (j : ℕ) (xs : List X) (i : ℕ) (x : X) → slice_get xs i ≡ Some x → passes x ≡ true → (k : ℕ) × (first passes j xs ≡ Some k)
some_first passes j [] i x h p = absurd (cc)
some_first passes j (y ∷ xs) zero x h p = (j, if_true (passes y) (Some j) (first passes (j + 1) xs) (ap passes (same_some y x h) ∙ p))
some_first {X} passes j (y ∷ xs) (suc i) x h p = go (passes y) refl (some_first passes (j + 1) xs i x h p)
  where
    go : (b : Bool) → passes y ≡ b → (k : ℕ) × (first passes (j + 1) xs ≡ Some k) → (k : ℕ) × ((if passes y then Some j else first passes (j + 1) xs) ≡ Some k)
    go true e rest = (j, if_true (passes y) (Some j) (first passes (j + 1) xs) e)
    go false e rest = (rest.0, if_false (passes y) (Some j) (first passes (j + 1) xs) e ∙ rest.1)

first_is : {X : Type 0} (passes : X → Bool) (xs : List X) (i : ℕ) (x : X) → slice_get xs i ≡ Some x → passes x ≡ true
    → ((k : ℕ) (y : X) → slice_get xs k ≡ Some y → passes y ≡ true → k ≡ i) → first passes 0 xs ≡ Some i
first_is passes xs i x h p only =
    let e = some_first passes 0 xs i x h p in
    let r = there passes xs e.0 e.1 in
    e.1 ∙ ap (λ (n : ℕ). Some n) (only e.0 r.found r.there r.passed)

-- ── words ──

same_word : (w : List ℕ) → bytes_eq w w ≡ true
same_word [] = refl
same_word (b ∷ w) = both (nat_eq b b) (bytes_eq w w) (same b) (same_word w)

-- a word stands once among words that differ
only_there : (words : List (List ℕ)) (i k : ℕ) (w : List ℕ) → IsDistinct bytes_eq words → slice_get words i ≡ Some w → slice_get words k ≡ Some w → k ≡ i
only_there words i k w apart h e = go (nat_lt k i) (nat_lt i k) refl refl
  where
    twice : (a b : ℕ) → slice_get words a ≡ Some w → slice_get words b ≡ Some w → a < b → ⊥
    twice a b x y less = true≢false (sym (same_word w) ∙ ap (λ (v : List ℕ). bytes_eq v w) (sym (read_at words a w [] x))
        ∙ ap (λ (v : List ℕ). bytes_eq (get_or words a []) v) (sym (read_at words b w [] y)) ∙ apart_from_distinct bytes_eq words a b [] apart less (within words b w y))

    go : (b c : Bool) → nat_lt k i ≡ b → nat_lt i k ≡ c → k ≡ i
    go true c x y = absurd (twice k i e h (ltb-true k i x))
    go false true x y = absurd (twice i k h e (ltb-true i k y))
    go false false x y = let low = ltb-false k i x in let high = ltb-false i k y in omega (arith, low, high)

pub named_written : (words : List (List ℕ)) (i : ℕ) (w : List ℕ) → IsDistinct bytes_eq words → slice_get words i ≡ Some w → named words w ≡ Some i
named_written words i w apart h = first_is (is_word w) words i w h (same_word w) only
  where
    only : (k : ℕ) (v : List ℕ) → slice_get words k ≡ Some v → is_word w v ≡ true → k ≡ i
    only k v e p = only_there words i k w apart h (e ∙ ap (λ (x : List ℕ). Some x) (same_bytes v w p))

pub word_at : (words : List (List ℕ)) (i : ℕ) (w : List ℕ) → slice_get words i ≡ Some w → bytes_at words i ≡ w
word_at words i w h = ap (λ (o : Option (List ℕ)). unwrap_or o []) h

-- ── places ──

-- an expression, at its place
pub record Expr (t : Table) (id : ℕ) : Type 0 where
  pub placed : Placed
  pub there : slice_get t.nodes id ≡ Some placed
  pub is : IsExprNode (node_at t id)
  pub expr : is_expr placed.node ≡ true

pub expression : (t : Table) (id : ℕ) → IsExprNode (node_at t id) → Expr t id
expression t id whole = go (slice_get t.nodes id) refl whole
  where
    test : (n : Node) → IsExprNode (Some n) → is_expr n ≡ true
    test (node.Block first count) h = absurd h
    test _ h = refl

    go : (o : Option Placed) → slice_get t.nodes id ≡ o → IsExprNode (option_map (λ (p : Placed). p.node) o) → Expr t id
    go None e h = absurd h
    go (Some p) e h = record { placed = p; there = e; is = whole; expr = test p.node h }

-- a node that passes the test is an expression
pub passed : (n : Node) → is_expr n ≡ true → IsExprNode (Some n)
passed (node.Block first count) h = absurd (cc)
passed _ h = tt

pub def_is_expr : (site : ℕ) (o : Option Node) → IsDefNode site o → IsExprNode o
def_is_expr site (Some (node.Def m s)) h = tt
def_is_expr site _ h = absurd h

pub declare_is_expr : (site : ℕ) (o : Option Node) → IsDeclareNode site o → IsExprNode o
declare_is_expr site (Some (node.Declare m s q)) h = tt
declare_is_expr site _ h = absurd h

same_def : (i j : ℕ) (o : Option Node) → IsDefNode i o → IsDefNode j o → i ≡ j
same_def i j (Some (node.Def m s)) h k = sym h ∙ k
same_def i j _ h k = absurd h

same_declare : (i j : ℕ) (o : Option Node) → IsDeclareNode i o → IsDeclareNode j o → i ≡ j
same_declare i j (Some (node.Declare m s q)) h k = sym h ∙ k
same_declare i j _ h k = absurd h

pub placed_at : (t : Table) (id : ℕ) (n : Placed) → slice_get t.nodes id ≡ Some n → place_at t id ≡ Some (place_of n)
placed_at t id n h = ap (option_map place_of) h

there_passes : (p : ℕ × ℕ) (o : Option (ℕ × ℕ)) → o ≡ Some p → same_place p o ≡ true
there_passes p o h = ap (same_place p) h ∙ both (nat_eq p.0 p.0) (nat_eq p.1 p.1) (same p.0) (same p.1)

-- two expressions at one place are one
at_one_place : (t : Table) → HasPlacesApart t → (i j : ℕ) → (e : Expr t i) → IsExprNode (node_at t j) → place_at t j ≡ Some (place_of e.placed) → j ≡ i
at_one_place t apart i j e is h = apart j i is e.is (h ∙ sym (placed_at t i e.placed e.there))

module _ (t : Table) (small : HasSmallPlaces t) where
  pub small_place : (id : ℕ) (n : Placed) → slice_get t.nodes id ≡ Some n → (n.line < 2 ^ 32) × (n.column < 2 ^ 32)
  small_place id n h = subst (λ (m : Placed). (m.line < 2 ^ 32) × (m.column < 2 ^ 32)) (read_at t.nodes id n n h)
      (All-get_or (λ (m : Placed). (m.line < 2 ^ 32) × (m.column < 2 ^ 32)) t.nodes id n (within t.nodes id n h) small)

  place_read : (id : ℕ) (n : Placed) → slice_get t.nodes id ≡ Some n → place_in (place t id) ≡ Some (place_of n)
  place_read id n h =
      let s = small_place id n h in
      ap (λ (o : Option (ℕ × ℕ)). place_in (line_and_column o)) (placed_at t id n h) ∙ place_written (place_of n) s.0 s.1

  -- expressions

  is_there : (n : Placed) → is_expr n.node ≡ true → is_expr_at (place_of n) n ≡ true
  is_there n h = both (is_expr n.node) (same_place (place_of n) (Some (place_of n))) h (there_passes (place_of n) (Some (place_of n)) refl)

  expr_first : (id : ℕ) (e : Expr t id) → expr_there t (place t id) ≡ first (is_expr_at (place_of e.placed)) 0 t.nodes
  expr_first id e = then_is (place_in (place t id)) (λ (p : ℕ × ℕ). first (is_expr_at p) 0 t.nodes) (place_of e.placed) (first (is_expr_at (place_of e.placed)) 0 t.nodes)
      (place_read id e.placed e.there) refl

  pub expr_read : (id : ℕ) → IsExprNode (node_at t id) → expr_there t (place t id) ≡ Some (first_expr t id)
  expr_read id h =
      let e = expression t id h in
      let s = some_first (is_expr_at (place_of e.placed)) 0 t.nodes id e.placed e.there (is_there e.placed e.expr) in
      kept (expr_there t (place t id)) s.0 (expr_first id e ∙ s.1)

  pub same_expr : (id : ℕ) → HasPlacesApart t → IsExprNode (node_at t id) → first_expr t id ≡ id
  same_expr id apart h =
      let e = expression t id h in
      ap (λ (o : Option ℕ). unwrap_or o 0) (expr_first id e ∙ first_is (is_expr_at (place_of e.placed)) t.nodes id e.placed e.there (is_there e.placed e.expr) (only e))
    where
      only : (e : Expr t id) (k : ℕ) (n : Placed) → slice_get t.nodes k ≡ Some n → is_expr_at (place_of e.placed) n ≡ true → k ≡ id
      only e k n at p =
          let q = both_true (is_expr n.node) (same_place (place_of e.placed) (Some (place_of n))) p in
          at_one_place t apart id k e (subst (λ (o : Option Placed). IsExprNode (option_map (λ (m : Placed). m.node) o)) (sym at) (passed n.node q.0))
          (placed_at t k n at ∙ stands (place_of e.placed) (Some (place_of n)) q.1)

  -- bodies

  body_first : (b : Body) (e : Expr t b.def.0) → body_there t (place t b.def.0) ≡ first (λ (c : Body). same_place (place_of e.placed) (place_at t c.def.0)) 0 t.bodies
  body_first b e =
      then_is (place_in (place t b.def.0)) (λ (p : ℕ × ℕ). first (λ (c : Body). same_place p (place_at t c.def.0)) 0 t.bodies) (place_of e.placed)
      (first (λ (c : Body). same_place (place_of e.placed) (place_at t c.def.0)) 0 t.bodies) (place_read b.def.0 e.placed e.there) refl

  def_at : IsProgram t → (site : ℕ) (b : Body) → slice_get t.bodies site ≡ Some b → Expr t b.def.0
  def_at program site b h = expression t b.def.0 (def_is_expr site (node_at t b.def.0) (program.bodies site b h).named)

  pub body_read : IsProgram t → (site : ℕ) → site < length t.bodies → body_there t (place_of_def t (slice_get t.bodies site)) ≡ Some (first_body t site)
  body_read program site h =
      let b = element t.bodies site h in
      let e = def_at program site b.value b.there in
      let s = some_first (λ (c : Body). same_place (place_of e.placed) (place_at t c.def.0)) 0 t.bodies site b.value b.there
      (there_passes (place_of e.placed) (place_at t b.value.def.0) (placed_at t b.value.def.0 e.placed e.there)) in
      kept (body_there t (place_of_def t (slice_get t.bodies site))) s.0 (ap (λ (o : Option Body). body_there t (place_of_def t o)) b.there ∙ body_first b.value e ∙ s.1)

  pub same_body : IsProgram t → (site : ℕ) → HasPlacesApart t → site < length t.bodies → first_body t site ≡ site
  same_body program site apart h =
      let b = element t.bodies site h in
      let e = def_at program site b.value b.there in
      ap (λ (o : Option ℕ). unwrap_or o 0)
      (ap (λ (o : Option Body). body_there t (place_of_def t o)) b.there ∙ body_first b.value e
      ∙ first_is (λ (c : Body). same_place (place_of e.placed) (place_at t c.def.0)) t.bodies site b.value b.there
      (there_passes (place_of e.placed) (place_at t b.value.def.0) (placed_at t b.value.def.0 e.placed e.there)) (only b.value b.there e))
    where
      only : (b : Body) → slice_get t.bodies site ≡ Some b → (e : Expr t b.def.0) (k : ℕ) (c : Body) → slice_get t.bodies k ≡ Some c → same_place (place_of e.placed)
          (place_at t c.def.0) ≡ true → k ≡ site
      only b there e k c at p =
          let same = at_one_place t apart b.def.0 c.def.0 e (def_at program k c at).is (stands (place_of e.placed) (place_at t c.def.0) p) in
          same_def k site (node_at t b.def.0) (subst (λ (id : ℕ). IsDefNode k (node_at t id)) same (program.bodies k c at).named) (program.bodies site b there).named

  -- types

  type_first : (y : MethodTy × NodeId) (e : Expr t y.1.0) → type_there t (place t y.1.0) ≡ first (λ (z : MethodTy × NodeId). same_place (place_of e.placed) (place_at t z.1.0)) 0 t.types
  type_first y e =
      then_is (place_in (place t y.1.0)) (λ (p : ℕ × ℕ). first (λ (z : MethodTy × NodeId). same_place p (place_at t z.1.0)) 0 t.types) (place_of e.placed)
      (first (λ (z : MethodTy × NodeId). same_place (place_of e.placed) (place_at t z.1.0)) 0 t.types) (place_read y.1.0 e.placed e.there) refl

  declared_at : IsProgram t → (site : ℕ) (y : MethodTy × NodeId) → slice_get t.types site ≡ Some y → Expr t y.1.0
  declared_at program site y h = expression t y.1.0 (declare_is_expr site (node_at t y.1.0) (program.types site y h).named)

  pub type_read : IsProgram t → (site : ℕ) → site < length t.types → type_there t (place_of_type t (slice_get t.types site)) ≡ Some (first_type t site)
  type_read program site h =
      let y = element t.types site h in
      let e = declared_at program site y.value y.there in
      let s = some_first (λ (z : MethodTy × NodeId). same_place (place_of e.placed) (place_at t z.1.0)) 0 t.types site y.value y.there
      (there_passes (place_of e.placed) (place_at t y.value.1.0) (placed_at t y.value.1.0 e.placed e.there)) in
      kept (type_there t (place_of_type t (slice_get t.types site))) s.0 (ap (λ (o : Option (MethodTy × NodeId)). type_there t (place_of_type t o)) y.there ∙ type_first y.value e ∙ s.1)

  pub same_type : IsProgram t → (site : ℕ) → HasPlacesApart t → site < length t.types → first_type t site ≡ site
  same_type program site apart h =
      let y = element t.types site h in
      let e = declared_at program site y.value y.there in
      ap (λ (o : Option ℕ). unwrap_or o 0)
      (ap (λ (o : Option (MethodTy × NodeId)). type_there t (place_of_type t o)) y.there ∙ type_first y.value e
      ∙ first_is (λ (z : MethodTy × NodeId). same_place (place_of e.placed) (place_at t z.1.0)) t.types site y.value y.there
      (there_passes (place_of e.placed) (place_at t y.value.1.0) (placed_at t y.value.1.0 e.placed e.there)) (only y.value y.there e))
    where
      only : (y : MethodTy × NodeId) → slice_get t.types site ≡ Some y → (e : Expr t y.1.0) (k : ℕ) (z : MethodTy × NodeId) → slice_get t.types k ≡ Some z → same_place
          (place_of e.placed) (place_at t z.1.0) ≡ true → k ≡ site
      only y there e k z at p =
          let same = at_one_place t apart y.1.0 z.1.0 e (declared_at program k z at).is (stands (place_of e.placed) (place_at t z.1.0) p) in
          same_declare k site (node_at t y.1.0) (subst (λ (id : ℕ). IsDeclareNode k (node_at t id)) same (program.types k z at).named) (program.types site y there).named
