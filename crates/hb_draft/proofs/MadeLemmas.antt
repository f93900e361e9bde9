-- What each step adds to what a program under construction says.
use Rattle.std.proofs.Common.{◌≡◌, ℕ, List, [], ◌∷◌, ◌++◌, map, length, Bool, refl, sym, ap, ◌∙◌, subst}
use Rattle.std.proofs.lemmas.List.{map-append, length-map}
use Rattle.hb_types.specs.declared.{ids.NodeId.NodeId, types.MethodTy.MethodTy}
use Rattle.hb_tree.specs.declared.{node.Node.Node, parts.Body.Body}
use Rattle.hb_tree.specs.Tree.{Tree, TText, TDef, TDeclare, TDeclareComputed}
use Rattle.hb_tree.specs.TreeAt.{tree_at, tree_of}
use Rattle.hb_draft.proofs.{Steps.placed_at, Hands.puts}
use Rattle.hb_draft.specs.{Put.PutsNode, Words.with_word}
use Rattle.hb_draft.specs.Unfinished.{Unfinished, AddsNode, IsBodyOf, AddsClass, AddsName, Puts, PutsText, PutsDef, PutsComputedDef, PutsDeclare, PutsComputedDeclare}
use Rattle.hb_draft.specs.Unfinished.{AddsSetup, AddsScript, in_hand, leaf_over, unary_over}
use Rattle.hb_draft.specs.Made.{Made, Given, place_of, given_by, type_of, made_of, word_number, with_class, with_name, with_node, with_text, with_body, with_type, with_def}
use Rattle.hb_draft.specs.Made.{with_computed_def, def_computed_over, with_declare, with_computed_declare, with_setup, setup_from, with_script, script_from, id_on_top}

-- what is made of lists that are equal is equal
made_alike : (m n : Made) → m.classes ≡ n.classes → m.names ≡ n.names → m.texts ≡ n.texts → m.places ≡ n.places → m.bodies ≡ n.bodies
    → m.types ≡ n.types → m.setup ≡ n.setup → m.scripts ≡ n.scripts → m.hand ≡ n.hand → m ≡ n
made_alike m n classes names texts places bodies types setup scripts hand =
    ap (λ v. record m { classes = v }) classes
    ∙ ap (λ v. record m { classes = n.classes; names = v }) names
    ∙ ap (λ v. record m { classes = n.classes; names = n.names; texts = v }) texts
    ∙ ap (λ v. record m { classes = n.classes; names = n.names; texts = n.texts; places = v }) places
    ∙ ap (λ v. record m { classes = n.classes; names = n.names; texts = n.texts; places = n.places; bodies = v }) bodies
    ∙ ap (λ v. record n { types = v; setup = m.setup; scripts = m.scripts; hand = m.hand }) types
    ∙ ap (λ v. record n { setup = v; scripts = m.scripts; hand = m.hand }) setup
    ∙ ap (λ v. record n { scripts = v; hand = m.hand }) scripts
    ∙ ap (λ v. record n { hand = v }) hand

module _ (old new : Unfinished) where
  pub class-made : (class : List ℕ) → AddsClass old new class → made_of new ≡ with_class (made_of old) class
  class-made class h =
      made_alike (made_of new) (with_class (made_of old) class) (ap (λ t. t.classes) h.table) (ap (λ t. t.names) h.table) (ap (λ t. t.texts) h.table)
      (ap (λ t. map place_of t.nodes) h.table) (ap (λ t. map given_by t.bodies) h.table) (ap (λ t. map type_of t.types) h.table) h.roots.setup_tree h.roots.script_trees h.hand

  pub name-made : (name : List ℕ) → AddsName old new name → made_of new ≡ with_name (made_of old) name
  name-made name h =
      made_alike (made_of new) (with_name (made_of old) name) (ap (λ t. t.classes) h.table) (ap (λ t. t.names) h.table) (ap (λ t. t.texts) h.table)
      (ap (λ t. map place_of t.nodes) h.table) (ap (λ t. map given_by t.bodies) h.table) (ap (λ t. map type_of t.types) h.table) h.roots.setup_tree h.roots.script_trees h.hand

  pub setup-made : AddsSetup old new → made_of new ≡ with_setup (made_of old)
  setup-made h =
      made_alike (made_of new) (setup_from (made_of old) (h.block ∷ in_hand new)) (ap (λ t. t.classes) h.table) (ap (λ t. t.names) h.table) (ap (λ t. t.texts) h.table)
      (ap (λ t. map place_of t.nodes) h.table) (ap (λ t. map given_by t.bodies) h.table) (ap (λ t. map type_of t.types) h.table) h.setup_tree h.script_trees refl
      ∙ sym (ap (setup_from (made_of old)) h.was)

  pub script-made : (name : ℕ) → AddsScript old new name → made_of new ≡ with_script (made_of old) name
  script-made name h =
      made_alike (made_of new) (script_from (made_of old) name (h.block ∷ in_hand new)) (ap (λ t. t.classes) h.table) (ap (λ t. t.names) h.table) (ap (λ t. t.texts) h.table)
      (ap (λ t. map place_of t.nodes) h.table) (ap (λ t. map given_by t.bodies) h.table) (ap (λ t. map type_of t.types) h.table) h.setup_tree h.script_trees refl
      ∙ sym (ap (script_from (made_of old) name) h.was)

  module _ (place : ℕ × ℕ) where
    -- what it says of all but its nodes, once these bodies and types came
    abbrev besides : List Body → List (MethodTy × NodeId) → Made
    besides bs ys = record (made_of old) { texts = new.table.texts; bodies = map given_by bs; types = map type_of ys }

    next-made : (bs : List Body) (ys : List (MethodTy × NodeId)) (over : ℕ → List Tree → List Tree) → AddsNode old.table new.table place bs ys
        → in_hand new ≡ over (length old.table.nodes) (in_hand old) → made_of new ≡ with_node (besides bs ys) place over
    next-made bs ys over h hand =
        made_alike (made_of new) (with_node (besides bs ys) place over) h.classes h.names refl
        (ap (map place_of) h.nodes.1 ∙ map-append place_of old.table.nodes (record { node = h.nodes.0; line = place.0; column = place.1 } ∷ []))
        (ap (map given_by) h.bodies) (ap (map type_of) h.types) h.roots.setup_tree h.roots.script_trees
        (hand ∙ ap (λ id. over id (in_hand old)) (sym (length-map old.table.nodes place_of)))

    pub node-made : (over : ℕ → List Tree → List Tree) → Puts old new place over → made_of new ≡ with_node (made_of old) place over
    node-made over h =
        next-made old.table.bodies old.table.types over h.table h.hand
        ∙ ap (λ ts. with_node (record (made_of old) { texts = ts }) place over) h.texts

    pub text-made : (value : List ℕ) (k : ℕ) → k ≡ word_number old.table.texts value → PutsText old new place value → in_hand new ≡ TText (length old.table.nodes) k ∷ in_hand old
        → made_of new ≡ with_text (made_of old) place value
    text-made value k number h hand =
        next-made old.table.bodies old.table.types (leaf_over (λ id. TText id k)) h.table hand
        ∙ ap (λ ts. with_node (record (made_of old) { texts = ts }) place (leaf_over (λ id. TText id k))) h.texts
        ∙ ap (λ j. with_node (record (made_of old) { texts = with_word old.table.texts value }) place (leaf_over (λ id. TText id j))) number

    -- the body of a definition, as what it gives
    given-made : (id block : ℕ) (xs : List ℕ) (b : Body) → IsBodyOf id block xs b → given_by b ≡ record { def = id; block = block; params = xs }
    given-made id block xs b h =
        ap (λ v. let g : Given = record { def = v; block = b.block.0; params = (given_by b).params } in g) h.def
        ∙ ap (λ v. let g : Given = record { def = id; block = v; params = (given_by b).params } in g) h.block
        ∙ ap (λ v. let g : Given = record { def = id; block = block; params = v } in g) h.params

    with_body-made : (xs : List ℕ) (b : Body) → IsBodyOf (length old.table.nodes) (id_on_top (in_hand old)) xs b
        → map given_by (old.table.bodies ++ b ∷ []) ≡ (with_body (made_of old) xs).bodies
    with_body-made xs b h =
        map-append given_by old.table.bodies (b ∷ [])
        ∙ ap (λ g. map given_by old.table.bodies ++ g ∷ []) (given-made (length old.table.nodes) (id_on_top (in_hand old)) xs b h
        ∙ ap (λ id. let g : Given = record { def = id; block = id_on_top (in_hand old); params = xs } in g) (sym (length-map old.table.nodes place_of)))

    def_over-made : (xs : List ℕ) (b : Body) (over : ℕ → ℕ → List Tree → List Tree) → new.table.texts ≡ old.table.texts → AddsNode old.table new.table place (old.table.bodies ++ b ∷ []) old.table.types
        → IsBodyOf (length old.table.nodes) (id_on_top (in_hand old)) xs b → in_hand new ≡ over (length old.table.bodies) (length old.table.nodes) (in_hand old)
        → made_of new ≡ with_node (with_body (made_of old) xs) place (over (length (made_of old).bodies))
    def_over-made xs b over texts table gives hand =
        next-made (old.table.bodies ++ b ∷ []) old.table.types (over (length old.table.bodies)) table hand
        ∙ ap (λ ts. with_node (record (besides (old.table.bodies ++ b ∷ []) old.table.types) { texts = ts }) place (over (length old.table.bodies))) texts
        ∙ ap (λ bs. with_node (record (made_of old) { bodies = bs }) place (over (length old.table.bodies))) (with_body-made xs b gives)
        ∙ ap (λ n. with_node (with_body (made_of old) xs) place (over n)) (sym (length-map old.table.bodies given_by))

    pub def-made : (class m : ℕ) (xs : List ℕ) → PutsDef old new place class m xs → made_of new ≡ with_def (made_of old) place class m xs
    def-made class m xs h =
        def_over-made xs h.body (λ site. unary_over (λ id b. TDef id class m site b)) h.texts h.table
        (subst (λ ts. IsBodyOf (length old.table.nodes) (id_on_top ts) xs h.body) (sym h.was) h.gives)
        (h.hand ∙ sym (ap (unary_over (λ id b. TDef id class m (length old.table.bodies) b) (length old.table.nodes)) h.was))

    pub def_computed-made : (class : ℕ) (xs : List ℕ) → PutsComputedDef old new place class xs → made_of new ≡ with_computed_def (made_of old) place class xs
    def_computed-made class xs h =
        def_over-made xs h.body (def_computed_over class) h.texts h.table
        (subst (λ ts. IsBodyOf (length old.table.nodes) (id_on_top ts) xs h.body) (sym h.was) h.gives)
        (h.hand ∙ sym (ap (def_computed_over class (length old.table.bodies) (length old.table.nodes)) h.was))

    type_over-made : (ty : MethodTy) (over : ℕ → ℕ → List Tree → List Tree) → new.table.texts ≡ old.table.texts
        → AddsNode old.table new.table place old.table.bodies (old.table.types ++ (ty, record { 0 = length old.table.nodes }) ∷ []) → in_hand new ≡ over (length old.table.types) (length old.table.nodes) (in_hand old)
        → made_of new ≡ with_node (with_type (made_of old) ty) place (over (length (made_of old).types))
    type_over-made ty over texts table hand =
        let y : MethodTy × NodeId = (ty, record { 0 = length old.table.nodes }) in
        next-made old.table.bodies (old.table.types ++ y ∷ []) (over (length old.table.types)) table hand
        ∙ ap (λ ts. with_node (record (besides old.table.bodies (old.table.types ++ y ∷ [])) { texts = ts }) place (over (length old.table.types))) texts
        ∙ ap (λ ys. with_node (record (made_of old) { types = ys }) place (over (length old.table.types)))
        (map-append type_of old.table.types (y ∷ []) ∙ ap (λ id. map type_of old.table.types ++ (ty, id) ∷ []) (sym (length-map old.table.nodes place_of)))
        ∙ ap (λ n. with_node (with_type (made_of old) ty) place (over n)) (sym (length-map old.table.types type_of))

    pub declare-made : (class m : ℕ) (ty : MethodTy) (asks : Bool) → PutsDeclare old new place class m ty asks → made_of new ≡ with_declare (made_of old) place class m ty asks
    declare-made class m ty asks h = type_over-made ty (λ site. leaf_over (λ id. TDeclare id class m site asks)) h.texts h.table h.hand

    pub declare_computed-made : (class : ℕ) (ty : MethodTy) (asks : Bool) → PutsComputedDeclare old new place class ty asks → made_of new ≡ with_computed_declare (made_of old) place class ty asks
    declare_computed-made class ty asks h = type_over-made ty (λ site. unary_over (λ id e. TDeclareComputed id class e site asks)) h.texts h.table h.hand

    -- a node without parts
    pub leaf-made : (n : Node) (leaf : ℕ → Tree) → tree_of new.table (tree_at old.table) (length old.table.nodes) n ≡ leaf (length old.table.nodes) → PutsNode old new (placed_at n place) 0
        → made_of new ≡ with_node (made_of old) place (leaf_over leaf)
    leaf-made n leaf made h = node-made (leaf_over leaf) (puts old (placed_at n place) 0 new (leaf_over leaf) h (ap (λ t. t ∷ in_hand old) made))
