-- One node more, whose parts are the last ones in hand: what a draft keeps is kept.
use Rattle.std.proofs.Common.{◌≡◌, ℕ, suc, ◌+◌, ◌<◌, ◌≤◌, ◌⊎◌, List, [], ◌∷◌, ◌++◌, ◌-◌, map, reverse, take, drop, length, length-drop, Option, Some, None, refl, sym, ap, ◌∙◌}
use Rattle.std.proofs.Common.{subst, arith, inl, inr, append_assoc, length-append, option_map, IfSome}
use Rattle.std.specs.Prelude.{slice_get, nat_eq}
use Rattle.std.specs.List.{AllByRecursion, IsDistinct}
use Rattle.std.proofs.lemmas.List.{append-nil, take-append-drop, take-map, drop-map, map-append, reverse-append, drop_at, length-map, length-reverse}
use Rattle.std.proofs.lemmas.Option.{none-some}
use Rattle.hb_types.specs.declared.ids.NodeId.{NodeId}
use Rattle.hb_types.specs.declared.ids.NameId.{NameId}
use Rattle.hb_types.specs.declared.types.MethodTy.{MethodTy}
use Rattle.hb_tree.specs.declared.node.Node.{Node}
use Rattle.hb_tree.specs.declared.node.Node.TheVariants as node
use Rattle.hb_tree.specs.declared.node.Placed.{Placed}
use Rattle.hb_tree.specs.declared.parts.Body.{Body}
use Rattle.hb_tree.specs.Table.{Table}
use Rattle.hb_tree.specs.Tree.{Tree}
use Rattle.hb_tree.specs.Counts.{height}
use Rattle.hb_tree.specs.Nodes.{numbers_of, node_at, exprs_of, blocks_of, parts_of}
use Rattle.hb_tree.specs.TreeAt.{tree_at, tree_of}
use Rattle.hb_tree.specs.Program.{IsProgram, HasParts, IsExprNode, IsBlockNode, IsNodeIn, IsBodyIn, IsTypeIn, IsRootIn, IsScriptIn, all_parts}
use Rattle.hb_tree.specs.Roots.{roots}
use Rattle.hb_tree.specs.Grows.{Grows, BeginsWith, IsFounded}
use Rattle.hb_tree.specs.Spelling.{IsText}
use Rattle.hb_tree.proofs.CanonLemmas.{roots_within}
use Rattle.hb_tree.proofs.Lists.{each_weaker}
use Rattle.hb_tree.proofs.Trees.{tree_at_node, tree_alike, parts_weaker, block_seen, node_within}
use Rattle.hb_tree.proofs.Growth.{parts-kept, expr_node-kept, block_node-kept, node-kept, body-kept, type-kept, root-kept, script-kept, tree_at-grown, all_parts-grown}
use Rattle.hb_draft.specs.Kept.{IsDraft, IsKept, greatest, heights_of, heights_after}
use Rattle.hb_draft.specs.Laid.{IsLaid, IsFilled, items_in, items_before}
use Rattle.hb_draft.specs.Put.{IsOver, last_nodes}
use Rattle.hb_draft.specs.Unfinished.{IsExprPart, IsBlockPart, KeepsRoots, trees_of}
use Rattle.hb_draft.proofs.{Apart.apart-taken, Laid.items_before-grown}
use Rattle.hb_draft.proofs.Lists.{each-append, each_both, each-front, each-back, slice_get-append, slice_get-last, slice_get-single, IsDistinct-front, IsDistinct-next}
use Rattle.hb_draft.proofs.Heights.{height-parts, heights_of-numbers}
use Rattle.hb_draft.proofs.Parts.{all_parts-within, height-node, expr_node-at, block_node-at}

-- a program's nodes have their parts before them
pub founded : (t : Table) → IsProgram t → IsFounded t
founded t h id n e = (h.nodes id n e).parts

-- where a table only grows, the setup, the scripts and the trees in hand stay
module _ (t u : Table) (program : IsProgram t) (grown : Grows t u) where
  root_tree : (b : NodeId) → IsRootIn t b → tree_at u b.0 ≡ tree_at t b.0
  root_tree b h = tree_at-grown t u grown (founded t program) b.0 (block_seen t (founded t program) b.0 h.block).0

  pub setup_tree : (o : Option NodeId) → IfSome o (IsRootIn t) → option_map (λ b. tree_at u b.0) o ≡ option_map (λ b. tree_at t b.0) o
  setup_tree None h = refl
  setup_tree (Some b) h = ap Some (root_tree b h)

  pub script_trees : (ss : List (NameId × NodeId)) → AllByRecursion (IsScriptIn t) ss → map {B = ℕ × Tree} (λ s. (s.0.0, tree_at u s.1.0)) ss ≡ map {B = ℕ × Tree} (λ s. (s.0.0, tree_at t s.1.0)) ss
  script_trees [] h = refl
  script_trees (s ∷ ss) h = rw (root_tree s.1 h.0.root, script_trees ss h.1) refl

  pub roots-grown : u.setup ≡ t.setup → u.scripts ≡ t.scripts → KeepsRoots t u
  roots-grown same_setup same_scripts = record {
    setup = same_setup;
    setup_tree = ap (option_map (λ b. tree_at u b.0)) same_setup ∙ setup_tree t.setup program.setup;
    scripts = same_scripts;
    script_trees = ap (map {B = ℕ × Tree} (λ s. (s.0.0, tree_at u s.1.0))) same_scripts ∙ script_trees t.scripts program.scripts;
  }

  each_tree : (ids : List NodeId) → AllByRecursion (λ j. j < length t.nodes) (numbers_of ids) → map (λ i. tree_at u i.0) ids ≡ map (λ i. tree_at t i.0) ids
  each_tree [] h = refl
  each_tree (i ∷ ids) h = rw (tree_at-grown t u grown (founded t program) i.0 h.0, each_tree ids h.1) refl

  pub trees_of-grown : (ids : List NodeId) → AllByRecursion (λ j. j < length t.nodes) (numbers_of ids) → trees_of u ids ≡ trees_of t ids
  trees_of-grown ids h = ap reverse (each_tree ids h)

  pub heights_of-grown : (ids : List NodeId) → AllByRecursion (λ j. j < length t.nodes) (numbers_of ids) → heights_of u ids ≡ heights_of t ids
  heights_of-grown [] h = refl
  heights_of-grown (i ∷ ids) h = rw (tree_at-grown t u grown (founded t program) i.0 h.0, heights_of-grown ids h.1) refl

  pub setup-kept : (o : Option NodeId) → IfSome o (IsRootIn t) → IfSome o (IsRootIn u)
  setup-kept None h = h
  setup-kept (Some b) h = root-kept t u grown (founded t program) b h

-- the table with one node more, with these texts, and with more items, bodies and types
abbrev pub appended : Table → List (List ℕ) → List NodeId → List Body → List (MethodTy × NodeId) → Placed → Table
appended t ts is bs ys p = record t { texts = ts; nodes = t.nodes ++ p ∷ []; items = t.items ++ is; bodies = t.bodies ++ bs; types = t.types ++ ys }

-- the texts go on by one at most
pub record AreTexts (t : Table) (ts : List (List ℕ)) : Type 0 where
  pub begins : BeginsWith t.texts ts
  pub spelled : AllByRecursion IsText ts
  pub few : length ts ≤ length t.texts + 1

pub same_texts : (t : Table) → IsProgram t → AreTexts t t.texts
same_texts t program = record { begins = ([], sym (append-nil t.texts)); spelled = program.spelled.texts; few = omega arith }

-- what the node meets that comes next, and the body or type with it
pub record IsNext (t : Table) (ids : List NodeId) (ts : List (List ℕ)) (is : List NodeId) (count : ℕ) (bs : List Body) (ys : List (MethodTy × NodeId)) (p : Placed) : Type 0 where
  pub over : IsOver t (appended t ts is bs ys p) ids count p.node
  pub items : AllByRecursion (λ i. i.0 < length t.nodes) is
  pub few_items : length is ≤ count
  pub bodies : (k : ℕ) (b : Body) → slice_get bs k ≡ Some b → IsBodyIn (appended t ts is bs ys p) (length t.bodies + k) b
  pub few_bodies : length bs ≤ 1
  pub types : (k : ℕ) (y : MethodTy × NodeId) → slice_get ys k ≡ Some y → IsTypeIn (appended t ts is bs ys p) (length t.types + k) y
  pub few_types : length t.types + length ys ≤ 65534
  pub begins : (first many : ℕ) → p.node ≡ node.Block first many → first ≡ length t.items
  pub laid : numbers_of is ≡ items_in (tree_of (appended t ts is bs ys p) (tree_at t) (length t.nodes) p.node)
  pub filled : AllByRecursion IsFilled bs

module _ (t : Table) (ids : List NodeId) (ts : List (List ℕ)) (texts : AreTexts t ts) (is : List NodeId) (count : ℕ) (bs : List Body) (ys : List (MethodTy × NodeId)) (p : Placed) where
  abbrev u : Table
  u = appended t ts is bs ys p

  abbrev id : ℕ
  id = length t.nodes

  pub appended-grows : Grows t u
  appended-grows = record {
    classes = ([], sym (append-nil t.classes));
    names = ([], sym (append-nil t.names));
    texts = texts.begins;
    nodes = (p ∷ [], refl);
    items = (is, refl);
    bodies = (bs, refl);
    types = (ys, refl);
  }

  node_cases : (j : ℕ) (n : Node) → node_at u j ≡ Some n → (node_at t j ≡ Some n) ⊎ ((j ≡ id) × (n ≡ p.node))
  node_cases j n = go (slice_get u.nodes j) refl
    where
      go : (o : Option Placed) → slice_get u.nodes j ≡ o → option_map (λ q. q.node) o ≡ Some n → (node_at t j ≡ Some n) ⊎ ((j ≡ id) × (n ≡ p.node))
      go None e k = absurd (none-some n k)
      go (Some q) e k = elim (slice_get-append t.nodes (p ∷ []) j q e) [
        | inl h ↦ inl (ap (option_map (λ q. q.node)) h ∙ k)
        | inr h ↦ let last = slice_get-single p q h.0 h.2 in
            let same : q ≡ p = last.1 in
            inr (omega (arith, h.1, last.0), let node : q.node ≡ n = cc in sym node ∙ ap (λ (r : Placed). r.node) same)
      ]

  module _ (draft : IsDraft t ids) (over : IsOver t u ids count p.node) where
    kept : List NodeId
    kept = take (length ids - count) ids

    taken : List NodeId
    taken = last_nodes count ids

    both : kept ++ taken ≡ ids
    unfolding kept taken
    both = take-append-drop (length ids - count) ids

    length-taken : length taken ≡ count
    unfolding taken
    length-taken = omega (arith, length-drop (length ids - count) ids, over.enough)

    old_founded : IsFounded t
    old_founded = founded t draft.program

    -- the numbers in hand, those that stay and those that are taken
    in_hand : AllByRecursion (λ j. j < id) (numbers_of kept ++ numbers_of taken)
    in_hand = subst (AllByRecursion (λ j. j < id)) (sym (ap numbers_of both) ∙ map-append (λ i. i.0) kept taken) draft.within

    below : AllByRecursion (λ j. j < id) (parts_of u p.node)
    unfolding taken
    below = rw over.parts (each-back (λ j. j < id) (numbers_of kept) (numbers_of taken) in_hand)

    pub has_parts : HasParts u id p.node
    has_parts = record {
      places = over.places;
      below = (each-front (λ j. j < id) (exprs_of u p.node) (blocks_of u p.node) below, each-back (λ j. j < id) (exprs_of u p.node) (blocks_of u p.node) below);
    }

    new_founded : IsFounded u
    new_founded j n e = elim (node_cases j n e) [ inl h ↦ parts-kept t u appended-grows j n (old_founded j n h) | inr h ↦ rw (h.0, h.1) has_parts ]

    -- the new node's tree is made of the trees that were in hand
    pub tree-next : tree_at u id ≡ tree_of u (tree_at t) id p.node
    tree-next =
        tree_at_node u new_founded id p.node (ap (option_map (λ q. q.node)) (slice_get-last t.nodes p))
        ∙ tree_alike u (tree_at u) (tree_at t) id p.node (parts_weaker u (λ j. j < id) (λ j. tree_at u j ≡ tree_at t j) (tree_at-grown t u appended-grows old_founded) p.node has_parts.below)

    expr_part : (j : ℕ) → j < id → IsExprPart (tree_at t j) → IsExprNode (node_at u j)
    expr_part j low h = expr_node-kept t u appended-grows j (expr_node-at t old_founded j low h.kind)

    pub block_part : (j : ℕ) → j < id → IsBlockPart (tree_at t j) → IsBlockNode (node_at u j)
    block_part j low h = block_node-kept t u appended-grows j (block_node-at t old_founded j low h.kind)

    node-next : IsNodeIn u id p.node
    node-next = record {
      parts = has_parts;
      exprs = each_both (λ j. j < id) (λ j. IsExprPart (tree_at t j)) (λ j. IsExprNode (node_at u j)) expr_part (exprs_of u p.node) has_parts.below.0 over.exprs;
      blocks = each_both (λ j. j < id) (λ j. IsBlockPart (tree_at t j)) (λ j. IsBlockNode (node_at u j)) block_part (blocks_of u p.node) has_parts.below.1 over.blocks;
      known = over.known;
      low = rw tree-next (height-node u (tree_at t) id p.node (
        each_weaker (λ j. IsExprPart (tree_at t j)) (λ j. height (tree_at t j) < 256) (λ j h. h.low) (exprs_of u p.node) over.exprs,
        each_weaker (λ j. IsBlockPart (tree_at t j)) (λ j. height (tree_at t j) < 256) (λ j h. h.low) (blocks_of u p.node) over.blocks,
      ));
    }

    all_parts-next : all_parts u ≡ all_parts t ++ numbers_of taken
    unfolding appended-grows taken
    all_parts-next = all_parts-grown t u appended-grows old_founded ∙ ap (λ js. all_parts t ++ js) (append-nil (parts_of u p.node) ∙ over.parts)

    -- those that were taken are parts now
    nodes-next : List ℕ
    nodes-next = (all_parts t ++ numbers_of taken) ++ roots t

    distinct : IsDistinct nat_eq (nodes-next ++ numbers_of kept)
    unfolding nodes-next
    distinct = apart-taken (all_parts t) (roots t) (numbers_of kept) (numbers_of taken) (subst (λ js. IsDistinct nat_eq ((all_parts t ++ roots t) ++ js)) (sym (ap numbers_of both) ∙ map-append (λ i. i.0) kept taken) draft.apart)

    parts-apart : IsDistinct nat_eq nodes-next → IsDistinct nat_eq (all_parts t ++ numbers_of taken)
    unfolding nodes-next
    parts-apart = IsDistinct-front nat_eq (all_parts t ++ numbers_of taken) (roots t)

    longer : length u.nodes ≡ id + 1
    longer = length-append t.nodes (p ∷ [])

    program-next : IsNext t ids ts is count bs ys p → IsProgram u
    program-next next = record {
      limits = record {
        classes = draft.program.limits.classes;
        names = draft.program.limits.names;
        nodes = omega (arith, longer, over.room);
        types = omega (arith, length-append t.types ys, next.few_types);
        scripts = draft.program.limits.scripts;
      };
      spelled = record {
        classes = draft.program.spelled.classes;
        classes_apart = draft.program.spelled.classes_apart;
        names = draft.program.spelled.names;
        names_apart = draft.program.spelled.names_apart;
        texts = texts.spelled;
      };
      nodes = λ j n e. elim (node_cases j n e) [ inl h ↦ node-kept t u appended-grows old_founded j n h (draft.program.nodes j n h) | inr h ↦ rw (h.0, h.1) node-next ];
      apart = rw all_parts-next (parts-apart (IsDistinct-front nat_eq nodes-next (numbers_of kept) distinct));
      items = each_weaker (λ i. i.0 < id) (λ i. i.0 < length u.nodes) (λ i k. omega (arith, longer)) (t.items ++ is) (each-append (λ i. i.0 < id) t.items is draft.program.items next.items);
      bodies = λ site b e. elim (slice_get-append t.bodies bs site b e) [ inl h ↦ body-kept t u appended-grows old_founded site b (draft.program.bodies site b h) | inr h ↦ rw h.1 (next.bodies h.0 b h.2) ];
      types = λ site y e. elim (slice_get-append t.types ys site y e) [ inl h ↦ type-kept t u appended-grows site y (draft.program.types site y h) | inr h ↦ rw h.1 (next.types h.0 y h.2) ];
      setup = setup-kept t u draft.program appended-grows t.setup draft.program.setup;
      scripts = each_weaker (IsScriptIn t) (IsScriptIn u) (script-kept t u appended-grows old_founded) t.scripts draft.program.scripts;
    }

    -- as many items as there are lie before the next node
    items_until : (j : ℕ) → j ≡ id → length t.items ≡ length (items_before u j)
    unfolding appended-grows
    items_until j e =
        sym (length-map t.items (λ i. i.0))
        ∙ ap length (draft.laid.items ∙ sym (items_before-grown t u appended-grows old_founded id (omega arith)))
        ∙ ap (λ k. length (items_before u k)) (sym e)

    laid-next : IsNext t ids ts is count bs ys p → IsLaid u
    unfolding appended-grows
    laid-next next = record {
      blocks = λ j first many e. elim (node_cases j (node.Block first many) e) [
        | inl h ↦ let within = node_within t j (node.Block first many) h in
            draft.laid.blocks j first many h ∙ sym (ap length (items_before-grown t u appended-grows old_founded j (omega (arith, within))))
        | inr h ↦ next.begins first many (sym h.1) ∙ items_until j h.0
      ];
      items =
          map-append (λ i. i.0) t.items is
          ∙ ap (λ js. js ++ numbers_of is) (draft.laid.items ∙ sym (items_before-grown t u appended-grows old_founded id (omega arith)))
          ∙ ap (λ js. items_before u id ++ js) (next.laid ∙ sym (ap items_in tree-next))
          ∙ ap (items_before u) (let more : suc id ≡ length u.nodes = omega (arith, longer) in more);
      bodies = each-append IsFilled t.bodies bs draft.laid.bodies next.filled;
    }

    kept_within : AllByRecursion (λ j. j < id) (numbers_of kept)
    kept_within = each-front (λ j. j < id) (numbers_of kept) (numbers_of taken) in_hand

    all_below : AllByRecursion (λ j. j < id) (nodes-next ++ numbers_of kept)
    unfolding nodes-next
    all_below =
        each-append (λ j. j < id) ((all_parts t ++ numbers_of taken) ++ roots t) (numbers_of kept)
        (each-append (λ j. j < id) (all_parts t ++ numbers_of taken) (roots t)
        (each-append (λ j. j < id) (all_parts t) (numbers_of taken) (all_parts-within t old_founded) (each-back (λ j. j < id) (numbers_of kept) (numbers_of taken) in_hand))
        (roots_within t draft.program))
        kept_within

    apart-next : IsDistinct nat_eq ((nodes-next ++ numbers_of kept) ++ id ∷ []) → IsDistinct nat_eq ((all_parts u ++ roots u) ++ (numbers_of kept ++ id ∷ []))
    unfolding nodes-next
    apart-next h = rw all_parts-next (subst (λ js. IsDistinct nat_eq js) (append_assoc ((all_parts t ++ numbers_of taken) ++ roots t) (numbers_of kept) (id ∷ [])) h)

    hand_next : numbers_of (kept ++ record { 0 = id } ∷ []) ≡ numbers_of kept ++ id ∷ []
    hand_next = map-append (λ i. i.0) kept (record { 0 = id } ∷ [])

    draft-next : IsNext t ids ts is count bs ys p → IsDraft u (take (length ids - count) ids ++ record { 0 = id } ∷ [])
    unfolding kept
    draft-next next = record {
      program = program-next next;
      within = rw hand_next (each-append (λ j. j < length u.nodes) (numbers_of kept) (id ∷ [])
          (each_weaker (λ j. j < id) (λ j. j < length u.nodes) (λ j k. omega (arith, longer)) (numbers_of kept) kept_within) (omega (arith, longer), tt));
      apart = rw hand_next (apart-next (IsDistinct-next id (nodes-next ++ numbers_of kept) all_below distinct));
      few_items = omega (arith, draft.few_items, next.few_items, longer, length-append t.items is, ap length both, length-append kept taken, length-taken, length-append kept (record { 0 = id } ∷ []));
      few_texts = omega (arith, draft.few_texts, texts.few, longer);
      few_bodies = omega (arith, draft.few_bodies, next.few_bodies, longer, length-append t.bodies bs);
      laid = laid-next next;
    }

    height-next : height (tree_at u id) ≡ 1 + greatest (heights_of t taken)
    unfolding taken
    height-next =
        ap height tree-next
        ∙ height-parts u (tree_at t) id p.node
        ∙ ap (λ js. 1 + greatest (map (λ j. height (tree_at t j)) js)) over.parts
        ∙ ap (λ hs. 1 + greatest hs) (heights_of-numbers t taken)

    heights-next : (hs : List ℕ) → hs ≡ heights_of t ids → heights_after count hs ≡ heights_of u (take (length ids - count) ids ++ record { 0 = id } ∷ [])
    unfolding kept taken
    heights-next hs same =
        let f : NodeId → ℕ = λ i. height (tree_at t i.0) in
        let g : NodeId → ℕ = λ i. height (tree_at u i.0) in
        ap (heights_after count) same
        ∙ ap (λ n. take (n - count) (map f ids) ++ (1 + greatest (drop (n - count) (map f ids))) ∷ []) (length-map ids f)
        ∙ ap (λ xs. xs ++ (1 + greatest (drop (length ids - count) (map f ids))) ∷ []) (take-map f (length ids - count) ids)
        ∙ ap (λ xs. map f kept ++ (1 + greatest xs) ∷ []) (drop-map f (length ids - count) ids)
        ∙ ap (λ xs. xs ++ (1 + greatest (map f taken)) ∷ []) (sym (heights_of-grown t u draft.program appended-grows kept kept_within))
        ∙ ap (λ n. map g kept ++ n ∷ []) (sym height-next)
        ∙ sym (map-append g kept (record { 0 = id } ∷ []))

    -- so what is kept beside the hand is kept
    pub kept-next : (hs : List ℕ) → hs ≡ heights_of t ids → IsNext t ids ts is count bs ys p → IsKept u (take (length ids - count) ids ++ record { 0 = id } ∷ []) (heights_after count hs)
    kept-next hs same next = record { draft = draft-next next; same = heights-next hs same }

    trees_of-kept : trees_of t kept ≡ drop count (trees_of t ids)
    trees_of-kept =
        let f : NodeId → Tree = λ i. tree_at t i.0 in
        sym (ap (λ ns. drop count (reverse (map f ns))) (sym both)
        ∙ ap (λ ts. drop count (reverse ts)) (map-append f kept taken)
        ∙ ap (drop count) (reverse-append (map f kept) (map f taken))
        ∙ drop_at (reverse (map f taken)) (reverse (map f kept)) count (length-reverse (map f taken) ∙ length-map taken f ∙ length-taken))

    pub hand-next : trees_of u (take (length ids - count) ids ++ record { 0 = id } ∷ []) ≡ tree_of u (tree_at t) id p.node ∷ drop count (trees_of t ids)
    unfolding kept
    hand-next =
        let g : NodeId → Tree = λ i. tree_at u i.0 in
        ap reverse (map-append g kept (record { 0 = id } ∷ []))
        ∙ reverse-append (map g kept) (tree_at u id ∷ [])
        ∙ ap (λ ts. tree_at u id ∷ ts) (trees_of-grown t u draft.program appended-grows kept kept_within ∙ trees_of-kept)
        ∙ ap (λ e. e ∷ drop count (trees_of t ids)) tree-next

  pub roots-next : IsDraft t ids → KeepsRoots t u
  roots-next draft = roots-grown t u draft.program appended-grows refl refl
