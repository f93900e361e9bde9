-- Classes, names and scripts: the lists that grow without a node.
use Rattle.std.proofs.Common.{◌≡◌, ℕ, ◌+◌, ◌-◌, ◌<◌, ◌≤◌, ◌^◌, List, [], ◌∷◌, ◌++◌, map, take, drop, length, length-append, length-take, append_assoc, false, Option, Some, refl, sym, ap, ◌∙◌, subst, arith, IfSome}
use Rattle.std.specs.Prelude.{nat_eq, bytes_eq}
use Rattle.std.specs.List.{AllByRecursion, IsDistinct, list_any}
use Rattle.std.proofs.lemmas.List.{append-nil, take-append-drop, take-map, map-append, length-map}
use Rattle.hb_types.specs.declared.ids.NodeId.{NodeId}
use Rattle.hb_types.specs.declared.ids.NameId.{NameId}
use Rattle.hb_tree.specs.Spelling.{IsName, IsClassName}
use Rattle.hb_tree.specs.declared.limits.TheConstants.{SCRIPTS_MAX}
use Rattle.hb_tree.specs.Table.{Table}
use Rattle.hb_tree.specs.Tree.{Tree, IsBlock, id_of}
use Rattle.hb_tree.specs.Counts.{height}
use Rattle.hb_tree.specs.Nodes.{numbers_of}
use Rattle.hb_tree.specs.TreeAt.{tree_at}
use Rattle.hb_tree.specs.Program.{IsProgram, IsRootIn, IsScriptIn, all_parts}
use Rattle.hb_tree.specs.Roots.{roots, setup_root}
use Rattle.hb_tree.specs.Grows.{Grows, BeginsWith}
use Rattle.hb_tree.proofs.Lists.{each_weaker}
use Rattle.hb_tree.proofs.Trees.{id_of-tree_at}
use Rattle.hb_tree.proofs.Growth.{node-kept, body-kept, type-kept, script-kept, all_parts-grown, tree_at-grown}
use Rattle.hb_draft.specs.Kept.{IsDraft, IsKept, heights_of}
use Rattle.hb_draft.specs.Put.{last_nodes}
use Rattle.hb_draft.specs.Unfinished.{Unfinished, HasBlock, IsRootBlock, KeepsRoots, AddsClass, AddsName, AddsSetup, AddsScript, in_hand, trees_of}
use Rattle.hb_draft.specs.Words.{with_word}
use Rattle.hb_draft.proofs.{Apart.apart-setup, Apart.apart-script, Laid.laid-named}
use Rattle.hb_draft.proofs.Lists.{each-append, each-front, each-back, IsDistinct-front}
use Rattle.hb_draft.proofs.WordLists.{with_word-new, with_word-begins, with_word-each, with_word-length, with_word-apart}
use Rattle.hb_draft.proofs.Append.{founded, roots-grown, trees_of-grown, heights_of-grown, setup-kept, script_trees, setup_tree}
use Rattle.hb_draft.proofs.Parts.{block_node-at}
use Rattle.hb_draft.proofs.Hands.{drop-hand}
use Rattle.hb_draft.proofs.Sites.{one_node, top_hand, top_block}

-- the table with these classes and names, this setup and these scripts
abbrev pub named : Table → List (List ℕ) → List (List ℕ) → Option NodeId → List (NameId × NodeId) → Table
named t cs ns st ss = record t { classes = cs; names = ns; setup = st; scripts = ss }

-- what these meet
pub record AreNamed (t : Table) (cs ns : List (List ℕ)) (st : Option NodeId) (ss : List (NameId × NodeId)) : Type 0 where
  pub classes_begin : BeginsWith t.classes cs
  pub names_begin : BeginsWith t.names ns
  pub few_classes : length cs ≤ 256
  pub few_names : length ns < 2 ^ 32
  pub few_scripts : length ss ≤ 16
  pub classes : AllByRecursion IsClassName cs
  pub classes_apart : IsDistinct bytes_eq cs
  pub names : AllByRecursion IsName ns
  pub names_apart : IsDistinct bytes_eq ns
  pub setup : IfSome st (IsRootIn t)
  pub scripts : AllByRecursion (IsScriptIn t) ss

module _ (t : Table) (cs ns : List (List ℕ)) (st : Option NodeId) (ss : List (NameId × NodeId)) (are : AreNamed t cs ns st ss) where
  abbrev u : Table
  u = named t cs ns st ss

  pub named-grows : Grows t u
  named-grows = record {
    classes = are.classes_begin;
    names = are.names_begin;
    texts = ([], sym (append-nil t.texts));
    nodes = ([], sym (append-nil t.nodes));
    items = ([], sym (append-nil t.items));
    bodies = ([], sym (append-nil t.bodies));
    types = ([], sym (append-nil t.types));
  }

  module _ (ids : List NodeId) (draft : IsDraft t ids) where
    same_parts : all_parts u ≡ all_parts t
    unfolding named-grows
    same_parts = all_parts-grown t u named-grows (founded t draft.program) ∙ append-nil (all_parts t)

    program-named : IsProgram u
    program-named = record {
      limits = record {
        classes = are.few_classes;
        names = are.few_names;
        nodes = draft.program.limits.nodes;
        types = draft.program.limits.types;
        scripts = are.few_scripts;
      };
      spelled = record {
        classes = are.classes;
        classes_apart = are.classes_apart;
        names = are.names;
        names_apart = are.names_apart;
        texts = draft.program.spelled.texts;
      };
      nodes = λ j n e. node-kept t u named-grows (founded t draft.program) j n e (draft.program.nodes j n e);
      apart = rw same_parts draft.program.apart;
      items = draft.program.items;
      bodies = λ site b e. body-kept t u named-grows (founded t draft.program) site b (draft.program.bodies site b e);
      types = λ site y e. type-kept t u named-grows site y (draft.program.types site y e);
      setup = setup-kept t u draft.program named-grows st are.setup;
      scripts = each_weaker (IsScriptIn t) (IsScriptIn u) (script-kept t u named-grows (founded t draft.program)) ss are.scripts;
    }

    draft-named : IsDistinct nat_eq ((all_parts t ++ roots u) ++ numbers_of ids) → IsDraft u ids
    draft-named apart = record {
      program = program-named;
      within = draft.within;
      apart = subst (λ js. IsDistinct nat_eq ((js ++ roots u) ++ numbers_of ids)) (sym same_parts) apart;
      few_items = draft.few_items;
      few_texts = draft.few_texts;
      few_bodies = draft.few_bodies;
      laid = laid-named t u named-grows (founded t draft.program) refl refl refl draft.laid;
    }

    pub kept-named : IsDistinct nat_eq ((all_parts t ++ roots u) ++ numbers_of ids) → (hs : List ℕ) → hs ≡ heights_of t ids → IsKept u ids hs
    kept-named apart hs same = record { draft = draft-named apart; same = same ∙ sym (heights_of-grown t u draft.program named-grows ids draft.within) }

    pub hand-named : trees_of u ids ≡ trees_of t ids
    hand-named = trees_of-grown t u draft.program named-grows ids draft.within

    pub roots-named : st ≡ t.setup → ss ≡ t.scripts → KeepsRoots t u
    roots-named = roots-grown t u draft.program named-grows

-- the first ones in hand alone
pub draft-fewer : (t : Table) (ids : List NodeId) (k : ℕ) → IsDraft t ids → IsDraft t (take k ids)
draft-fewer t ids k draft =
    let split : numbers_of ids ≡ numbers_of (take k ids) ++ numbers_of (drop k ids) = sym (ap numbers_of (take-append-drop k ids)) ∙ map-append (λ i. i.0) (take k ids) (drop k ids) in
    record {
      program = draft.program;
      within = each-front (λ j. j < length t.nodes) (numbers_of (take k ids)) (numbers_of (drop k ids)) (subst (AllByRecursion (λ j. j < length t.nodes)) split draft.within);
      apart =
          IsDistinct-front nat_eq ((all_parts t ++ roots t) ++ numbers_of (take k ids)) (numbers_of (drop k ids))
          (rw (append_assoc (all_parts t ++ roots t) (numbers_of (take k ids)) (numbers_of (drop k ids))) (subst (λ js. IsDistinct nat_eq ((all_parts t ++ roots t) ++ js)) split draft.apart));
      few_items = omega (arith, draft.few_items, length-take k ids);
      few_texts = draft.few_texts;
      few_bodies = draft.few_bodies;
      laid = draft.laid;
    }

module _ (t : Table) (ids : List NodeId) (draft : IsDraft t ids) (word : List ℕ) where
  abbrev old : Unfinished
  old = record { table = t; nodes = ids }

  module _ (is : IsClassName word) (fresh : list_any (bytes_eq word) t.classes ≡ false) (room : length t.classes < 256) where
    abbrev cs : List (List ℕ)
    cs = with_word t.classes word

    class_are : AreNamed t cs t.names t.setup t.scripts
    class_are = record {
      classes_begin = with_word-begins t.classes word;
      names_begin = ([], sym (append-nil t.names));
      few_classes = omega (arith, with_word-length t.classes word);
      few_names = draft.program.limits.names;
      few_scripts = draft.program.limits.scripts;
      classes = with_word-each t.classes word IsClassName draft.program.spelled.classes is;
      classes_apart = with_word-apart t.classes word draft.program.spelled.classes_apart;
      names = draft.program.spelled.names;
      names_apart = draft.program.spelled.names_apart;
      setup = draft.program.setup;
      scripts = draft.program.scripts;
    }

    class_keeps : (hs : List ℕ) → hs ≡ heights_of t ids → IsKept (record t { classes = cs }) ids hs
    class_keeps = kept-named t cs t.names t.setup t.scripts class_are ids draft draft.apart

    class_adds : AddsClass old (record { table = record t { classes = cs }; nodes = ids }) word
    unfolding in_hand
    class_adds = record {
      hand = hand-named t cs t.names t.setup t.scripts class_are ids draft;
      table = ap (λ ws. record t { classes = ws }) (with_word-new t.classes word fresh);
      roots = roots-named t cs t.names t.setup t.scripts class_are ids draft refl refl;
    }

  module _ (is : IsName word) (room : length t.names + 1 < 2 ^ 32) where
    abbrev ns : List (List ℕ)
    ns = with_word t.names word

    name_are : AreNamed t t.classes ns t.setup t.scripts
    name_are = record {
      classes_begin = ([], sym (append-nil t.classes));
      names_begin = with_word-begins t.names word;
      few_classes = draft.program.limits.classes;
      few_names = omega (arith, with_word-length t.names word);
      few_scripts = draft.program.limits.scripts;
      classes = draft.program.spelled.classes;
      classes_apart = draft.program.spelled.classes_apart;
      names = with_word-each t.names word IsName draft.program.spelled.names is;
      names_apart = with_word-apart t.names word draft.program.spelled.names_apart;
      setup = draft.program.setup;
      scripts = draft.program.scripts;
    }

    name_keeps : (hs : List ℕ) → hs ≡ heights_of t ids → IsKept (record t { names = ns }) ids hs
    name_keeps = kept-named t t.classes ns t.setup t.scripts name_are ids draft draft.apart

    name_adds : AddsName old (record { table = record t { names = ns }; nodes = ids }) word
    unfolding in_hand
    name_adds = record {
      hand = hand-named t t.classes ns t.setup t.scripts name_are ids draft;
      table = refl;
      roots = roots-named t t.classes ns t.setup t.scripts name_are ids draft refl refl;
    }

abbrev script_roots : List (NameId × NodeId) → List ℕ
script_roots ss = map (λ s. s.1.0) ss

-- the block on top becomes that of the setup or of a script
module _ (t : Table) (ids : List NodeId) (draft : IsDraft t ids) (b : NodeId) (has : HasBlock IsRootBlock (in_hand (record { table = t; nodes = ids }))) (last : last_nodes 1 ids ≡ b ∷ last_nodes 0 ids) where
  abbrev before : Unfinished
  before = record { table = t; nodes = ids }

  abbrev kept : List NodeId
  kept = take (length ids - 1) ids

  block : IsBlock (tree_at t b.0) × IsRootBlock (tree_at t b.0)
  block = top_block before IsRootBlock has b last

  -- the numbers in hand end with it
  in_hand_is : numbers_of ids ≡ numbers_of kept ++ b.0 ∷ numbers_of (last_nodes 0 ids)
  in_hand_is =
      sym (ap numbers_of (take-append-drop (length ids - 1) ids))
      ∙ map-append (λ i. i.0) kept (last_nodes 1 ids)
      ∙ ap (λ taken. numbers_of kept ++ numbers_of taken) last

  low : b.0 < length t.nodes
  low =
      (each-back (λ j. j < length t.nodes) (numbers_of kept) (b.0 ∷ numbers_of (last_nodes 0 ids))
      (subst (AllByRecursion (λ j. j < length t.nodes)) in_hand_is draft.within)).0

  apart : IsDistinct nat_eq ((all_parts t ++ roots t) ++ (numbers_of kept ++ b.0 ∷ numbers_of (last_nodes 0 ids)))
  apart = subst (λ js. IsDistinct nat_eq ((all_parts t ++ roots t) ++ js)) in_hand_is draft.apart

  root : IsRootIn t b
  root = record { block = block_node-at t (founded t draft.program) b.0 low block.0; few_variables = block.1 }

  fewer : IsDraft t kept
  fewer = draft-fewer t ids (length ids - 1) draft

  -- the hand without it, in a table that has grown
  below : (u : Table) → Grows t u → in_hand before ≡ tree_at t b.0 ∷ trees_of u kept
  unfolding in_hand
  below u grown =
      top_hand before IsRootBlock has b last
      ∙ ap (λ ts. tree_at t b.0 ∷ ts) (sym (trees_of-grown t u draft.program grown kept fewer.within ∙ sym (drop-hand t ids 1 (one_node before IsRootBlock has))))

  number : b ≡ record { 0 = id_of (tree_at t b.0) }
  number = ap (λ (n : ℕ). let i : NodeId = record { 0 = n } in i) (sym (id_of-tree_at t b.0))

  setup_are : AreNamed t t.classes t.names (Some b) t.scripts
  setup_are = record {
    classes_begin = ([], sym (append-nil t.classes));
    names_begin = ([], sym (append-nil t.names));
    few_classes = draft.program.limits.classes;
    few_names = draft.program.limits.names;
    few_scripts = draft.program.limits.scripts;
    classes = draft.program.spelled.classes;
    classes_apart = draft.program.spelled.classes_apart;
    names = draft.program.spelled.names;
    names_apart = draft.program.spelled.names_apart;
    setup = root;
    scripts = draft.program.scripts;
  }

  -- the heights without the last one
  heights_fewer : (hs : List ℕ) → hs ≡ heights_of t ids → take (length hs - 1) hs ≡ heights_of t kept
  heights_fewer hs same =
      ap (λ xs. take (length xs - 1) xs) same
      ∙ ap (λ n. take (n - 1) (heights_of t ids)) (length-map ids (λ i. height (tree_at t i.0)))
      ∙ take-map (λ i. height (tree_at t i.0)) (length ids - 1) ids

  setup_keeps : (hs : List ℕ) → hs ≡ heights_of t ids → IsKept (record t { setup = Some b }) kept (take (length hs - 1) hs)
  setup_keeps hs same =
      kept-named t t.classes t.names (Some b) t.scripts setup_are kept fewer
      (apart-setup (all_parts t) (setup_root t.setup) (script_roots t.scripts) (numbers_of kept) (numbers_of (last_nodes 0 ids)) b.0 apart) (take (length hs - 1) hs) (heights_fewer hs same)

  setup_adds : AddsSetup before (record { table = record t { setup = Some b }; nodes = kept })
  unfolding in_hand
  setup_adds =
      let u : Table = record t { setup = Some b } in
      let grows : Grows t u = named-grows t t.classes t.names (Some b) t.scripts setup_are in
      record {
        block = tree_at t b.0;
        was = below u grows;
        setup_tree = ap Some (tree_at-grown t u grows (founded t draft.program) b.0 low);
        script_trees = script_trees t u draft.program grows t.scripts draft.program.scripts;
        table = ap (λ i. record t { setup = Some i }) number;
      }

  module _ (name : NameId) (known : name.0 < length t.names) (room : length t.scripts < SCRIPTS_MAX) where
    abbrev ss : List (NameId × NodeId)
    ss = t.scripts ++ (name, b) ∷ []

    script_are : AreNamed t t.classes t.names t.setup ss
    script_are = record {
      classes_begin = ([], sym (append-nil t.classes));
      names_begin = ([], sym (append-nil t.names));
      few_classes = draft.program.limits.classes;
      few_names = draft.program.limits.names;
      few_scripts = omega (arith, length-append t.scripts ((name, b) ∷ []));
      classes = draft.program.spelled.classes;
      classes_apart = draft.program.spelled.classes_apart;
      names = draft.program.spelled.names;
      names_apart = draft.program.spelled.names_apart;
      setup = draft.program.setup;
      scripts = each-append (IsScriptIn t) t.scripts ((name, b) ∷ []) draft.program.scripts
          (record { name = known; root = root }, tt);
    }

    script_keeps : (hs : List ℕ) → hs ≡ heights_of t ids → IsKept (record t { scripts = ss }) kept (take (length hs - 1) hs)
    script_keeps hs same =
        kept-named t t.classes t.names t.setup ss script_are kept fewer
        (subst (λ js. IsDistinct nat_eq ((all_parts t ++ (setup_root t.setup ++ js)) ++ numbers_of kept)) (sym (map-append (λ s. s.1.0) t.scripts ((name, b) ∷ [])))
        (apart-script (all_parts t) (setup_root t.setup) (script_roots t.scripts) (numbers_of kept) (numbers_of (last_nodes 0 ids)) b.0 apart)) (take (length hs - 1) hs) (heights_fewer hs same)

    script_adds : AddsScript before (record { table = record t { scripts = ss }; nodes = kept }) name.0
    unfolding in_hand
    script_adds =
        let u : Table = record t { scripts = ss } in
        let grows : Grows t u = named-grows t t.classes t.names t.setup ss script_are in
        record {
          block = tree_at t b.0;
          was = below u grows;
          script_trees =
              map-append {B = ℕ × Tree} (λ s. (s.0.0, tree_at u s.1.0)) t.scripts ((name, b) ∷ [])
              ∙ rw (script_trees t u draft.program grows t.scripts draft.program.scripts, tree_at-grown t u grows (founded t draft.program) b.0 low) refl;
          setup_tree = setup_tree t u draft.program grows t.setup draft.program.setup;
          table = ap (λ i. record t { scripts = t.scripts ++ (name, i) ∷ [] }) number;
        }

-- the same, whatever the draft is called
module _ (s d : Unfinished) (same : s ≡ d) (hs : List ℕ) (kept : IsKept s.table s.nodes hs) where
  module _ (word : List ℕ) (is : IsClassName word) (fresh : list_any (bytes_eq word) d.table.classes ≡ false) (room : length d.table.classes < 256) where
    few_classes : length s.table.classes < 256
    few_classes = subst (λ v. length v.table.classes < 256) (sym same) room

    new_class : list_any (bytes_eq word) s.table.classes ≡ false
    new_class = subst (λ v. list_any (bytes_eq word) v.table.classes ≡ false) (sym same) fresh

    pub class_kept : IsKept (record s.table { classes = with_word s.table.classes word }) s.nodes hs
    class_kept = class_keeps s.table s.nodes kept.draft word is new_class few_classes hs kept.same

    pub class_made : AddsClass d (record { table = record s.table { classes = with_word s.table.classes word }; nodes = s.nodes }) word
    class_made =
        let new : Unfinished = record { table = record s.table { classes = with_word s.table.classes word }; nodes = s.nodes } in
        subst (λ v. AddsClass v new word) same (class_adds s.table s.nodes kept.draft word is new_class few_classes)

  module _ (word : List ℕ) (is : IsName word) (room : length d.table.names + 1 < 2 ^ 32) where
    few_names : length s.table.names + 1 < 2 ^ 32
    few_names = subst (λ v. length v.table.names + 1 < 2 ^ 32) (sym same) room

    pub name_kept : IsKept (record s.table { names = with_word s.table.names word }) s.nodes hs
    name_kept = name_keeps s.table s.nodes kept.draft word is few_names hs kept.same

    pub name_made : AddsName d (record { table = record s.table { names = with_word s.table.names word }; nodes = s.nodes }) word
    name_made =
        let new : Unfinished = record { table = record s.table { names = with_word s.table.names word }; nodes = s.nodes } in
        subst (λ v. AddsName v new word) same (name_adds s.table s.nodes kept.draft word is few_names)

  module _ (b : NodeId) (has : HasBlock IsRootBlock (in_hand d)) (last : last_nodes 1 d.nodes ≡ b ∷ last_nodes 0 d.nodes) where
    has' : HasBlock IsRootBlock (in_hand s)
    has' = subst (λ v. HasBlock IsRootBlock (in_hand v)) (sym same) has

    last' : last_nodes 1 s.nodes ≡ b ∷ last_nodes 0 s.nodes
    last' = subst (λ v. last_nodes 1 v.nodes ≡ b ∷ last_nodes 0 v.nodes) (sym same) last

    pub setup_kept : IsKept (record s.table { setup = Some b }) (take (length s.nodes - 1) s.nodes) (take (length hs - 1) hs)
    setup_kept = setup_keeps s.table s.nodes kept.draft b has' last' hs kept.same

    pub setup_made : AddsSetup d (record { table = record s.table { setup = Some b }; nodes = take (length s.nodes - 1) s.nodes })
    setup_made =
        let new : Unfinished = record { table = record s.table { setup = Some b }; nodes = take (length s.nodes - 1) s.nodes } in
        subst (λ v. AddsSetup v new) same (setup_adds s.table s.nodes kept.draft b has' last')

    module _ (name : NameId) (known : name.0 < length d.table.names) (room : length d.table.scripts < SCRIPTS_MAX) where
      known' : name.0 < length s.table.names
      known' = subst (λ v. name.0 < length v.table.names) (sym same) known

      few_scripts : length s.table.scripts < SCRIPTS_MAX
      few_scripts = subst (λ v. length v.table.scripts < SCRIPTS_MAX) (sym same) room

      pub script_kept : IsKept (record s.table { scripts = s.table.scripts ++ (name, b) ∷ [] }) (take (length s.nodes - 1) s.nodes) (take (length hs - 1) hs)
      script_kept = script_keeps s.table s.nodes kept.draft b has' last' name known' few_scripts hs kept.same

      pub script_made : AddsScript d (record { table = record s.table { scripts = s.table.scripts ++ (name, b) ∷ [] }; nodes = take (length s.nodes - 1) s.nodes }) name.0
      script_made =
          let new : Unfinished = record { table = record s.table { scripts = s.table.scripts ++ (name, b) ∷ [] }; nodes = take (length s.nodes - 1) s.nodes } in
          subst (λ v. AddsScript v new name.0) same (script_adds s.table s.nodes kept.draft b has' last' name known' few_scripts)
