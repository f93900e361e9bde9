-- What each action leaves on the pile, and what is known of the words that it numbers.
use Rattle.std.proofs.Common.{◌≡◌, ℕ, pos, ◌+◌, ◌-◌, ◌≤◌, List, ◌∷◌, ◌++◌, length, Bool, false, Option, Some, None, refl, sym, ◌∙◌, ap, subst, arith, position, get_or}
use Rattle.std.specs.Prelude.{slice_get, bytes_eq, nat_eq, nat_le}
use Rattle.std.specs.{List.list_any, Cmp.Lexicographic.same_text}
use Rattle.std.proofs.{lemmas.List.Quantifiers.position-Some, lemmas.Option.slice_get-get_or, lemmas.Bool.Decides.nat_tests}
use Rattle.hb_lex.specs.Literal.{value_of_number, value_of_text}
use Rattle.hb_types.specs.declared.{types.Ty.Ty, types.TheConstants.PARAMS_MAX}
use Rattle.hb_types.specs.declared.types.Ty.TheVariants as ty
use Rattle.hb_tree.specs.declared.{limits.TheConstants.CONSTRUCTS_MAX, limits.TheConstants.SCRIPTS_MAX, limits.TheConstants.TYPES_MAX, node.Op.Op}
use Rattle.hb_tree.specs.Tree.{Tree, TNil, TSelf, TInt, TText, TVar, TNew, TAssign, TPrint, TToStr, TNot, TBinary, TIf, TWhile, TCall, TBlock}
use Rattle.hb_tree.specs.Canon.{bytes_at}
use Rattle.hb_draft.specs.{Made.word_number, Words.with_word, Unfinished.forest_of}
use Rattle.hb_draft.proofs.WordLists.{with_word-begins, with_word-place}
use Rattle.hb_grammar.specs.declared.actions.Action.TheVariants as a
use Rattle.hb_build.specs.declared.held.Spot.{Spot}
use Rattle.hb_build.specs.Said.{Said}
use Rattle.hb_build.specs.Pile.{Slot, Operand, Closed, Item, Argument, Own, Declaring, Word, Target, Called, OfClass, Named, Computed, Parameter, OfType, ParameterType, Block}
use Rattle.hb_build.specs.Pile.{Body, Setup, Script, items_on, below_items, arguments_on, below_arguments, parameters_on, types_on, is_full, declaring}
use Rattle.hb_build.specs.Acts.{Work, Goes, complete, closed, push, numbered, number, with_known, class_of, begins, if_word, with_block, with_called, with_operand, boolean}
use Rattle.hb_canonical.specs.Deeds.{Deed}
use Rattle.hb_canonical.proofs.EffectLemmas.{Later, Inside, Moves, Does, begins-same, later-then, inside-same, inside-then, word-later, goes-same, goes-passed, moves-to, puts, at-pile}

not_full : (d : ℕ) → nat_le CONSTRUCTS_MAX d ≡ false → d + 1 ≤ CONSTRUCTS_MAX
not_full d h = grind (arith, nat_tests)

few_types : (n : ℕ) → nat_le PARAMS_MAX n ≡ false → n + 1 ≤ PARAMS_MAX
few_types n h = grind (arith, nat_tests)

-- a word that is found stands at its place
position-stands : (word : List ℕ) (words : List (List ℕ)) (i : ℕ) → position (bytes_eq word) words ≡ Some i → slice_get words i ≡ Some word
position-stands word words i e =
    let at = position-Some (bytes_eq word) words i word e in
    slice_get-get_or words i word at.0 ∙ ap Some (sym (same_text word (get_or words i word) (sym at.1)))

class-later : (old new : Said) → Later old new → (bytes : List ℕ) (c : ℕ) → position (bytes_eq bytes) old.classes ≡ Some c → bytes_at new.classes c ≡ bytes
class-later old new h bytes c e = word-later old.classes new.classes c bytes h.classes (position-stands bytes old.classes c e)

-- ── constructs that open and close ──

module _ (w : Work) (ds : List Deed) (v : Work) (es : List Deed) where
  abbrev pub Opens : List Slot → Type 0
  Opens pile = Moves w.said v pile (w.depth + 1) × (w.depth + 1 ≤ CONSTRUCTS_MAX)

  pub does-open : Does a.Open w ds v es → Opens w.pile
  does-open d =
      let one = goes-passed _ _ _ v d.goes in
      let two = goes-passed _ _ _ v one.1 in
      (moves-to (record { inside = inside-same w.said; pile_is = refl; depth_is = refl }) two.1, not_full w.depth one.0)

  pub does-close : Does a.Close w ds v es → Moves w.said v w.pile (w.depth - 1)
  does-close d = moves-to (record { inside = inside-same w.said; pile_is = refl; depth_is = refl }) d.goes

  pub does-open_word : (d : Does a.OpenWord w ds v es) → Opens (Own d.spot ∷ w.pile)
  does-open_word d =
      let one = goes-passed _ _ _ v d.goes in
      let two = goes-passed _ _ _ v one.1 in
      (moves-to (record { inside = inside-same w.said; pile_is = refl; depth_is = refl }) two.1, not_full w.depth one.0)

  pub does-open_assign : (x : ℕ) (q : Spot) (pile : List Slot) → w.pile ≡ Word x q ∷ pile → (d : Does a.OpenAssign w ds v es) → Opens (Target x d.spot ∷ pile)
  does-open_assign x q pile e d =
      let one = goes-passed _ _ _ v (at-pile a.OpenAssign d.spot d.bytes w v (Word x q ∷ pile) e d.goes) in
      let two = goes-passed _ _ _ v one.1 in
      (moves-to (record { inside = inside-same w.said; pile_is = refl; depth_is = refl }) two.1, not_full w.depth one.0)

  -- ── own tokens and marks ──

  abbrev pub Lays : List Slot → Type 0
  Lays pile = Moves w.said v pile w.depth

  pub does-hold_operator : (d : Does a.HoldOperator w ds v es) → Lays (Own d.spot ∷ w.pile)
  does-hold_operator d = moves-to (record { inside = inside-same w.said; pile_is = refl; depth_is = refl }) d.goes

  pub does-hold_str : (d : Does a.HoldStr w ds v es) → Lays (Own d.spot ∷ w.pile)
  does-hold_str d = moves-to (record { inside = inside-same w.said; pile_is = refl; depth_is = refl }) (goes-passed _ _ _ v d.goes).1

  pub does-hold_declare : (d : Does a.HoldDeclare w ds v es) → Lays (Declaring d.spot ∷ w.pile)
  does-hold_declare d =
      let one = goes-passed (nat_le TYPES_MAX (length w.said.types + declaring w.pile)) _ _ v d.goes in
      let two = goes-passed (is_full w.pile) _ _ v one.1 in
      moves-to (record { inside = inside-same w.said; pile_is = refl; depth_is = refl }) two.1

  pub does-begin_block : Does a.BeginBlock w ds v es → Lays (Block ∷ w.pile)
  does-begin_block d = moves-to (record { inside = inside-same w.said; pile_is = refl; depth_is = refl }) d.goes

  pub does-begin_body : Does a.BeginBody w ds v es → Lays (Body ∷ w.pile)
  does-begin_body d = moves-to (record { inside = inside-same w.said; pile_is = refl; depth_is = refl }) d.goes

  pub does-begin_setup : Does a.BeginSetup w ds v es → Lays (Setup ∷ w.pile)
  does-begin_setup d = moves-to (record { inside = inside-same w.said; pile_is = refl; depth_is = refl }) d.goes

  -- ── words ──

  -- a name is numbered, and is found by its number for ever
  abbrev pub Numbers : (ℕ → List Slot) → List ℕ → Type 0
  Numbers pile bytes = (x : ℕ) × Moves w.said v (pile x) w.depth × ((s : Said) → Later v.said s → bytes_at s.names x ≡ bytes)

  numbers : (pile : ℕ → List Slot) (bytes : List ℕ) (u : Work) → u ≡ record (numbered bytes w) { pile = pile (number bytes w) } → Goes u ≡ Goes v → Numbers pile bytes
  numbers pile bytes u is e =
      let same : v ≡ record (numbered bytes w) { pile = pile (number bytes w) } = sym (goes-same e) ∙ is in (
        number bytes w,
        subst (λ (x : Work). Moves w.said x (pile (number bytes w)) w.depth) (sym same) (record {
          inside = record {
            later = record { classes = begins-same w.said.classes; names = with_word-begins w.said.names bytes; texts = begins-same w.said.texts; bodies = begins-same w.said.bodies; types = begins-same w.said.types };
            classes = refl;
            setup = refl;
            scripts = refl;
          };
          pile_is = refl;
          depth_is = refl;
        }),
        λ s g. word-later (with_word w.said.names bytes) s.names (number bytes w) bytes (subst (λ (x : Work). (rest : List (List ℕ)) × (s.names ≡ x.said.names ++ rest)) same g.names) (with_word-place w.said.names bytes),
      )

  pub does-hold_name : (d : Does a.HoldName w ds v es) → Numbers (λ x. Word x d.spot ∷ w.pile) d.bytes
  does-hold_name d = numbers (λ x. Word x d.spot ∷ w.pile) d.bytes _ refl (goes-passed _ _ _ v d.goes).1

  pub does-hold_call : (d : Does a.HoldCall w ds v es) → Numbers (λ x. Called x d.spot ∷ w.pile) d.bytes
  does-hold_call d = numbers (λ x. Called x d.spot ∷ w.pile) d.bytes _ refl (goes-passed _ _ _ v d.goes).1

  pub does-hold_parameter : (d : Does a.HoldParameter w ds v es) → Numbers (λ x. Parameter x ∷ w.pile) d.bytes
  does-hold_parameter d =
      let one = goes-passed (list_any (nat_eq (number d.bytes w)) (parameters_on w.pile)) _ _ v d.goes in
      let two = goes-passed (nat_le PARAMS_MAX (length (parameters_on w.pile))) _ _ v one.1 in
      numbers (λ x. Parameter x ∷ w.pile) d.bytes _ refl two.1

  pub does-begin_script : (d : Does a.BeginScript w ds v es) → Numbers (λ x. Script x ∷ w.pile) d.bytes
  does-begin_script d =
      let one = goes-passed (list_any (λ (s : ℕ × Tree). nat_eq (number d.bytes w) s.0) w.said.scripts) _ _ v d.goes in
      let two = goes-passed (nat_le SCRIPTS_MAX (length w.said.scripts)) _ _ v one.1 in
      numbers (λ x. Script x ∷ w.pile) d.bytes _ refl two.1

  pub does-name_method : (c : ℕ) (q : Spot) (pile : List Slot) → w.pile ≡ OfClass c q ∷ pile → (d : Does a.NameMethod w ds v es) → Numbers (λ x. Named c x ∷ pile) d.bytes
  does-name_method c q pile e d = numbers (λ x. Named c x ∷ pile) d.bytes _ refl (at-pile a.NameMethod d.spot d.bytes w v (OfClass c q ∷ pile) e d.goes)

  -- a class that is known is found by its number for ever
  pub does-hold_class : (d : Does a.HoldClass w ds v es) → (c : ℕ) × Moves w.said v (OfClass c d.spot ∷ w.pile) w.depth × ((s : Said) → Later v.said s → bytes_at s.classes c ≡ d.bytes)
  does-hold_class d = by (class_of d.bytes w) refl d.goes
    where
      by : (o : Option ℕ) → class_of d.bytes w ≡ o → with_known o d.spot (λ c. begins d.spot w (Goes (push (OfClass c d.spot) w))) ≡ Goes v
          → (c : ℕ) × Moves w.said v (OfClass c d.spot ∷ w.pile) w.depth × ((s : Said) → Later v.said s → bytes_at s.classes c ≡ d.bytes)
      by None e h = cc
      by (Some c) e h =
          let m : Moves w.said v (OfClass c d.spot ∷ w.pile) w.depth = moves-to (record { inside = inside-same w.said; pile_is = refl; depth_is = refl }) (goes-passed _ _ _ v h).1 in
          (c, m, λ s g. class-later w.said s (later-then m.inside.later g) d.bytes c e)

  pub does-hold_class_type : (d : Does a.HoldClassType w ds v es) → (c : ℕ) × Moves w.said v (OfType (ty.Class (record { 0 = c })) ∷ w.pile) w.depth × ((s : Said) → Later v.said s → bytes_at s.classes c ≡ d.bytes)
  does-hold_class_type d = by (class_of d.bytes w) refl d.goes
    where
      by : (o : Option ℕ) → class_of d.bytes w ≡ o → with_known o d.spot (λ c. Goes (push (OfType (ty.Class (record { 0 = c }))) w)) ≡ Goes v
          → (c : ℕ) × Moves w.said v (OfType (ty.Class (record { 0 = c })) ∷ w.pile) w.depth × ((s : Said) → Later v.said s → bytes_at s.classes c ≡ d.bytes)
      by None e h = cc
      by (Some c) e h =
          let m : Moves w.said v (OfType (ty.Class (record { 0 = c })) ∷ w.pile) w.depth = moves-to (record { inside = inside-same w.said; pile_is = refl; depth_is = refl }) h in
          (c, m, λ s g. class-later w.said s (later-then m.inside.later g) d.bytes c e)

  pub does-hold_type : (y : Ty) → Does (a.HoldType y) w ds v es → Moves w.said v (OfType y ∷ w.pile) w.depth
  does-hold_type y d = by y d.goes
    where
      laid : (y : Ty) → Goes (push (OfType y) w) ≡ Goes v → Moves w.said v (OfType y ∷ w.pile) w.depth
      laid y h = moves-to (record { inside = inside-same w.said; pile_is = refl; depth_is = refl }) h

      by : (y : Ty) → if_word y (Goes (push (OfType y) w)) ≡ Goes v → Moves w.said v (OfType y ∷ w.pile) w.depth
      by ty.Nil h = laid ty.Nil h
      by ty.Bool h = laid ty.Bool h
      by ty.Int h = laid ty.Int h
      by ty.Str h = laid ty.Str h
      by ty.Any h = laid ty.Any h
      by (ty.Class c) h = cc

  -- ── what joins a list ──

  pub does-compute_method : (e : Tree) (c : ℕ) (q : Spot) (pile : List Slot) → w.pile ≡ Operand e ∷ OfClass c q ∷ pile → Does a.ComputeMethod w ds v es → Lays (Computed c e ∷ pile)
  does-compute_method e c q pile is d = moves-to (record { inside = inside-same w.said; pile_is = refl; depth_is = refl }) (at-pile a.ComputeMethod d.spot d.bytes w v (Operand e ∷ OfClass c q ∷ pile) is d.goes)

  pub does-add_item : (e : Tree) (pile : List Slot) → w.pile ≡ Operand e ∷ pile → Does a.AddItem w ds v es → Lays (Item e ∷ pile)
  does-add_item e pile is d = moves-to (record { inside = inside-same w.said; pile_is = refl; depth_is = refl }) (at-pile a.AddItem d.spot d.bytes w v (Operand e ∷ pile) is d.goes)

  pub does-add_argument : (e : Tree) (pile : List Slot) → w.pile ≡ Operand e ∷ pile → Does a.AddArgument w ds v es → Lays (Argument e ∷ pile)
  does-add_argument e pile is d = moves-to (record { inside = inside-same w.said; pile_is = refl; depth_is = refl }) (goes-passed _ _ _ v (at-pile a.AddArgument d.spot d.bytes w v (Operand e ∷ pile) is d.goes)).1

  pub does-add_parameter_type : (y : Ty) (pile : List Slot) → w.pile ≡ OfType y ∷ pile → Does a.AddParameterType w ds v es → Lays (ParameterType y ∷ pile) × (length (types_on pile) + 1 ≤ PARAMS_MAX)
  does-add_parameter_type y pile is d =
      let one = goes-passed (nat_le PARAMS_MAX (length (types_on pile))) _ _ v (at-pile a.AddParameterType d.spot d.bytes w v (OfType y ∷ pile) is d.goes) in
      let few : nat_le PARAMS_MAX (length (types_on pile)) ≡ false = one.0 in
      (moves-to (record { inside = inside-same w.said; pile_is = refl; depth_is = refl }) one.1, few_types (length (types_on pile)) few)

  -- ── nodes ──

  pub does-end_block : (pile : List Slot) → below_items w.pile ≡ Block ∷ pile → Does a.EndBlock w ds v es → Lays (Closed (TBlock (length w.said.places) (forest_of (items_on w.pile))) ∷ pile)
  does-end_block pile is d =
      puts d.spot (λ id. TBlock id (forest_of (items_on w.pile))) Closed pile w v
      (subst (λ (x : List Slot). with_block x (λ rest. complete d.spot (λ id. TBlock id (forest_of (items_on w.pile))) Closed rest w) ≡ Goes v) is d.goes)

  pub does-put_nil : Does a.PutNil w ds v es → Lays (Operand (TNil (length w.said.places)) ∷ w.pile)
  does-put_nil d = puts d.spot TNil Operand w.pile w v (goes-passed _ _ _ v d.goes).1

  pub does-put_boolean : (b : Bool) → Does (a.PutBoolean b) w ds v es → Lays (Operand (boolean b (length w.said.places)) ∷ w.pile)
  does-put_boolean b d = puts d.spot (boolean b) Operand w.pile w v (goes-passed _ _ _ v d.goes).1

  pub does-put_self : Does a.PutSelf w ds v es → Lays (Operand (TSelf (length w.said.places)) ∷ w.pile)
  does-put_self d = puts d.spot TSelf Operand w.pile w v (goes-passed _ _ _ v d.goes).1

  pub does-put_number : (d : Does a.PutNumber w ds v es) → Lays (Operand (TInt (length w.said.places) (pos (value_of_number d.bytes))) ∷ w.pile)
  does-put_number d = puts d.spot (λ id. TInt id (pos (value_of_number d.bytes))) Operand w.pile w v (goes-passed _ _ _ v d.goes).1

  pub does-put_text : (d : Does a.PutText w ds v es) → (x : ℕ) × Lays (Operand (TText (length w.said.places) x) ∷ w.pile) × ((s : Said) → Later v.said s → bytes_at s.texts x ≡ value_of_text d.bytes)
  does-put_text d =
      let value : List ℕ = value_of_text d.bytes in
      let u : Work = record w { said = record w.said { texts = with_word w.said.texts value } } in
      let x : ℕ = word_number w.said.texts value in
      let m : Moves u.said v (Operand (TText (length w.said.places) x) ∷ w.pile) w.depth = puts d.spot (λ id. TText id x) Operand w.pile u v (goes-passed _ _ _ v d.goes).1 in
      let mine : Inside w.said u.said = record {
        later = record { classes = begins-same w.said.classes; names = begins-same w.said.names; texts = with_word-begins w.said.texts value; bodies = begins-same w.said.bodies; types = begins-same w.said.types };
        classes = refl;
        setup = refl;
        scripts = refl;
      } in (
        x,
        record { inside = inside-then mine m.inside; pile_is = m.pile_is; depth_is = m.depth_is },
        λ s g. word-later (with_word w.said.texts value) s.texts x value (later-then m.inside.later g).texts (with_word-place w.said.texts value),
      )

  pub does-put_variable : (x : ℕ) (q : Spot) (pile : List Slot) → w.pile ≡ Word x q ∷ pile → Does a.PutVariable w ds v es → Lays (Operand (TVar (length w.said.places) x) ∷ pile)
  does-put_variable x q pile is d = puts q (λ id. TVar id x) Operand pile w v (at-pile a.PutVariable d.spot d.bytes w v (Word x q ∷ pile) is d.goes)

  pub does-put_new : (c : ℕ) (q : Spot) (pile : List Slot) → w.pile ≡ OfClass c q ∷ pile → Does a.PutNew w ds v es → Lays (Operand (TNew (length w.said.places) c) ∷ pile)
  does-put_new c q pile is d = puts q (λ id. TNew id c) Operand pile w v (at-pile a.PutNew d.spot d.bytes w v (OfClass c q ∷ pile) is d.goes)

  -- a construct that closes with its node
  abbrev pub Shuts : List Slot → Type 0
  Shuts pile = Moves w.said v pile (w.depth - 1)

  pub does-put_assign : (e : Tree) (x : ℕ) (q : Spot) (pile : List Slot) → w.pile ≡ Operand e ∷ Target x q ∷ pile → Does a.PutAssign w ds v es → Shuts (Operand (TAssign (length w.said.places) x e) ∷ pile)
  does-put_assign e x q pile is d = puts q (λ id. TAssign id x e) Operand pile (closed w) v (at-pile a.PutAssign d.spot d.bytes w v (Operand e ∷ Target x q ∷ pile) is d.goes)

  pub does-put_print : (e : Tree) (q : Spot) (pile : List Slot) → w.pile ≡ Operand e ∷ Own q ∷ pile → Does a.PutPrint w ds v es → Shuts (Operand (TPrint (length w.said.places) e) ∷ pile)
  does-put_print e q pile is d = puts q (λ id. TPrint id e) Operand pile (closed w) v (at-pile a.PutPrint d.spot d.bytes w v (Operand e ∷ Own q ∷ pile) is d.goes)

  pub does-put_not : (e : Tree) (q : Spot) (pile : List Slot) → w.pile ≡ Operand e ∷ Own q ∷ pile → Does a.PutNot w ds v es → Shuts (Operand (TNot (length w.said.places) e) ∷ pile)
  does-put_not e q pile is d = puts q (λ id. TNot id e) Operand pile (closed w) v (at-pile a.PutNot d.spot d.bytes w v (Operand e ∷ Own q ∷ pile) is d.goes)

  pub does-put_str : (e : Tree) (q : Spot) (pile : List Slot) → w.pile ≡ Operand e ∷ Own q ∷ pile → Does a.PutStr w ds v es → Lays (Operand (TToStr (length w.said.places) e) ∷ pile)
  does-put_str e q pile is d = puts q (λ id. TToStr id e) Operand pile w v (at-pile a.PutStr d.spot d.bytes w v (Operand e ∷ Own q ∷ pile) is d.goes)

  pub does-put_binary : (op : Op) (r : Tree) (q : Spot) (l : Tree) (pile : List Slot) → w.pile ≡ Operand r ∷ Own q ∷ Operand l ∷ pile → Does (a.PutBinary op) w ds v es
      → Lays (Operand (TBinary (length w.said.places) op l r) ∷ pile)
  does-put_binary op r q l pile is d = puts q (λ id. TBinary id op l r) Operand pile w v (at-pile (a.PutBinary op) d.spot d.bytes w v (Operand r ∷ Own q ∷ Operand l ∷ pile) is d.goes)

  pub does-put_if : (r l c : Tree) (q : Spot) (pile : List Slot) → w.pile ≡ Closed r ∷ Closed l ∷ Operand c ∷ Own q ∷ pile → Does a.PutIf w ds v es → Shuts (Operand (TIf (length w.said.places) c l r) ∷ pile)
  does-put_if r l c q pile is d = puts q (λ id. TIf id c l r) Operand pile (closed w) v (at-pile a.PutIf d.spot d.bytes w v (Closed r ∷ Closed l ∷ Operand c ∷ Own q ∷ pile) is d.goes)

  pub does-put_while : (b c : Tree) (q : Spot) (pile : List Slot) → w.pile ≡ Closed b ∷ Operand c ∷ Own q ∷ pile → Does a.PutWhile w ds v es → Shuts (Operand (TWhile (length w.said.places) c b) ∷ pile)
  does-put_while b c q pile is d = puts q (λ id. TWhile id c b) Operand pile (closed w) v (at-pile a.PutWhile d.spot d.bytes w v (Closed b ∷ Operand c ∷ Own q ∷ pile) is d.goes)

  pub does-put_call : (m : ℕ) (q : Spot) (r : Tree) (pile : List Slot) → below_arguments w.pile ≡ Called m q ∷ Operand r ∷ pile → Does a.PutCall w ds v es
      → Lays (Operand (TCall (length w.said.places) r m (forest_of (arguments_on w.pile))) ∷ pile)
  does-put_call m q r pile is d =
      let tree : ℕ → Tree = λ id. TCall id r m (forest_of (arguments_on w.pile)) in
      puts q tree Operand pile w v
      (subst (λ (x : List Slot). with_called x (λ m q pile. with_operand pile (λ r pile. complete q (λ id. TCall id r m (forest_of (arguments_on w.pile))) Operand pile w)) ≡ Goes v) is d.goes)
