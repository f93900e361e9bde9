-- Each action does the same whatever the places and spots: one lemma for each.
use Rattle.std.proofs.Common.{◌≡◌, ℕ, pos, ◌+◌, ◌-◌, List, [], ◌∷◌, ◌++◌, length, Bool, false, Some, refl, sym, ◌∙◌, ap}
use Rattle.std.specs.{Prelude.nat_eq, Prelude.nat_le, List.list_any}
use Rattle.std.proofs.lemmas.List.{length-map}
use Rattle.hb_lex.specs.Literal.{value_of_number, value_of_text}
use Rattle.hb_types.specs.declared.{types.Ty.Ty, types.MethodTy.MethodTy, types.TheConstants.PARAMS_MAX}
use Rattle.hb_types.specs.declared.types.Ty.TheVariants as ty
use Rattle.hb_tree.specs.declared.limits.TheConstants.{TYPES_MAX, CONSTRUCTS_MAX}
use Rattle.hb_tree.specs.Tree.{Tree, TNil, TSelf, TInt, TText, TVar, TNew, TAssign, TPrint, TToStr, TNot, TBinary, TIf, TWhile, TCall, TDef, TDefComputed, TDeclare, TDeclareComputed, TBlock, id_of}
use Rattle.hb_grammar.specs.declared.actions.Action.{Action}
use Rattle.hb_grammar.specs.declared.actions.Action.TheVariants as a
use Rattle.hb_build.specs.declared.held.Spot.{Spot}
use Rattle.hb_build.specs.declared.faults.ParseFail.TheVariants as fail
use Rattle.hb_build.specs.declared.faults.Limit.TheVariants as limit
use Rattle.hb_build.specs.Pile.{Slot, Operand, Closed, Item, Argument, Own, Declaring, Word, Target, Called, OfClass, Named, Computed, Parameter, OfType, ParameterType, Block}
use Rattle.hb_build.specs.Pile.{Body, Setup, Script, items_on, below_items, arguments_on, below_arguments, parameters_on, below_parameters, types_on, below_types, is_full}
use Rattle.hb_build.specs.Acts.{Work, Answer, Goes, act, begins, boolean, class_of, closed, complete, declare, define, giving, leaf, method_ty, number, numbered, opened, push}
use Rattle.hb_build.specs.Acts.{typing, with_block, with_called, with_operand}
use Rattle.hb_canonical.specs.Deeds.{depth_after}
use Rattle.hb_canonical.proofs.SeenLemmas.{nowhere, no_place, no_spots, unplaced, unplaced-twice, seen, Alike, both, kept, fails, completes, seen-items, seen-below_items}
use Rattle.hb_canonical.proofs.SeenLemmas.{seen-arguments, seen-below_arguments, seen-parameters, seen-below_parameters, seen-types, seen-below_types, seen-full}
use Rattle.hb_canonical.proofs.SeenLemmas.{seen-declaring, seen-many_calls, seen-many_variables}
use Rattle.hb_canonical.proofs.SeenLemmas as on
use Rattle.hb_draft.specs.{Words.with_word, Unfinished.forest_of, Made.word_number}

-- where a construct opens there is room for it
abbrev pub HasRoom : Action → ℕ → Type 0
HasRoom a.Open depth = nat_le CONSTRUCTS_MAX depth ≡ false
HasRoom a.OpenWord depth = nat_le CONSTRUCTS_MAX depth ≡ false
HasRoom a.OpenAssign depth = nat_le CONSTRUCTS_MAX depth ≡ false
HasRoom _ depth = Unit {0}

module _ (p : Spot) (bytes : List ℕ) (w : Work) where
  module _ (d : ℕ) (same : w.depth ≡ d) where
    -- a node, complete on the work as it was
    node : (q : Spot) (make : ℕ → Tree) (slot : Tree → Slot) (rest : List Slot) → ((e : Tree) → on.no_spot (slot e) ≡ slot e)
        → Alike d (complete q make slot rest w) (complete nowhere make slot (no_spots rest) (seen 0 w))
    node q make slot rest plain = completes d q nowhere make slot rest w (seen 0 w) plain (sym (unplaced-twice w.said)) same

    begun : {x y : Answer} → Alike d x y → Alike d (begins p w x) (begins nowhere (seen 0 w) y)
    begun {x} {y} h = fails d (is_full w.pile) (is_full (no_spots w.pile)) (fail.TooMany limit.Arguments p.at) (fail.TooMany limit.Arguments 0) (sym (seen-full w.pile)) h

    leaves : (make : ℕ → Tree) → Alike d (leaf p make w) (leaf nowhere make (seen 0 w))
    leaves make = begun (node p make Operand w.pile (λ e. refl))

    pushed : (slot : Slot) → Alike d (Goes (push slot w)) (Goes (push (on.no_spot slot) (seen 0 w)))
    pushed slot = kept d (push slot w) 0 same

    named : (slot : Slot) → Alike d (Goes (push slot (numbered bytes w))) (Goes (push (on.no_spot slot) (numbered bytes (seen 0 w))))
    named slot = kept d (push slot (numbered bytes w)) 0 same

    laid : (pile : List Slot) → Alike d (Goes (record w { pile = pile })) (Goes (record (seen 0 w) { pile = no_spots pile }))
    laid pile = kept d (record w { pile = pile }) 0 same

  -- the definition and the declaration of the method on top
  module _ (d e : ℕ) (pile : List Slot) (u : Work) (same : u.depth ≡ d) where
    given : (params : List ℕ) (b : Tree) → unplaced (giving params b u).said ≡ unplaced (giving params b (seen e u)).said
    given params b =
        ap (λ n. unplaced (record u.said { bodies = u.said.bodies ++ record { def = n; block = id_of b; params = params } ∷ [] })) (sym (length-map u.said.places no_place))
        ∙ sym (unplaced-twice (record u.said { bodies = u.said.bodies ++ record { def = length (unplaced u.said).places; block = id_of b; params = params } ∷ [] }))

    defined : (params : List ℕ) (b : Tree) → Alike d (define params b pile u) (define params b (no_spots pile) (seen e u))
    defined params b =
        on.method d pile _ _
        (λ c m rest. on.own d rest _ (λ q rest. completes d q nowhere (λ id. TDef id c m (length u.said.bodies) b) Operand rest (giving params b u) (giving params b (seen e u)) (λ e. refl) (given params b) same))
        (λ c v rest. on.own d rest _ (λ q rest. completes d q nowhere (λ id. TDefComputed id c v (length u.said.bodies) b) Operand rest (giving params b u) (giving params b (seen e u)) (λ e. refl) (given params b) same))

    typed : (type : MethodTy) → unplaced (typing type u).said ≡ unplaced (typing type (seen e u)).said
    typed type =
        ap (λ n. unplaced (record u.said { types = u.said.types ++ (type, n) ∷ [] })) (sym (length-map u.said.places no_place))
        ∙ sym (unplaced-twice (record u.said { types = u.said.types ++ (type, length (unplaced u.said).places) ∷ [] }))

    declared : (type : MethodTy) (asks : Bool) → Alike d (declare type asks pile u) (declare type asks (no_spots pile) (seen e u))
    declared type asks =
        on.method d pile _ _
        (λ c m rest. on.declares d rest _ (λ q rest. completes d q nowhere (λ id. TDeclare id c m (length u.said.types) asks) Operand rest (typing type u) (typing type (seen e u)) (λ e. refl) (typed type) same))
        (λ c v rest. on.declares d rest _ (λ q rest. completes d q nowhere (λ id. TDeclareComputed id c v (length u.said.types) asks) Operand rest (typing type u) (typing type (seen e u)) (λ e. refl) (typed type) same))

  -- the action, and the same action for what is seen
  abbrev Looks : Action → Type 0
  Looks action = Alike (depth_after action w.depth) (act action p bytes w) (act action nowhere bytes (seen 0 w))

  -- ── lists that lie on top ──

  looks-end_block : Looks a.EndBlock
  looks-end_block =
      both w.depth (on.block w.depth (below_items w.pile) _ (λ rest. node w.depth refl p (λ id. TBlock id (forest_of (items_on w.pile))) Closed rest (λ e. refl)))
      (ap (λ pile. ended (items_on w.pile) pile) (sym (seen-below_items w.pile)) ∙ ap (λ items. ended items (below_items (no_spots w.pile))) (sym (seen-items w.pile)))
    where
      ended : List Tree → List Slot → Answer
      ended items pile = with_block pile (λ rest. complete nowhere (λ id. TBlock id (forest_of items)) Closed rest (seen 0 w))

  looks-put_call : Looks a.PutCall
  looks-put_call =
      both w.depth
      (on.called w.depth (below_arguments w.pile) _
      (λ m q rest. on.operand w.depth rest _ (λ r rest. node w.depth refl q (λ id. TCall id r m (forest_of (arguments_on w.pile))) Operand rest (λ e. refl))))
      (ap (λ pile. ended (arguments_on w.pile) pile) (sym (seen-below_arguments w.pile)) ∙ ap (λ args. ended args (below_arguments (no_spots w.pile))) (sym (seen-arguments w.pile)))
    where
      ended : List Tree → List Slot → Answer
      ended args pile = with_called pile (λ m q pile. with_operand pile (λ r pile. complete q (λ id. TCall id r m (forest_of args)) Operand pile (seen 0 w)))

  looks-put_def : Looks a.PutDef
  looks-put_def =
      let d : ℕ = w.depth - 1 in
      on.block_closed d w.pile _ (λ b rest. on.body d rest _ (λ rest.
      both d (defined d (0 - 1) (below_parameters rest) (closed w) refl (parameters_on rest) b)
      (ap (λ pile. define (parameters_on rest) b pile (closed (seen 0 w))) (sym (seen-below_parameters rest))
      ∙ ap (λ params. define params b (below_parameters (no_spots rest)) (closed (seen 0 w))) (sym (seen-parameters rest)))))

  looks-put_declare : (asks : Bool) → Looks (a.PutDeclare asks)
  looks-put_declare asks =
      on.of_type w.depth w.pile _ (λ y rest.
      both w.depth (declared w.depth 0 (below_types rest) w refl (method_ty (types_on rest) y) asks)
      (ap (λ pile. declare (method_ty (types_on rest) y) asks pile (seen 0 w)) (sym (seen-below_types rest))
      ∙ ap (λ types. declare (method_ty types y) asks (below_types (no_spots rest)) (seen 0 w)) (sym (seen-types rest))))

  looks-hold_parameter : Looks a.HoldParameter
  looks-hold_parameter =
      let x : ℕ = number bytes w in
      fails w.depth _ _ (fail.TwiceParam p.at) (fail.TwiceParam 0) (ap (λ l. list_any (nat_eq x) l) (sym (seen-parameters w.pile)))
      (fails w.depth _ _ (fail.TooMany limit.Parameters p.at) (fail.TooMany limit.Parameters 0) (ap (λ (l : List ℕ). nat_le PARAMS_MAX (length l)) (sym (seen-parameters w.pile)))
      (named w.depth refl (Parameter x)))

  looks-add_parameter_type : Looks a.AddParameterType
  looks-add_parameter_type =
      on.of_type w.depth w.pile _ (λ y rest.
      fails w.depth _ _ (fail.TooMany limit.Parameters p.at) (fail.TooMany limit.Parameters 0) (ap (λ (l : List Ty). nat_le PARAMS_MAX (length l)) (sym (seen-types rest)))
      (laid w.depth refl (ParameterType y ∷ rest)))

  looks-add_argument : Looks a.AddArgument
  looks-add_argument =
      on.operand w.depth w.pile _ (λ e rest.
      fails w.depth _ _ (fail.TooMany limit.Arguments p.at) (fail.TooMany limit.Arguments 0) (sym (seen-full rest))
      (laid w.depth refl (Argument e ∷ rest)))

  -- ── constructs that open ──

  looks-open : nat_le CONSTRUCTS_MAX w.depth ≡ false → Looks a.Open
  looks-open room =
      fails (w.depth + 1) _ false (fail.TooDeep p.at) (fail.TooDeep 0) room
      (fails (w.depth + 1) _ _ (fail.TooMany limit.Arguments p.at) (fail.TooMany limit.Arguments 0) (sym (seen-full w.pile))
      (kept (w.depth + 1) (opened w) (0 + 1) refl))

  looks-open_word : nat_le CONSTRUCTS_MAX w.depth ≡ false → Looks a.OpenWord
  looks-open_word room =
      fails (w.depth + 1) _ false (fail.TooDeep p.at) (fail.TooDeep 0) room
      (fails (w.depth + 1) _ _ (fail.TooMany limit.Arguments p.at) (fail.TooMany limit.Arguments 0) (sym (seen-full w.pile))
      (kept (w.depth + 1) (opened (push (Own p) w)) (0 + 1) refl))

  looks-open_assign : nat_le CONSTRUCTS_MAX w.depth ≡ false → Looks a.OpenAssign
  looks-open_assign room =
      on.named (w.depth + 1) w.pile _ (λ x q rest.
      fails (w.depth + 1) _ false (fail.TooDeep p.at) (fail.TooDeep 0) room
      (fails (w.depth + 1) _ _ (fail.TooMany limit.Variables p.at) (fail.TooMany limit.Variables 0) (sym (seen-many_variables (Target x p ∷ rest)))
      (kept (w.depth + 1) (opened (record w { pile = Target x p ∷ rest })) (0 + 1) refl)))

  -- ── the others ──

  looks-put_text : Looks a.PutText
  looks-put_text =
      let value : List ℕ = value_of_text bytes in
      let u : Work = record w { said = record w.said { texts = with_word w.said.texts value } } in
      fails w.depth _ _ (fail.TooMany limit.Arguments p.at) (fail.TooMany limit.Arguments 0) (sym (seen-full w.pile))
      (completes w.depth p nowhere (λ id. TText id (word_number w.said.texts value)) Operand w.pile u (seen 0 u) (λ e. refl) (sym (unplaced-twice u.said)) refl)

  -- a node that closes its construct
  shut : (q : Spot) (make : ℕ → Tree) (rest : List Slot) → Alike (w.depth - 1) (complete q make Operand rest (closed w)) (complete nowhere make Operand (no_spots rest) (closed (seen 0 w)))
  shut q make rest = completes (w.depth - 1) q nowhere make Operand rest (closed w) (closed (seen 0 w)) (λ e. refl) (sym (unplaced-twice w.said)) refl

  pub looks : (action : Action) → HasRoom action w.depth → Looks action
  looks a.DeclareClass room =
      fails w.depth _ _ (fail.TwiceClass p.at) (fail.TwiceClass 0) refl
      (fails w.depth _ _ (fail.TooMany limit.Classes p.at) (fail.TooMany limit.Classes 0) refl
      (kept w.depth (record w { said = record w.said { classes = w.said.classes ++ bytes ∷ [] } }) 0 refl))
  looks a.BeginSetup room = pushed w.depth refl Setup
  looks a.EndSetup room = on.block_closed w.depth w.pile _ (λ b rest. on.setup w.depth rest _ (λ rest. kept w.depth (record w { said = record w.said { setup = Some b }; pile = rest }) 0 refl))
  looks a.BeginScript room =
      fails w.depth _ _ (fail.TwiceScript p.at) (fail.TwiceScript 0) refl
      (fails w.depth _ _ (fail.TooMany limit.Scripts p.at) (fail.TooMany limit.Scripts 0) refl (named w.depth refl (Script (number bytes w))))
  looks a.EndScript room =
      on.block_closed w.depth w.pile _ (λ b rest. on.script w.depth rest _ (λ x rest.
      fails w.depth _ _ (fail.TooMany limit.Scripts p.at) (fail.TooMany limit.Scripts 0) refl
      (kept w.depth (record w { said = record w.said { scripts = w.said.scripts ++ (x, b) ∷ [] }; pile = rest }) 0 refl)))
  looks a.BeginBlock room = pushed w.depth refl Block
  looks a.EndBlock room = looks-end_block
  looks a.AddItem room = on.operand w.depth w.pile _ (λ e rest. laid w.depth refl (Item e ∷ rest))
  looks a.Open room = looks-open room
  looks a.Close room = kept (w.depth - 1) (closed w) (0 - 1) refl
  looks a.OpenWord room = looks-open_word room
  looks a.OpenAssign room = looks-open_assign room
  looks a.HoldOperator room = pushed w.depth refl (Own p)
  looks a.HoldStr room = begun w.depth refl (pushed w.depth refl (Own p))
  looks a.HoldDeclare room =
      fails w.depth _ _ (fail.TooMany limit.Types p.at) (fail.TooMany limit.Types 0) (ap (λ n. nat_le TYPES_MAX (length w.said.types + n)) (sym (seen-declaring w.pile)))
      (begun w.depth refl (pushed w.depth refl (Declaring p)))
  looks a.HoldName room = begun w.depth refl (named w.depth refl (Word (number bytes w) p))
  looks a.HoldCall room =
      fails w.depth _ _ (fail.TooMany limit.Calls p.at) (fail.TooMany limit.Calls 0) (sym (seen-many_calls (Called (number bytes w) p ∷ w.pile)))
      (named w.depth refl (Called (number bytes w) p))
  looks a.HoldClass room = on.known w.depth (class_of bytes w) p (λ c. begun w.depth refl (pushed w.depth refl (OfClass c p)))
  looks a.NameMethod room = on.of_class w.depth w.pile _ (λ c q rest. kept w.depth (record (numbered bytes w) { pile = Named c (number bytes w) ∷ rest }) 0 refl)
  looks a.ComputeMethod room = on.operand w.depth w.pile _ (λ e rest. on.of_class w.depth rest _ (λ c q rest. laid w.depth refl (Computed c e ∷ rest)))
  looks a.HoldParameter room = looks-hold_parameter
  looks a.BeginBody room = pushed w.depth refl Body
  looks (a.HoldType y) room = on.word w.depth y (pushed w.depth refl (OfType y))
  looks a.HoldClassType room = on.known w.depth (class_of bytes w) p (λ c. pushed w.depth refl (OfType (ty.Class (record { 0 = c }))))
  looks a.AddParameterType room = looks-add_parameter_type
  looks a.AddArgument room = looks-add_argument
  looks a.PutNil room = leaves w.depth refl TNil
  looks (a.PutBoolean b) room = leaves w.depth refl (boolean b)
  looks a.PutSelf room = leaves w.depth refl TSelf
  looks a.PutNumber room = leaves w.depth refl (λ id. TInt id (pos (value_of_number bytes)))
  looks a.PutText room = looks-put_text
  looks a.PutVariable room = on.named w.depth w.pile _ (λ x q rest. node w.depth refl q (λ id. TVar id x) Operand rest (λ e. refl))
  looks a.PutNew room = on.of_class w.depth w.pile _ (λ c q rest. node w.depth refl q (λ id. TNew id c) Operand rest (λ e. refl))
  looks a.PutAssign room = on.operand (w.depth - 1) w.pile _ (λ e rest. on.target (w.depth - 1) rest _ (λ x q rest. shut q (λ id. TAssign id x e) rest))
  looks a.PutPrint room = on.operand (w.depth - 1) w.pile _ (λ e rest. on.own (w.depth - 1) rest _ (λ q rest. shut q (λ id. TPrint id e) rest))
  looks a.PutStr room = on.operand w.depth w.pile _ (λ e rest. on.own w.depth rest _ (λ q rest. node w.depth refl q (λ id. TToStr id e) Operand rest (λ e. refl)))
  looks a.PutNot room = on.operand (w.depth - 1) w.pile _ (λ e rest. on.own (w.depth - 1) rest _ (λ q rest. shut q (λ id. TNot id e) rest))
  looks (a.PutBinary op) room =
      on.operand w.depth w.pile _ (λ r rest. on.own w.depth rest _ (λ q rest. on.operand w.depth rest _ (λ l rest.
      node w.depth refl q (λ id. TBinary id op l r) Operand rest (λ e. refl))))
  looks a.PutIf room =
      let d : ℕ = w.depth - 1 in
      on.block_closed d w.pile _ (λ r rest. on.block_closed d rest _ (λ l rest. on.operand d rest _ (λ c rest. on.own d rest _ (λ q rest. shut q (λ id. TIf id c l r) rest))))
  looks a.PutWhile room =
      let d : ℕ = w.depth - 1 in
      on.block_closed d w.pile _ (λ b rest. on.operand d rest _ (λ c rest. on.own d rest _ (λ q rest. shut q (λ id. TWhile id c b) rest)))
  looks a.PutCall room = looks-put_call
  looks a.PutDef room = looks-put_def
  looks (a.PutDeclare asks) room = looks-put_declare asks
