-- Each action keeps it that each node lies in a tree of the pile, of the setup or of a script.
use Rattle.std.proofs.Common.{◌≡◌, ℕ, pos, ◌+◌, ◌<◌, ◌≤◌, List, [], ◌∷◌, ◌++◌, true, false, Some, None, length, length-append, refl, ap, inl, inr, arith}
use Rattle.std.proofs.{lemmas.Bool.cases_lt, lemmas.Bool.eq-eqb}
use Rattle.hb_lex.specs.Literal.{value_of_number, value_of_text}
use Rattle.hb_types.specs.declared.types.Ty.TheVariants as ty
use Rattle.hb_tree.specs.Tree.{Tree, TNil, TSelf, TInt, TText, TVar, TNew, TAssign, TPrint, TToStr, TNot, TBinary, TIf, TWhile, TCall, TDef, TDefComputed, TDeclare, TDeclareComputed, TBlock}
use Rattle.hb_draft.specs.{Unfinished.forest_of, Words.with_word, Made.word_number}
use Rattle.hb_draft.specs.Whole.{hit, nodes, nodes_in_all, nodes_of_setup, nodes_of_scripts}
use Rattle.hb_grammar.specs.declared.{actions.Action.Action, symbols.Symbol.TheVariants.Action as A}
use Rattle.hb_grammar.specs.declared.actions.Action.TheVariants as a
use Rattle.hb_build.specs.declared.held.Spot.{Spot}
use Rattle.hb_build.specs.Said.{Said}
use Rattle.hb_build.specs.Pile.{Slot, Operand, Closed, Item, Argument, Own, Declaring, Word, Target, Called, OfClass, Named, Computed, Parameter, OfType, ParameterType, Body, items_on, below_items}
use Rattle.hb_build.specs.Pile.{arguments_on, below_arguments, parameters_on, below_parameters, types_on, below_types, is_full}
use Rattle.hb_build.specs.Acts.{Work, act, leaf, boolean, complete, closed, giving, typing, method_ty}
use Rattle.hb_parse.proofs.{SpareLemmas.setups_of, OwnLemmas.none}
use Rattle.hb_parse.proofs.HoldLemmas.{Holds, holds-fails_if, holds-known, holds-complete, on-operand, on-closed, on-own, on-declaring, on-name, on-target, on-called, on-class}
use Rattle.hb_parse.proofs.HoldLemmas.{on-type, on-block, on-body, on-setup, on-script, on-method}

-- ── how often a node lies in trees ──

abbrev pub nodes_on : ℕ → List Slot → ℕ
nodes_on k [] = 0
nodes_on k (Operand e ∷ pile) = nodes k e + nodes_on k pile
nodes_on k (Closed b ∷ pile) = nodes k b + nodes_on k pile
nodes_on k (Item e ∷ pile) = nodes k e + nodes_on k pile
nodes_on k (Argument e ∷ pile) = nodes k e + nodes_on k pile
nodes_on k (Computed c e ∷ pile) = nodes k e + nodes_on k pile
nodes_on k (_ ∷ pile) = nodes_on k pile

abbrev pub nodes_said : ℕ → Said → ℕ
nodes_said k said = nodes_of_setup k said.setup + nodes_of_scripts k said.scripts

module _ (k : ℕ) where
  nodes-more : (es : List Tree) (e : Tree) → nodes_in_all k (forest_of (es ++ e ∷ [])) ≡ nodes_in_all k (forest_of es) + nodes k e
  nodes-more [] e = omega arith
  nodes-more (x ∷ es) e =
      let h : nodes_in_all k (forest_of (es ++ e ∷ [])) ≡ nodes_in_all k (forest_of es) + nodes k e = nodes-more es e in
      omega (arith, h)

  scripts-more : (scripts : List (ℕ × Tree)) (x : ℕ) (b : Tree) → nodes_of_scripts k (scripts ++ (x, b) ∷ []) ≡ nodes_of_scripts k scripts + nodes k b
  scripts-more [] x b = omega arith
  scripts-more (s ∷ more) x b =
      let h : nodes_of_scripts k (more ++ (x, b) ∷ []) ≡ nodes_of_scripts k more + nodes k b = scripts-more more x b in
      omega (arith, h)

  nodes-items : (pile : List Slot) → nodes_on k pile ≡ nodes_in_all k (forest_of (items_on pile)) + nodes_on k (below_items pile)
  nodes-items (Item e ∷ pile) =
      let h : nodes_on k pile ≡ nodes_in_all k (forest_of (items_on pile)) + nodes_on k (below_items pile) = nodes-items pile in
      omega (arith, h, nodes-more (items_on pile) e)
  nodes-items [] = refl
  nodes-items (slot ∷ pile) = omega arith

  nodes-arguments : (pile : List Slot) → nodes_on k pile ≡ nodes_in_all k (forest_of (arguments_on pile)) + nodes_on k (below_arguments pile)
  nodes-arguments (Argument e ∷ pile) =
      let h : nodes_on k pile ≡ nodes_in_all k (forest_of (arguments_on pile)) + nodes_on k (below_arguments pile) = nodes-arguments pile in
      omega (arith, h, nodes-more (arguments_on pile) e)
  nodes-arguments [] = refl
  nodes-arguments (slot ∷ pile) = omega arith

  nodes-parameters : (pile : List Slot) → nodes_on k (below_parameters pile) ≡ nodes_on k pile
  nodes-parameters (Parameter x ∷ pile) = nodes-parameters pile
  nodes-parameters [] = refl
  nodes-parameters (_ ∷ pile) = refl

  nodes-types : (pile : List Slot) → nodes_on k (below_types pile) ≡ nodes_on k pile
  nodes-types (ParameterType y ∷ pile) = nodes-types pile
  nodes-types [] = refl
  nodes-types (_ ∷ pile) = refl

-- ── what holds on the way ──

-- each node of what is said so far lies in one of its trees, of the pile's, or elsewhere
abbrev pub IsReached : Said → (ℕ → ℕ) → List Slot → Type 0
IsReached said others pile = (k : ℕ) → k < length said.places → 1 ≤ others k + nodes_on k pile + nodes_said k said

abbrev pub Reached : Work → Type 0
Reached w = IsReached w.said none w.pile

-- other things lie on the pile
reached-same : (said : Said) (others besides : ℕ → ℕ) (old new : List Slot) → IsReached said others old → ((k : ℕ) → others k + nodes_on k old ≤ besides k + nodes_on k new) → IsReached said besides new
reached-same said others besides old new h more k within = omega (arith, h k within, more k)

-- one node more, which has those that are taken
reached-node : (said : Said) (others : ℕ → ℕ) (old new : List Slot) (place : ℕ × ℕ) → IsReached said others old
    → ((k : ℕ) → hit k (length said.places) + (others k + nodes_on k old) ≤ nodes_on k new) → IsReached (record said { places = said.places ++ place ∷ [] }) none new
reached-node said others old new place h more k within = elim (cases_lt k (length said.places)) [
  | inl before ↦ omega (arith, h k before, more k)
  | inr behind ↦ (
      let same : k ≡ length said.places = omega (arith, behind, within, length-append said.places (place ∷ [])) in
      let one : hit k (length said.places) ≡ 1 = rw (eq-eqb k (length said.places) same) refl in
      omega (arith, one, more k)
      )
]

put-reached : (v : Work) (others : ℕ → ℕ) (old rest : List Slot) (q : Spot) (make : ℕ → Tree) (slot : Tree → Slot) → IsReached v.said others old
    → ((k : ℕ) → hit k (length v.said.places) + (others k + nodes_on k old) ≤ nodes_on k (slot (make (length v.said.places)) ∷ rest)) → Holds Reached (complete q make slot rest v)
put-reached v others old rest q make slot h more =
    holds-complete Reached q make slot rest v (reached-node v.said others old (slot (make (length v.said.places)) ∷ rest) (q.line, q.column) h more)

leaf-reached : (p : Spot) (make : ℕ → Tree) (v : Work) → Reached v → ((k : ℕ) → hit k (length v.said.places) ≤ nodes k (make (length v.said.places))) → Holds Reached (leaf p make v)
leaf-reached p make v h more = holds-fails_if Reached (is_full v.pile) _ _ (put-reached v none v.pile v.pile p make Operand h (λ k. omega (arith, more k)))

reached-setup : (said : Said) (b : Tree) (rest : List Slot) → said.setup ≡ None → IsReached said none (Closed b ∷ rest) → IsReached (record said { setup = Some b }) none rest
reached-setup said b rest empty h k within = omega (arith, h k within, ap (nodes_of_setup k) empty)

reached-script : (said : Said) (x : ℕ) (b : Tree) (rest : List Slot) → IsReached said none (Closed b ∷ rest) → IsReached (record said { scripts = said.scripts ++ (x, b) ∷ [] }) none rest
reached-script said x b rest h k within = omega (arith, h k within, scripts-more k said.scripts x b)

-- ── the actions ──

module _ (p : Spot) (bytes : List ℕ) (w : Work) (h : Reached w) where
  abbrev On : List Slot → Type 0
  On = IsReached w.said none

  pub acts-reached : (done : Action) → (1 ≤ setups_of (A done) → w.said.setup ≡ None) → Holds Reached (act done p bytes w)
  acts-reached a.DeclareClass one = search (holds-fails_if, h)
  acts-reached a.EndSetup one = on-closed Reached On w.pile _ h (λ b r h. on-setup Reached (λ r. On (Closed b ∷ r)) r _ h (λ r h. reached-setup w.said b r (one (omega arith)) h))
  acts-reached a.BeginScript one = search (holds-fails_if, h)
  acts-reached a.EndScript one =
      on-closed Reached On w.pile _ h (λ b r h. on-script Reached (λ r. On (Closed b ∷ r)) r _ h (λ x r h. let reached = reached-script w.said x b r h in search (holds-fails_if, reached)))
  acts-reached a.EndBlock one =
      let items : ℕ → ℕ = λ k. nodes_in_all k (forest_of (items_on w.pile)) in
      on-block Reached (IsReached w.said items) (below_items w.pile) _ (reached-same w.said none items w.pile (below_items w.pile) h (λ k. omega (arith, nodes-items k w.pile)))
      (λ r h. put-reached w items r r p (λ id. TBlock id (forest_of (items_on w.pile))) Closed h (λ k. omega arith))
  acts-reached a.AddItem one = on-operand Reached On w.pile _ h (λ e r h. h)
  acts-reached a.Open one = search (holds-fails_if, h)
  acts-reached a.OpenWord one = search (holds-fails_if, h)
  acts-reached a.OpenAssign one = on-name Reached On w.pile _ h (λ x q r h. search (holds-fails_if, h))
  acts-reached a.HoldStr one = search (holds-fails_if, h)
  acts-reached a.HoldDeclare one = search (holds-fails_if, h)
  acts-reached a.HoldName one = search (holds-fails_if, h)
  acts-reached a.HoldCall one = search (holds-fails_if, h)
  acts-reached a.HoldClass one = search (holds-known, holds-fails_if, h)
  acts-reached a.NameMethod one = on-class Reached On w.pile _ h (λ c q r h. h)
  acts-reached a.ComputeMethod one = on-operand Reached On w.pile _ h (λ e r h. on-class Reached (λ r. On (Operand e ∷ r)) r _ h (λ c q r h. h))
  acts-reached a.HoldParameter one = search (holds-fails_if, h)
  acts-reached (a.HoldType (ty.Class c)) one = tt
  acts-reached a.HoldClassType one = search (holds-known, h)
  acts-reached a.AddParameterType one = on-type Reached On w.pile _ h (λ y r h. search (holds-fails_if, h))
  acts-reached a.AddArgument one = on-operand Reached On w.pile _ h (λ e r h. search (holds-fails_if, h))
  acts-reached a.PutNil one = leaf-reached p TNil w h (λ k. omega arith)
  acts-reached (a.PutBoolean true) one = leaf-reached p (boolean true) w h (λ k. omega arith)
  acts-reached (a.PutBoolean false) one = leaf-reached p (boolean false) w h (λ k. omega arith)
  acts-reached a.PutSelf one = leaf-reached p TSelf w h (λ k. omega arith)
  acts-reached a.PutNumber one = leaf-reached p (λ id. TInt id (pos (value_of_number bytes))) w h (λ k. omega arith)
  acts-reached a.PutText one = leaf-reached p (λ id. TText id (word_number w.said.texts (value_of_text bytes)))
      (record w { said = record w.said { texts = with_word w.said.texts (value_of_text bytes) } }) h (λ k. omega arith)
  acts-reached a.PutVariable one = on-name Reached On w.pile _ h (λ x q r h. put-reached w none (Word x q ∷ r) r q (λ id. TVar id x) Operand h (λ k. omega arith))
  acts-reached a.PutNew one = on-class Reached On w.pile _ h (λ c q r h. put-reached w none (OfClass c q ∷ r) r q (λ id. TNew id c) Operand h (λ k. omega arith))
  acts-reached a.PutAssign one = on-operand Reached On w.pile _ h (λ e r h. on-target Reached (λ r. On (Operand e ∷ r)) r _ h
      (λ x q r h. put-reached (closed w) none (Operand e ∷ Target x q ∷ r) r q (λ id. TAssign id x e) Operand h (λ k. omega arith)))
  acts-reached a.PutPrint one = on-operand Reached On w.pile _ h (λ e r h. on-own Reached (λ r. On (Operand e ∷ r)) r _ h
      (λ q r h. put-reached (closed w) none (Operand e ∷ Own q ∷ r) r q (λ id. TPrint id e) Operand h (λ k. omega arith)))
  acts-reached a.PutStr one = on-operand Reached On w.pile _ h (λ e r h. on-own Reached (λ r. On (Operand e ∷ r)) r _ h
      (λ q r h. put-reached w none (Operand e ∷ Own q ∷ r) r q (λ id. TToStr id e) Operand h (λ k. omega arith)))
  acts-reached a.PutNot one = on-operand Reached On w.pile _ h (λ e r h. on-own Reached (λ r. On (Operand e ∷ r)) r _ h
      (λ q r h. put-reached (closed w) none (Operand e ∷ Own q ∷ r) r q (λ id. TNot id e) Operand h (λ k. omega arith)))
  acts-reached (a.PutBinary op) one = on-operand Reached On w.pile _ h (λ e2 r h. on-own Reached (λ r. On (Operand e2 ∷ r)) r _ h (λ q r h.
      on-operand Reached (λ r. On (Operand e2 ∷ Own q ∷ r)) r _ h
      (λ e1 r h. put-reached w none (Operand e2 ∷ Own q ∷ Operand e1 ∷ r) r q (λ id. TBinary id op e1 e2) Operand h (λ k. omega arith))))
  acts-reached a.PutIf one = on-closed Reached On w.pile _ h (λ b2 r h. on-closed Reached (λ r. On (Closed b2 ∷ r)) r _ h (λ b1 r h.
      on-operand Reached (λ r. On (Closed b2 ∷ Closed b1 ∷ r)) r _ h (λ c r h. on-own Reached (λ r. On (Closed b2 ∷ Closed b1 ∷ Operand c ∷ r)) r _ h
      (λ q r h. put-reached (closed w) none (Closed b2 ∷ Closed b1 ∷ Operand c ∷ Own q ∷ r) r q (λ id. TIf id c b1 b2) Operand h (λ k. omega arith)))))
  acts-reached a.PutWhile one = on-closed Reached On w.pile _ h (λ b r h. on-operand Reached (λ r. On (Closed b ∷ r)) r _ h (λ c r h.
      on-own Reached (λ r. On (Closed b ∷ Operand c ∷ r)) r _ h
      (λ q r h. put-reached (closed w) none (Closed b ∷ Operand c ∷ Own q ∷ r) r q (λ id. TWhile id c b) Operand h (λ k. omega arith))))
  acts-reached a.PutCall one =
      let arguments : ℕ → ℕ = λ k. nodes_in_all k (forest_of (arguments_on w.pile)) in
      on-called Reached (IsReached w.said arguments) (below_arguments w.pile) _ (reached-same w.said none arguments w.pile (below_arguments w.pile) h (λ k. omega (arith, nodes-arguments k w.pile)))
      (λ m q r h. on-operand Reached (λ r. IsReached w.said arguments (Called m q ∷ r)) r _ h
      (λ e r h. put-reached w arguments (Called m q ∷ Operand e ∷ r) r q (λ id. TCall id e m (forest_of (arguments_on w.pile))) Operand h (λ k. omega arith)))
  acts-reached a.PutDef one = on-closed Reached On w.pile _ h (λ b r h. on-body Reached (λ r. On (Closed b ∷ r)) r _ h (λ r h.
      let given = giving (parameters_on r) b (closed w) in
      on-method Reached (λ r. On (Closed b ∷ r)) (below_parameters r) _ _
      (reached-same w.said none none (Closed b ∷ Body ∷ r) (Closed b ∷ below_parameters r) h (λ k. omega (arith, nodes-parameters k r)))
      (λ c m r h. on-own Reached (λ r. On (Closed b ∷ Named c m ∷ r)) r _ h
      (λ q r h. put-reached given none (Closed b ∷ Named c m ∷ Own q ∷ r) r q (λ id. TDef id c m (length w.said.bodies) b) Operand h (λ k. omega arith)))
      (λ c e r h. on-own Reached (λ r. On (Closed b ∷ Computed c e ∷ r)) r _ h
      (λ q r h. put-reached given none (Closed b ∷ Computed c e ∷ Own q ∷ r) r q (λ id. TDefComputed id c e (length w.said.bodies) b) Operand h (λ k. omega arith)))))
  acts-reached (a.PutDeclare asks) one = on-type Reached On w.pile _ h (λ y r h.
      let typed = typing (method_ty (types_on r) y) w in
      on-method Reached On (below_types r) _ _
      (reached-same w.said none none (OfType y ∷ r) (below_types r) h (λ k. omega (arith, nodes-types k r)))
      (λ c m r h. on-declaring Reached (λ r. On (Named c m ∷ r)) r _ h
      (λ q r h. put-reached typed none (Named c m ∷ Declaring q ∷ r) r q (λ id. TDeclare id c m (length w.said.types) asks) Operand h (λ k. omega arith)))
      (λ c e r h. on-declaring Reached (λ r. On (Computed c e ∷ r)) r _ h
      (λ q r h. put-reached typed none (Computed c e ∷ Declaring q ∷ r) r q (λ id. TDeclareComputed id c e (length w.said.types) asks) Operand h (λ k. omega arith))))
  acts-reached _ _ = h
