-- Each action keeps it that the own tokens of nodes other than blocks begin at different bytes.
use Rattle.std.proofs.Common.{◌≡◌, ℕ, pos, ◌+◌, ◌≤◌, List, [], ◌∷◌, ◌++◌, true, cond, Some, None, length, refl, ap, arith}
use Rattle.hb_lex.specs.Literal.{value_of_number, value_of_text}
use Rattle.hb_types.specs.declared.types.Ty.TheVariants as ty
use Rattle.hb_tree.specs.Tree.{Tree, TNil, TSelf, TInt, TText, TVar, TNew, TAssign, TPrint, TToStr, TNot, TBinary, TIf, TWhile, TCall, TDef, TDefComputed, TDeclare, TDeclareComputed, TBlock}
use Rattle.hb_grammar.specs.declared.{actions.Action.Action, symbols.Symbol.TheVariants.Action as A}
use Rattle.hb_grammar.specs.declared.actions.Action.TheVariants as a
use Rattle.hb_build.specs.declared.held.Spot.{Spot}
use Rattle.hb_build.specs.Said.{Said}
use Rattle.hb_build.specs.Pile.{Slot, Operand, Closed, Own, Declaring, Word, Target, Called, OfClass, Named, Computed, OfType, Body, items_on, below_items, arguments_on}
use Rattle.hb_build.specs.Pile.{below_arguments, parameters_on, below_parameters, types_on, below_types, is_full}
use Rattle.hb_build.specs.Acts.{Work, act, leaf, boolean, complete, closed, number, giving, typing, method_ty}
use Rattle.hb_parse.proofs.SpareLemmas.{uses, setups_of}
use Rattle.hb_parse.proofs.BlockCounts.{hit, hit-same, blocks, blocks_in_all, blocks_of_setup, scripts-more}
use Rattle.hb_parse.proofs.ApartLemmas.{Apart, IsSpot, apart-same, apart-node, apart-block, apart-used}
use Rattle.hb_parse.proofs.LaidLemmas.{IsLaid, AreSpots, coming, blocks_on, blocks_said, coming-items, coming-arguments, coming-parameters, coming-types, spots-items}
use Rattle.hb_parse.proofs.LaidLemmas.{spots-arguments, spots-parameters, spots-types, blocks-items, blocks-arguments, blocks-parameters, blocks-types}
use Rattle.hb_parse.proofs.HoldLemmas.{Holds, holds-fails_if, holds-known, holds-complete, on-operand, on-closed, on-own, on-declaring, on-name, on-target, on-called, on-class}
use Rattle.hb_parse.proofs.HoldLemmas.{on-type, on-block, on-body, on-setup, on-script, on-method}
use Rattle.hb_draft.specs.{Unfinished.forest_of, Words.with_word, Made.word_number}

abbrev pub none : ℕ → ℕ
none k = 0

-- the nodes so far and those to come are apart
abbrev pub AreApart : List ℕ → ℕ → Work → Type 0
AreApart text bound w = IsLaid text bound w.said none w.pile

-- an action makes the token at p a node's own, or not
abbrev pub bound_after : Action → Spot → ℕ → ℕ
bound_after done p bound = cond (uses done) (p.at + 1) bound

module _ (text : List ℕ) (bound : ℕ) where
  -- ── steps ──

  abbrev blocks_with : Said → (ℕ → ℕ) → List Slot → ℕ → ℕ
  blocks_with said others pile = λ k. others k + blocks_on k pile + blocks_said k said

  -- other things lie on the pile
  laid-same : (said : Said) (others : ℕ → ℕ) (old new : List Slot) → IsLaid text bound said others old → AreSpots text new
      → ((k : ℕ) → others k + blocks_on k old ≤ blocks_on k new) → ((a : ℕ) → coming a new ≤ coming a old) → IsLaid text bound said none new
  laid-same said others old new h spots more fewer = (
    apart-same text bound said.places (blocks_with said others old) (blocks_with said none new) (λ a. coming a old) (λ a. coming a new) (λ k. omega (arith, more k)) h.0 fewer,
    spots,
  )

  -- other things lie below those that are taken
  laid-below : (said : Said) (others : ℕ → ℕ) (old new : List Slot) → IsLaid text bound said none old → AreSpots text new
      → ((k : ℕ) → blocks_on k old ≡ others k + blocks_on k new) → ((a : ℕ) → coming a new ≡ coming a old) → IsLaid text bound said others new
  laid-below said others old new h spots more fewer = (
    apart-same text bound said.places (blocks_with said none old) (blocks_with said others new) (λ a. coming a old) (λ a. coming a new)
        (λ k. omega (arith, more k)) h.0 (λ a. omega (arith, fewer a)),
    spots,
  )

  -- a node that was to come
  laid-node : (said : Said) (others : ℕ → ℕ) (old rest : List Slot) (q : Spot) (node : Tree) → IsLaid text bound said others old → IsSpot text q → AreSpots text rest
      → ((k : ℕ) → others k + blocks_on k old ≤ blocks k node + blocks_on k rest) → ((a : ℕ) → hit a q.at + coming a rest ≤ coming a old)
      → IsLaid text bound (record said { places = said.places ++ (q.line, q.column) ∷ [] }) none (Operand node ∷ rest)
  laid-node said others old rest q node h is spots more fewer = (
    apart-node text bound said.places (blocks_with said others old) (blocks_with said none (Operand node ∷ rest)) (λ a. coming a old) (λ a. coming a rest)
        (λ k. omega (arith, more k)) h.0 q is fewer,
    spots,
  )

  put-apart : (v : Work) (others : ℕ → ℕ) (old rest : List Slot) (q : Spot) (make : ℕ → Tree) → IsLaid text bound v.said others old → IsSpot text q → AreSpots text rest
      → ((id k : ℕ) → others k + blocks_on k old ≤ blocks k (make id) + blocks_on k rest) → ((a : ℕ) → hit a q.at + coming a rest ≤ coming a old)
      → Holds (AreApart text bound) (complete q make Operand rest v)
  put-apart v others old rest q make h is spots more fewer =
      holds-complete (AreApart text bound) q make Operand rest v
      (laid-node v.said others old rest q (make (length v.said.places)) h is spots (more (length v.said.places)) fewer)

  -- a block of these items
  laid-block : (said : Said) (items : List Tree) (rest : List Slot) (place : ℕ × ℕ) → IsLaid text bound said (λ k. blocks_in_all k (forest_of items)) rest
      → IsLaid text bound (record said { places = said.places ++ place ∷ [] }) none (Closed (TBlock (length said.places) (forest_of items)) ∷ rest)
  laid-block said items rest place h = (
    apart-block text bound said.places (blocks_with said (λ k. blocks_in_all k (forest_of items)) rest)
        (blocks_with said none (Closed (TBlock (length said.places) (forest_of items)) ∷ rest)) (λ a. coming a rest) (λ a. coming a rest)
        (λ k. omega arith) h.0 place (omega (arith, hit-same (length said.places))) (λ a. omega arith),
    h.1,
  )

  -- a block that is the setup's or a script's
  laid-setup : (said : Said) (b : Tree) (rest : List Slot) → said.setup ≡ None → IsLaid text bound said none (Closed b ∷ rest) → IsLaid text bound (record said { setup = Some b }) none rest
  laid-setup said b rest empty h = (
    apart-same text bound said.places (blocks_with said none (Closed b ∷ rest)) (blocks_with (record said { setup = Some b }) none rest) (λ a. coming a rest) (λ a. coming a rest)
        (λ k. omega (arith, ap (blocks_of_setup k) empty)) h.0 (λ a. omega arith),
    h.1,
  )

  laid-script : (said : Said) (x : ℕ) (b : Tree) (rest : List Slot) → IsLaid text bound said none (Closed b ∷ rest) → IsLaid text bound (record said { scripts = said.scripts ++ (x, b) ∷ [] }) none rest
  laid-script said x b rest h = (
    apart-same text bound said.places (blocks_with said none (Closed b ∷ rest)) (blocks_with (record said { scripts = said.scripts ++ (x, b) ∷ [] }) none rest) (λ a. coming a rest) (λ a. coming a rest)
        (λ k. omega (arith, scripts-more k said.scripts x b)) h.0 (λ a. omega arith),
    h.1,
  )

  -- ── the actions ──

  module _ (p : Spot) (is : IsSpot text p) where
    -- the token at p is used
    abbrev Used : Work → Type 0
    Used = AreApart text (p.at + 1)

    leaf-apart : (make : ℕ → Tree) (v : Work) → AreApart text bound v → bound ≤ p.at → Holds Used (leaf p make v)
    leaf-apart make v h free =
        let blocks_now = blocks_with v.said none v.pile in
        let node = make (length v.said.places) in
        holds-fails_if Used (is_full v.pile) _ _
        (holds-complete Used p make Operand v.pile v (
          apart-node text (p.at + 1) v.said.places blocks_now (blocks_with v.said none (Operand node ∷ v.pile)) (λ a. hit a p.at + coming a v.pile) (λ a. coming a v.pile)
              (λ k. omega arith) (apart-used text bound v.said.places blocks_now (λ a. coming a v.pile) p.at h.0 free) p is (λ a. omega arith),
          h.1,
        ))

    -- the token at p is that of a node to come
    laid-used : (said : Said) (pile : List Slot) → IsLaid text bound said none pile → bound ≤ p.at
        → Apart text (p.at + 1) said.places (blocks_with said none pile) (λ a. hit a p.at + coming a pile) × (IsSpot text p × AreSpots text pile)
    laid-used said pile h free = (apart-used text bound said.places (blocks_with said none pile) (λ a. coming a pile) p.at h.0 free, (is, h.1))

    module _ (bytes : List ℕ) (w : Work) (h : AreApart text bound w) where
      abbrev Kept : Work → Type 0
      Kept = AreApart text bound

      abbrev On : List Slot → Type 0
      On = IsLaid text bound w.said none

      pub acts-apart : (done : Action) → (uses done ≡ true → bound ≤ p.at) → (1 ≤ setups_of (A done) → w.said.setup ≡ None)
          → Holds (AreApart text (bound_after done p bound)) (act done p bytes w)
      acts-apart a.DeclareClass free one = search (holds-fails_if, h)
      acts-apart a.EndSetup free one =
          on-closed Kept On w.pile _ h (λ b r h. on-setup Kept (λ r. On (Closed b ∷ r)) r _ h (λ r h. laid-setup w.said b r (one (omega arith)) h))
      acts-apart a.BeginScript free one = search (holds-fails_if, h)
      acts-apart a.EndScript free one =
          on-closed Kept On w.pile _ h (λ b r h. on-script Kept (λ r. On (Closed b ∷ r)) r _ h (λ x r h. let laid = laid-script w.said x b r h in search (holds-fails_if, laid)))
      acts-apart a.EndBlock free one =
          on-block Kept (IsLaid text bound w.said (λ k. blocks_in_all k (forest_of (items_on w.pile)))) (below_items w.pile) _
          (laid-below w.said (λ k. blocks_in_all k (forest_of (items_on w.pile))) w.pile (below_items w.pile) h (spots-items text w.pile h.1) (λ k. blocks-items k w.pile) (λ a. coming-items a w.pile))
          (λ r h. holds-complete Kept p (λ id. TBlock id (forest_of (items_on w.pile))) Closed r w (laid-block w.said (items_on w.pile) r (p.line, p.column) h))
      acts-apart a.AddItem free one = on-operand Kept On w.pile _ h (λ e r h. h)
      acts-apart a.Open free one = search (holds-fails_if, h)
      acts-apart a.OpenWord free one = let used = laid-used w.said w.pile h (free refl) in search (holds-fails_if, used)
      acts-apart a.OpenAssign free one = on-name Used On w.pile _ h (λ x q r h.
          let used = laid-used w.said r (laid-same w.said none (Word x q ∷ r) r h h.1.1 (λ k. omega arith) (λ a. omega arith)) (free refl) in
          search (holds-fails_if, used))
      acts-apart a.HoldOperator free one = laid-used w.said w.pile h (free refl)
      acts-apart a.HoldStr free one = let used = laid-used w.said w.pile h (free refl) in search (holds-fails_if, used)
      acts-apart a.HoldDeclare free one = let used = laid-used w.said w.pile h (free refl) in search (holds-fails_if, used)
      acts-apart a.HoldName free one = let used = laid-used w.said w.pile h (free refl) in search (holds-fails_if, used)
      acts-apart a.HoldCall free one = let used = laid-used w.said w.pile h (free refl) in search (holds-fails_if, used)
      acts-apart a.HoldClass free one = let used = laid-used w.said w.pile h (free refl) in search (holds-known, holds-fails_if, used)
      acts-apart a.NameMethod free one = on-class Kept On w.pile _ h (λ c q r h. laid-same w.said none (OfClass c q ∷ r) (Named c (number bytes w) ∷ r) h h.1.1 (λ k. omega arith) (λ a. omega arith))
      acts-apart a.ComputeMethod free one = on-operand Kept On w.pile _ h (λ e r h. on-class Kept (λ r. On (Operand e ∷ r)) r _ h (λ c q r h.
          laid-same w.said none (Operand e ∷ OfClass c q ∷ r) (Computed c e ∷ r) h h.1.1 (λ k. omega arith) (λ a. omega arith)))
      acts-apart a.HoldParameter free one = search (holds-fails_if, h)
      acts-apart (a.HoldType (ty.Class c)) free one = tt
      acts-apart a.HoldClassType free one = search (holds-known, h)
      acts-apart a.AddParameterType free one = on-type Kept On w.pile _ h (λ y r h. search (holds-fails_if, h))
      acts-apart a.AddArgument free one = on-operand Kept On w.pile _ h (λ e r h. search (holds-fails_if, h))
      acts-apart a.PutNil free one = leaf-apart TNil w h (free refl)
      acts-apart (a.PutBoolean b) free one = leaf-apart (boolean b) w h (free refl)
      acts-apart a.PutSelf free one = leaf-apart TSelf w h (free refl)
      acts-apart a.PutNumber free one = leaf-apart (λ id. TInt id (pos (value_of_number bytes))) w h (free refl)
      acts-apart a.PutText free one = leaf-apart (λ id. TText id (word_number w.said.texts (value_of_text bytes)))
          (record w { said = record w.said { texts = with_word w.said.texts (value_of_text bytes) } }) h (free refl)
      acts-apart a.PutVariable free one = on-name Kept On w.pile _ h (λ x q r h. put-apart w none (Word x q ∷ r) r q (λ id. TVar id x) h h.1.0 h.1.1 (λ id k. omega arith) (λ a. omega arith))
      acts-apart a.PutNew free one = on-class Kept On w.pile _ h (λ c q r h. put-apart w none (OfClass c q ∷ r) r q (λ id. TNew id c) h h.1.0 h.1.1 (λ id k. omega arith) (λ a. omega arith))
      acts-apart a.PutAssign free one = on-operand Kept On w.pile _ h
          (λ e r h. on-target Kept (λ r. On (Operand e ∷ r)) r _ h
          (λ x q r h. put-apart (closed w) none (Operand e ∷ Target x q ∷ r) r q (λ id. TAssign id x e) h h.1.0 h.1.1 (λ id k. omega arith) (λ a. omega arith)))
      acts-apart a.PutPrint free one = on-operand Kept On w.pile _ h
          (λ e r h. on-own Kept (λ r. On (Operand e ∷ r)) r _ h
          (λ q r h. put-apart (closed w) none (Operand e ∷ Own q ∷ r) r q (λ id. TPrint id e) h h.1.0 h.1.1 (λ id k. omega arith) (λ a. omega arith)))
      acts-apart a.PutStr free one = on-operand Kept On w.pile _ h
          (λ e r h. on-own Kept (λ r. On (Operand e ∷ r)) r _ h (λ q r h. put-apart w none (Operand e ∷ Own q ∷ r) r q (λ id. TToStr id e) h h.1.0 h.1.1 (λ id k. omega arith) (λ a. omega arith)))
      acts-apart a.PutNot free one = on-operand Kept On w.pile _ h
          (λ e r h. on-own Kept (λ r. On (Operand e ∷ r)) r _ h
          (λ q r h. put-apart (closed w) none (Operand e ∷ Own q ∷ r) r q (λ id. TNot id e) h h.1.0 h.1.1 (λ id k. omega arith) (λ a. omega arith)))
      acts-apart (a.PutBinary op) free one = on-operand Kept On w.pile _ h (λ e2 r h. on-own Kept (λ r. On (Operand e2 ∷ r)) r _ h (λ q r h.
          on-operand Kept (λ r. On (Operand e2 ∷ Own q ∷ r)) r _ h
          (λ e1 r h. put-apart w none (Operand e2 ∷ Own q ∷ Operand e1 ∷ r) r q (λ id. TBinary id op e1 e2) h h.1.0 h.1.1 (λ id k. omega arith) (λ a. omega arith))))
      acts-apart a.PutIf free one = on-closed Kept On w.pile _ h (λ b2 r h. on-closed Kept (λ r. On (Closed b2 ∷ r)) r _ h (λ b1 r h.
          on-operand Kept (λ r. On (Closed b2 ∷ Closed b1 ∷ r)) r _ h (λ c r h. on-own Kept (λ r. On (Closed b2 ∷ Closed b1 ∷ Operand c ∷ r)) r _ h (λ q r h.
          put-apart (closed w) none (Closed b2 ∷ Closed b1 ∷ Operand c ∷ Own q ∷ r) r q (λ id. TIf id c b1 b2) h h.1.0 h.1.1 (λ id k. omega arith) (λ a. omega arith)))))
      acts-apart a.PutWhile free one = on-closed Kept On w.pile _ h (λ b r h. on-operand Kept (λ r. On (Closed b ∷ r)) r _ h (λ c r h.
          on-own Kept (λ r. On (Closed b ∷ Operand c ∷ r)) r _ h (λ q r h. put-apart (closed w) none (Closed b ∷ Operand c ∷ Own q ∷ r) r q (λ id. TWhile id c b) h h.1.0 h.1.1 (λ id k. omega arith) (λ a. omega arith))))
      acts-apart a.PutCall free one =
          let in_arguments : ℕ → ℕ = λ k. blocks_in_all k (forest_of (arguments_on w.pile)) in
          on-called Kept (IsLaid text bound w.said in_arguments) (below_arguments w.pile) _
          (laid-below w.said in_arguments w.pile (below_arguments w.pile) h (spots-arguments text w.pile h.1) (λ k. blocks-arguments k w.pile) (λ a. coming-arguments a w.pile))
          (λ m q r h. on-operand Kept (λ r. IsLaid text bound w.said in_arguments (Called m q ∷ r)) r _ h
          (λ e r h. put-apart w in_arguments (Called m q ∷ Operand e ∷ r) r q (λ id. TCall id e m (forest_of (arguments_on w.pile))) h h.1.0 h.1.1 (λ id k. omega arith) (λ a. omega arith)))
      acts-apart a.PutDef free one = on-closed Kept On w.pile _ h (λ b r h. on-body Kept (λ r. On (Closed b ∷ r)) r _ h (λ r h.
          let given = giving (parameters_on r) b (closed w) in
          on-method Kept (λ r. On (Closed b ∷ r)) (below_parameters r) _ _
          (laid-same w.said none (Closed b ∷ Body ∷ r) (Closed b ∷ below_parameters r) h (spots-parameters text r h.1) (λ k. omega (arith, blocks-parameters k r)) (λ a. omega (arith, coming-parameters a r)))
          (λ c m r h. on-own Kept (λ r. On (Closed b ∷ Named c m ∷ r)) r _ h
          (λ q r h. put-apart given none (Closed b ∷ Named c m ∷ Own q ∷ r) r q (λ id. TDef id c m (length w.said.bodies) b) h h.1.0 h.1.1 (λ id k. omega arith) (λ a. omega arith)))
          (λ c e r h. on-own Kept (λ r. On (Closed b ∷ Computed c e ∷ r)) r _ h
          (λ q r h. put-apart given none (Closed b ∷ Computed c e ∷ Own q ∷ r) r q (λ id. TDefComputed id c e (length w.said.bodies) b) h h.1.0 h.1.1 (λ id k. omega arith)
          (λ a. omega arith)))))
      acts-apart (a.PutDeclare asks) free one = on-type Kept On w.pile _ h (λ y r h.
          let typed = typing (method_ty (types_on r) y) w in
          on-method Kept On (below_types r) _ _
          (laid-same w.said none (OfType y ∷ r) (below_types r) h (spots-types text r h.1) (λ k. omega (arith, blocks-types k r)) (λ a. omega (arith, coming-types a r)))
          (λ c m r h. on-declaring Kept (λ r. On (Named c m ∷ r)) r _ h
          (λ q r h. put-apart typed none (Named c m ∷ Declaring q ∷ r) r q (λ id. TDeclare id c m (length w.said.types) asks) h h.1.0 h.1.1 (λ id k. omega arith) (λ a. omega arith)))
          (λ c e r h. on-declaring Kept (λ r. On (Computed c e ∷ r)) r _ h
          (λ q r h. put-apart typed none (Computed c e ∷ Declaring q ∷ r) r q (λ id. TDeclareComputed id c e (length w.said.types) asks) h h.1.0 h.1.1 (λ id k. omega arith)
          (λ a. omega arith))))
      acts-apart _ _ _ = h
