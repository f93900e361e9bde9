-- What lies on a pile: tokens of nodes to come, and blocks in its trees.
use Rattle.std.proofs.Common.{◌≡◌, ℕ, ◌+◌, List, [], ◌∷◌, refl, arith}
use Rattle.hb_draft.specs.Unfinished.{forest_of}
use Rattle.hb_build.specs.Said.{Said}
use Rattle.hb_build.specs.Pile.{Slot, Operand, Closed, Item, Argument, Own, Declaring, Word, Target, Called, OfClass, Computed, Parameter, ParameterType, items_on, below_items}
use Rattle.hb_build.specs.Pile.{arguments_on, below_arguments, below_parameters, below_types}
use Rattle.hb_parse.proofs.BlockCounts.{hit, blocks, blocks_in_all, blocks-more, blocks_of_setup, blocks_of_scripts}
use Rattle.hb_parse.proofs.ApartLemmas.{Apart, IsSpot}

-- how many nodes to come have a token that begins here
abbrev pub coming : ℕ → List Slot → ℕ
coming a [] = 0
coming a (Own p ∷ pile) = hit a p.at + coming a pile
coming a (Declaring p ∷ pile) = hit a p.at + coming a pile
coming a (Word x p ∷ pile) = hit a p.at + coming a pile
coming a (Target x p ∷ pile) = hit a p.at + coming a pile
coming a (Called m p ∷ pile) = hit a p.at + coming a pile
coming a (OfClass c p ∷ pile) = hit a p.at + coming a pile
coming a (_ ∷ pile) = coming a pile

-- each of their tokens stands in the text, at its line and column
abbrev pub AreSpots : List ℕ → List Slot → Type 0
AreSpots text [] = Unit {0}
AreSpots text (Own p ∷ pile) = IsSpot text p × AreSpots text pile
AreSpots text (Declaring p ∷ pile) = IsSpot text p × AreSpots text pile
AreSpots text (Word x p ∷ pile) = IsSpot text p × AreSpots text pile
AreSpots text (Target x p ∷ pile) = IsSpot text p × AreSpots text pile
AreSpots text (Called m p ∷ pile) = IsSpot text p × AreSpots text pile
AreSpots text (OfClass c p ∷ pile) = IsSpot text p × AreSpots text pile
AreSpots text (_ ∷ pile) = AreSpots text pile

-- how often the block of this number lies in a tree of the pile
abbrev pub blocks_on : ℕ → List Slot → ℕ
blocks_on k [] = 0
blocks_on k (Operand e ∷ pile) = blocks k e + blocks_on k pile
blocks_on k (Closed b ∷ pile) = blocks k b + blocks_on k pile
blocks_on k (Item e ∷ pile) = blocks k e + blocks_on k pile
blocks_on k (Argument e ∷ pile) = blocks k e + blocks_on k pile
blocks_on k (Computed c e ∷ pile) = blocks k e + blocks_on k pile
blocks_on k (_ ∷ pile) = blocks_on k pile

-- and in one of the setup or of a script
abbrev pub blocks_said : ℕ → Said → ℕ
blocks_said k said = blocks_of_setup k said.setup + blocks_of_scripts k said.scripts

-- The nodes of what is said so far and those to come are apart, where these blocks lie elsewhere.
abbrev pub IsLaid : List ℕ → ℕ → Said → (ℕ → ℕ) → List Slot → Type 0
IsLaid text bound said others pile = Apart text bound said.places (λ k. others k + blocks_on k pile + blocks_said k said) (λ a. coming a pile) × AreSpots text pile

-- ── below the items of a block, the arguments of a call, the parameters of a method or their types ──

pub coming-items : (a : ℕ) (pile : List Slot) → coming a (below_items pile) ≡ coming a pile
coming-items a (Item e ∷ pile) = coming-items a pile
coming-items a [] = refl
coming-items a (_ ∷ pile) = refl

pub coming-arguments : (a : ℕ) (pile : List Slot) → coming a (below_arguments pile) ≡ coming a pile
coming-arguments a (Argument e ∷ pile) = coming-arguments a pile
coming-arguments a [] = refl
coming-arguments a (_ ∷ pile) = refl

pub coming-parameters : (a : ℕ) (pile : List Slot) → coming a (below_parameters pile) ≡ coming a pile
coming-parameters a (Parameter x ∷ pile) = coming-parameters a pile
coming-parameters a [] = refl
coming-parameters a (_ ∷ pile) = refl

pub coming-types : (a : ℕ) (pile : List Slot) → coming a (below_types pile) ≡ coming a pile
coming-types a (ParameterType y ∷ pile) = coming-types a pile
coming-types a [] = refl
coming-types a (_ ∷ pile) = refl

module _ (text : List ℕ) where
  pub spots-items : (pile : List Slot) → AreSpots text pile → AreSpots text (below_items pile)
  spots-items (Item e ∷ pile) h = spots-items pile h
  spots-items [] h = h
  spots-items (_ ∷ pile) h = h

  pub spots-arguments : (pile : List Slot) → AreSpots text pile → AreSpots text (below_arguments pile)
  spots-arguments (Argument e ∷ pile) h = spots-arguments pile h
  spots-arguments [] h = h
  spots-arguments (_ ∷ pile) h = h

  pub spots-parameters : (pile : List Slot) → AreSpots text pile → AreSpots text (below_parameters pile)
  spots-parameters (Parameter x ∷ pile) h = spots-parameters pile h
  spots-parameters [] h = h
  spots-parameters (_ ∷ pile) h = h

  pub spots-types : (pile : List Slot) → AreSpots text pile → AreSpots text (below_types pile)
  spots-types (ParameterType y ∷ pile) h = spots-types pile h
  spots-types [] h = h
  spots-types (_ ∷ pile) h = h

module _ (k : ℕ) where
  pub blocks-items : (pile : List Slot) → blocks_on k pile ≡ blocks_in_all k (forest_of (items_on pile)) + blocks_on k (below_items pile)
  blocks-items (Item e ∷ pile) =
      let h : blocks_on k pile ≡ blocks_in_all k (forest_of (items_on pile)) + blocks_on k (below_items pile) = blocks-items pile in
      omega (arith, h, blocks-more k (items_on pile) e)
  blocks-items [] = refl
  blocks-items (slot ∷ pile) = omega arith

  pub blocks-arguments : (pile : List Slot) → blocks_on k pile ≡ blocks_in_all k (forest_of (arguments_on pile)) + blocks_on k (below_arguments pile)
  blocks-arguments (Argument e ∷ pile) =
      let h : blocks_on k pile ≡ blocks_in_all k (forest_of (arguments_on pile)) + blocks_on k (below_arguments pile) = blocks-arguments pile in
      omega (arith, h, blocks-more k (arguments_on pile) e)
  blocks-arguments [] = refl
  blocks-arguments (slot ∷ pile) = omega arith

  pub blocks-parameters : (pile : List Slot) → blocks_on k (below_parameters pile) ≡ blocks_on k pile
  blocks-parameters (Parameter x ∷ pile) = blocks-parameters pile
  blocks-parameters [] = refl
  blocks-parameters (_ ∷ pile) = refl

  pub blocks-types : (pile : List Slot) → blocks_on k (below_types pile) ≡ blocks_on k pile
  blocks-types (ParameterType y ∷ pile) = blocks-types pile
  blocks-types [] = refl
  blocks-types (_ ∷ pile) = refl
