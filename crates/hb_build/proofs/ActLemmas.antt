-- No action is lost on a pile that has its tags on top, and it leaves what it should.
use Rattle.std.specs.Prelude.{ℕ, List, [], ◌∷◌, ◌++◌}
use Rattle.hb_types.specs.declared.types.Ty.TheVariants as ty
use Rattle.hb_grammar.specs.declared.actions.Action.{Action}
use Rattle.hb_grammar.specs.declared.actions.Action.TheVariants as a
use Rattle.hb_build.specs.{Acts.Work, Acts.act, Fits.Stands}
use Rattle.hb_build.specs.declared.held.Spot.{Spot}
use Rattle.hb_build.specs.Pile.{Slot, Operand, Closed, Item, Argument, Own, Declaring, Word, Target, Called, OfClass, Named, Computed, Parameter, OfType, ParameterType, Block, Body, Setup, Script}
use Rattle.hb_build.specs.Tags.{Tag, takes, leaves}
use Rattle.hb_build.specs.Tags as tag
use Rattle.hb_build.proofs.TopLemmas.{Keeps, keeps-fails_if, keeps-known, keeps-complete, top-operand, top-closed, top-own, top-declaring, top-name, top-target, top-class}
use Rattle.hb_build.proofs.TopLemmas.{top-type, top-body, top-setup, top-script, top-block, top-called, top-defined, top-declared}

never-stands : {X : Type 0} (rest : List Tag) (pile : List Slot) → Stands (tag.Never ∷ rest) pile → X
never-stands rest (Operand e ∷ pile) h = absurd h
never-stands _ _ h = absurd h

ruleset keeping = (
  keeps-fails_if,
  top-closed,
  top-setup,
  top-script,
  top-block,
  keeps-complete,
  top-operand,
  top-name,
  keeps-known,
  top-class,
  top-type,
  top-target,
  top-own,
  top-called,
  top-body,
  top-defined,
  top-declared,
  top-declaring,
)

-- the action on a pile that has its tags over these
module _ (rest : List Tag) (p : Spot) (bytes : List ℕ) (w : Work) where
  pub acts-keep : (done : Action) → Stands (takes done ++ rest) w.pile → Keeps (leaves done ++ rest) (act done p bytes w)
  acts-keep (a.HoldType (ty.Class c)) h = never-stands rest w.pile h
  acts-keep _ h = search keeping
