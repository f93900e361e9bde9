-- What lies on top of a pile that stands, and answers that are not lost.
use Rattle.std.specs.Prelude.{ℕ, List, [], ◌∷◌, Bool, true, false, Option, Some, None, length}
use Rattle.hb_types.specs.declared.types.Ty.{Ty}
use Rattle.hb_tree.specs.Tree.{Tree}
use Rattle.hb_build.specs.{Tags.Tag, Fits.Stands}
use Rattle.hb_build.specs.declared.{held.Spot.Spot, faults.ParseFail.ParseFail}
use Rattle.hb_build.specs.Pile.{Slot, Operand, Closed, Item, Argument, Own, Declaring, Word, Target, Called, OfClass, Named, Computed, Parameter, OfType, ParameterType, Block}
use Rattle.hb_build.specs.Pile.{Body, Setup, Script, below_items, below_arguments, below_parameters, below_types}
use Rattle.hb_build.specs.Acts.{Work, Answer, Goes, Fails, Lost, with_operand, with_closed, with_own, with_declaring, with_name, with_target, with_called, with_class}
use Rattle.hb_build.specs.Acts.{with_type, with_block, with_body, with_setup, with_script, with_method, with_known, fails_if, unless, complete}
use Rattle.hb_build.specs.Tags as tag

-- the answer is not lost, and where it goes on its pile stands
abbrev pub Keeps : List Tag → Answer → Type 0
Keeps tags (Goes w) = Stands tags w.pile
Keeps tags (Fails fault) = Unit {0}
Keeps tags Lost = ⊥

-- ── steps ──

module _ (out : List Tag) where
  pub keeps-fails_if : (passed : Bool) (fault : ParseFail) (answer : Answer) → Keeps out answer → Keeps out (fails_if passed fault answer)
  keeps-fails_if true fault answer h = tt
  keeps-fails_if false fault answer h = h

  keeps-unless : (fault : Option ParseFail) (answer : Answer) → Keeps out answer → Keeps out (unless fault answer)
  keeps-unless None answer h = h
  keeps-unless (Some fault) answer h = tt

  pub keeps-known : (class : Option ℕ) (p : Spot) (go : ℕ → Answer) → ((c : ℕ) → Keeps out (go c)) → Keeps out (with_known class p go)
  keeps-known None p go h = tt
  keeps-known (Some c) p go h = h c

  pub keeps-complete : (p : Spot) (make : ℕ → Tree) (slot : Tree → Slot) (pile : List Slot) (w : Work)
      → Stands out (slot (make (length w.said.places)) ∷ pile) → Keeps out (complete p make slot pile w)
  keeps-complete p make slot pile w h = search keeps-unless

-- ── what lies on top, where the tags below it are these ──

module _ (tags out : List Tag) where
  pub top-operand : (pile : List Slot) (go : Tree → List Slot → Answer) → Stands (tag.Operand ∷ tags) pile
      → ((e : Tree) (rest : List Slot) → Stands tags rest → Keeps out (go e rest)) → Keeps out (with_operand pile go)
  top-operand (Operand e ∷ pile) go h next = next e pile h
  top-operand [] go h next = absurd h
  top-operand (_ ∷ pile) go h next = absurd h

  pub top-closed : (pile : List Slot) (go : Tree → List Slot → Answer) → Stands (tag.Closed ∷ tags) pile
      → ((b : Tree) (rest : List Slot) → Stands tags rest → Keeps out (go b rest)) → Keeps out (with_closed pile go)
  top-closed (Closed b ∷ pile) go h next = next b pile h
  top-closed [] go h next = absurd h
  top-closed (_ ∷ pile) go h next = absurd h

  pub top-own : (pile : List Slot) (go : Spot → List Slot → Answer) → Stands (tag.Own ∷ tags) pile
      → ((p : Spot) (rest : List Slot) → Stands tags rest → Keeps out (go p rest)) → Keeps out (with_own pile go)
  top-own (Own p ∷ pile) go h next = next p pile h
  top-own [] go h next = absurd h
  top-own (_ ∷ pile) go h next = absurd h

  pub top-declaring : (pile : List Slot) (go : Spot → List Slot → Answer) → Stands (tag.Declaring ∷ tags) pile
      → ((p : Spot) (rest : List Slot) → Stands tags rest → Keeps out (go p rest)) → Keeps out (with_declaring pile go)
  top-declaring (Declaring p ∷ pile) go h next = next p pile h
  top-declaring [] go h next = absurd h
  top-declaring (_ ∷ pile) go h next = absurd h

  pub top-name : (pile : List Slot) (go : ℕ → Spot → List Slot → Answer) → Stands (tag.Word ∷ tags) pile
      → ((x : ℕ) (p : Spot) (rest : List Slot) → Stands tags rest → Keeps out (go x p rest)) → Keeps out (with_name pile go)
  top-name (Word x p ∷ pile) go h next = next x p pile h
  top-name [] go h next = absurd h
  top-name (_ ∷ pile) go h next = absurd h

  pub top-target : (pile : List Slot) (go : ℕ → Spot → List Slot → Answer) → Stands (tag.Target ∷ tags) pile
      → ((x : ℕ) (p : Spot) (rest : List Slot) → Stands tags rest → Keeps out (go x p rest)) → Keeps out (with_target pile go)
  top-target (Target x p ∷ pile) go h next = next x p pile h
  top-target [] go h next = absurd h
  top-target (_ ∷ pile) go h next = absurd h

  pub top-class : (pile : List Slot) (go : ℕ → Spot → List Slot → Answer) → Stands (tag.OfClass ∷ tags) pile
      → ((c : ℕ) (p : Spot) (rest : List Slot) → Stands tags rest → Keeps out (go c p rest)) → Keeps out (with_class pile go)
  top-class (OfClass c p ∷ pile) go h next = next c p pile h
  top-class [] go h next = absurd h
  top-class (_ ∷ pile) go h next = absurd h

  pub top-type : (pile : List Slot) (go : Ty → List Slot → Answer) → Stands (tag.OfType ∷ tags) pile
      → ((y : Ty) (rest : List Slot) → Stands tags rest → Keeps out (go y rest)) → Keeps out (with_type pile go)
  top-type (OfType y ∷ pile) go h next = next y pile h
  top-type [] go h next = absurd h
  top-type (_ ∷ pile) go h next = absurd h

  pub top-body : (pile : List Slot) (go : List Slot → Answer) → Stands (tag.Body ∷ tags) pile
      → ((rest : List Slot) → Stands tags rest → Keeps out (go rest)) → Keeps out (with_body pile go)
  top-body (Body ∷ pile) go h next = next pile h
  top-body [] go h next = absurd h
  top-body (_ ∷ pile) go h next = absurd h

  pub top-setup : (pile : List Slot) (go : List Slot → Answer) → Stands (tag.Setup ∷ tags) pile
      → ((rest : List Slot) → Stands tags rest → Keeps out (go rest)) → Keeps out (with_setup pile go)
  top-setup (Setup ∷ pile) go h next = next pile h
  top-setup [] go h next = absurd h
  top-setup (_ ∷ pile) go h next = absurd h

  pub top-script : (pile : List Slot) (go : ℕ → List Slot → Answer) → Stands (tag.Script ∷ tags) pile
      → ((x : ℕ) (rest : List Slot) → Stands tags rest → Keeps out (go x rest)) → Keeps out (with_script pile go)
  top-script (Script x ∷ pile) go h next = next x pile h
  top-script [] go h next = absurd h
  top-script (_ ∷ pile) go h next = absurd h

  -- ── below the items of a block, the arguments of a call, the parameters of a method ──

  pub top-block : (pile : List Slot) (go : List Slot → Answer) → Stands (tag.Items ∷ tags) pile
      → ((rest : List Slot) → Stands tags rest → Keeps out (go rest)) → Keeps out (with_block (below_items pile) go)
  top-block (Item e ∷ pile) go h next = top-block pile go h next
  top-block (Block ∷ pile) go h next = next pile h
  top-block [] go h next = absurd h
  top-block (_ ∷ pile) go h next = absurd h

  pub top-called : (pile : List Slot) (go : ℕ → Spot → List Slot → Answer) → Stands (tag.Arguments ∷ tags) pile
      → ((m : ℕ) (p : Spot) (rest : List Slot) → Stands tags rest → Keeps out (go m p rest)) → Keeps out (with_called (below_arguments pile) go)
  top-called (Argument e ∷ pile) go h next = top-called pile go h next
  top-called (Called m p ∷ pile) go h next = next m p pile h
  top-called [] go h next = absurd h
  top-called (_ ∷ pile) go h next = absurd h

  pub top-defined : (pile : List Slot) (plain : ℕ → ℕ → List Slot → Answer) (computed : ℕ → Tree → List Slot → Answer)
      → Stands (tag.Method ∷ tag.Own ∷ tags) pile
      → ((c m : ℕ) (rest : List Slot) → Stands (tag.Own ∷ tags) rest → Keeps out (plain c m rest))
      → ((c : ℕ) (e : Tree) (rest : List Slot) → Stands (tag.Own ∷ tags) rest → Keeps out (computed c e rest))
      → Keeps out (with_method (below_parameters pile) plain computed)
  top-defined (Parameter x ∷ pile) plain computed h one other = top-defined pile plain computed h.1 one other
  top-defined (ParameterType y ∷ pile) plain computed h one other = absurd h.0
  top-defined (Named c m ∷ pile) plain computed h one other = one c m pile h
  top-defined (Computed c e ∷ pile) plain computed h one other = other c e pile h
  top-defined [] plain computed h one other = absurd h
  top-defined (_ ∷ pile) plain computed h one other = absurd h

  pub top-declared : (pile : List Slot) (plain : ℕ → ℕ → List Slot → Answer) (computed : ℕ → Tree → List Slot → Answer)
      → Stands (tag.Method ∷ tag.Declaring ∷ tags) pile
      → ((c m : ℕ) (rest : List Slot) → Stands (tag.Declaring ∷ tags) rest → Keeps out (plain c m rest))
      → ((c : ℕ) (e : Tree) (rest : List Slot) → Stands (tag.Declaring ∷ tags) rest → Keeps out (computed c e rest))
      → Keeps out (with_method (below_types pile) plain computed)
  top-declared (ParameterType y ∷ pile) plain computed h one other = top-declared pile plain computed h.1 one other
  top-declared (Parameter x ∷ pile) plain computed h one other = absurd h.0
  top-declared (Named c m ∷ pile) plain computed h one other = one c m pile h
  top-declared (Computed c e ∷ pile) plain computed h one other = other c e pile h
  top-declared [] plain computed h one other = absurd h
  top-declared (_ ∷ pile) plain computed h one other = absurd h
