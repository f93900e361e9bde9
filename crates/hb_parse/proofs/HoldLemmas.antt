-- What holds of each work to which an answer goes on, by what lies on the pile.
use Rattle.std.specs.Prelude.{ℕ, List, ◌∷◌, ◌++◌, [], Bool, true, false, Option, Some, None, length}
use Rattle.hb_types.specs.declared.types.Ty.{Ty}
use Rattle.hb_tree.specs.Tree.{Tree}
use Rattle.hb_build.specs.declared.{held.Spot.Spot, faults.ParseFail.ParseFail}
use Rattle.hb_build.specs.Pile.{Slot, Operand, Closed, Own, Declaring, Word, Target, Called, OfClass, Named, Computed, OfType, Block, Body, Setup, Script}
use Rattle.hb_build.specs.Acts.{Work, Answer, Goes, with_operand, with_closed, with_own, with_declaring, with_name, with_target, with_called, with_class, with_type, with_block}
use Rattle.hb_build.specs.Acts.{with_body, with_setup, with_script, with_method, with_known, fails_if, unless, complete}

-- where the answer goes on, this holds of its work
abbrev pub Holds : (Work → Type 0) → Answer → Type 0
Holds P (Goes w) = P w
Holds P _ = Unit {0}

module _ (P : Work → Type 0) where
  pub holds-fails_if : (passed : Bool) (fault : ParseFail) (answer : Answer) → Holds P answer → Holds P (fails_if passed fault answer)
  holds-fails_if true fault answer h = tt
  holds-fails_if false fault answer h = h

  holds-unless : (fault : Option ParseFail) (answer : Answer) → Holds P answer → Holds P (unless fault answer)
  holds-unless None answer h = h
  holds-unless (Some fault) answer h = tt

  pub holds-known : (class : Option ℕ) (p : Spot) (go : ℕ → Answer) → ((c : ℕ) → Holds P (go c)) → Holds P (with_known class p go)
  holds-known None p go h = tt
  holds-known (Some c) p go h = h c

  pub holds-complete : (p : Spot) (make : ℕ → Tree) (slot : Tree → Slot) (pile : List Slot) (w : Work)
      → P (record w { said = record w.said { places = w.said.places ++ (p.line, p.column) ∷ [] }; pile = slot (make (length w.said.places)) ∷ pile })
      → Holds P (complete p make slot pile w)
  holds-complete p make slot pile w h = search holds-unless

  -- ── by what lies on top of a pile of which F holds ──

  module _ (F : List Slot → Type 0) where
    pub on-operand : (pile : List Slot) (go : Tree → List Slot → Answer) → F pile → ((e : Tree) (rest : List Slot) → F (Operand e ∷ rest) → Holds P (go e rest)) → Holds P (with_operand pile go)
    on-operand (Operand e ∷ pile) go h next = next e pile h
    on-operand _ go h next = tt

    pub on-closed : (pile : List Slot) (go : Tree → List Slot → Answer) → F pile → ((b : Tree) (rest : List Slot) → F (Closed b ∷ rest) → Holds P (go b rest)) → Holds P (with_closed pile go)
    on-closed (Closed b ∷ pile) go h next = next b pile h
    on-closed _ go h next = tt

    pub on-own : (pile : List Slot) (go : Spot → List Slot → Answer) → F pile → ((p : Spot) (rest : List Slot) → F (Own p ∷ rest) → Holds P (go p rest)) → Holds P (with_own pile go)
    on-own (Own p ∷ pile) go h next = next p pile h
    on-own _ go h next = tt

    pub on-declaring : (pile : List Slot) (go : Spot → List Slot → Answer) → F pile → ((p : Spot) (rest : List Slot) → F (Declaring p ∷ rest) → Holds P (go p rest)) → Holds P (with_declaring pile go)
    on-declaring (Declaring p ∷ pile) go h next = next p pile h
    on-declaring _ go h next = tt

    pub on-name : (pile : List Slot) (go : ℕ → Spot → List Slot → Answer) → F pile → ((x : ℕ) (p : Spot) (rest : List Slot) → F (Word x p ∷ rest) → Holds P (go x p rest)) → Holds P (with_name pile go)
    on-name (Word x p ∷ pile) go h next = next x p pile h
    on-name _ go h next = tt

    pub on-target : (pile : List Slot) (go : ℕ → Spot → List Slot → Answer) → F pile → ((x : ℕ) (p : Spot) (rest : List Slot) → F (Target x p ∷ rest) → Holds P (go x p rest)) → Holds P (with_target pile go)
    on-target (Target x p ∷ pile) go h next = next x p pile h
    on-target _ go h next = tt

    pub on-called : (pile : List Slot) (go : ℕ → Spot → List Slot → Answer) → F pile → ((m : ℕ) (p : Spot) (rest : List Slot) → F (Called m p ∷ rest) → Holds P (go m p rest)) → Holds P (with_called pile go)
    on-called (Called m p ∷ pile) go h next = next m p pile h
    on-called _ go h next = tt

    pub on-class : (pile : List Slot) (go : ℕ → Spot → List Slot → Answer) → F pile → ((c : ℕ) (p : Spot) (rest : List Slot) → F (OfClass c p ∷ rest) → Holds P (go c p rest)) → Holds P (with_class pile go)
    on-class (OfClass c p ∷ pile) go h next = next c p pile h
    on-class _ go h next = tt

    pub on-type : (pile : List Slot) (go : Ty → List Slot → Answer) → F pile → ((y : Ty) (rest : List Slot) → F (OfType y ∷ rest) → Holds P (go y rest)) → Holds P (with_type pile go)
    on-type (OfType y ∷ pile) go h next = next y pile h
    on-type _ go h next = tt

    pub on-block : (pile : List Slot) (go : List Slot → Answer) → F pile → ((rest : List Slot) → F (Block ∷ rest) → Holds P (go rest)) → Holds P (with_block pile go)
    on-block (Block ∷ pile) go h next = next pile h
    on-block _ go h next = tt

    pub on-body : (pile : List Slot) (go : List Slot → Answer) → F pile → ((rest : List Slot) → F (Body ∷ rest) → Holds P (go rest)) → Holds P (with_body pile go)
    on-body (Body ∷ pile) go h next = next pile h
    on-body _ go h next = tt

    pub on-setup : (pile : List Slot) (go : List Slot → Answer) → F pile → ((rest : List Slot) → F (Setup ∷ rest) → Holds P (go rest)) → Holds P (with_setup pile go)
    on-setup (Setup ∷ pile) go h next = next pile h
    on-setup _ go h next = tt

    pub on-script : (pile : List Slot) (go : ℕ → List Slot → Answer) → F pile → ((x : ℕ) (rest : List Slot) → F (Script x ∷ rest) → Holds P (go x rest)) → Holds P (with_script pile go)
    on-script (Script x ∷ pile) go h next = next x pile h
    on-script _ go h next = tt

    pub on-method : (pile : List Slot) (plain : ℕ → ℕ → List Slot → Answer) (computed : ℕ → Tree → List Slot → Answer) → F pile
        → ((c m : ℕ) (rest : List Slot) → F (Named c m ∷ rest) → Holds P (plain c m rest))
        → ((c : ℕ) (e : Tree) (rest : List Slot) → F (Computed c e ∷ rest) → Holds P (computed c e rest))
        → Holds P (with_method pile plain computed)
    on-method (Named c m ∷ pile) plain computed h one other = one c m pile h
    on-method (Computed c e ∷ pile) plain computed h one other = other c e pile h
    on-method _ plain computed h one other = tt
