-- An action that stands behind a name numbers it, and no other action numbers a name.
use Rattle.std.proofs.Common.{◌≡◌, ℕ, ◌+◌, ◌≤◌, List, ◌∷◌, Bool, true, false, Option, Some, None, length, refl, sym, ◌∙◌, subst, arith}
use Rattle.hb_lex.specs.declared.kinds.TokenKind.{TokenKind}
use Rattle.hb_lex.specs.declared.kinds.TokenKind.TheVariants as k
use Rattle.hb_types.specs.declared.types.Ty.{Ty}
use Rattle.hb_tree.specs.Tree.{Tree}
use Rattle.hb_draft.specs.Words.{with_word}
use Rattle.hb_draft.proofs.WordLists.{with_word-length}
use Rattle.hb_types.specs.declared.types.Ty.TheVariants as ty
use Rattle.hb_grammar.specs.declared.actions.Action.{Action}
use Rattle.hb_grammar.specs.declared.actions.Action.TheVariants as a
use Rattle.hb_build.specs.declared.{held.Spot.Spot, faults.ParseFail.ParseFail}
use Rattle.hb_build.specs.Needs.{needs}
use Rattle.hb_build.specs.Pile.{Slot, Operand, Closed, Own, Declaring, Word, Target, Called, OfClass, Named, Computed, OfType, Block, Body, Setup, Script}
use Rattle.hb_build.specs.Acts.{Work, Answer, Goes, with_operand, with_closed, with_own, with_declaring, with_name, with_target, with_called, with_class, with_type, with_block}
use Rattle.hb_build.specs.Acts.{with_body, with_setup, with_script, with_method, with_known, fails_if, unless, complete, act}

-- where the answer goes on, these are the names
abbrev Names : List (List ℕ) → Answer → Type 0
Names names (Goes w) = w.said.names ≡ names
Names names _ = Unit {0}

module _ (names : List (List ℕ)) where
  names-fails_if : (passed : Bool) (fault : ParseFail) (answer : Answer) → Names names answer → Names names (fails_if passed fault answer)
  names-fails_if true fault answer h = tt
  names-fails_if false fault answer h = h

  names-unless : (fault : Option ParseFail) (answer : Answer) → Names names answer → Names names (unless fault answer)
  names-unless None answer h = h
  names-unless (Some fault) answer h = tt

  names-known : (class : Option ℕ) (p : Spot) (go : ℕ → Answer) → ((c : ℕ) → Names names (go c)) → Names names (with_known class p go)
  names-known None p go h = tt
  names-known (Some c) p go h = h c

  names-complete : (p : Spot) (make : ℕ → Tree) (slot : Tree → Slot) (pile : List Slot) (w : Work) → w.said.names ≡ names → Names names (complete p make slot pile w)
  names-complete p make slot pile w h = search names-unless

  names-operand : (pile : List Slot) (go : Tree → List Slot → Answer) → ((e : Tree) (rest : List Slot) → Names names (go e rest)) → Names names (with_operand pile go)
  names-operand (Operand e ∷ pile) go h = h e pile
  names-operand _ go h = tt

  names-closed : (pile : List Slot) (go : Tree → List Slot → Answer) → ((b : Tree) (rest : List Slot) → Names names (go b rest)) → Names names (with_closed pile go)
  names-closed (Closed b ∷ pile) go h = h b pile
  names-closed _ go h = tt

  names-own : (pile : List Slot) (go : Spot → List Slot → Answer) → ((p : Spot) (rest : List Slot) → Names names (go p rest)) → Names names (with_own pile go)
  names-own (Own p ∷ pile) go h = h p pile
  names-own _ go h = tt

  names-declaring : (pile : List Slot) (go : Spot → List Slot → Answer) → ((p : Spot) (rest : List Slot) → Names names (go p rest)) → Names names (with_declaring pile go)
  names-declaring (Declaring p ∷ pile) go h = h p pile
  names-declaring _ go h = tt

  names-name : (pile : List Slot) (go : ℕ → Spot → List Slot → Answer) → ((x : ℕ) (p : Spot) (rest : List Slot) → Names names (go x p rest)) → Names names (with_name pile go)
  names-name (Word x p ∷ pile) go h = h x p pile
  names-name _ go h = tt

  names-target : (pile : List Slot) (go : ℕ → Spot → List Slot → Answer) → ((x : ℕ) (p : Spot) (rest : List Slot) → Names names (go x p rest)) → Names names (with_target pile go)
  names-target (Target x p ∷ pile) go h = h x p pile
  names-target _ go h = tt

  names-called : (pile : List Slot) (go : ℕ → Spot → List Slot → Answer) → ((m : ℕ) (p : Spot) (rest : List Slot) → Names names (go m p rest)) → Names names (with_called pile go)
  names-called (Called m p ∷ pile) go h = h m p pile
  names-called _ go h = tt

  names-class : (pile : List Slot) (go : ℕ → Spot → List Slot → Answer) → ((c : ℕ) (p : Spot) (rest : List Slot) → Names names (go c p rest)) → Names names (with_class pile go)
  names-class (OfClass c p ∷ pile) go h = h c p pile
  names-class _ go h = tt

  names-type : (pile : List Slot) (go : Ty → List Slot → Answer) → ((y : Ty) (rest : List Slot) → Names names (go y rest)) → Names names (with_type pile go)
  names-type (OfType y ∷ pile) go h = h y pile
  names-type _ go h = tt

  names-block : (pile : List Slot) (go : List Slot → Answer) → ((rest : List Slot) → Names names (go rest)) → Names names (with_block pile go)
  names-block (Block ∷ pile) go h = h pile
  names-block _ go h = tt

  names-body : (pile : List Slot) (go : List Slot → Answer) → ((rest : List Slot) → Names names (go rest)) → Names names (with_body pile go)
  names-body (Body ∷ pile) go h = h pile
  names-body _ go h = tt

  names-setup : (pile : List Slot) (go : List Slot → Answer) → ((rest : List Slot) → Names names (go rest)) → Names names (with_setup pile go)
  names-setup (Setup ∷ pile) go h = h pile
  names-setup _ go h = tt

  names-script : (pile : List Slot) (go : ℕ → List Slot → Answer) → ((x : ℕ) (rest : List Slot) → Names names (go x rest)) → Names names (with_script pile go)
  names-script (Script x ∷ pile) go h = h x pile
  names-script _ go h = tt

  names-method : (pile : List Slot) (plain : ℕ → ℕ → List Slot → Answer) (computed : ℕ → Tree → List Slot → Answer)
      → ((c m : ℕ) (rest : List Slot) → Names names (plain c m rest)) → ((c : ℕ) (e : Tree) (rest : List Slot) → Names names (computed c e rest))
      → Names names (with_method pile plain computed)
  names-method (Named c m ∷ pile) plain computed one other = one c m pile
  names-method (Computed c e ∷ pile) plain computed one other = other c e pile
  names-method _ plain computed one other = tt

-- the names once an action is done that needs such a token, with these bytes
abbrev pub named : Option TokenKind → List ℕ → List (List ℕ) → List (List ℕ)
named (Some k.Name) bytes names = with_word names bytes
named _ bytes names = names

ruleset acting = (
  names-fails_if,
  names-closed,
  names-setup,
  names-script,
  names-block,
  names-complete,
  names-operand,
  names-name,
  names-known,
  names-class,
  names-type,
  names-target,
  names-own,
  names-called,
  names-body,
  names-method,
  names-declaring,
)

module _ (p : Spot) (bytes : List ℕ) (w : Work) where
  acts-name : (done : Action) → Names (named (needs done) bytes w.said.names) (act done p bytes w)
  acts-name (a.HoldType (ty.Class c)) = tt
  acts-name _ = search acting

-- ── how many ──

module _ (done : Action) (p : Spot) (bytes : List ℕ) (w v : Work) (goes : act done p bytes w ≡ Goes v) where
  pub names-after : v.said.names ≡ named (needs done) bytes w.said.names
  names-after = subst (Names (named (needs done) bytes w.said.names)) goes (acts-name p bytes w done)
