-- Things that have no tree in hand and mark no scope, and those of them that count for nothing.
use Rattle.std.proofs.Common.{◌≡◌, ℕ, List, ◌∷◌, refl, sym, ◌∙◌, ap}
use Rattle.std.specs.{Prelude.nat_eq, Set.is_member}
use Rattle.hb_types.specs.declared.{ids.ClassId.ClassId, ids.NameId.NameId, types.Ty.Ty}
use Rattle.hb_build.specs.declared.{builder.Scope.Scope, held.Spot.Spot}
use Rattle.hb_build.specs.declared.held.Held.TheVariants as held
use Rattle.hb_build.specs.Pile.{Slot, Own, Word, Target, Called, OfClass, Named, Parameter, OfType, ParameterType, Block, in_body, nodes_since, calls_since, names_since}
use Rattle.hb_build.specs.Sound.{IsCount}
use Rattle.hb_build.proofs.PushLemmas.{IsLight}

-- the slot counts for nothing
pub record IsQuiet (slot : Slot) : Type 0 where
  pub inside : (pile : List Slot) → in_body (slot ∷ pile) ≡ in_body pile
  pub nodes : (pile : List Slot) → nodes_since (slot ∷ pile) ≡ nodes_since pile
  pub calls : (pile : List Slot) → calls_since (slot ∷ pile) ≡ calls_since pile
  pub names : (pile : List Slot) → names_since (slot ∷ pile) ≡ names_since pile

-- a scope that counts one pile counts another with the same counts
pub count-same : (s : Scope) (one other : List Slot) → in_body other ≡ in_body one → nodes_since other ≡ nodes_since one → calls_since other ≡ calls_since one → names_since other ≡ names_since one
    → IsCount s one → IsCount s other
count-same s one other inside nodes calls names is = record {
  body = is.body ∙ sym inside;
  nodes = λ within. is.nodes (sym inside ∙ within) ∙ sym nodes;
  calls = λ within. is.calls (sym inside ∙ within) ∙ sym calls;
  apart = is.apart;
  same = λ x. is.same x ∙ ap (λ ns. is_member nat_eq ns x) (sym names);
  few = is.few;
  few_nodes = λ within. rw nodes (is.few_nodes (sym inside ∙ within));
  few_calls = λ within. rw calls (is.few_calls (sym inside ∙ within));
}

pub count-over : (s : Scope) (slot : Slot) (pile : List Slot) → IsQuiet slot → IsCount s pile → IsCount s (slot ∷ pile)
count-over s slot pile quiet is = count-same s pile (slot ∷ pile) (quiet.inside pile) (quiet.nodes pile) (quiet.calls pile) (quiet.names pile) is

pub count-under : (s : Scope) (slot : Slot) (pile : List Slot) → IsQuiet slot → IsCount s (slot ∷ pile) → IsCount s pile
count-under s slot pile quiet is = count-same s (slot ∷ pile) pile (sym (quiet.inside pile)) (sym (quiet.nodes pile)) (sym (quiet.calls pile)) (sym (quiet.names pile)) is

pub light-word : (x : NameId) (p : Spot) → IsLight (held.Word x p) (Word x.0 p)
light-word x p = record { lies = λ things hand. refl; trees = λ things. refl; scopes = λ pile. refl; marks_are = λ pile. refl; pending = λ pile. refl }

pub quiet-word : (x : ℕ) (p : Spot) → IsQuiet (Word x p)
quiet-word x p = record { inside = λ pile. refl; nodes = λ pile. refl; calls = λ pile. refl; names = λ pile. refl }

pub light-target : (x : NameId) (p : Spot) → IsLight (held.Target x p) (Target x.0 p)
light-target x p = record { lies = λ things hand. refl; trees = λ things. refl; scopes = λ pile. refl; marks_are = λ pile. refl; pending = λ pile. refl }

pub light-called : (m : NameId) (p : Spot) → IsLight (held.Called m p) (Called m.0 p)
light-called m p = record { lies = λ things hand. refl; trees = λ things. refl; scopes = λ pile. refl; marks_are = λ pile. refl; pending = λ pile. refl }
