-- A builder stays sound when a thing is put on its pile that has no tree in hand and marks no scope.
use Rattle.std.proofs.Common.{◌≡◌, ℕ, List, [], ◌∷◌, ◌++◌, length, map, reverse, sym, ap, ap₂, ◌∙◌, arith, subst}
use Rattle.std.proofs.lemmas.List.{reverse-append}
use Rattle.hb_tree.specs.Tree.{Tree}
use Rattle.hb_draft.specs.{Unfinished.in_hand, Unfinished.scripts_in, Made.made_of}
use Rattle.hb_draft.specs.declared.draft.Draft.{Draft}
use Rattle.hb_build.specs.{Said.said_of, Acts.Work, Acts.push}
use Rattle.hb_build.specs.declared.{builder.Builder.Builder, held.Held.Held}
use Rattle.hb_build.specs.Pile.{Slot, piled, declaring}
use Rattle.hb_build.specs.Sound.{IsSound, IsGood, IsCount, AreCounts, outside, marks, trees_in, things_of, pile_of, work_of, numbers}

-- the slot of a thing that has no tree in hand, marks no scope and is no declaration to come
pub record IsLight (thing : Held) (slot : Slot) : Type 0 where
  pub lies : (things : List Held) (hand : List Tree) → piled (thing ∷ things) hand ≡ slot ∷ piled things hand
  pub trees : (things : List Held) → trees_in (thing ∷ things) ≡ trees_in things
  pub scopes : (pile : List Slot) → outside (slot ∷ pile) ≡ outside pile
  pub marks_are : (pile : List Slot) → marks (slot ∷ pile) ≡ marks pile
  pub pending : (pile : List Slot) → declaring (slot ∷ pile) ≡ declaring pile

-- all but what is held and the innermost scope stays
pub record KeepsRest (old new : Builder) : Type 0 where
  pub draft : new.draft ≡ old.draft
  pub outer : new.outer ≡ old.outer
  pub declaring : new.declaring ≡ old.declaring
  pub scripts : new.scripts ≡ old.scripts

-- the last thing of a list lies on top
pub things-over : (held things : List Held) (thing : Held) → held ≡ things ++ thing ∷ [] → reverse held ≡ thing ∷ reverse things
things-over held things thing e = ap reverse e ∙ reverse-append things (thing ∷ [])

pub pile-over : (old new : Builder) (thing : Held) (slot : Slot) → KeepsRest old new → new.held.items ≡ old.held.items ++ thing ∷ [] → IsLight thing slot
    → pile_of new ≡ slot ∷ pile_of old
pile-over old new thing slot keeps items light =
    ap₂ piled (things-over new.held.items old.held.items thing items) (ap in_hand keeps.draft) ∙ light.lies (things_of old) (in_hand old.draft)

pub sound-over : (old new : Builder) (thing : Held) (slot : Slot) → KeepsRest old new → new.held.items ≡ old.held.items ++ thing ∷ [] → IsLight thing slot
    → IsSound old → IsGood (length old.draft.table.names) (length old.draft.table.classes) (slot ∷ pile_of old) → IsCount new.scope (slot ∷ pile_of old) → IsSound new
sound-over old new thing slot keeps items light sound good count =
    let things : things_of new ≡ thing ∷ things_of old = things-over new.held.items old.held.items thing items in
    let pile : pile_of new ≡ slot ∷ pile_of old = pile-over old new thing slot keeps items light in
    let types : length new.draft.table.types ≡ length old.draft.table.types = ap (λ d. length d.table.types) keeps.draft in
    let outer : reverse new.outer.items ≡ reverse old.outer.items = ap (λ o. reverse o.items) keeps.outer in
    let depth : length new.outer.items ≡ length old.outer.items = ap (λ o. length o.items) keeps.outer in
    let around : outside (pile_of new) ≡ outside (pile_of old) = ap outside pile ∙ light.scopes (pile_of old) in
    let pending : declaring (pile_of new) ≡ declaring (pile_of old) = ap declaring pile ∙ light.pending (pile_of old) in
    record {
      matched = rw (things, light.trees (things_of old), ap in_hand keeps.draft) sound.matched;
      good = subst (λ d. IsGood (length d.table.names) (length d.table.classes) (pile_of new)) (sym keeps.draft)
          (subst (IsGood (length old.draft.table.names) (length old.draft.table.classes)) (sym pile) good);
      counts = (
        subst (IsCount new.scope) (sym pile) count,
        subst (λ scopes. AreCounts scopes (outside (pile_of new))) (sym outer)
            (subst (AreCounts (reverse old.outer.items)) (sym around) sound.counts.1),
      );
      scopes = depth ∙ sound.scopes ∙ sym (ap marks pile ∙ light.marks_are (pile_of old));
      pending = keeps.declaring ∙ sound.pending ∙ sym pending;
      named = ap (λ s. numbers s.items) keeps.scripts ∙ sound.named ∙ sym (ap (λ d. map (λ s. s.0) (scripts_in d.table)) keeps.draft);
      few_types = let few = sound.few_types in omega (arith, types, pending);
    }

pub work-over : (old new : Builder) (thing : Held) (slot : Slot) → KeepsRest old new → new.held.items ≡ old.held.items ++ thing ∷ [] → IsLight thing slot
    → new.depth ≡ old.depth → work_of new ≡ push slot (work_of old)
work-over old new thing slot keeps items light depth =
    let work : Draft → List Slot → ℕ → Work = λ d pile depth. record { said = said_of (made_of d); pile = pile; depth = depth } in
    ap (λ d. work d (pile_of new) new.depth) keeps.draft ∙ ap₂ (work old.draft) (pile-over old new thing slot keeps items light) depth

-- ── what lies on top is taken off ──

pub pile-under : (old new : Builder) (thing : Held) (slot : Slot) → KeepsRest old new → things_of old ≡ thing ∷ things_of new → IsLight thing slot
    → pile_of old ≡ slot ∷ pile_of new
pile-under old new thing slot keeps things light =
    ap₂ piled things (sym (ap in_hand keeps.draft)) ∙ light.lies (things_of new) (in_hand new.draft)

-- a builder stays sound when such a thing is taken off
pub sound-under : (old new : Builder) (thing : Held) (slot : Slot) → KeepsRest old new → things_of old ≡ thing ∷ things_of new → IsLight thing slot → IsSound old
    → (IsGood (length old.draft.table.names) (length old.draft.table.classes) (slot ∷ pile_of new) → IsGood (length old.draft.table.names) (length old.draft.table.classes) (pile_of new))
    → (IsCount old.scope (slot ∷ pile_of new) → IsCount new.scope (pile_of new)) → IsSound new
sound-under old new thing slot keeps things light sound good count =
    let pile : pile_of old ≡ slot ∷ pile_of new = pile-under old new thing slot keeps things light in
    let types : length new.draft.table.types ≡ length old.draft.table.types = ap (λ d. length d.table.types) keeps.draft in
    let outer : reverse new.outer.items ≡ reverse old.outer.items = ap (λ o. reverse o.items) keeps.outer in
    let depth : length new.outer.items ≡ length old.outer.items = ap (λ o. length o.items) keeps.outer in
    let around : outside (pile_of old) ≡ outside (pile_of new) = ap outside pile ∙ light.scopes (pile_of new) in
    let pending : declaring (pile_of old) ≡ declaring (pile_of new) = ap declaring pile ∙ light.pending (pile_of new) in
    let trees : trees_in (things_of old) ≡ trees_in (things_of new) = ap trees_in things ∙ light.trees (things_of new) in
    let hand : length (in_hand new.draft) ≡ length (in_hand old.draft) = ap (λ d. length (in_hand d)) keeps.draft in
    record {
      matched = let matched = sound.matched in omega (arith, trees, hand);
      good = subst (λ d. IsGood (length d.table.names) (length d.table.classes) (pile_of new)) (sym keeps.draft)
          (good (subst (IsGood (length old.draft.table.names) (length old.draft.table.classes)) pile sound.good));
      counts = (
        count (subst (IsCount old.scope) pile sound.counts.0),
        subst (λ scopes. AreCounts scopes (outside (pile_of new))) (sym outer)
            (subst (AreCounts (reverse old.outer.items)) around sound.counts.1),
      );
      scopes = depth ∙ sound.scopes ∙ ap marks pile ∙ light.marks_are (pile_of new);
      pending = keeps.declaring ∙ sound.pending ∙ pending;
      named = ap (λ s. numbers s.items) keeps.scripts ∙ sound.named ∙ sym (ap (λ d. map (λ s. s.0) (scripts_in d.table)) keeps.draft);
      few_types = let few = sound.few_types in omega (arith, types, pending);
    }
