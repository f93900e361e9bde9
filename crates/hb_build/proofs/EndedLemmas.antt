-- A builder stays sound when the setup or a script ends.
use Rattle.std.proofs.Common.{◌≡◌, ◌≤◌, ◌<◌, ◌+◌, List, [], ◌∷◌, ◌++◌, false, length, map, reverse, sym, ap, ap₂, ◌∙◌, arith, subst}
use Rattle.std.specs.{Prelude.nat_eq, Set.distinct_count}
use Rattle.std.proofs.{lemmas.List.length_push, lemmas.List.reverse-append, lemmas.Bool.ltb-false}
use Rattle.hb_tree.specs.{Counts.names_assigned_in, Tree.Tree, Tree.IsBlock}
use Rattle.hb_tree.specs.declared.limits.TheConstants.{VARIABLES_MAX}
use Rattle.hb_draft.specs.Unfinished.{in_hand, scripts_in, IsRootBlock}
use Rattle.hb_build.proofs.{ScopeLemmas.few-assigned, BegunLemmas.IsMark}
use Rattle.hb_build.specs.declared.{builder.Builder.Builder, builder.Scope.Scope, held.Held.Held}
use Rattle.hb_build.specs.declared.held.Held.TheVariants as held
use Rattle.hb_build.specs.Pile.{Slot, Closed, piled, names_since, declaring, has_too_many_variables}
use Rattle.hb_build.specs.Sound.{IsSound, IsGood, IsCount, AreCounts, outside, marks, trees_in, things_of, pile_of, numbers}

-- The block and the mark are taken off, the scope around is the innermost again, and the rest stays.
pub record Ends (old new : Builder) (mark : Held) (b : Tree) : Type 0 where
  pub things : things_of old ≡ held.Closed ∷ mark ∷ things_of new
  pub hand : in_hand old.draft ≡ b ∷ in_hand new.draft
  pub outer : old.outer.items ≡ new.outer.items ++ new.scope ∷ []
  pub declaring : new.declaring ≡ old.declaring
  pub names : new.draft.table.names ≡ old.draft.table.names
  pub classes : new.draft.table.classes ≡ old.draft.table.classes
  pub types : new.draft.table.types ≡ old.draft.table.types

module _ (old new : Builder) (mark : Held) (slot : Slot) (b : Tree) (is : IsMark mark slot) (ends : Ends old new mark b) where
  pub pile-ended : pile_of old ≡ Closed b ∷ slot ∷ pile_of new
  pile-ended = ap₂ piled ends.things ends.hand ∙ ap (λ (pile : List Slot). Closed b ∷ pile) (is.lies (things_of new) (in_hand new.draft))

  pub good-ended : IsSound old → IsBlock b × IsGood (length old.draft.table.names) (length old.draft.table.classes) (slot ∷ pile_of new)
  good-ended sound = subst (IsGood (length old.draft.table.names) (length old.draft.table.classes)) pile-ended sound.good

  pub sound-ended : IsSound old → IsGood (length old.draft.table.names) (length old.draft.table.classes) (pile_of new)
      → numbers new.scripts.items ≡ map (λ s. s.0) (scripts_in new.draft.table) → IsSound new
  sound-ended sound good named =
      let around : reverse old.outer.items ≡ new.scope ∷ reverse new.outer.items = ap reverse ends.outer ∙ reverse-append new.outer.items (new.scope ∷ []) in
      let long : length old.outer.items ≡ length new.outer.items + 1 = ap length ends.outer ∙ length_push new.outer.items new.scope in
      let many : marks (pile_of old) ≡ 1 + marks (pile_of new) = ap marks pile-ended ∙ is.marks_are (pile_of new) in
      let below : outside (pile_of old) ≡ pile_of new = ap outside pile-ended ∙ is.scopes (pile_of new) in
      let pending : declaring (pile_of old) ≡ declaring (pile_of new) = ap declaring pile-ended ∙ is.pending (pile_of new) in
      let types : length new.draft.table.types ≡ length old.draft.table.types = ap length ends.types in
      record {
        matched = omega (arith, sound.matched, ap trees_in ends.things, is.trees (things_of new), ap length ends.hand);
        good = subst (λ ns. IsGood (length ns) (length new.draft.table.classes) (pile_of new)) (sym ends.names)
            (subst (λ cs. IsGood (length old.draft.table.names) (length cs) (pile_of new)) (sym ends.classes) good);
        counts = subst (λ pile. AreCounts (new.scope ∷ reverse new.outer.items) pile) below
            (subst (λ scopes. AreCounts scopes (outside (pile_of old))) around sound.counts.1);
        scopes = omega (arith, long, many, sound.scopes);
        pending = ends.declaring ∙ sound.pending ∙ pending;
        named = named;
        few_types = let few = sound.few_types in omega (arith, types, pending);
      }

-- the block of the setup or of a script has few variables
pub root-block : (s : Scope) (slot : Slot) (b : Tree) (pile : List Slot) → IsCount s (Closed b ∷ slot ∷ pile) → names_since (slot ∷ pile) ≡ [] → IsRootBlock b
root-block s slot b pile count none =
    let few : has_too_many_variables (Closed b ∷ slot ∷ pile) ≡ false = few-assigned s (Closed b ∷ slot ∷ pile) count in
    let same : distinct_count nat_eq (names_since (slot ∷ pile) ++ names_assigned_in b) ≡ distinct_count nat_eq (names_assigned_in b) = ap (λ xs. distinct_count nat_eq (xs ++ names_assigned_in b)) none in
    let within : distinct_count nat_eq (names_since (slot ∷ pile) ++ names_assigned_in b) ≤ VARIABLES_MAX = ltb-false VARIABLES_MAX _ few in
    omega (arith, same, within)
