-- A builder stays sound when a body, the setup or a script begins.
use Rattle.std.proofs.Common.{◌≡◌, ℕ, ◌≤◌, ◌+◌, List, [], ◌∷◌, ◌++◌, true, false, length, reverse, sym, ap, ap₂, ◌∙◌, arith, subst}
use Rattle.std.specs.{Prelude.nat_eq, Set.is_member, List.IsDistinct}
use Rattle.std.proofs.lemmas.List.{length_push, length-map, reverse-append}
use Rattle.hb_types.specs.declared.types.TheConstants.{PARAMS_MAX}
use Rattle.hb_tree.specs.Tree.{Tree}
use Rattle.hb_draft.specs.{Unfinished.in_hand, Made.made_of}
use Rattle.hb_draft.specs.declared.draft.Draft.{Draft}
use Rattle.hb_build.specs.{Said.said_of, Acts.Work, Acts.push}
use Rattle.hb_build.specs.declared.{builder.Builder.Builder, builder.Scope.Scope, held.Held.Held}
use Rattle.hb_build.specs.Pile.{Slot, Body, piled, in_body, names_since, parameters_on, declaring}
use Rattle.hb_build.specs.Sound.{IsSound, IsGood, IsCount, outside, marks, trees_in, things_of, pile_of, work_of, numbers}
use Rattle.hb_build.proofs.ParamsLemmas.{params-apart, params-few}

-- the mark at which a scope begins
pub record IsMark (thing : Held) (slot : Slot) : Type 0 where
  pub lies : (things : List Held) (hand : List Tree) → piled (thing ∷ things) hand ≡ slot ∷ piled things hand
  pub trees : (things : List Held) → trees_in (thing ∷ things) ≡ trees_in things
  pub scopes : (pile : List Slot) → outside (slot ∷ pile) ≡ pile
  pub marks_are : (pile : List Slot) → marks (slot ∷ pile) ≡ 1 + marks pile
  pub pending : (pile : List Slot) → declaring (slot ∷ pile) ≡ declaring pile

-- the scope before lies around the new one, and the rest stays
pub record Begins (old new : Builder) : Type 0 where
  pub draft : new.draft ≡ old.draft
  pub outer : new.outer.items ≡ old.outer.items ++ old.scope ∷ []
  pub declaring : new.declaring ≡ old.declaring
  pub scripts : new.scripts ≡ old.scripts
  pub depth : new.depth ≡ old.depth

module _ (old new : Builder) (thing : Held) (slot : Slot) (is : IsMark thing slot) (begins : Begins old new) (things : things_of new ≡ thing ∷ things_of old) where
  pub pile-begun : pile_of new ≡ slot ∷ pile_of old
  pile-begun = ap₂ piled things (ap in_hand begins.draft) ∙ is.lies (things_of old) (in_hand old.draft)

  pub sound-begun : IsSound old → IsGood (length old.draft.table.names) (length old.draft.table.classes) (slot ∷ pile_of old) → IsCount new.scope (slot ∷ pile_of old) → IsSound new
  sound-begun sound good count =
      let around : reverse new.outer.items ≡ old.scope ∷ reverse old.outer.items = ap reverse begins.outer ∙ reverse-append old.outer.items (old.scope ∷ []) in
      let long : length new.outer.items ≡ length old.outer.items + 1 = ap length begins.outer ∙ length_push old.outer.items old.scope in
      let many : marks (pile_of new) ≡ 1 + marks (pile_of old) = ap marks pile-begun ∙ is.marks_are (pile_of old) in
      let below : outside (pile_of new) ≡ pile_of old = ap outside pile-begun ∙ is.scopes (pile_of old) in
      let types : length new.draft.table.types ≡ length old.draft.table.types = ap (λ d. length d.table.types) begins.draft in
      let pending : declaring (pile_of new) ≡ declaring (pile_of old) = ap declaring pile-begun ∙ is.pending (pile_of old) in
      record {
        matched = rw things (rw (ap in_hand begins.draft) (omega (arith, is.trees (things_of old), sound.matched)));
        good = subst (λ d. IsGood (length d.table.names) (length d.table.classes) (pile_of new)) (sym begins.draft)
            (subst (IsGood (length old.draft.table.names) (length old.draft.table.classes)) (sym pile-begun) good);
        counts = (rw pile-begun count, rw (around, below) sound.counts);
        scopes = omega (arith, long, many, sound.scopes);
        pending = begins.declaring ∙ sound.pending ∙ sym pending;
        named = rw begins.scripts (rw begins.draft sound.named);
        few_types = let few = sound.few_types in omega (arith, types, pending);
      }

  pub work-begun : work_of new ≡ push slot (work_of old)
  work-begun =
      let work : Draft → List Slot → ℕ → Work = λ d pile depth. record { said = said_of (made_of d); pile = pile; depth = depth } in
      ap (λ d. work d (pile_of new) new.depth) begins.draft ∙ ap₂ (work old.draft) pile-begun begins.depth

-- a scope that counts nothing yet, outside of a body
pub count-empty : (s : Scope) (pile : List Slot) → s.is_body ≡ false → in_body pile ≡ false → s.variables.items ≡ [] → names_since pile ≡ [] → IsCount s pile
unfolding IsDistinct
count-empty s pile no_body not_in none nothing = record {
  body = no_body ∙ sym not_in;
  nodes = λ inside. cc;
  calls = λ inside. cc;
  apart = rw none tt;
  same = λ x. ap (λ xs. is_member nat_eq (numbers xs) x) none ∙ sym (ap (λ xs. is_member nat_eq xs x) nothing);
  few = rw none (omega arith);
  few_nodes = λ inside. absurd (cc);
  few_calls = λ inside. absurd (cc);
}

-- the scope of a body whose parameters lie on top
pub count-params : (s : Scope) (names classes : ℕ) (pile : List Slot) → IsGood names classes pile → s.is_body ≡ true → s.nodes ≡ 0 → s.calls ≡ 0
    → numbers s.variables.items ≡ parameters_on pile → IsCount s (Body ∷ pile)
count-params s ns cs pile good is_body nodes calls params =
    let few : length (parameters_on pile) ≤ PARAMS_MAX = params-few ns cs pile good in
    let long : length (numbers s.variables.items) ≡ length s.variables.items = length-map s.variables.items (λ x. x.0) in
    record {
      body = is_body;
      nodes = λ inside. nodes;
      calls = λ inside. calls;
      apart = rw params (params-apart ns cs pile good);
      same = λ x. ap (λ xs. is_member nat_eq xs x) params;
      few = omega (arith, few, long, ap length params);
      few_nodes = λ inside. omega arith;
      few_calls = λ inside. omega arith;
    }
