-- A builder stays sound when what lies on top is used for something else, and nothing that is counted changes.
use Rattle.std.proofs.Common.{◌≡◌, ℕ, ◌≤◌, List, length, sym, ap, ap₂, ◌∙◌, arith, subst}
use Rattle.std.specs.{Prelude.nat_eq, Set.is_member}
use Rattle.hb_tree.specs.Tree.{Tree}
use Rattle.hb_draft.specs.{Unfinished.in_hand, Made.made_of}
use Rattle.hb_draft.specs.declared.draft.Draft.{Draft}
use Rattle.hb_build.specs.{Said.said_of, Acts.Work}
use Rattle.hb_build.specs.declared.{builder.Builder.Builder, builder.Scope.Scope, held.Held.Held}
use Rattle.hb_build.specs.Pile.{Slot, piled, in_body, nodes_since, calls_since, names_since, declaring}
use Rattle.hb_build.specs.Sound.{IsSound, IsGood, IsCount, outside, marks, trees_in, things_of, pile_of, work_of}
use Rattle.hb_build.proofs.PushLemmas.{KeepsRest}

-- all that is counted is the same
pub record IsSameCount (old new : List Slot) : Type 0 where
  pub body : in_body new ≡ in_body old
  pub nodes : nodes_since new ≡ nodes_since old
  pub calls : calls_since new ≡ calls_since old
  pub names : names_since new ≡ names_since old
  pub outer : outside new ≡ outside old
  pub scopes : marks new ≡ marks old
  pub pending : declaring new ≡ declaring old

pub count-same : (s : Scope) (old new : List Slot) → IsSameCount old new → IsCount s old → IsCount s new
count-same s old new same is = record {
  body = is.body ∙ sym same.body;
  nodes = λ t. is.nodes (sym same.body ∙ t) ∙ sym same.nodes;
  calls = λ t. is.calls (sym same.body ∙ t) ∙ sym same.calls;
  apart = is.apart;
  same = λ x. is.same x ∙ ap (λ (xs : List ℕ). is_member nat_eq xs x) (sym same.names);
  few = is.few;
  few_nodes = λ t. omega (arith, same.nodes, is.few_nodes (sym same.body ∙ t));
  few_calls = λ t. omega (arith, same.calls, is.few_calls (sym same.body ∙ t));
}

pub sound-relaid : (old new : Builder) (after : List Held) → KeepsRest old new → new.scope ≡ old.scope → things_of new ≡ after
    → IsSound old → trees_in after ≤ length (in_hand old.draft)
    → IsGood (length old.draft.table.names) (length old.draft.table.classes) (piled after (in_hand old.draft))
    → IsSameCount (pile_of old) (piled after (in_hand old.draft)) → IsSound new
sound-relaid old new after keeps scope things sound matched good same =
    let pile : pile_of new ≡ piled after (in_hand old.draft) = ap₂ piled things (ap in_hand keeps.draft) in
    let count : IsCount old.scope (piled after (in_hand old.draft)) = count-same old.scope (pile_of old) (piled after (in_hand old.draft)) same sound.counts.0 in
    record {
      matched = rw things (rw (ap in_hand keeps.draft) matched);
      good = rw pile (rw keeps.draft good);
      counts = rw pile (rw scope (rw keeps.outer (count, rw same.outer sound.counts.1)));
      scopes = rw keeps.outer (sound.scopes ∙ sym same.scopes ∙ ap marks (sym pile));
      pending = keeps.declaring ∙ sound.pending ∙ sym same.pending ∙ ap declaring (sym pile);
      named = rw keeps.scripts (rw keeps.draft sound.named);
      few_types = rw pile (rw keeps.draft (rw same.pending sound.few_types));
    }

pub work-relaid : (old new : Builder) (after : List Held) → KeepsRest old new → new.depth ≡ old.depth → things_of new ≡ after
    → work_of new ≡ record (work_of old) { pile = piled after (in_hand old.draft) }
work-relaid old new after keeps depth things =
    let pile : pile_of new ≡ piled after (in_hand old.draft) = ap₂ piled things (ap in_hand keeps.draft) in
    let work : Draft → List Slot → ℕ → Work = λ d pile depth. record { said = said_of (made_of d); pile = pile; depth = depth } in
    ap (λ d. work d (pile_of new) new.depth) keeps.draft ∙ ap₂ (work old.draft) pile depth

-- ── from these things to those ──

pub pile-was : (b : Builder) (before : List Held) (hand : List Tree) → things_of b ≡ before → in_hand b.draft ≡ hand → pile_of b ≡ piled before hand
pile-was b before hand was hand_is = ap₂ piled was hand_is

pub good-was : (b : Builder) (before : List Held) (hand : List Tree) → things_of b ≡ before → in_hand b.draft ≡ hand → IsSound b
    → IsGood (length b.draft.table.names) (length b.draft.table.classes) (piled before hand)
good-was b before hand was hand_is sound = subst (IsGood (length b.draft.table.names) (length b.draft.table.classes)) (pile-was b before hand was hand_is) sound.good

pub sound-becomes : (old new : Builder) (before after : List Held) (hand : List Tree) → KeepsRest old new → new.scope ≡ old.scope
    → things_of old ≡ before → in_hand old.draft ≡ hand → things_of new ≡ after → IsSound old → trees_in after ≡ trees_in before
    → IsGood (length old.draft.table.names) (length old.draft.table.classes) (piled after hand)
    → IsSameCount (piled before hand) (piled after hand) → IsSound new
sound-becomes old new before after hand keeps scope was hand_is things sound trees good same =
    let matched : trees_in after ≤ length (in_hand old.draft) = omega (arith, trees, sound.matched, ap trees_in was) in
    sound-relaid old new after keeps scope things sound matched (rw hand_is good)
    (subst (λ pile. IsSameCount pile (piled after (in_hand old.draft))) (sym (pile-was old before hand was hand_is)) (rw hand_is same))

pub work-becomes : (old new : Builder) (after : List Held) (hand : List Tree) → KeepsRest old new → new.depth ≡ old.depth
    → in_hand old.draft ≡ hand → things_of new ≡ after → work_of new ≡ record (work_of old) { pile = piled after hand }
work-becomes old new after hand keeps depth hand_is things =
    work-relaid old new after keeps depth things ∙ ap (λ (trees : List Tree). let w : Work = record (work_of old) { pile = piled after trees } in w) hand_is
