-- A body ends: its definition is the next node, and counts in the scope around it.
use Rattle.std.proofs.Common.{◌≡◌, ℕ, ◌+◌, ◌-◌, ◌≤◌, suc, List, [], ◌∷◌, ◌++◌, refl, sym, ◌∙◌, ap, ap₂, subst, length, reverse, drop, arith, take, Vec, Global}
use Rattle.std.specs.{Prelude.nat_eq, Cmp.nat_eq_equiv, Set.distinct_count}
use Rattle.std.proofs.lemmas.List.{reverse-append, length_push, length-map, length-reverse}
use Rattle.std.proofs.lemmas.Map.Made.{length-from_keys}
use Rattle.hb_types.specs.declared.ids.NameId.{NameId}
use Rattle.hb_tree.specs.{Tree.Tree, Counts.names_assigned_in, Counts.variables_in}
use Rattle.hb_tree.specs.declared.limits.TheConstants.{VARIABLES_MAX}
use Rattle.hb_draft.specs.Unfinished.{in_hand}
use Rattle.hb_draft.specs.declared.draft.Draft.{Draft}
use Rattle.hb_build.proofs.{TakeLemmas.top-closed, TakeLemmas.top-body, RelaidLemmas.IsSameCount, RelaidLemmas.count-same, BlockLemmas.cut-is, ParameterLemmas.few-parameters}
use Rattle.hb_build.proofs.{PiledLemmas.parameters-piled, PiledLemmas.below-parameters-piled, DefLemmas.hand-without}
use Rattle.hb_build.specs.declared.{builder.Builder.Builder, builder.Scope.Scope, held.Held.Held}
use Rattle.hb_build.specs.declared.held.Held.TheVariants as held
use Rattle.hb_build.specs.Pile.{Slot, Closed, Parameter, Body, piled, declaring, parameters_on, below_parameters}
use Rattle.hb_build.specs.Acts.{Work, Answer, Lost, define, closed, with_closed, with_body}
use Rattle.hb_build.specs.Sound.{things_of, pile_of, work_of, trees_in, IsGood, outside, marks, IsCount, AreCounts, IsSound, numbers, parameters_of}
use Rattle.hb_build.specs.Ended.{without_last, definition, IsEnded}
use Rattle.hb_build.proofs.ParamsLemmas.{params-apart, params-few, params-known, below-params-good}

-- ── parameters count for nothing ──

pub parameters-quiet : (pile : List Slot) → IsSameCount pile (below_parameters pile)
parameters-quiet (Parameter x ∷ pile) =
    let same = parameters-quiet pile in
    record { body = same.body; nodes = same.nodes; calls = same.calls; names = same.names; outer = same.outer; scopes = same.scopes; pending = same.pending }
parameters-quiet [] = record { body = refl; nodes = refl; calls = refl; names = refl; outer = refl; scopes = refl; pending = refl }
parameters-quiet (_ ∷ pile) = record { body = refl; nodes = refl; calls = refl; names = refl; outer = refl; scopes = refl; pending = refl }

-- nor have they trees in hand
trees-below : (things : List Held) → trees_in (drop (length (parameters_of things)) things) ≡ trees_in things
trees-below (held.Parameter x ∷ things) =
    let e : length (parameters_of things ++ x.0 ∷ []) ≡ suc (length (parameters_of things)) = omega (arith, length_push (parameters_of things) x.0) in
    rw e (trees-below things)
trees-below [] = refl
trees-below (_ ∷ things) = refl

-- the parameters are as many of the last things
pub few-on-top : (held rest : List Held) (params : List NameId) → reverse held ≡ rest → numbers params ≡ parameters_of rest → length params ≤ length held
few-on-top held rest params is are =
    omega (arith, few-parameters rest, ap length is, length-reverse held, ap length are, length-map params (λ x. x.0))

-- and what is left without them lies below
pub cut-parameters : (held rest cut : List Held) (params : List NameId) (size few : ℕ) → reverse held ≡ rest → numbers params ≡ parameters_of rest
    → size ≡ length held → few ≡ length params → cut ≡ take (size - few) held → reverse cut ≡ drop (length (parameters_of rest)) rest
cut-parameters held rest cut params size few is are long many e =
    let n : few ≡ length (parameters_of rest) = omega (arith, many, ap length are, length-map params (λ x. x.0)) in
    let le : few ≤ length held = omega (arith, many, few-on-top held rest params is are) in
    cut-is few held cut held size refl le long e ∙ ap₂ (λ (k : ℕ) (xs : List Held). drop k xs) n is

-- ── what lies on top ──

-- a block over the mark at which its body began
pub record BodyTop (b : Builder) : Type 0 where
  pub rest : List Held
  pub block : Tree
  pub others : List Tree
  pub things_are : things_of b ≡ held.Closed ∷ held.Body ∷ rest
  pub hand_is : in_hand b.draft ≡ block ∷ others
  pub fits : define (parameters_on (piled rest others)) block (below_parameters (piled rest others)) (closed (work_of b)) ≡ Lost → ⊥

abbrev pub answer : Builder → Answer
answer b = with_closed (pile_of b) (λ e pile. with_body pile (λ pile. define (parameters_on pile) e (below_parameters pile) (closed (work_of b))))

pub body-top : (b : Builder) → (answer b ≡ Lost → ⊥) → BodyTop b
body-top b kept =
    let t = top-closed (things_of b) (in_hand b.draft) (λ e pile. with_body pile (λ pile. define (parameters_on pile) e (below_parameters pile) (closed (work_of b)))) kept in
    let u = top-body t.0 t.2 (λ pile. define (parameters_on pile) t.1 (below_parameters pile) (closed (work_of b))) t.5 in
    record { rest = u.0; block = t.1; others = t.2; things_are = t.3 ∙ ap (λ (x : List Held). held.Closed ∷ x) u.1; hand_is = t.4; fits = u.2 }

-- ── the builder then ──

-- the innermost scope ended, and of what was held the method is left with what lies below it
pub record Ends (old new : Builder) (rest : List Held) : Type 0 where
  pub draft : new.draft ≡ old.draft
  pub things_are : things_of new ≡ drop (length (parameters_of rest)) rest
  pub scopes : old.outer.items ≡ new.outer.items ++ new.scope ∷ []
  pub declaring : new.declaring ≡ old.declaring
  pub scripts : new.scripts ≡ old.scripts
  pub depth : new.depth ≡ old.depth - 1

module _ (old new : Builder) (sound : IsSound old) (t : BodyTop old) (ends : Ends old new t.rest) where
  abbrev pub below : List Slot
  below = piled t.rest t.others

  pile_is : pile_of old ≡ Closed t.block ∷ Body ∷ below
  pile_is = ap₂ piled t.things_are t.hand_is

  hand_is : in_hand new.draft ≡ t.block ∷ t.others
  hand_is = ap in_hand ends.draft ∙ t.hand_is

  rest-in-hand : in_hand (without_last new).draft ≡ t.others
  rest-in-hand = hand-without new.draft t.block t.others hand_is

  pub pile-then : pile_of (without_last new) ≡ below_parameters below
  pile-then = ap₂ piled ends.things_are rest-in-hand ∙ sym (below-parameters-piled t.rest t.others)

  good : IsGood (length old.draft.table.names) (length old.draft.table.classes) (Closed t.block ∷ Body ∷ below)
  good = subst (λ (x : List Slot). IsGood (length old.draft.table.names) (length old.draft.table.classes) x) pile_is sound.good

  count : IsCount old.scope (Closed t.block ∷ Body ∷ below)
  count = subst (λ (x : List Slot). IsCount old.scope x) pile_is sound.counts.0

  around : IsCount new.scope below × AreCounts (reverse new.outer.items) (outside below)
  around =
      let outer : reverse old.outer.items ≡ new.scope ∷ reverse new.outer.items = ap reverse ends.scopes ∙ reverse-append new.outer.items (new.scope ∷ []) in
      subst (λ (x : List Scope). AreCounts x below) outer
      (subst (λ (x : List Slot). AreCounts (reverse old.outer.items) (outside x)) pile_is sound.counts.1)

  sound-then : IsSound (without_last new)
  sound-then =
      let same = parameters-quiet below in
      let was : length old.outer.items ≡ 1 + marks below = sound.scopes ∙ ap marks pile_is in
      let long : length old.outer.items ≡ length new.outer.items + 1 = ap length ends.scopes ∙ length_push new.outer.items new.scope in
      let pending : declaring (pile_of old) ≡ declaring below = ap declaring pile_is in
      let trees : trees_in (things_of old) ≡ 1 + trees_in t.rest = ap trees_in t.things_are in
      let few : length (in_hand old.draft) ≡ length (t.block ∷ t.others) = ap length t.hand_is in
      record {
        matched = rw ends.things_are (rw rest-in-hand (omega (arith, trees, few, sound.matched, trees-below t.rest)));
        good = rw pile-then (rw ends.draft (below-params-good _ _ below good.1));
        counts = rw pile-then ((count-same new.scope below (below_parameters below) same around.0, rw same.outer around.1));
        scopes = rw pile-then (omega (arith, was, long, same.scopes));
        pending = rw pile-then (rw ends.declaring (sound.pending ∙ pending ∙ sym same.pending));
        named = rw ends.scripts (rw ends.draft sound.named);
        few_types = rw pile-then (rw ends.draft (omega (arith, sound.few_types, pending, same.pending)));
      }

  -- the block keeps the limits of a body
  few-variables : variables_in (parameters_on below) t.block ≤ VARIABLES_MAX
  few-variables =
      let all : length (numbers old.scope.variables.items) ≡ distinct_count nat_eq (parameters_on below ++ names_assigned_in t.block) =
      length-from_keys nat_eq_equiv (numbers old.scope.variables.items) (parameters_on below ++ names_assigned_in t.block) count.apart count.same in
      let long : length (numbers old.scope.variables.items) ≡ length old.scope.variables.items = length-map old.scope.variables.items (λ x. x.0) in
      omega (arith, all, long, count.few)

  defined : define (parameters_on below) t.block (below_parameters below) (closed (work_of old)) ≡ definition (parameters_on below) t.block new
  defined =
      ap₂ (λ (d : Draft) (n : ℕ). let w : Work = record (work_of old) { said = (work_of (record old { draft = d })).said; depth = n } in
      define (parameters_on below) t.block (below_parameters below) w) (sym ends.draft) (sym ends.depth)
      ∙ ap (λ (x : List Slot). define (parameters_on below) t.block x (work_of (without_last new))) (sym pile-then)

  pub definition-is : answer old ≡ definition (parameters_on below) t.block new
  definition-is =
      ap (λ (x : List Slot). with_closed x (λ e pile. with_body pile (λ pile. define (parameters_on pile) e (below_parameters pile) (closed (work_of old))))) pile_is ∙ defined

  pub ended : IsEnded (parameters_on below) new
  ended = record {
    block = t.block;
    others = t.others;
    hand_is = hand_is;
    kind = good.0;
    few_nodes = omega (arith, count.few_nodes refl);
    few_calls = omega (arith, count.few_calls refl);
    few_variables = few-variables;
    are_params = record {
      few = params-few _ _ below good.1;
      known = rw ends.draft (params-known _ _ below good.1);
      apart = params-apart _ _ below good.1;
    };
    sound = sound-then;
    fits = λ lost. t.fits (defined ∙ lost);
  }

-- ── as the code comes there ──

-- Block and mark were dropped and the scope ended; these are the parameters on top of what is held.
module _ (old scoped : Builder) (sound : IsSound old) (t : BodyTop old) (dropped : Vec Held Global) (off : reverse dropped.items ≡ t.rest)
    (outer : old.outer.items ≡ scoped.outer.items ++ scoped.scope ∷ []) (is : scoped ≡ record old { held = dropped; scope = scoped.scope; outer = scoped.outer })
    (seen : List Held) (sees : seen ≡ scoped.held.items) (params : List NameId) (on_top : numbers params ≡ parameters_of (reverse seen)) where
  seen_is : reverse seen ≡ t.rest
  seen_is = ap reverse sees ∙ ap (λ (x : Builder). reverse x.held.items) is ∙ off

  params_are : numbers params ≡ parameters_of t.rest
  params_are = on_top ∙ ap parameters_of seen_is

  pub few-params : length params ≤ length seen
  few-params = few-on-top seen t.rest params seen_is params_are

  -- the parameters are taken off too, and a construct is closed
  module _ (cut : Vec Held Global) (size few depth : ℕ) (long : size ≡ length seen) (many : few ≡ length params) (cut_is : cut.items ≡ take (size - few) scoped.held.items) (depth_is : depth ≡ scoped.depth - 1) where
    abbrev pub left : Builder
    left = record scoped { held = cut; depth = depth }

    ends : Ends old left t.rest
    ends = record {
      draft = ap (λ (x : Builder). x.draft) is;
      things_are = cut-parameters seen t.rest cut.items params size few seen_is params_are long many (cut_is ∙ ap (λ (x : List Held). take (size - few) x) (sym sees));
      scopes = outer;
      declaring = ap (λ (x : Builder). x.declaring) is;
      scripts = ap (λ (x : Builder). x.scripts) is;
      depth = depth_is ∙ ap (λ (x : Builder). x.depth - 1) is;
    }

    names : numbers params ≡ parameters_on (piled t.rest t.others)
    names = params_are ∙ sym (parameters-piled t.rest t.others)

    pub ended-left : IsEnded (numbers params) left
    ended-left = subst (λ (x : List ℕ). IsEnded x left) (sym names) (ended old left sound t ends)

    pub definition-left : answer old ≡ definition (numbers params) t.block left
    definition-left = definition-is old left sound t ends ∙ ap (λ (x : List ℕ). definition x t.block left) (sym names)

    pub hand-left : in_hand scoped.draft ≡ t.block ∷ t.others
    hand-left = ap (λ (x : Builder). in_hand x.draft) is ∙ t.hand_is
