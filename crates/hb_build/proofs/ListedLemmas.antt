-- Expressions that are listed on top of the pile: the items of a block, or the arguments of a call.
use Rattle.std.proofs.Common.{◌≡◌, ℕ, zero, suc, ◌+◌, ◌<◌, ◌≤◌, List, [], ◌∷◌, ◌++◌, Some, refl, sym, ◌∙◌, ap, subst, length, reverse, take, drop, slice_get, arith, append_assoc}
use Rattle.std.proofs.lemmas.List.{reverse-append, append-nil}
use Rattle.std.specs.List.{AllByRecursion}
use Rattle.hb_tree.specs.Tree.{Tree, IsExpr}
use Rattle.hb_tree.specs.Counts.{nodes_in, nodes_in_all, calls_in, calls_in_all, names_assigned_in, names_assigned_in_all}
use Rattle.hb_draft.specs.Unfinished.{forest_of, IsExprPart}
use Rattle.hb_tree.specs.declared.limits.TheConstants.{HEIGHT_MAX}
use Rattle.hb_build.specs.declared.held.Held.{Held}
use Rattle.hb_build.specs.declared.held.Held.TheVariants as held
use Rattle.hb_build.specs.Pile.{Slot, Item, Argument, piled, items_on, below_items, arguments_on, below_arguments, in_body, nodes_since, calls_since, names_since, declaring}
use Rattle.hb_build.specs.Sound.{trees_in, IsGood, outside, marks}
use Rattle.hb_build.proofs.HighestLemmas.{tallest}

-- how a thing that lists an expression counts
pub record IsListed (thing : Held) (slot : Tree → Slot) : Type 0 where
  pub pile : (things : List Held) (e : Tree) (hand : List Tree) → piled (thing ∷ things) (e ∷ hand) ≡ slot e ∷ piled things hand
  pub trees : (things : List Held) → trees_in (thing ∷ things) ≡ 1 + trees_in things
  pub body : (e : Tree) (pile : List Slot) → in_body (slot e ∷ pile) ≡ in_body pile
  pub nodes : (e : Tree) (pile : List Slot) → nodes_since (slot e ∷ pile) ≡ nodes_since pile + nodes_in e
  pub calls : (e : Tree) (pile : List Slot) → calls_since (slot e ∷ pile) ≡ calls_since pile + calls_in e
  pub names : (e : Tree) (pile : List Slot) → names_since (slot e ∷ pile) ≡ names_since pile ++ names_assigned_in e
  pub outer : (e : Tree) (pile : List Slot) → outside (slot e ∷ pile) ≡ outside pile
  pub scopes : (e : Tree) (pile : List Slot) → marks (slot e ∷ pile) ≡ marks pile
  pub pending : (e : Tree) (pile : List Slot) → declaring (slot e ∷ pile) ≡ declaring pile
  pub good : (names classes : ℕ) (e : Tree) (pile : List Slot) → IsGood names classes (slot e ∷ pile) → IsExpr e × IsGood names classes pile

pub items-listed : IsListed held.Item Item
items-listed = record {
  pile = λ things e hand. refl;
  trees = λ things. refl;
  body = λ e pile. refl;
  nodes = λ e pile. refl;
  calls = λ e pile. refl;
  names = λ e pile. refl;
  outer = λ e pile. refl;
  scopes = λ e pile. refl;
  pending = λ e pile. refl;
  good = λ names classes e pile h. (h.0, h.1);
}

pub arguments-listed : IsListed held.Argument Argument
arguments-listed = record {
  pile = λ things e hand. refl;
  trees = λ things. refl;
  body = λ e pile. refl;
  nodes = λ e pile. refl;
  calls = λ e pile. refl;
  names = λ e pile. refl;
  outer = λ e pile. refl;
  scopes = λ e pile. refl;
  pending = λ e pile. refl;
  good = λ names classes e pile h. (h.0, h.2);
}

-- the expressions in the order of the text, over what lies below them
pub data Over (slot : Tree → Slot) : List Slot → List Tree → List Slot → Type 0 where
  Here : (pile : List Slot) → Over slot pile [] pile
  More : (e : Tree) (pile : List Slot) (es : List Tree) (below : List Slot) → Over slot pile es below → Over slot (slot e ∷ pile) (es ++ e ∷ []) below

-- a run of such things lists the last trees in hand
pub run-over : (thing : Held) (slot : Tree → Slot) → IsListed thing slot → (n : ℕ) (things : List Held) (hand : List Tree) → AllByRecursion (λ t. t ≡ thing) (take n things) → n ≤ length things
    → trees_in things ≤ length hand
    → Over slot (piled things hand) (reverse (take n hand)) (piled (drop n things) (drop n hand))
run-over thing slot is zero things hand all fits matched = Here (piled things hand)
run-over thing slot is (suc n) [] hand all fits matched = absurd (omega (arith, fits))
run-over thing slot is (suc n) (t ∷ things) [] all fits matched =
    let m : trees_in (thing ∷ things) ≤ 0 = subst (λ (x : Held). trees_in (x ∷ things) ≤ 0) all.0 matched in
    absurd (omega (arith, m, is.trees things))
run-over thing slot is (suc n) (t ∷ things) (e ∷ hand) all fits matched =
    let m : trees_in (thing ∷ things) ≤ length (e ∷ hand) = subst (λ (x : Held). trees_in (x ∷ things) ≤ length (e ∷ hand)) all.0 matched in
    let r : Over slot (piled things hand) (reverse (take n hand)) (piled (drop n things) (drop n hand)) = run-over thing slot is n things hand all.1 (omega (arith, fits)) (omega (arith, m, is.trees things)) in
    let more : Over slot (slot e ∷ piled things hand) (reverse (take n hand) ++ e ∷ []) (piled (drop n things) (drop n hand)) = More e (piled things hand) (reverse (take n hand))
    (piled (drop n things) (drop n hand)) r in
    let front : piled (t ∷ things) (e ∷ hand) ≡ slot e ∷ piled things hand = ap (λ (x : Held). piled (x ∷ things) (e ∷ hand)) all.0 ∙ is.pile things e hand in
    subst (λ (x : List Slot). Over slot x (reverse (take (suc n) (e ∷ hand))) (piled (drop n things) (drop n hand))) (sym front)
    (subst (λ (x : List Tree). Over slot (slot e ∷ piled things hand) x (piled (drop n things) (drop n hand))) (sym (reverse-append (e ∷ []) (take n hand))) more)

pub run-trees : (thing : Held) (slot : Tree → Slot) → IsListed thing slot → (n : ℕ) (things : List Held) → AllByRecursion (λ t. t ≡ thing) (take n things) → n ≤ length things
    → trees_in things ≡ n + trees_in (drop n things)
run-trees thing slot is zero things all fits = omega arith
run-trees thing slot is (suc n) [] all fits = absurd (omega (arith, fits))
run-trees thing slot is (suc n) (t ∷ things) all fits =
    let h : trees_in things ≡ n + trees_in (drop n things) = run-trees thing slot is n things all.1 (omega (arith, fits)) in
    let m : trees_in (t ∷ things) ≡ trees_in (thing ∷ things) = ap (λ (x : Held). trees_in (x ∷ things)) all.0 in
    omega (arith, h, m, is.trees things)

-- ── counts ──

nodes-last : (es : List Tree) (e : Tree) → nodes_in_all (forest_of (es ++ e ∷ [])) ≡ nodes_in_all (forest_of es) + nodes_in e
nodes-last [] e = omega arith
nodes-last (x ∷ es) e = let h : nodes_in_all (forest_of (es ++ e ∷ [])) ≡ nodes_in_all (forest_of es) + nodes_in e = nodes-last es e in omega (arith, h)

calls-last : (es : List Tree) (e : Tree) → calls_in_all (forest_of (es ++ e ∷ [])) ≡ calls_in_all (forest_of es) + calls_in e
calls-last [] e = omega arith
calls-last (x ∷ es) e = let h : calls_in_all (forest_of (es ++ e ∷ [])) ≡ calls_in_all (forest_of es) + calls_in e = calls-last es e in omega (arith, h)

names-last : (es : List Tree) (e : Tree) → names_assigned_in_all (forest_of (es ++ e ∷ [])) ≡ names_assigned_in_all (forest_of es) ++ names_assigned_in e
names-last [] e = append-nil (names_assigned_in e)
names-last (x ∷ es) e = ap (λ (y : List ℕ). names_assigned_in x ++ y) (names-last es e) ∙ sym (append_assoc (names_assigned_in x) (names_assigned_in_all (forest_of es)) (names_assigned_in e))

-- what lists of expressions count, and what lies below them
pub record Counts (pile : List Slot) (es : List Tree) (below : List Slot) : Type 0 where
  pub body : in_body pile ≡ in_body below
  pub nodes : nodes_since pile ≡ nodes_since below + nodes_in_all (forest_of es)
  pub calls : calls_since pile ≡ calls_since below + calls_in_all (forest_of es)
  pub names : names_since pile ≡ names_since below ++ names_assigned_in_all (forest_of es)
  pub outer : outside pile ≡ outside below
  pub scopes : marks pile ≡ marks below
  pub pending : declaring pile ≡ declaring below

pub over-counts : (thing : Held) (slot : Tree → Slot) → IsListed thing slot → (pile : List Slot) (es : List Tree) (below : List Slot) → Over slot pile es below → Counts pile es below
over-counts thing slot is pile es below (Here p) = record { body = refl; nodes = omega arith; calls = omega arith; names = sym (append-nil (names_since p)); outer = refl; scopes = refl; pending = refl }
over-counts thing slot is pile es below (More e p xs b o) =
    let h : Counts p xs b = over-counts thing slot is p xs b o in
    record {
      body = is.body e p ∙ h.body;
      nodes = omega (arith, is.nodes e p, h.nodes, nodes-last xs e);
      calls = omega (arith, is.calls e p, h.calls, calls-last xs e);
      names = is.names e p ∙ ap (λ (x : List ℕ). x ++ names_assigned_in e) h.names ∙ append_assoc (names_since b) (names_assigned_in_all (forest_of xs)) (names_assigned_in e)
          ∙ ap (λ (x : List ℕ). names_since b ++ x) (sym (names-last xs e));
      outer = is.outer e p ∙ h.outer;
      scopes = is.scopes e p ∙ h.scopes;
      pending = is.pending e p ∙ h.pending;
    }

-- ── what is listed is an expression ──

pub over-good : (thing : Held) (slot : Tree → Slot) → IsListed thing slot → (names classes : ℕ) (pile : List Slot) (es : List Tree) (below : List Slot) → Over slot pile es below
    → IsGood names classes pile → IsGood names classes below
over-good thing slot is names classes pile es below (Here p) good = good
over-good thing slot is names classes pile es below (More e p xs b o) good = over-good thing slot is names classes p xs b o (is.good names classes e p good).1

-- the last trees in hand, under a run of such things, are expressions
pub run-exprs : (thing : Held) (slot : Tree → Slot) → IsListed thing slot → (names classes : ℕ) (n : ℕ) (things : List Held) (hand : List Tree) → AllByRecursion (λ t. t ≡ thing) (take n things)
    → n ≤ length things → trees_in things ≤ length hand
    → IsGood names classes (piled things hand) → AllByRecursion IsExpr (take n hand)
run-exprs thing slot is names classes zero things hand all fits matched good = tt
run-exprs thing slot is names classes (suc n) [] hand all fits matched good = absurd (omega (arith, fits))
run-exprs thing slot is names classes (suc n) (t ∷ things) [] all fits matched good = tt
run-exprs thing slot is names classes (suc n) (t ∷ things) (e ∷ hand) all fits matched good =
    let m : trees_in (thing ∷ things) ≤ length (e ∷ hand) = subst (λ (x : Held). trees_in (x ∷ things) ≤ length (e ∷ hand)) all.0 matched in
    let front : piled (t ∷ things) (e ∷ hand) ≡ slot e ∷ piled things hand = ap (λ (x : Held). piled (x ∷ things) (e ∷ hand)) all.0 ∙ is.pile things e hand in
    let g : IsExpr e × IsGood names classes (piled things hand) = is.good names classes e (piled things hand) (subst (λ (x : List Slot). IsGood names classes x) front good) in
    (g.0, run-exprs thing slot is names classes n things hand all.1 (omega (arith, fits)) (omega (arith, m, is.trees things)) g.1)

pub low-parts : (ts : List Tree) (most : ℕ) → tallest ts ≤ most → most < HEIGHT_MAX → AllByRecursion IsExpr ts → AllByRecursion IsExprPart ts
low-parts [] most le lt all = tt
low-parts (t ∷ ts) most le lt all = (record { kind = all.0; low = omega (arith, le, lt) }, low-parts ts most (omega (arith, le)) lt all.1)

-- ── where the run ends ──

pub items-end : (things : List Held) (hand : List Tree) → (slice_get things 0 ≡ Some held.Item → ⊥) → (items_on (piled things hand) ≡ []) × (below_items (piled things hand) ≡ piled things hand)
items-end (held.Operand ∷ things) [] other = (refl, refl)
items-end (held.Closed ∷ things) [] other = (refl, refl)
items-end (held.Item ∷ things) hand other = absurd (other refl)
items-end (held.Argument ∷ things) [] other = (refl, refl)
items-end (held.Computed c ∷ things) [] other = (refl, refl)
items-end _ _ _ = (refl, refl)

pub items-over : (pile : List Slot) (es : List Tree) (below : List Slot) → Over Item pile es below → (items_on pile ≡ items_on below ++ es) × (below_items pile ≡ below_items below)
items-over pile es below (Here p) = (sym (append-nil (items_on p)), refl)
items-over pile es below (More e p xs b o) =
    let h : (items_on p ≡ items_on b ++ xs) × (below_items p ≡ below_items b) = items-over p xs b o in
    (ap (λ (x : List Tree). x ++ e ∷ []) h.0 ∙ append_assoc (items_on b) xs (e ∷ []), h.1)

-- ── where the run ends ──

pub arguments-end : (things : List Held) (hand : List Tree) → (slice_get things 0 ≡ Some held.Argument → ⊥) → (arguments_on (piled things hand) ≡ []) × (below_arguments (piled things hand) ≡ piled things hand)
arguments-end (held.Operand ∷ things) [] other = (refl, refl)
arguments-end (held.Closed ∷ things) [] other = (refl, refl)
arguments-end (held.Item ∷ things) [] other = (refl, refl)
arguments-end (held.Argument ∷ things) hand other = absurd (other refl)
arguments-end (held.Computed c ∷ things) [] other = (refl, refl)
arguments-end _ _ _ = (refl, refl)

pub arguments-over : (pile : List Slot) (es : List Tree) (below : List Slot) → Over Argument pile es below → (arguments_on pile ≡ arguments_on below ++ es) × (below_arguments pile ≡ below_arguments below)
arguments-over pile es below (Here p) = (sym (append-nil (arguments_on p)), refl)
arguments-over pile es below (More e p xs b o) =
    let h : (arguments_on p ≡ arguments_on b ++ xs) × (below_arguments p ≡ below_arguments b) = arguments-over p xs b o in
    (ap (λ (x : List Tree). x ++ e ∷ []) h.0 ∙ append_assoc (arguments_on b) xs (e ∷ []), h.1)
