-- A choice: its condition and two blocks, over its own token.
use Rattle.std.proofs.Common.{◌≡◌, ℕ, ◌≤◌, List, ◌∷◌, ◌++◌, refl, sym, ◌∙◌, ap, ap₂, subst, length, max, arith, append_assoc}
use Rattle.hb_tree.specs.{Tree.Tree, Tree.TIf, Counts.height, Counts.highest, Counts.names_assigned_in}
use Rattle.hb_draft.specs.Unfinished.{in_hand, forest_of, last_in}
use Rattle.hb_build.proofs.{NodeLemmas.IsOneMore, StepLemmas.IsStep}
use Rattle.hb_build.specs.declared.{builder.Builder.Builder, held.Held.Held, held.Spot.Spot}
use Rattle.hb_build.specs.declared.held.Held.TheVariants as held
use Rattle.hb_build.specs.Pile.{Slot, Operand, Closed, Own, piled, names_since}
use Rattle.hb_build.specs.Acts.{Work, Answer, Lost, complete, with_operand, with_closed, with_own}
use Rattle.hb_build.specs.Sound.{things_of, pile_of, work_of, trees_in, IsGood, IsSound}
use Rattle.hb_build.proofs.TakeLemmas.{top-operand, top-closed, top-own}

pub record IfTop (b : Builder) : Type 0 where
  pub rest : List Held
  pub spot : Spot
  pub b2 : Tree
  pub b1 : Tree
  pub cond : Tree
  pub others : List Tree
  pub things_are : things_of b ≡ held.Closed ∷ held.Closed ∷ held.Operand ∷ held.Own spot ∷ rest
  pub hand_is : in_hand b.draft ≡ b2 ∷ b1 ∷ cond ∷ others

pub if-top : (b : Builder) (go : Tree → Tree → Tree → Spot → List Slot → Answer)
    → (with_closed (pile_of b) (λ b2 pile. with_closed pile (λ b1 pile. with_operand pile (λ cond pile. with_own pile (λ q pile. go b2 b1 cond q pile)))) ≡ Lost → ⊥) → IfTop b
if-top b go kept =
    let x0 = top-closed (things_of b) (in_hand b.draft) (λ b2 pile. with_closed pile (λ b1 pile. with_operand pile (λ cond pile. with_own pile (λ q pile. go b2 b1 cond q pile)))) kept in
    let x1 = top-closed x0.0 x0.2 (λ b1 pile. with_operand pile (λ cond pile. with_own pile (λ q pile. go x0.1 b1 cond q pile))) x0.5 in
    let x2 = top-operand x1.0 x1.2 (λ cond pile. with_own pile (λ q pile. go x0.1 x1.1 cond q pile)) x1.5 in
    let x3 = top-own x2.0 x2.2 (λ q pile. go x0.1 x1.1 x2.1 q pile) x2.5 in
    record {
      rest = x3.0;
      spot = x3.1;
      b2 = x0.1;
      b1 = x1.1;
      cond = x2.1;
      others = x2.2;
      things_are = x0.3 ∙ ap (λ (x : List Held). held.Closed ∷ x) (x1.3 ∙ ap (λ (x : List Held). held.Closed ∷ x) (x2.3 ∙ ap (λ (x : List Held). held.Operand ∷ x) (x3.2)));
      hand_is = x0.4 ∙ ap (λ (x : List Tree). x0.1 ∷ x) (x1.4 ∙ ap (λ (x : List Tree). x1.1 ∷ x) (x2.4));
    }

-- the same by what was taken off
abbrev pub if-retop : (b : Builder) (t : IfTop b) (rest : List Held) (spot : Spot)
    → held.Closed ∷ held.Closed ∷ held.Operand ∷ held.Own t.spot ∷ t.rest ≡ held.Closed ∷ held.Closed ∷ held.Operand ∷ held.Own spot ∷ rest → IfTop b
if-retop b t rest spot is = record { rest = rest; spot = spot; b2 = t.b2; b1 = t.b1; cond = t.cond; others = t.others; things_are = t.things_are ∙ is; hand_is = t.hand_is }

module _ (b : Builder) (sound : IsSound b) (t : IfTop b) (w : Work) (places : w.said.places ≡ (work_of b).said.places) (top : ℕ) (is_top : top ≡ highest (forest_of (last_in 3 (in_hand b.draft)))) where
  abbrev pub answer : Answer
  answer = with_closed (pile_of b) (λ b2 pile. with_closed pile (λ b1 pile. with_operand pile (λ cond pile. with_own pile (λ q pile. complete q (λ id. TIf id cond b1 b2) Operand pile w))))

  pile_is : pile_of b ≡ Closed t.b2 ∷ Closed t.b1 ∷ Operand t.cond ∷ Own t.spot ∷ piled t.rest t.others
  pile_is = ap₂ piled t.things_are t.hand_is

  pub if-good : IsGood (length b.draft.table.names) (length b.draft.table.classes) (Closed t.b2 ∷ Closed t.b1 ∷ Operand t.cond ∷ Own t.spot ∷ piled t.rest t.others)
  if-good = subst (λ (x : List Slot). IsGood (length b.draft.table.names) (length b.draft.table.classes) x) pile_is sound.good

  pub if-high : top ≡ max (height t.cond) (max (height t.b1) (max (height t.b2) 0))
  if-high = is_top ∙ ap (λ (x : List Tree). highest (forest_of (last_in 3 x))) t.hand_is

  more : IsOneMore (Closed t.b2 ∷ Closed t.b1 ∷ Operand t.cond ∷ Own t.spot ∷ piled t.rest t.others) (Operand (TIf (length (work_of b).said.places) t.cond t.b1 t.b2) ∷ piled t.rest t.others)
  more = record {
    body = refl;
    nodes = omega arith;
    calls = omega arith;
    names = sym (append_assoc (names_since (piled t.rest t.others)) (names_assigned_in t.cond ++ names_assigned_in t.b1) (names_assigned_in t.b2))
        ∙ ap (λ (x : List ℕ). x ++ names_assigned_in t.b2) (sym (append_assoc (names_since (piled t.rest t.others)) (names_assigned_in t.cond) (names_assigned_in t.b1)));
    outer = refl;
    scopes = refl;
    pending = refl;
  }

  matched-after : trees_in (held.Operand ∷ t.rest) ≤ length (TIf (length (work_of b).said.places) t.cond t.b1 t.b2 ∷ t.others)
  matched-after =
      let h : trees_in (held.Closed ∷ held.Closed ∷ held.Operand ∷ held.Own t.spot ∷ t.rest) ≤ length (t.b2 ∷ t.b1 ∷ t.cond ∷ t.others) =
      subst (λ (x : List Held). trees_in x ≤ length (t.b2 ∷ t.b1 ∷ t.cond ∷ t.others)) t.things_are (subst (λ (x : List Tree). trees_in (things_of b) ≤ length x) t.hand_is sound.matched) in
      omega (arith, h)

  pub if-step : IsStep b answer t.spot top w (held.Operand ∷ t.rest) (TIf (length (work_of b).said.places) t.cond t.b1 t.b2 ∷ t.others)
  if-step = record {
    make = λ id. TIf id t.cond t.b1 t.b2;
    slot = Operand;
    pile = piled t.rest t.others;
    is = ap (λ (x : List Slot). with_closed x (λ b2 pile. with_closed pile (λ b1 pile. with_operand pile (λ cond pile. with_own pile (λ q pile. complete q (λ id. TIf id cond b1 b2) Operand pile w))))) pile_is;
    places = places;
    high = let h = if-high in omega (arith, h);
    more = subst (λ (x : List Slot). IsOneMore x (Operand (TIf (length (work_of b).said.places) t.cond t.b1 t.b2) ∷ piled t.rest t.others)) (sym pile_is) more;
    top = refl;
    matched = matched-after;
    good = (tt, if-good.1.1.1);
  }
