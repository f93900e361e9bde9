-- An operation over two operands, its own token between them.
use Rattle.std.proofs.Common.{◌≡◌, ℕ, ◌≤◌, List, ◌∷◌, refl, sym, ◌∙◌, ap, ap₂, subst, length, max, arith, append_assoc}
use Rattle.hb_tree.specs.declared.node.Op.{Op}
use Rattle.hb_tree.specs.{Tree.Tree, Tree.TBinary, Counts.height, Counts.highest, Counts.names_assigned_in}
use Rattle.hb_draft.specs.Unfinished.{in_hand, forest_of, last_in}
use Rattle.hb_build.proofs.{TakeLemmas.top-operand, TakeLemmas.top-own, NodeLemmas.IsOneMore, StepLemmas.IsStep}
use Rattle.hb_build.specs.declared.{builder.Builder.Builder, held.Held.Held, held.Spot.Spot}
use Rattle.hb_build.specs.declared.held.Held.TheVariants as held
use Rattle.hb_build.specs.Pile.{Slot, Operand, Own, piled, names_since}
use Rattle.hb_build.specs.Acts.{Work, Answer, Lost, complete, with_operand, with_own}
use Rattle.hb_build.specs.Sound.{things_of, pile_of, work_of, trees_in, IsGood, IsSound}

pub record BinaryTop (b : Builder) : Type 0 where
  pub rest : List Held
  pub spot : Spot
  pub e2 : Tree
  pub e1 : Tree
  pub others : List Tree
  pub things_are : things_of b ≡ held.Operand ∷ held.Own spot ∷ held.Operand ∷ rest
  pub hand_is : in_hand b.draft ≡ e2 ∷ e1 ∷ others

pub binary-top : (b : Builder) (go : Tree → Spot → Tree → List Slot → Answer) → (with_operand (pile_of b) (λ e2 pile. with_own pile (λ q pile. with_operand pile (λ e1 pile. go e2 q e1 pile))) ≡ Lost → ⊥) → BinaryTop b
binary-top b go kept =
    let x0 = top-operand (things_of b) (in_hand b.draft) (λ e2 pile. with_own pile (λ q pile. with_operand pile (λ e1 pile. go e2 q e1 pile))) kept in
    let x1 = top-own x0.0 x0.2 (λ q pile. with_operand pile (λ e1 pile. go x0.1 q e1 pile)) x0.5 in
    let x2 = top-operand x1.0 x0.2 (λ e1 pile. go x0.1 x1.1 e1 pile) x1.3 in
    record {
      rest = x2.0;
      spot = x1.1;
      e2 = x0.1;
      e1 = x2.1;
      others = x2.2;
      things_are = x0.3 ∙ ap (λ (x : List Held). held.Operand ∷ x) (x1.2 ∙ ap (λ (x : List Held). held.Own x1.1 ∷ x) (x2.3));
      hand_is = x0.4 ∙ ap (λ (x : List Tree). x0.1 ∷ x) (x2.4);
    }

-- the same by what was taken off
abbrev pub binary-retop : (b : Builder) (t : BinaryTop b) (rest : List Held) (spot : Spot) → held.Operand ∷ held.Own t.spot ∷ held.Operand ∷ t.rest ≡ held.Operand ∷ held.Own spot ∷ held.Operand ∷ rest → BinaryTop b
binary-retop b t rest spot is = record { rest = rest; spot = spot; e2 = t.e2; e1 = t.e1; others = t.others; things_are = t.things_are ∙ is; hand_is = t.hand_is }

module _ (b : Builder) (sound : IsSound b) (op : Op) (t : BinaryTop b) (w : Work) (places : w.said.places ≡ (work_of b).said.places) (top : ℕ) (is_top : top ≡ highest (forest_of (last_in 2 (in_hand b.draft)))) where
  abbrev pub answer : Answer
  answer = with_operand (pile_of b) (λ e2 pile. with_own pile (λ q pile. with_operand pile (λ e1 pile. complete q (λ id. TBinary id op e1 e2) Operand pile w)))

  pile_is : pile_of b ≡ Operand t.e2 ∷ Own t.spot ∷ Operand t.e1 ∷ piled t.rest t.others
  pile_is = ap₂ piled t.things_are t.hand_is

  pub binary-good : IsGood (length b.draft.table.names) (length b.draft.table.classes) (Operand t.e2 ∷ Own t.spot ∷ Operand t.e1 ∷ piled t.rest t.others)
  binary-good = subst (λ (x : List Slot). IsGood (length b.draft.table.names) (length b.draft.table.classes) x) pile_is sound.good

  pub binary-high : top ≡ max (height t.e1) (max (height t.e2) 0)
  binary-high = is_top ∙ ap (λ (x : List Tree). highest (forest_of (last_in 2 x))) t.hand_is

  more : IsOneMore (Operand t.e2 ∷ Own t.spot ∷ Operand t.e1 ∷ piled t.rest t.others) (Operand (TBinary (length (work_of b).said.places) op t.e1 t.e2) ∷ piled t.rest t.others)
  more = record {
    body = refl;
    nodes = omega arith;
    calls = omega arith;
    names = sym (append_assoc (names_since (piled t.rest t.others)) (names_assigned_in t.e1) (names_assigned_in t.e2));
    outer = refl;
    scopes = refl;
    pending = refl;
  }

  matched-after : trees_in (held.Operand ∷ t.rest) ≤ length (TBinary (length (work_of b).said.places) op t.e1 t.e2 ∷ t.others)
  matched-after =
      let h : trees_in (held.Operand ∷ held.Own t.spot ∷ held.Operand ∷ t.rest) ≤ length (t.e2 ∷ t.e1 ∷ t.others) =
      subst (λ (x : List Held). trees_in x ≤ length (t.e2 ∷ t.e1 ∷ t.others)) t.things_are (subst (λ (x : List Tree). trees_in (things_of b) ≤ length x) t.hand_is sound.matched) in
      omega (arith, h)

  pub binary-step : IsStep b answer t.spot top w (held.Operand ∷ t.rest) (TBinary (length (work_of b).said.places) op t.e1 t.e2 ∷ t.others)
  binary-step = record {
    make = λ id. TBinary id op t.e1 t.e2;
    slot = Operand;
    pile = piled t.rest t.others;
    is = ap (λ (x : List Slot). with_operand x (λ e2 pile. with_own pile (λ q pile. with_operand pile (λ e1 pile. complete q (λ id. TBinary id op e1 e2) Operand pile w)))) pile_is;
    places = places;
    high = let h = binary-high in omega (arith, h);
    more = subst (λ (x : List Slot). IsOneMore x (Operand (TBinary (length (work_of b).said.places) op t.e1 t.e2) ∷ piled t.rest t.others)) (sym pile_is) more;
    top = refl;
    matched = matched-after;
    good = (tt, binary-good.1.1);
  }
