-- A loop: its condition and its block, over its own token.
use Rattle.std.proofs.Common.{◌≡◌, ℕ, ◌≤◌, List, ◌∷◌, refl, sym, ◌∙◌, ap, ap₂, subst, length, max, arith, append_assoc}
use Rattle.hb_tree.specs.{Tree.Tree, Tree.TWhile, Counts.height, Counts.highest, Counts.names_assigned_in}
use Rattle.hb_draft.specs.Unfinished.{in_hand, forest_of, last_in}
use Rattle.hb_build.proofs.{NodeLemmas.IsOneMore, StepLemmas.IsStep}
use Rattle.hb_build.specs.declared.{builder.Builder.Builder, held.Held.Held, held.Spot.Spot}
use Rattle.hb_build.specs.declared.held.Held.TheVariants as held
use Rattle.hb_build.specs.Pile.{Slot, Operand, Closed, Own, piled, names_since}
use Rattle.hb_build.specs.Acts.{Work, Answer, Lost, complete, with_operand, with_closed, with_own}
use Rattle.hb_build.specs.Sound.{things_of, pile_of, work_of, trees_in, IsGood, IsSound}
use Rattle.hb_build.proofs.TakeLemmas.{top-operand, top-closed, top-own}

pub record WhileTop (b : Builder) : Type 0 where
  pub rest : List Held
  pub spot : Spot
  pub block : Tree
  pub cond : Tree
  pub others : List Tree
  pub things_are : things_of b ≡ held.Closed ∷ held.Operand ∷ held.Own spot ∷ rest
  pub hand_is : in_hand b.draft ≡ block ∷ cond ∷ others

pub while-top : (b : Builder) (go : Tree → Tree → Spot → List Slot → Answer)
    → (with_closed (pile_of b) (λ block pile. with_operand pile (λ cond pile. with_own pile (λ q pile. go block cond q pile))) ≡ Lost → ⊥) → WhileTop b
while-top b go kept =
    let x0 = top-closed (things_of b) (in_hand b.draft) (λ block pile. with_operand pile (λ cond pile. with_own pile (λ q pile. go block cond q pile))) kept in
    let x1 = top-operand x0.0 x0.2 (λ cond pile. with_own pile (λ q pile. go x0.1 cond q pile)) x0.5 in
    let x2 = top-own x1.0 x1.2 (λ q pile. go x0.1 x1.1 q pile) x1.5 in
    record {
      rest = x2.0;
      spot = x2.1;
      block = x0.1;
      cond = x1.1;
      others = x1.2;
      things_are = x0.3 ∙ ap (λ (x : List Held). held.Closed ∷ x) (x1.3 ∙ ap (λ (x : List Held). held.Operand ∷ x) (x2.2));
      hand_is = x0.4 ∙ ap (λ (x : List Tree). x0.1 ∷ x) (x1.4);
    }

-- the same by what was taken off
abbrev pub while-retop : (b : Builder) (t : WhileTop b) (rest : List Held) (spot : Spot) → held.Closed ∷ held.Operand ∷ held.Own t.spot ∷ t.rest ≡ held.Closed ∷ held.Operand ∷ held.Own spot ∷ rest → WhileTop b
while-retop b t rest spot is = record { rest = rest; spot = spot; block = t.block; cond = t.cond; others = t.others; things_are = t.things_are ∙ is; hand_is = t.hand_is }

module _ (b : Builder) (sound : IsSound b) (t : WhileTop b) (w : Work) (places : w.said.places ≡ (work_of b).said.places) (top : ℕ) (is_top : top ≡ highest (forest_of (last_in 2 (in_hand b.draft)))) where
  abbrev pub answer : Answer
  answer = with_closed (pile_of b) (λ block pile. with_operand pile (λ cond pile. with_own pile (λ q pile. complete q (λ id. TWhile id cond block) Operand pile w)))

  pile_is : pile_of b ≡ Closed t.block ∷ Operand t.cond ∷ Own t.spot ∷ piled t.rest t.others
  pile_is = ap₂ piled t.things_are t.hand_is

  pub while-good : IsGood (length b.draft.table.names) (length b.draft.table.classes) (Closed t.block ∷ Operand t.cond ∷ Own t.spot ∷ piled t.rest t.others)
  while-good = subst (λ (x : List Slot). IsGood (length b.draft.table.names) (length b.draft.table.classes) x) pile_is sound.good

  pub while-high : top ≡ max (height t.cond) (max (height t.block) 0)
  while-high = is_top ∙ ap (λ (x : List Tree). highest (forest_of (last_in 2 x))) t.hand_is

  more : IsOneMore (Closed t.block ∷ Operand t.cond ∷ Own t.spot ∷ piled t.rest t.others) (Operand (TWhile (length (work_of b).said.places) t.cond t.block) ∷ piled t.rest t.others)
  more = record {
    body = refl;
    nodes = omega arith;
    calls = omega arith;
    names = sym (append_assoc (names_since (piled t.rest t.others)) (names_assigned_in t.cond) (names_assigned_in t.block));
    outer = refl;
    scopes = refl;
    pending = refl;
  }

  matched-after : trees_in (held.Operand ∷ t.rest) ≤ length (TWhile (length (work_of b).said.places) t.cond t.block ∷ t.others)
  matched-after =
      let h : trees_in (held.Closed ∷ held.Operand ∷ held.Own t.spot ∷ t.rest) ≤ length (t.block ∷ t.cond ∷ t.others) =
      subst (λ (x : List Held). trees_in x ≤ length (t.block ∷ t.cond ∷ t.others)) t.things_are (subst (λ (x : List Tree). trees_in (things_of b) ≤ length x) t.hand_is sound.matched) in
      omega (arith, h)

  pub while-step : IsStep b answer t.spot top w (held.Operand ∷ t.rest) (TWhile (length (work_of b).said.places) t.cond t.block ∷ t.others)
  while-step = record {
    make = λ id. TWhile id t.cond t.block;
    slot = Operand;
    pile = piled t.rest t.others;
    is = ap (λ (x : List Slot). with_closed x (λ block pile. with_operand pile (λ cond pile. with_own pile (λ q pile. complete q (λ id. TWhile id cond block) Operand pile w)))) pile_is;
    places = places;
    high = let h = while-high in omega (arith, h);
    more = subst (λ (x : List Slot). IsOneMore x (Operand (TWhile (length (work_of b).said.places) t.cond t.block) ∷ piled t.rest t.others)) (sym pile_is) more;
    top = refl;
    matched = matched-after;
    good = (tt, while-good.1.1);
  }
