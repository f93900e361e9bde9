-- A call over its receiver and its arguments.
use Rattle.std.proofs.Common.{◌≡◌, ℕ, ◌+◌, ◌≤◌, List, [], ◌∷◌, ◌++◌, refl, sym, ◌∙◌, ap, ap₂, subst, length, length-drop, length-append, max, reverse, take, drop, arith, append_assoc}
use Rattle.std.specs.List.{AllByRecursion}
use Rattle.std.proofs.{Math.Seq.take-add, lemmas.List.reverse-append, lemmas.List.length-reverse, lemmas.List.length-take-le}
use Rattle.hb_types.specs.declared.ids.NameId.{NameId}
use Rattle.hb_tree.specs.declared.limits.TheConstants.{HEIGHT_MAX, ARGUMENTS_MAX}
use Rattle.hb_tree.specs.Tree.{Tree, IsExpr, TCall}
use Rattle.hb_tree.specs.Counts.{height, highest, names_assigned_in, names_assigned_in_all}
use Rattle.hb_draft.specs.Unfinished.{in_hand, HasExprs, forest_of, last_in}
use Rattle.hb_build.proofs.{TakeLemmas.top-called, TakeLemmas.top-operand, NodeLemmas.IsOneMore, StepLemmas.IsStep, HighestLemmas.highest-tallest, TruncateLemmas.slice_get-drop}
use Rattle.hb_build.proofs.{BlockLemmas.IsRun}
use Rattle.hb_build.specs.declared.{builder.Builder.Builder, held.Held.Held, held.Spot.Spot}
use Rattle.hb_build.specs.declared.held.Held.TheVariants as held
use Rattle.hb_build.specs.Pile.{Slot, Operand, Argument, Called, piled, arguments_on, below_arguments, names_since}
use Rattle.hb_build.specs.Acts.{Work, Answer, Lost, complete, with_called, with_operand}
use Rattle.hb_build.specs.Sound.{things_of, pile_of, work_of, trees_in, IsGood, IsSound}
use Rattle.hb_build.proofs.ListedLemmas.{Over, Here, More, Counts, arguments-listed, run-over, run-trees, run-exprs, over-counts, over-good, arguments-end, arguments-over, low-parts}

-- what lies below the arguments: the method with its place, and the receiver
pub record CallTop (b : Builder) (n : ℕ) : Type 0 where
  pub rest : List Held
  pub name : NameId
  pub spot : Spot
  pub receiver : Tree
  pub others : List Tree
  pub mark : drop n (things_of b) ≡ held.Called name spot ∷ held.Operand ∷ rest
  pub hand_is : drop n (in_hand b.draft) ≡ receiver ∷ others

-- the same by what was taken off
abbrev pub retop : (b : Builder) (n : ℕ) (t : CallTop b n) (rest : List Held) (name : NameId) (spot : Spot) → held.Called t.name t.spot ∷ held.Operand ∷ t.rest ≡ held.Called name spot ∷ held.Operand ∷ rest → CallTop b n
retop b n t rest name spot is = record { rest = rest; name = name; spot = spot; receiver = t.receiver; others = t.others; mark = t.mark ∙ is; hand_is = t.hand_is }

all-last : (P : Tree → Type 0) (ts : List Tree) (t : Tree) → AllByRecursion P ts → P t → AllByRecursion P (ts ++ t ∷ [])
all-last P [] t all p = (p, tt)
all-last P (x ∷ ts) t all p = (all.0, all-last P ts t all.1 p)

few-listed : (names classes : ℕ) (pile : List Slot) (es : List Tree) (below : List Slot) → Over Argument pile es below → arguments_on below ≡ [] → IsGood names classes pile → length es ≤ ARGUMENTS_MAX
few-listed names classes pile es below (Here p) none good = omega arith
few-listed names classes pile es below (More e p xs b o) none good =
    let same : arguments_on p ≡ xs = (arguments-over p xs b o).0 ∙ ap (λ (x : List Tree). x ++ xs) none in
    omega (arith, good.1, ap length same, length-append xs (e ∷ []))

module _ (b : Builder) (sound : IsSound b) (n : ℕ) (run : IsRun held.Argument n (things_of b)) where
  over : Over Argument (pile_of b) (last_in n (in_hand b.draft)) (piled (drop n (things_of b)) (drop n (in_hand b.draft)))
  over = run-over held.Argument Argument arguments-listed n (things_of b) (in_hand b.draft) run.same run.within sound.matched

  ended : (arguments_on (piled (drop n (things_of b)) (drop n (in_hand b.draft))) ≡ [])
      × (below_arguments (piled (drop n (things_of b)) (drop n (in_hand b.draft))) ≡ piled (drop n (things_of b)) (drop n (in_hand b.draft)))
  ended = arguments-end (drop n (things_of b)) (drop n (in_hand b.draft)) (λ e. run.ends (sym (slice_get-drop n (things_of b)) ∙ e))

  below_is : below_arguments (pile_of b) ≡ piled (drop n (things_of b)) (drop n (in_hand b.draft))
  below_is = (arguments-over _ _ _ over).1 ∙ ended.1

  arguments_are : arguments_on (pile_of b) ≡ last_in n (in_hand b.draft)
  arguments_are = (arguments-over _ _ _ over).0 ∙ ap (λ (x : List Tree). x ++ last_in n (in_hand b.draft)) ended.0

  enough : n ≤ length (in_hand b.draft)
  enough = omega (arith, run-trees held.Argument Argument arguments-listed n (things_of b) run.same run.within, sound.matched)

  pub few-arguments : n ≤ ARGUMENTS_MAX
  few-arguments =
      let few : length (last_in n (in_hand b.draft)) ≤ ARGUMENTS_MAX = few-listed (length b.draft.table.names) (length b.draft.table.classes) _ _ _ over ended.0 sound.good in
      omega (arith, few, length-reverse (take n (in_hand b.draft)), length-take-le n (in_hand b.draft) enough)

  pub call-top : (go : ℕ → Spot → Tree → List Slot → Answer) → (with_called (below_arguments (pile_of b)) (λ m q pile. with_operand pile (λ r pile. go m q r pile)) ≡ Lost → ⊥) → CallTop b n
  call-top go kept =
      let t = top-called (drop n (things_of b)) (drop n (in_hand b.draft)) (λ m q pile. with_operand pile (λ r pile. go m q r pile))
      (subst (λ (x : List Slot). with_called x (λ m q pile. with_operand pile (λ r pile. go m q r pile)) ≡ Lost → ⊥) below_is kept) in
      let s = top-operand t.0 (drop n (in_hand b.draft)) (λ r pile. go t.1.0 t.2 r pile) t.4 in
      record { rest = s.0; name = t.1; spot = t.2; receiver = s.1; others = s.2; mark = t.3 ∙ ap (λ (x : List Held). held.Called t.1 t.2 ∷ x) s.3; hand_is = s.4 }

  module _ (t : CallTop b n) (w : Work) (places : w.said.places ≡ (work_of b).said.places) (top : ℕ) (is_top : top ≡ highest (forest_of (last_in (n + 1) (in_hand b.draft)))) where
    abbrev pub answer : Answer
    answer = with_called (below_arguments (pile_of b)) (λ m q pile. with_operand pile (λ r pile. complete q (λ id. TCall id r m (forest_of (arguments_on (pile_of b)))) Operand pile w))

    marked : piled (drop n (things_of b)) (drop n (in_hand b.draft)) ≡ Called t.name.0 t.spot ∷ Operand t.receiver ∷ piled t.rest t.others
    marked = ap₂ piled t.mark t.hand_is

    answer-is : answer ≡ complete t.spot (λ id. TCall id t.receiver t.name.0 (forest_of (last_in n (in_hand b.draft)))) Operand (piled t.rest t.others) w
    answer-is =
        ap₂ (λ (x : List Slot) (es : List Tree). with_called x (λ m q pile. with_operand pile (λ r pile. complete q (λ id. TCall id r m (forest_of es)) Operand pile w))) (below_is ∙ marked) arguments_are

    counts : Counts (pile_of b) (last_in n (in_hand b.draft)) (Called t.name.0 t.spot ∷ Operand t.receiver ∷ piled t.rest t.others)
    counts = subst (λ (x : List Slot). Counts (pile_of b) (last_in n (in_hand b.draft)) x) marked (over-counts held.Argument Argument arguments-listed _ _ _ over)

    more : (id : ℕ) → IsOneMore (pile_of b) (Operand (TCall id t.receiver t.name.0 (forest_of (last_in n (in_hand b.draft)))) ∷ piled t.rest t.others)
    more id = record {
      body = sym counts.body;
      nodes = omega (arith, counts.nodes);
      calls = omega (arith, counts.calls);
      names = sym (counts.names ∙ append_assoc (names_since (piled t.rest t.others)) (names_assigned_in t.receiver) (names_assigned_in_all (forest_of (last_in n (in_hand b.draft)))));
      outer = sym counts.outer;
      scopes = sym counts.scopes;
      pending = sym counts.pending;
    }

    pub call-good : IsGood (length b.draft.table.names) (length b.draft.table.classes) (Called t.name.0 t.spot ∷ Operand t.receiver ∷ piled t.rest t.others)
    call-good = subst (λ (x : List Slot). IsGood (length b.draft.table.names) (length b.draft.table.classes) x) marked
        (over-good held.Argument Argument arguments-listed (length b.draft.table.names) (length b.draft.table.classes) _ _ _ over sound.good)

    last_one : take (n + 1) (in_hand b.draft) ≡ take n (in_hand b.draft) ++ t.receiver ∷ []
    last_one = take-add n 1 (in_hand b.draft) ∙ ap (λ (x : List Tree). take n (in_hand b.draft) ++ take 1 x) t.hand_is

    top_is : top ≡ max (height t.receiver) (highest (forest_of (last_in n (in_hand b.draft))))
    top_is = is_top ∙ ap (λ (x : List Tree). highest (forest_of (reverse x))) last_one ∙ ap (λ (x : List Tree). highest (forest_of x)) (reverse-append (take n (in_hand b.draft)) (t.receiver ∷ []))

    matched-after : (node : Tree) → trees_in (held.Operand ∷ t.rest) ≤ length (node ∷ t.others)
    matched-after node =
        let h : trees_in (drop n (things_of b)) ≡ trees_in (held.Called t.name t.spot ∷ held.Operand ∷ t.rest) = ap trees_in t.mark in
        let k : length (drop n (in_hand b.draft)) ≡ length (t.receiver ∷ t.others) = ap length t.hand_is in
        omega (arith, h, k, run-trees held.Argument Argument arguments-listed n (things_of b) run.same run.within, sound.matched, length-drop n (in_hand b.draft))

    pub call-step : IsStep b answer t.spot top w (held.Operand ∷ t.rest) (TCall (length (work_of b).said.places) t.receiver t.name.0 (forest_of (last_in n (in_hand b.draft))) ∷ t.others)
    call-step = record {
      make = λ id. TCall id t.receiver t.name.0 (forest_of (last_in n (in_hand b.draft)));
      slot = Operand;
      pile = piled t.rest t.others;
      is = answer-is;
      places = places;
      high = omega (arith, top_is);
      more = more (length (work_of b).said.places);
      top = refl;
      matched = matched-after (TCall (length (work_of b).said.places) t.receiver t.name.0 (forest_of (last_in n (in_hand b.draft))));
      good = (tt, call-good.1.1);
    }

    pub enough-parts : n + 1 ≤ length (in_hand b.draft)
    enough-parts =
        let k : length (drop n (in_hand b.draft)) ≡ length (t.receiver ∷ t.others) = ap length t.hand_is in
        omega (arith, k, length-drop n (in_hand b.draft))

    pub call-parts : 1 + top ≤ HEIGHT_MAX → HasExprs (n + 1) (in_hand b.draft)
    call-parts low = record {
      enough = enough-parts;
      exprs = low-parts (take (n + 1) (in_hand b.draft)) top (omega (arith, is_top, highest-tallest (take (n + 1) (in_hand b.draft)))) (omega (arith, low))
          (subst (λ (x : List Tree). AllByRecursion IsExpr x) (sym last_one)
          (all-last IsExpr (take n (in_hand b.draft)) t.receiver
          (run-exprs held.Argument Argument arguments-listed (length b.draft.table.names) (length b.draft.table.classes) n (things_of b) (in_hand b.draft) run.same run.within sound.matched sound.good) call-good.1.0));
    }
