-- A block over its items.
use Rattle.std.proofs.Common.{◌≡◌, ℕ, ◌+◌, ◌-◌, ◌≤◌, List, [], ◌∷◌, ◌++◌, Some, refl, sym, ◌∙◌, ap, ap₂, subst, length, length-drop, reverse, take, drop, slice_get, arith}
use Rattle.std.specs.List.{AllByRecursion}
use Rattle.hb_tree.specs.{Tree.Tree, Tree.TBlock, Counts.highest}
use Rattle.hb_tree.specs.declared.limits.TheConstants.{HEIGHT_MAX}
use Rattle.hb_draft.specs.Unfinished.{in_hand, HasExprs, forest_of, last_in}
use Rattle.hb_build.proofs.{TakeLemmas.top-block, NodeLemmas.IsOneMore, StepLemmas.IsStep, HighestLemmas.highest-tallest, TruncateLemmas.reverse-take}
use Rattle.hb_build.proofs.{TruncateLemmas.slice_get-drop}
use Rattle.hb_build.specs.declared.{builder.Builder.Builder, held.Held.Held, held.Spot.Spot}
use Rattle.hb_build.specs.declared.held.Held.TheVariants as held
use Rattle.hb_build.specs.Pile.{Slot, Closed, Item, Block, piled, items_on, below_items}
use Rattle.hb_build.specs.Acts.{Work, Answer, Lost, complete, with_block}
use Rattle.hb_build.specs.Sound.{things_of, pile_of, work_of, trees_in, IsGood, IsSound}
use Rattle.std.proofs.lemmas.List.{length-reverse}
use Rattle.hb_build.proofs.ListedLemmas.{Over, Counts, items-listed, run-over, run-trees, run-exprs, over-counts, over-good, items-end, items-over, low-parts}

-- the last things are so many items and no more
pub record IsRun (thing : Held) (n : ℕ) (things : List Held) : Type 0 where
  pub within : n ≤ length things
  pub same : AllByRecursion (λ t. t ≡ thing) (take n things)
  pub ends : slice_get things n ≡ Some thing → ⊥

pub run-is : (thing : Held) (n : ℕ) (xs items : List Held) → xs ≡ items → n ≤ length xs → AllByRecursion (λ t. t ≡ thing) (take n (reverse xs)) → (slice_get (reverse xs) n ≡ Some thing → ⊥)
    → IsRun thing n (reverse items)
run-is thing n xs items e within same ends =
    subst (λ (ys : List Held). IsRun thing n (reverse ys)) e (record { within = omega (arith, within, length-reverse xs); same = same; ends = ends })

-- what is left when the run is taken off
pub cut-is : (n : ℕ) (items cut xs : List Held) (size : ℕ) → xs ≡ items → n ≤ length xs → size ≡ length xs → cut ≡ take (size - n) items → reverse cut ≡ drop n (reverse items)
cut-is n items cut xs size e within len is =
    let le : n ≤ length items = subst (λ (ys : List Held). n ≤ length ys) e within in
    let same : size ≡ length items = len ∙ ap length e in
    ap reverse (is ∙ ap (λ (k : ℕ). take (k - n) items) same) ∙ reverse-take n items le

module _ (b : Builder) (sound : IsSound b) (n : ℕ) (run : IsRun held.Item n (things_of b)) where
  below : List Slot
  below = piled (drop n (things_of b)) (drop n (in_hand b.draft))

  over : Over Item (pile_of b) (last_in n (in_hand b.draft)) (piled (drop n (things_of b)) (drop n (in_hand b.draft)))
  over = run-over held.Item Item items-listed n (things_of b) (in_hand b.draft) run.same run.within sound.matched

  ended : (items_on (piled (drop n (things_of b)) (drop n (in_hand b.draft))) ≡ []) × (below_items (piled (drop n (things_of b)) (drop n (in_hand b.draft))) ≡ piled (drop n (things_of b)) (drop n (in_hand b.draft)))
  ended = items-end (drop n (things_of b)) (drop n (in_hand b.draft)) (λ e. run.ends (sym (slice_get-drop n (things_of b)) ∙ e))

  below_is : below_items (pile_of b) ≡ piled (drop n (things_of b)) (drop n (in_hand b.draft))
  below_is = (items-over _ _ _ over).1 ∙ ended.1

  items_are : items_on (pile_of b) ≡ last_in n (in_hand b.draft)
  items_are = (items-over _ _ _ over).0 ∙ ap (λ (x : List Tree). x ++ last_in n (in_hand b.draft)) ended.0

  pub few-items : n ≤ length (in_hand b.draft)
  few-items = omega (arith, run-trees held.Item Item items-listed n (things_of b) run.same run.within, sound.matched)

  pub block-top : (go : List Slot → Answer) → (with_block (below_items (pile_of b)) go ≡ Lost → ⊥) → (rest : List Held) × (drop n (things_of b) ≡ held.Block ∷ rest)
  block-top go kept =
      let t = top-block (drop n (things_of b)) (drop n (in_hand b.draft)) go (subst (λ (x : List Slot). with_block x go ≡ Lost → ⊥) below_is kept) in
      (t.0, t.1)

  module _ (spot : Spot) (rest : List Held) (mark : drop n (things_of b) ≡ held.Block ∷ rest) (w : Work) (places : w.said.places ≡ (work_of b).said.places) (top : ℕ)
      (is_top : top ≡ highest (forest_of (last_in n (in_hand b.draft)))) where
    abbrev pub answer : Answer
    answer = with_block (below_items (pile_of b)) (λ pile. complete spot (λ id. TBlock id (forest_of (items_on (pile_of b)))) Closed pile w)

    marked : piled (drop n (things_of b)) (drop n (in_hand b.draft)) ≡ Block ∷ piled rest (drop n (in_hand b.draft))
    marked = ap (λ (x : List Held). piled x (drop n (in_hand b.draft))) mark

    answer-is : answer ≡ complete spot (λ id. TBlock id (forest_of (last_in n (in_hand b.draft)))) Closed (piled rest (drop n (in_hand b.draft))) w
    answer-is =
        ap₂ (λ (x : List Slot) (es : List Tree). with_block x (λ pile. complete spot (λ id. TBlock id (forest_of es)) Closed pile w)) (below_is ∙ marked) items_are

    counts : Counts (pile_of b) (last_in n (in_hand b.draft)) (Block ∷ piled rest (drop n (in_hand b.draft)))
    counts = subst (λ (x : List Slot). Counts (pile_of b) (last_in n (in_hand b.draft)) x) marked (over-counts held.Item Item items-listed _ _ _ over)

    more : (id : ℕ) → IsOneMore (pile_of b) (Closed (TBlock id (forest_of (last_in n (in_hand b.draft)))) ∷ piled rest (drop n (in_hand b.draft)))
    more id = record {
      body = sym counts.body;
      nodes = omega (arith, counts.nodes);
      calls = sym counts.calls;
      names = sym counts.names;
      outer = sym counts.outer;
      scopes = sym counts.scopes;
      pending = sym counts.pending;
    }

    good : IsGood (length b.draft.table.names) (length b.draft.table.classes) (Block ∷ piled rest (drop n (in_hand b.draft)))
    good = subst (λ (x : List Slot). IsGood (length b.draft.table.names) (length b.draft.table.classes) x) marked
        (over-good held.Item Item items-listed (length b.draft.table.names) (length b.draft.table.classes) _ _ _ over sound.good)

    matched-after : (node : Tree) → trees_in (held.Closed ∷ rest) ≤ length (node ∷ drop n (in_hand b.draft))
    matched-after node =
        let h : trees_in (drop n (things_of b)) ≡ trees_in (held.Block ∷ rest) = ap trees_in mark in
        omega (arith, h, run-trees held.Item Item items-listed n (things_of b) run.same run.within, sound.matched, length-drop n (in_hand b.draft))

    pub block-step : IsStep b answer spot top w (held.Closed ∷ rest) (TBlock (length (work_of b).said.places) (forest_of (last_in n (in_hand b.draft))) ∷ drop n (in_hand b.draft))
    block-step = record {
      make = λ id. TBlock id (forest_of (last_in n (in_hand b.draft)));
      slot = Closed;
      pile = piled rest (drop n (in_hand b.draft));
      is = answer-is;
      places = places;
      high = omega (arith, is_top);
      more = more (length (work_of b).said.places);
      top = refl;
      matched = matched-after (TBlock (length (work_of b).said.places) (forest_of (last_in n (in_hand b.draft))));
      good = (tt, good);
    }

    pub block-parts : 1 + top ≤ HEIGHT_MAX → HasExprs n (in_hand b.draft)
    block-parts low = record {
      enough = few-items;
      exprs = low-parts (take n (in_hand b.draft)) top (omega (arith, is_top, highest-tallest (take n (in_hand b.draft)))) (omega (arith, low))
          (run-exprs held.Item Item items-listed (length b.draft.table.names) (length b.draft.table.classes) n (things_of b) (in_hand b.draft) run.same run.within sound.matched sound.good);
    }
