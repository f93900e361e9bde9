-- A block of the last ones in hand.
use Rattle.std.proofs.Common.{◌≡◌, ℕ, ◌+◌, ◌-◌, ◌<◌, ◌≤◌, List, [], ◌∷◌, ◌++◌, take, drop, length, length-drop, length-append, refl, sym, ap, ◌∙◌, subst, arith}
use Rattle.std.specs.List.{AllByRecursion}
use Rattle.std.proofs.lemmas.List.{append-nil, take-append-drop, map-append, drop_at, take_all}
use Rattle.std.proofs.lemmas.Option.{none-some}
use Rattle.hb_types.specs.declared.ids.NodeId.{NodeId}
use Rattle.hb_tree.specs.{Table.Table, Tree.TBlock, Nodes.numbers_of, Nodes.items_of, TreeAt.tree_at, TreeAt.forest_at}
use Rattle.hb_tree.specs.declared.node.Node.TheVariants as node
use Rattle.hb_tree.specs.declared.node.Placed.{Placed}
use Rattle.hb_draft.proofs.{Laid.ids_of-trees, Lists.each-back, Puts.hand_after, Hands.hand-exprs, Hands.forest-hand, Steps.placed_at, Steps.enough_nodes}
use Rattle.hb_draft.specs.Kept.{IsDraft, IsKept, heights_of, heights_after}
use Rattle.hb_draft.specs.{Laid.items_in, Put.IsOver, Put.last_nodes}
use Rattle.hb_draft.specs.Unfinished.{Unfinished, HasExprs, KeepsRoots, Puts, in_hand, trees_of, block_over}
use Rattle.hb_draft.proofs.Append.{appended, same_texts, IsNext, kept-next, hand-next, roots-next}

-- the table with a block more, whose items are these
abbrev pub with_block : Table → List NodeId → Placed → Table
with_block t is p = record t { nodes = t.nodes ++ p ∷ []; items = t.items ++ is }

module _ (t : Table) (ids : List NodeId) (count : ℕ) (place : ℕ × ℕ) (draft : IsDraft t ids) (room : length t.nodes < 65535) where
  abbrev is : List NodeId
  is = last_nodes count ids

  abbrev p : Placed
  p = placed_at (node.Block (length t.items) count) place

  abbrev u : Table
  u = appended t t.texts is [] [] p

  plain : u ≡ with_block t is p
  plain = rw (append-nil t.bodies, append-nil t.types) refl

  module _ (has : HasExprs count (in_hand (record { table = t; nodes = ids }))) where
    enough : count ≤ length ids
    enough = enough_nodes (record { table = t; nodes = ids }) count has

    length-is : length is ≡ count
    length-is = let k : ℕ = length ids - count in let h : length (drop k ids) ≡ length ids - k = length-drop k ids in h ∙ omega (arith, enough)

    items : items_of u (length t.items) count ≡ is
    items =
        let n : ℕ = (length t.items + count) - length t.items in
        ap (take n) (drop_at t.items is (length t.items) refl) ∙ take_all n is (omega (arith, length-is))

    over : IsOver t u ids count p.node
    unfolding in_hand
    over = record {
      room = room;
      enough = enough;
      places = omega (arith, length-append t.items is, length-is);
      parts = ap (λ js. numbers_of js ++ []) items ∙ append-nil (numbers_of is);
      exprs = rw items (hand-exprs t ids count enough has.exprs);
      blocks = tt;
      known = tt;
    }

    all_within : AllByRecursion (λ i. i.0 < length t.nodes) is
    all_within =
        numbers is (each-back (λ j. j < length t.nodes) (numbers_of (take (length ids - count) ids)) (numbers_of is)
        (subst (AllByRecursion (λ j. j < length t.nodes)) (sym (ap numbers_of (take-append-drop (length ids - count) ids)) ∙ map-append (λ i. i.0) (take (length ids - count) ids) is) draft.within))
      where
        numbers : (ns : List NodeId) → AllByRecursion (λ j. j < length t.nodes) (numbers_of ns) → AllByRecursion (λ i. i.0 < length t.nodes) ns
        numbers [] h = tt
        numbers (n ∷ ns) h = (h.0, numbers ns h.1)

    next : IsNext t ids t.texts is count [] [] p
    next = record {
      over = over;
      items = all_within;
      few_items = omega (arith, length-is);
      bodies = λ k b e. absurd (none-some b e);
      few_bodies = omega arith;
      types = λ k y e. absurd (none-some y e);
      few_types = omega (arith, draft.program.limits.types);
      begins = λ first many e. (let same : node.Block (length t.items) count ≡ node.Block first many = e in cc);
      laid = sym (ap (λ js. items_in (TBlock (length t.nodes) (forest_at (tree_at t) js))) items ∙ ids_of-trees t is);
      filled = tt;
    }

    block_keeps : (hs : List ℕ) → hs ≡ heights_of t ids → IsKept (with_block t is p) (hand_after t ids count) (heights_after count hs)
    block_keeps hs same = subst (λ (v : Table). IsKept v (hand_after t ids count) (heights_after count hs)) plain (kept-next t ids t.texts (same_texts t draft.program) is count [] [] p draft over hs same next)

    block_puts : Puts (record { table = t; nodes = ids }) (record { table = with_block t is p; nodes = hand_after t ids count }) place (block_over count)
    unfolding in_hand
    block_puts = record {
      hand =
          subst (λ (v : Table). trees_of v (hand_after t ids count) ≡ TBlock (length t.nodes) (forest_at (tree_at t) is) ∷ drop count (trees_of t ids)) plain
          (hand-next t ids t.texts (same_texts t draft.program) is count [] [] p draft over
          ∙ ap (λ js. TBlock (length t.nodes) (forest_at (tree_at t) js) ∷ drop count (trees_of t ids)) items)
          ∙ ap (λ ts. TBlock (length t.nodes) ts ∷ drop count (trees_of t ids)) (sym (forest-hand t ids count enough));
      texts = refl;
      table = record {
        nodes = (p.node, refl);
        classes = refl;
        names = refl;
        bodies = refl;
        types = refl;
        roots = subst (λ (v : Table). KeepsRoots t v) plain (roots-next t ids t.texts (same_texts t draft.program) is count [] [] p draft);
      };
    }

-- the same, whatever the draft is called
module _ (s d : Unfinished) (same : s ≡ d) (hs : List ℕ) (kept : IsKept s.table s.nodes hs) (count : ℕ) (place : ℕ × ℕ) (room : length d.table.nodes < 65535) (has : HasExprs count (in_hand d)) where
  abbrev b : Placed
  b = placed_at (node.Block (length s.table.items) count) place

  abbrev new : Unfinished
  new = record { table = with_block s.table (last_nodes count s.nodes) b; nodes = hand_after s.table s.nodes count }

  room' : length s.table.nodes < 65535
  room' = subst (λ v. length v.table.nodes < 65535) (sym same) room

  has' : HasExprs count (in_hand s)
  has' = subst (λ v. HasExprs count (in_hand v)) (sym same) has

  pub block_enough : count ≤ length s.nodes
  block_enough = enough_nodes s count has'

  pub block_kept : IsKept new.table new.nodes (heights_after count hs)
  block_kept = block_keeps s.table s.nodes count place kept.draft room' has' hs kept.same

  pub block_made : Puts d new place (block_over count)
  block_made = subst (λ v. Puts v new place (block_over count)) same (block_puts s.table s.nodes count place kept.draft room' has')
