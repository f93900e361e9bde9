-- The next node, with neither a body nor a type.
use Rattle.std.proofs.Common.{◌≡◌, ℕ, ◌-◌, List, [], ◌∷◌, ◌++◌, Some, take, drop, length, refl, sym, subst, arith}
use Rattle.std.proofs.{lemmas.List.append-nil, lemmas.Option.none-some}
use Rattle.hb_types.specs.declared.ids.NodeId.{NodeId}
use Rattle.hb_tree.specs.{Table.Table, TreeAt.tree_at, TreeAt.tree_of, Program.IsExprNode}
use Rattle.hb_tree.specs.declared.node.Placed.{Placed}
use Rattle.hb_draft.specs.Kept.{IsDraft, IsKept, heights_of, heights_after}
use Rattle.hb_draft.specs.Put.{IsOver, CanPut, PutsNode, with_node}
use Rattle.hb_draft.specs.Unfinished.{Unfinished, KeepsRoots, in_hand, trees_of}
use Rattle.hb_draft.proofs.Laid.{no_items, no_block}
use Rattle.hb_draft.proofs.Append.{appended, same_texts, IsNext, kept-next, hand-next, roots-next}

-- the nodes in hand after the next one took its parts
abbrev pub hand_after : Table → List NodeId → ℕ → List NodeId
hand_after t ids count = take (length ids - count) ids ++ record { 0 = length t.nodes } ∷ []

plain : (t : Table) (p : Placed) → appended t t.texts [] [] [] p ≡ with_node t p
plain t p = rw (append-nil t.items, append-nil t.bodies, append-nil t.types) refl

module _ (t : Table) (ids : List NodeId) (p : Placed) (count : ℕ) (draft : IsDraft t ids) (over : IsOver t (with_node t p) ids count p.node) (expr : IsExprNode (Some p.node)) where
  over_plain : IsOver t (appended t t.texts [] [] [] p) ids count p.node
  over_plain = subst (λ (v : Table). IsOver t v ids count p.node) (sym (plain t p)) over

  next_plain : IsNext t ids t.texts [] count [] [] p
  next_plain = record {
    over = over_plain;
    items = tt;
    few_items = omega arith;
    bodies = λ k b e. absurd (none-some b e);
    few_bodies = omega arith;
    types = λ k y e. absurd (none-some y e);
    few_types = omega (arith, draft.program.limits.types);
    begins = no_block p.node (length t.items) expr;
    laid = sym (no_items (appended t t.texts [] [] [] p) (tree_at t) (length t.nodes) p.node expr);
    filled = tt;
  }

  kept_plain : (hs : List ℕ) → hs ≡ heights_of t ids → IsKept (with_node t p) (hand_after t ids count) (heights_after count hs)
  kept_plain hs same = subst (λ (v : Table). IsKept v (hand_after t ids count) (heights_after count hs)) (plain t p)
      (kept-next t ids t.texts (same_texts t draft.program) [] count [] [] p draft over_plain hs same next_plain)

  puts_plain : PutsNode (record { table = t; nodes = ids }) (record { table = with_node t p; nodes = hand_after t ids count }) p count
  unfolding in_hand
  puts_plain = record {
    table = refl;
    hand = subst (λ (v : Table). trees_of v (hand_after t ids count) ≡ tree_of v (tree_at t) (length t.nodes) p.node ∷ drop count (trees_of t ids)) (plain t p)
        (hand-next t ids t.texts (same_texts t draft.program) [] count [] [] p draft over_plain);
    roots = subst (λ (v : Table). KeepsRoots t v) (plain t p) (roots-next t ids t.texts (same_texts t draft.program) [] count [] [] p draft);
  }

module _ (s d : Unfinished) (same : s ≡ d) (hs : List ℕ) (kept : IsKept s.table s.nodes hs) (p : Placed) (count : ℕ) (can : CanPut d p count) (expr : IsExprNode (Some p.node)) where
  pub put_kept : IsKept (with_node s.table p) (hand_after s.table s.nodes count) (heights_after count hs)
  put_kept = kept_plain s.table s.nodes p count kept.draft (subst (λ v. CanPut v p count) (sym same) can) expr hs kept.same

  pub put_puts : PutsNode d (record { table = with_node s.table p; nodes = hand_after s.table s.nodes count }) p count
  put_puts =
      let new : Unfinished = record { table = with_node s.table p; nodes = hand_after s.table s.nodes count } in
      subst (λ v. PutsNode v new p count) same (puts_plain s.table s.nodes p count kept.draft (subst (λ v. CanPut v p count) (sym same) can) expr)
