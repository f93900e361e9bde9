-- A text, which is numbered by its first occurrence.
use Rattle.std.proofs.Common.{◌≡◌, ℕ, ◌<◌, List, [], ◌∷◌, ◌++◌, length, Some, refl, sym, ap, subst, arith}
use Rattle.std.specs.Prelude.{slice_get}
use Rattle.std.proofs.{lemmas.List.append-nil, lemmas.Option.none-some, lemmas.Option.slice_get_within}
use Rattle.hb_types.specs.declared.ids.NodeId.{NodeId}
use Rattle.hb_tree.specs.{Spelling.IsText, Table.Table, Tree.TText, Nodes.numbers_of}
use Rattle.hb_tree.specs.declared.node.Node.TheVariants as node
use Rattle.hb_tree.specs.declared.node.Placed.{Placed}
use Rattle.hb_draft.proofs.{Laid.no_block, Puts.hand_after, Hands.last_none, Steps.placed_at}
use Rattle.hb_draft.specs.{Put.IsOver, Words.with_word}
use Rattle.hb_draft.specs.Kept.{IsDraft, IsKept, heights_of, heights_after}
use Rattle.hb_draft.specs.Unfinished.{Unfinished, KeepsRoots, PutsText, in_hand, trees_of}
use Rattle.hb_draft.proofs.WordLists.{with_word-begins, with_word-each, with_word-length}
use Rattle.hb_draft.proofs.Append.{appended, AreTexts, IsNext, kept-next, hand-next, roots-next}

-- the table with a text's node more
abbrev pub with_text : Table → List (List ℕ) → Placed → Table
with_text t ts p = record t { texts = ts; nodes = t.nodes ++ p ∷ [] }

-- what a text asks for
pub record CanText (d : Unfinished) (value : List ℕ) (k : ℕ) : Type 0 where
  pub room : length d.table.nodes < 65535
  pub plain : IsText value
  pub stands : slice_get (with_word d.table.texts value) k ≡ Some value

module _ (t : Table) (ids : List NodeId) (draft : IsDraft t ids) (place : ℕ × ℕ) (value : List ℕ) (k : ℕ) (can : CanText (record { table = t; nodes = ids }) value k) where
  abbrev ts : List (List ℕ)
  ts = with_word t.texts value

  abbrev p : Placed
  p = placed_at (node.Text (record { 0 = k })) place

  abbrev u : Table
  u = appended t ts [] [] [] p

  plain : u ≡ with_text t ts p
  plain = rw (append-nil t.items, append-nil t.bodies, append-nil t.types) refl

  texts : AreTexts t ts
  texts = record {
    begins = with_word-begins t.texts value;
    spelled = with_word-each t.texts value IsText draft.program.spelled.texts can.plain;
    few = with_word-length t.texts value;
  }

  over : IsOver t u ids 0 p.node
  over = record {
    room = can.room;
    enough = omega arith;
    places = tt;
    parts = sym (ap numbers_of (last_none t ids));
    exprs = tt;
    blocks = tt;
    known = slice_get_within ts k value can.stands;
  }

  next : IsNext t ids ts [] 0 [] [] p
  next = record {
    over = over;
    items = tt;
    few_items = omega arith;
    bodies = λ j b e. absurd (none-some b e);
    few_bodies = omega arith;
    types = λ j y e. absurd (none-some y e);
    few_types = omega (arith, draft.program.limits.types);
    begins = no_block p.node (length t.items) tt;
    laid = refl;
    filled = tt;
  }

  text_keeps : (hs : List ℕ) → hs ≡ heights_of t ids → IsKept (with_text t ts p) (hand_after t ids 0) (heights_after 0 hs)
  text_keeps hs same = subst (λ (v : Table). IsKept v (hand_after t ids 0) (heights_after 0 hs)) plain (kept-next t ids ts texts [] 0 [] [] p draft over hs same next)

  text_puts : PutsText (record { table = t; nodes = ids }) (record { table = with_text t ts p; nodes = hand_after t ids 0 }) place value
  unfolding in_hand
  text_puts = record {
    number = k;
    stands = can.stands;
    hand = subst (λ (v : Table). trees_of v (hand_after t ids 0) ≡ TText (length t.nodes) k ∷ trees_of t ids) plain (hand-next t ids ts texts [] 0 [] [] p draft over);
    texts = refl;
    table = record {
      nodes = (p.node, refl);
      classes = refl;
      names = refl;
      bodies = refl;
      types = refl;
      roots = subst (λ (v : Table). KeepsRoots t v) plain (roots-next t ids ts texts [] 0 [] [] p draft);
    };
  }

-- the same, whatever the draft is called
module _ (s d : Unfinished) (same : s ≡ d) (hs : List ℕ) (kept : IsKept s.table s.nodes hs) (place : ℕ × ℕ) (value : List ℕ) (k : ℕ)
    (room : length d.table.nodes < 65535) (is : IsText value) (stands : slice_get (with_word s.table.texts value) k ≡ Some value) where
  can : CanText s value k
  can = record { room = subst (λ v. length v.table.nodes < 65535) (sym same) room; plain = is; stands = stands }

  abbrev pub text_node : Placed
  text_node = placed_at (node.Text (record { 0 = k })) place

  pub text_kept : IsKept (with_text s.table (with_word s.table.texts value) text_node) (hand_after s.table s.nodes 0) (heights_after 0 hs)
  text_kept = text_keeps s.table s.nodes kept.draft place value k can hs kept.same

  pub text_made : PutsText d (record { table = with_text s.table (with_word s.table.texts value) text_node; nodes = hand_after s.table s.nodes 0 }) place value
  text_made =
      let new : Unfinished = record { table = with_text s.table (with_word s.table.texts value) text_node; nodes = hand_after s.table s.nodes 0 } in
      subst (λ v. PutsText v new place value) same (text_puts s.table s.nodes kept.draft place value k can)

  -- so its number is small
  pub text_small : k < 65536
  text_small = omega (arith, slice_get_within (with_word s.table.texts value) k value stands, with_word-length s.table.texts value, kept.draft.few_texts, kept.draft.program.limits.nodes)

  pub text_hand : in_hand (record { table = with_text s.table (with_word s.table.texts value) text_node; nodes = hand_after s.table s.nodes 0 }) ≡ TText (length d.table.nodes) k ∷ in_hand d
  unfolding text_puts
  text_hand =
      let new : Unfinished = record { table = with_text s.table (with_word s.table.texts value) text_node; nodes = hand_after s.table s.nodes 0 } in
      subst (λ v. in_hand new ≡ TText (length v.table.nodes) k ∷ in_hand v) same (text_puts s.table s.nodes kept.draft place value k can).hand
