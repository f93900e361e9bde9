-- The alternatives of blocks and arguments: what they do to the work, and what their deeds are.
use Rattle.std.proofs.Common.{◌≡◌, ◌+◌, ◌-◌, ◌≤◌, List, [], ◌∷◌, ◌++◌, length, refl, sym, ◌∙◌, ap, arith, max, append_assoc}
use Rattle.std.proofs.lemmas.List.{append-nil}
use Rattle.hb_tree.specs.declared.limits.TheConstants.{CONSTRUCTS_MAX}
use Rattle.hb_tree.specs.Tree.{Tree, TBlock, TIf, TWhile}
use Rattle.hb_draft.specs.Unfinished.{forest_of}
use Rattle.hb_grammar.specs.declared.{actions.Action.Action, symbols.Symbol.TheVariants.Phrase as N, symbols.Symbol.TheVariants.Action as A}
use Rattle.hb_grammar.specs.declared.actions.Action.TheVariants as a
use Rattle.hb_grammar.specs.declared.symbols.Sort.TheVariants as g
use Rattle.hb_build.specs.Pile.{Slot, Operand, Closed, Item, Argument, Own, Block, items_on, below_items, arguments_on, below_arguments}
use Rattle.hb_build.specs.Acts.{Work}
use Rattle.hb_canonical.specs.Deeds.{Deed, plain}
use Rattle.hb_canonical.proofs.PlainLemmas.{plainly, plain_each}
use Rattle.hb_canonical.proofs.ConstructLemmas.{constructs, constructs_all, enclosed-most, max-fits, shielded-least}
use Rattle.hb_canonical.proofs.EffectLemmas.{Moves, Does, later-then, still, next, anew}
use Rattle.hb_canonical.proofs.ActionLemmas.{does-open, does-close, does-open_word, does-begin_block, does-end_block, does-add_item, does-add_argument, does-put_if, does-put_while}
use Rattle.hb_canonical.proofs.PhraseLemmas.{Pushes, Closes, Blocks, Elses, Lists, ItemsMore, ArgumentsMore, Way}

-- ── items and arguments ──

module _ (on : List Slot → List Tree) (below : List Slot → List Slot) (joins : Action) where
  -- one more, and then those that follow
  one_more : (w : Work) (ds : List Deed) (v1 : Work) (e1 : List Deed) (v2 : Work) (e2 : List Deed) (v3 : Work) (e3 : List Deed)
      → (join : Tree → Slot) → ((e : Tree) (pile : List Slot) → on (join e ∷ pile) ≡ on pile ++ e ∷ []) → ((e : Tree) (pile : List Slot) → below (join e ∷ pile) ≡ below pile)
      → (r : Pushes 0 w ds v1 e1) → Moves v1.said v2 (join r.tree ∷ w.pile) v1.depth → e1 ≡ plain joins ∷ e2 → Lists on below joins constructs_all v2 e2 v3 e3
      → Lists on below joins constructs_all w ds v3 e3
  one_more w ds v1 e1 v2 e2 v3 e3 join on_more below_more r m heard more =
      let a1 : v1.depth ≡ w.depth = r.moves.depth_is in
      let a2 : v2.depth ≡ v1.depth = m.depth_is in
      record {
        more = r.tree ∷ more.more;
        on_is = more.on_is ∙ ap (λ p. on p ++ more.more) m.pile_is ∙ ap (λ es. es ++ more.more) (on_more r.tree w.pile) ∙ append_assoc (on w.pile) (r.tree ∷ []) more.more;
        below_is = more.below_is ∙ ap below m.pile_is ∙ below_more r.tree w.pile;
        moves = anew (next r.moves (next m more.moves)) refl (a2 ∙ a1);
        deeds = λ s later.
            let g = later-then more.moves.inside.later later in
            r.deeds s (later-then m.inside.later g) ∙ ap (plainly s r.tree) (heard ∙ ap (λ rest. plain joins ∷ rest) (more.deeds s later));
        fits = λ n.
            let mine = r.fits n in
            let least = shielded-least 0 r.tree (constructs r.tree) in
            let rest = more.fits (omega arith) in
            max-fits w.depth (constructs r.tree) (constructs_all (forest_of more.more)) CONSTRUCTS_MAX (omega arith) (omega arith);
      }

  none_more : (w : Work) (ds : List Deed) → Lists on below joins constructs_all w ds w ds
  none_more w ds = record {
    more = [];
    on_is = sym (append-nil (on w.pile));
    below_is = refl;
    moves = still w;
    deeds = λ s later. refl;
    fits = λ n. omega arith;
  }

module _ (w : Work) (ds : List Deed) (on : Work → List Deed → Type 0) where
  pub no_item : on w ds → (v : Work) × (es : List Deed) × ItemsMore w ds v es × on v es
  no_item k = (w, ds, none_more items_on below_items a.AddItem w ds, k)

  pub one_item : Way (N g.Expression ∷ A a.AddItem ∷ N g.MoreItems ∷ []) w ds on → Way (N g.Items ∷ []) w ds on
  one_item (v1, e1, r, (v2, e2, d, (v3, e3, more, k))) =
      (v3, e3, one_more items_on below_items a.AddItem w ds v1 e1 v2 e2 v3 e3 Item (λ e p. refl) (λ e p. refl) r (does-add_item v1 e1 v2 e2 r.tree w.pile r.moves.pile_is d) d.heard more, k)

  pub no_argument : on w ds → (v : Work) × (es : List Deed) × ArgumentsMore w ds v es × on v es
  no_argument k = (w, ds, none_more arguments_on below_arguments a.AddArgument w ds, k)

  pub one_argument : Way (N g.Expression ∷ A a.AddArgument ∷ N g.MoreArguments ∷ []) w ds on → (v : Work) × (es : List Deed) × ArgumentsMore w ds v es × on v es
  one_argument (v1, e1, r, (v2, e2, d, (v3, e3, more, k))) =
      (v3, e3, one_more arguments_on below_arguments a.AddArgument w ds v1 e1 v2 e2 v3 e3 Argument (λ e p. refl) (λ e p. refl) r (does-add_argument v1 e1 v2 e2 r.tree w.pile r.moves.pile_is d) d.heard more, k)

  pub no_arguments : on w ds → Way (N g.Arguments ∷ []) w ds on
  no_arguments k = (
    w,
    ds,
    record {
      more = [];
      on_is = sym (append-nil (arguments_on w.pile));
      below_is = refl;
      moves = still w;
      deeds = λ s later. refl;
      fits = λ n. omega arith;
    },
    k,
  )

  pub all_arguments : Way (A a.Open ∷ N g.ArgumentList ∷ A a.Close ∷ []) w ds on → Way (N g.Arguments ∷ []) w ds on
  all_arguments (v1, e1, d1, (v2, e2, given, (v3, e3, d3, k))) =
      let o = does-open w ds v1 e1 d1 in
      let m1 : Moves w.said v1 w.pile (w.depth + 1) = o.0 in
      let room : w.depth + 1 ≤ CONSTRUCTS_MAX = o.1 in
      let m3 = does-close v2 e2 v3 e3 d3 in
      let a1 : v1.depth ≡ w.depth + 1 = m1.depth_is in
      let a2 : v2.depth ≡ v1.depth = given.moves.depth_is in
      let a3 : v3.depth ≡ v2.depth - 1 = m3.depth_is in
      let all = given.fits (omega arith) in
      let most = enclosed-most (forest_of given.more) (constructs_all (forest_of given.more)) in (
        v3,
        e3,
        record {
          more = given.more;
          on_is = ap arguments_on m3.pile_is ∙ given.on_is ∙ ap (λ p. arguments_on p ++ given.more) m1.pile_is;
          below_is = ap below_arguments m3.pile_is ∙ given.below_is ∙ ap below_arguments m1.pile_is;
          moves = record { inside = (next m1 (next given.moves m3)).inside; pile_is = refl; depth_is = omega arith };
          deeds = λ s later. d1.heard ∙ given.deeds s (later-then m3.inside.later later) ∙ ap (plain_each s a.AddArgument (forest_of given.more)) d3.heard;
          fits = λ n. omega arith;
        },
        k,
      )

  -- ── blocks ──

  empty_block : (v : Work) (es : List Deed) → Does a.BeginBlock w ds v es → Blocks w ds v es
  empty_block v es d =
      let m = does-begin_block w ds v es d in
      record {
        moves = record { inside = m.inside; pile_is = refl; depth_is = m.depth_is };
        below = ap below_items m.pile_is;
        deeds = λ s later. d.heard ∙ ap (λ p. plain a.BeginBlock ∷ plain_each s a.AddItem (forest_of (items_on p)) es) (sym m.pile_is);
        fits = λ n. let none : constructs_all (forest_of (items_on v.pile)) ≡ 0 = ap (λ p. constructs_all (forest_of (items_on p))) m.pile_is in omega arith;
      }

  pub block : Way (A a.BeginBlock ∷ N g.Items ∷ []) w ds on → Way (N g.Block ∷ []) w ds on
  block (v1, e1, d, (v2, e2, items, k)) =
      let m = does-begin_block w ds v1 e1 d in
      let a1 : v1.depth ≡ w.depth = m.depth_is in
      let mine : items_on v2.pile ≡ items.more = items.on_is ∙ ap (λ p. items_on p ++ items.more) m.pile_is in (
        v2,
        e2,
        record {
          moves = anew (next m items.moves) refl a1;
          below = items.below_is ∙ ap below_items m.pile_is;
          deeds = λ s later.
              d.heard ∙ ap (λ rest. plain a.BeginBlock ∷ rest) (items.deeds s later ∙ ap (λ es. plain_each s a.AddItem (forest_of es) e2) (sym mine));
          fits = λ n.
              let all = items.fits (omega arith) in
              let same : constructs_all (forest_of (items_on v2.pile)) ≡ constructs_all (forest_of items.more) = ap (λ es. constructs_all (forest_of es)) mine in
              omega arith;
        },
        k,
      )

  pub block_ends : (v1 : Work) (e1 : List Deed) → Blocks w ds v1 e1 → (v2 : Work) (e2 : List Deed) → Does a.EndBlock v1 e1 v2 e2 → Closes w ds v2 e2
  block_ends v1 e1 b v2 e2 d =
      let m = does-end_block v1 e1 v2 e2 w.pile b.below d in
      record {
        tree = TBlock (length v1.said.places) (forest_of (items_on v1.pile));
        moves = anew (next b.moves m) refl b.moves.depth_is;
        deeds = λ s later. b.deeds s (later-then m.inside.later later) ∙ ap (λ rest. plain a.BeginBlock ∷ plain_each s a.AddItem (forest_of (items_on v1.pile)) rest) d.heard;
        fits = b.fits;
      }

module _ (w : Work) (ds : List Deed) (on : Work → List Deed → Type 0) where
  else_of : (pile : List Slot) → below_items w.pile ≡ Block ∷ pile → (v1 : Work) (e1 : List Deed) → Does a.EndBlock w ds v1 e1 → (v2 : Work) (e2 : List Deed) → Closes v1 e1 v2 e2 → Elses pile w ds v2 e2
  else_of pile is v1 e1 d v2 e2 c =
      let m = does-end_block w ds v1 e1 pile is d in
      let a1 : v1.depth ≡ w.depth = m.depth_is in
      record {
        id = length w.said.places;
        tree = c.tree;
        moves = anew (next m c.moves) (ap (λ p. Closed c.tree ∷ p) m.pile_is) a1;
        deeds = λ s later. d.heard ∙ ap (λ rest. plain a.EndBlock ∷ rest) (c.deeds s later);
        fits = λ n. let all = c.fits (omega arith) in omega arith;
      }

  pub spoken : Way (A a.EndBlock ∷ N g.Block ∷ A a.EndBlock ∷ []) w ds on → Way (N g.ElsePart ∷ []) w ds on
  spoken (v1, e1, d1, (v2, e2, b, (v3, e3, d3, k))) =
      (v3, e3, λ pile is. else_of pile is v1 e1 d1 v3 e3 (block_ends v1 e1 on v2 e2 b v3 e3 d3), k)

  pub silent : Way (A a.EndBlock ∷ A a.BeginBlock ∷ A a.EndBlock ∷ []) w ds on → Way (N g.ElsePart ∷ []) w ds on
  silent (v1, e1, d1, (v2, e2, d2, (v3, e3, d3, k))) =
      (v3, e3, λ pile is. else_of pile is v1 e1 d1 v3 e3 (block_ends v1 e1 on v2 e2 (empty_block v1 e1 on v2 e2 d2) v3 e3 d3), k)

  pub chosen : Way (A a.OpenWord ∷ N g.Expression ∷ N g.Block ∷ N g.ElsePart ∷ A a.PutIf ∷ []) w ds on → Way (N g.Value ∷ []) w ds on
  chosen (v1, e1, d1, (v2, e2, r, (v3, e3, b, (v4, e4, other, (v5, e5, d5, k))))) =
      let o = does-open_word w ds v1 e1 d1 in
      let m1 : Moves w.said v1 (Own d1.spot ∷ w.pile) (w.depth + 1) = o.0 in
      let room : w.depth + 1 ≤ CONSTRUCTS_MAX = o.1 in
      let e = other v2.pile b.below in
      let first : Tree = TBlock e.id (forest_of (items_on v3.pile)) in
      let top = e.moves.pile_is ∙ ap (λ p. Closed e.tree ∷ Closed first ∷ p) (r.moves.pile_is ∙ ap (λ p. Operand r.tree ∷ p) m1.pile_is) in
      let m5 = does-put_if v4 e4 v5 e5 e.tree first r.tree d1.spot w.pile top d5 in
      let a1 : v1.depth ≡ w.depth + 1 = m1.depth_is in
      let a2 : v2.depth ≡ v1.depth = r.moves.depth_is in
      let a3 : v3.depth ≡ v2.depth = b.moves.depth_is in
      let a4 : v4.depth ≡ v3.depth = e.moves.depth_is in
      let least = shielded-least 0 r.tree (constructs r.tree) in
      let condition = r.fits (omega arith) in
      let one = b.fits (omega arith) in
      let two = e.fits (omega arith) in
      let blocks = max-fits (w.depth + 1) (constructs first) (constructs e.tree) CONSTRUCTS_MAX (omega arith) (omega arith) in
      let all = max-fits (w.depth + 1) (constructs r.tree) (max (constructs first) (constructs e.tree)) CONSTRUCTS_MAX (omega arith) blocks in (
        v5,
        e5,
        record {
          tree = TIf (length v4.said.places) r.tree first e.tree;
          moves = anew (next m1 (next r.moves (next b.moves (next e.moves m5)))) refl (omega arith);
          deeds = λ s later.
              let g4 = later-then m5.inside.later later in
              let g3 = later-then e.moves.inside.later g4 in
              let g2 = later-then b.moves.inside.later g3 in
              d1.heard ∙ ap (λ rest. plain a.OpenWord ∷ rest) (r.deeds s g2
              ∙ ap (plainly s r.tree) (b.deeds s g3
              ∙ ap (λ rest. plain a.BeginBlock ∷ plain_each s a.AddItem (forest_of (items_on v3.pile)) rest) (e.deeds s g4
              ∙ ap (λ rest. plain a.EndBlock ∷ plainly s e.tree rest) d5.heard)));
          fits = λ n. omega arith;
        },
        k,
      )

  pub repeated : Way (A a.OpenWord ∷ N g.Expression ∷ N g.Block ∷ A a.EndBlock ∷ A a.PutWhile ∷ []) w ds on → Way (N g.Value ∷ []) w ds on
  repeated (v1, e1, d1, (v2, e2, r, (v3, e3, b, (v4, e4, d4, (v5, e5, d5, k))))) =
      let o = does-open_word w ds v1 e1 d1 in
      let m1 : Moves w.said v1 (Own d1.spot ∷ w.pile) (w.depth + 1) = o.0 in
      let room : w.depth + 1 ≤ CONSTRUCTS_MAX = o.1 in
      let c = block_ends v2 e2 on v3 e3 b v4 e4 d4 in
      let top = c.moves.pile_is ∙ ap (λ p. Closed c.tree ∷ p) (r.moves.pile_is ∙ ap (λ p. Operand r.tree ∷ p) m1.pile_is) in
      let m5 = does-put_while v4 e4 v5 e5 c.tree r.tree d1.spot w.pile top d5 in
      let a1 : v1.depth ≡ w.depth + 1 = m1.depth_is in
      let a2 : v2.depth ≡ v1.depth = r.moves.depth_is in
      let a4 : v4.depth ≡ v2.depth = c.moves.depth_is in
      let least = shielded-least 0 r.tree (constructs r.tree) in
      let condition = r.fits (omega arith) in
      let body = c.fits (omega arith) in
      let all = max-fits (w.depth + 1) (constructs r.tree) (constructs c.tree) CONSTRUCTS_MAX (omega arith) (omega arith) in (
        v5,
        e5,
        record {
          tree = TWhile (length v4.said.places) r.tree c.tree;
          moves = anew (next m1 (next r.moves (next c.moves m5))) refl (omega arith);
          deeds = λ s later.
              let g4 = later-then m5.inside.later later in
              let g2 = later-then c.moves.inside.later g4 in
              d1.heard ∙ ap (λ rest. plain a.OpenWord ∷ rest) (r.deeds s g2 ∙ ap (plainly s r.tree) (c.deeds s g4 ∙ ap (plainly s c.tree) d5.heard));
          fits = λ n. omega arith;
        },
        k,
      )
