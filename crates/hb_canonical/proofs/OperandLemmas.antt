-- The alternatives of expressions, but for methods: what they do to the work, and what their deeds are.
use Rattle.std.proofs.Common.{◌≡◌, ℕ, pos, ◌+◌, ◌-◌, ◌≤◌, List, [], ◌∷◌, ◌++◌, length, true, false, refl, sym, ◌∙◌, ap, arith}
use Rattle.hb_lex.specs.Literal.{value_of_number}
use Rattle.hb_tree.specs.declared.{limits.TheConstants.CONSTRUCTS_MAX, node.Op.Op}
use Rattle.hb_tree.specs.declared.node.Op.TheVariants as op
use Rattle.hb_tree.specs.Tree.{Tree, TNil, TTrue, TFalse, TSelf, TInt, TText, TVar, TNew, TAssign, TPrint, TToStr, TNot, TBinary, TCall}
use Rattle.hb_tree.specs.Canon.{quoted, op_level, least_left, least_right}
use Rattle.hb_draft.specs.Unfinished.{forest_of}
use Rattle.hb_grammar.specs.declared.actions.Action.TheVariants as a
use Rattle.hb_grammar.specs.declared.{symbols.Sort.Sort, symbols.Symbol.TheVariants.Phrase as N, symbols.Symbol.TheVariants.Action as A}
use Rattle.hb_grammar.specs.declared.symbols.Sort.TheVariants as g
use Rattle.hb_build.specs.{Said.Said, Acts.Work}
use Rattle.hb_build.specs.declared.held.Spot.{Spot}
use Rattle.hb_build.specs.Pile.{Slot, Operand, Own, Word, Target, Called, OfClass, arguments_on, below_arguments}
use Rattle.hb_canonical.specs.Deeds.{Deed, deed, plain, name, class}
use Rattle.hb_canonical.proofs.PlainLemmas.{plainly, plain_each}
use Rattle.hb_canonical.proofs.ConstructLemmas.{constructs, constructs_all, shielded, enclosed, max-fits, shielded-least, shielded-most, shielded-more}
use Rattle.hb_canonical.proofs.EffectLemmas.{Moves, Does, later-then, still, next, anew}
use Rattle.hb_canonical.proofs.ActionLemmas.{does-open, does-close, does-open_word, does-open_assign, does-hold_operator, does-hold_str, does-hold_name, does-hold_call}
use Rattle.hb_canonical.proofs.ActionLemmas.{does-hold_class, does-put_nil, does-put_boolean, does-put_self, does-put_number, does-put_text, does-put_variable, does-put_new}
use Rattle.hb_canonical.proofs.ActionLemmas.{does-put_assign, does-put_print, does-put_not, does-put_str, does-put_binary, does-put_call}
use Rattle.hb_canonical.proofs.PhraseLemmas.{Results, Pushes, Extends, Follows, ArgumentsWhole, Way}

-- ── results that go on ──

-- what goes on behind a result
pub extend : {pile : List Slot} {before : Said → List Deed → List Deed} {need : Type 0} (l most b : ℕ) {w u v : Work} {ds cs es : List Deed}
    → most ≤ l → Results pile before need l w ds u cs → Extends most b u cs v es → Results pile before need b w ds v es
extend {pile} {before} {need} l most b {w} {u} {v} {ds} {cs} {es} h r x =
    let y = x r.tree pile r.moves.pile_is in
    record {
      tree = y.tree;
      moves = anew (next r.moves y.moves) refl r.moves.depth_is;
      deeds = λ s later. r.deeds s (later-then y.moves.inside.later later) ∙ y.deeds s later;
      fits = λ n.
          let mine = r.fits n in
          let less = shielded-more most l r.tree (constructs r.tree) h in
          let same : u.depth ≡ w.depth = r.moves.depth_is in
          let all = y.fits (omega arith) in
          omega arith;
    }

-- a place that asks for less
pub weaken : {pile : List Slot} {before : Said → List Deed → List Deed} {need : Type 0} (l b : ℕ) {w v : Work} {ds es : List Deed}
    → b ≤ l → Results pile before need l w ds v es → Results pile before need b w ds v es
weaken l b h r = record {
  tree = r.tree;
  moves = r.moves;
  deeds = r.deeds;
  fits = λ n. let mine = r.fits n in let less = shielded-more b l r.tree (constructs r.tree) h in omega arith;
}

-- ── operators ──

level-alone : (o : Op) (id : ℕ) (l r : Tree) (n : ℕ) → shielded (op_level o) (TBinary id o l r) n ≡ n
level-alone op.Add id l r n = refl
level-alone _ _ _ _ _ = refl

operated : (o : Op) (w : Work) (ds : List Deed) (v1 : Work) (e1 : List Deed) (v2 : Work) (e2 : List Deed) (v3 : Work) (e3 : List Deed)
    → Does a.HoldOperator w ds v1 e1 → Pushes (least_right o) v1 e1 v2 e2 → Does (a.PutBinary o) v2 e2 v3 e3 → Extends (least_left o) (op_level o) w ds v3 e3
operated o w ds v1 e1 v2 e2 v3 e3 d1 r d3 l pile is =
    let m1 = does-hold_operator w ds v1 e1 d1 in
    let top : v2.pile ≡ Operand r.tree ∷ Own d1.spot ∷ Operand l ∷ pile = r.moves.pile_is ∙ ap (λ p. Operand r.tree ∷ p) (m1.pile_is ∙ ap (λ p. Own d1.spot ∷ p) is) in
    let m3 = does-put_binary v2 e2 v3 e3 o r.tree d1.spot l pile top d3 in
    record {
      tree = TBinary (length v2.said.places) o l r.tree;
      moves = anew (next m1 (next r.moves m3)) refl (r.moves.depth_is ∙ m1.depth_is);
      deeds = λ s later. ap (plainly s l) (d1.heard ∙ ap (λ x. plain a.HoldOperator ∷ x) (r.deeds s (later-then m3.inside.later later) ∙ ap (plainly s r.tree) d3.heard));
      fits = λ n.
          let same : v1.depth ≡ w.depth = m1.depth_is in
          let right = r.fits (omega (arith, shielded-least (least_left o) l (constructs l))) in
          let both = max-fits w.depth (shielded (least_left o) l (constructs l)) (shielded (least_right o) r.tree (constructs r.tree)) CONSTRUCTS_MAX n (omega arith) in
          rw (level-alone o (length v2.said.places) l r.tree (constructs (TBinary (length v2.said.places) o l r.tree))) both;
    }

module _ (w : Work) (ds : List Deed) (on : Work → List Deed → Type 0) where
  -- ── chains ──

  abbrev pub Operator : Op → Sort → Type 0
  Operator o sort = Way (A a.HoldOperator ∷ N sort ∷ A (a.PutBinary o) ∷ []) w ds on

  pub less : Operator op.Less g.Sum → Way (N g.MoreComparison ∷ []) w ds on
  less (v1, e1, d1, (v2, e2, r, (v3, e3, d3, k))) = (v3, e3, λ l pile is. weaken 1 0 (omega arith) (operated op.Less w ds v1 e1 v2 e2 v3 e3 d1 r d3 l pile is), k)

  pub equal : Operator op.Equal g.Sum → Way (N g.MoreComparison ∷ []) w ds on
  equal (v1, e1, d1, (v2, e2, r, (v3, e3, d3, k))) = (v3, e3, λ l pile is. weaken 1 0 (omega arith) (operated op.Equal w ds v1 e1 v2 e2 v3 e3 d1 r d3 l pile is), k)

  abbrev pub Operators : Op → Sort → Sort → Type 0
  Operators o sort more = Way (A a.HoldOperator ∷ N sort ∷ A (a.PutBinary o) ∷ N more ∷ []) w ds on

  pub add : Operators op.Add g.Product g.MoreSum → Way (N g.MoreSum ∷ []) w ds on
  add (v1, e1, d1, (v2, e2, r, (v3, e3, d3, (v4, e4, x, k)))) = (v4, e4, λ l pile is. extend 2 2 2 (omega arith) (operated op.Add w ds v1 e1 v2 e2 v3 e3 d1 r d3 l pile is) x, k)

  pub sub : Operators op.Sub g.Product g.MoreSum → Way (N g.MoreSum ∷ []) w ds on
  sub (v1, e1, d1, (v2, e2, r, (v3, e3, d3, (v4, e4, x, k)))) = (v4, e4, λ l pile is. extend 2 2 2 (omega arith) (operated op.Sub w ds v1 e1 v2 e2 v3 e3 d1 r d3 l pile is) x, k)

  pub concat : Operators op.Concat g.Product g.MoreSum → Way (N g.MoreSum ∷ []) w ds on
  concat (v1, e1, d1, (v2, e2, r, (v3, e3, d3, (v4, e4, x, k)))) = (v4, e4, λ l pile is. extend 2 2 2 (omega arith) (operated op.Concat w ds v1 e1 v2 e2 v3 e3 d1 r d3 l pile is) x, k)

  pub mul : Operators op.Mul g.Unary g.MoreProduct → Way (N g.MoreProduct ∷ []) w ds on
  mul (v1, e1, d1, (v2, e2, r, (v3, e3, d3, (v4, e4, x, k)))) = (v4, e4, λ l pile is. extend 3 3 3 (omega arith) (operated op.Mul w ds v1 e1 v2 e2 v3 e3 d1 r d3 l pile is) x, k)

  -- nothing goes on
  pub alone : (least most : ℕ) → most ≤ least → on w ds → (v : Work) × (es : List Deed) × Extends least most w ds v es × on v es
  alone least most h k = (
    w,
    ds,
    λ e pile is. record {
      tree = e;
      moves = anew (still w) is refl;
      deeds = λ s later. refl;
      fits = λ n. let less = shielded-more most least e (constructs e) h in omega arith;
    },
    k,
  )

  pub expression : Way (N g.OtherUnary ∷ N g.MoreProduct ∷ N g.MoreSum ∷ N g.MoreComparison ∷ []) w ds on → Way (N g.Expression ∷ []) w ds on
  expression (v1, e1, r, (v2, e2, x, (v3, e3, y, (v4, e4, z, k)))) =
      (v4, e4, extend 2 2 0 (omega arith) (extend 3 2 2 (omega arith) (extend 4 3 3 (omega arith) r x) y) z, k)

  pub sum : Way (N g.Product ∷ N g.MoreSum ∷ []) w ds on → Way (N g.Sum ∷ []) w ds on
  sum (v1, e1, r, (v2, e2, x, k)) = (v2, e2, extend 3 2 2 (omega arith) r x, k)

  pub product : Way (N g.Unary ∷ N g.MoreProduct ∷ []) w ds on → Way (N g.Product ∷ []) w ds on
  product (v1, e1, r, (v2, e2, x, k)) = (v2, e2, extend 4 3 3 (omega arith) r x, k)

  pub postfix : Way (N g.Primary ∷ N g.MorePostfix ∷ []) w ds on → Way (N g.Postfix ∷ []) w ds on
  postfix (v1, e1, r, (v2, e2, x, k)) = (v2, e2, extend 5 5 5 (omega arith) r x, k)

  pub other_value : Way (N g.Value ∷ N g.MorePostfix ∷ []) w ds on → Way (N g.OtherUnary ∷ []) w ds on
  other_value (v1, e1, r, (v2, e2, x, k)) = (v2, e2, weaken 5 4 (omega arith) (extend 5 5 5 (omega arith) r x), k)

  pub unary : Way (N g.Postfix ∷ []) w ds on → Way (N g.Unary ∷ []) w ds on
  unary (v1, e1, r, k) = (v1, e1, weaken 5 4 (omega arith) r, k)

  -- ── names ──

  pub expression_name : Way (A a.HoldName ∷ N g.AfterName ∷ []) w ds on → Way (N g.Expression ∷ []) w ds on
  expression_name (v1, e1, d, (v2, e2, f, k)) =
      (v2, e2, named v1 e1 d v2 e2 f, k)
    where
      named : (v1 : Work) (e1 : List Deed) (d : Does a.HoldName w ds v1 e1) (v2 : Work) (e2 : List Deed) → Follows v1 e1 v2 e2 → Pushes 0 w ds v2 e2
      named v1 e1 d v2 e2 f =
          let h = does-hold_name w ds v1 e1 d in
          let m1 : Moves w.said v1 (Word h.0 d.spot ∷ w.pile) w.depth = h.1 in
          let r = f h.0 d.spot w.pile m1.pile_is in
          record {
            tree = r.tree;
            moves = anew (next m1 r.moves) refl m1.depth_is;
            deeds = λ s later. d.heard ∙ ap (λ b. deed a.HoldName b ∷ e1) (sym (h.2 s (later-then r.moves.inside.later later))) ∙ r.deeds s later;
            fits = λ n. let same : v1.depth ≡ w.depth = m1.depth_is in let all = r.fits (omega arith) in omega arith;
          }

  variable : (x : ℕ) (q : Spot) (pile : List Slot) → w.pile ≡ Word x q ∷ pile → (v : Work) (es : List Deed) → Does a.PutVariable w ds v es
      → Results pile (λ s rest. name s a.HoldName x ∷ rest) (w.depth ≤ CONSTRUCTS_MAX) 5 w ds v es
  variable x q pile is v es d = record {
    tree = TVar (length w.said.places) x;
    moves = does-put_variable w ds v es x q pile is d;
    deeds = λ s later. ap (λ rest. name s a.HoldName x ∷ rest) d.heard;
    fits = λ n. omega arith;
  }

  pub after_variable : Way (A a.PutVariable ∷ N g.MorePostfix ∷ N g.MoreProduct ∷ N g.MoreSum ∷ N g.MoreComparison ∷ []) w ds on → Way (N g.AfterName ∷ []) w ds on
  after_variable (v1, e1, d, (v2, e2, x, (v3, e3, y, (v4, e4, z, (v5, e5, c, k))))) = (
    v5,
    e5,
    λ i q pile is. extend 2 2 0 (omega arith) (extend 3 2 2 (omega arith) (extend 5 3 3 (omega arith) (extend 5 5 5 (omega arith) (variable i q pile is v1 e1 d) x) y) z) c,
    k,
  )

  pub after_assign : Way (A a.OpenAssign ∷ N g.Expression ∷ A a.PutAssign ∷ []) w ds on → Way (N g.AfterName ∷ []) w ds on
  after_assign (v1, e1, d1, (v2, e2, r, (v3, e3, d3, k))) = (
    v3,
    e3,
    λ x q pile is.
        let o = does-open_assign w ds v1 e1 x q pile is d1 in
        let m1 : Moves w.said v1 (Target x d1.spot ∷ pile) (w.depth + 1) = o.0 in
        let room : w.depth + 1 ≤ CONSTRUCTS_MAX = o.1 in
        let m3 = does-put_assign v2 e2 v3 e3 r.tree x d1.spot pile (r.moves.pile_is ∙ ap (λ p. Operand r.tree ∷ p) m1.pile_is) d3 in
        record {
          tree = TAssign (length v2.said.places) x r.tree;
          moves = anew (next m1 (next r.moves m3)) refl (let a1 : v1.depth ≡ w.depth + 1 = m1.depth_is in let a2 : v2.depth ≡ v1.depth = r.moves.depth_is in omega arith);
          deeds = λ s later. ap (λ rest. name s a.HoldName x ∷ rest) (d1.heard ∙ ap (λ rest. plain a.OpenAssign ∷ rest) (r.deeds s (later-then m3.inside.later later) ∙ ap (plainly s r.tree) d3.heard));
          fits = λ n. let a1 : v1.depth ≡ w.depth + 1 = m1.depth_is in let all = r.fits (omega arith) in let least = shielded-least 0 r.tree (constructs r.tree) in omega arith;
        },
    k,
  )

  -- ── words that open a construct ──

  pub printed : Way (A a.OpenWord ∷ N g.Expression ∷ A a.PutPrint ∷ []) w ds on → Way (N g.Expression ∷ []) w ds on
  printed (v1, e1, d1, (v2, e2, r, (v3, e3, d3, k))) =
      let o = does-open_word w ds v1 e1 d1 in
      let m1 : Moves w.said v1 (Own d1.spot ∷ w.pile) (w.depth + 1) = o.0 in
      let room : w.depth + 1 ≤ CONSTRUCTS_MAX = o.1 in
      let m3 = does-put_print v2 e2 v3 e3 r.tree d1.spot w.pile (r.moves.pile_is ∙ ap (λ p. Operand r.tree ∷ p) m1.pile_is) d3 in
      let a1 : v1.depth ≡ w.depth + 1 = m1.depth_is in
      let a2 : v2.depth ≡ v1.depth = r.moves.depth_is in
      let back : v2.depth - 1 ≡ w.depth = omega arith in
      let all = r.fits (omega arith) in
      let least = shielded-least 0 r.tree (constructs r.tree) in (
        v3,
        e3,
        record {
          tree = TPrint (length v2.said.places) r.tree;
          moves = anew (next m1 (next r.moves m3)) refl back;
          deeds = λ s later. d1.heard ∙ ap (λ rest. plain a.OpenWord ∷ rest) (r.deeds s (later-then m3.inside.later later) ∙ ap (plainly s r.tree) d3.heard);
          fits = λ n. omega arith;
        },
        k,
      )

  denied : (v1 : Work) (e1 : List Deed) (d1 : Does a.OpenWord w ds v1 e1) (v2 : Work) (e2 : List Deed) (r : Pushes 4 v1 e1 v2 e2) (v3 : Work) (e3 : List Deed) (d3 : Does a.PutNot v2 e2 v3 e3) → Pushes 4 w ds v3 e3
  denied v1 e1 d1 v2 e2 r v3 e3 d3 =
      let o = does-open_word w ds v1 e1 d1 in
      let m1 : Moves w.said v1 (Own d1.spot ∷ w.pile) (w.depth + 1) = o.0 in
      let room : w.depth + 1 ≤ CONSTRUCTS_MAX = o.1 in
      let m3 = does-put_not v2 e2 v3 e3 r.tree d1.spot w.pile (r.moves.pile_is ∙ ap (λ p. Operand r.tree ∷ p) m1.pile_is) d3 in
      let a1 : v1.depth ≡ w.depth + 1 = m1.depth_is in
      let a2 : v2.depth ≡ v1.depth = r.moves.depth_is in
      let back : v2.depth - 1 ≡ w.depth = omega arith in
      let all = r.fits (omega arith) in
      record {
        tree = TNot (length v2.said.places) r.tree;
        moves = anew (next m1 (next r.moves m3)) refl back;
        deeds = λ s later. d1.heard ∙ ap (λ rest. plain a.OpenWord ∷ rest) (r.deeds s (later-then m3.inside.later later) ∙ ap (plainly s r.tree) d3.heard);
        fits = λ n. omega arith;
      }

  pub other_not : Way (A a.OpenWord ∷ N g.Unary ∷ A a.PutNot ∷ []) w ds on → Way (N g.OtherUnary ∷ []) w ds on
  other_not (v1, e1, d1, (v2, e2, r, (v3, e3, d3, k))) = (v3, e3, denied v1 e1 d1 v2 e2 r v3 e3 d3, k)

  pub unary_not : Way (A a.OpenWord ∷ N g.Unary ∷ A a.PutNot ∷ []) w ds on → Way (N g.Unary ∷ []) w ds on
  unary_not (v1, e1, d1, (v2, e2, r, (v3, e3, d3, k))) = (v3, e3, denied v1 e1 d1 v2 e2 r v3 e3 d3, k)

  -- ── values ──

  pub primary_name : Way (A a.HoldName ∷ A a.PutVariable ∷ []) w ds on → Way (N g.Primary ∷ []) w ds on
  primary_name (v1, e1, d, (v2, e2, c, k)) =
      let h = does-hold_name w ds v1 e1 d in
      let m1 : Moves w.said v1 (Word h.0 d.spot ∷ w.pile) w.depth = h.1 in
      let m2 = does-put_variable v1 e1 v2 e2 h.0 d.spot w.pile m1.pile_is c in (
        v2,
        e2,
        record {
          tree = TVar (length v1.said.places) h.0;
          moves = anew (next m1 m2) refl m1.depth_is;
          deeds = λ s later. d.heard ∙ ap (λ b. deed a.HoldName b ∷ e1) (sym (h.2 s (later-then m2.inside.later later))) ∙ ap (λ rest. name s a.HoldName h.0 ∷ rest) c.heard;
          fits = λ n. omega arith;
        },
        k,
      )

  pub nil : Way (A a.PutNil ∷ []) w ds on → Way (N g.Value ∷ []) w ds on
  nil (v, es, d, k) = (v, es, record { tree = TNil (length w.said.places); moves = does-put_nil w ds v es d; deeds = λ s later. d.heard; fits = λ n. omega arith }, k)

  pub truth : Way (A (a.PutBoolean true) ∷ []) w ds on → Way (N g.Value ∷ []) w ds on
  truth (v, es, d, k) = (v, es, record { tree = TTrue (length w.said.places); moves = does-put_boolean w ds v es true d; deeds = λ s later. d.heard; fits = λ n. omega arith }, k)

  pub falsehood : Way (A (a.PutBoolean false) ∷ []) w ds on → Way (N g.Value ∷ []) w ds on
  falsehood (v, es, d, k) = (v, es, record { tree = TFalse (length w.said.places); moves = does-put_boolean w ds v es false d; deeds = λ s later. d.heard; fits = λ n. omega arith }, k)

  pub oneself : Way (A a.PutSelf ∷ []) w ds on → Way (N g.Value ∷ []) w ds on
  oneself (v, es, d, k) = (v, es, record { tree = TSelf (length w.said.places); moves = does-put_self w ds v es d; deeds = λ s later. d.heard; fits = λ n. omega arith }, k)

  pub number : Way (A a.PutNumber ∷ []) w ds on → Way (N g.Value ∷ []) w ds on
  number (v, es, d, k) = (v, es, record { tree = TInt (length w.said.places) (pos (value_of_number d.bytes)); moves = does-put_number w ds v es d; deeds = λ s later. d.heard; fits = λ n. omega arith }, k)

  pub text : Way (A a.PutText ∷ []) w ds on → Way (N g.Value ∷ []) w ds on
  text (v, es, d, k) =
      let h = does-put_text w ds v es d in (
        v,
        es,
        record {
          tree = TText (length w.said.places) h.0;
          moves = h.1;
          deeds = λ s later. d.heard ∙ ap (λ value. deed a.PutText (quoted value) ∷ es) (sym (h.2 s later));
          fits = λ n. omega arith;
        },
        k,
      )

  pub made : Way (A a.HoldClass ∷ A a.PutNew ∷ []) w ds on → Way (N g.Value ∷ []) w ds on
  made (v1, e1, d, (v2, e2, c, k)) =
      let h = does-hold_class w ds v1 e1 d in
      let m1 : Moves w.said v1 (OfClass h.0 d.spot ∷ w.pile) w.depth = h.1 in
      let m2 = does-put_new v1 e1 v2 e2 h.0 d.spot w.pile m1.pile_is c in (
        v2,
        e2,
        record {
          tree = TNew (length v1.said.places) h.0;
          moves = anew (next m1 m2) refl m1.depth_is;
          deeds = λ s later. d.heard ∙ ap (λ b. deed a.HoldClass b ∷ e1) (sym (h.2 s (later-then m2.inside.later later))) ∙ ap (λ rest. class s a.HoldClass h.0 ∷ rest) c.heard;
          fits = λ n. omega arith;
        },
        k,
      )

  pub in_parentheses : Way (A a.Open ∷ N g.Expression ∷ A a.Close ∷ []) w ds on → Way (N g.Value ∷ []) w ds on
  in_parentheses (v1, e1, d1, (v2, e2, r, (v3, e3, d3, k))) =
      let o = does-open w ds v1 e1 d1 in
      let m1 : Moves w.said v1 w.pile (w.depth + 1) = o.0 in
      let room : w.depth + 1 ≤ CONSTRUCTS_MAX = o.1 in
      let m3 = does-close v2 e2 v3 e3 d3 in
      let a1 : v1.depth ≡ w.depth + 1 = m1.depth_is in
      let a2 : v2.depth ≡ v1.depth = r.moves.depth_is in
      let back : v2.depth - 1 ≡ w.depth = omega arith in
      let all = r.fits (omega arith) in
      let least = shielded-least 0 r.tree (constructs r.tree) in
      let most = shielded-most 5 r.tree (constructs r.tree) in (
        v3,
        e3,
        record {
          tree = r.tree;
          moves = anew (next m1 (next r.moves m3)) (r.moves.pile_is ∙ ap (λ p. Operand r.tree ∷ p) m1.pile_is) back;
          deeds = λ s later. d1.heard ∙ r.deeds s (later-then m3.inside.later later) ∙ ap (plainly s r.tree) d3.heard;
          fits = λ n. omega arith;
        },
        k,
      )

  pub spelled : Way (A a.HoldStr ∷ A a.Open ∷ N g.Expression ∷ A a.Close ∷ A a.PutStr ∷ []) w ds on → Way (N g.Value ∷ []) w ds on
  spelled (v0, e0, d0, (v1, e1, d1, (v2, e2, r, (v3, e3, d3, (v4, e4, d4, k))))) =
      let m0 = does-hold_str w ds v0 e0 d0 in
      let o = does-open v0 e0 v1 e1 d1 in
      let m1 : Moves v0.said v1 v0.pile (v0.depth + 1) = o.0 in
      let room : v0.depth + 1 ≤ CONSTRUCTS_MAX = o.1 in
      let m3 = does-close v2 e2 v3 e3 d3 in
      let m4 = does-put_str v3 e3 v4 e4 r.tree d0.spot w.pile (m3.pile_is ∙ r.moves.pile_is ∙ ap (λ p. Operand r.tree ∷ p) (m1.pile_is ∙ m0.pile_is)) d4 in
      let a0 : v0.depth ≡ w.depth = m0.depth_is in
      let a1 : v1.depth ≡ v0.depth + 1 = m1.depth_is in
      let a2 : v2.depth ≡ v1.depth = r.moves.depth_is in
      let a3 : v3.depth ≡ v2.depth - 1 = m3.depth_is in
      let back : v3.depth ≡ w.depth = omega arith in
      let all = r.fits (omega arith) in
      let least = shielded-least 0 r.tree (constructs r.tree) in (
        v4,
        e4,
        record {
          tree = TToStr (length v3.said.places) r.tree;
          moves = anew (next m0 (next m1 (next r.moves (next m3 m4)))) refl back;
          deeds = λ s later.
              d0.heard ∙ ap (λ rest. plain a.HoldStr ∷ rest) (d1.heard ∙ r.deeds s (later-then m3.inside.later (later-then m4.inside.later later)) ∙ ap (plainly s r.tree) (d3.heard ∙ d4.heard));
          fits = λ n. omega arith;
        },
        k,
      )

  -- ── calls ──

  pub called : Way (A a.HoldCall ∷ N g.Arguments ∷ A a.PutCall ∷ N g.MorePostfix ∷ []) w ds on → Way (N g.MorePostfix ∷ []) w ds on
  called (v1, e1, d1, (v2, e2, given, (v3, e3, d3, (v4, e4, x, k)))) =
      (v4, e4, λ r pile is. extend 5 5 5 (omega arith) (call v1 e1 d1 v2 e2 given v3 e3 d3 r pile is) x, k)
    where
      call : (v1 : Work) (e1 : List Deed) (d1 : Does a.HoldCall w ds v1 e1) (v2 : Work) (e2 : List Deed) (given : ArgumentsWhole v1 e1 v2 e2) (v3 : Work) (e3 : List Deed)
          (d3 : Does a.PutCall v2 e2 v3 e3) → Extends 5 5 w ds v3 e3
      call v1 e1 d1 v2 e2 given v3 e3 d3 r pile is =
          let h = does-hold_call w ds v1 e1 d1 in
          let m1 : Moves w.said v1 (Called h.0 d1.spot ∷ w.pile) w.depth = h.1 in
          let below : below_arguments v2.pile ≡ Called h.0 d1.spot ∷ Operand r ∷ pile = given.below_is ∙ ap below_arguments m1.pile_is ∙ ap (λ p. Called h.0 d1.spot ∷ p) is in
          let mine : arguments_on v2.pile ≡ given.more = given.on_is ∙ ap (λ p. arguments_on p ++ given.more) m1.pile_is in
          let m3 = does-put_call v2 e2 v3 e3 h.0 d1.spot r pile below d3 in
          let a1 : v1.depth ≡ w.depth = m1.depth_is in
          let a2 : v2.depth ≡ v1.depth = given.moves.depth_is in
          let id : ℕ = length v2.said.places in
          record {
            tree = TCall id r h.0 (forest_of given.more);
            moves = anew (next m1 (next given.moves m3)) (ap (λ es. Operand (TCall id r h.0 (forest_of es)) ∷ pile) mine) (omega arith);
            deeds = λ s later.
                let g3 = later-then m3.inside.later later in
                ap (plainly s r) (d1.heard
                ∙ ap (λ b. deed a.HoldCall b ∷ e1) (sym (h.2 s (later-then given.moves.inside.later g3)))
                ∙ ap (λ rest. name s a.HoldCall h.0 ∷ rest) (given.deeds s g3 ∙ ap (plain_each s a.AddArgument (forest_of given.more)) d3.heard));
            fits = λ n.
                let more = given.fits (omega arith) in
                max-fits w.depth (shielded 5 r (constructs r)) (enclosed (forest_of given.more) (constructs_all (forest_of given.more))) CONSTRUCTS_MAX n (omega arith);
          }
