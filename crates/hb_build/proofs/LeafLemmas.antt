-- A node without parts.
use Rattle.std.proofs.Common.{◌≡◌, ℕ, ◌≤◌, ◌<◌, List, [], ◌∷◌, ◌++◌, true, false, Some, None, refl, sym, ◌∙◌, ap, subst, inl, inr, length, arith}
use Rattle.std.specs.Prelude.{nat_lt}
use Rattle.std.proofs.lemmas.Bool.{cases_Bool, cond-true, cond-false, ltb-false}
use Rattle.std.proofs.lemmas.List.{append-nil}
use Rattle.hb_types.specs.declared.{ids.ClassId.ClassId, ids.NameId.NameId}
use Rattle.hb_lex.specs.{Literal.value_of_number}
use Rattle.hb_lex.specs.declared.kinds.TokenKind.TheVariants as k
use Rattle.hb_tree.specs.Tree.{Tree, TText, IsExpr}
use Rattle.hb_tree.specs.Counts.{height, nodes_in, calls_in, names_assigned_in}
use Rattle.hb_draft.specs.Unfinished.{Unfinished, in_hand, scripts_in, leaf_over}
use Rattle.hb_draft.specs.Words.{with_word}
use Rattle.hb_draft.specs.Made.{Made, made_of, word_number, with_text}
use Rattle.hb_build.specs.{Said.said_of, Needs.IsOfKind}
use Rattle.hb_build.specs.declared.{builder.Builder.Builder, held.Held.Held, held.Spot.Spot, faults.ParseFail.ParseFail}
use Rattle.hb_build.specs.declared.held.Held.TheVariants as held
use Rattle.hb_build.specs.declared.faults.ParseFail.TheVariants as fail
use Rattle.hb_build.specs.declared.faults.Limit.TheVariants as limit
use Rattle.hb_build.specs.Pile.{Slot, Operand, Word, OfClass, piled, is_full, names_since}
use Rattle.hb_build.specs.Acts.{Work, Answer, Goes, Fails, complete, passed, leaf}
use Rattle.hb_build.specs.Sound.{things_of, pile_of, work_of, trees_in, IsGood, IsSound, with_node}
use Rattle.hb_build.proofs.NodeLemmas.{IsOneMore, IsPut, IsWithin, within, node-goes, complete-fails, is_over, sound-put, pushed, some_not_none}
use Rattle.hb_lex.specs.Sizes.{greatest_number}

-- what a node without parts counts
pub record IsLeaf (make : ℕ → Tree) : Type 0 where
  pub kind : (id : ℕ) → IsExpr (make id)
  pub high : (id : ℕ) → height (make id) ≡ 1
  pub nodes : (id : ℕ) → nodes_in (make id) ≡ 1
  pub calls : (id : ℕ) → calls_in (make id) ≡ 0
  pub names : (id : ℕ) → names_assigned_in (make id) ≡ []

more-leaf : (make : ℕ → Tree) → IsLeaf make → (id : ℕ) (pile : List Slot) → IsOneMore pile (Operand (make id) ∷ pile)
more-leaf make is id pile = record {
  body = refl;
  nodes = omega (arith, is.nodes id);
  calls = omega (arith, is.calls id);
  names = ap (λ (xs : List ℕ). names_since pile ++ xs) (is.names id) ∙ append-nil (names_since pile);
  outer = refl;
  scopes = refl;
  pending = refl;
}

more-over-word : (make : ℕ → Tree) → IsLeaf make → (id x : ℕ) (p : Spot) (pile : List Slot) → IsOneMore (Word x p ∷ pile) (Operand (make id) ∷ pile)
more-over-word make is id x p pile = let m : IsOneMore pile (Operand (make id) ∷ pile) = more-leaf make is id pile in
    record { body = m.body; nodes = m.nodes; calls = m.calls; names = m.names; outer = m.outer; scopes = m.scopes; pending = m.pending }

more-over-class : (make : ℕ → Tree) → IsLeaf make → (id c : ℕ) (p : Spot) (pile : List Slot) → IsOneMore (OfClass c p ∷ pile) (Operand (make id) ∷ pile)
more-over-class make is id c p pile = let m : IsOneMore pile (Operand (make id) ∷ pile) = more-leaf make is id pile in
    record { body = m.body; nodes = m.nodes; calls = m.calls; names = m.names; outer = m.outer; scopes = m.scopes; pending = m.pending }

-- A leaf may lie over these things of a builder: what lies on them now, if anything, is no tree, and counts for nothing.
pub record IsBelow (b : Builder) (rest : List Held) : Type 0 where
  pub matched : trees_in rest ≤ length (in_hand b.draft)
  pub good : IsGood (length b.draft.table.names) (length b.draft.table.classes) (piled rest (in_hand b.draft))
  pub more : (make : ℕ → Tree) → IsLeaf make → (id : ℕ) → IsOneMore (pile_of b) (Operand (make id) ∷ piled rest (in_hand b.draft))

pub below-all : (b : Builder) → IsSound b → IsBelow b (things_of b)
below-all b sound = record { matched = sound.matched; good = sound.good; more = λ make is id. more-leaf make is id (pile_of b) }

-- a pile with its first thing named
pub topped : (b : Builder) (things : List Held) → things_of b ≡ things → pile_of b ≡ piled things (in_hand b.draft)
topped b things is = ap (λ (x : List Held). piled x (in_hand b.draft)) is

good-on : (b : Builder) → IsSound b → (things : List Held) → things_of b ≡ things → IsGood (length b.draft.table.names) (length b.draft.table.classes) (piled things (in_hand b.draft))
good-on b sound things is = let P = λ (x : List Slot). IsGood (length b.draft.table.names) (length b.draft.table.classes) x in subst P (topped b things is) sound.good

matched-on : (b : Builder) → IsSound b → (things : List Held) → things_of b ≡ things → trees_in things ≤ length (in_hand b.draft)
matched-on b sound things is = subst (λ (x : List Held). trees_in x ≤ length (in_hand b.draft)) is sound.matched

pub known-word : (b : Builder) → IsSound b → (x : NameId) (p : Spot) (rest : List Held) → things_of b ≡ held.Word x p ∷ rest → x.0 < length b.draft.table.names
known-word b sound x p rest is = (good-on b sound (held.Word x p ∷ rest) is).0

pub below-word : (b : Builder) → IsSound b → (x : NameId) (p : Spot) (rest : List Held) → things_of b ≡ held.Word x p ∷ rest → IsBelow b rest
below-word b sound x p rest is = record {
  matched = matched-on b sound (held.Word x p ∷ rest) is;
  good = (good-on b sound (held.Word x p ∷ rest) is).1;
  more = λ make leafy id. let P = λ (y : List Slot). IsOneMore y (Operand (make id) ∷ piled rest (in_hand b.draft)) in
      subst P (sym (topped b (held.Word x p ∷ rest) is)) (more-over-word make leafy id x.0 p (piled rest (in_hand b.draft)));
}

pub known-class : (b : Builder) → IsSound b → (c : ClassId) (p : Spot) (rest : List Held) → things_of b ≡ held.Class c p ∷ rest → c.0 < length b.draft.table.classes
known-class b sound c p rest is = (good-on b sound (held.Class c p ∷ rest) is).0

pub below-class : (b : Builder) → IsSound b → (c : ClassId) (p : Spot) (rest : List Held) → things_of b ≡ held.Class c p ∷ rest → IsBelow b rest
below-class b sound c p rest is = record {
  matched = matched-on b sound (held.Class c p ∷ rest) is;
  good = (good-on b sound (held.Class c p ∷ rest) is).1;
  more = λ make leafy id. let P = λ (y : List Slot). IsOneMore y (Operand (make id) ∷ piled rest (in_hand b.draft)) in
      subst P (sym (topped b (held.Class c p ∷ rest) is)) (more-over-class make leafy id c.0 p (piled rest (in_hand b.draft)));
}

-- what a step of such an action leads to, from the limits that were checked
module _ (b : Builder) (sound : IsSound b) (make : ℕ → Tree) (is : IsLeaf make) (rest : List Held) (below : IsBelow b rest) (p : Spot) (w : Work) (places : w.said.places ≡ (work_of b).said.places) where
  abbrev pub done : Answer
  done = complete p make Operand (piled rest (in_hand b.draft)) w

  abbrev number : ℕ
  number = length (work_of b).said.places

  pub leaf-fails : (fault : ParseFail) → passed 1 (length b.draft.table.nodes) (is_over b.scope) p.at ≡ Some fault → done ≡ Fails fault
  leaf-fails fault e = complete-fails b sound p make Operand (piled rest (in_hand b.draft)) w places 0 (is.high number) (below.more make is number) fault e

  pub leaf-goes : passed 1 (length b.draft.table.nodes) (is_over b.scope) p.at ≡ None
      → (new : Builder) → IsPut b new (held.Operand ∷ rest) (leaf_over make (length (work_of b).said.places) (in_hand b.draft))
      → (place : ℕ × ℕ) → place ≡ (p.line, p.column) → said_of (made_of new.draft) ≡ record w.said { places = w.said.places ++ place ∷ [] } → new.depth ≡ w.depth
      → (done ≡ Goes (work_of new)) × IsSound new
  leaf-goes e new put place place_is said depth =
      let limits : IsWithin 1 (length b.draft.table.nodes) (is_over b.scope) = within 1 (length b.draft.table.nodes) (is_over b.scope) p.at e in
      let few : trees_in (held.Operand ∷ rest) ≤ length (make number ∷ in_hand b.draft) = omega (arith, below.matched) in
      let sound-after : IsSound new = sound-put b new (held.Operand ∷ rest) (make number ∷ in_hand b.draft) sound put few (is.kind number, below.good) (below.more make is number) limits.few in (
        node-goes b sound p make Operand (piled rest (in_hand b.draft)) w places 0 (is.high number) (below.more make is number) e new (held.Operand ∷ rest)
            (make number ∷ in_hand b.draft) put refl place place_is said depth,
        sound-after,
      )

-- a leaf at the last token, which begins an expression
pub leaf-full : (p : Spot) (make : ℕ → Tree) (w : Work) → is_full w.pile ≡ true → leaf p make w ≡ Fails (fail.TooMany limit.Arguments p.at)
leaf-full p make w full = cond-true (is_full w.pile) _ _ full

pub leaf-room : (p : Spot) (make : ℕ → Tree) (w : Work) → is_full w.pile ≡ false → leaf p make w ≡ complete p make Operand w.pile w
leaf-room p make w room = cond-false (is_full w.pile) _ _ room

-- ── literals ──

-- a number is no greater than the greatest
pub number-small : (bytes : List ℕ) → IsOfKind k.Number bytes → value_of_number bytes ≤ greatest_number
number-small bytes is = elim (cases_Bool (nat_lt greatest_number (value_of_number bytes))) [
  | inl over ↦ absurd (some_not_none (sym (cond-true (nat_lt greatest_number (value_of_number bytes)) _ _ over) ∙ is.small))
  | inr within ↦ omega (arith, ltb-false greatest_number (value_of_number bytes) within)
]

-- the work with this text numbered
abbrev pub texted : List ℕ → Work → Work
texted value w = record w { said = record w.said { texts = with_word w.said.texts value } }

abbrev pub text-leaf : List ℕ → Work → ℕ → Tree
text-leaf value w id = TText id (word_number w.said.texts value)

-- The builder after the draft made the leaf of a text, and an expression was put on the pile.
module _ (b new : Builder) (draft : Unfinished) (value : List ℕ)
    (rest : new ≡ record { alloc = b.alloc; draft = draft; held = new.held; scope = with_node b.scope; outer = b.outer; depth = b.depth; declaring = b.declaring; scripts = b.scripts })
    (held_is : new.held.items ≡ b.held.items ++ held.Operand ∷ []) (place : ℕ × ℕ)
    (made : made_of draft ≡ with_text (made_of b.draft) place value) (types : draft.table.types ≡ b.draft.table.types) where
  draft_is : new.draft ≡ draft
  draft_is = ap (λ (x : Builder). x.draft) rest

  pub text-put : IsPut b new (held.Operand ∷ things_of b) (leaf_over (text-leaf value (work_of b)) (length (work_of b).said.places) (in_hand b.draft))
  text-put = record {
    things_are = pushed b.held.items new.held.items held.Operand held_is;
    hand_is = ap in_hand draft_is ∙ ap (λ (m : Made). m.hand) made;
    scope = ap (λ (x : Builder). x.scope) rest;
    outer = ap (λ (x : Builder). x.outer) rest;
    declaring = ap (λ (x : Builder). x.declaring) rest;
    scripts = ap (λ (x : Builder). x.scripts) rest;
    names = ap (λ (x : Unfinished). x.table.names) draft_is ∙ ap (λ (m : Made). m.names) made;
    classes = ap (λ (x : Unfinished). x.table.classes) draft_is ∙ ap (λ (m : Made). m.classes) made;
    types = ap (λ (x : Unfinished). x.table.types) draft_is ∙ types;
    told = ap (λ (x : Unfinished). scripts_in x.table) draft_is ∙ ap (λ (m : Made). m.scripts) made;
  }

  pub text-said : said_of (made_of new.draft) ≡ record (texted value (work_of b)).said { places = (work_of b).said.places ++ place ∷ [] }
  text-said = ap (λ (x : Unfinished). said_of (made_of x)) draft_is ∙ ap said_of made

  pub text-depth : new.depth ≡ b.depth
  text-depth = ap (λ (x : Builder). x.depth) rest
