-- A node is complete: the limits that it may pass, and what holds of the builder then.
use Rattle.std.proofs.Common.{◌≡◌, ℕ, ◌+◌, ◌<◌, ◌≤◌, List, [], ◌∷◌, ◌++◌, Bool, true, false, ◌&&◌, nat_eq, Option, Some, None, sym, ◌∙◌, ap, ap₂, inl, inr, length, reverse, arith, Result, Ok, Err}
use Rattle.std.specs.{Prelude.nat_le, Prelude.nat_lt, Set.is_member}
use Rattle.std.proofs.lemmas.Bool.{cases_Bool, cond-true, cond-false, ltb-false, leb-false}
use Rattle.std.proofs.{lemmas.List.length-map, lemmas.List.reverse-append, lemmas.Result.err_from_is_err_and}
use Rattle.hb_tree.specs.{Tree.Tree, Counts.height}
use Rattle.hb_tree.specs.declared.limits.TheConstants.{HEIGHT_MAX, NODES_MAX, NODES_IN_BODY_MAX}
use Rattle.hb_draft.specs.{Unfinished.Unfinished, Unfinished.in_hand, Unfinished.scripts_in, Made.Made, Made.made_of, Made.place_of, Made.with_node as with_made}
use Rattle.hb_build.specs.{Said.Said, Said.said_of, Answers.Answers}
use Rattle.hb_build.specs.declared.{builder.Builder.Builder, builder.Scope.Scope, held.Held.Held, held.Spot.Spot, faults.ParseFail.ParseFail}
use Rattle.hb_build.specs.declared.faults.ParseFail.TheVariants as fail
use Rattle.std.specs.Prelude.{IsErrAnd, OnOk, OnErr}
use Rattle.hb_build.specs.Pile.{Slot, piled, in_body, nodes_since, calls_since, names_since, declaring, has_too_many_nodes}
use Rattle.hb_build.specs.Acts.{Work, Answer, Goes, Fails, complete, passed, unless}
use Rattle.hb_build.specs.Sound.{things_of, pile_of, work_of, trees_in, IsGood, outside, marks, IsCount, IsSound, with_node}

-- ── limits ──

pub record IsWithin (height nodes : ℕ) (many : Bool) : Type 0 where
  pub low : height ≤ HEIGHT_MAX
  pub room : nodes < NODES_MAX
  pub few : many ≡ false

pub some_not_none : {X : Type 0} {x : X} → Some x ≡ None → ⊥
some_not_none e = cc

pub within : (h n : ℕ) (m : Bool) (at : ℕ) → passed h n m at ≡ None → IsWithin h n m
within h n m at e = elim (cases_Bool (nat_lt HEIGHT_MAX h)) [
  | inl t ↦ absurd (some_not_none (sym (cond-true (nat_lt HEIGHT_MAX h) _ _ t) ∙ e))
  | inr f ↦ let e1 = sym (cond-false (nat_lt HEIGHT_MAX h) _ _ f) ∙ e in elim (cases_Bool (nat_le NODES_MAX n)) [
    | inl t ↦ absurd (some_not_none (sym (cond-true (nat_le NODES_MAX n) _ _ t) ∙ e1))
    | inr g ↦ let e2 = sym (cond-false (nat_le NODES_MAX n) _ _ g) ∙ e1 in elim (cases_Bool m) [
      | inl t ↦ absurd (some_not_none (sym (cond-true m _ _ t) ∙ e2))
      | inr k ↦ record { low = omega (arith, ltb-false HEIGHT_MAX h f); room = omega (arith, leb-false NODES_MAX n g); few = k }
    ]
  ]
]

-- ── counts ──

-- the innermost scope has one node more, and all else counts as before
pub record IsOneMore (old new : List Slot) : Type 0 where
  pub body : in_body new ≡ in_body old
  pub nodes : nodes_since new ≡ nodes_since old + 1
  pub calls : calls_since new ≡ calls_since old
  pub names : names_since new ≡ names_since old
  pub outer : outside new ≡ outside old
  pub scopes : marks new ≡ marks old
  pub pending : declaring new ≡ declaring old

-- whether a body has too many nodes with the next one
abbrev pub is_over : Scope → Bool
is_over s = s.is_body && nat_lt NODES_IN_BODY_MAX (s.nodes + 1)

many-same : (s : Scope) (old new : List Slot) → IsCount s old → IsOneMore old new → has_too_many_nodes new ≡ is_over s
many-same s old new count more = elim (cases_Bool (in_body old)) [
  | inl t ↦
      let n : nodes_since new ≡ s.nodes + 1 = omega (arith, more.nodes, count.nodes t) in
      ap₂ (λ (x : Bool) (y : ℕ). x && nat_lt NODES_IN_BODY_MAX y) (more.body ∙ sym count.body) n
  | inr f ↦
      let out : in_body new ≡ false = more.body ∙ f in
      let out' : s.is_body ≡ false = count.body ∙ f in
      ap (λ (x : Bool). x && nat_lt NODES_IN_BODY_MAX (nodes_since new)) out ∙ sym (ap (λ (x : Bool). x && nat_lt NODES_IN_BODY_MAX (s.nodes + 1)) out')
]

count-more : (s : Scope) (old new : List Slot) → IsCount s old → IsOneMore old new → is_over s ≡ false → IsCount (with_node s) new
count-more s old new count more few = record {
  body = count.body ∙ sym more.body;
  nodes = λ t. let b : s.is_body ≡ true = count.body ∙ sym more.body ∙ t in
      cond-true s.is_body (s.nodes + 1) s.nodes b ∙ omega (arith, more.nodes, count.nodes (sym more.body ∙ t));
  calls = λ t. count.calls (sym more.body ∙ t) ∙ sym more.calls;
  apart = count.apart;
  same = λ x. count.same x ∙ ap (λ (xs : List ℕ). is_member nat_eq xs x) (sym more.names);
  few = count.few;
  few_nodes = λ t. let b : s.is_body ≡ true = count.body ∙ sym more.body ∙ t in
      let f : nat_lt NODES_IN_BODY_MAX (s.nodes + 1) ≡ false = sym (ap (λ (x : Bool). x && nat_lt NODES_IN_BODY_MAX (s.nodes + 1)) b) ∙ few in
      omega (arith, ltb-false NODES_IN_BODY_MAX (s.nodes + 1) f, more.nodes, count.nodes (sym more.body ∙ t));
  few_calls = λ t. omega (arith, more.calls, count.few_calls (sym more.body ∙ t));
}

-- ── the answer ──

module _ (b : Builder) (sound : IsSound b) (p : Spot) (make : ℕ → Tree) (slot : Tree → Slot) (pile : List Slot) (w : Work) (places : w.said.places ≡ (work_of b).said.places)
    (highest : ℕ) (high : height (make (length (work_of b).said.places)) ≡ 1 + highest) (more : IsOneMore (pile_of b) (slot (make (length (work_of b).said.places)) ∷ pile)) where
  abbrev pub node : Tree
  node = make (length w.said.places)

  same_node : node ≡ make (length (work_of b).said.places)
  same_node = ap (λ (xs : List (ℕ × ℕ)). make (length xs)) places

  same_fault : passed (height node) (length w.said.places) (has_too_many_nodes (slot node ∷ pile)) p.at ≡ passed (1 + highest) (length b.draft.table.nodes) (is_over b.scope) p.at
  same_fault =
      let h : height node ≡ 1 + highest = ap height same_node ∙ high in
      let n : length w.said.places ≡ length b.draft.table.nodes = ap length places ∙ length-map b.draft.table.nodes place_of in
      let m : has_too_many_nodes (slot node ∷ pile) ≡ is_over b.scope = ap (λ (t : Tree). has_too_many_nodes (slot t ∷ pile)) same_node ∙ many-same b.scope _ _ sound.counts.0 more in
      ap (λ (x : ℕ). passed x (length w.said.places) (has_too_many_nodes (slot node ∷ pile)) p.at) h
      ∙ ap (λ (x : ℕ). passed (1 + highest) x (has_too_many_nodes (slot node ∷ pile)) p.at) n
      ∙ ap (λ (x : Bool). passed (1 + highest) (length b.draft.table.nodes) x p.at) m

  abbrev pub after : Work
  after = record w { said = record w.said { places = w.said.places ++ (p.line, p.column) ∷ [] }; pile = slot node ∷ pile }

  pub complete-goes : passed (1 + highest) (length b.draft.table.nodes) (is_over b.scope) p.at ≡ None → complete p make slot pile w ≡ Goes after
  complete-goes e = ap (λ (x : Option ParseFail). unless x (Goes after)) (same_fault ∙ e)

  pub complete-fails : (fault : ParseFail) → passed (1 + highest) (length b.draft.table.nodes) (is_over b.scope) p.at ≡ Some fault → complete p make slot pile w ≡ Fails fault
  complete-fails fault e = ap (λ (x : Option ParseFail). unless x (Goes after)) (same_fault ∙ e)

-- ── the builder ──

-- these things and trees are not yet used, and the rest is as before
pub record IsPut (old new : Builder) (things : List Held) (hand : List Tree) : Type 0 where
  pub things_are : things_of new ≡ things
  pub hand_is : in_hand new.draft ≡ hand
  pub scope : new.scope ≡ with_node old.scope
  pub outer : new.outer ≡ old.outer
  pub declaring : new.declaring ≡ old.declaring
  pub scripts : new.scripts ≡ old.scripts
  pub names : new.draft.table.names ≡ old.draft.table.names
  pub classes : new.draft.table.classes ≡ old.draft.table.classes
  pub types : new.draft.table.types ≡ old.draft.table.types
  pub told : scripts_in new.draft.table ≡ scripts_in old.draft.table

pub sound-put : (old new : Builder) (things : List Held) (hand : List Tree) → IsSound old → IsPut old new things hand
    → trees_in things ≤ length hand → IsGood (length old.draft.table.names) (length old.draft.table.classes) (piled things hand)
    → IsOneMore (pile_of old) (piled things hand) → is_over old.scope ≡ false → IsSound new
sound-put old new things hand sound put matched good more few =
    let pile : pile_of new ≡ piled things hand = ap₂ piled put.things_are put.hand_is in
    record {
      matched = rw put.things_are (rw put.hand_is matched);
      good = rw pile (rw put.names (rw put.classes good));
      counts = rw pile (rw put.scope (rw put.outer (count-more old.scope (pile_of old) (piled things hand) sound.counts.0 more few, rw more.outer sound.counts.1)));
      scopes = rw put.outer (sound.scopes ∙ sym more.scopes ∙ ap marks (sym pile));
      pending = put.declaring ∙ sound.pending ∙ sym more.pending ∙ ap declaring (sym pile);
      named = rw put.scripts (rw put.told sound.named);
      few_types = rw pile (rw put.types (rw more.pending sound.few_types));
    }

-- ── how a step answers ──

-- its own fault is handed on
pub own-fault : {X : Type 0} (answer : Answer) (new : Builder) (r : Result X ParseFail) (fault : ParseFail) → IsErrAnd r (λ y. y ≡ fault) → answer ≡ Fails fault → Answers answer r new
own-fault answer new r fault is e =
    let h = err_from_is_err_and r is in
    rw h.1 (inl (e ∙ ap Fails (sym h.2)))

pub put-answer : {A B : Type 0} (answer : Answer) (new : Builder) (r : Result (Unit {0}) ParseFail) → OnOk r A → OnOk r B → OnErr r (r ≡ Err fail.NoMemory)
    → (A → B → (answer ≡ Goes (work_of new)) × IsSound new) → Answers answer r new
put-answer answer new (Ok done) a b memory go = go a b
put-answer answer new (Err fault) a b memory go = inr (cc)

-- ── what a step of the draft and the put leave ──

pub pushed : (old new : List Held) (thing : Held) → new ≡ old ++ thing ∷ [] → reverse new ≡ thing ∷ reverse old
pushed old new thing e = ap reverse e ∙ reverse-append old (thing ∷ [])

-- The builder after a node was put: the draft made it over these trees, and this thing lies on top.
module _ (b new : Builder) (draft : Unfinished) (below : List Held) (thing : Held) (depth : ℕ)
    (rest : new ≡ record { alloc = b.alloc; draft = draft; held = new.held; scope = with_node b.scope; outer = b.outer; depth = depth; declaring = b.declaring; scripts = b.scripts })
    (held_is : new.held.items ≡ below ++ thing ∷ []) (place : ℕ × ℕ) (over : ℕ → List Tree → List Tree)
    (made : made_of draft ≡ with_made (made_of b.draft) place over) (types : draft.table.types ≡ b.draft.table.types) where
  draft_is : new.draft ≡ draft
  draft_is = ap (λ (x : Builder). x.draft) rest

  pub is-put : IsPut b new (thing ∷ reverse below) (over (length (work_of b).said.places) (in_hand b.draft))
  is-put = record {
    things_are = pushed below new.held.items thing held_is;
    hand_is = ap in_hand draft_is ∙ ap (λ (m : Made). m.hand) made;
    scope = ap (λ (x : Builder). x.scope) rest;
    outer = ap (λ (x : Builder). x.outer) rest;
    declaring = ap (λ (x : Builder). x.declaring) rest;
    scripts = ap (λ (x : Builder). x.scripts) rest;
    names = ap (λ (x : Unfinished). x.table.names) draft_is ∙ ap (λ (m : Made). m.names) made;
    classes = ap (λ (x : Unfinished). x.table.classes) draft_is ∙ ap (λ (m : Made). m.classes) made;
    types = ap (λ (x : Unfinished). x.table.types) draft_is ∙ types;
    told = ap (λ (x : Unfinished). scripts_in x.table) draft_is ∙ ap (λ (m : Made). m.scripts) made;
  }

  pub put-said : said_of (made_of new.draft) ≡ record (work_of b).said { places = (work_of b).said.places ++ place ∷ [] }
  put-said = ap (λ (x : Unfinished). said_of (made_of x)) draft_is ∙ ap said_of made

  pub put-depth : new.depth ≡ depth
  put-depth = ap (λ (x : Builder). x.depth) rest

-- where no limit is passed, the action goes to what the builder then stands for
pub node-goes : (b : Builder) (sound : IsSound b) (p : Spot) (make : ℕ → Tree) (slot : Tree → Slot) (pile : List Slot) (w : Work) (places : w.said.places ≡ (work_of b).said.places)
    (highest : ℕ) (high : height (make (length (work_of b).said.places)) ≡ 1 + highest) (more : IsOneMore (pile_of b) (slot (make (length (work_of b).said.places)) ∷ pile))
    → passed (1 + highest) (length b.draft.table.nodes) (is_over b.scope) p.at ≡ None
    → (new : Builder) (things : List Held) (hand : List Tree) → IsPut b new things hand → piled things hand ≡ slot (make (length (work_of b).said.places)) ∷ pile
    → (place : ℕ × ℕ) → place ≡ (p.line, p.column) → said_of (made_of new.draft) ≡ record w.said { places = w.said.places ++ place ∷ [] } → new.depth ≡ w.depth
    → complete p make slot pile w ≡ Goes (work_of new)
node-goes b sound p make slot pile w places highest high more e new things hand put top place place_is said depth =
    let now : pile_of new ≡ slot (make (length (work_of b).said.places)) ∷ pile = ap₂ piled put.things_are put.hand_is ∙ top in
    let same : slot (make (length w.said.places)) ∷ pile ≡ pile_of new = ap (λ (xs : List (ℕ × ℕ)). slot (make (length xs)) ∷ pile) places ∙ sym now in
    let said' : record w.said { places = w.said.places ++ (p.line, p.column) ∷ [] } ≡ said_of (made_of new.draft) =
    ap (λ (x : ℕ × ℕ). let y : Said = record w.said { places = w.said.places ++ x ∷ [] } in y) (sym place_is) ∙ sym said in
    complete-goes b sound p make slot pile w places highest high more e
    ∙ ap (λ (x : Work). Goes x)
    (ap (λ (x : Said). let y : Work = record { said = x; pile = slot (make (length w.said.places)) ∷ pile; depth = w.depth } in y) said'
    ∙ ap₂ (λ (x : List Slot) (d : ℕ). let y : Work = record { said = said_of (made_of new.draft); pile = x; depth = d } in y) same (sym depth))
