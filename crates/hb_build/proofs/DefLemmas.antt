-- A definition over the block of its body, which lies apart in hand, and over the method with its own token.
use Rattle.std.proofs.Common.{◌≡◌, ℕ, ◌+◌, ◌-◌, ◌≤◌, List, [], ◌∷◌, ◌++◌, refl, sym, ◌∙◌, ap, ap₂, subst, length, map, max, reverse, take, drop, arith}
use Rattle.std.proofs.lemmas.List.{append-nil, reverse-append, length-map, length-reverse, take-map}
use Rattle.hb_types.specs.declared.{ids.ClassId.ClassId, ids.NameId.NameId}
use Rattle.hb_tree.specs.{TreeAt.tree_at, Counts.height, Counts.highest}
use Rattle.hb_tree.specs.declared.limits.TheConstants.{HEIGHT_MAX}
use Rattle.hb_tree.specs.Tree.{Tree, TDef, TDefComputed}
use Rattle.hb_draft.specs.Unfinished.{Unfinished, in_hand, scripts_in, HasNameAndBlock, IsBodyBlock, forest_of, last_in}
use Rattle.hb_draft.specs.{Made.Made, Made.made_of, Made.with_body, Made.with_node as with_made}
use Rattle.hb_build.proofs.{TruncateLemmas.reverse-take, TakeLemmas.top-own, StepLemmas.IsStep}
use Rattle.hb_build.specs.declared.{builder.Builder.Builder, held.Held.Held, held.Spot.Spot}
use Rattle.hb_build.specs.declared.held.Held.TheVariants as held
use Rattle.hb_build.specs.{Said.said_of, Ended.without_last, Ended.definition, Ended.IsEnded}
use Rattle.hb_build.specs.Pile.{Slot, Operand, Own, Named, Computed, piled, names_since}
use Rattle.hb_build.specs.Acts.{Work, Answer, Lost, complete, define, giving, with_own, with_method}
use Rattle.hb_build.specs.Sound.{things_of, pile_of, work_of, trees_in, IsGood, with_node}
use Rattle.hb_build.proofs.{NodeLemmas.IsOneMore, NodeLemmas.IsPut, NodeLemmas.pushed, PushLemmas.things-over as popped}

-- ── the hand without the last one ──

pub hand-without : (d : Unfinished) (e : Tree) (others : List Tree) → in_hand d ≡ e ∷ others
    → in_hand (record d { nodes = take (length d.nodes - 1) d.nodes }) ≡ others
unfolding in_hand
hand-without d e others is =
    let trees = map (λ i. tree_at d.table i.0) d.nodes in
    let long : length (reverse trees) ≡ length (e ∷ others) = ap length is in
    let some : 1 ≤ length trees = omega (arith, long, length-reverse trees) in
    let size : length trees ≡ length d.nodes = length-map d.nodes (λ i. tree_at d.table i.0) in
    ap reverse (sym (take-map (λ i. tree_at d.table i.0) (length d.nodes - 1) d.nodes) ∙ ap (λ (n : ℕ). take (n - 1) trees) (sym size))
    ∙ reverse-take 1 trees some ∙ ap (λ (xs : List Tree). drop 1 xs) is

-- ── what lies on top ──

pub record NamedTop (b : Builder) : Type 0 where
  pub rest : List Held
  pub class : ClassId
  pub name : NameId
  pub spot : Spot
  pub things_are : things_of b ≡ held.Named class name ∷ held.Own spot ∷ rest

pub record ComputedTop (b : Builder) : Type 0 where
  pub rest : List Held
  pub class : ClassId
  pub spot : Spot
  pub e : Tree
  pub others : List Tree
  pub things_are : things_of b ≡ held.Computed class ∷ held.Own spot ∷ rest
  pub hand_is : in_hand (without_last b).draft ≡ e ∷ others

pub last-is : (items left : List Held) (one other : Held) → items ≡ left ++ one ∷ [] → one ≡ other → items ≡ left ++ other ∷ []
last-is items left one other e same = e ∙ ap (λ (x : Held). left ++ x ∷ []) same

-- the expression of a computed name lies in hand
name-in-hand : (things : List Held) (hand : List Tree) (class : ClassId) (plain : ℕ → ℕ → List Slot → Answer) (computed : ℕ → Tree → List Slot → Answer)
    → (with_method (piled (held.Computed class ∷ things) hand) plain computed ≡ Lost → ⊥)
    → (e : Tree) × (others : List Tree) × (hand ≡ e ∷ others) × (computed class.0 e (piled things others) ≡ Lost → ⊥)
name-in-hand things [] class plain computed kept = absurd (kept refl)
name-in-hand things (e ∷ others) class plain computed kept = (e, others, refl, kept)

module _ (params : List ℕ) (b : Builder) (ended : IsEnded params b) where
  abbrev pub hand : List Tree
  hand = in_hand (without_last b).draft

  abbrev pub work : Work
  work = work_of (without_last b)

  abbrev pub plainly : ℕ → ℕ → Spot → List Slot → Answer
  plainly c m p pile = complete p (λ id. TDef id c m (length work.said.bodies) ended.block) Operand pile (giving params ended.block work)

  abbrev pub computedly : ℕ → Tree → Spot → List Slot → Answer
  computedly c e p pile = complete p (λ id. TDefComputed id c e (length work.said.bodies) ended.block) Operand pile (giving params ended.block work)

  kept : (things : List Held) → things_of b ≡ things → define params ended.block (piled things hand) work ≡ Lost → ⊥
  kept things is = subst (λ (x : List Held). define params ended.block (piled x hand) work ≡ Lost → ⊥) is ended.fits

  -- the own token lies below the method
  pub own-below-named : (left : List Held) (class : ClassId) (name : NameId) → b.held.items ≡ left ++ held.Named class name ∷ []
      → (p : Spot) × (rest : List Held) × (reverse left ≡ held.Own p ∷ rest)
  own-below-named left class name is =
      let t = top-own (reverse left) hand (plainly class.0 name.0) (kept (held.Named class name ∷ reverse left) (popped b.held.items left (held.Named class name) is)) in
      (t.1, t.0, t.2)

  abbrev pub named-top : (left after : List Held) (class : ClassId) (name : NameId) (spot : Spot) → b.held.items ≡ left ++ held.Named class name ∷ []
      → reverse left ≡ held.Own spot ∷ reverse after → NamedTop b
  named-top left after class name spot is below = record {
    rest = reverse after;
    class = class;
    name = name;
    spot = spot;
    things_are = popped b.held.items left (held.Named class name) is ∙ ap (λ (x : List Held). held.Named class name ∷ x) below;
  }

  pub computed-name : (left : List Held) (class : ClassId) → b.held.items ≡ left ++ held.Computed class ∷ []
      → (e : Tree) × (others : List Tree) × (hand ≡ e ∷ others) × (with_own (piled (reverse left) others) (computedly class.0 e) ≡ Lost → ⊥)
  computed-name left class is =
      name-in-hand (reverse left) hand class (λ c m pile. with_own pile (plainly c m)) (λ c e pile. with_own pile (computedly c e))
      (kept (held.Computed class ∷ reverse left) (popped b.held.items left (held.Computed class) is))

  pub own-below-computed : (left : List Held) (class : ClassId) → b.held.items ≡ left ++ held.Computed class ∷ []
      → (p : Spot) × (rest : List Held) × (reverse left ≡ held.Own p ∷ rest)
  own-below-computed left class is =
      let n = computed-name left class is in
      let t = top-own (reverse left) n.1 (computedly class.0 n.0) n.3 in
      (t.1, t.0, t.2)

  abbrev pub computed-top : (left after : List Held) (class : ClassId) (spot : Spot) → b.held.items ≡ left ++ held.Computed class ∷ []
      → reverse left ≡ held.Own spot ∷ reverse after → ComputedTop b
  computed-top left after class spot is below =
      let n = computed-name left class is in
      record {
        rest = reverse after;
        class = class;
        spot = spot;
        e = n.0;
        others = n.1;
        things_are = popped b.held.items left (held.Computed class) is ∙ ap (λ (x : List Held). held.Computed class ∷ x) below;
        hand_is = n.2;
      }

  -- the block lies over the rest of the hand
  pub block-over : in_hand b.draft ≡ ended.block ∷ hand
  block-over = ended.hand_is ∙ ap (λ (x : List Tree). ended.block ∷ x) (sym (hand-without b.draft ended.block ended.others ended.hand_is))

  -- ── a method with a name ──

  module _ (t : NamedTop b) (top : ℕ) (is_top : top ≡ highest (forest_of (last_in 1 (in_hand b.draft)))) where
    abbrev pub named-node : Tree
    named-node = TDef (length work.said.places) t.class.0 t.name.0 (length work.said.bodies) ended.block

    pile-named : pile_of (without_last b) ≡ Named t.class.0 t.name.0 ∷ Own t.spot ∷ piled t.rest hand
    pile-named = ap (λ (x : List Held). piled x hand) t.things_are

    named-good : IsGood (length b.draft.table.names) (length b.draft.table.classes) (Named t.class.0 t.name.0 ∷ Own t.spot ∷ piled t.rest hand)
    named-good = subst (λ (x : List Slot). IsGood (length b.draft.table.names) (length b.draft.table.classes) x) pile-named ended.sound.good

    named-high : top ≡ max (height ended.block) 0
    named-high = is_top ∙ ap (λ (x : List Tree). highest (forest_of (last_in 1 x))) ended.hand_is

    named-more : IsOneMore (Named t.class.0 t.name.0 ∷ Own t.spot ∷ piled t.rest hand) (Operand named-node ∷ piled t.rest hand)
    named-more = record {
      body = refl;
      nodes = omega arith;
      calls = omega arith;
      names = append-nil (names_since (piled t.rest hand));
      outer = refl;
      scopes = refl;
      pending = refl;
    }

    named-matched : trees_in (held.Operand ∷ t.rest) ≤ length (named-node ∷ hand)
    named-matched =
        let h : trees_in (held.Named t.class t.name ∷ held.Own t.spot ∷ t.rest) ≤ length hand =
        subst (λ (x : List Held). trees_in x ≤ length hand) t.things_are ended.sound.matched in
        omega (arith, h)

    pub named-step : IsStep (without_last b) (definition params ended.block b) t.spot top (giving params ended.block work) (held.Operand ∷ t.rest) (named-node ∷ hand)
    named-step = record {
      make = λ id. TDef id t.class.0 t.name.0 (length work.said.bodies) ended.block;
      slot = Operand;
      pile = piled t.rest hand;
      is = ap (λ (x : List Slot). define params ended.block x work) pile-named;
      places = refl;
      high = let h = named-high in omega (arith, h);
      more = subst (λ (x : List Slot). IsOneMore x (Operand named-node ∷ piled t.rest hand)) (sym pile-named) named-more;
      top = refl;
      matched = named-matched;
      good = (tt, named-good.2);
    }

  -- ── a method whose name is computed ──

  module _ (t : ComputedTop b) (top : ℕ) (is_top : top ≡ highest (forest_of (last_in 2 (in_hand b.draft)))) where
    abbrev pub computed-node : Tree
    computed-node = TDefComputed (length work.said.places) t.class.0 t.e (length work.said.bodies) ended.block

    pile-computed : pile_of (without_last b) ≡ Computed t.class.0 t.e ∷ Own t.spot ∷ piled t.rest t.others
    pile-computed = ap₂ piled t.things_are t.hand_is

    pub both-in-hand : in_hand b.draft ≡ ended.block ∷ t.e ∷ t.others
    both-in-hand = block-over ∙ ap (λ (x : List Tree). ended.block ∷ x) t.hand_is

    computed-good : IsGood (length b.draft.table.names) (length b.draft.table.classes) (Computed t.class.0 t.e ∷ Own t.spot ∷ piled t.rest t.others)
    computed-good = subst (λ (x : List Slot). IsGood (length b.draft.table.names) (length b.draft.table.classes) x) pile-computed ended.sound.good

    pub computed-high : top ≡ max (height t.e) (max (height ended.block) 0)
    computed-high = is_top ∙ ap (λ (x : List Tree). highest (forest_of (last_in 2 x))) both-in-hand

    computed-more : IsOneMore (Computed t.class.0 t.e ∷ Own t.spot ∷ piled t.rest t.others) (Operand computed-node ∷ piled t.rest t.others)
    computed-more = record {
      body = refl;
      nodes = omega arith;
      calls = omega arith;
      names = refl;
      outer = refl;
      scopes = refl;
      pending = refl;
    }

    computed-matched : trees_in (held.Operand ∷ t.rest) ≤ length (computed-node ∷ t.others)
    computed-matched =
        let h : trees_in (held.Computed t.class ∷ held.Own t.spot ∷ t.rest) ≤ length (t.e ∷ t.others) =
        subst (λ (x : List Held). trees_in x ≤ length (t.e ∷ t.others)) t.things_are (subst (λ (x : List Tree). trees_in (things_of b) ≤ length x) t.hand_is ended.sound.matched) in
        omega (arith, h)

    pub computed-step : IsStep (without_last b) (definition params ended.block b) t.spot top (giving params ended.block work) (held.Operand ∷ t.rest) (computed-node ∷ t.others)
    computed-step = record {
      make = λ id. TDefComputed id t.class.0 t.e (length work.said.bodies) ended.block;
      slot = Operand;
      pile = piled t.rest t.others;
      is = ap (λ (x : List Slot). define params ended.block x work) pile-computed;
      places = refl;
      high = let h = computed-high in omega (arith, h);
      more = subst (λ (x : List Slot). IsOneMore x (Operand computed-node ∷ piled t.rest t.others)) (sym pile-computed) computed-more;
      top = refl;
      matched = computed-matched;
      good = (tt, computed-good.2);
    }

    pub computed-parts : 1 + top ≤ HEIGHT_MAX → HasNameAndBlock (IsBodyBlock params) (in_hand b.draft)
    computed-parts low =
        let h = computed-high in
        subst (λ (x : List Tree). HasNameAndBlock (IsBodyBlock params) x) (sym both-in-hand)
        ((
          record { kind = computed-good.1; low = omega (arith, low, h) },
          ended.kind,
          record { low = omega (arith, low, h); few_nodes = ended.few_nodes; few_calls = ended.few_calls; few_variables = ended.few_variables },
        ))

  -- ── what a step of the draft and the put leave ──

  module _ (new : Builder) (draft : Unfinished) (below : List Held)
      (rest : new ≡ record { alloc = b.alloc; draft = draft; held = new.held; scope = with_node b.scope; outer = b.outer; depth = b.depth; declaring = b.declaring; scripts = b.scripts })
      (held_is : new.held.items ≡ below ++ held.Operand ∷ []) (place : ℕ × ℕ) (over : ℕ → List Tree → List Tree)
      (made : made_of draft ≡ with_made (with_body (made_of b.draft) params) place over) (types : draft.table.types ≡ b.draft.table.types) where
    draft_is : new.draft ≡ draft
    draft_is = ap (λ (x : Builder). x.draft) rest

    pub def-put : IsPut (without_last b) new (held.Operand ∷ reverse below) (over (length work.said.places) (in_hand b.draft))
    def-put = record {
      things_are = pushed below new.held.items held.Operand held_is;
      hand_is = ap in_hand draft_is ∙ ap (λ (m : Made). m.hand) made;
      scope = ap (λ (x : Builder). x.scope) rest;
      outer = ap (λ (x : Builder). x.outer) rest;
      declaring = ap (λ (x : Builder). x.declaring) rest;
      scripts = ap (λ (x : Builder). x.scripts) rest;
      names = ap (λ (x : Unfinished). x.table.names) draft_is ∙ ap (λ (m : Made). m.names) made;
      classes = ap (λ (x : Unfinished). x.table.classes) draft_is ∙ ap (λ (m : Made). m.classes) made;
      types = ap (λ (x : Unfinished). x.table.types) draft_is ∙ types;
      told = ap (λ (x : Unfinished). scripts_in x.table) draft_is ∙ ap (λ (m : Made). m.scripts) made;
    }

    pub def-said : said_of (made_of new.draft) ≡ record (giving params ended.block work).said { places = work.said.places ++ place ∷ [] }
    def-said = ap (λ (x : Unfinished). said_of (made_of x)) draft_is ∙ ap said_of made
        ∙ ap (λ (x : List Tree). said_of (with_made (with_body (record (made_of b.draft) { hand = x }) params) place over)) ended.hand_is

    pub def-depth : new.depth ≡ b.depth
    def-depth = ap (λ (x : Builder). x.depth) rest
