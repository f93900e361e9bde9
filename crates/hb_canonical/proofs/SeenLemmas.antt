-- What is seen of a work apart from places and spots, and what actions see of it.
use Rattle.std.proofs.Common.{◌≡◌, ℕ, ◌+◌, List, [], ◌∷◌, ◌++◌, map, length, Bool, true, false, Option, Some, None, refl, sym, ◌∙◌, ap}
use Rattle.std.specs.Prelude.{if◌then◌else◌, nat_le, nat_lt}
use Rattle.std.proofs.lemmas.List.{length-map, map-append}
use Rattle.hb_tree.specs.declared.limits.TheConstants.{NODES_MAX, HEIGHT_MAX, ARGUMENTS_MAX}
use Rattle.hb_types.specs.declared.types.Ty.{Ty}
use Rattle.hb_types.specs.declared.types.Ty.TheVariants as ty
use Rattle.hb_tree.specs.Tree.{Tree}
use Rattle.hb_tree.specs.Counts.{height, nodes_in, calls_in, names_assigned_in}
use Rattle.hb_build.specs.declared.{held.Spot.Spot, faults.ParseFail.ParseFail}
use Rattle.hb_build.specs.declared.faults.ParseFail.TheVariants as fail
use Rattle.hb_build.specs.declared.faults.Limit.TheVariants as limit
use Rattle.hb_build.specs.Said.{Said}
use Rattle.hb_build.specs.Pile.{Slot, Operand, Closed, Item, Argument, Own, Declaring, Word, Target, Called, OfClass, Named, Computed, Parameter, OfType, ParameterType, Block}
use Rattle.hb_build.specs.Pile.{Body, Setup, Script, items_on, below_items, arguments_on, below_arguments, parameters_on, below_parameters, types_on, below_types, is_full}
use Rattle.hb_build.specs.Pile.{in_body, nodes_since, calls_since, names_since, declaring, has_too_many_nodes, has_too_many_calls, has_too_many_variables}
use Rattle.hb_build.specs.Acts.{Work, Answer, Goes, Fails, Lost, complete, passed, unless, fails_if, if_word, with_known, with_operand, with_closed, with_own, with_declaring}
use Rattle.hb_build.specs.Acts.{with_name, with_target, with_called, with_class, with_type, with_block, with_body, with_setup, with_script, with_method}

-- ── without places and spots ──

abbrev pub nowhere : Spot
nowhere = record { at = 0; line = 0; column = 0 }

abbrev pub no_spot : Slot → Slot
no_spot (Own p) = Own nowhere
no_spot (Declaring p) = Declaring nowhere
no_spot (Word x p) = Word x nowhere
no_spot (Target x p) = Target x nowhere
no_spot (Called m p) = Called m nowhere
no_spot (OfClass c p) = OfClass c nowhere
no_spot slot = slot

abbrev pub no_spots : List Slot → List Slot
no_spots pile = map no_spot pile

abbrev pub no_place : ℕ × ℕ → ℕ × ℕ
no_place p = (0, 0)

abbrev pub unplaced : Said → Said
unplaced s = record s { places = map no_place s.places }

-- with so many open constructs
abbrev pub seen : ℕ → Work → Work
seen depth w = record { said = unplaced w.said; pile = no_spots w.pile; depth = depth }

-- what is seen of where an action goes on, with its own depth, or with this one
abbrev pub to_seen : Answer → Answer
to_seen (Goes w) = Goes (seen w.depth w)
to_seen (Fails fault) = Lost
to_seen Lost = Lost

abbrev pub to_depth : ℕ → Answer → Answer
to_depth depth (Goes w) = Goes (seen depth w)
to_depth depth (Fails fault) = Lost
to_depth depth Lost = Lost

spot-twice : (slot : Slot) → no_spot (no_spot slot) ≡ no_spot slot
spot-twice (Own p) = refl
spot-twice _ = refl

pub spots-twice : (pile : List Slot) → no_spots (no_spots pile) ≡ no_spots pile
spots-twice [] = refl
spots-twice (slot ∷ pile) = ap (λ x. x ∷ no_spots (no_spots pile)) (spot-twice slot) ∙ ap (λ l. no_spot slot ∷ l) (spots-twice pile)

places-twice : (places : List (ℕ × ℕ)) → map no_place (map no_place places) ≡ map no_place places
places-twice [] = refl
places-twice (p ∷ places) = ap (λ l. (0, 0) ∷ l) (places-twice places)

pub unplaced-twice : (s : Said) → unplaced (unplaced s) ≡ unplaced s
unplaced-twice s = ap (λ l. record s { places = l }) (places-twice s.places)

pub seen-items : (pile : List Slot) → items_on (no_spots pile) ≡ items_on pile
seen-items (Item e ∷ pile) = ap (λ l. l ++ e ∷ []) (seen-items pile)
seen-items _ = refl

pub seen-below_items : (pile : List Slot) → below_items (no_spots pile) ≡ no_spots (below_items pile)
seen-below_items (Item e ∷ pile) = seen-below_items pile
seen-below_items _ = refl

pub seen-arguments : (pile : List Slot) → arguments_on (no_spots pile) ≡ arguments_on pile
seen-arguments (Argument e ∷ pile) = ap (λ l. l ++ e ∷ []) (seen-arguments pile)
seen-arguments _ = refl

pub seen-below_arguments : (pile : List Slot) → below_arguments (no_spots pile) ≡ no_spots (below_arguments pile)
seen-below_arguments (Argument e ∷ pile) = seen-below_arguments pile
seen-below_arguments _ = refl

pub seen-parameters : (pile : List Slot) → parameters_on (no_spots pile) ≡ parameters_on pile
seen-parameters (Parameter x ∷ pile) = ap (λ l. l ++ x ∷ []) (seen-parameters pile)
seen-parameters _ = refl

pub seen-below_parameters : (pile : List Slot) → below_parameters (no_spots pile) ≡ no_spots (below_parameters pile)
seen-below_parameters (Parameter x ∷ pile) = seen-below_parameters pile
seen-below_parameters _ = refl

pub seen-types : (pile : List Slot) → types_on (no_spots pile) ≡ types_on pile
seen-types (ParameterType y ∷ pile) = ap (λ l. l ++ y ∷ []) (seen-types pile)
seen-types _ = refl

pub seen-below_types : (pile : List Slot) → below_types (no_spots pile) ≡ no_spots (below_types pile)
seen-below_types (ParameterType y ∷ pile) = seen-below_types pile
seen-below_types _ = refl

pub seen-full : (pile : List Slot) → is_full (no_spots pile) ≡ is_full pile
seen-full pile = ap (λ (l : List Tree). nat_le ARGUMENTS_MAX (length l)) (seen-arguments pile)

seen-in_body : (pile : List Slot) → in_body (no_spots pile) ≡ in_body pile
seen-in_body [] = refl
seen-in_body (Body ∷ pile) = refl
seen-in_body (Setup ∷ pile) = refl
seen-in_body (Script x ∷ pile) = refl
seen-in_body (_ ∷ pile) = seen-in_body pile

seen-nodes : (pile : List Slot) → nodes_since (no_spots pile) ≡ nodes_since pile
seen-nodes [] = refl
seen-nodes (Body ∷ pile) = refl
seen-nodes (Setup ∷ pile) = refl
seen-nodes (Script x ∷ pile) = refl
seen-nodes (Operand e ∷ pile) = ap (λ n. n + nodes_in e) (seen-nodes pile)
seen-nodes (Closed b ∷ pile) = ap (λ n. n + nodes_in b) (seen-nodes pile)
seen-nodes (Item e ∷ pile) = ap (λ n. n + nodes_in e) (seen-nodes pile)
seen-nodes (Argument e ∷ pile) = ap (λ n. n + nodes_in e) (seen-nodes pile)
seen-nodes (Computed c e ∷ pile) = ap (λ n. n + nodes_in e) (seen-nodes pile)
seen-nodes (_ ∷ pile) = seen-nodes pile

seen-calls : (pile : List Slot) → calls_since (no_spots pile) ≡ calls_since pile
seen-calls [] = refl
seen-calls (Body ∷ pile) = refl
seen-calls (Setup ∷ pile) = refl
seen-calls (Script x ∷ pile) = refl
seen-calls (Operand e ∷ pile) = ap (λ n. n + calls_in e) (seen-calls pile)
seen-calls (Closed b ∷ pile) = ap (λ n. n + calls_in b) (seen-calls pile)
seen-calls (Item e ∷ pile) = ap (λ n. n + calls_in e) (seen-calls pile)
seen-calls (Argument e ∷ pile) = ap (λ n. n + calls_in e) (seen-calls pile)
seen-calls (Computed c e ∷ pile) = ap (λ n. n + calls_in e) (seen-calls pile)
seen-calls (Called m p ∷ pile) = ap (λ n. n + 1) (seen-calls pile)
seen-calls (_ ∷ pile) = seen-calls pile

seen-names : (pile : List Slot) → names_since (no_spots pile) ≡ names_since pile
seen-names [] = refl
seen-names (Body ∷ pile) = seen-parameters pile
seen-names (Setup ∷ pile) = refl
seen-names (Script x ∷ pile) = refl
seen-names (Operand e ∷ pile) = ap (λ l. l ++ names_assigned_in e) (seen-names pile)
seen-names (Closed b ∷ pile) = ap (λ l. l ++ names_assigned_in b) (seen-names pile)
seen-names (Item e ∷ pile) = ap (λ l. l ++ names_assigned_in e) (seen-names pile)
seen-names (Argument e ∷ pile) = ap (λ l. l ++ names_assigned_in e) (seen-names pile)
seen-names (Computed c e ∷ pile) = ap (λ l. l ++ names_assigned_in e) (seen-names pile)
seen-names (Target x p ∷ pile) = ap (λ l. l ++ x ∷ []) (seen-names pile)
seen-names (_ ∷ pile) = seen-names pile

pub seen-declaring : (pile : List Slot) → declaring (no_spots pile) ≡ declaring pile
seen-declaring [] = refl
seen-declaring (Declaring p ∷ pile) = ap (λ n. n + 1) (seen-declaring pile)
seen-declaring (_ ∷ pile) = seen-declaring pile

pub seen-many_nodes : (pile : List Slot) → has_too_many_nodes (no_spots pile) ≡ has_too_many_nodes pile
seen-many_nodes pile = cc (seen-in_body pile, seen-nodes pile)

pub seen-many_calls : (pile : List Slot) → has_too_many_calls (no_spots pile) ≡ has_too_many_calls pile
seen-many_calls pile = cc (seen-in_body pile, seen-calls pile)

pub seen-many_variables : (pile : List Slot) → has_too_many_variables (no_spots pile) ≡ has_too_many_variables pile
seen-many_variables pile = cc (seen-names pile)

-- ── answers that are seen alike ──

module _ (d : ℕ) where
  -- the answer, and that for what is seen
  pub record Alike (x y : Answer) : Type 0 where
    pub same : to_seen x ≡ to_depth d y

  pub both : {x y z : Answer} → Alike x y → y ≡ z → Alike x z
  both h e = record { same = h.same ∙ ap (to_depth d) e }

  same-work : (s t : Said) (p q : List Slot) (n m : ℕ) → s ≡ t → p ≡ q → n ≡ m → Goes (record { said = s; pile = p; depth = n }) ≡ Goes (record { said = t; pile = q; depth = m })
  same-work s t p q n m a b c =
      ap (λ (x : Said). Goes (record { said = x; pile = p; depth = n })) a
      ∙ ap (λ (x : List Slot). Goes (record { said = t; pile = x; depth = n })) b
      ∙ ap (λ (x : ℕ). Goes (record { said = t; pile = q; depth = x })) c

  pub kept : (u : Work) (e : ℕ) → u.depth ≡ d → Alike (Goes u) (Goes (seen e u))
  kept u e same = record {
    same = same-work (unplaced u.said) (unplaced (unplaced u.said)) (no_spots u.pile) (no_spots (no_spots u.pile)) u.depth d
        (sym (unplaced-twice u.said)) (sym (spots-twice u.pile)) same;
  }

  pub fails : (b c : Bool) (f g : ParseFail) {x y : Answer} → b ≡ c → Alike x y → Alike (fails_if b f x) (fails_if c g y)
  fails true true f g e h = record { same = refl }
  fails false false f g e h = h
  fails true false f g e h = absurd (cc e)
  fails false true f g e h = absurd (cc e)

  passes : (a b c : Bool) (at to : ℕ) (x y : Answer) → Alike x y
      → Alike (unless (if a then Some (fail.TooDeep at) else if b then Some (fail.TooMany limit.Nodes at) else if c then Some (fail.TooMany limit.Body at) else None) x)
      (unless (if a then Some (fail.TooDeep to) else if b then Some (fail.TooMany limit.Nodes to) else if c then Some (fail.TooMany limit.Body to) else None) y)
  passes false false false at to x y h = h
  passes _ _ _ _ _ _ _ _ = record { same = refl }

  grown : (s : Said) (p : ℕ × ℕ) → unplaced (record s { places = s.places ++ p ∷ [] }) ≡ record s { places = map no_place s.places ++ (0, 0) ∷ [] }
  grown s p = ap (λ l. record s { places = l }) (map-append no_place s.places (p ∷ []))

  -- a complete node, where the same is said but for places
  pub completes : (q r : Spot) (make : ℕ → Tree) (slot : Tree → Slot) (pile : List Slot) (u v : Work) → ((e : Tree) → no_spot (slot e) ≡ slot e)
      → unplaced u.said ≡ unplaced v.said → u.depth ≡ d → Alike (complete q make slot pile u) (complete r make slot (no_spots pile) v)
  completes q r make slot pile u v plain said same =
      both (passes (nat_lt HEIGHT_MAX (height (make n))) (nat_le NODES_MAX n) (has_too_many_nodes (slot (make n) ∷ pile)) q.at r.at
      (Goes (record u { said = record u.said { places = u.said.places ++ (q.line, q.column) ∷ [] }; pile = slot (make n) ∷ pile }))
      (there n)
      (record {
        same = same-work (unplaced (record u.said { places = u.said.places ++ (q.line, q.column) ∷ [] })) (unplaced (record v.said { places = v.said.places ++ (r.line, r.column) ∷ [] }))
            (no_spots (slot (make n) ∷ pile)) (no_spots (slot (make n) ∷ no_spots pile)) u.depth d more
            (ap (λ l. no_spot (slot (make n)) ∷ l) (sym (spots-twice pile))) same;
      }))
      (ap (λ b. unless (passed (height (make n)) n b r.at) (there n)) (sym (seen-many_nodes (slot (make n) ∷ pile)) ∙ ap (λ x. has_too_many_nodes (x ∷ no_spots pile)) (plain (make n)))
      ∙ ap (λ k. unless (passed (height (make k)) k (has_too_many_nodes (slot (make k) ∷ no_spots pile)) r.at) (there k)) long)
    where
      n : ℕ
      n = length u.said.places

      there : ℕ → Answer
      there k = Goes (record v { said = record v.said { places = v.said.places ++ (r.line, r.column) ∷ [] }; pile = slot (make k) ∷ no_spots pile })

      long : length u.said.places ≡ length v.said.places
      long = sym (length-map u.said.places no_place) ∙ ap (λ (s : Said). length s.places) said ∙ length-map v.said.places no_place

      more : unplaced (record u.said { places = u.said.places ++ (q.line, q.column) ∷ [] }) ≡ unplaced (record v.said { places = v.said.places ++ (r.line, r.column) ∷ [] })
      more = grown u.said (q.line, q.column) ∙ ap (λ (s : Said). record s { places = s.places ++ (0, 0) ∷ [] }) said ∙ sym (grown v.said (r.line, r.column))

  -- ── what lies on top ──

  pub operand : (pile : List Slot) {f : Tree → List Slot → Answer} (g : Tree → List Slot → Answer) → ((e : Tree) (rest : List Slot) → Alike (f e rest) (g e (no_spots rest)))
      → Alike (with_operand pile f) (with_operand (no_spots pile) g)
  operand (Operand e ∷ rest) g h = h e rest
  operand _ g h = record { same = refl }

  pub block_closed : (pile : List Slot) {f : Tree → List Slot → Answer} (g : Tree → List Slot → Answer) → ((e : Tree) (rest : List Slot) → Alike (f e rest) (g e (no_spots rest)))
      → Alike (with_closed pile f) (with_closed (no_spots pile) g)
  block_closed (Closed e ∷ rest) g h = h e rest
  block_closed _ g h = record { same = refl }

  pub own : (pile : List Slot) {f : Spot → List Slot → Answer} (g : Spot → List Slot → Answer) → ((p : Spot) (rest : List Slot) → Alike (f p rest) (g nowhere (no_spots rest)))
      → Alike (with_own pile f) (with_own (no_spots pile) g)
  own (Own p ∷ rest) g h = h p rest
  own _ g h = record { same = refl }

  pub declares : (pile : List Slot) {f : Spot → List Slot → Answer} (g : Spot → List Slot → Answer) → ((p : Spot) (rest : List Slot) → Alike (f p rest) (g nowhere (no_spots rest)))
      → Alike (with_declaring pile f) (with_declaring (no_spots pile) g)
  declares (Declaring p ∷ rest) g h = h p rest
  declares _ g h = record { same = refl }

  pub named : (pile : List Slot) {f : ℕ → Spot → List Slot → Answer} (g : ℕ → Spot → List Slot → Answer)
      → ((x : ℕ) (p : Spot) (rest : List Slot) → Alike (f x p rest) (g x nowhere (no_spots rest))) → Alike (with_name pile f) (with_name (no_spots pile) g)
  named (Word x p ∷ rest) g h = h x p rest
  named _ g h = record { same = refl }

  pub target : (pile : List Slot) {f : ℕ → Spot → List Slot → Answer} (g : ℕ → Spot → List Slot → Answer)
      → ((x : ℕ) (p : Spot) (rest : List Slot) → Alike (f x p rest) (g x nowhere (no_spots rest))) → Alike (with_target pile f) (with_target (no_spots pile) g)
  target (Target x p ∷ rest) g h = h x p rest
  target _ g h = record { same = refl }

  pub called : (pile : List Slot) {f : ℕ → Spot → List Slot → Answer} (g : ℕ → Spot → List Slot → Answer)
      → ((x : ℕ) (p : Spot) (rest : List Slot) → Alike (f x p rest) (g x nowhere (no_spots rest))) → Alike (with_called pile f) (with_called (no_spots pile) g)
  called (Called x p ∷ rest) g h = h x p rest
  called _ g h = record { same = refl }

  pub of_class : (pile : List Slot) {f : ℕ → Spot → List Slot → Answer} (g : ℕ → Spot → List Slot → Answer)
      → ((x : ℕ) (p : Spot) (rest : List Slot) → Alike (f x p rest) (g x nowhere (no_spots rest))) → Alike (with_class pile f) (with_class (no_spots pile) g)
  of_class (OfClass x p ∷ rest) g h = h x p rest
  of_class _ g h = record { same = refl }

  pub of_type : (pile : List Slot) {f : Ty → List Slot → Answer} (g : Ty → List Slot → Answer) → ((y : Ty) (rest : List Slot) → Alike (f y rest) (g y (no_spots rest)))
      → Alike (with_type pile f) (with_type (no_spots pile) g)
  of_type (OfType y ∷ rest) g h = h y rest
  of_type _ g h = record { same = refl }

  pub block : (pile : List Slot) {f : List Slot → Answer} (g : List Slot → Answer) → ((rest : List Slot) → Alike (f rest) (g (no_spots rest))) → Alike (with_block pile f) (with_block (no_spots pile) g)
  block (Block ∷ rest) g h = h rest
  block _ g h = record { same = refl }

  pub body : (pile : List Slot) {f : List Slot → Answer} (g : List Slot → Answer) → ((rest : List Slot) → Alike (f rest) (g (no_spots rest))) → Alike (with_body pile f) (with_body (no_spots pile) g)
  body (Body ∷ rest) g h = h rest
  body _ g h = record { same = refl }

  pub setup : (pile : List Slot) {f : List Slot → Answer} (g : List Slot → Answer) → ((rest : List Slot) → Alike (f rest) (g (no_spots rest))) → Alike (with_setup pile f) (with_setup (no_spots pile) g)
  setup (Setup ∷ rest) g h = h rest
  setup _ g h = record { same = refl }

  pub script : (pile : List Slot) {f : ℕ → List Slot → Answer} (g : ℕ → List Slot → Answer) → ((x : ℕ) (rest : List Slot) → Alike (f x rest) (g x (no_spots rest)))
      → Alike (with_script pile f) (with_script (no_spots pile) g)
  script (Script x ∷ rest) g h = h x rest
  script _ g h = record { same = refl }

  pub method : (pile : List Slot) {f : ℕ → ℕ → List Slot → Answer} {i : ℕ → Tree → List Slot → Answer} (g : ℕ → ℕ → List Slot → Answer) (j : ℕ → Tree → List Slot → Answer)
      → ((c m : ℕ) (rest : List Slot) → Alike (f c m rest) (g c m (no_spots rest))) → ((c : ℕ) (e : Tree) (rest : List Slot) → Alike (i c e rest) (j c e (no_spots rest)))
      → Alike (with_method pile f i) (with_method (no_spots pile) g j)
  method (Named c m ∷ rest) g j h k = h c m rest
  method (Computed c e ∷ rest) g j h k = k c e rest
  method _ g j h k = record { same = refl }

  -- ── words ──

  pub known : (o : Option ℕ) (p : Spot) {f g : ℕ → Answer} → ((c : ℕ) → Alike (f c) (g c)) → Alike (with_known o p f) (with_known o nowhere g)
  known None p h = record { same = refl }
  known (Some c) p h = h c

  pub word : (y : Ty) {x z : Answer} → Alike x z → Alike (if_word y x) (if_word y z)
  word (ty.Class c) h = record { same = refl }
  word _ h = h
