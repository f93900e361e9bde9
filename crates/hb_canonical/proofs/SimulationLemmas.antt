-- Deeds that differ in parentheses alone build the same, where the second ones are calm and not too deep.
use Rattle.std.proofs.Common.{◌≡◌, ℕ, suc, ◌+◌, ◌≤◌, List, [], ◌∷◌, length, Bool, true, false, Option, Some, None, refl, sym, ◌∙◌, ap, subst, inl, inr, arith}
use Rattle.std.specs.Prelude.{nat_le, if◌then◌else◌, ◌||◌, ◌&&◌}
use Rattle.std.proofs.lemmas.Bool.{cases_Bool, or_cases, and_parts}
use Rattle.std.proofs.{lemmas.Bool.Decides.nat_tests, lemmas.List.length-map}
use Rattle.hb_tree.specs.declared.limits.TheConstants.{CONSTRUCTS_MAX}
use Rattle.hb_tree.specs.Tree.{Tree}
use Rattle.hb_grammar.specs.declared.actions.Action.{Action}
use Rattle.hb_grammar.specs.declared.actions.Action.TheVariants as a
use Rattle.hb_build.specs.declared.held.Spot.{Spot}
use Rattle.hb_build.specs.declared.faults.ParseFail.TheVariants as fail
use Rattle.hb_build.specs.declared.faults.Limit.TheVariants as limit
use Rattle.hb_build.specs.Pile.{Slot, Word, OfClass, Operand, is_full}
use Rattle.hb_build.specs.Acts.{Work, Answer, Goes, Fails, Lost, act, class_of, nothing, opened, closed, with_known, with_name, with_class, with_operand}
use Rattle.hb_build.specs.Follow.{and_then}
use Rattle.hb_canonical.proofs.{EffectLemmas.goes-same, EffectLemmas.goes-passed, SourceLemmas.then-goes, LookLemmas.HasRoom, LookLemmas.looks}
use Rattle.hb_canonical.specs.{Perform.perform, Same.IsSameButPlaces}
use Rattle.hb_canonical.specs.Deeds.{Deed, bare, is_parenthesis, deepest, depth_after}
use Rattle.hb_canonical.specs.Calm.{IsCalm, IsCalmBehind, begins, begins_one, is_open, is_other}
use Rattle.hb_canonical.proofs.SeenLemmas.{nowhere, no_place, seen, seen-full, to_seen, to_depth}

-- ── what is known of a work where an action went on ──

-- a construct that opened had room
had-room : (action : Action) (p : Spot) (bytes : List ℕ) (w v : Work) → act action p bytes w ≡ Goes v → HasRoom action w.depth
had-room a.Open p bytes w v h = (goes-passed _ _ _ v h).0
had-room a.OpenWord p bytes w v h = (goes-passed _ _ _ v h).0
had-room a.OpenAssign p bytes w v h = by w.pile _ h (λ x q rest k. (goes-passed _ _ _ v k).0)
  where
    by : (pile : List Slot) (go : ℕ → Spot → List Slot → Answer) → with_name pile go ≡ Goes v
        → ((x : ℕ) (q : Spot) (rest : List Slot) → go x q rest ≡ Goes v → nat_le CONSTRUCTS_MAX w.depth ≡ false) → nat_le CONSTRUCTS_MAX w.depth ≡ false
    by (Word x q ∷ rest) go h f = f x q rest h
    by _ go h f = absurd (cc h)
had-room _ p bytes w v h = tt

not-true : false ≡ true → ⊥
not-true e = cc

-- where an expression began, the arguments were not full
was-begun : (action : Action) (p : Spot) (bytes : List ℕ) (w v : Work) → begins_one action ≡ true → act action p bytes w ≡ Goes v → is_full w.pile ≡ false
was-begun a.OpenWord p bytes w v e h = (goes-passed (is_full w.pile) _ _ v (goes-passed (nat_le CONSTRUCTS_MAX w.depth) _ _ v h).1).0
was-begun a.HoldStr p bytes w v e h = (goes-passed (is_full w.pile) _ _ v h).0
was-begun a.HoldDeclare p bytes w v e h = (goes-passed (is_full w.pile) _ _ v (goes-passed _ _ _ v h).1).0
was-begun a.HoldName p bytes w v e h = (goes-passed (is_full w.pile) _ _ v h).0
was-begun a.HoldClass p bytes w v e h = by (class_of bytes w) _ h (λ c k. (goes-passed (is_full w.pile) _ _ v k).0)
  where
    by : (o : Option ℕ) (go : ℕ → Answer) → with_known o p go ≡ Goes v → ((c : ℕ) → go c ≡ Goes v → is_full w.pile ≡ false) → is_full w.pile ≡ false
    by None go h f = absurd (cc h)
    by (Some c) go h f = f c h
was-begun a.PutNil p bytes w v e h = (goes-passed (is_full w.pile) _ _ v h).0
was-begun (a.PutBoolean b) p bytes w v e h = (goes-passed (is_full w.pile) _ _ v h).0
was-begun a.PutSelf p bytes w v e h = (goes-passed (is_full w.pile) _ _ v h).0
was-begun a.PutNumber p bytes w v e h = (goes-passed (is_full w.pile) _ _ v h).0
was-begun a.PutText p bytes w v e h = (goes-passed (is_full w.pile) _ _ v h).0
was-begun _ p bytes w v e h = absurd (not-true e)

-- behind an action that leaves something else on top they are not
is-other : (action : Action) (p : Spot) (bytes : List ℕ) (w v : Work) → is_other action ≡ true → act action p bytes w ≡ Goes v → is_full v.pile ≡ false
is-other a.HoldStr p bytes w v e h = ap (λ (x : Work). is_full x.pile) (sym (goes-same (goes-passed _ _ _ v h).1))
is-other a.HoldCall p bytes w v e h = ap (λ (x : Work). is_full x.pile) (sym (goes-same (goes-passed _ _ _ v h).1))
is-other a.HoldClass p bytes w v e h = by (class_of bytes w) _ h (λ c k. ap (λ (x : Work). is_full x.pile) (sym (goes-same (goes-passed (is_full w.pile) _ _ v k).1)))
  where
    by : (o : Option ℕ) (go : ℕ → Answer) → with_known o p go ≡ Goes v → ((c : ℕ) → go c ≡ Goes v → is_full v.pile ≡ false) → is_full v.pile ≡ false
    by None go h f = absurd (cc h)
    by (Some c) go h f = f c h
is-other a.NameMethod p bytes w v e h = by w.pile _ h (λ c q rest k. ap (λ (x : Work). is_full x.pile) (sym (goes-same k)))
  where
    by : (pile : List Slot) (go : ℕ → Spot → List Slot → Answer) → with_class pile go ≡ Goes v → ((c : ℕ) (q : Spot) (rest : List Slot) → go c q rest ≡ Goes v → is_full v.pile ≡ false) → is_full v.pile ≡ false
    by (OfClass c q ∷ rest) go h f = f c q rest h
    by _ go h f = absurd (cc h)
is-other a.ComputeMethod p bytes w v e h = over w.pile _ h (λ t rest k. by rest _ k (λ c q rest k. ap (λ (x : Work). is_full x.pile) (sym (goes-same k))))
  where
    over : (pile : List Slot) (go : Tree → List Slot → Answer) → with_operand pile go ≡ Goes v → ((t : Tree) (rest : List Slot) → go t rest ≡ Goes v → is_full v.pile ≡ false) → is_full v.pile ≡ false
    over (Operand t ∷ rest) go h f = f t rest h
    over _ go h f = absurd (cc h)

    by : (pile : List Slot) (go : ℕ → Spot → List Slot → Answer) → with_class pile go ≡ Goes v → ((c : ℕ) (q : Spot) (rest : List Slot) → go c q rest ≡ Goes v → is_full v.pile ≡ false) → is_full v.pile ≡ false
    by (OfClass c q ∷ rest) go h f = f c q rest h
    by _ go h f = absurd (cc h)
is-other _ p bytes w v e h = absurd (not-true e)

-- ── one action in two works ──

-- they look the same apart from places, spots and depth
abbrev pub LookSame : Work → Work → Type 0
LookSame w v = seen 0 w ≡ seen 0 v

look-again : (d e : ℕ) (w v : Work) → seen d w ≡ seen e v → LookSame w v
look-again d e w v h = ap (λ (x : Work). record x { depth = 0 }) h

depth-again : (d e : ℕ) (w v : Work) → seen d w ≡ seen e v → d ≡ e
depth-again d e w v h = ap (λ (x : Work). x.depth) h

full-same : (w v : Work) → LookSame w v → is_full w.pile ≡ is_full v.pile
full-same w v h = sym (seen-full w.pile) ∙ ap (λ (x : Work). is_full x.pile) h ∙ seen-full v.pile

seen-goes : (answer : Answer) (u : Work) → to_seen answer ≡ Goes u → (v : Work) × (answer ≡ Goes v) × (seen v.depth v ≡ u)
seen-goes (Goes v) u h = (v, refl, goes-same h)
seen-goes (Fails f) u h = absurd (cc h)
seen-goes Lost u h = absurd (cc h)

depth-goes : (d : ℕ) (answer : Answer) (u : Work) → to_depth d answer ≡ Goes u → (v : Work) × (answer ≡ Goes v) × (seen d v ≡ u)
depth-goes d (Goes v) u h = (v, refl, goes-same h)
depth-goes d (Fails f) u h = absurd (cc h)
depth-goes d Lost u h = absurd (cc h)

-- what the action does to the second work
pub record Copied (action : Action) (q : Spot) (bytes : List ℕ) (v w : Work) : Type 0 where
  pub after : Work
  pub goes : act action q bytes w ≡ Goes after
  pub same : LookSame v after
  pub depth_is : after.depth ≡ depth_after action w.depth

pub copied : (action : Action) (p q : Spot) (bytes : List ℕ) (u v w : Work) → act action p bytes u ≡ Goes v → LookSame u w → HasRoom action w.depth → Copied action q bytes v w
copied action p q bytes u v w h same room =
    let d : ℕ = depth_after action w.depth in
    let e : ℕ = depth_after action u.depth in
    let one = looks p bytes u action (had-room action p bytes u v h) in
    let shown = depth-goes e (act action nowhere bytes (seen 0 u)) (seen v.depth v) (sym one.same ∙ ap to_seen h) in
    let two = looks q bytes w action room in
    let there : act action nowhere bytes (seen 0 w) ≡ Goes shown.0 = ap (λ (x : Work). act action nowhere bytes x) (sym same) ∙ shown.1 in
    let far = seen-goes (act action q bytes w) (seen d shown.0) (two.same ∙ ap (to_depth d) there) in
    record {
      after = far.0;
      goes = far.1;
      same = sym (look-again e v.depth shown.0 v shown.2) ∙ sym (look-again far.0.depth d far.0 shown.0 far.2);
      depth_is = depth-again far.0.depth d far.0 shown.0 far.2;
    }

-- ── lists of deeds ──

cases-deed : (d e : Deed) (ds es : List Deed) → d ∷ ds ≡ e ∷ es → (d ≡ e) × (ds ≡ es)
cases-deed d e ds es h = (cc h, cc h)

-- a parenthesis changes the depth alone
parenthesis : (action : Action) (p : Spot) (bytes : List ℕ) (w v : Work) → is_parenthesis action ≡ true → act action p bytes w ≡ Goes v → LookSame w v
parenthesis a.Open p bytes w v e h = ap (seen 0) (goes-same (goes-passed (is_full w.pile) _ _ v (goes-passed (nat_le CONSTRUCTS_MAX w.depth) _ _ v h).1).1)
parenthesis a.Close p bytes w v e h = ap (seen 0) (goes-same h)
parenthesis _ p bytes w v e h = absurd (not-true e)

-- the first deed that is no parenthesis, which is this one, and what comes behind it
record Reaches (d : Deed) (rest : List Deed) (w v : Work) : Type 0 where
  before : Work
  same : LookSame w before
  spot : Spot
  after : Work
  goes : act d.action spot d.bytes before ≡ Goes after
  later : List Deed
  spots : ℕ → Spot
  bare_is : bare later ≡ rest
  performs : perform spots later after ≡ Goes v

bare-one : (x : Deed) (xs : List Deed) → is_parenthesis x.action ≡ true → bare (x ∷ xs) ≡ bare xs
bare-one x xs e = ap (λ b. if b then bare xs else x ∷ bare xs) e

bare-more : (x : Deed) (xs : List Deed) → is_parenthesis x.action ≡ false → bare (x ∷ xs) ≡ x ∷ bare xs
bare-more x xs e = ap (λ b. if b then bare xs else x ∷ bare xs) e

reach : (ds : List Deed) (spots : ℕ → Spot) (d : Deed) (rest : List Deed) (w v : Work) → bare ds ≡ d ∷ rest → perform spots ds w ≡ Goes v → Reaches d rest w v
reach [] spots d rest w v e h = absurd (cc e)
reach (x ∷ xs) spots d rest w v e h =
    let step = then-goes (act x.action (spots 0) x.bytes w) (perform (λ n. spots (suc n)) xs) v h in
    elim (cases_Bool (is_parenthesis x.action)) [
      | inl is ↦
          let same : LookSame w step.0 = parenthesis x.action (spots 0) x.bytes w step.0 is step.1 in
          let far = reach xs (λ n. spots (suc n)) d rest step.0 v (sym (bare-one x xs is) ∙ e) step.2 in
          record { before = far.before; same = same ∙ far.same; spot = far.spot; after = far.after; goes = far.goes; later = far.later; spots = far.spots; bare_is = far.bare_is; performs = far.performs }
      | inr not ↦
          let is = cases-deed x d (bare xs) rest (sym (bare-more x xs not) ∙ e) in
          record {
            before = w;
            same = refl;
            spot = spots 0;
            after = step.0;
            goes = subst (λ (y : Deed). act y.action (spots 0) y.bytes w ≡ Goes step.0) is.0 step.1;
            later = xs;
            spots = λ n. spots (suc n);
            bare_is = is.1;
            performs = step.2;
          }
    ]

-- with parentheses alone nothing else changes
nothing-else : (ds : List Deed) (spots : ℕ → Spot) (w v : Work) → bare ds ≡ [] → perform spots ds w ≡ Goes v → LookSame w v
nothing-else [] spots w v e h = ap (seen 0) (goes-same h)
nothing-else (x ∷ xs) spots w v e h =
    let step = then-goes (act x.action (spots 0) x.bytes w) (perform (λ n. spots (suc n)) xs) v h in
    elim (cases_Bool (is_parenthesis x.action)) [
      | inl is ↦ parenthesis x.action (spots 0) x.bytes w step.0 is step.1 ∙ nothing-else xs (λ n. spots (suc n)) step.0 v (sym (bare-one x xs is) ∙ e) step.2
      | inr not ↦ let is : x ∷ bare xs ≡ [] = sym (bare-more x xs not) ∙ e in absurd (cc is)
    ]

-- where an expression begins among the second deeds, it began among the first
open-is-one : (action : Action) → is_open action ≡ true → is_parenthesis action ≡ true
open-is-one a.Open e = refl
open-is-one _ e = absurd (not-true e)

one-is-none : (action : Action) → begins_one action ≡ true → is_parenthesis action ≡ false
one-is-none a.Open e = absurd (not-true e)
one-is-none a.Close e = absurd (not-true e)
one-is-none _ e = refl

begun-there : (es : List Deed) → begins es ≡ true → (d : Deed) × (rest : List Deed) × (begins_one d.action ≡ true) × (bare es ≡ d ∷ rest)
begun-there [] e = absurd (not-true e)
begun-there (x ∷ xs) e = elim (or_cases (begins_one x.action) (is_open x.action && begins xs) e) [
  | inl one ↦ (x, bare xs, one, bare-more x xs (one-is-none x.action one))
  | inr more ↦
      let parts = and_parts (is_open x.action) (begins xs) more in
      let far = begun-there xs parts.1 in
      (far.0, far.1, far.2, bare-one x xs (open-is-one x.action parts.0) ∙ far.3)
]

not-full : (ds es : List Deed) (spots : ℕ → Spot) (w v : Work) → bare ds ≡ bare es → begins es ≡ true → perform spots ds w ≡ Goes v → is_full w.pile ≡ false
not-full ds es spots w v e b h =
    let d = begun-there es b in
    let far = reach ds spots d.0 d.1 w v (e ∙ d.3) h in
    full-same w far.before far.same ∙ was-begun d.0.action far.spot d.0.bytes far.before far.after d.2 far.goes

-- ── the way ──

deep-here : (ds : List Deed) (d : ℕ) → d ≤ deepest ds d
deep-here [] d = omega arith
deep-here (x ∷ xs) d = grind (arith, nat_tests)

deep-later : (x : Deed) (ds : List Deed) (d m : ℕ) → deepest (x ∷ ds) d ≤ m → deepest ds (depth_after x.action d) ≤ m
deep-later x ds d m h = grind (arith, nat_tests)

room : (d : ℕ) → d + 1 ≤ CONSTRUCTS_MAX → nat_le CONSTRUCTS_MAX d ≡ false
room d h = grind (arith, nat_tests)

has-room : (action : Action) (d : ℕ) → depth_after action d ≤ CONSTRUCTS_MAX → HasRoom action d
has-room a.Open d h = room d h
has-room a.OpenWord d h = room d h
has-room a.OpenAssign d h = room d h
has-room _ d h = tt

-- what the second deeds build
pub record Again (spots : ℕ → Spot) (ds : List Deed) (w v : Work) : Type 0 where
  pub work : Work
  pub performs : perform spots ds w ≡ Goes work
  pub same : LookSame v work

-- where a parenthesis opens the arguments are not full
abbrev IsNotFull : Bool → Work → Type 0
IsNotFull other w = other ≡ true → is_full w.pile ≡ false

-- a parenthesis goes on where it may
goes-on : (action : Action) (p : Spot) (bytes : List ℕ) (w : Work) → is_parenthesis action ≡ true → (is_open action ≡ true → is_full w.pile ≡ false) → depth_after action w.depth ≤ CONSTRUCTS_MAX
    → (t : Work) × (act action p bytes w ≡ Goes t) × LookSame w t × (t.depth ≡ depth_after action w.depth)
goes-on a.Open p bytes w e full deep = (
  opened w,
  ap (λ b. if b then Fails (fail.TooDeep p.at) else (if is_full w.pile then Fails (fail.TooMany limit.Arguments p.at) else Goes (opened w))) (room w.depth deep)
      ∙ ap (λ b. if b then Fails (fail.TooMany limit.Arguments p.at) else Goes (opened w)) (full refl),
  refl,
  refl,
)
goes-on a.Close p bytes w e full deep = (closed w, refl, refl, refl)
goes-on _ p bytes w e full deep = absurd (not-true e)

performs-step : (spots : ℕ → Spot) (x : Deed) (xs : List Deed) (w u v : Work) → act x.action (spots 0) x.bytes w ≡ Goes u → perform (λ n. spots (suc n)) xs u ≡ Goes v → perform spots (x ∷ xs) w ≡ Goes v
performs-step spots x xs w u v h k = ap (λ answer. and_then answer (perform (λ n. spots (suc n)) xs)) h ∙ k

calm-here : (opens other first : Bool) → (if opens then other || first else true) ≡ true → opens ≡ true → (other || first) ≡ true
calm-here true other first h e = h
calm-here false other first h e = absurd (not-true e)

module _ (v : Work) where
  simulates : (es ds : List Deed) (first second : ℕ → Spot) (u w : Work) (other : Bool) → LookSame u w → bare ds ≡ bare es → IsCalmBehind other es → IsNotFull other w
      → deepest es w.depth ≤ CONSTRUCTS_MAX → perform first ds u ≡ Goes v → Again second es w v
  simulates [] ds first second u w other same e calm full deep h = record { work = w; performs = refl; same = sym (nothing-else ds first u v e h) ∙ same }
  simulates (x ∷ xs) ds first second u w other same e calm full deep h =
      let d : ℕ = depth_after x.action w.depth in
      let deep_later : deepest xs d ≤ CONSTRUCTS_MAX = deep-later x xs w.depth CONSTRUCTS_MAX deep in
      let deep_here : d ≤ CONSTRUCTS_MAX = omega (arith, deep-here xs d, deep_later) in
      elim (cases_Bool (is_parenthesis x.action)) [
        | inl is ↦
            let alike : bare ds ≡ bare xs = e ∙ bare-one x xs is in
            let free : is_open x.action ≡ true → is_full w.pile ≡ false = λ o.
            elim (or_cases other (begins xs) (calm-here (is_open x.action) other (begins xs) calm.0 o)) [
              | inl behind ↦ full behind
              | inr more ↦ sym (full-same u w same) ∙ not-full ds xs first u v alike more h
            ]
            in
            let t = goes-on x.action (second 0) x.bytes w is free deep_here in
            let far = simulates xs ds first (λ n. second (suc n)) u t.0 (is_other x.action) (same ∙ t.2) alike calm.1
            (λ o. is-other x.action (second 0) x.bytes w t.0 o t.1) (subst (λ n. deepest xs n ≤ CONSTRUCTS_MAX) (sym t.3) deep_later) h in
            record { work = far.work; performs = performs-step second x xs w t.0 far.work t.1 far.performs; same = far.same }
        | inr not ↦
            let one = reach ds first x (bare xs) u v (e ∙ bare-more x xs not) h in
            let two = copied x.action one.spot (second 0) x.bytes one.before one.after w one.goes (sym one.same ∙ same) (has-room x.action w.depth deep_here) in
            let far = simulates xs one.later one.spots (λ n. second (suc n)) one.after two.after (is_other x.action) two.same one.bare_is calm.1
            (λ o. is-other x.action (second 0) x.bytes w two.after o two.goes) (subst (λ n. deepest xs n ≤ CONSTRUCTS_MAX) (sym two.depth_is) deep_later) one.performs in
            record { work = far.work; performs = performs-step second x xs w two.after far.work two.goes far.performs; same = far.same }
      ]

-- all that is said is the same but for places
pub said-same : (w v : Work) → LookSame w v → IsSameButPlaces w.said v.said
said-same w v h = record {
  classes = ap (λ (x : Work). x.said.classes) h;
  names = ap (λ (x : Work). x.said.names) h;
  texts = ap (λ (x : Work). x.said.texts) h;
  places = sym (length-map w.said.places no_place) ∙ ap (λ (x : Work). length x.said.places) h ∙ length-map v.said.places no_place;
  bodies = ap (λ (x : Work). x.said.bodies) h;
  types = ap (λ (x : Work). x.said.types) h;
  setup = ap (λ (x : Work). x.said.setup) h;
  scripts = ap (λ (x : Work). x.said.scripts) h;
}

pub simulated : (first second : ℕ → Spot) (ds es : List Deed) (w : Work) → bare ds ≡ bare es → IsCalm es → deepest es 0 ≤ CONSTRUCTS_MAX → perform first ds nothing ≡ Goes w
    → (v : Work) × (perform second es nothing ≡ Goes v) × IsSameButPlaces w.said v.said
simulated first second ds es w e calm deep h =
    let far = simulates w es ds first second nothing nothing false refl e calm (λ o. absurd (not-true o)) deep h in
    (far.work, far.performs, said-same w far.work far.same)
