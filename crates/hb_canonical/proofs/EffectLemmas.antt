-- What each action does where it goes on.
use Rattle.std.proofs.Common.{◌≡◌, ℕ, List, [], ◌∷◌, ◌++◌, length, Bool, true, false, Option, Some, None, refl, sym, ◌∙◌, ap, subst, append_assoc}
use Rattle.std.specs.{Prelude.slice_get, Prelude.if◌then◌else◌, Option.unwrap_or}
use Rattle.std.proofs.lemmas.List.{append-nil}
use Rattle.hb_tree.specs.{Tree.Tree, Counts.height, Grows.BeginsWith, Canon.bytes_at}
use Rattle.hb_tree.proofs.Lists.{slice_get-begins}
use Rattle.hb_grammar.specs.declared.actions.Action.{Action}
use Rattle.hb_build.specs.{Needs.needs, Said.Said, Pile.Slot, Pile.has_too_many_nodes}
use Rattle.hb_build.specs.declared.{held.Spot.Spot, faults.ParseFail.ParseFail}
use Rattle.hb_build.specs.Acts.{Work, Answer, Goes, act, complete, passed, unless, fails_if}
use Rattle.hb_canonical.specs.Deeds.{Deed, deed, looked_at, is_parenthesis}

-- ── lists that go on ──

pub begins-same : {X : Type 0} (xs : List X) → BeginsWith xs xs
begins-same xs = ([], sym (append-nil xs))

begins-then : {X : Type 0} (xs ys zs : List X) → BeginsWith xs ys → BeginsWith ys zs → BeginsWith xs zs
begins-then xs ys zs h k = (h.0 ++ k.0, k.1 ∙ ap (λ l. l ++ k.0) h.1 ∙ append_assoc xs h.0 k.0)

-- all that is said may go on
pub record Later (old new : Said) : Type 0 where
  pub classes : BeginsWith old.classes new.classes
  pub names : BeginsWith old.names new.names
  pub texts : BeginsWith old.texts new.texts
  pub bodies : BeginsWith old.bodies new.bodies
  pub types : BeginsWith old.types new.types

pub later-same : (s : Said) → Later s s
later-same s = record { classes = begins-same s.classes; names = begins-same s.names; texts = begins-same s.texts; bodies = begins-same s.bodies; types = begins-same s.types }

pub later-then : {s t u : Said} → Later s t → Later t u → Later s u
later-then {s} {t} {u} h k = record {
  classes = begins-then s.classes t.classes u.classes h.classes k.classes;
  names = begins-then s.names t.names u.names h.names k.names;
  texts = begins-then s.texts t.texts u.texts h.texts k.texts;
  bodies = begins-then s.bodies t.bodies u.bodies h.bodies k.bodies;
  types = begins-then s.types t.types u.types h.types k.types;
}

-- the same, where no class, setup or script is said
pub record Inside (old new : Said) : Type 0 where
  pub later : Later old new
  pub classes : new.classes ≡ old.classes
  pub setup : new.setup ≡ old.setup
  pub scripts : new.scripts ≡ old.scripts

pub inside-same : (s : Said) → Inside s s
inside-same s = record { later = later-same s; classes = refl; setup = refl; scripts = refl }

pub inside-then : {s t u : Said} → Inside s t → Inside t u → Inside s u
inside-then h k = record { later = later-then h.later k.later; classes = k.classes ∙ h.classes; setup = k.setup ∙ h.setup; scripts = k.scripts ∙ h.scripts }

-- from what was said to this work, with this pile and so many open constructs
pub record Moves (s : Said) (v : Work) (pile : List Slot) (depth : ℕ) : Type 0 where
  pub inside : Inside s v.said
  pub pile_is : v.pile ≡ pile
  pub depth_is : v.depth ≡ depth

pub still : (w : Work) → Moves w.said w w.pile w.depth
still w = record { inside = inside-same w.said; pile_is = refl; depth_is = refl }

pub next : {s : Said} {u v : Work} {p q : List Slot} {d e : ℕ} → Moves s u p d → Moves u.said v q e → Moves s v q e
next h k = record { inside = inside-then h.inside k.inside; pile_is = k.pile_is; depth_is = k.depth_is }

-- the pile and the depth in other words
pub anew : {s : Said} {v : Work} {p q : List Slot} {d e : ℕ} → Moves s v p d → p ≡ q → d ≡ e → Moves s v q e
anew h a b = record { inside = h.inside; pile_is = h.pile_is ∙ a; depth_is = h.depth_is ∙ b }

-- ── words ──

-- a word that stands in the list is found there for ever
pub word-later : (old new : List (List ℕ)) (i : ℕ) (bytes : List ℕ) → BeginsWith old new → slice_get old i ≡ Some bytes → bytes_at new i ≡ bytes
word-later old new i bytes h e = ap (λ o. unwrap_or o []) (slice_get-begins old new h i bytes e)

-- ── an action that goes on ──

-- the action does this, and is the next deed where it is no parenthesis
pub record Does (action : Action) (w : Work) (ds : List Deed) (v : Work) (es : List Deed) : Type 0 where
  pub spot : Spot
  pub bytes : List ℕ
  pub goes : act action spot bytes w ≡ Goes v
  pub heard : ds ≡ (if is_parenthesis action then es else deed action (looked_at (needs action) bytes) ∷ es)

pub goes-same : {u v : Work} → Goes u ≡ Goes v → u ≡ v
goes-same e = cc

pub goes-passed : (passed : Bool) (fault : ParseFail) (answer : Answer) (v : Work) → fails_if passed fault answer ≡ Goes v → (passed ≡ false) × (answer ≡ Goes v)
goes-passed true fault answer v e = cc
goes-passed false fault answer v e = (refl, e)

goes-unless : (fault : Option ParseFail) (answer : Answer) (v : Work) → unless fault answer ≡ Goes v → answer ≡ Goes v
goes-unless None answer v h = h
goes-unless (Some fault) answer v h = cc

pub moves-to : {s : Said} {u v : Work} {p : List Slot} {d : ℕ} → Moves s u p d → Goes u ≡ Goes v → Moves s v p d
moves-to {s} {u} {v} {p} {d} h e = subst (λ (x : Work). Moves s x p d) (goes-same e) h

-- a complete node
pub puts : (q : Spot) (make : ℕ → Tree) (slot : Tree → Slot) (pile : List Slot) (u v : Work) → complete q make slot pile u ≡ Goes v
    → Moves u.said v (slot (make (length u.said.places)) ∷ pile) u.depth
puts q make slot pile u v h =
    let w : Work = record u { said = record u.said { places = u.said.places ++ (q.line, q.column) ∷ [] }; pile = slot (make (length u.said.places)) ∷ pile } in
    moves-to {s = u.said} {u = w} {v = v} {p = slot (make (length u.said.places)) ∷ pile} {d = u.depth}
    (record {
      inside = record {
        later = record { classes = begins-same u.said.classes; names = begins-same u.said.names; texts = begins-same u.said.texts; bodies = begins-same u.said.bodies; types = begins-same u.said.types };
        classes = refl;
        setup = refl;
        scripts = refl;
      };
      pile_is = refl;
      depth_is = refl;
    })
    (goes-unless (passed (height (make (length u.said.places))) (length u.said.places) (has_too_many_nodes (slot (make (length u.said.places)) ∷ pile)) q.at)
    (Goes (record u { said = record u.said { places = u.said.places ++ (q.line, q.column) ∷ [] }; pile = slot (make (length u.said.places)) ∷ pile })) v h)

-- the action on a pile in other words
pub at-pile : (action : Action) (p : Spot) (bytes : List ℕ) (w v : Work) (pile : List Slot) → w.pile ≡ pile → act action p bytes w ≡ Goes v → act action p bytes (record w { pile = pile }) ≡ Goes v
at-pile action p bytes w v pile e h = subst (λ (x : List Slot). act action p bytes (record w { pile = x }) ≡ Goes v) e h
