-- Names that are marked as asked for.
use Rattle.std.proofs.Common.{◌≡◌, ◌≢◌, ℕ, zero, suc, ◌+◌, ◌<◌, ◌≤◌, Bool, true, false, Option, Some, None, List, [], ◌∷◌, ◌++◌, length, get_or, set, refl, sym, ap, ◌∙◌, subst}
use Rattle.std.proofs.Common.{⊎_elim, arith, length-set, get_or-set_same, get_or-set_other}
use Rattle.std.specs.Prelude.{slice_get, is_some}
use mathlib.Core.Logic.{dite}
use mathlib.Core.Option.{some}
use native.Mathlib.Decide.{ℕ_discrete}
use lib.ListN.{get_elem?}
use Rattle.std.proofs.lemmas.List.{length_push, get_or_push, get_or_append_left, map-append}
use Rattle.std.proofs.lemmas.Option.{none-some}
use Rattle.hb_types.specs.declared.ids.KeyId.{KeyId}
use Rattle.hb_names.specs.Names.{Name, place, with_name, Differ}
use Rattle.hb_names.proofs.NameLemmas.{place-first, place-append, place-last, with_name-known, with_name-new}
use Rattle.hb_row.specs.Known.{name_at, asked_of, unasked, IsNoted, AreNamed}
use Rattle.hb_row.proofs.ListLemmas.{to_some, from_some, at_behind, nowhere, never}

-- the names that were asked for stay where others are learned
pub asked_longer : (names more : List Name) (keys : List KeyId) → ((i : ℕ) (k : KeyId) → slice_get keys i ≡ Some k → k.0 < length names) → asked_of (names ++ more) keys ≡ asked_of names keys
asked_longer names more [] below = refl
asked_longer names more (k ∷ keys) below = λ i. get_or_append_left names more (0, []) k.0 (below 0 k refl) i ∷ asked_longer names more keys (λ j q e. below (suc j) q e) i

at_key : (names : List Name) (k : ℕ) → k < length names → get_elem? names k ≡ some (name_at names k)
at_key [] k l = absurd (omega arith)
at_key (n ∷ names) zero l = refl
at_key (n ∷ names) (suc k) l = at_key names k (omega arith)

-- each name that was asked for is known
pub asked_known : (names : List Name) (keys : List KeyId) (i : ℕ) (p : Name) → ((i : ℕ) (k : KeyId) → slice_get keys i ≡ Some k → k.0 < length names)
    → slice_get (asked_of names keys) i ≡ Some p → (k : ℕ) × (get_elem? names k ≡ some p)
asked_known names [] i p below e = absurd (none-some p e)
asked_known names (k ∷ keys) zero p below e = (k.0, subst (λ z. get_elem? names k.0 ≡ some z) (let h : name_at names k.0 ≡ p = cc e in h) (at_key names k.0 (below 0 k refl)))
asked_known names (k ∷ keys) (suc i) p below e = asked_known names keys i p (λ j q e. below (suc j) q e) e

unasked_push : (marks : List Bool) → unasked (marks ++ false ∷ []) ≡ unasked marks + 1
unasked_push [] = refl
unasked_push (true ∷ marks) = unasked_push marks
unasked_push (false ∷ marks) = let e = unasked_push marks in omega arith

pub unasked_set : (marks : List Bool) (k : ℕ) → k < length marks → get_or marks k false ≡ false → unasked (set marks k true) + 1 ≡ unasked marks
unasked_set [] k l e = absurd (omega arith)
unasked_set (true ∷ marks) zero l e = absurd (cc e)
unasked_set (false ∷ marks) zero l e = omega arith
unasked_set (true ∷ marks) (suc k) l e = unasked_set marks k (omega arith) e
unasked_set (false ∷ marks) (suc k) l e = let r = unasked_set marks k (omega arith) e in omega arith

told : {a b : List Name} {p q : Name} → a ≡ b → p ≡ q → is_some (place b q) ≡ is_some (place a p)
told e f = λ i. is_some (place (sym e i) (sym f i))

is_some-none : {A : Type 0} (o : Option A) → o ≡ None → false ≡ is_some o
is_some-none o e = ap is_some (sym e)

module _ (names : List Name) (keys : List KeyId) (marks : List Bool) (capacity : ℕ) (noted : IsNoted names keys marks capacity) where
  pub unasked_new : (name : Name) → place names name ≡ None → place (asked_of names keys) name ≡ None
  unasked_new name new = nowhere (asked_of names keys) name (λ i e. let k = asked_known names keys i name noted.below (from_some (asked_of names keys) i name e) in never names name new k.0 k.1)

  -- a new name is known, for which nobody asked
  pub noted_more : (name : Name) (more : ℕ) → place names name ≡ None → capacity ≤ more → length marks < more → IsNoted (names ++ name ∷ []) keys (marks ++ false ∷ []) more
  noted_more name more new le room =
      let n = length_push names name in let m = length_push marks false in let l = noted.long in
      let same = asked_longer names (name ∷ []) keys noted.below in record {
        long = omega (arith, n, m, l);
        below = λ i k e. (let b = noted.below i k e in omega (arith, n, b));
        marked = λ k inside. dite (ℕ_discrete k (length names))
            (λ is. get_or_push marks false false k (l ∙ sym is) ∙ is_some-none (place (asked_of names keys) name) (unasked_new name new)
            ∙ told same (get_or_push names name (0, []) k (sym is)))
            (λ ne. let before : k < length names = omega (arith, n, inside, ne) in get_or_append_left marks (false ∷ []) false k (omega (arith, l, before)) ∙ noted.marked k before
            ∙ told same (get_or_append_left names (name ∷ []) (0, []) k before));
        counted = (let c = noted.counted in let u = unasked_push marks in omega (arith, m, c, u));
        roomy = omega (arith, m, room);
      }

  module _ (key : KeyId) (inside : key.0 < length names) (differ : Differ names) where
    abbrev pub name : Name
    name = name_at names key.0

    -- it was asked for before
    pub marked_asked : get_or marks key.0 false ≡ true → with_name (asked_of names keys) name ≡ asked_of names keys
    marked_asked is = by (place (asked_of names keys) name) refl (sym is ∙ noted.marked key.0 inside)
      where
        by : (o : Option ℕ) → place (asked_of names keys) name ≡ o → true ≡ is_some o → with_name (asked_of names keys) name ≡ asked_of names keys
        by None e t = absurd (cc t)
        by (Some k) e t = with_name-known (asked_of names keys) name k e

    module _ (not_yet : get_or marks key.0 false ≡ false) where
      none_yet : place (asked_of names keys) name ≡ None
      none_yet = by (place (asked_of names keys) name) refl (sym not_yet ∙ noted.marked key.0 inside)
        where
          by : (o : Option ℕ) → place (asked_of names keys) name ≡ o → false ≡ is_some o → place (asked_of names keys) name ≡ None
          by None e t = e
          by (Some k) e t = absurd (cc t)

      longer : asked_of names (keys ++ key ∷ []) ≡ asked_of names keys ++ name ∷ []
      longer = map-append (λ (k : KeyId). name_at names k.0) keys (key ∷ [])

      pub newly_asked : asked_of names (keys ++ key ∷ []) ≡ with_name (asked_of names keys) name
      newly_asked = longer ∙ sym (with_name-new (asked_of names keys) name none_yet)

      others_stay : (q : Name) → name ≢ q → is_some (place (asked_of names keys) q) ≡ is_some (place (asked_of names keys ++ name ∷ []) q)
      others_stay q other = by (place (asked_of names keys) q) refl
        where
          by : (o : Option ℕ) → place (asked_of names keys) q ≡ o → is_some o ≡ is_some (place (asked_of names keys ++ name ∷ []) q)
          by None e = is_some-none (place (asked_of names keys ++ name ∷ []) q) (nowhere (asked_of names keys ++ name ∷ []) q
              (λ i there. ⊎_elim (λ t. never (asked_of names keys) q e i t) (λ t. other t.1) (at_behind (asked_of names keys) name q i there)))
          by (Some k) e = ap is_some (sym (place-append (asked_of names keys) (name ∷ []) q k e))

      pub has_room : length keys < capacity
      has_room = let c = noted.counted in let u = unasked_set marks key.0 (let l = noted.long in omega (arith, l, inside)) not_yet in let r = noted.roomy in omega (arith, c, u, r)

      pub noted_asked : (more : ℕ) → capacity ≤ more → IsNoted names (keys ++ key ∷ []) (set marks key.0 true) more
      noted_asked more le =
          let l = noted.long in let m = length-set marks key.0 true in let n = length_push keys key in let r = noted.roomy in record {
            long = m ∙ l;
            below = λ i k e. ⊎_elim (λ t. noted.below i k (from_some keys i k t)) (λ t. subst
                (λ (z : KeyId). z.0 < length names) t.1 inside) (at_behind keys key k i (to_some (keys ++ key ∷ []) i k e));
            marked = λ k low. dite (ℕ_discrete k key.0)
                (λ is. ap (λ z. get_or (set marks key.0 true) z false) is ∙ get_or-set_same marks key.0 true false (omega (arith, l, inside))
                ∙ ap is_some (sym (place-last (asked_of names keys) name none_yet)) ∙ told longer (ap (name_at names) is))
                (λ ne. get_or-set_other marks key.0 k true false ne ∙ noted.marked k low
                ∙ others_stay (name_at names k) (λ e. ne (sym (differ key.0 k (name_at names k) (from_some names key.0 (name_at names k) (at_key names key.0 inside
                ∙ ap some e)) (from_some names k (name_at names k) (at_key names k low)))))
                ∙ told longer refl);
            counted = (let c = noted.counted in let u = unasked_set marks key.0 (omega (arith, l, inside)) not_yet in omega (arith, m, n, c, u));
            roomy = omega (arith, m, r, le);
          }

-- each name that was asked for is known
pub asked_named : (names : List Name) (keys : List KeyId) (marks : List Bool) (capacity : ℕ) → IsNoted names keys marks capacity → AreNamed (asked_of names keys) names
asked_named names keys marks capacity noted i name e =
    let k = asked_known names keys i name noted.below (from_some (asked_of names keys) i name e) in let first = place-first names name k.0 (from_some names k.0 name k.1) in ap is_some first.1
