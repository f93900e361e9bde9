-- Whether a script has this name, and what lies on top where a script ends.
use Rattle.std.proofs.Common.{◌≡◌, ℕ, List, ◌∷◌, map, sym, ap, ◌∙◌}
use Rattle.std.specs.{Prelude.nat_eq, List.list_any}
use Rattle.hb_types.specs.declared.ids.NameId.{NameId}
use Rattle.hb_tree.specs.Tree.{Tree}
use Rattle.hb_draft.specs.Unfinished.{in_hand}
use Rattle.hb_draft.proofs.WordLists.{list_any-map}
use Rattle.hb_build.proofs.{ScopeLemmas.is_member-numbers, TakeLemmas.top-closed, TakeLemmas.top-script}
use Rattle.hb_build.specs.declared.{builder.Builder.Builder, held.Held.Held}
use Rattle.hb_build.specs.declared.held.Held.TheVariants as held
use Rattle.hb_build.specs.{Pile.Slot, Sound.things_of, Sound.pile_of, Sound.numbers}
use Rattle.hb_build.specs.Acts.{Answer, Lost, with_closed, with_script}

pub any-named : (x : NameId) (names : List NameId) (scripts : List (ℕ × Tree)) → numbers names ≡ map (λ s. s.0) scripts
    → list_any (λ s. nat_eq x.0 s.0) scripts ≡ list_any (λ y. nat_eq y.0 x.0) names
any-named x names scripts same = sym (list_any-map (λ s. s.0) (nat_eq x.0) scripts) ∙ ap (list_any (nat_eq x.0)) (sym same) ∙ sym (is_member-numbers names x)

pub record HasScript (b : Builder) : Type 0 where
  pub rest : List Held
  pub name : NameId
  pub block : Tree
  pub others : List Tree
  pub things_are : things_of b ≡ held.Closed ∷ held.Script name ∷ rest
  pub hand_is : in_hand b.draft ≡ block ∷ others

pub has-script : (b : Builder) (go : Tree → ℕ → List Slot → Answer) → (with_closed (pile_of b) (λ e pile. with_script pile (go e)) ≡ Lost → ⊥) → HasScript b
has-script b go kept =
    let t = top-closed (things_of b) (in_hand b.draft) (λ e pile. with_script pile (go e)) kept in
    let u = top-script t.0 t.2 (go t.1) t.5 in
    record { rest = u.0; name = u.1; block = t.1; others = t.2; things_are = t.3 ∙ ap (λ (r : List Held). held.Closed ∷ r) u.2; hand_is = t.4 }
