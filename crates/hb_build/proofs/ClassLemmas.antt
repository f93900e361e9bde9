-- A class that is declared, and whether one of this name was before.
use Rattle.std.proofs.Common.{◌≡◌, ℕ, ◌<◌, List, [], ◌∷◌, ◌++◌, true, false, Option, Some, None, length, refl, sym, ap, ap₂, ◌∙◌, arith, inl, inr}
use Rattle.std.specs.Prelude.{bytes_eq, nat_lt, position}
use Rattle.std.specs.{Option.is_some, Option.option_map, List.list_any, List.position_or_len}
use Rattle.std.proofs.{lemmas.List.length_push, lemmas.Bool.Decides.nat_tests, lemmas.Option.slice_get_within}
use Rattle.std.proofs.lemmas.Bool.{cases_Bool, cond-true, cond-false}
use Rattle.hb_types.specs.declared.ids.ClassId.{ClassId}
use Rattle.hb_draft.specs.{Unfinished.Unfinished, Unfinished.AddsClass, Unfinished.in_hand, Made.made_of, Made.with_class}
use Rattle.hb_draft.proofs.WordLists.{number-place, number-new}
use Rattle.hb_build.specs.{Said.said_of, Pile.piled}
use Rattle.hb_build.specs.declared.builder.Builder.{Builder}
use Rattle.hb_build.specs.Sound.{IsSound, work_of, things_of, pile_of}
use Rattle.hb_build.proofs.GoodLemmas.{good-more}

is-there : (o : Option ClassId) (n : ℕ) → option_map (λ c. c.0) o ≡ Some n → is_some o ≡ true
is-there None n e = absurd (cc)
is-there (Some c) n e = refl

is-nowhere : (o : Option ClassId) → option_map (λ c. c.0) o ≡ None → is_some o ≡ false
is-nowhere None e = refl
is-nowhere (Some c) e = absurd (cc)

-- a class is found exactly where one of this name is declared
pub found-any : (word : List ℕ) (words : List (List ℕ)) (o : Option ClassId) → option_map (λ c. c.0) o ≡ position (bytes_eq word) words → is_some o ≡ list_any (bytes_eq word) words
found-any word words o is = elim (cases_Bool (list_any (bytes_eq word) words)) [
  | inl there ↦
      let n = position_or_len (bytes_eq word) words in
      let within : n < length words = slice_get_within _ _ _ (number-place word words there) in
      let test : nat_lt n (length words) ≡ true = grind (arith, nat_tests) in
      is-there o n (is ∙ cond-true _ _ _ test) ∙ sym there
  | inr none ↦
      let n = position_or_len (bytes_eq word) words in
      let past : n ≡ length words = number-new (bytes_eq word) words none in
      let test : nat_lt n (length words) ≡ false = grind (arith, nat_tests) in
      is-nowhere o (is ∙ cond-false _ _ _ test) ∙ sym none
]

-- a builder's draft with one class more
pub sound-class : (b : Builder) (d : Unfinished) (class : List ℕ) → IsSound b → AddsClass b.draft d class → IsSound (record b { draft = d })
sound-class b d class sound adds =
    let pile : piled (things_of b) (in_hand d) ≡ pile_of b = ap (piled (things_of b)) adds.hand in
    let names : d.table.names ≡ b.draft.table.names = ap (λ t. t.names) adds.table in
    let classes : d.table.classes ≡ b.draft.table.classes ++ class ∷ [] = ap (λ t. t.classes) adds.table in
    let types : d.table.types ≡ b.draft.table.types = ap (λ t. t.types) adds.table in
    record {
      matched = rw adds.hand sound.matched;
      good = rw (pile, names, classes) (good-more _ _ _ _ (pile_of b) (omega arith) (omega (arith, length_push b.draft.table.classes class)) sound.good);
      counts = rw pile sound.counts;
      scopes = rw pile sound.scopes;
      pending = rw pile sound.pending;
      named = rw adds.roots.script_trees sound.named;
      few_types = rw (pile, types) sound.few_types;
    }

-- and what it stands for
pub work-class : (b : Builder) (d : Unfinished) (class : List ℕ) → AddsClass b.draft d class → made_of d ≡ with_class (made_of b.draft) class
    → work_of (record b { draft = d }) ≡ record (work_of b) { said = record (work_of b).said { classes = b.draft.table.classes ++ class ∷ [] } }
work-class b d class adds made =
    ap₂ (λ said pile. record { said = said; pile = pile; depth = b.depth }) (ap said_of made) (ap (piled (things_of b)) adds.hand)
