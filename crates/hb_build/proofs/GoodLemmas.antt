-- A pile stays good, and a builder sound, when names and classes are added.
use Rattle.std.proofs.Common.{◌≡◌, ℕ, ◌≤◌, List, [], ◌∷◌, ◌++◌, Bool, true, false, length, ap, arith, cond, ap₂}
use Rattle.std.specs.{Prelude.bytes_eq, List.list_any}
use Rattle.std.proofs.lemmas.List.{length_push}
use Rattle.hb_types.specs.declared.types.Ty.{Ty}
use Rattle.hb_types.specs.declared.types.Ty.TheVariants as ty
use Rattle.hb_draft.specs.{Words.with_word, Made.made_of, Made.with_name}
use Rattle.hb_draft.specs.Unfinished.{Unfinished, AddsName, in_hand}
use Rattle.hb_build.specs.{Said.said_of, Acts.numbered}
use Rattle.hb_build.specs.declared.builder.Builder.{Builder}
use Rattle.hb_build.specs.Pile.{Slot, Operand, Closed, Item, Argument, Own, Declaring, Word, Target, Called, OfClass, Named, Computed, Parameter, OfType, ParameterType, Block, Body, Setup, Script, piled}
use Rattle.hb_build.specs.Sound.{IsSound, IsGood, IsTy, work_of, things_of, pile_of}

is_ty-more : (few many : ℕ) (y : Ty) → few ≤ many → IsTy few y → IsTy many y
is_ty-more few many (ty.Class c) up is = omega arith
is_ty-more _ _ _ _ _ = tt

-- a pile that is good stays so with more names and classes
pub good-more : (names more_names classes more_classes : ℕ) (pile : List Slot) → names ≤ more_names → classes ≤ more_classes → IsGood names classes pile → IsGood more_names more_classes pile
good-more ns ns2 cs cs2 [] n c is = tt
good-more ns ns2 cs cs2 (Operand e ∷ pile) n c is = (is.0, good-more ns ns2 cs cs2 pile n c is.1)
good-more ns ns2 cs cs2 (Closed b ∷ pile) n c is = (is.0, good-more ns ns2 cs cs2 pile n c is.1)
good-more ns ns2 cs cs2 (Item e ∷ pile) n c is = (is.0, good-more ns ns2 cs cs2 pile n c is.1)
good-more ns ns2 cs cs2 (Argument e ∷ pile) n c is = (is.0, is.1, good-more ns ns2 cs cs2 pile n c is.2)
good-more ns ns2 cs cs2 (Word x p ∷ pile) n c is = (omega (arith, is.0), good-more ns ns2 cs cs2 pile n c is.1)
good-more ns ns2 cs cs2 (Target x p ∷ pile) n c is = (omega (arith, is.0), good-more ns ns2 cs cs2 pile n c is.1)
good-more ns ns2 cs cs2 (Called m p ∷ pile) n c is = (omega (arith, is.0), good-more ns ns2 cs cs2 pile n c is.1)
good-more ns ns2 cs cs2 (OfClass k p ∷ pile) n c is = (omega (arith, is.0), good-more ns ns2 cs cs2 pile n c is.1)
good-more ns ns2 cs cs2 (Named k m ∷ pile) n c is = (omega (arith, is.0), omega (arith, is.1), good-more ns ns2 cs cs2 pile n c is.2)
good-more ns ns2 cs cs2 (Computed k e ∷ pile) n c is = (omega (arith, is.0), is.1, good-more ns ns2 cs cs2 pile n c is.2)
good-more ns ns2 cs cs2 (Parameter x ∷ pile) n c is = (omega (arith, is.0), is.1, is.2, good-more ns ns2 cs cs2 pile n c is.3)
good-more ns ns2 cs cs2 (OfType y ∷ pile) n c is = (is_ty-more cs cs2 y c is.0, good-more ns ns2 cs cs2 pile n c is.1)
good-more ns ns2 cs cs2 (ParameterType y ∷ pile) n c is = (is_ty-more cs cs2 y c is.0, is.1, good-more ns ns2 cs cs2 pile n c is.2)
good-more ns ns2 cs cs2 (Script x ∷ pile) n c is = (omega (arith, is.0), good-more ns ns2 cs cs2 pile n c is.1)
good-more ns ns2 cs cs2 (Own p ∷ pile) n c is = good-more ns ns2 cs cs2 pile n c is
good-more ns ns2 cs cs2 (Declaring p ∷ pile) n c is = good-more ns ns2 cs cs2 pile n c is
good-more ns ns2 cs cs2 (Block ∷ pile) n c is = good-more ns ns2 cs cs2 pile n c is
good-more ns ns2 cs cs2 (Body ∷ pile) n c is = good-more ns ns2 cs cs2 pile n c is
good-more ns ns2 cs cs2 (Setup ∷ pile) n c is = good-more ns ns2 cs cs2 pile n c is

-- words grow
pub with_word-longer : (words : List (List ℕ)) (word : List ℕ) → length words ≤ length (with_word words word)
with_word-longer words word = by (list_any (bytes_eq word) words)
  where
    by : (b : Bool) → length words ≤ length (cond b words (words ++ word ∷ []))
    by true = omega arith
    by false = omega (arith, length_push words word)

-- a builder's draft with one name more
pub sound-name : (b : Builder) (d : Unfinished) (name : List ℕ) → IsSound b → AddsName b.draft d name → IsSound (record b { draft = d })
sound-name b d name sound adds =
    let pile : piled (things_of b) (in_hand d) ≡ pile_of b = ap (piled (things_of b)) adds.hand in
    let names : d.table.names ≡ with_word b.draft.table.names name = ap (λ t. t.names) adds.table in
    let classes : d.table.classes ≡ b.draft.table.classes = ap (λ t. t.classes) adds.table in
    let types : d.table.types ≡ b.draft.table.types = ap (λ t. t.types) adds.table in
    record {
      matched = rw adds.hand sound.matched;
      good = rw (pile, names, classes) (good-more _ _ _ _ (pile_of b) (with_word-longer b.draft.table.names name) (omega arith) sound.good);
      counts = rw pile sound.counts;
      scopes = rw pile sound.scopes;
      pending = rw pile sound.pending;
      named = rw adds.roots.script_trees sound.named;
      few_types = rw (pile, types) sound.few_types;
    }

-- and what it stands for
pub work-name : (b : Builder) (d : Unfinished) (name : List ℕ) → AddsName b.draft d name → made_of d ≡ with_name (made_of b.draft) name
    → work_of (record b { draft = d }) ≡ numbered name (work_of b)
work-name b d name adds made =
    ap₂ (λ said pile. record { said = said; pile = pile; depth = b.depth }) (ap said_of made) (ap (piled (things_of b)) adds.hand)
