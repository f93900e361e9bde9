use Rattle.std.proofs.Common.{◌≡◌, length, sym, ap, ◌∙◌, inl, arith, true, false}
use Rattle.std.specs.{Prelude.nat_le, Prelude.bytes_eq, List.list_any}
use Rattle.std.proofs.{lemmas.Bool.cond-true, lemmas.Bool.cond-false, lemmas.Bool.Decides.nat_tests}
use Rattle.hb_tree.specs.declared.limits.TheConstants.{CLASSES_MAX}
use Rattle.hb_build.specs.Acts.{Goes}
use Rattle.hb_build.proofs.{SpellingLemmas.IsClassName-of_kind, ClassLemmas.found-any, ClassLemmas.sound-class, ClassLemmas.work-class}
use Rattle.hb_build.proofs.builder.Builder.declare_class.Goals as goal

pub returns-then-is_some : goal.returns-then-is_some
returns-then-is_some c =
    inl (cond-true _ _ _ (sym (found-any c.args.bytes.now c.args.self.now.draft.table.classes c.find_class.result c.find_class.ensures) ∙ sym c.if-is_some.ensures))

pub returns-then-classes-ge-CLASSES_MAX : goal.returns-then-classes-ge-CLASSES_MAX
returns-then-classes-ge-CLASSES_MAX c =
    let none : list_any (bytes_eq c.args.bytes.now) c.args.self.now.draft.table.classes ≡ false =
    sym (found-any c.args.bytes.now c.args.self.now.draft.table.classes c.find_class.result c.find_class.ensures) ∙ sym c.if-is_some.ensures in
    let many = c.if-classes-ge-CLASSES_MAX.true in
    let count = c.classes.ensures in
    let full : nat_le CLASSES_MAX (length c.args.self.now.draft.table.classes) ≡ true = grind (arith, nat_tests) in
    inl (cond-false _ _ _ none ∙ cond-true _ _ _ full)

pub class-requires-clause-word : goal.class-requires-clause-word
class-requires-clause-word c = IsClassName-of_kind c.args.bytes.now c.requires.token

pub class-requires-clause-fresh : goal.class-requires-clause-fresh
class-requires-clause-fresh c = sym (found-any c.args.bytes.now c.args.self.now.draft.table.classes c.find_class.result c.find_class.ensures) ∙ sym c.if-is_some.ensures

pub returns : goal.returns
returns c =
    let old = c.args.self.now in
    let none : list_any (bytes_eq c.args.bytes.now) old.draft.table.classes ≡ false =
    sym (found-any c.args.bytes.now old.draft.table.classes c.find_class.result c.find_class.ensures) ∙ sym c.if-is_some.ensures in
    let few = c.if-classes-ge-CLASSES_MAX.false in
    let count = c.classes.ensures in
    let room : nat_le CLASSES_MAX (length old.draft.table.classes) ≡ false = grind (arith, nat_tests) in (
      cond-false _ _ _ none ∙ cond-false _ _ _ room
          ∙ ap Goes (sym (work-class old c.class.new.self c.args.bytes.now c.in_ok-class.ensures.class c.in_ok-class.ensures.made)),
      sound-class old c.class.new.self c.args.bytes.now c.requires.fits.0 c.in_ok-class.ensures.class,
    )
