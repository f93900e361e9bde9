use Rattle.std.proofs.Common.{◌∷◌, ℕ, List, refl, reverse, ◌∙◌, ap}
use Rattle.hb_tree.specs.Tree.{Tree, TNew}
use Rattle.hb_draft.specs.Unfinished.{leaf_over, in_hand}
use Rattle.hb_build.specs.{Acts.complete, Acts.with_class, Pile.Slot, Pile.Operand, Sound.work_of, Sound.things_of}
use Rattle.hb_build.specs.declared.held.Held.TheVariants as held
use Rattle.hb_build.proofs.TakeLemmas.{top-class}
use Rattle.hb_build.proofs.NodeLemmas.{own-fault, put-answer, is-put, put-said, put-depth}
use Rattle.hb_build.proofs.LeafLemmas.{IsLeaf, below-class, known-class, topped, leaf-fails, leaf-goes}
use Rattle.hb_build.proofs.builder.Builder.put_new.Goals as goal

abbrev make : ℕ → ℕ → Tree
make x id = TNew id x

is : (x : ℕ) → IsLeaf (make x)
is x = record { kind = λ id. tt; high = λ id. refl; nodes = λ id. refl; calls = λ id. refl; names = λ id. refl }

pub take_class-requires : goal.take_class-requires
take_class-requires c =
    let t = top-class (things_of c.args.self.now) (in_hand c.args.self.now.draft) (λ x q pile. complete q (make x) Operand pile (work_of c.args.self.now)) c.requires.fits.1 in
    (t.1, t.2, t.0, t.3)

pub returns-in_err-completes : goal.returns-in_err-completes
returns-in_err-completes c =
    let b = c.args.self.now in
    let x = c.take_class.result.0 in
    let p = c.take_class.result.1 in
    let rest = reverse c.take_class.new.held.items in
    let below = below-class b c.requires.fits.0 x p rest c.take_class.ensures in
    let answer-is = ap (λ (y : List Slot). with_class y (λ x q pile. complete q (make x) Operand pile (work_of b))) (topped b (held.Class x p ∷ rest) c.take_class.ensures) in
    own-fault _ _ _ _ c.from_residual.ensures.1
    (answer-is ∙ leaf-fails b c.requires.fits.0 (make x.0) (is x.0) rest below p (work_of b) refl c.in_err-completes.field-0.0 c.in_err-completes.ensures)

pub new_object-requires-clause-class : goal.new_object-requires-clause-class
new_object-requires-clause-class c =
    known-class c.args.self.now c.requires.fits.0 c.take_class.result.0 c.take_class.result.1 (reverse c.take_class.new.held.items) c.take_class.ensures

pub returns : goal.returns
returns c = put-answer _ _ c.put.result c.put.ensures.held c.put.ensures.rest c.put.ensures.memory (λ held_is others.
    let b = c.args.self.now in
    let x = c.take_class.result.0 in
    let p = c.take_class.result.1 in
    let rest = reverse c.take_class.new.held.items in
    let below = below-class b c.requires.fits.0 x p rest c.take_class.ensures in
    let answer-is = ap (λ (y : List Slot). with_class y (λ x q pile. complete q (make x) Operand pile (work_of b))) (topped b (held.Class x p ∷ rest) c.take_class.ensures) in
    let made = c.in_ok-new_object.ensures.made in
    let same = c.in_ok-new_object.ensures.put.table.types in
    let end = leaf-goes b c.requires.fits.0 (make x.0) (is x.0) rest below p (work_of b) refl c.in_ok-completes.ensures c.put.new.self
    (is-put b c.put.new.self c.new_object.new.self c.take_class.new.held.items held.Operand _ others held_is c.place.result (leaf_over (make x.0)) made same)
    c.place.result c.place.ensures
    (put-said b c.put.new.self c.new_object.new.self c.take_class.new.held.items held.Operand _ others held_is c.place.result (leaf_over (make x.0)) made same)
    (put-depth b c.put.new.self c.new_object.new.self c.take_class.new.held.items held.Operand _ others held_is c.place.result (leaf_over (make x.0)) made same) in
    (answer-is ∙ end.0, end.1))
