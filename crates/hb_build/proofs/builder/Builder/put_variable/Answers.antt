use Rattle.std.proofs.Common.{◌∷◌, ℕ, List, refl, reverse, ◌∙◌, ap}
use Rattle.hb_tree.specs.Tree.{Tree, TVar}
use Rattle.hb_draft.specs.Unfinished.{leaf_over, in_hand}
use Rattle.hb_build.specs.{Acts.complete, Acts.with_name, Pile.Slot, Pile.Operand, Sound.work_of, Sound.things_of}
use Rattle.hb_build.specs.declared.held.Held.TheVariants as held
use Rattle.hb_build.proofs.TakeLemmas.{top-name}
use Rattle.hb_build.proofs.NodeLemmas.{own-fault, put-answer, is-put, put-said, put-depth}
use Rattle.hb_build.proofs.LeafLemmas.{IsLeaf, below-word, known-word, topped, leaf-fails, leaf-goes}
use Rattle.hb_build.proofs.builder.Builder.put_variable.Goals as goal

abbrev make : ℕ → ℕ → Tree
make x id = TVar id x

is : (x : ℕ) → IsLeaf (make x)
is x = record { kind = λ id. tt; high = λ id. refl; nodes = λ id. refl; calls = λ id. refl; names = λ id. refl }

pub take_word-requires : goal.take_word-requires
take_word-requires c =
    let t = top-name (things_of c.args.self.now) (in_hand c.args.self.now.draft) (λ x q pile. complete q (make x) Operand pile (work_of c.args.self.now)) c.requires.fits.1 in
    (t.1, t.2, t.0, t.3)

pub returns-in_err-completes : goal.returns-in_err-completes
returns-in_err-completes c =
    let b = c.args.self.now in
    let x = c.take_word.result.0 in
    let p = c.take_word.result.1 in
    let rest = reverse c.take_word.new.held.items in
    let below = below-word b c.requires.fits.0 x p rest c.take_word.ensures in
    let answer-is = ap (λ (y : List Slot). with_name y (λ x q pile. complete q (make x) Operand pile (work_of b))) (topped b (held.Word x p ∷ rest) c.take_word.ensures) in
    own-fault _ _ _ _ c.from_residual.ensures.1
    (answer-is ∙ leaf-fails b c.requires.fits.0 (make x.0) (is x.0) rest below p (work_of b) refl c.in_err-completes.field-0.0 c.in_err-completes.ensures)

pub var-requires-clause-name : goal.var-requires-clause-name
var-requires-clause-name c =
    known-word c.args.self.now c.requires.fits.0 c.take_word.result.0 c.take_word.result.1 (reverse c.take_word.new.held.items) c.take_word.ensures

pub returns : goal.returns
returns c = put-answer _ _ c.put.result c.put.ensures.held c.put.ensures.rest c.put.ensures.memory (λ held_is others.
    let b = c.args.self.now in
    let x = c.take_word.result.0 in
    let p = c.take_word.result.1 in
    let rest = reverse c.take_word.new.held.items in
    let below = below-word b c.requires.fits.0 x p rest c.take_word.ensures in
    let answer-is = ap (λ (y : List Slot). with_name y (λ x q pile. complete q (make x) Operand pile (work_of b))) (topped b (held.Word x p ∷ rest) c.take_word.ensures) in
    let made = c.in_ok-var.ensures.made in
    let same = c.in_ok-var.ensures.put.table.types in
    let end = leaf-goes b c.requires.fits.0 (make x.0) (is x.0) rest below p (work_of b) refl c.in_ok-completes.ensures c.put.new.self
    (is-put b c.put.new.self c.var.new.self c.take_word.new.held.items held.Operand _ others held_is c.place.result (leaf_over (make x.0)) made same)
    c.place.result c.place.ensures
    (put-said b c.put.new.self c.var.new.self c.take_word.new.held.items held.Operand _ others held_is c.place.result (leaf_over (make x.0)) made same)
    (put-depth b c.put.new.self c.var.new.self c.take_word.new.held.items held.Operand _ others held_is c.place.result (leaf_over (make x.0)) made same) in
    (answer-is ∙ end.0, end.1))
