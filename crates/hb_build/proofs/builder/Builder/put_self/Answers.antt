use Rattle.std.proofs.Common.{refl, sym, ◌∙◌, ap}
use Rattle.hb_tree.specs.Tree.{TSelf}
use Rattle.hb_draft.specs.Unfinished.{leaf_over}
use Rattle.hb_build.specs.{Acts.Fails, Sound.work_of, Sound.things_of}
use Rattle.hb_build.specs.declared.held.Held.TheVariants as held
use Rattle.hb_build.proofs.NodeLemmas.{own-fault, put-answer, is-put, put-said, put-depth}
use Rattle.hb_build.proofs.LeafLemmas.{IsLeaf, below-all, leaf-full, leaf-room, leaf-fails, leaf-goes}
use Rattle.hb_build.proofs.builder.Builder.put_self.Goals as goal

is : IsLeaf TSelf
is = record { kind = λ id. tt; high = λ id. refl; nodes = λ id. refl; calls = λ id. refl; names = λ id. refl }

pub returns-in_err-begins : goal.returns-in_err-begins
returns-in_err-begins c =
    let full = c.in_err-begins.ensures in
    own-fault _ _ _ _ c.from_residual.ensures.1 (leaf-full c.args.spot TSelf (work_of c.args.self.now) full.0 ∙ ap Fails (sym full.1))

pub returns-in_err-completes : goal.returns-in_err-completes
returns-in_err-completes c =
    let b = c.args.self.now in
    own-fault _ _ _ _ c.from_residual-in_err-completes.ensures.1
    (leaf-room c.args.spot TSelf (work_of b) c.in_ok-begins.ensures
    ∙ leaf-fails b c.requires.fits.0 TSelf is (things_of b) (below-all b c.requires.fits.0) c.args.spot (work_of b) refl c.in_err-completes.field-0.0 c.in_err-completes.ensures)

pub returns : goal.returns
returns c = put-answer _ _ c.put.result c.put.ensures.held c.put.ensures.rest c.put.ensures.memory (λ held_is others.
    let b = c.args.self.now in
    let made = c.in_ok-self_ref.ensures.made in
    let same = c.in_ok-self_ref.ensures.put.table.types in
    let end = leaf-goes b c.requires.fits.0 TSelf is (things_of b) (below-all b c.requires.fits.0) c.args.spot (work_of b) refl c.in_ok-completes.ensures c.put.new.self
    (is-put b c.put.new.self c.self_ref.new.self b.held.items held.Operand _ others held_is c.place.result (leaf_over TSelf) made same)
    c.place.result c.place.ensures
    (put-said b c.put.new.self c.self_ref.new.self b.held.items held.Operand _ others held_is c.place.result (leaf_over TSelf) made same)
    (put-depth b c.put.new.self c.self_ref.new.self b.held.items held.Operand _ others held_is c.place.result (leaf_over TSelf) made same) in
    (leaf-room c.args.spot TSelf (work_of b) c.in_ok-begins.ensures ∙ end.0, end.1))
