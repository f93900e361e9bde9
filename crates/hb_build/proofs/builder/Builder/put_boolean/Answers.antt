use Rattle.std.proofs.Common.{◌≡◌, ℕ, refl, sym, ◌∙◌, ap, Bool, true, false}
use Rattle.hb_draft.specs.Made.{Made, made_of, boolean_tree, with_node}
use Rattle.hb_draft.specs.Unfinished.{leaf_over}
use Rattle.hb_build.specs.{Acts.boolean, Acts.Fails, Sound.work_of, Sound.things_of}
use Rattle.hb_build.specs.declared.held.Held.TheVariants as held
use Rattle.hb_build.proofs.NodeLemmas.{own-fault, put-answer, is-put, put-said, put-depth}
use Rattle.hb_build.proofs.LeafLemmas.{IsLeaf, below-all, leaf-full, leaf-room, leaf-fails, leaf-goes}
use Rattle.hb_build.proofs.builder.Builder.put_boolean.Goals as goal

is : (b : Bool) → IsLeaf (boolean b)
is true = record { kind = λ id. tt; high = λ id. refl; nodes = λ id. refl; calls = λ id. refl; names = λ id. refl }
is false = record { kind = λ id. tt; high = λ id. refl; nodes = λ id. refl; calls = λ id. refl; names = λ id. refl }

with-same : (m : Made) (place : ℕ × ℕ) (b : Bool) → with_node m place (leaf_over (boolean_tree b)) ≡ with_node m place (leaf_over (boolean b))
with-same m place true = refl
with-same m place false = refl

pub returns-in_err-begins : goal.returns-in_err-begins
returns-in_err-begins c =
    let full = c.in_err-begins.ensures in
    own-fault _ _ _ _ c.from_residual.ensures.1 (leaf-full c.args.spot (boolean c.args.value) (work_of c.args.self.now) full.0 ∙ ap Fails (sym full.1))

pub returns-in_err-completes : goal.returns-in_err-completes
returns-in_err-completes c =
    let b = c.args.self.now in
    own-fault _ _ _ _ c.from_residual-in_err-completes.ensures.1
    (leaf-room c.args.spot (boolean c.args.value) (work_of b) c.in_ok-begins.ensures
    ∙ leaf-fails b c.requires.fits.0 (boolean c.args.value) (is c.args.value) (things_of b) (below-all b c.requires.fits.0) c.args.spot (work_of b) refl c.in_err-completes.field-0.0 c.in_err-completes.ensures)

pub returns : goal.returns
returns c = put-answer _ _ c.put.result c.put.ensures.held c.put.ensures.rest c.put.ensures.memory (λ held_is others.
    let b = c.args.self.now in
    let made = c.in_ok-boolean.ensures.made ∙ with-same (made_of c.args.self.now.draft) c.place.result c.args.value in
    let same = c.in_ok-boolean.ensures.put.table.types in
    let end = leaf-goes b c.requires.fits.0 (boolean c.args.value) (is c.args.value) (things_of b) (below-all b c.requires.fits.0) c.args.spot (work_of b) refl c.in_ok-completes.ensures c.put.new.self
    (is-put b c.put.new.self c.boolean.new.self b.held.items held.Operand _ others held_is c.place.result (leaf_over (boolean c.args.value)) made same)
    c.place.result c.place.ensures
    (put-said b c.put.new.self c.boolean.new.self b.held.items held.Operand _ others held_is c.place.result (leaf_over (boolean c.args.value)) made same)
    (put-depth b c.put.new.self c.boolean.new.self b.held.items held.Operand _ others held_is c.place.result (leaf_over (boolean c.args.value)) made same) in
    (leaf-room c.args.spot (boolean c.args.value) (work_of b) c.in_ok-begins.ensures ∙ end.0, end.1))
