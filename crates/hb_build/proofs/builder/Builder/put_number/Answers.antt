use Rattle.std.proofs.Common.{◌≡◌, ℕ, refl, sym, ◌∙◌, ap, subst, pos}
use Rattle.std.proofs.{Common.w64, Common.rules, lemmas.Int.to_z-of_z}
use mir.Val.{SFits}
use Rattle.hb_lex.specs.Literal.{value_of_number}
use Rattle.hb_tree.specs.Tree.{Tree, TInt}
use Rattle.hb_build.specs.{Acts.Fails, Sound.work_of, Sound.things_of}
use Rattle.hb_build.specs.declared.held.Held.TheVariants as held
use Rattle.hb_build.proofs.NodeLemmas.{own-fault, put-answer, is-put, put-said, put-depth}
use Rattle.hb_build.proofs.LeafLemmas.{IsLeaf, below-all, leaf-full, leaf-room, leaf-fails, leaf-goes, number-small}
use Rattle.hb_draft.specs.{Made.made_of, Made.with_node, Unfinished.leaf_over}
use Rattle.hb_build.proofs.builder.Builder.put_number.Goals as goal

abbrev make : ℕ → ℕ → Tree
make n id = TInt id (pos n)

is : (n : ℕ) → IsLeaf (make n)
is n = record { kind = λ id. tt; high = λ id. refl; nodes = λ id. refl; calls = λ id. refl; names = λ id. refl }

pub number_value-requires-clause-number : goal.number_value-requires-clause-number
number_value-requires-clause-number c = c.requires.token.kind_is

pub number_value-requires-clause-small : goal.number_value-requires-clause-small
number_value-requires-clause-small c = number-small c.args.bytes.now c.requires.token

pub returns-in_err-begins : goal.returns-in_err-begins
returns-in_err-begins c =
    let full = c.in_err-begins.ensures in
    own-fault _ _ _ _ c.from_residual.ensures.1 (leaf-full c.args.spot (make (value_of_number c.args.bytes.now)) (work_of c.args.self.now) full.0 ∙ ap Fails (sym full.1))

pub returns-in_err-completes : goal.returns-in_err-completes
returns-in_err-completes c =
    let b = c.args.self.now in
    own-fault _ _ _ _ c.from_residual-in_err-completes.ensures.1
    (leaf-room c.args.spot (make (value_of_number c.args.bytes.now)) (work_of b) c.in_ok-begins.ensures
    ∙ leaf-fails b c.requires.fits.0 (make (value_of_number c.args.bytes.now)) (is (value_of_number c.args.bytes.now)) (things_of b) (below-all b c.requires.fits.0) c.args.spot
    (work_of b) refl c.in_err-completes.field-0.0 c.in_err-completes.ensures)

pub returns : goal.returns
returns c = put-answer _ _ c.put.result c.put.ensures.held c.put.ensures.rest c.put.ensures.memory (λ held_is others.
    let b = c.args.self.now in
    let fits : SFits w64 c.number_value.result = search rules in
    let made = subst (λ v. made_of c.int.new.self ≡ with_node (made_of b.draft) c.place.result (leaf_over (λ id. TInt id v)))
    (to_z-of_z w64 c.number_value.result fits ∙ c.number_value.ensures) c.in_ok-int.ensures.made in
    let same = c.in_ok-int.ensures.put.table.types in
    let end = leaf-goes b c.requires.fits.0 (make (value_of_number c.args.bytes.now)) (is (value_of_number c.args.bytes.now)) (things_of b) (below-all b c.requires.fits.0) c.args.spot
    (work_of b) refl c.in_ok-completes.ensures c.put.new.self
    (is-put b c.put.new.self c.int.new.self b.held.items held.Operand _ others held_is c.place.result (leaf_over (make (value_of_number c.args.bytes.now))) made same)
    c.place.result c.place.ensures
    (put-said b c.put.new.self c.int.new.self b.held.items held.Operand _ others held_is c.place.result (leaf_over (make (value_of_number c.args.bytes.now))) made same)
    (put-depth b c.put.new.self c.int.new.self b.held.items held.Operand _ others held_is c.place.result (leaf_over (make (value_of_number c.args.bytes.now))) made same) in
    (leaf-room c.args.spot (make (value_of_number c.args.bytes.now)) (work_of b) c.in_ok-begins.ensures ∙ end.0, end.1))
