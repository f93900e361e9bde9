use Rattle.std.proofs.Common.{◌≡◌, ℕ, List, refl, sym, ◌∙◌, ap, subst}
use Rattle.hb_lex.specs.Literal.{value_of_text}
use Rattle.hb_tree.specs.Spelling.{IsText}
use Rattle.hb_draft.specs.Made.{made_of, with_text}
use Rattle.hb_build.proofs.{NodeLemmas.own-fault, NodeLemmas.put-answer, SpellingLemmas.IsText-of_kind}
use Rattle.hb_build.specs.{Acts.Work, Acts.Fails, Sound.work_of, Sound.things_of}
use Rattle.hb_build.proofs.LeafLemmas.{IsLeaf, below-all, leaf-full, leaf-room, leaf-fails, leaf-goes, texted, text-leaf, text-put, text-said, text-depth}
use Rattle.hb_build.proofs.builder.Builder.put_text.Goals as goal

is : (value : List ℕ) (w : Work) → IsLeaf (text-leaf value w)
is value w = record { kind = λ id. tt; high = λ id. refl; nodes = λ id. refl; calls = λ id. refl; names = λ id. refl }

pub text_value-requires : goal.text_value-requires
text_value-requires c = c.requires.token.kind_is

pub returns-in_err-begins : goal.returns-in_err-begins
returns-in_err-begins c =
    let full = c.in_err-begins.ensures in
    let value = value_of_text c.args.bytes.now in
    let w = work_of c.args.self.now in
    own-fault _ _ _ _ c.from_residual.ensures.1 (leaf-full c.args.spot (text-leaf value w) (texted value w) full.0 ∙ ap Fails (sym full.1))

pub returns-in_err-completes : goal.returns-in_err-completes
returns-in_err-completes c =
    let b = c.args.self.now in
    let value = value_of_text c.args.bytes.now in
    let make = text-leaf value (work_of b) in
    own-fault _ _ _ _ c.from_residual-in_err-completes.ensures.1
    (leaf-room c.args.spot make (texted value (work_of b)) c.in_ok-begins.ensures
    ∙ leaf-fails b c.requires.fits.0 make (is value (work_of b)) (things_of b) (below-all b c.requires.fits.0) c.args.spot (texted value (work_of b)) refl c.in_err-completes.field-0.0 c.in_err-completes.ensures)

pub text-requires-clause-value : goal.text-requires-clause-value
text-requires-clause-value c = subst IsText (sym (c.deref.ensures.value ∙ c.in_ok-value.ensures)) (IsText-of_kind c.args.bytes.now c.requires.token)

pub returns : goal.returns
returns c = put-answer _ _ c.put.result c.put.ensures.held c.put.ensures.rest c.put.ensures.memory (λ held_is others.
    let b = c.args.self.now in
    let value = value_of_text c.args.bytes.now in
    let make = text-leaf value (work_of b) in
    let made = subst (λ v. made_of c.text.new.self ≡ with_text (made_of b.draft) c.place.result v) (c.deref.ensures.value ∙ c.in_ok-value.ensures) c.in_ok-text.ensures.made in
    let same = c.in_ok-text.ensures.put.table.types in
    let end = leaf-goes b c.requires.fits.0 make (is value (work_of b)) (things_of b) (below-all b c.requires.fits.0) c.args.spot (texted value (work_of b)) refl c.in_ok-completes.ensures c.put.new.self
    (text-put b c.put.new.self c.text.new.self value others held_is c.place.result made same)
    c.place.result c.place.ensures
    (text-said b c.put.new.self c.text.new.self value others held_is c.place.result made same)
    (text-depth b c.put.new.self c.text.new.self value others held_is c.place.result made same) in
    (leaf-room c.args.spot make (texted value (work_of b)) c.in_ok-begins.ensures ∙ end.0, end.1))
