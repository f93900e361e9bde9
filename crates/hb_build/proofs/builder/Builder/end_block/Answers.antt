use Rattle.std.proofs.Common.{length, ◌+◌, ◌∷◌, List, refl, ◌∙◌, sym, ap, reverse}
use Rattle.hb_tree.specs.Tree.{TBlock}
use Rattle.hb_draft.specs.Unfinished.{block_over, forest_of}
use Rattle.hb_build.specs.{Acts.complete, Pile.Closed, Pile.items_on, Sound.work_of, Sound.pile_of}
use Rattle.hb_build.specs.declared.held.Held.{Held}
use Rattle.hb_build.specs.declared.held.Held.TheVariants as held
use Rattle.hb_build.proofs.NodeLemmas.{own-fault, put-answer, is-put, put-said, put-depth, within, is_over}
use Rattle.hb_build.proofs.StepLemmas.{step-fails, step-goes}
use Rattle.hb_build.proofs.BlockLemmas.{run-is, cut-is, few-items, block-top, block-step, block-parts}
use Rattle.hb_build.proofs.builder.Builder.end_block.Goals as goal

pub drop_top-requires : goal.drop_top-requires
drop_top-requires c =
    let run = run-is held.Item c.run_of-count.result c.deref.result.now c.args.self.now.held.items c.deref.ensures.value c.run_of-count.ensures.within c.run_of-count.ensures.same c.run_of-count.ensures.ends in
    let t = block-top c.args.self.now c.requires.fits.0 c.run_of-count.result run
    (λ pile. complete c.args.spot (λ id. TBlock id (forest_of (items_on (pile_of c.args.self.now)))) Closed pile (work_of c.args.self.now)) c.requires.fits.1 in
    let cut = cut-is c.run_of-count.result c.args.self.now.held.items c.truncate.new.self.items c.deref.result.now c.len.result c.deref.ensures.value c.run_of-count.ensures.within
    (c.len.ensures ∙ sym c.deref.ensures.len) c.truncate.ensures.items in
    (held.Block, t.0, cut ∙ t.1)

pub highest-requires : goal.highest-requires
highest-requires c =
    let run = run-is held.Item c.run_of-count.result c.deref.result.now c.args.self.now.held.items c.deref.ensures.value c.run_of-count.ensures.within c.run_of-count.ensures.same c.run_of-count.ensures.ends in
    let t = block-top c.args.self.now c.requires.fits.0 c.run_of-count.result run
    (λ pile. complete c.args.spot (λ id. TBlock id (forest_of (items_on (pile_of c.args.self.now)))) Closed pile (work_of c.args.self.now)) c.requires.fits.1 in
    let cut = cut-is c.run_of-count.result c.args.self.now.held.items c.truncate.new.self.items c.deref.result.now c.len.result c.deref.ensures.value c.run_of-count.ensures.within
    (c.len.ensures ∙ sym c.deref.ensures.len) c.truncate.ensures.items in
    few-items c.args.self.now c.requires.fits.0 c.run_of-count.result run

pub returns-in_err-completes : goal.returns-in_err-completes
returns-in_err-completes c =
    let run = run-is held.Item c.run_of-count.result c.deref.result.now c.args.self.now.held.items c.deref.ensures.value c.run_of-count.ensures.within c.run_of-count.ensures.same c.run_of-count.ensures.ends in
    let t = block-top c.args.self.now c.requires.fits.0 c.run_of-count.result run
    (λ pile. complete c.args.spot (λ id. TBlock id (forest_of (items_on (pile_of c.args.self.now)))) Closed pile (work_of c.args.self.now)) c.requires.fits.1 in
    let cut = cut-is c.run_of-count.result c.args.self.now.held.items c.truncate.new.self.items c.deref.result.now c.len.result c.deref.ensures.value c.run_of-count.ensures.within
    (c.len.ensures ∙ sym c.deref.ensures.len) c.truncate.ensures.items in
    own-fault _ _ _ _ c.from_residual.ensures.1
    (step-fails c.args.self.now c.requires.fits.0 _ c.args.spot c.highest.result (work_of c.args.self.now) _ _
    (block-step c.args.self.now c.requires.fits.0 c.run_of-count.result run c.args.spot (reverse c.drop_top.new.held.items)
    (t.1 ∙ ap (λ (x : List Held). held.Block ∷ x) (sym (c.drop_top.ensures held.Block t.0 (cut ∙ t.1)))) (work_of c.args.self.now) refl c.highest.result c.highest.ensures)
    c.in_err-completes.field-0.0 c.in_err-completes.ensures)

pub block-requires-clause-parts : goal.block-requires-clause-parts
block-requires-clause-parts c =
    let run = run-is held.Item c.run_of-count.result c.deref.result.now c.args.self.now.held.items c.deref.ensures.value c.run_of-count.ensures.within c.run_of-count.ensures.same c.run_of-count.ensures.ends in
    let t = block-top c.args.self.now c.requires.fits.0 c.run_of-count.result run
    (λ pile. complete c.args.spot (λ id. TBlock id (forest_of (items_on (pile_of c.args.self.now)))) Closed pile (work_of c.args.self.now)) c.requires.fits.1 in
    let cut = cut-is c.run_of-count.result c.args.self.now.held.items c.truncate.new.self.items c.deref.result.now c.len.result c.deref.ensures.value c.run_of-count.ensures.within
    (c.len.ensures ∙ sym c.deref.ensures.len) c.truncate.ensures.items in
    let limits = within (1 + c.highest.result) (length c.args.self.now.draft.table.nodes) (is_over c.args.self.now.scope) c.args.spot.at c.in_ok-completes.ensures in
    let low = limits.low in
    block-parts c.args.self.now c.requires.fits.0 c.run_of-count.result run c.args.spot (reverse c.drop_top.new.held.items)
    (t.1 ∙ ap (λ (x : List Held). held.Block ∷ x) (sym (c.drop_top.ensures held.Block t.0 (cut ∙ t.1)))) (work_of c.args.self.now) refl c.highest.result c.highest.ensures low

pub returns : goal.returns
returns c = put-answer _ _ c.put.result c.put.ensures.held c.put.ensures.rest c.put.ensures.memory (λ held_is rest.
    let run = run-is held.Item c.run_of-count.result c.deref.result.now c.args.self.now.held.items c.deref.ensures.value c.run_of-count.ensures.within c.run_of-count.ensures.same c.run_of-count.ensures.ends in
    let t = block-top c.args.self.now c.requires.fits.0 c.run_of-count.result run
    (λ pile. complete c.args.spot (λ id. TBlock id (forest_of (items_on (pile_of c.args.self.now)))) Closed pile (work_of c.args.self.now)) c.requires.fits.1 in
    let cut = cut-is c.run_of-count.result c.args.self.now.held.items c.truncate.new.self.items c.deref.result.now c.len.result c.deref.ensures.value c.run_of-count.ensures.within
    (c.len.ensures ∙ sym c.deref.ensures.len) c.truncate.ensures.items in
    let made = c.in_ok-block.ensures.made in
    let same = c.in_ok-block.ensures.put.table.types in
    step-goes c.args.self.now c.requires.fits.0 _ c.args.spot c.highest.result (work_of c.args.self.now) _ _
    (block-step c.args.self.now c.requires.fits.0 c.run_of-count.result run c.args.spot (reverse c.drop_top.new.held.items)
    (t.1 ∙ ap (λ (x : List Held). held.Block ∷ x) (sym (c.drop_top.ensures held.Block t.0 (cut ∙ t.1)))) (work_of c.args.self.now) refl c.highest.result c.highest.ensures)
    c.in_ok-completes.ensures c.put.new.self
    (is-put c.args.self.now c.put.new.self c.block.new.self c.drop_top.new.held.items held.Closed _ rest held_is c.place.result (block_over c.run_of-count.result) made same)
    c.place.result c.place.ensures
    (put-said c.args.self.now c.put.new.self c.block.new.self c.drop_top.new.held.items held.Closed _ rest held_is c.place.result (block_over c.run_of-count.result) made same)
    (put-depth c.args.self.now c.put.new.self c.block.new.self c.drop_top.new.held.items held.Closed _ rest held_is c.place.result (block_over c.run_of-count.result) made same))
