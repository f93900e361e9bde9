use Rattle.std.proofs.Common.{rules, arith, length, reverse, ◌+◌, ◌∷◌, ◌∙◌}
use Rattle.hb_draft.specs.Unfinished.{unary_over}
use Rattle.hb_build.specs.declared.held.Held.TheVariants as held
use Rattle.hb_build.proofs.NodeLemmas.{own-fault, put-answer, is-put, put-said, put-depth, within, is_over}
use Rattle.hb_build.proofs.UnaryLemmas.{one-part, first-height}
use Rattle.hb_build.proofs.AssignLemmas.{assign, assign-top, retop, assign-fails, assign-goes, value, known}
use Rattle.hb_build.proofs.builder.Builder.put_assign.Goals as goal

pub drop_top-requires : goal.drop_top-requires
drop_top-requires c =
    let t = assign-top c.args.self.now c.requires.fits.1 in
    (held.Operand, held.Target t.x t.spot ∷ t.rest, t.things_are)

pub take_target-requires : goal.take_target-requires
take_target-requires c =
    let t = assign-top c.args.self.now c.requires.fits.1 in
    (t.x, t.spot, t.rest, c.drop_top.ensures held.Operand (held.Target t.x t.spot ∷ t.rest) t.things_are)

pub height-requires : goal.height-requires
height-requires c =
    let t = assign-top c.args.self.now c.requires.fits.1 in
    rw t.hand_is (search rules)

pub returns-in_err-completes : goal.returns-in_err-completes
returns-in_err-completes c =
    let b = c.args.self.now in
    let t = assign-top b c.requires.fits.1 in
    let u = retop b t _ (reverse c.take_target.new.held.items) c.take_target.result.0 c.take_target.result.1 (c.drop_top.ensures held.Operand (held.Target t.x t.spot ∷ t.rest) t.things_are) c.take_target.ensures in
    own-fault _ _ _ _ c.from_residual.ensures.1
    (assign-fails b c.requires.fits.0 u c.height.result (first-height _ _ _ _ u.hand_is c.height.ensures) c.in_err-completes.field-0.0 c.in_err-completes.ensures)

pub assign-requires-clause-parts : goal.assign-requires-clause-parts
assign-requires-clause-parts c =
    let b = c.args.self.now in
    let t = assign-top b c.requires.fits.1 in
    let u = retop b t _ (reverse c.take_target.new.held.items) c.take_target.result.0 c.take_target.result.1 (c.drop_top.ensures held.Operand (held.Target t.x t.spot ∷ t.rest) t.things_are) c.take_target.ensures in
    let limits = within (1 + c.height.result) (length b.draft.table.nodes) (is_over b.scope) u.spot.at c.in_ok-completes.ensures in
    let low = first-height _ _ _ _ u.hand_is c.height.ensures in
    one-part _ u.e u.others u.hand_is (value b c.requires.fits.0 u c.height.result low) (omega (arith, limits.low, low))

pub assign-requires-clause-name : goal.assign-requires-clause-name
assign-requires-clause-name c =
    let b = c.args.self.now in
    let t = assign-top b c.requires.fits.1 in
    let u = retop b t _ (reverse c.take_target.new.held.items) c.take_target.result.0 c.take_target.result.1 (c.drop_top.ensures held.Operand (held.Target t.x t.spot ∷ t.rest) t.things_are) c.take_target.ensures in
    known b c.requires.fits.0 u c.height.result (first-height _ _ _ _ u.hand_is c.height.ensures)

pub returns : goal.returns
returns c = put-answer _ _ c.put.result c.put.ensures.held c.put.ensures.rest c.put.ensures.memory (λ held_is others.
    let b = c.args.self.now in
    let t = assign-top b c.requires.fits.1 in
    let u = retop b t _ (reverse c.take_target.new.held.items) c.take_target.result.0 c.take_target.result.1 (c.drop_top.ensures held.Operand (held.Target t.x t.spot ∷ t.rest) t.things_are) c.take_target.ensures in
    let made = c.in_ok-assign.ensures.made in
    let same = c.in_ok-assign.ensures.put.table.types in
    let over = unary_over (assign u.x.0) in
    assign-goes b c.requires.fits.0 u c.height.result (first-height _ _ _ _ u.hand_is c.height.ensures) c.in_ok-completes.ensures c.put.new.self
    (is-put b c.put.new.self c.assign.new.self c.take_target.new.held.items held.Operand _ others held_is c.place.result over made same)
    c.place.result c.place.ensures
    (put-said b c.put.new.self c.assign.new.self c.take_target.new.held.items held.Operand _ others held_is c.place.result over made same)
    (put-depth b c.put.new.self c.assign.new.self c.take_target.new.held.items held.Operand _ others held_is c.place.result over made same ∙ c.saturating_sub-self.ensures))
