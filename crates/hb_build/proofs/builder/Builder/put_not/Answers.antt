use Rattle.std.proofs.Common.{rules, arith, length, ◌+◌, ◌∷◌, refl, ◌∙◌}
use Rattle.hb_tree.specs.Tree.{TNot}
use Rattle.hb_draft.specs.Unfinished.{unary_over}
use Rattle.hb_build.specs.{Acts.complete, Acts.closed, Pile.Operand, Sound.work_of}
use Rattle.hb_build.specs.declared.held.Held.TheVariants as held
use Rattle.hb_build.proofs.NodeLemmas.{own-fault, put-answer, is-put, put-said, put-depth, within, is_over}
use Rattle.hb_build.proofs.UnaryLemmas.{unary-top, retop, IsUnary, one-part, first-height, unary-fails, unary-goes, part}
use Rattle.hb_build.proofs.builder.Builder.put_not.Goals as goal

is : IsUnary TNot
is = record { kind = λ id e. tt; high = λ id e. refl; nodes = λ id e. refl; calls = λ id e. refl; names = λ id e. refl }

pub drop_top-requires : goal.drop_top-requires
drop_top-requires c =
    let t = unary-top c.args.self.now (λ e q pile. complete q (λ id. TNot id e) Operand pile (closed (work_of c.args.self.now))) c.requires.fits.1 in
    (held.Operand, held.Own t.spot ∷ t.rest, t.things_are)

pub take_own-spot-requires : goal.take_own-spot-requires
take_own-spot-requires c =
    let t = unary-top c.args.self.now (λ e q pile. complete q (λ id. TNot id e) Operand pile (closed (work_of c.args.self.now))) c.requires.fits.1 in
    (t.spot, t.rest, c.drop_top.ensures held.Operand (held.Own t.spot ∷ t.rest) t.things_are)

pub height-requires : goal.height-requires
height-requires c =
    let t = unary-top c.args.self.now (λ e q pile. complete q (λ id. TNot id e) Operand pile (closed (work_of c.args.self.now))) c.requires.fits.1 in
    rw t.hand_is (search rules)

pub returns-in_err-completes : goal.returns-in_err-completes
returns-in_err-completes c =
    let t = unary-top c.args.self.now (λ e q pile. complete q (λ id. TNot id e) Operand pile (closed (work_of c.args.self.now))) c.requires.fits.1 in
    let u = retop c.args.self.now t _ _ _ (c.drop_top.ensures held.Operand (held.Own t.spot ∷ t.rest) t.things_are) c.take_own-spot.ensures in
    own-fault _ _ _ _ c.from_residual.ensures.1
    (unary-fails c.args.self.now c.requires.fits.0 TNot is u (closed (work_of c.args.self.now)) refl c.height.result
    (first-height _ _ _ _ u.hand_is c.height.ensures) c.in_err-completes.field-0.0 c.in_err-completes.ensures)

pub not-requires-clause-parts : goal.not-requires-clause-parts
not-requires-clause-parts c =
    let t = unary-top c.args.self.now (λ e q pile. complete q (λ id. TNot id e) Operand pile (closed (work_of c.args.self.now))) c.requires.fits.1 in
    let u = retop c.args.self.now t _ _ _ (c.drop_top.ensures held.Operand (held.Own t.spot ∷ t.rest) t.things_are) c.take_own-spot.ensures in
    let limits = within (1 + c.height.result) (length c.args.self.now.draft.table.nodes) (is_over c.args.self.now.scope) c.take_own-spot.result.at c.in_ok-completes.ensures in
    let low = first-height _ _ _ _ u.hand_is c.height.ensures in
    one-part _ u.e u.others u.hand_is (part c.args.self.now c.requires.fits.0 TNot is u (closed (work_of c.args.self.now)) refl c.height.result (first-height _ _ _ _ u.hand_is c.height.ensures))
    (omega (arith, limits.low, low))

pub returns : goal.returns
returns c = put-answer _ _ c.put.result c.put.ensures.held c.put.ensures.rest c.put.ensures.memory (λ held_is rest.
    let t = unary-top c.args.self.now (λ e q pile. complete q (λ id. TNot id e) Operand pile (closed (work_of c.args.self.now))) c.requires.fits.1 in
    let u = retop c.args.self.now t _ _ _ (c.drop_top.ensures held.Operand (held.Own t.spot ∷ t.rest) t.things_are) c.take_own-spot.ensures in
    let made = c.in_ok-not.ensures.made in
    let same = c.in_ok-not.ensures.put.table.types in
    unary-goes c.args.self.now c.requires.fits.0 TNot is u (closed (work_of c.args.self.now)) refl c.height.result (first-height _ _ _ _ u.hand_is c.height.ensures) c.in_ok-completes.ensures c.put.new.self
    (is-put c.args.self.now c.put.new.self c.not.new.self c.take_own-spot.new.held.items held.Operand _ rest held_is c.place.result (unary_over TNot) made same)
    c.place.result c.place.ensures
    (put-said c.args.self.now c.put.new.self c.not.new.self c.take_own-spot.new.held.items held.Operand _ rest held_is c.place.result (unary_over TNot) made same)
    (put-depth c.args.self.now c.put.new.self c.not.new.self c.take_own-spot.new.held.items held.Operand _ rest held_is c.place.result (unary_over TNot) made same ∙ c.saturating_sub-self.ensures))
