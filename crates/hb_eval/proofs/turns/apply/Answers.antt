use Rattle.std.proofs.Common.{refl, ◌+◌, ℕ, sym, subst}
use Rattle.hb_eval.specs.Holding.{Holding, frames_of}
use Rattle.hb_eval.proofs.HoldingLemmas.{holding_apart}
use Rattle.hb_eval.proofs.ApplyLemmas.{nothing_kept, on_ok, quiet_turned}
use Rattle.hb_eval.proofs.GatheringLemmas.{shares_quiet, shares_turned}
use Rattle.hb_eval.proofs.turns.apply.Goals as goal

pub returns-in_ok-assign-in-Assign-clause-turned : goal.returns-in_ok-assign-in-Assign-clause-turned
returns-in_ok-assign-in-Assign-clause-turned g c =
    rw c.in-Assign.is (quiet_turned c.args.prog.now _ _ _ _ c.args.frames.now.items c.args.state.now c.assign.new.state c.in_ok-assign-in-Assign.field-0 _ _ c.take.result c.take.ensures.took (refl, refl) c.in_ok-assign-in-Assign.ensures.moves c.in_ok-assign-in-Assign.ensures.plain c.in_ok-assign-in-Assign.ensures.light c.assign.ensures.steady (c.in_ok-assign-in-Assign.ensures.known c.requires.ready.known.state))

pub returns-in-Not-clause-turned : goal.returns-in-Not-clause-turned
returns-in-Not-clause-turned g c =
    rw c.in-Not.is (quiet_turned c.args.prog.now _ _ _ _ c.args.frames.now.items c.args.state.now c.not.new.state c.not.result _ _ c.take-in-Not.result c.take-in-Not.ensures.took (refl, refl) c.not.ensures.moves c.not.ensures.plain c.not.ensures.light c.not.ensures.steady (c.not.ensures.known c.requires.ready.known.state))

pub returns-in_ok-left-in-Left-clause-turned : goal.returns-in_ok-left-in-Left-clause-turned
returns-in_ok-left-in-Left-clause-turned g c =
    rw c.in-Left.is (quiet_turned c.args.prog.now _ _ _ _ c.args.frames.now.items c.args.state.now c.left.new.state c.in_ok-left-in-Left.field-0 _ _ c.take-in-Left.result c.take-in-Left.ensures.took (refl, refl) c.in_ok-left-in-Left.ensures.moves c.in_ok-left-in-Left.ensures.plain c.in_ok-left-in-Left.ensures.light c.left.ensures.steady (c.in_ok-left-in-Left.ensures.known c.requires.ready.known.state))

pub returns-in_ok-right-in-Right-clause-turned : goal.returns-in_ok-right-in-Right-clause-turned
returns-in_ok-right-in-Right-clause-turned g c =
    rw c.in-Right.is (quiet_turned c.args.prog.now _ _ _ _ c.args.frames.now.items c.args.state.now c.right.new.state c.in_ok-right-in-Right.field-0 _ _ c.take-in-Right.result c.take-in-Right.ensures.took (refl, refl) c.in_ok-right-in-Right.ensures.moves c.in_ok-right-in-Right.ensures.plain c.in_ok-right-in-Right.ensures.light c.right.ensures.steady (c.in_ok-right-in-Right.ensures.known c.requires.ready.known.state))

pub returns-in-Choose-clause-turned : goal.returns-in-Choose-clause-turned
returns-in-Choose-clause-turned g c =
    rw c.in-Choose.is (quiet_turned c.args.prog.now _ _ _ _ c.args.frames.now.items c.args.state.now c.choose.new.state c.choose.result _ _ c.take-in-Choose.result c.take-in-Choose.ensures.took (refl, refl) c.choose.ensures.moves c.choose.ensures.plain c.choose.ensures.light c.choose.ensures.steady (c.choose.ensures.known c.requires.ready.known.state))

pub returns-in-Test-clause-turned : goal.returns-in-Test-clause-turned
returns-in-Test-clause-turned g c =
    rw c.in-Test.is (quiet_turned c.args.prog.now _ _ _ _ c.args.frames.now.items c.args.state.now c.test.new.state c.test.result _ _ c.take-in-Test.result c.take-in-Test.ensures.took (refl, refl) c.test.ensures.moves c.test.ensures.plain c.test.ensures.light c.test.ensures.steady (c.test.ensures.known c.requires.ready.known.state))

pub returns-in-Turn-clause-turned : goal.returns-in-Turn-clause-turned
returns-in-Turn-clause-turned g c =
    rw c.in-Turn.is (quiet_turned c.args.prog.now _ _ _ _ c.args.frames.now.items c.args.state.now c.turn.new.state c.turn.result _ _ c.take-in-Turn.result c.take-in-Turn.ensures.took (refl, refl) c.turn.ensures.moves c.turn.ensures.plain c.turn.ensures.light c.turn.ensures.steady (c.turn.ensures.known c.requires.ready.known.state))

pub returns-in-Items-clause-turned : goal.returns-in-Items-clause-turned
returns-in-Items-clause-turned g c =
    rw c.in-Items.is (quiet_turned c.args.prog.now _ _ _ _ c.args.frames.now.items c.args.state.now c.items.new.state c.items.result _ _ c.take-in-Items.result c.take-in-Items.ensures.took (refl, refl) c.items.ensures.moves c.items.ensures.plain c.items.ensures.light c.items.ensures.steady (c.items.ensures.known c.requires.ready.known.state))

pub returns-in-Frame-clause-own : goal.returns-in-Frame-clause-own
returns-in-Frame-clause-own g c = on_ok c.take-in-Frame.result _ (c.end_body.ensures.own c.args.prog.now _ _)

pub returns-in-Frame-clause-shares : goal.returns-in-Frame-clause-shares
returns-in-Frame-clause-shares g c =
    on_ok c.take-in-Frame.result _ (shares_quiet c.args.prog.now _ (g.N.Names.known c.args.names.now) _ _ _ c.args.state.now c.end_body.new.state _ _ _ _ (c.end_body.ensures.reads c.args.prog.now (g.N.Names.known c.args.names.now)) c.end_body.ensures.steady.calls.fresh refl)

pub returns-in-Method-clause-holding : goal.returns-in-Method-clause-holding
returns-in-Method-clause-holding g c =
    subst (λ (n : ℕ). Holding (g.D.Desk.fixed c.args.desk.now).caller (n + 1) (frames_of c.args.frames.now.items) (g.D.Desk.front c.apply_rarely.new.desk)) (sym c.apply_rarely.ensures.still.calls.made)
    (holding_apart _ _ (frames_of c.args.frames.now.items) _ _ c.requires.holding c.apply_rarely.ensures.others c.apply_rarely.ensures.stays.kept)

pub returns-in-Method-clause-shares : goal.returns-in-Method-clause-shares
returns-in-Method-clause-shares g c =
    shares_turned c.args.prog.now _ _ _ _ _ _ _ _ _ c.args.state.now _ c.apply_rarely.new.state _ _ _ c.apply_rarely.result _ c.apply_rarely.ensures.still.calls.fresh (c.apply_rarely.ensures.turned c.args.frames.now.items)

pub returns-in_ok-assign-in-Assign-clause-own : goal.returns-in_ok-assign-in-Assign-clause-own
returns-in_ok-assign-in-Assign-clause-own g c = nothing_kept c.args.prog.now _ _ _ _ _ _ c.take.result c.assign.ensures.steady.cache

pub returns-in-Not-clause-own : goal.returns-in-Not-clause-own
returns-in-Not-clause-own g c = nothing_kept c.args.prog.now _ _ _ _ _ _ c.take-in-Not.result c.not.ensures.steady.cache

pub returns-in_ok-left-in-Left-clause-own : goal.returns-in_ok-left-in-Left-clause-own
returns-in_ok-left-in-Left-clause-own g c = nothing_kept c.args.prog.now _ _ _ _ _ _ c.take-in-Left.result c.left.ensures.steady.cache

pub returns-in_ok-right-in-Right-clause-own : goal.returns-in_ok-right-in-Right-clause-own
returns-in_ok-right-in-Right-clause-own g c = nothing_kept c.args.prog.now _ _ _ _ _ _ c.take-in-Right.result c.right.ensures.steady.cache

pub returns-in-Choose-clause-own : goal.returns-in-Choose-clause-own
returns-in-Choose-clause-own g c = nothing_kept c.args.prog.now _ _ _ _ _ _ c.take-in-Choose.result c.choose.ensures.steady.cache

pub returns-in-Test-clause-own : goal.returns-in-Test-clause-own
returns-in-Test-clause-own g c = nothing_kept c.args.prog.now _ _ _ _ _ _ c.take-in-Test.result c.test.ensures.steady.cache

pub returns-in-Turn-clause-own : goal.returns-in-Turn-clause-own
returns-in-Turn-clause-own g c = nothing_kept c.args.prog.now _ _ _ _ _ _ c.take-in-Turn.result c.turn.ensures.steady.cache

pub returns-in-Items-clause-own : goal.returns-in-Items-clause-own
returns-in-Items-clause-own g c = nothing_kept c.args.prog.now _ _ _ _ _ _ c.take-in-Items.result c.items.ensures.steady.cache
