use Rattle.std.proofs.Common.{ℕ, ◌++◌, sym, subst, ◌∙◌}
use Rattle.hb_eval.specs.State.{tagged}
use Rattle.hb_eval.specs.declared.machine.Turn.{Turn}
use Rattle.hb_eval.specs.Machines.{Turns}
use Rattle.hb_turns.specs.Playing.{IsUnderWay}
use Rattle.hb_turns.proofs.CollectingLemmas.{collected_on}
use Rattle.hb_turns.proofs.PlayingLemmas.{own_came}
use Rattle.hb_turns.proofs.run.play_alone.Goals as goal

pub take_turn-requires-clause-plays : goal.take_turn-requires-clause-plays
take_turn-requires-clause-plays c =
    let h = c.requires.plays in
    let on = c.loop.invariant.4 h.0 h.1 h.2 in
    (h.0, on.0, on.1)

pub loop-preserved : goal.loop-preserved
loop-preserved c =
    let inv = c.loop.invariant in
    let came = c.in_ok-take_turn.ensures in
    let turned = subst (λ (turn : Turn). Turns turn c.loop.machine c.take_turn.new.machine) c.in-More.is came.turn in (
      turned.0,
      subst (λ (n : ℕ). IsUnderWay c.args.prog.now n c.take_turn.new.names c.take_turn.new.tables.log) (sym came.limit) came.under_way,
      own_came 0 came.took.more c.loop.tables.log c.take_turn.new.tables.log inv.2 came.took.came,
      came.limit ∙ inv.3,
      λ steps done p. (let on = inv.4 steps done p in (on.0 ++ tagged c.take_turn.new.machine.state.begun came.took.more, came.took.plays steps on.0 on.1)),
      collected_on c.args.prog.now c.args.names.now c.loop.names c.take_turn.new.names c.args.tables.now.log c.loop.tables.log c.take_turn.new.tables.log
          c.args.share.now c.loop.share c.take_turn.new.share inv.5 came.collects,
    )

pub returns-in-Ended-clause-plays : goal.returns-in-Ended-clause-plays
returns-in-Ended-clause-plays c steps done p =
    let came = c.in_ok-take_turn.ensures in
    let on = c.loop.invariant.4 steps done p in
    (on.0 ++ tagged c.take_turn.new.machine.state.begun came.took.more, came.took.plays steps on.0 on.1)

pub returns-in-Ended-clause-own : goal.returns-in-Ended-clause-own
returns-in-Ended-clause-own c =
    let came = c.in_ok-take_turn.ensures in
    own_came 0 came.took.more c.loop.tables.log c.take_turn.new.tables.log c.loop.invariant.2 came.took.came

pub returns-in-Ended-clause-collects : goal.returns-in-Ended-clause-collects
returns-in-Ended-clause-collects c = collected_on c.args.prog.now c.args.names.now c.loop.names c.take_turn.new.names c.args.tables.now.log c.loop.tables.log c.take_turn.new.tables.log
    c.args.share.now c.loop.share c.take_turn.new.share c.loop.invariant.5 c.in_ok-take_turn.ensures.collects
