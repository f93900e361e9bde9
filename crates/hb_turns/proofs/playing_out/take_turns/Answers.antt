use Rattle.std.proofs.Common.{◌+◌, Bool, None, true, sym, ◌∙◌, subst}
use Rattle.hb_tables.specs.Answers.{Fixed}
use Rattle.hb_call.specs.OwnCache.{IsTrueCache}
use Rattle.hb_eval.specs.Holding.{Holding, frames_of}
use Rattle.hb_eval.specs.Machines.{HasBegun, Turns}
use Rattle.hb_eval.specs.declared.machine.Turn.{Turn}
use Rattle.hb_eval.proofs.GatheringLemmas.{shares_itself}
use Rattle.hb_eval.proofs.StayingLemmas.{stays_itself, stays_on}
use Rattle.hb_turns.specs.Playing.{IsAt}
use Rattle.hb_turns.proofs.CollectingLemmas.{shared_on}
use Rattle.hb_turns.proofs.ThroughLemmas.{number_ended, number_more, through_itself, through_turn}
use Rattle.hb_turns.proofs.playing_out.take_turns.Goals as goal

pub returns-then-player-clause-goes : goal.returns-then-player-clause-goes
returns-then-player-clause-goes g c = λ own. through_itself _ _ _ _ _ _

pub loop-init : goal.loop-init
loop-init g c = (
  c.if-player.false,
  subst (λ (o : Bool). IsAt o c.args.player.now.machine) c.if-player.false c.requires.at,
  c.requires.fine,
  c.requires.plain,
  c.requires.holding,
  c.requires.cache,
  stays_itself _ _ _,
  λ own. through_itself _ _ _ _ _ _,
  shares_itself _ _ _ _ _,
)

pub loop-preserved : goal.loop-preserved
loop-preserved g c =
    let inv = c.loop.invariant in
    let came = c.in_ok-advance_unnoted.ensures in
    let stays = c.advance_unnoted.ensures.stays in
    let turned = subst (λ (turn : Turn). Turns turn c.loop.player.machine c.advance_unnoted.new.self) c.in-More.is came.turn in
    let begun = subst (λ (turn : Turn). HasBegun true turn c.loop.player.machine c.advance_unnoted.new.self) c.in-More.is came.begun in
    let at = subst (λ (o : Bool). IsAt o c.advance_unnoted.new.self) (sym inv.0) turned.0 in
    let whole = stays_on _ _ _ _ _ _ _ _ _ inv.6 stays in (
      inv.0,
      turned.0,
      came.fine,
      c.advance_unnoted.ensures.keeps ∙ inv.3,
      subst (λ (door : Fixed). Holding door.caller (c.advance_unnoted.new.self.state.made + 1) (frames_of c.advance_unnoted.new.self.frames.items) (g.D.Desk.front c.advance_unnoted.new.desk))
          (sym stays.fixed) came.holding,
      subst (λ (door : Fixed). IsTrueCache c.args.prog.now c.advance_unnoted.new.names c.advance_unnoted.new.names door.caller (g.D.Desk.front c.advance_unnoted.new.desk)
          c.advance_unnoted.new.self.state.cache) (sym stays.fixed) (came.own.own None inv.5),
      whole,
      through_turn _ _ _ _ _ _ _ _ _ _ _ c.args.player.now c.loop.player (record { machine = c.advance_unnoted.new.self; over = c.loop.player.over }) inv.6 inv.7 stays whole
          came.fine came.holding came.own came.grown c.advance_unnoted.ensures.caller c.advance_unnoted.ensures.keeps came.stands inv.0 at
          (number_more c.loop.player.over c.loop.player.machine c.advance_unnoted.new.self inv.0 begun),
      shared_on _ _ _ _ _ _ _ _ _ _ _ _ _ inv.6 stays inv.8 came.shares,
    )

pub returns-clause-stays : goal.returns-clause-stays
returns-clause-stays g c = stays_on _ _ _ _ _ _ _ _ _ c.loop.invariant.6 c.advance_unnoted.ensures.stays

pub returns-clause-goes : goal.returns-clause-goes
returns-clause-goes g c =
    let inv = c.loop.invariant in
    let came = c.in_ok-advance_unnoted.ensures in
    let stays = c.advance_unnoted.ensures.stays in
    let turned = subst (λ (turn : Turn). Turns turn c.loop.player.machine c.advance_unnoted.new.self) c.in-Ended.is came.turn in
    let begun = subst (λ (turn : Turn). HasBegun true turn c.loop.player.machine c.advance_unnoted.new.self) c.in-Ended.is came.begun in
    through_turn _ _ _ _ _ _ _ _ _ _ _ c.args.player.now c.loop.player (record { machine = c.advance_unnoted.new.self; over = true }) inv.6 inv.7 stays
    (stays_on _ _ _ _ _ _ _ _ _ inv.6 stays) came.fine came.holding came.own came.grown c.advance_unnoted.ensures.caller c.advance_unnoted.ensures.keeps came.stands inv.0 turned
    (number_ended c.loop.player.over c.loop.player.machine c.advance_unnoted.new.self inv.0 inv.1 begun)

pub returns-then-player-clause-shares : goal.returns-then-player-clause-shares
returns-then-player-clause-shares g c = shares_itself _ _ _ _ _

pub returns-clause-shares : goal.returns-clause-shares
returns-clause-shares g c = shared_on _ _ _ _ _ _ _ _ _ _ _ _ _ c.loop.invariant.6 c.advance_unnoted.ensures.stays c.loop.invariant.8 c.in_ok-advance_unnoted.ensures.shares
