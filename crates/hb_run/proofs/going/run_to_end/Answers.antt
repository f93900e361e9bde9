use Rattle.std.proofs.Common.{None, ◌+◌, sym, subst}
use Rattle.hb_tables.specs.Answers.{Fixed}
use Rattle.hb_call.specs.OwnCache.{IsTrueCache}
use Rattle.hb_eval.specs.Holding.{Holding, frames_of}
use Rattle.hb_eval.specs.Machines.{Turns}
use Rattle.hb_eval.specs.declared.machine.Turn.{Turn}
use Rattle.hb_eval.proofs.StayingLemmas.{stays_on}
use Rattle.hb_run.proofs.GoingLemmas.{went_itself, went_turn}
use Rattle.hb_run.proofs.going.run_to_end.Goals as goal

pub loop-share-init : goal.loop-share-init
loop-share-init g c = (c.requires.fine, c.requires.going, c.requires.holding, c.requires.few, c.requires.cache, went_itself _ _ _ _ _ _, g.N.Names.alike_itself _)

pub loop-share-preserved : goal.loop-share-preserved
loop-share-preserved g c =
    let inv = c.loop-share.invariant in
    let came = c.in_ok-advance.ensures in
    let turned = subst (λ (turn : Turn). Turns turn c.loop-share.machine c.advance.new.self) c.in-More.is came.turn in
    let holding = subst (λ (door : Fixed). Holding door.caller (c.advance.new.self.state.made + 1) (frames_of c.advance.new.self.frames.items) (g.D.Desk.front c.advance.new.desk))
    (sym c.advance.ensures.stays.fixed) came.holding in
    let cache = subst (λ (door : Fixed). IsTrueCache c.args.prog.now (g.N.Names.known c.advance.new.names) (g.N.Names.asked c.advance.new.names) door.caller
    (g.D.Desk.front c.advance.new.desk) c.advance.new.self.state.cache) (sym c.advance.ensures.stays.fixed) (came.own.own None inv.4) in (
      came.fine,
      turned.0,
      holding,
      c.advance.ensures.stays.few inv.3,
      cache,
      went_turn _ _ _ _ _ _ _ _ _ _ _ _ _ _ _ _ _ inv.5 came.stands c.advance.ensures.stays came.grown came.own
          c.advance.ensures.caller c.advance.ensures.keeps,
      g.N.Names.alike_on _ _ _ inv.6 c.advance.ensures.alike,
    )

pub returns-in-Ended-clause-went : goal.returns-in-Ended-clause-went
returns-in-Ended-clause-went g c =
    let came = c.in_ok-advance.ensures in
    went_turn _ _ _ _ _ _ _ _ _ _ _ _ _ _ _ _ _ c.loop-share.invariant.5 came.stands c.advance.ensures.stays came.grown came.own c.advance.ensures.caller c.advance.ensures.keeps

pub returns-in_err-advance-clause-stays : goal.returns-in_err-advance-clause-stays
returns-in_err-advance-clause-stays g c = stays_on _ _ _ _ _ _ _ _ _ c.loop-share.invariant.5.stays c.advance.ensures.stays

pub returns-in-Ended-clause-stays : goal.returns-in-Ended-clause-stays
returns-in-Ended-clause-stays g c = stays_on _ _ _ _ _ _ _ _ _ c.loop-share.invariant.5.stays c.advance.ensures.stays

pub returns-in_err-advance-clause-alike : goal.returns-in_err-advance-clause-alike
returns-in_err-advance-clause-alike g c = g.N.Names.alike_on _ _ _ c.loop-share.invariant.6 c.advance.ensures.alike

pub returns-in-Ended-clause-alike : goal.returns-in-Ended-clause-alike
returns-in-Ended-clause-alike g c = g.N.Names.alike_on _ _ _ c.loop-share.invariant.6 c.advance.ensures.alike
