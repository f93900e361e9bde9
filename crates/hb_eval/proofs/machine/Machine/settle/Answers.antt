use Rattle.std.proofs.Common.{◌+◌, refl, sym, subst}
use Rattle.hb_tables.specs.Answers.{Fixed}
use Rattle.hb_eval.specs.Holding.{Holding, frames_of}
use Rattle.hb_eval.specs.Machines.{Carries}
use Rattle.hb_eval.proofs.StayingLemmas.{prefix_itself, stays_on, stays_apart}
use Rattle.hb_eval.proofs.AdvanceLemmas.{carries_on}
use Rattle.hb_eval.proofs.GatheringLemmas.{shares_on, shares_quiet}
use Rattle.hb_eval.proofs.machine.Machine.settle.Goals as goal

pub end_stop-requires : goal.end_stop-requires
end_stop-requires g c = record {
  fine = (c.args.prog.now, c.in_ok-steps.ensures.carries.fine);
  settled = c.in_ok-steps.ensures.settled;
  holding = subst (λ (z : Fixed). Holding z.caller (c.steps.new.self.state.made + 1) (frames_of c.steps.new.self.frames.items) (g.D.Desk.front c.steps.new.desk)) (sym c.steps.ensures.stays.fixed) c.steps.ensures.holding;
}

pub returns-clause-carries : goal.returns-clause-carries
returns-clause-carries g c =
    let t = c.args.prog.now in
    let who = (g.D.Desk.fixed c.args.desk.now).caller in
    let known = g.N.Names.known c.steps.new.names in
    let asked = g.N.Names.asked c.steps.new.names in
    let half = g.D.Desk.front c.steps.new.desk in
    let now = g.D.Desk.front c.end_stop.new.desk in
    let first = c.in_ok-steps.ensures.carries in
    let then = subst (λ (z : Fixed). Carries t z.caller known known asked asked half now c.steps.new.self c.end_stop.new.self) c.steps.ensures.stays.fixed (c.end_stop.ensures.unwinds t first.fine known asked) in
    carries_on t who _ known known _ asked asked _ half now c.args.self.now c.steps.new.self c.end_stop.new.self (prefix_itself known) first then

pub returns-clause-holding : goal.returns-clause-holding
returns-clause-holding g c = subst (λ (z : Fixed). Holding z.caller (c.end_stop.new.self.state.made + 1) (frames_of c.end_stop.new.self.frames.items) (g.D.Desk.front c.end_stop.new.desk)) c.steps.ensures.stays.fixed c.end_stop.ensures.holding

pub returns-clause-stays : goal.returns-clause-stays
returns-clause-stays g c = stays_on _ _ _ _ _ _ _ _ _ c.steps.ensures.stays (stays_apart _ _ _ _ _ c.end_stop.ensures.fixed c.end_stop.ensures.kept c.end_stop.ensures.legal)

pub returns-clause-shares : goal.returns-clause-shares
returns-clause-shares g c =
    let t = c.args.prog.now in
    let who = (g.D.Desk.fixed c.args.desk.now).caller in
    let known = g.N.Names.known c.steps.new.names in
    let asked = g.N.Names.asked c.steps.new.names in
    let half = g.D.Desk.front c.steps.new.desk in
    let now = g.D.Desk.front c.end_stop.new.desk in
    let then = subst (λ (z : Fixed). Carries t z.caller known known asked asked half now c.steps.new.self c.end_stop.new.self) c.steps.ensures.stays.fixed (c.end_stop.ensures.unwinds t c.in_ok-steps.ensures.carries.fine known asked) in
    shares_on t known known who _ half now _ _ _ (prefix_itself known) c.in_ok-steps.ensures.shares (shares_quiet t known known who half now c.steps.new.self.state c.end_stop.new.self.state _ _ c.steps.new.share c.steps.new.share then.reads c.end_stop.ensures.calls.fresh refl)
