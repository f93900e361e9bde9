use Rattle.std.proofs.Common.{None, ◌+◌, ◌∙◌, refl, subst, sym}
use Rattle.hb_tables.specs.Answers.{Fixed}
use Rattle.hb_call.specs.OwnCache.{IsTrueCache}
use Rattle.hb_eval.specs.Holding.{Holding, frames_of}
use Rattle.hb_eval.specs.Machines.{Carries}
use Rattle.hb_eval.proofs.StayingLemmas.{stays_itself, stays_on}
use Rattle.hb_eval.proofs.AdvanceLemmas.{carries_held, carries_on, settled_apart}
use Rattle.hb_eval.specs.Gathering.{Shares}
use Rattle.hb_eval.proofs.GatheringLemmas.{shares_itself, shares_on}
use Rattle.hb_eval.proofs.machine.Machine.steps.Goals as goal

pub steps-init : goal.steps-init
steps-init g c = record {
  carries = carries_held c.args.prog.now _ _ _ _ c.args.self.now c.args.self.now.conts refl c.requires.fine;
  holding = c.requires.holding;
  stays = stays_itself _ _ _;
  shares = shares_itself _ _ _ _ _;
  alike = g.N.Names.alike_itself c.args.names.now;
  gives = c.in-Gives.is;
  caller = refl;
  journal = refl;
}

pub step-requires : goal.step-requires
step-requires g c = record {
  fine = c.steps.invariant.carries.fine;
  gives = c.steps.invariant.gives;
  cache = subst (λ (z : Fixed). IsTrueCache c.args.prog.now (g.N.Names.known c.steps.names) (g.N.Names.asked c.steps.names) z.caller (g.D.Desk.front c.steps.desk) c.steps.self.state.cache) (sym c.steps.invariant.stays.fixed) (c.steps.invariant.carries.own.own None c.requires.cache);
  holding = subst (λ (z : Fixed). Holding z.caller (c.steps.self.state.made + 1) (frames_of c.steps.self.frames.items) (g.D.Desk.front c.steps.desk)) (sym c.steps.invariant.stays.fixed) c.steps.invariant.holding;
}

pub steps-preserved : goal.steps-preserved
steps-preserved g c =
    let inv = c.steps.invariant in
    let who = (g.D.Desk.fixed c.args.desk.now).caller in
    let same = inv.stays.fixed in
    let s = c.in_ok-step.ensures in
    record {
      carries = carries_on c.args.prog.now who _ _ _ _ _ _ _ _ _ _ _ _ s.stays.named inv.carries
          (subst (λ (z : Fixed). Carries c.args.prog.now z.caller (g.N.Names.known c.steps.names) (g.N.Names.known c.step.new.names) (g.N.Names.asked c.steps.names) (g.N.Names.asked c.step.new.names) (g.D.Desk.front c.steps.desk) (g.D.Desk.front c.step.new.desk) c.steps.self c.step.new.self) same s.carries);
      holding = subst (λ (z : Fixed). Holding z.caller (c.step.new.self.state.made + 1) (frames_of c.step.new.self.frames.items) (g.D.Desk.front c.step.new.desk)) same s.holding;
      stays = stays_on _ _ _ _ _ _ _ _ _ inv.stays s.stays;
      shares = shares_on c.args.prog.now _ _ who _ _ _ _ _ _ s.stays.named inv.shares
          (subst (λ (z : Fixed). Shares c.args.prog.now (g.N.Names.known c.step.new.names) z.caller (g.D.Desk.front c.steps.desk) (g.D.Desk.front c.step.new.desk) c.steps.share c.step.new.share) same s.shares);
      alike = g.N.Names.alike_on _ _ _ inv.alike s.alike;
      gives = s.gives c.if-branch.true;
      caller = s.caller ∙ inv.caller;
      journal = s.journal ∙ inv.journal;
    }

pub returns-in_err-step-clause-stays : goal.returns-in_err-step-clause-stays
returns-in_err-step-clause-stays g c = stays_on _ _ _ _ _ _ _ _ _ c.steps.invariant.stays c.step.ensures.stays

pub returns-clause-carries : goal.returns-clause-carries
returns-clause-carries g c =
    let inv = c.steps.invariant in
    let s = c.in_ok-step.ensures in
    carries_on c.args.prog.now (g.D.Desk.fixed c.args.desk.now).caller _ _ _ _ _ _ _ _ _ _ _ _ s.stays.named inv.carries
    (subst (λ (z : Fixed). Carries c.args.prog.now z.caller (g.N.Names.known c.steps.names) (g.N.Names.known c.step.new.names) (g.N.Names.asked c.steps.names) (g.N.Names.asked c.step.new.names) (g.D.Desk.front c.steps.desk) (g.D.Desk.front c.step.new.desk) c.steps.self c.step.new.self) inv.stays.fixed s.carries)

pub returns-clause-stays : goal.returns-clause-stays
returns-clause-stays g c = stays_on _ _ _ _ _ _ _ _ _ c.steps.invariant.stays c.step.ensures.stays

pub returns-clause-shares : goal.returns-clause-shares
returns-clause-shares g c =
    let inv = c.steps.invariant in
    let s = c.in_ok-step.ensures in
    shares_on c.args.prog.now _ _ (g.D.Desk.fixed c.args.desk.now).caller _ _ _ _ _ _ s.stays.named inv.shares
    (subst (λ (z : Fixed). Shares c.args.prog.now (g.N.Names.known c.step.new.names) z.caller (g.D.Desk.front c.steps.desk) (g.D.Desk.front c.step.new.desk) c.steps.share c.step.new.share) inv.stays.fixed s.shares)

pub returns-in_default-clause-carries : goal.returns-in_default-clause-carries
returns-in_default-clause-carries g c = carries_held c.args.prog.now _ _ _ _ c.args.self.now c.args.self.now.conts refl c.requires.fine

pub returns-in_default-clause-settled : goal.returns-in_default-clause-settled
returns-in_default-clause-settled g c = settled_apart c.args.self.now.hand c.args.self.now.conts.items c.in_default.not-Gives

pub returns-in_default-clause-shares : goal.returns-in_default-clause-shares
returns-in_default-clause-shares g c = shares_itself _ _ _ _ _
