use Rattle.std.proofs.Common.{[], None, refl}
use Rattle.hb_eval.proofs.MachineLemmas.{on_ok_map}
use Rattle.hb_eval.specs.Gathering.{Shares}
use Rattle.hb_eval.specs.Machines.{Carries}
use Rattle.hb_eval.proofs.AdvanceLemmas.{begins_on}
use Rattle.hb_eval.proofs.GatheringLemmas.{shares_on, shares_quiet}
use Rattle.hb_eval.proofs.machine.Machine.begin_next.Goals as goal

pub returns-clause-begins : goal.returns-clause-begins
returns-clause-begins g c =
    let t = c.args.prog.now in
    let first = c.in_ok-begin_one.ensures.begins _ _ _ _ in
    on_ok_map c.settle.result (λ (h : Carries t (g.D.Desk.fixed c.args.desk.now).caller _ _ _ _ _ _ c.begin_one.new.self c.settle.new.self). begins_on g.P.Pace.far t _ _ _ _ _ _ _ _ _ _ c.args.self.now c.begin_one.new.self c.settle.new.self c.settle.ensures.stays.named first h) c.settle.ensures.carries

pub returns-clause-shares : goal.returns-clause-shares
returns-clause-shares g c =
    let t = c.args.prog.now in
    let who = (g.D.Desk.fixed c.args.desk.now).caller in
    let known = g.N.Names.known c.args.names.now in
    let first = shares_quiet t known known who _ _ c.args.self.now.state c.begin_one.new.self.state _ _ c.args.share.now c.args.share.now (c.in_ok-begin_one.ensures.begins who known (g.N.Names.asked c.args.names.now) _).reads c.begin_one.ensures.calls.fresh refl in
    on_ok_map c.settle.result (λ (h : Shares t _ who _ _ c.args.share.now c.settle.new.share). shares_on t known _ who _ _ _ _ _ _ c.settle.ensures.stays.named first h) c.settle.ensures.shares

pub settle-requires-clause-fine : goal.settle-requires-clause-fine
settle-requires-clause-fine g c = (c.in_ok-begin_one.ensures.begins 0 [] [] []).fine

pub settle-requires-clause-cache : goal.settle-requires-clause-cache
settle-requires-clause-cache g c = (c.in_ok-begin_one.ensures.begins _ _ _ _).own.own None c.requires.cache
