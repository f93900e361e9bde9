use Rattle.std.proofs.Common.{None, subst}
use Rattle.hb_call.specs.declared.frame.Entered.{Entered}
use Rattle.hb_call.specs.Entering.{IsFramed}
use Rattle.hb_trials.specs.declared.desks.TheConstants.{CALL}
use Rattle.hb_trials.proofs.HoldLemmas.{left_ready}
use Rattle.hb_trials.proofs.desks.verdict.Goals as goal

pub returns-in-Frame : goal.returns-in-Frame
returns-in-Frame g c =
    let door = g.D.Desk.fixed c.call.new.desk in let old = g.D.Desk.front c.call.new.desk in
    let framed = subst (λ (e : Entered). IsFramed door.caller CALL old e) c.in-Frame.is c.in_ok-frame.ensures.framed in
    let checks = (c.leave.ensures.own c.args.prog.now (g.N.Names.known c.call.new.names) (g.N.Names.asked c.call.new.names) c.call.new.cache).own None c.in_ok-frame.ensures.checks in
    record { ready = left_ready c.args.prog.now _ _ door (g.D.Desk.fixed c.leave.new.desk) old (g.D.Desk.front c.leave.new.desk) c.in-Frame.frame.q c.call.new.cache c.leave.ensures.fixed framed.0 c.call.ensures.alone c.leave.ensures.none c.leave.ensures.others checks }
