use Rattle.std.proofs.Common.{subst}
use Rattle.hb_tables.specs.History.{IsLegal}
use Rattle.hb_run.specs.Headline.{StopsInBodies, StopsRightly}
use Rattle.hb_run.proofs.PromiseLemmas.{each-run, enters-rightly, stops-in-bodies, stops-rightly}
use Rattle.hb_run.proofs.laws.histories_keep_the_promise.Goals as goal

pub returns-clause-promise : goal.returns-clause-promise
returns-clause-promise c t limit steps names log runs h = record {
  enters = λ before after e is. enters-rightly c.verdict_is_the_judgement.ensures.enters t names e.caller.0 before e.act (h.rules before after e is).row;
  keeps = λ d q k x before rest after key site is. c.frames_keep_types.ensures.none limit k d q before rest after x key site (subst (IsLegal limit) is h.legal);
  stops = each-run (StopsRightly t) t names steps log
      (λ d r x. stops-rightly t names steps log d r (λ y. c.stops_in_bodies_are_named.ensures.ends t names limit log d h.legal (λ before after e is. (h.rules before after e is).row) 4096 y.block.0 steps y.run y.reads) x)
      t.setup runs h.all_runs;
}

pub returns-clause-bodies : goal.returns-clause-bodies
returns-clause-bodies c t limit steps names log runs program once h =
    each-run (StopsInBodies t) t names steps log
    (λ d r x. stops-in-bodies t names steps log d r
    (λ y e id root stops body. c.stops_in_bodies_are_named.ensures.bodies t names limit log d h.legal
    (λ before after e is. (h.rules before after e is).row) program once 4096 y.block.0 steps y.run e id root y.reads stops body) x)
    t.setup runs h.all_runs
