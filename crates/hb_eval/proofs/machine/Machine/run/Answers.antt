use Rattle.std.proofs.Common.{arith, inr, refl}
use Rattle.hb_eval.proofs.AdvanceLemmas.{begun_advances, counted_some, none_begun, opened_advances, rest_last}
use Rattle.hb_eval.proofs.GatheringLemmas.{shares_itself}
use Rattle.hb_eval.proofs.StayingLemmas.{stays_itself}
use Rattle.hb_eval.proofs.machine.Machine.run.Goals as goal

pub returns-in_default : goal.returns-in_default
returns-in_default g c =
    let o = c.in_ok-open.ensures.opens in
    let old = c.args.self.now in
    let new = c.open.new.self in
    record {
      advances = opened_advances c.args.prog.now _ _ _ _ _ _ o;
      turns = rest_last new.hand new.conts.items c.in_default.not-Begins o.rest;
      quiet = λ same. refl;
      begun = inr (o.steady.begun, none_begun old.hand new.hand old.state.begun old.conts.items c.requires.going o.first c.in_default.not-Begins);
      holding = rw (c.open.ensures.made, c.open.ensures.frames) c.requires.holding;
      stays = stays_itself _ _ _;
      shares = shares_itself _ _ _ _ _;
      alike = g.N.Names.alike_itself _;
      caller = c.open.ensures.caller;
      journal = c.open.ensures.journal;
    }

pub returns-clause-advances : goal.returns-clause-advances
returns-clause-advances g c = begun_advances g.P.Pace.far c.args.prog.now _ _ _ _ _ _ _ _ _ _ c.in_ok-open.ensures.opens c.in_ok-begin_next.ensures.begins

pub returns-clause-quiet : goal.returns-clause-quiet
returns-clause-quiet g c same = absurd (let a = c.in_ok-open.ensures.opens.steady.begun in let b = counted_some g.P.Pace.far _ _ c.in_ok-begin_next.ensures.begins.begun in omega (arith, a, b, same))
