use Rattle.std.proofs.Common.{refl}
use Rattle.hb_eval.specs.Holding.{frames_of}
use Rattle.hb_eval.proofs.HoldingLemmas.{holding_top, holding_last, holding_left}
use Rattle.hb_eval.proofs.frames.end.Goals as goal

pub leave_lent-requires : goal.leave_lent-requires
leave_lent-requires g c =
    let top = holding_top _ _ c.args.frames.now.items c.pop.new.self.items c.in-Some.field-0 _ c.in-Some.ensures.items c.requires.holding in
    record { held = (holding_last _ _ _ c.in-Some.field-0.frame _ top).holds }

pub returns-clause-leaves : goal.returns-clause-leaves
returns-clause-leaves g c = record {
  frame = c.in-Some.field-0;
  frames = c.in-Some.ensures.items;
  grows = c.leave_lent.ensures.acts;
  state = rw c.leave_lent.ensures.cache refl;
  vars = c.truncate.ensures.items;
}

pub returns-clause-holding : goal.returns-clause-holding
returns-clause-holding g c =
    let top = holding_top _ _ c.args.frames.now.items c.pop.new.self.items c.in-Some.field-0 _ c.in-Some.ensures.items c.requires.holding in
    holding_left _ _ (frames_of c.pop.new.self.items) c.in-Some.field-0.frame _ _ top c.leave_lent.ensures.none c.leave_lent.ensures.others c.leave_lent.ensures.kept

pub returns-clause-own : goal.returns-clause-own
returns-clause-own g c t names asked = rw c.leave_lent.ensures.cache (c.leave_lent.ensures.own t names asked c.args.state.now.cache)

pub returns-clause-grown : goal.returns-clause-grown
returns-clause-grown g c t names asked =
    let top = holding_top _ _ c.args.frames.now.items c.pop.new.self.items c.in-Some.field-0 _ c.in-Some.ensures.items c.requires.holding in
    c.leave_lent.ensures.grown t names asked (holding_last _ _ _ c.in-Some.field-0.frame _ top).called
