use Rattle.std.proofs.Common.{◌+◌, drop, get_or, sym, ap, ◌∙◌, subst}
use Rattle.hb_tables.specs.declared.entry.Act.TheVariants.{Free}
use Rattle.hb_tables.specs.{History.Adds, History.IsLegal, Answers.Fixed}
use Rattle.hb_tables.proofs.StandingLemmas.{held_stands}
use Rattle.hb_call.specs.Held.{MayFree, stands}
use Rattle.hb_call.proofs.HeldLemmas.{may_drop, free_stands, free_next, kept_on}
use Rattle.hb_call.proofs.RoomLemmas.{room_free}
use Rattle.hb_call.proofs.frame.free_keys.Goals as goal

pub free-requires-clause-held : goal.free-requires-clause-held
free-requires-clause-held g c =
    let now = g.D.Desk.front c.loop-key.desk in
    let may = may_drop c.args.keys.now c.loop-key.key-index (record { 0 = 0 }) (stands (g.D.Desk.fixed c.args.desk.now).caller c.args.q.0 now) c.loop-key-test.true c.loop-key.invariant.left in
    rw (ap (λ (z : Fixed). z.caller) c.loop-key.invariant.fixed) (held_stands (g.D.Desk.fixed c.args.desk.now).caller c.args.q.0 (get_or c.args.keys.now c.loop-key.key-index (record { 0 = 0 })).0 now ∙ may.1)

pub loop-key-preserved : goal.loop-key-preserved
loop-key-preserved g c =
    let old = g.D.Desk.front c.loop-key.desk in let new = g.D.Desk.front c.free.new.self in
    let who = (g.D.Desk.fixed c.args.desk.now).caller in
    let key = get_or c.args.keys.now c.loop-key.key-index (record { 0 = 0 }) in
    let adds : Adds who old new (Free key c.args.q) = subst (λ (z : Fixed). Adds z.caller old new (Free key c.args.q)) c.loop-key.invariant.fixed c.free.ensures.entry in
    let may = may_drop c.args.keys.now c.loop-key.key-index (record { 0 = 0 }) (stands who c.args.q.0 old) c.loop-key-test.true c.loop-key.invariant.left in
    record {
      fixed = c.free.ensures.fixed ∙ c.loop-key.invariant.fixed;
      kept = kept_on who _ old new _ c.loop-key.invariant.kept adds;
      legal = λ h. subst (λ (z : Fixed). IsLegal z.limit new) (c.free.ensures.fixed ∙ c.loop-key.invariant.fixed) (rw (c.free.ensures.fixed) c.free.ensures.legal);
      room = λ h. room_free who c.args.q key old new adds (c.loop-key.invariant.room h);
      left = subst (MayFree (drop (c.loop-key.key-index + 1) c.args.keys.now)) (sym (free_stands who c.args.q key old new adds)) may.2;
      acts = free_next who c.args.q c.args.keys.now c.loop-key.key-index (record { 0 = 0 }) old new _ c.loop-key-test.true adds c.loop-key.invariant.acts;
    }
