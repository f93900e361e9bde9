use Rattle.std.proofs.Common.{◌≡◌, ◌<◌, length, sym, ◌∙◌, ap, subst, arith}
use Rattle.std.proofs.lemmas.List.{get_or_read_under}
use Rattle.hb_names.specs.declared.names.TheConstants.{NAMES_MAX}
use Rattle.hb_tables.specs.declared.{entry.TheConstants.HOLDS_MAX, entry.Act.TheVariants.Hold}
use Rattle.hb_tables.specs.{History.spot, History.times, History.of_caller, Plain.Tables}
use Rattle.hb_tables.proofs.PlainLemmas.{hold_tables, open_more, matches_at, pins_low}
use Rattle.hb_tables.proofs.plain.PlainTables.hold.Goals as goal

pub invariant_of-self : goal.invariant_of-self
invariant_of-self c =
    let i = c.self.invariant in let p = c.push_reserved.ensures in
    let free : times (c.self.inside.caller.0, c.args.q.0) (spot c.args.key.0 c.self.inside.history.items).calls ≡ 0 = subst
    (λ (t : Tables). times (t.caller, c.args.q.0) (spot c.args.key.0 t.log).calls ≡ 0) (sym c.self.view_is) c.requires.free in
    let few : length (of_caller c.self.inside.caller.0 (spot c.args.key.0 c.self.inside.history.items).calls) < HOLDS_MAX = subst
    (λ (t : Tables). length (of_caller t.caller (spot c.args.key.0 t.log).calls) < HOLDS_MAX) (sym c.self.view_is) c.requires.few in
    let room = ap (λ (t : Tables). t.spare) c.self.view_is in let ask = c.requires.room in let fits = i.1 in let n = p.len in let k = p.capacity in
    let tables = hold_tables c.self.inside.versions c.self.inside.history.items c.self.inside.states.items c.self.inside.owed c.self.inside.caller.0 c.args.q c.args.key c.index-state.result.now
    i.0 c.self.invariant.2.low c.requires.key c.index-state.ensures free few in
    let same : c.index_mut.result.now ≡ c.index-state.result.now = get_or_read_under c.self.inside.states.items c.args.key.0 NAMES_MAX c.index_mut.result.now c.index-state.result.now
    c.index_mut.ensures.value c.requires.key (sym i.0.wide) ∙ sym c.index-state.ensures in (
      rw p.items (rw same tables),
      omega (arith, room, ask, fits, n, k),
      rw p.items (open_more c.self.inside.caller.0 c.self.inside.opened c.self.inside.history.items (Hold c.args.key c.args.q c.index-state.result.now.ty c.index-state.result.now.changes) i.2),
    )

pub returns-clause-legal : goal.returns-clause-legal
returns-clause-legal c = (invariant_of-self c).0.legal

pub overflow_add-index_mut : goal.overflow_add-index_mut
overflow_add-index_mut c =
    let few = pins_low c.self.inside.versions c.self.inside.history.items c.self.inside.states.items c.self.inside.owed c.args.key.0 c.self.invariant.0 in
    let m = matches_at c.self.inside.versions c.self.inside.history.items c.self.inside.states.items c.self.inside.owed c.args.key c.index_mut.result.now c.self.invariant.0 c.requires.key c.index_mut.ensures.value in
    let p = m.4 in omega (arith, few, p)
