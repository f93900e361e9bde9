use Rattle.std.proofs.Common.{◌≡◌, sym, ap, subst, arith}
use Rattle.hb_tables.specs.{History.spot, History.times, Plain.Tables}
use Rattle.hb_tables.specs.declared.entry.Act.TheVariants.{Free}
use Rattle.hb_tables.proofs.PlainLemmas.{free_tables, open_more}
use Rattle.hb_tables.proofs.plain.PlainTables.free.Goals as goal

pub overflow_sub-owed : goal.overflow_sub-owed
overflow_sub-owed c =
    let one : times (c.self.inside.caller.0, c.args.q.0) (spot c.args.key.0 c.self.inside.history.items).calls ≡ 1 = subst
    (λ (t : Tables). times (t.caller, c.args.q.0) (spot c.args.key.0 t.log).calls ≡ 1) (sym c.self.view_is) c.requires.held in
    (free_tables c.self.inside.versions c.self.inside.history.items c.self.inside.states.items c.self.inside.owed c.self.inside.caller.0 c.args.q c.args.key c.index_mut.result.now
    c.self.invariant.0 c.self.invariant.2.low c.requires.key c.index_mut.ensures.value one).some

pub overflow_sub-index_mut : goal.overflow_sub-index_mut
overflow_sub-index_mut c =
    let one : times (c.self.inside.caller.0, c.args.q.0) (spot c.args.key.0 c.self.inside.history.items).calls ≡ 1 = subst
    (λ (t : Tables). times (t.caller, c.args.q.0) (spot c.args.key.0 t.log).calls ≡ 1) (sym c.self.view_is) c.requires.held in
    (free_tables c.self.inside.versions c.self.inside.history.items c.self.inside.states.items c.self.inside.owed c.self.inside.caller.0 c.args.q c.args.key c.index_mut.result.now
    c.self.invariant.0 c.self.invariant.2.low c.requires.key c.index_mut.ensures.value one).pins

pub push_reserved-requires : goal.push_reserved-requires
push_reserved-requires c =
    let one : times (c.self.inside.caller.0, c.args.q.0) (spot c.args.key.0 c.self.inside.history.items).calls ≡ 1 = subst
    (λ (t : Tables). times (t.caller, c.args.q.0) (spot c.args.key.0 t.log).calls ≡ 1) (sym c.self.view_is) c.requires.held in
    let some_owed = (free_tables c.self.inside.versions c.self.inside.history.items c.self.inside.states.items c.self.inside.owed c.self.inside.caller.0 c.args.q c.args.key c.index_mut.result.now
    c.self.invariant.0 c.self.invariant.2.low c.requires.key c.index_mut.ensures.value one).some in
    let fits = c.self.invariant.1 in omega (arith, some_owed, fits)

pub invariant_of-self : goal.invariant_of-self
invariant_of-self c =
    let i = c.self.invariant in let p = c.push_reserved.ensures in
    let one : times (c.self.inside.caller.0, c.args.q.0) (spot c.args.key.0 c.self.inside.history.items).calls ≡ 1 = subst
    (λ (t : Tables). times (t.caller, c.args.q.0) (spot c.args.key.0 t.log).calls ≡ 1) (sym c.self.view_is) c.requires.held in
    let f = free_tables c.self.inside.versions c.self.inside.history.items c.self.inside.states.items c.self.inside.owed c.self.inside.caller.0 c.args.q c.args.key c.index_mut.result.now i.0
    c.self.invariant.2.low c.requires.key c.index_mut.ensures.value one in
    let some_owed = f.some in let fits = i.1 in let n = p.len in let k = p.capacity in
    (rw p.items f.tables, omega (arith, some_owed, fits, n, k), rw p.items (open_more c.self.inside.caller.0 c.self.inside.opened c.self.inside.history.items (Free c.args.key c.args.q) i.2))

pub returns-clause-spare : goal.returns-clause-spare
returns-clause-spare c =
    let p = c.push_reserved.ensures in
    let one : times (c.self.inside.caller.0, c.args.q.0) (spot c.args.key.0 c.self.inside.history.items).calls ≡ 1 = subst
    (λ (t : Tables). times (t.caller, c.args.q.0) (spot c.args.key.0 t.log).calls ≡ 1) (sym c.self.view_is) c.requires.held in
    let some_owed = (free_tables c.self.inside.versions c.self.inside.history.items c.self.inside.states.items c.self.inside.owed c.self.inside.caller.0 c.args.q c.args.key c.index_mut.result.now
    c.self.invariant.0 c.self.invariant.2.low c.requires.key c.index_mut.ensures.value one).some in
    let fits = c.self.invariant.1 in let n = p.len in let k = p.capacity in
    let is = ap (λ (t : Tables). t.spare) c.self.view_is in omega (arith, some_owed, fits, n, k, is)

pub returns-clause-legal : goal.returns-clause-legal
returns-clause-legal c = (invariant_of-self c).0.legal
