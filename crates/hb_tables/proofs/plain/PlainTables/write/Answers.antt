use Rattle.std.proofs.Common.{ap, arith}
use Rattle.hb_tables.specs.Plain.{Tables}
use Rattle.hb_tables.proofs.PlainLemmas.{written_tables, open_more}
use Rattle.hb_tables.proofs.plain.PlainTables.write.Goals as goal

pub invariant_of-self : goal.invariant_of-self
invariant_of-self c =
    let i = c.self.invariant in let p = c.push_reserved.ensures in
    let room = ap (λ (t : Tables). t.spare) c.self.view_is in let ask = c.requires.room in let fits = i.1 in let n = p.len in let k = p.capacity in (
      rw p.items (written_tables c.self.inside.versions c.self.inside.history.items c.self.inside.states.items c.self.inside.owed c.self.inside.caller.0 c.args.act c.args.key c.args.next i.0
          c.self.invariant.2.low c.requires.key
          c.args.self.now (ap (λ (t : Tables). t.caller) c.self.view_is) (ap (λ (t : Tables). t.log) c.self.view_is) (ap (λ (t : Tables). t.limit) c.self.view_is) c.requires.fits c.requires.next c.requires.calls),
      omega (arith, room, ask, fits, n, k),
      rw p.items (open_more c.self.inside.caller.0 c.self.inside.opened c.self.inside.history.items c.args.act i.2),
    )

pub returns-clause-legal : goal.returns-clause-legal
returns-clause-legal c = (invariant_of-self c).0.legal
