use Rattle.std.proofs.Common.{arith}
use Rattle.hb_tables.proofs.PlainLemmas.{changes_low}
use Rattle.hb_tables.proofs.plain.PlainTables.set_type.Goals as goal

pub write-requires-2-clause-fits : goal.write-requires-2-clause-fits
write-requires-2-clause-fits c =
    let low = changes_low c.args.self.now.limit c.args.self.now.log c.args.key.0 c.state-state.ensures.legal in
    let m = c.state-state.ensures.state.1 in let ne = c.if-state-limit.false in let l = c.limit.ensures in
    let p = c.state-state.ensures.state.4 in let none = c.if-pins-gt0.false in (omega (arith, p, none), omega (arith, low, m, ne, l), c.requires.site)

pub overflow_add-next : goal.overflow_add-next
overflow_add-next c =
    let low = changes_low c.args.self.now.limit c.args.self.now.log c.args.key.0 c.state-state.ensures.legal in
    let m = c.state-state.ensures.state.1 in let max = c.state-state.ensures.low in omega (arith, low, m, max)
