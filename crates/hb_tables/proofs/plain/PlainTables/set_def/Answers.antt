use Rattle.std.proofs.Common.{arith}
use Rattle.hb_tables.proofs.PlainLemmas.{redefs_low}
use Rattle.hb_tables.proofs.plain.PlainTables.set_def.Goals as goal

pub write-requires-2-clause-fits : goal.write-requires-2-clause-fits
write-requires-2-clause-fits c =
    let low = redefs_low c.args.self.now.limit c.args.self.now.log c.args.key.0 c.state-state.ensures.legal in
    let m = c.state-state.ensures.state.3 in let ne = c.if-state-limit.false in let l = c.limit.ensures in (omega (arith, low, m, ne, l), c.requires.site)

pub overflow_add-next : goal.overflow_add-next
overflow_add-next c =
    let low = redefs_low c.args.self.now.limit c.args.self.now.log c.args.key.0 c.state-state.ensures.legal in
    let m = c.state-state.ensures.state.3 in let max = c.state-state.ensures.low in omega (arith, low, m, max)
