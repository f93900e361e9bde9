use Rattle.std.proofs.Common.{rules}
use Rattle.std.proofs.lemmas.List.{take_min}
use Rattle.hb_report.proofs.traces.kinds.Goals as goal

pub returns : goal.returns
returns c = rw (c.min-count.ensures) (take_min c.args.args.now.count c.args.args.now.kinds)
