use Rattle.std.proofs.Common.{arith}
use Rattle.hb_words.proofs.DefStepLemmas.{looks_at_def}
use Rattle.hb_words.proofs.steps.look_at_def.Goals as goal

pub load-requires : goal.load-requires
load-requires g c = let r = c.requires in (
  r.seat.table_is,
  (let w = r.seat.words in let i = c.def_index.ensures in omega arith),
  rw (r.kind, c.def_index.ensures) (looks_at_def _ _ _ _ c.args.key r.key r.seat.live r.seat.still),
)
