use Rattle.std.proofs.Common.{arith}
use Rattle.hb_words.proofs.TypeStepLemmas.{looks_at_type}
use Rattle.hb_words.proofs.steps.look_at_type.Goals as goal

pub load-requires : goal.load-requires
load-requires g c = let r = c.requires in (
  r.seat.table_is,
  (let w = r.seat.words in let i = c.type_index.ensures in omega arith),
  rw (r.kind, c.type_index.ensures) (looks_at_type _ _ _ _ c.args.key r.key r.seat.live r.seat.still),
)
