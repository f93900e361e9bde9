use Rattle.std.proofs.Common.{arith}
use Rattle.hb_words.proofs.TypeStepLemmas.{holds}
use Rattle.hb_words.proofs.steps.hold.Goals as goal

pub fetch_add-requires : goal.fetch_add-requires
fetch_add-requires g c = let r = c.requires in (
  r.seat.table_is,
  (let w = r.seat.words in let i = c.type_index.ensures in omega arith),
  rw (r.kind, c.type_index.ensures) (holds _ _ _ _ c.args.key r.key r.seat.live r.seat.still c.args.q r.free r.few),
)
