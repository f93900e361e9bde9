use Rattle.std.proofs.Common.{arith}
use Rattle.hb_words.proofs.TypeStepLemmas.{frees}
use Rattle.hb_words.proofs.steps.free.Goals as goal

pub fetch_sub-requires : goal.fetch_sub-requires
fetch_sub-requires g c = let r = c.requires in (
  r.seat.table_is,
  (let w = r.seat.words in let i = c.type_index.ensures in omega arith),
  rw (r.kind, c.type_index.ensures) (frees _ _ _ _ c.args.key r.key r.seat.live r.seat.still c.args.q r.held),
)
