use Rattle.std.proofs.Common.{arith}
use Rattle.hb_words.proofs.TypeStepLemmas.{retypes}
use Rattle.hb_words.proofs.steps.retype.Goals as goal

pub compare_exchange-requires : goal.compare_exchange-requires
compare_exchange-requires g c = let r = c.requires in (
  r.seat.table_is,
  (let w = r.seat.words in let i = c.type_index.ensures in omega arith),
  rw (r.kind, c.type_index.ensures) (retypes _ _ _ _ c.args.key r.key r.seat.live r.seat.still c.args.site c.args.old c.args.new r.site r.old.0 r.old.1 r.new),
)
