use Rattle.std.proofs.Common.{arith}
use Rattle.hb_words.proofs.DefStepLemmas.{decides}
use Rattle.hb_words.proofs.steps.decide.Goals as goal

pub load-requires : goal.load-requires
load-requires g c = let r = c.requires in (
  r.seat.table_is,
  (let w = r.seat.words in let i = c.def_index.ensures in omega arith),
  rw (r.kind, c.def_index.ensures) (decides _ _ _ _ c.args.owner r.owner r.seat.live r.seat.still c.args.q c.args.key c.args.look c.args.args c.args.verdict r.look.0 r.look.1 r.look.2),
)
