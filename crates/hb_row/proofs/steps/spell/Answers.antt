use Rattle.std.proofs.Common.{arith}
use Rattle.hb_row.proofs.PlacingLemmas.{spells_word}
use Rattle.hb_row.proofs.steps.spell.Goals as goal

pub load-requires : goal.load-requires
load-requires c = let s = c.requires.seat in let w = s.wide in let at = c.requires.at in (s.here, omega arith, spells_word _ _ _ s.live c.args.word)
