use Rattle.std.proofs.Common.{ap, arith}
use Rattle.hb_row.specs.Row.{Sat}
use Rattle.hb_row.proofs.PlacingLemmas.{drafts_word}
use Rattle.hb_row.proofs.steps.draft.Goals as goal

pub store-requires : goal.store-requires
store-requires c = let s = c.requires.seat in let r = c.requires.room in let w = s.wide in let at = c.requires.at in
    (s.here, omega arith, drafts_word _ _ _ s.live c.args.i c.args.x r.0 r.1 r.2 s.still c.args.word at)

pub returns-clause-same : goal.returns-clause-same
returns-clause-same c = let e = c.store.ensures in record { table = e.0; number = e.1; carried = ap (λ (z : Sat). z.1) (e.2 c.args.i c.requires.at) }
