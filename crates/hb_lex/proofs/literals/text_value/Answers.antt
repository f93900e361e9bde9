use Rattle.std.proofs.Common.{rules}
use Rattle.hb_lex.proofs.Forms.{text_some}
use Rattle.hb_lex.proofs.literals.text_value.Goals as goal

pub slice_bounds-value_behind-count : goal.slice_bounds-value_behind-count
slice_bounds-value_behind-count c = text_some c.args.literal.now c.requires

pub slice_bounds-value_behind-start : goal.slice_bounds-value_behind-start
slice_bounds-value_behind-start c = let some = text_some c.args.literal.now c.requires in search rules
