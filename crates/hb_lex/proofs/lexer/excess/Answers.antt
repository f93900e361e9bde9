use Rattle.std.proofs.Common.{◌∙◌, ap, Some}
use Rattle.hb_lex.proofs.Forms.{number_digits, text_bytes}
use Rattle.hb_lex.proofs.lexer.excess.Goals as goal

pub checked_value-requires : goal.checked_value-requires
checked_value-requires c = number_digits _ (c.requires ∙ ap (λ kind. Some kind) c.in-Number.is)

pub value_len-requires : goal.value_len-requires
value_len-requires c = text_bytes _ (c.requires ∙ ap (λ kind. Some kind) c.in-Text.is)
