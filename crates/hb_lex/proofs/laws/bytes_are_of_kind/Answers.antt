use Rattle.hb_lex.specs.declared.kinds.TokenKind.TheVariants as k
use Rattle.hb_lex.proofs.Standing.{bytes_have_kind, number_small, text_small, name_small, class_small}
use Rattle.hb_lex.proofs.laws.bytes_are_of_kind.Goals as goal

pub returns : goal.returns
returns c = record {
  number = λ text token h e. (bytes_have_kind text token h k.Number e (λ x. cc x), number_small text token h e);
  literal = λ text token h e. (bytes_have_kind text token h k.Text e (λ x. cc x), text_small text token h e);
  name = λ text token h e. (bytes_have_kind text token h k.Name e (λ x. cc x), name_small text token h e);
  class = λ text token h e. (bytes_have_kind text token h k.ClassName e (λ x. cc x), class_small text token h e);
}
