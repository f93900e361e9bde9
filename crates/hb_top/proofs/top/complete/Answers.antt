use Rattle.hb_top.proofs.CompleteLemmas.{complete-is}
use Rattle.hb_top.proofs.top.complete.Goals as goal

pub returns : goal.returns
returns c = complete-is (record {
  tokens = c.one_answer.ensures.tokens;
  lex_apart = c.one_answer.ensures.apart;
  lex_fault = c.one_answer.ensures.fault;
  said = c.one_answer-2.ensures.said;
  parse_apart = c.one_answer-2.ensures.apart;
  parse_fault = c.one_answer-2.ensures.fault;
  program = c.one_program.ensures;
  report = c.one_report.ensures;
})
