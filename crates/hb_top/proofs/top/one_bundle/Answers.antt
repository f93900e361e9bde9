use Rattle.hb_top.proofs.OneBundleLemmas.{one-derived}
use Rattle.hb_top.proofs.OneDueLemmas.{one-bundle}
use Rattle.hb_top.proofs.top.one_bundle.Goals as goal

pub returns : goal.returns
returns c = one-bundle (record {
  tokens = c.one_answer.ensures.tokens;
  lex_apart = c.one_answer.ensures.apart;
  lex_fault = c.one_answer.ensures.fault;
  said = c.one_answer-2.ensures.said;
  parse_apart = c.one_answer-2.ensures.apart;
  parse_fault = c.one_answer-2.ensures.fault;
  program = c.one_program.ensures;
  report = c.one_report.ensures;
}) (one-derived c.an_order_has_one_history.ensures c.programs_derivation_derives.ensures)
