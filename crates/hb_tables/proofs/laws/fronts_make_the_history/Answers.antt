use Rattle.hb_tables.proofs.{HistoryLemmas.legal_prefix, HistoryLemmas.every_prefix, FrontLemmas.every_of_fronts}
use Rattle.hb_tables.specs.Rows.{FitsCall}
use Rattle.hb_tables.proofs.laws.fronts_make_the_history.Goals as goal

pub returns : goal.returns
returns c = record {
  legal = legal_prefix;
  calls = λ t names. every_prefix (λ before e. FitsCall t names e.caller.0 before e.act);
  whole = λ t names. every_of_fronts (λ before e. FitsCall t names e.caller.0 before e.act);
}
