use Rattle.hb_tables.proofs.VerdictLemmas.{enters_from, enters_of, ill_from, ill_of}
use Rattle.hb_tables.proofs.laws.verdict_is_the_judgement.Goals as goal

pub returns : goal.returns
returns c = record {
  enters = λ t types class b m kinds. (enters_from t types class b m kinds, enters_of t types class b m kinds);
  fails = λ t types class b m kinds f. (ill_from t types class b m kinds f, ill_of t types class b m kinds f);
}
