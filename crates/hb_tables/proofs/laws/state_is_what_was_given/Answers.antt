use Rattle.std.proofs.Common.{arith}
use Rattle.hb_tables.proofs.ChangeLemmas.{types_of_spot, bodies_of_spot}
use Rattle.hb_tables.proofs.laws.state_is_what_was_given.Goals as goal

pub returns : goal.returns
returns c = record {
  ty = λ k log. (types_of_spot k log).0;
  changes = λ k log. let n = (types_of_spot k log).1 in omega (arith, n);
  body = λ k log. (bodies_of_spot k log).0;
  redefs = λ k log. let n = (bodies_of_spot k log).1 in omega (arith, n);
}
