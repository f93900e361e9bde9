use Rattle.std.proofs.Common.{◌≤◌}
use Rattle.hb_lex.specs.Sizes.{greatest_number}
use Rattle.hb_lex.proofs.Values.{Reads}
use Rattle.hb_lex.proofs.literals.checked_value.Given as goal

abbrev pub invariant-loop-b : goal.invariant-loop-b
invariant-loop-b l = record {
  reads : Reads l.digits l.b-index l.value;
  small : l.value ≤ greatest_number;
}
