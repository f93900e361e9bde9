use Rattle.hb_parse.proofs.ProgramLemmas.{one-program}
use Rattle.hb_parse.proofs.laws.one_program.Goals as goal

pub returns : goal.returns
returns c = one-program
