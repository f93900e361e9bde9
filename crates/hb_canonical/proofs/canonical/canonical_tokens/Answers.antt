use Rattle.hb_canonical.proofs.{CanonicalLemmas.canonical_pieces, ProgramTextLemmas.canonical_program}
use Rattle.hb_canonical.proofs.canonical.canonical_tokens.Goals as goal

pub returns-clause-pieces : goal.returns-clause-pieces
returns-clause-pieces c = canonical_pieces

pub returns-clause-program : goal.returns-clause-program
returns-clause-program c = canonical_program
