use Rattle.hb_ordered.proofs.AlongLemmas.{runs_part}
use Rattle.hb_ordered.proofs.laws.runs_part_at_a_question.Goals as goal

pub returns : goal.returns
returns c done first second t names others block steps r w differ differ' shared e f = runs_part t names others done first second 4096 block steps r w differ differ' shared e f
