use Rattle.hb_deriv_text.proofs.FitLemmas.{lines_fit}
use Rattle.hb_deriv_text.proofs.texts.read_with.Goals as goal

pub returns : goal.returns
returns c = lines_fit c.args.finder.now c.args.bytes.now c.read_lines.result c.read_lines.ensures
