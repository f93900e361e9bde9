use Rattle.std.proofs.Common.{◌∙◌, sym}
use Rattle.hb_tree.proofs.Pages.{wrote, wrote_last, written-nil}
use Rattle.hb_tree.proofs.print.push_setup.Goals as goal

pub returns-in_default : goal.returns-in_default
returns-in_default c = rw (sym c.setup.ensures.value ∙ c.in_default.is) (sym (written-nil c.args.sheet.now))

pub returns : goal.returns
returns c =
    rw (sym c.setup.ensures.value ∙ c.in-Some.is)
    (wrote_last _ _ _ _ _ (wrote _ _ _ c.in_ok-mark.ensures c.in_ok-line_end.ensures) c.push_lines.ensures)
