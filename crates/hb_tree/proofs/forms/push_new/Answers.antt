use Rattle.hb_tree.proofs.Pages.{wrote, wrote_last}
use Rattle.hb_tree.proofs.forms.push_new.Goals as goal

pub returns : goal.returns
returns c = wrote_last _ _ _ _ _ (wrote _ _ _ c.in_ok-push_class.ensures c.in_ok-mark.ensures) c.mark-2.ensures
