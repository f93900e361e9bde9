use Rattle.hb_tree.proofs.Pages.{wrote, wrote_last}
use Rattle.hb_tree.proofs.words.push_signature.Goals as goal

pub returns : goal.returns
returns c =
    rw c.type_of-ty.ensures.value
    (wrote_last _ _ _ _ _ (wrote _ _ _ (wrote _ _ _ c.in_ok-mark.ensures c.in_ok-mark-2.ensures) c.in_ok-push_types.ensures)
    (wrote_last _ _ _ _ _ (wrote _ _ _ c.in_ok-mark-3.ensures c.in_ok-mark-4.ensures) c.push_type.ensures))
