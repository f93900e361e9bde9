use Rattle.std.proofs.Common.{◌∙◌, ◌++◌, ap, refl}
use Rattle.hb_tree.proofs.Pages.{put_piece}
use Rattle.hb_tree.proofs.sheet.Sheet.put.Goals as goal

pub returns : goal.returns
returns c = λ kind.
    put_piece _ _ _ (c.in_ok-extend_from_slice.ensures.items ∙ ap (λ z. z ++ c.args.bytes.now) (ap (λ page. page.text) c.self.view_is ∙ c.in_ok-space.ensures.text)) refl
