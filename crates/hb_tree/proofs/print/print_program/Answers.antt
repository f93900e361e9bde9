use Rattle.std.proofs.Common.{◌≡◌, ◌∙◌, ◌<◌, ◌^◌, subst, sym, length}
use Rattle.hb_tree.proofs.{Pages.wrote, Pages.text_of_written, CanonLemmas.canon-short}
use Rattle.hb_tree.specs.Canon.{pieces_of, canon}
use Rattle.hb_tree.proofs.print.print_program.Goals as goal

pub returns : goal.returns
returns c =
    let classes = rw c.new-sheet.ensures at c.in_ok-push_classes.ensures in
    let text : c.into_text.result.items ≡ canon c.args.prog.now =
    c.into_text.ensures
    ∙ text_of_written _ (pieces_of c.args.prog.now) (wrote _ _ _ (wrote _ _ _ classes c.in_ok-push_setup.ensures) c.in_ok-push_scripts.ensures) in
    record { text = text; short = λ apart. subst (λ bytes. length bytes < 2 ^ 28) (sym text) (canon-short c.args.prog.now c.nodes-nodes.ensures.program apart) }
