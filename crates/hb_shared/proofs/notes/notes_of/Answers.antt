use Rattle.std.proofs.Common.{◌≡◌, ◌+◌, ◌<◌, List, length, take, get_or, sym, ap, ◌∙◌, subst}
use Rattle.once_cell.specs.declared.race.note.Note.{Note}
use Rattle.hb_shared.specs.declared.cells.Published.{Published}
use Rattle.hb_shared.specs.Cells.{Cell}
use Rattle.hb_shared.specs.Notes.{AreNotesOf, known_at}
use Rattle.hb_shared.proofs.TurnLemmas.{notes_more, nothing_more}
use Rattle.hb_shared.proofs.notes.notes_of.Goals as goal

pub loop-cell-preserved : goal.loop-cell-preserved
loop-cell-preserved c =
    let gone = c.deref-cell-items.ensures.value in
    record {
      notes = subst (λ (notes : List (Note Published)). AreNotesOf (take (c.loop-cell.cell-index + 1) c.args.cells.now.items) notes) (sym c.in_ok-push.ensures.items)
          (notes_more c.args.cells.now.items c.loop-cell.notes.items c.loop-cell.cell-index c.cell-item.result c.note.result c.loop-cell.invariant.notes
          (subst (λ (cells : List Cell). c.loop-cell.cell-index < length cells) gone c.loop-cell-test.true)
          (subst (λ (cells : List Cell). get_or cells c.loop-cell.cell-index c.cell-item.result ≡ c.cell-item.result) gone (sym c.cell-item.is)) c.note.ensures.0);
      nothing = λ at. ap (λ (notes : List (Note Published)). known_at notes at) c.in_ok-push.ensures.items ∙ nothing_more c.loop-cell.notes.items
          c.note.result c.loop-cell.invariant.nothing c.note.ensures.1 at;
    }
