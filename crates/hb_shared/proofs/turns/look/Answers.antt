use Rattle.std.proofs.Common.{sym, arith}
use Rattle.once_cell.specs.Once.{cell_name}
use Rattle.hb_shared.specs.Notes.{cell_of}
use Rattle.hb_shared.proofs.NoteLemmas.{as_many, same_at, notes_set, learned, looked, sees}
use Rattle.hb_shared.proofs.turns.look.Goals as goal

pub get_as-requires : goal.get_as-requires
get_as-requires c = same_at cell_of cell_name c.args.notes.now.items c.args.cells.now.items c.args.at c.index_mut.result.now c.index.result.now
    c.requires.notes c.requires.at (sym c.index_mut.ensures.value) (sym c.index.ensures)

pub returns-clause-notes : goal.returns-clause-notes
returns-clause-notes c = notes_set c.args.cells.now.items c.args.notes.now.items c.args.at c.index_mut.result.now c.get_as.new.note
    c.requires.notes (sym c.index_mut.ensures.value) c.get_as.ensures.cell

pub returns-clause-learns : goal.returns-clause-learns
returns-clause-learns c =
    learned c.args.notes.now.items c.args.at c.index_mut.result.now c.get_as.new.note (omega (
      arith,
      c.requires.at,
      as_many cell_of cell_name
          c.args.notes.now.items c.args.cells.now.items c.requires.notes,
    )) (sym c.index_mut.ensures.value)
    (looked (λ r. r.now) c.get_as.result c.index_mut.result.now.known c.get_as.new.note.known c.get_as.ensures.value)

pub returns-clause-seen : goal.returns-clause-seen
returns-clause-seen c =
    sees (λ r. r.now) c.get_as.result c.args.notes.now.items c.args.at c.index_mut.result.now c.get_as.new.note
    (omega (arith, c.requires.at, as_many cell_of cell_name c.args.notes.now.items c.args.cells.now.items c.requires.notes)) (sym c.index_mut.ensures.value) c.get_as.ensures.value
