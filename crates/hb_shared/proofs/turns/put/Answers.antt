use Rattle.std.proofs.Common.{sym, arith}
use Rattle.once_cell.specs.Once.{cell_name}
use Rattle.hb_shared.specs.Notes.{cell_of}
use Rattle.hb_shared.proofs.NoteLemmas.{as_many, same_at, notes_set, learned, agreed, puts}
use Rattle.hb_shared.proofs.turns.put.Goals as goal

pub set_as-requires : goal.set_as-requires
set_as-requires c = same_at cell_of cell_name c.args.notes.now.items c.args.cells.now.items c.args.at c.index_mut.result.now c.index.result.now
    c.requires.notes c.requires.at (sym c.index_mut.ensures.value) (sym c.index.ensures)

pub returns-clause-notes : goal.returns-clause-notes
returns-clause-notes c = notes_set c.args.cells.now.items c.args.notes.now.items c.args.at c.index_mut.result.now c.set_as.new.note
    c.requires.notes (sym c.index_mut.ensures.value) c.set_as.ensures.cell

pub returns-clause-learns : goal.returns-clause-learns
returns-clause-learns c =
    let known = c.set_as.ensures.known in
    learned c.args.notes.now.items c.args.at c.index_mut.result.now c.set_as.new.note (omega (
      arith,
      c.requires.at,
      as_many cell_of cell_name
          c.args.notes.now.items c.args.cells.now.items c.requires.notes,
    )) (sym c.index_mut.ensures.value)
    (agreed c.index_mut.result.now.known c.set_as.new.note.known known.0 known.1 known.2)

pub returns-clause-put : goal.returns-clause-put
returns-clause-put c =
    let known = c.set_as.ensures.known in
    puts (λ back. back.value) c.args.item.value c.set_as.result c.args.notes.now.items c.args.at c.index_mut.result.now c.set_as.new.note
    (omega (arith, c.requires.at, as_many cell_of cell_name c.args.notes.now.items c.args.cells.now.items c.requires.notes)) (sym c.index_mut.ensures.value) known.0 known.1 c.set_as.ensures.value
