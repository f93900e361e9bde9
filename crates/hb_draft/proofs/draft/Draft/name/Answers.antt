use Rattle.std.proofs.Common.{◌∙◌, ap}
use Rattle.hb_draft.proofs.{MadeLemmas.name-made, Named.name_kept, Named.name_made}
use Rattle.hb_draft.specs.{Unfinished.Unfinished, Made.word_number}
use Rattle.hb_draft.proofs.draft.Draft.name.Goals as goal

pub invariant_of-self-2 : goal.invariant_of-self-2
invariant_of-self-2 c = rw c.in_ok-i.ensures.words (name_kept _ _ c.self.view_is _ c.self.invariant c.args.name.now c.requires.word c.requires.room)

pub returns-clause-name : goal.returns-clause-name
returns-clause-name c = rw c.in_ok-i.ensures.words (name_made _ _ c.self.view_is _ c.self.invariant c.args.name.now c.requires.word c.requires.room)

pub returns-clause-index : goal.returns-clause-index
returns-clause-index c = c.in_ok-i.ensures.number ∙ ap (λ (d : Unfinished). word_number d.table.names c.args.name.now) c.self.view_is

pub returns-clause-made : goal.returns-clause-made
returns-clause-made c = name-made _ _ c.args.name.now (returns-clause-name c)
