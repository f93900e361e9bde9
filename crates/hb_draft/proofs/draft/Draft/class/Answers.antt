use Rattle.std.proofs.Common.{◌∙◌, ap}
use Rattle.std.specs.{Prelude.bytes_eq, List.position_or_len}
use Rattle.hb_draft.proofs.{WordLists.number-new, MadeLemmas.class-made, Named.class_kept, Named.class_made}
use Rattle.hb_draft.specs.Unfinished.{Unfinished}
use Rattle.hb_draft.proofs.draft.Draft.class.Goals as goal

pub invariant_of-self-2 : goal.invariant_of-self-2
invariant_of-self-2 c = rw c.in_ok-i.ensures.words (class_kept _ _ c.self.view_is _ c.self.invariant c.args.name.now c.requires.word c.requires.fresh c.requires.room)

pub returns-clause-class : goal.returns-clause-class
returns-clause-class c = rw c.in_ok-i.ensures.words (class_made _ _ c.self.view_is _ c.self.invariant c.args.name.now c.requires.word c.requires.fresh c.requires.room)

pub returns-clause-number : goal.returns-clause-number
returns-clause-number c =
    c.in_ok-i.ensures.number ∙ ap (λ (d : Unfinished). position_or_len (bytes_eq c.args.name.now) d.table.classes) c.self.view_is
    ∙ number-new (bytes_eq c.args.name.now) c.args.self.now.table.classes c.requires.fresh

pub returns-clause-made : goal.returns-clause-made
returns-clause-made c = class-made _ _ c.args.name.now (returns-clause-class c)
