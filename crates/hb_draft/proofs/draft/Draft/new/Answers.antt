use Rattle.std.proofs.Common.{refl}
use Rattle.hb_draft.specs.Unfinished.{in_hand}
use Rattle.hb_draft.proofs.Empty.{nothing_draft}
use Rattle.hb_draft.proofs.draft.Draft.new.Goals as goal

pub invariant_of-result : goal.invariant_of-result
invariant_of-result c =
    rw (
      c.new.ensures,
      c.new-2.ensures,
      c.new-3.ensures,
      c.new-4.ensures.items,
      c.new-5.ensures.items,
      c.new-6.ensures.items,
      c.new-7.ensures.items,
      c.new-8.ensures.items,
      c.new-9.ensures.items,
      c.new-10.ensures.items,
    ) (record { draft = nothing_draft; same = refl })

pub returns-clause-hand : goal.returns-clause-hand
unfolding in_hand
returns-clause-hand c = rw c.new-9.ensures.items

pub returns-clause-made : goal.returns-clause-made
unfolding in_hand
returns-clause-made c =
    rw (c.new.ensures, c.new-2.ensures, c.new-3.ensures, c.new-4.ensures.items, c.new-5.ensures.items, c.new-6.ensures.items, c.new-7.ensures.items, c.new-8.ensures.items, c.new-9.ensures.items) refl
