use Rattle.std.proofs.Common.{◌≡◌, drop}
use Rattle.hb_check.specs.Looking.{site_among}
use Rattle.hb_check.proofs.notes.Notes.site_of.Given as goal

-- the sites of the uses that are left
abbrev pub invariant-loop-used : goal.invariant-loop-used
invariant-loop-used l = site_among l.fn.self.uses.items (l.fn.class.0, l.fn.name.0) ≡ site_among (drop l.used-index l.fn.self.uses.items) (l.fn.class.0, l.fn.name.0)
