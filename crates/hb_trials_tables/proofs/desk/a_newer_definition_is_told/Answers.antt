use Rattle.std.proofs.Common.{◌≡◌, [], refl, ap, ◌∙◌}
use Rattle.hb_tables.specs.Answers.{Fixed}
use Rattle.hb_tables.specs.Plain.{Tables}
use Rattle.hb_tables.specs.Standing.{standing}
use Rattle.hb_tables.proofs.AddingLemmas.{held_after}
use Rattle.hb_tables.proofs.DeskLemmas.{def_apart, learns_acts, holds_on}
use Rattle.hb_trials_tables.proofs.desk.a_newer_definition_is_told.Goals as goal

pub decide-late-requires-clause-held : goal.decide-late-requires-clause-held
decide-late-requires-clause-held g c =
    let none : c.reserve.new.self.tables.now.log ≡ [] = c.reserve.ensures.front ∙ ap (λ (t : Tables). t.log) c.desk-desk.ensures.tables ∙ c.in_ok-tables.ensures.0 in
    let held = held_after c.reserve.new.self.tables.now.caller c.reserve.new.self.tables.now.log c.hold.new.self.tables.now.log (record { 0 = 1 })
    (record { 0 = 3 }) c.hold.result.ty c.hold.result.changes c.hold.ensures.entry (rw none refl) in
    let still = holds_on c.reserve.new.self.tables.now.caller c.hold.new.self.tables.now.caller 1 3 c.hold.new.self.tables.now.log c.hold.new.self.tables.now.log
    (ap (λ (f : Fixed). f.caller) c.hold.ensures.fixed) refl held in
    let first = holds_on c.hold.new.self.tables.now.caller c.set_def-first.new.self.tables.now.caller 1 3 c.hold.new.self.tables.now.log c.set_def-first.new.self.tables.now.log
    (ap (λ (f : Fixed). f.caller) c.set_def-first.ensures.fixed)
    (def_apart c.hold.new.self.tables.now.caller 1 c.hold.new.self.tables.now.log c.set_def-first.new.self.tables.now.log (record { 0 = 3 })
    (record { 0 = 4 }) c.set_def-first.result c.set_def-first.ensures.entry) still in
    let look = holds_on c.set_def-first.new.self.tables.now.caller c.look-look.new.self.tables.now.caller 1 3 c.set_def-first.new.self.tables.now.log c.look-look.new.self.tables.now.log
    (ap (λ (f : Fixed). f.caller) c.look-look.ensures.fixed)
    (ap (standing 1) (learns_acts c.set_def-first.new.self.tables.now.caller c.set_def-first.new.self.tables.now.log c.look-look.new.self.tables.now.log c.look-look.ensures.seen.0)) first in
    holds_on c.look-look.new.self.tables.now.caller c.set_def-second.new.self.tables.now.caller 1 3 c.look-look.new.self.tables.now.log c.set_def-second.new.self.tables.now.log
    (ap (λ (f : Fixed). f.caller) c.set_def-second.ensures.fixed)
    (def_apart c.look-look.new.self.tables.now.caller 1 c.look-look.new.self.tables.now.log c.set_def-second.new.self.tables.now.log (record { 0 = 3 })
    (record { 0 = 5 }) c.set_def-second.result c.set_def-second.ensures.entry) look

pub decide-late-requires-clause-owned : goal.decide-late-requires-clause-owned
decide-late-requires-clause-owned g c = decide-late-requires-clause-held g c
