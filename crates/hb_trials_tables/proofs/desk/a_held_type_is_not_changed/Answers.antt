use Rattle.std.proofs.Common.{◌≡◌, [], refl, ap, ◌∙◌}
use Rattle.hb_tables.specs.Answers.{Fixed}
use Rattle.hb_tables.specs.Plain.{Tables}
use Rattle.hb_tables.proofs.AddingLemmas.{held_after}
use Rattle.hb_tables.proofs.DeskLemmas.{type_apart, holds_on}
use Rattle.hb_trials_tables.proofs.desk.a_held_type_is_not_changed.Goals as goal

pub free-requires-clause-held : goal.free-requires-clause-held
free-requires-clause-held g c =
    let none : c.reserve.new.self.tables.now.log ≡ [] = c.reserve.ensures.front ∙ ap (λ (t : Tables). t.log) c.desk-desk.ensures.tables ∙ c.in_ok-tables.ensures.0 in
    let held = held_after c.reserve.new.self.tables.now.caller c.reserve.new.self.tables.now.log c.hold-held.new.self.tables.now.log (record { 0 = 1 })
    (record { 0 = 3 }) c.hold-held.result.ty c.hold-held.result.changes c.hold-held.ensures.entry (rw none refl) in
    let still = holds_on c.reserve.new.self.tables.now.caller c.hold-held.new.self.tables.now.caller 1 3 c.hold-held.new.self.tables.now.log c.hold-held.new.self.tables.now.log
    (ap (λ (f : Fixed). f.caller) c.hold-held.ensures.fixed) refl held in
    holds_on c.hold-held.new.self.tables.now.caller c.set_type-busy.new.self.tables.now.caller 1 3 c.hold-held.new.self.tables.now.log c.set_type-busy.new.self.tables.now.log
    (ap (λ (f : Fixed). f.caller) c.set_type-busy.ensures.fixed)
    (type_apart c.hold-held.new.self.tables.now.caller 1 c.hold-held.new.self.tables.now.log c.set_type-busy.new.self.tables.now.log (record { 0 = 3 })
    (record { 0 = 5 }) c.set_type-busy.result c.set_type-busy.ensures.entry) still
