use Rattle.std.proofs.Common.{◌≡◌, [], refl, ap, ◌∙◌}
use Rattle.hb_tables.specs.Answers.{Fixed}
use Rattle.hb_tables.specs.Plain.{Tables}
use Rattle.hb_tables.specs.Standing.{standing}
use Rattle.hb_tables.proofs.AddingLemmas.{held_after}
use Rattle.hb_tables.proofs.DeskLemmas.{decides_apart, learns_acts, holds_on}
use Rattle.hb_trials_tables.proofs.desk.a_call_is_decided.Goals as goal

pub decide-decided-requires-clause-held : goal.decide-decided-requires-clause-held
decide-decided-requires-clause-held g c =
    let none : c.reserve.new.self.tables.now.log ≡ [] = c.reserve.ensures.front ∙ ap (λ (t : Tables). t.log) c.desk-desk.ensures.tables ∙ c.in_ok-tables.ensures.0 in
    let held = held_after c.reserve.new.self.tables.now.caller c.reserve.new.self.tables.now.log c.hold.new.self.tables.now.log (record { 0 = 1 })
    (record { 0 = 3 }) c.hold.result.ty c.hold.result.changes c.hold.ensures.entry (rw none refl) in
    let still = holds_on c.reserve.new.self.tables.now.caller c.hold.new.self.tables.now.caller 1 3 c.hold.new.self.tables.now.log c.hold.new.self.tables.now.log
    (ap (λ (f : Fixed). f.caller) c.hold.ensures.fixed) refl held in
    holds_on c.hold.new.self.tables.now.caller c.look-look.new.self.tables.now.caller 1 3 c.hold.new.self.tables.now.log c.look-look.new.self.tables.now.log (ap (λ (f : Fixed). f.caller) c.look-look.ensures.fixed)
    (ap (standing 1) (learns_acts c.hold.new.self.tables.now.caller c.hold.new.self.tables.now.log c.look-look.new.self.tables.now.log c.look-look.ensures.seen.0)) still

pub decide-decided-requires-clause-owned : goal.decide-decided-requires-clause-owned
decide-decided-requires-clause-owned g c = decide-decided-requires-clause-held g c

pub free-requires-clause-held : goal.free-requires-clause-held
free-requires-clause-held g c =
    let none : c.reserve.new.self.tables.now.log ≡ [] = c.reserve.ensures.front ∙ ap (λ (t : Tables). t.log) c.desk-desk.ensures.tables ∙ c.in_ok-tables.ensures.0 in
    let held = held_after c.reserve.new.self.tables.now.caller c.reserve.new.self.tables.now.log c.hold.new.self.tables.now.log (record { 0 = 1 })
    (record { 0 = 3 }) c.hold.result.ty c.hold.result.changes c.hold.ensures.entry (rw none refl) in
    let still = holds_on c.reserve.new.self.tables.now.caller c.hold.new.self.tables.now.caller 1 3 c.hold.new.self.tables.now.log c.hold.new.self.tables.now.log
    (ap (λ (f : Fixed). f.caller) c.hold.ensures.fixed) refl held in
    let look = holds_on c.hold.new.self.tables.now.caller c.look-look.new.self.tables.now.caller 1 3 c.hold.new.self.tables.now.log c.look-look.new.self.tables.now.log
    (ap (λ (f : Fixed). f.caller) c.look-look.ensures.fixed)
    (ap (standing 1) (learns_acts c.hold.new.self.tables.now.caller c.hold.new.self.tables.now.log c.look-look.new.self.tables.now.log c.look-look.ensures.seen.0)) still in
    holds_on c.look-look.new.self.tables.now.caller c.decide-decided.new.self.tables.now.caller 1 3 c.look-look.new.self.tables.now.log c.decide-decided.new.self.tables.now.log
    (ap (λ (f : Fixed). f.caller) c.decide-decided.ensures.fixed)
    (decides_apart c.look-look.new.self.tables.now.caller 1 c.look-look.new.self.tables.now.log c.decide-decided.new.self.tables.now.log (record { 0 = 1 }) (record { 0 = 3 })
    (record { 0 = 3 }) c.look-look.result _ _ c.decide-decided.result c.decide-decided.ensures.answer) look
