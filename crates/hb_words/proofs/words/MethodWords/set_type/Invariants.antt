use Rattle.std.proofs.Common.{◌≡◌, ◌<◌, ◌-◌, length}
use Rattle.hb_tables.specs.History.{spot}
use Rattle.hb_words.specs.Layout.{type_word, changes_in, pins_in}
use Rattle.hb_words.specs.Words.{IsSeatOf, Looks}
use Rattle.hb_words.proofs.words.MethodWords.set_type.Given as goal

abbrev pub invariant-loop-answer : goal.invariant-loop-answer
invariant-loop-answer l =
    IsSeatOf l.self.table.shared.table_id l.self.table.shared.key l.seat.place × Looks l.fn.seat.place.me.0 l.seat.place.me.0
    × (l.found ≡ type_word (spot l.key.0 l.seat.place.me.0.seen)) × (length (spot l.key.0 l.seat.place.me.0.seen).calls ≡ 0) × (pins_in l.found ≡ 0) × (changes_in l.found < l.seat.place.me.0.limit)

abbrev pub decreases-loop-answer : goal.decreases-loop-answer
decreases-loop-answer l = l.seat.place.me.0.limit - changes_in l.found
