use Rattle.std.proofs.Common.{◌≡◌, ◌≤◌, ◌-◌, length, List}
use Rattle.core.specs.Mem.Slots.{slots_items}
use mathlib.Core.List.{IsPrefix}
use Rattle.hb_names.specs.Names.{Name}
use Rattle.hb_names.specs.declared.names.TheConstants.{NAMES_MAX}
use Rattle.hb_row.specs.Seats.{Tells}
use Rattle.hb_row.proofs.gather.read_rest.Given as goal

abbrev pub invariant-loop-count : goal.invariant-loop-count
invariant-loop-count l = record {
  counted : l.count ≡ length l.store.names;
  few : l.count ≤ NAMES_MAX;
  begins : (names : List Name) → Tells (slots_items l.words.words) names → IsPrefix l.fn.store.names names → IsPrefix l.store.names names;
}

abbrev pub decreases-loop-count : goal.decreases-loop-count
decreases-loop-count l = NAMES_MAX - l.count
