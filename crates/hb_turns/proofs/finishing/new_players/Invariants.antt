use Rattle.std.proofs.Common.{◌≡◌, ◌-◌, ◌≤◌, ℕ, List, [], length}
use Rattle.hb_names.specs.Names.{Name}
use Rattle.hb_tables.specs.declared.entry.Entry.{Entry}
use Rattle.hb_tables.specs.Frames.{acts}
use Rattle.hb_turns.specs.Players.{ArePlayers}
use Rattle.hb_turns.proofs.finishing.new_players.Given as goal

abbrev pub invariant-loop-at : goal.invariant-loop-at
invariant-loop-at l =
    (l.at ≤ l.count) × (length l.players.items ≡ l.at)
    × ((names : List Name) (log : List Entry) → ((c : ℕ) → 1 ≤ c → acts c log ≡ []) → ArePlayers l.prog l.steps 1 names log [] l.players.items)

abbrev pub decreases-loop-at : goal.decreases-loop-at
decreases-loop-at l = l.count - l.at
