use Rattle.std.proofs.Common.{◌≡◌, ◌-◌, ◌≤◌, length}
use Rattle.hb_turns.specs.Collecting.{AreCollected}
use Rattle.hb_turns.specs.Players.{AreOver, GoOn}
use Rattle.hb_turns.proofs.ordered.play_out.Given as goal

abbrev pub invariant-loop-at : goal.invariant-loop-at
invariant-loop-at l =
    (l.tables.limit ≡ l.initial.tables.limit) × (l.at ≤ length l.players.items) × AreOver l.at l.players.items
    × GoOn l.prog l.tables.limit l.initial.names l.names l.initial.tables.log l.tables.log l.initial.players.items l.players.items
    × AreCollected l.prog l.initial.names l.names l.initial.tables.log l.tables.log l.initial.share l.share

abbrev pub decreases-loop-at : goal.decreases-loop-at
decreases-loop-at l = length l.players.items - l.at
