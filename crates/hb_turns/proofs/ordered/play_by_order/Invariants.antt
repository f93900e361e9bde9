use Rattle.std.proofs.Common.{◌≡◌, ◌-◌, ◌≤◌, length, map}
use Rattle.std.specs.Prelude.{drop}
use Rattle.hb_turns.specs.Collecting.{AreCollected}
use Rattle.hb_turns.specs.Players.{HaveGone}
use Rattle.hb_turns.proofs.ordered.play_by_order.Given as goal

abbrev pub invariant-loop-next : goal.invariant-loop-next
invariant-loop-next l =
    (length l.players.items ≤ 255) × (l.tables.limit ≡ l.initial.tables.limit) × (l.next ≤ length l.order)
    × HaveGone l.prog l.tables.limit (map (λ x. x.0) l.order) (map (λ x. x.0) (drop l.next l.order)) l.initial.names l.names l.initial.tables.log l.tables.log l.initial.players.items l.players.items
    × AreCollected l.prog l.initial.names l.names l.initial.tables.log l.tables.log l.initial.share l.share

abbrev pub decreases-loop-next : goal.decreases-loop-next
decreases-loop-next l = length l.order - l.next
