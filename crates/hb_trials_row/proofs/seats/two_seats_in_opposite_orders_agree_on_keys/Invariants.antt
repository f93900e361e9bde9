use Rattle.hb_row.specs.Seats.{IsSeatOf}
use Rattle.hb_trials_row.proofs.seats.two_seats_in_opposite_orders_agree_on_keys.Given as goal

abbrev pub invariant-loop-rising : goal.invariant-loop-rising
invariant-loop-rising g l = record { first : IsSeatOf l.row.table.shared.table_id l.first; second : IsSeatOf l.row.table.shared.table_id l.second }
