use Rattle.hb_tables.proofs.{HoldingLemmas.holds_since, HoldingLemmas.since_holds, StandingLemmas.held_stands, HistoryLemmas.own_calls}
use Rattle.hb_tables.proofs.laws.calls_hold_until_they_free.Goals as goal

pub returns : goal.returns
returns c = record {
  held = λ limit c q key log legal. (holds_since c q key log, since_holds limit c q key log legal);
  standing = held_stands;
  own = own_calls;
}
