use Rattle.hb_tables.specs.History.{spot}
use Rattle.hb_trials_words.proofs.CallsLemmas.{idle_free, idle_few, holds_own}
use Rattle.hb_trials_words.proofs.calls.hold.Goals as goal

pub hold-requires-clause-free : goal.hold-requires-clause-free
hold-requires-clause-free g c = idle_free _ 1 _ c.requires.idle

pub hold-requires-clause-few : goal.hold-requires-clause-few
hold-requires-clause-few g c = idle_few (g.D.Desk.fixed c.args.desk.now).caller (spot 0 (g.D.Desk.front c.args.desk.now)).calls c.requires.idle

pub returns-clause-held : goal.returns-clause-held
returns-clause-held g c = holds_own _ _ _ _ _ c.hold.ensures.entry c.requires.idle
