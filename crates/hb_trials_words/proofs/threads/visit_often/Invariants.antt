use Rattle.std.proofs.Common.{◌≡◌, ◌≤◌, ◌*◌, ◌+◌, []}
use Rattle.hb_trials_words.specs.Calls.{calls_of}
use Rattle.hb_trials_words.proofs.threads.visit_often.Given as goal

abbrev pub invariant-loop : goal.invariant-loop
invariant-loop g l =
    (g.D.Desk.fixed l.desk ≡ g.D.Desk.fixed l.initial.desk) × (calls_of (g.D.Desk.fixed l.initial.desk).caller (g.D.Desk.front l.desk) ≡ []) × (2 * l.times ≤ g.D.Desk.spare l.desk + 2 * l.counter)
