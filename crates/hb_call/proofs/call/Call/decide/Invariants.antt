use Rattle.std.proofs.Common.{◌≡◌, ◌≤◌, false, length, ℕ, ◌-◌, [], Some, None, List}
use Rattle.hb_names.specs.Names.{place}
use Rattle.hb_names.specs.declared.names.TheConstants.{NAMES_MAX}
use Rattle.hb_tables.specs.Frames.{acts}
use Rattle.hb_call.specs.Calling.{FitsSince, HasLooked, IsArgKinds, fits_of}
use Rattle.hb_call.specs.Seen.{GoesOn, IsUnderWay, KeepsOwn, given_of, moment_of}
use Rattle.hb_call.proofs.call.Call.decide.Given as goal

-- the call goes on with a look that is true of what its caller has seen
abbrev pub invariant-loop-ruling : goal.invariant-loop-ruling
invariant-loop-ruling g l = record {
  calling : IsUnderWay g.D.Desk.fixed g.D.Desk.front g.N.Names.known g.N.Names.asked l.self;
  args : IsArgKinds l.self.args;
  answers : l.self.answers.now.items ≡ [];
  compared : l.self.compared.now.items ≡ [];
  few : length (g.N.Names.known l.self.names.now) ≤ NAMES_MAX;
  own : KeepsOwn None g.D.Desk.fixed g.D.Desk.front g.N.Names.known g.N.Names.asked l.self;
  refused : l.self.refused ≡ None;
  named : (bytes : List ℕ) × (place (g.N.Names.known l.self.names.now) (l.self.class.0, bytes) ≡ Some l.self.key.0);
  unfit : fits_of (given_of g.D.Desk.fixed l.fn.self) ≡ false → acts (g.D.Desk.fixed l.fn.self.desk.now).caller (g.D.Desk.front l.self.desk.now) ≡ acts (g.D.Desk.fixed l.fn.self.desk.now).caller (g.D.Desk.front l.fn.self.desk.now);
  looked : HasLooked (g.D.Desk.fixed l.self.desk.now).caller l.self.q l.self.key l.look (g.D.Desk.front l.self.desk.now);
  rules : FitsSince (given_of g.D.Desk.fixed l.fn.self) (moment_of g.D.Desk.front g.N.Names.known g.N.Names.asked l.fn.self) (moment_of g.D.Desk.front g.N.Names.known g.N.Names.asked l.self);
  alike : GoesOn g.D.Desk.fixed g.D.Desk.front g.N.Names.known g.N.Names.asked l.fn.self l.self;
  names : g.N.Names.alike l.fn.self.names.now l.self.names.now;
}

-- each newer look tells of more changes
abbrev pub decreases-loop-ruling : goal.decreases-loop-ruling
decreases-loop-ruling g l = 4294967296 - l.look.changes
