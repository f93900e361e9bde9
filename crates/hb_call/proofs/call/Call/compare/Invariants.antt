use Rattle.std.proofs.Common.{◌≡◌, [], None, take}
use Rattle.hb_call.specs.{Calling.IsAsking, Calling.IsCalling, Comparing.answers_kept}
use Rattle.hb_call.specs.Seen.{GoesOn, given_of, moment_of}
use Rattle.hb_call.proofs.call.Call.compare.Given as goal

-- the first uses were compared, and their types are as they were
abbrev pub invariant-loop-i : goal.invariant-loop-i
invariant-loop-i g l = record {
  calling : IsCalling l.self.prog.now (g.D.Desk.fixed l.self.desk.now) l.self.q.0 (g.N.Names.known l.self.names.now) (g.N.Names.asked l.self.names.now)
      (g.D.Desk.front l.self.desk.now) l.self.key l.self.own l.self.held.now.items (take l.i (answers_kept l.fn.kept));
  alike : GoesOn g.D.Desk.fixed g.D.Desk.front g.N.Names.known g.N.Names.asked l.fn.self l.self;
  asking : IsAsking (given_of g.D.Desk.fixed l.fn.self) (moment_of g.D.Desk.front g.N.Names.known g.N.Names.asked l.fn.self) (moment_of g.D.Desk.front g.N.Names.known g.N.Names.asked l.self) []
      (take l.i (answers_kept l.fn.kept));
  answers : l.self.answers.now.items ≡ [];
  compared : l.self.compared.now.items ≡ [];
  refused : l.self.refused ≡ None;
  names : l.self.names ≡ l.fn.self.names;
}
