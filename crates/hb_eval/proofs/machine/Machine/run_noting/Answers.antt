use Rattle.std.proofs.Common.{rules, ◌≡◌, ◌+◌, ◌++◌, OnOk, subst, sym, ap, ◌∙◌}
use Rattle.hb_tables.specs.Answers.{Fixed}
use Rattle.hb_tables.specs.Frames.{acts}
use Rattle.hb_eval.specs.Gathering.{Shares}
use Rattle.hb_eval.specs.Holding.{Holding, frames_of}
use Rattle.hb_eval.specs.Machines.{Advances}
use Rattle.hb_eval.specs.Noting.{entries}
use Rattle.hb_eval.specs.Staying.{Stays}
use Rattle.hb_eval.proofs.NotingLemmas.{lent_same, lent_stays, noted_ok}
use Rattle.hb_eval.proofs.machine.Machine.run_noting.Goals as goal

pub returns-then-missed-clause-holding : goal.returns-then-missed-clause-holding
returns-then-missed-clause-holding g c =
    let same = lent_same _ _ _ _ c.run-ended.ensures.stays.fixed in
    let name = same.0 in
    let door : c.run-ended.new.desk.desk.desk.now ≡ c.desk-1.given.0 = search rules in
    subst (λ (d : g.row.D.Denot). Holding (g.D.Desk.fixed c.args.desk.now).caller (c.run-ended.new.self.state.made + 1) (frames_of c.run-ended.new.self.frames.items) (g.D.Desk.front d)) door c.run-ended.ensures.holding

pub returns-then-missed-clause-stays : goal.returns-then-missed-clause-stays
returns-then-missed-clause-stays g c =
    let same = lent_same _ _ _ _ c.run-ended.ensures.stays.fixed in
    let name = same.0 in
    let door : c.run-ended.new.desk.desk.desk.now ≡ c.desk-1.given.0 = search rules in
    subst (λ (d : g.row.D.Denot). Stays (g.D.Desk.fixed c.args.desk.now) (g.D.Desk.fixed d) (g.D.Desk.front c.args.desk.now) (g.D.Desk.front d) (g.N.Names.known c.args.names.now) (g.N.Names.known c.run-ended.new.names)) door (lent_stays _ _ _ _ _ _ _ _ c.run-ended.ensures.stays)

pub returns-clause-advances : goal.returns-clause-advances
returns-clause-advances g c =
    let same = lent_same _ _ _ _ c.run-ended.ensures.stays.fixed in
    let name = same.0 in
    let door : c.run-ended.new.desk.desk.desk.now ≡ c.desk-1.given.0 = search rules in
    subst (λ (d : g.row.D.Denot). OnOk c.run-ended.result (Advances c.args.prog.now (g.D.Desk.fixed c.args.desk.now).caller (g.N.Names.known c.args.names.now) (g.N.Names.known c.run-ended.new.names) (g.N.Names.asked c.args.names.now) (g.N.Names.asked c.run-ended.new.names) (g.D.Desk.front c.args.desk.now) (g.D.Desk.front d) c.args.self.now c.run-ended.new.self)) door c.run-ended.ensures.advances

pub returns-clause-quiet : goal.returns-clause-quiet
returns-clause-quiet g c =
    let same = lent_same _ _ _ _ c.run-ended.ensures.stays.fixed in
    let name = same.0 in
    let door : c.run-ended.new.desk.desk.desk.now ≡ c.desk-1.given.0 = search rules in
    subst (λ (d : g.row.D.Denot). OnOk c.run-ended.result (c.run-ended.new.self.state.begun ≡ c.args.self.now.state.begun → g.D.Desk.front d ≡ g.D.Desk.front c.args.desk.now)) door c.run-ended.ensures.quiet

pub returns-clause-holding : goal.returns-clause-holding
returns-clause-holding g c =
    let same = lent_same _ _ _ _ c.run-ended.ensures.stays.fixed in
    let name = same.0 in
    let door : c.run-ended.new.desk.desk.desk.now ≡ c.desk-1.given.0 = search rules in
    subst (λ (d : g.row.D.Denot). Holding (g.D.Desk.fixed c.args.desk.now).caller (c.run-ended.new.self.state.made + 1) (frames_of c.run-ended.new.self.frames.items) (g.D.Desk.front d)) door c.run-ended.ensures.holding

pub returns-clause-stays : goal.returns-clause-stays
returns-clause-stays g c =
    let same = lent_same _ _ _ _ c.run-ended.ensures.stays.fixed in
    let name = same.0 in
    let door : c.run-ended.new.desk.desk.desk.now ≡ c.desk-1.given.0 = search rules in
    subst (λ (d : g.row.D.Denot). Stays (g.D.Desk.fixed c.args.desk.now) (g.D.Desk.fixed d) (g.D.Desk.front c.args.desk.now) (g.D.Desk.front d) (g.N.Names.known c.args.names.now) (g.N.Names.known c.run-ended.new.names)) door (lent_stays _ _ _ _ _ _ _ _ c.run-ended.ensures.stays)

pub returns-clause-shares : goal.returns-clause-shares
returns-clause-shares g c =
    let same = lent_same _ _ _ _ c.run-ended.ensures.stays.fixed in
    let name = same.0 in
    let door : c.run-ended.new.desk.desk.desk.now ≡ c.desk-1.given.0 = search rules in
    subst (λ (d : g.row.D.Denot). OnOk c.run-ended.result (Shares c.args.prog.now (g.N.Names.known c.run-ended.new.names) (g.D.Desk.fixed c.args.desk.now).caller (g.D.Desk.front c.args.desk.now) (g.D.Desk.front d) c.args.share.now c.run-ended.new.share)) door c.run-ended.ensures.shares

pub returns-clause-notes : goal.returns-clause-notes
returns-clause-notes g c =
    let same = lent_same _ _ _ _ c.run-ended.ensures.stays.fixed in
    let name = same.0 in
    let door : c.run-ended.new.desk.desk.desk.now ≡ c.desk-1.given.0 = search rules in
    let made = c.run-ended.new.desk in
    subst (λ (d : g.row.D.Denot). OnOk c.run-ended.result (entries c.args.self.now.caller (acts (g.D.Desk.fixed c.args.desk.now).caller (g.D.Desk.front d)) ≡ g.B.Begun.before ++ made.notes.items)) door
    (noted_ok c.run-ended.result
    (ap (λ x. entries x (acts (g.D.Desk.fixed c.args.desk.now).caller (g.D.Desk.front made.desk.desk.now))) (sym (made.whose ∙ c.requires.caller))
    ∙ ap (λ (f : Fixed). entries made.caller (acts f.caller (g.D.Desk.front made.desk.desk.now))) (sym same.1)
    ∙ made.noted c.if-missed.false))
