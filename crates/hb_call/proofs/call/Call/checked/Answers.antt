use Rattle.std.proofs.Common.{◌++◌, Some, refl, sym, subst}
use Rattle.hb_tables.specs.Rows.{declared_in, kinds_of}
use Rattle.hb_call.specs.declared.answers.Answer.{Answer}
use Rattle.hb_call.specs.Calling.{Given, IsCalling, IsRefusedRightly, refusal_of}
use Rattle.hb_call.specs.{Causes.look_cause, Comparing.HasDiffered, Deciding.IsRuledAt, Deciding.told, Entering.IsRightlyFor, Seen.given_of, Seen.moment_of}
use Rattle.hb_names.proofs.NameLemmas.{place-longer}
use Rattle.std.specs.Prelude.{List}
use Rattle.hb_call.proofs.{DecidingLemmas.agrees, FullLemmas.if_err, FullLemmas.rightly, MarkLemmas.marks_told, RulingLemmas.ruled_by, RulingLemmas.takes_at, RunsLemmas.live_asked}
use Rattle.hb_call.proofs.LookingLemmas.{answers_next, body_goes, rules_since, true_back}
use Rattle.hb_call.proofs.call.Call.checked.Goals as goal

pub returns-clause-rules : goal.returns-clause-rules
returns-clause-rules g c =
    let s = c.args.self.now in let n = c.check.new.look in let alike = c.check.ensures.alike in let given = given_of g.D.Desk.fixed s in
    let was = moment_of g.D.Desk.front g.N.Names.known g.N.Names.asked s in let m = moment_of g.D.Desk.front g.N.Names.known g.N.Names.asked n in
    let known = g.N.Names.known n.names.now in let log = g.D.Desk.front n.desk.now in
    let calling = subst (λ (h : Given). IsCalling h.t h.door h.q.0 known (g.N.Names.asked n.names.now) log h.key h.own n.held.now.items (n.compared.now.items ++ n.answers.now.items))
    (sym alike.0.same) c.check.ensures.ready.0 in
    let t = c.requires.takes in let typed = takes_at given t c.args.declared c.requires.declared in
    let named = place-longer (g.N.Names.known s.names.now) known (s.class.0, c.requires.named.0) s.key.0 alike.0.goes.went.named c.requires.named.1 in
    let told = true_back given.t known log (given.door.caller, given.q.0) n.compared.now.items n.answers.now.items calling.answered in
    let next = answers_next given c.args.body c.args.declared t.ty typed t.fits c.requires.declared n.answers.now.items (refusal_of n.refused) c.check.result c.check.ensures.answers
    (declared_in given.t known log) (agrees given.t known log (given.door.caller, given.q.0) n.answers.now.items told) in
    rules_since given was m (Some c.args.body) s.answers.now.items n.answers.now.items next calling.legal c.requires.calling.own_is alike.0.goes c.requires.named.0 named c.requires.defined alike.2

pub returns-in_err-found-clause-rules : goal.returns-in_err-found-clause-rules
returns-in_err-found-clause-rules g c =
    let s = c.args.self.now in let n = c.check.new.look in let alike = c.check.ensures.alike in let given = given_of g.D.Desk.fixed s in
    let was = moment_of g.D.Desk.front g.N.Names.known g.N.Names.asked s in let m = moment_of g.D.Desk.front g.N.Names.known g.N.Names.asked n in
    let known = g.N.Names.known n.names.now in let log = g.D.Desk.front n.desk.now in
    let calling = subst (λ (h : Given). IsCalling h.t h.door h.q.0 known (g.N.Names.asked n.names.now) log h.key h.own n.held.now.items (n.compared.now.items ++ n.answers.now.items))
    (sym alike.0.same) c.check.ensures.ready.0 in
    let t = c.requires.takes in let typed = takes_at given t c.args.declared c.requires.declared in
    let named = place-longer (g.N.Names.known s.names.now) known (s.class.0, c.requires.named.0) s.key.0 alike.0.goes.went.named c.requires.named.1 in
    let told = true_back given.t known log (given.door.caller, given.q.0) n.compared.now.items n.answers.now.items calling.answered in
    let next = answers_next given c.args.body c.args.declared t.ty typed t.fits c.requires.declared n.answers.now.items (refusal_of n.refused) c.check.result c.check.ensures.answers
    (declared_in given.t known log) (agrees given.t known log (given.door.caller, given.q.0) n.answers.now.items told) in
    rules_since given was m (Some c.args.body) s.answers.now.items n.answers.now.items next calling.legal c.requires.calling.own_is alike.0.goes c.requires.named.0 named c.requires.defined alike.2

pub returns-clause-live : goal.returns-clause-live
returns-clause-live g c =
    let s = c.args.self.now in let n = c.check.new.look in let alike = c.check.ensures.alike in let given = given_of g.D.Desk.fixed s in
    let was = moment_of g.D.Desk.front g.N.Names.known g.N.Names.asked s in let m = moment_of g.D.Desk.front g.N.Names.known g.N.Names.asked n in
    let known = g.N.Names.known n.names.now in let log = g.D.Desk.front n.desk.now in
    let calling = subst (λ (h : Given). IsCalling h.t h.door h.q.0 known (g.N.Names.asked n.names.now) log h.key h.own n.held.now.items (n.compared.now.items ++ n.answers.now.items))
    (sym alike.0.same) c.check.ensures.ready.0 in
    let t = c.requires.takes in let typed = takes_at given t c.args.declared c.requires.declared in
    let named = place-longer (g.N.Names.known s.names.now) known (s.class.0, c.requires.named.0) s.key.0 alike.0.goes.went.named c.requires.named.1 in
    live_asked given was m s.answers.now.items n.answers.now.items alike.2 alike.0.goes.went.kept

pub returns-in_err-found-clause-live : goal.returns-in_err-found-clause-live
returns-in_err-found-clause-live g c =
    let s = c.args.self.now in let n = c.check.new.look in let alike = c.check.ensures.alike in let given = given_of g.D.Desk.fixed s in
    let was = moment_of g.D.Desk.front g.N.Names.known g.N.Names.asked s in let m = moment_of g.D.Desk.front g.N.Names.known g.N.Names.asked n in
    let known = g.N.Names.known n.names.now in let log = g.D.Desk.front n.desk.now in
    let calling = subst (λ (h : Given). IsCalling h.t h.door h.q.0 known (g.N.Names.asked n.names.now) log h.key h.own n.held.now.items (n.compared.now.items ++ n.answers.now.items))
    (sym alike.0.same) c.check.ensures.ready.0 in
    let t = c.requires.takes in let typed = takes_at given t c.args.declared c.requires.declared in
    let named = place-longer (g.N.Names.known s.names.now) known (s.class.0, c.requires.named.0) s.key.0 alike.0.goes.went.named c.requires.named.1 in
    live_asked given was m s.answers.now.items n.answers.now.items alike.2 alike.0.goes.went.kept

pub returns-in_err-found-clause-rightly : goal.returns-in_err-found-clause-rightly
returns-in_err-found-clause-rightly g c =
    let s = c.args.self.now in let n = c.check.new.look in let alike = c.check.ensures.alike in let given = given_of g.D.Desk.fixed s in
    let was = moment_of g.D.Desk.front g.N.Names.known g.N.Names.asked s in let m = moment_of g.D.Desk.front g.N.Names.known g.N.Names.asked n in
    let known = g.N.Names.known n.names.now in let log = g.D.Desk.front n.desk.now in
    let calling = subst (λ (h : Given). IsCalling h.t h.door h.q.0 known (g.N.Names.asked n.names.now) log h.key h.own n.held.now.items (n.compared.now.items ++ n.answers.now.items))
    (sym alike.0.same) c.check.ensures.ready.0 in
    let t = c.requires.takes in let typed = takes_at given t c.args.declared c.requires.declared in
    let named = place-longer (g.N.Names.known s.names.now) known (s.class.0, c.requires.named.0) s.key.0 alike.0.goes.went.named c.requires.named.1 in
    let differed = subst (λ (l : List Answer). HasDiffered given c.args.body l) alike.3 c.requires.differed in
    let cause = c.in_err-found.field-0.0 in
    let right = subst (λ (h : Given). IsRefusedRightly h.t known n.refused) (sym alike.0.same) c.check.ensures.ready.1 in
    let body = body_goes given was m (Some c.args.body) alike.0.goes c.requires.defined in
    let told = rightly given m c.args.body c.args.declared t.ty
    (kinds_of s.args) typed t.fits c.requires.declared n.held.now.items n.compared.now.items n.answers.now.items n.refused calling differed.next refl c.requires.named.0 named body right
    cause c.in_err-found.ensures.answers in
    if_err (IsRightlyFor n.prog.now known (g.D.Desk.fixed n.desk.now).caller n.q n.key log) c.from_residual.result (look_cause cause) c.from_residual.ensures.1
    (subst (λ (h : Given). IsRightlyFor h.t known h.door.caller h.q h.key log (look_cause cause)) alike.0.same told)

pub returns-clause-ruled : goal.returns-clause-ruled
returns-clause-ruled g c =
    let s = c.args.self.now in let n = c.check.new.look in let alike = c.check.ensures.alike in let given = given_of g.D.Desk.fixed s in
    let was = moment_of g.D.Desk.front g.N.Names.known g.N.Names.asked s in let m = moment_of g.D.Desk.front g.N.Names.known g.N.Names.asked n in
    let known = g.N.Names.known n.names.now in let log = g.D.Desk.front n.desk.now in
    let calling = subst (λ (h : Given). IsCalling h.t h.door h.q.0 known (g.N.Names.asked n.names.now) log h.key h.own n.held.now.items (n.compared.now.items ++ n.answers.now.items))
    (sym alike.0.same) c.check.ensures.ready.0 in
    let t = c.requires.takes in let typed = takes_at given t c.args.declared c.requires.declared in
    let named = place-longer (g.N.Names.known s.names.now) known (s.class.0, c.requires.named.0) s.key.0 alike.0.goes.went.named c.requires.named.1 in
    let differed = subst (λ (l : List Answer). HasDiffered given c.args.body l) alike.3 c.requires.differed in
    let r = ruled_by given m n.held.now.items n.compared.now.items n.answers.now.items c.args.body c.args.declared
    (refusal_of n.refused) c.in_ok-found.found t c.requires.declared c.in_ok-found.ensures.answers differed calling in
    rw (c.told.ensures) (subst (λ (h : Given). IsRuledAt h m n.held.now.items n.answers.now.items (Some c.args.body) (told c.args.body c.in_ok-found.found)) alike.0.same r)

pub returns-clause-marks : goal.returns-clause-marks
returns-clause-marks g c =
    let n = c.check.new.look in
    rw (c.told.ensures) (marks_told n.key n.cache.now n.held.now.items c.args.body c.in_ok-found.found)
