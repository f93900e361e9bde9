use Rattle.std.proofs.Common.{◌≡◌, ◌≤◌, ◌++◌, List, [], ◌∷◌, Some, None, refl, sym, ap, ◌∙◌, subst, length, take, arith, rules}
use Rattle.std.specs.Prelude.{Option, Result, Bool}
use Rattle.hb_tables.specs.declared.desk.Held.{Held}
use Rattle.hb_call.specs.declared.{answers.Answer.Answer, frame.CallFail.CallFail}
use Rattle.hb_call.specs.declared.frame.CallFail.TheVariants as fail
use Rattle.hb_call.specs.Alike.{alike_itself, alike_on, asking_itself, asking_on}
use Rattle.hb_call.specs.Calling.{Given, IsAsking, IsCalling}
use Rattle.hb_call.specs.Comparing.{HasCompared, HasEnded, answers_differing, answers_kept, said}
use Rattle.hb_call.specs.{GrowthLaws.prefix_itself, OwnCache.IsTrueCheck, OwnLaws.check_on, Seen.given_of, Seen.moment_of}
use Rattle.hb_call.proofs.EndedLemmas.{ends_agreed, ends_differing, ends_failed, ends_unnoted}
use Rattle.hb_call.proofs.NoteLemmas.{answers_length, as_err, seen_at, take_all, take_more, take_other, uses_length}
use Rattle.hb_call.proofs.call.Call.compare.Goals as goal

pub compare_at-requires-clause-check : goal.compare_at-requires-clause-check
compare_at-requires-clause-check g c =
    let o = c.args.self.now in let l = c.loop-i.self in let kept = c.args.kept.now in let inv = c.loop-i.invariant in let i = c.loop-i.i in
    let given = given_of g.D.Desk.fixed o in let was = moment_of g.D.Desk.front g.N.Names.known g.N.Names.asked o in
    let check = c.requires.own.each o.key.0 kept c.requires.kept in
    rw (inv.names) (subst (λ (x : Given). IsTrueCheck x.t (g.N.Names.known o.names.now) (g.N.Names.asked o.names.now) (g.D.Desk.front l.desk.now) kept) inv.alike.same
    (check_on o.prog.now (g.N.Names.known o.names.now) (g.N.Names.known o.names.now) (g.N.Names.asked o.names.now) (g.N.Names.asked o.names.now) (g.D.Desk.front o.desk.now)
    (g.D.Desk.front l.desk.now) (prefix_itself _) (prefix_itself _) inv.alike.goes.went.kept kept check))

pub note-requires-clause-counts : goal.note-requires-clause-counts
note-requires-clause-counts g c =
    let o = c.args.self.now in let l = c.loop-i.self in let kept = c.args.kept.now in let inv = c.loop-i.invariant in let i = c.loop-i.i in
    let given = given_of g.D.Desk.fixed o in let was = moment_of g.D.Desk.front g.N.Names.known g.N.Names.asked o in
    let check = c.requires.own.each o.key.0 kept c.requires.kept in
    uses_length o.prog.now (g.N.Names.known o.names.now) (g.N.Names.asked o.names.now) (g.D.Desk.front o.desk.now) kept.derivation.uses.items kept.counts.items check.uses

pub returns-in_err-held-clause-ended : goal.returns-in_err-held-clause-ended
returns-in_err-held-clause-ended g c =
    let o = c.args.self.now in let l = c.loop-i.self in let kept = c.args.kept.now in let inv = c.loop-i.invariant in let i = c.loop-i.i in
    let given = given_of g.D.Desk.fixed o in let was = moment_of g.D.Desk.front g.N.Names.known g.N.Names.asked o in
    let check = c.requires.own.each o.key.0 kept c.requires.kept in
    let n = c.compare_at.new.self in let is = moment_of g.D.Desk.front g.N.Names.known g.N.Names.asked n in let alike = alike_on _ _ _ _ _ _ inv.alike c.compare_at.ensures.alike in
    let known : g.N.Names.known n.names.now ≡ g.N.Names.known o.names.now = rw (c.compare_at.ensures.names, inv.names) refl in
    let failed = c.in_err-held.ensures.failed in
    let asking : IsAsking given was is [] (take i (answers_kept kept)) = rw (c.compare_at.ensures.names, failed.2) inv.asking in
    let calling : IsCalling given.t given.door given.q.0 (g.N.Names.known n.names.now) (g.N.Names.asked n.names.now) (g.D.Desk.front n.desk.now) given.key given.own n.held.now.items
    (take i (answers_kept kept)) = rw (c.compare_at.ensures.names, failed.2, failed.1)
    (subst (λ (x : Given). IsCalling x.t x.door x.q.0 (g.N.Names.known l.names.now) (g.N.Names.asked l.names.now) (g.D.Desk.front l.desk.now) x.key x.own l.held.now.items
    (take i (answers_kept kept))) (sym inv.alike.same) inv.calling) in
    as_err (λ (r : Result Bool CallFail). HasEnded given (given_of g.D.Desk.fixed n) was is n.held.now.items n.compared.now.items kept.derivation.body r) c.from_residual.result
    c.in_err-held.field-0.0 c.from_residual.ensures.1
    (ends_failed given was kept c.requires.calling.legal c.requires.calling.own_is c.requires.takes c.requires.named.0 c.requires.named.1 c.requires.defined check c.requires.kept c.requires.key c.requires.count
    (given_of g.D.Desk.fixed n) is n.held.now.items n.compared.now.items i c.in_err-held.field-0.0 alike known asking calling failed.0)

pub returns-in_err-note-clause-ended : goal.returns-in_err-note-clause-ended
returns-in_err-note-clause-ended g c =
    let o = c.args.self.now in let l = c.loop-i.self in let kept = c.args.kept.now in let inv = c.loop-i.invariant in let i = c.loop-i.i in
    let given = given_of g.D.Desk.fixed o in let was = moment_of g.D.Desk.front g.N.Names.known g.N.Names.asked o in
    let check = c.requires.own.each o.key.0 kept c.requires.kept in
    let n = c.compare_at.new.self in let is = moment_of g.D.Desk.front g.N.Names.known g.N.Names.asked n in let alike = alike_on _ _ _ _ _ _ inv.alike c.compare_at.ensures.alike in
    let known : g.N.Names.known n.names.now ≡ g.N.Names.known o.names.now = rw (c.compare_at.ensures.names, inv.names) refl in
    let one = subst (λ (x : Option Held). HasCompared (given_of g.D.Desk.fixed n) (moment_of g.D.Desk.front g.N.Names.known g.N.Names.asked l) is n.held.now.items kept i x) c.in-Some.is c.in_ok-held.ensures.one in
    let more = take i (answers_kept kept) ++ said one.a (Some c.in-Some.held) ∷ [] in
    let asking = asking_on given (given_of g.D.Desk.fixed l) was (moment_of g.D.Desk.front g.N.Names.known g.N.Names.asked l) is []
    (take i (answers_kept kept)) more inv.alike.same c.compare_at.ensures.alike.goes.went inv.asking
    (subst (λ (x : Given). IsAsking x (moment_of g.D.Desk.front g.N.Names.known g.N.Names.asked l) is (take i (answers_kept kept)) more) (sym c.compare_at.ensures.alike.same) one.asking) in
    let found = c.in-Some.held in
    let differs : more ≡ answers_differing kept i found = sym (take_other (λ (a : Answer). record a { held = found }) (answers_kept kept) i one.a one.is) in
    let calling = subst (λ (x : Given). IsCalling x.t x.door x.q.0 (g.N.Names.known n.names.now) (g.N.Names.asked n.names.now) (g.D.Desk.front n.desk.now) x.key x.own n.held.now.items
    (answers_differing kept i found)) (sym alike.same)
    (subst (λ (m : List Answer). IsCalling n.prog.now (g.D.Desk.fixed n.desk.now) n.q.0 (g.N.Names.known n.names.now) (g.N.Names.asked n.names.now)
    (g.D.Desk.front n.desk.now) n.key n.own n.held.now.items m) differs one.calling) in
    let asked = subst (λ (m : List Answer). IsAsking given was is [] m) differs asking in
    let s = seen_at kept.derivation.uses.items kept.counts.items i one.a one.is in
    let other : found.changes ≡ s.0.changes → ⊥ = λ e. one.other (e ∙ sym s.2) in
    as_err (λ (r : Result Bool CallFail). HasEnded given (given_of g.D.Desk.fixed n) was is n.held.now.items c.note.new.compared.items kept.derivation.body r) c.from_residual-in_err-note.result
    fail.NoMemory c.from_residual-in_err-note.ensures.1
    (ends_unnoted given was kept c.requires.calling.legal c.requires.calling.own_is c.requires.takes c.requires.named.0 c.requires.named.1 c.requires.defined check c.requires.kept c.requires.key c.requires.count
    (given_of g.D.Desk.fixed n) is n.held.now.items alike known i found s.0 s.1 other asked calling c.note.new.compared.items fail.NoMemory refl)

pub returns-in-Some-clause-ended : goal.returns-in-Some-clause-ended
returns-in-Some-clause-ended g c =
    let o = c.args.self.now in let l = c.loop-i.self in let kept = c.args.kept.now in let inv = c.loop-i.invariant in let i = c.loop-i.i in
    let given = given_of g.D.Desk.fixed o in let was = moment_of g.D.Desk.front g.N.Names.known g.N.Names.asked o in
    let check = c.requires.own.each o.key.0 kept c.requires.kept in
    let n = c.compare_at.new.self in let is = moment_of g.D.Desk.front g.N.Names.known g.N.Names.asked n in let alike = alike_on _ _ _ _ _ _ inv.alike c.compare_at.ensures.alike in
    let known : g.N.Names.known n.names.now ≡ g.N.Names.known o.names.now = rw (c.compare_at.ensures.names, inv.names) refl in
    let one = subst (λ (x : Option Held). HasCompared (given_of g.D.Desk.fixed n) (moment_of g.D.Desk.front g.N.Names.known g.N.Names.asked l) is n.held.now.items kept i x) c.in-Some.is c.in_ok-held.ensures.one in
    let more = take i (answers_kept kept) ++ said one.a (Some c.in-Some.held) ∷ [] in
    let asking = asking_on given (given_of g.D.Desk.fixed l) was (moment_of g.D.Desk.front g.N.Names.known g.N.Names.asked l) is []
    (take i (answers_kept kept)) more inv.alike.same c.compare_at.ensures.alike.goes.went inv.asking
    (subst (λ (x : Given). IsAsking x (moment_of g.D.Desk.front g.N.Names.known g.N.Names.asked l) is (take i (answers_kept kept)) more) (sym c.compare_at.ensures.alike.same) one.asking) in
    let found = c.in-Some.held in
    let differs : more ≡ answers_differing kept i found = sym (take_other (λ (a : Answer). record a { held = found }) (answers_kept kept) i one.a one.is) in
    let calling = subst (λ (x : Given). IsCalling x.t x.door x.q.0 (g.N.Names.known n.names.now) (g.N.Names.asked n.names.now) (g.D.Desk.front n.desk.now) x.key x.own n.held.now.items
    (answers_differing kept i found)) (sym alike.same)
    (subst (λ (m : List Answer). IsCalling n.prog.now (g.D.Desk.fixed n.desk.now) n.q.0 (g.N.Names.known n.names.now) (g.N.Names.asked n.names.now)
    (g.D.Desk.front n.desk.now) n.key n.own n.held.now.items m) differs one.calling) in
    let asked = subst (λ (m : List Answer). IsAsking given was is [] m) differs asking in
    let s = seen_at kept.derivation.uses.items kept.counts.items i one.a one.is in
    let other : found.changes ≡ s.0.changes → ⊥ = λ e. one.other (e ∙ sym s.2) in
    rw (c.in_ok-note.ensures) (ends_differing given was kept c.requires.calling.legal c.requires.calling.own_is c.requires.takes c.requires.named.0 c.requires.named.1 c.requires.defined check c.requires.kept
    c.requires.key c.requires.count (given_of g.D.Desk.fixed n) is n.held.now.items alike known i found s.0 s.1 other asked calling)

pub loop-i-preserved : goal.loop-i-preserved
loop-i-preserved g c =
    let o = c.args.self.now in let l = c.loop-i.self in let kept = c.args.kept.now in let inv = c.loop-i.invariant in let i = c.loop-i.i in
    let given = given_of g.D.Desk.fixed o in let was = moment_of g.D.Desk.front g.N.Names.known g.N.Names.asked o in
    let check = c.requires.own.each o.key.0 kept c.requires.kept in
    let n = c.compare_at.new.self in let is = moment_of g.D.Desk.front g.N.Names.known g.N.Names.asked n in let alike = alike_on _ _ _ _ _ _ inv.alike c.compare_at.ensures.alike in
    let known : g.N.Names.known n.names.now ≡ g.N.Names.known o.names.now = rw (c.compare_at.ensures.names, inv.names) refl in
    let none : c.in_ok-held.field-0 ≡ None = search rules in
    let one = subst (λ (x : Option Held). HasCompared (given_of g.D.Desk.fixed n) (moment_of g.D.Desk.front g.N.Names.known g.N.Names.asked l) is n.held.now.items kept i x) none c.in_ok-held.ensures.one in
    let more = take i (answers_kept kept) ++ said one.a None ∷ [] in
    let asking = asking_on given (given_of g.D.Desk.fixed l) was (moment_of g.D.Desk.front g.N.Names.known g.N.Names.asked l) is []
    (take i (answers_kept kept)) more inv.alike.same c.compare_at.ensures.alike.goes.went inv.asking
    (subst (λ (x : Given). IsAsking x (moment_of g.D.Desk.front g.N.Names.known g.N.Names.asked l) is (take i (answers_kept kept)) more) (sym c.compare_at.ensures.alike.same) one.asking) in
    let all = take_more (answers_kept kept) i one.a one.is in
    record {
      calling = subst (λ (m : List Answer). IsCalling n.prog.now (g.D.Desk.fixed n.desk.now) n.q.0 (g.N.Names.known n.names.now) (g.N.Names.asked n.names.now)
          (g.D.Desk.front n.desk.now) n.key n.own n.held.now.items m) (sym all) one.calling;
      alike = alike;
      asking = subst (λ (m : List Answer). IsAsking given was is [] m) (sym all) asking;
      answers = rw (c.compare_at.ensures.answers) inv.answers;
      compared = rw (c.compare_at.ensures.compared) inv.compared;
      refused = c.compare_at.ensures.refused ∙ inv.refused;
      names = c.compare_at.ensures.names ∙ inv.names;
    }

pub returns-clause-ended : goal.returns-clause-ended
returns-clause-ended g c =
    let o = c.args.self.now in let l = c.loop-i.self in let kept = c.args.kept.now in let inv = c.loop-i.invariant in let i = c.loop-i.i in
    let given = given_of g.D.Desk.fixed o in let was = moment_of g.D.Desk.front g.N.Names.known g.N.Names.asked o in
    let check = c.requires.own.each o.key.0 kept c.requires.kept in
    let is = moment_of g.D.Desk.front g.N.Names.known g.N.Names.asked l in
    let known : g.N.Names.known l.names.now ≡ g.N.Names.known o.names.now = rw (inv.names) refl in
    let far : length kept.counts.items ≤ i = omega arith in
    let n = answers_length o.prog.now (g.N.Names.known o.names.now) (g.N.Names.asked o.names.now) (g.D.Desk.front o.desk.now) kept.derivation.uses.items kept.counts.items check.uses in
    let all = take_all (answers_kept kept) i (omega (arith, n, far)) in
    let calling = subst (λ (x : Given). IsCalling x.t x.door x.q.0 (g.N.Names.known l.names.now) (g.N.Names.asked l.names.now) (g.D.Desk.front l.desk.now) x.key x.own l.held.now.items
    (take i (answers_kept kept))) (sym inv.alike.same) inv.calling in
    ends_agreed given was kept c.requires.calling.legal c.requires.calling.own_is c.requires.takes c.requires.named.0 c.requires.named.1 c.requires.defined check c.requires.kept c.requires.key c.requires.count
    (given_of g.D.Desk.fixed l) is l.held.now.items inv.alike known l.compared.now.items i all inv.asking calling

pub loop-i-init : goal.loop-i-init
loop-i-init g c =
    let o = c.args.self.now in
    record {
      calling = subst (λ (m : List Answer). IsCalling o.prog.now (g.D.Desk.fixed o.desk.now) o.q.0 (g.N.Names.known o.names.now) (g.N.Names.asked o.names.now)
          (g.D.Desk.front o.desk.now) o.key o.own o.held.now.items m) (ap (λ (m : List Answer). m ++ o.answers.now.items) c.requires.fresh.1 ∙ c.requires.fresh.0) c.requires.calling;
      alike = alike_itself _ _;
      asking = asking_itself _ _ _;
      answers = c.requires.fresh.0;
      compared = c.requires.fresh.1;
      refused = c.requires.fresh.2;
      names = refl;
    }
