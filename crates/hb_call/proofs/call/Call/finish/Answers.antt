use Rattle.std.proofs.Common.{◌≡◌, ◌++◌, refl, sym, ap, ◌∙◌, subst}
use Rattle.std.specs.Prelude.{Ok}
use Rattle.hb_tables.specs.History.{IsLegal}
use Rattle.hb_tables.specs.Frames.{acts}
use Rattle.hb_tables.specs.declared.entry.Verdict.TheVariants as verdict
use Rattle.hb_tables.specs.declared.entry.By.TheVariants as by
use Rattle.hb_call.specs.declared.ruling.Ruling.{Ruling}
use Rattle.hb_call.specs.Calling.{Given}
use Rattle.hb_call.specs.Comparing.{AsksNoMore}
use Rattle.hb_call.specs.Deciding.{Decided, IsOwnBehind, site_by, verdict_by}
use Rattle.hb_call.specs.Held.{frees}
use Rattle.hb_call.specs.Seen.{given_of, moment_of}
use Rattle.hb_call.proofs.HeldLemmas.{all_stand}
use Rattle.hb_call.proofs.GrowthLemmas.{called_fits}
use Rattle.hb_call.proofs.FullLemmas.{stopped_fits}
use Rattle.hb_call.proofs.EnteringLemmas.{back_grew, back_own, back_ways, back_went, called_of, framed, framed_resting, framed_well, gave_back, same_own, stopped}
use Rattle.hb_call.proofs.call.Call.finish.Goals as goal

pub free_keys-requires : goal.free_keys-requires
free_keys-requires g c =
    let s = c.decide.new.self in
    record { held = rw c.deref.ensures.value (all_stand (g.D.Desk.fixed s.desk.now).caller s.q s.held.now.items (g.D.Desk.front s.desk.now) c.decide.ensures.holds) }

pub free_keys-requires-in-Err : goal.free_keys-requires-in-Err
free_keys-requires-in-Err g c =
    let s = c.decide.new.self in
    record { held = rw c.deref-in-Err.ensures.value (all_stand (g.D.Desk.fixed s.desk.now).caller s.q s.held.now.items (g.D.Desk.front s.desk.now) c.decide.ensures.holds) }

pub returns-in-Ok-Kept : goal.returns-in-Ok-Kept
returns-in-Ok-Kept g c =
    let o = c.args.self.now in let d = c.decide.ensures in let s = c.decide.new.self in let f = c.frame.result in let e = c.frame.ensures in
    let given = given_of g.D.Desk.fixed s in let old = g.D.Desk.front o.desk.now in let mid = g.D.Desk.front s.desk.now in
    let known = g.N.Names.known s.names.now in let asked = g.N.Names.asked s.names.now in
    let decided = subst (λ (r : Ruling). Decided given known old mid (verdict_by r) (site_by r)) c.in-Ok-Kept.field-0-is c.in-Ok-Kept.ensures.decided in
    let asks = subst (λ (r : Ruling). AsksNoMore (given_of g.D.Desk.fixed o) (moment_of g.D.Desk.front g.N.Names.known g.N.Names.asked o) (moment_of g.D.Desk.front g.N.Names.known g.N.Names.asked s) r) c.in-Ok-Kept.field-0-is c.in-Ok-Kept.ensures.asks in
    let keys : f.held.items ≡ s.held.now.items = rw e.frame.3 refl in
    let done = framed (given_of g.D.Desk.fixed o) given d.same f e.frame.0 e.frame.1 s.held.now.items keys known old mid (verdict.Enter by.Own) c.in-Ok-Kept.body e.frame.2 decided d.holds in
    record {
      desk = rw e.desk d.desk;
      names = rw e.names d.names;
      answers = rw e.answers (ap (λ (h : Given). h.answers) (sym d.same));
      alike = rw e.names d.alike;
      fixed = rw e.desk (ap (λ (h : Given). h.door) (sym d.same));
      went = rw (e.desk, e.names) d.went;
      grew = λ told. rw (e.desk, e.names) d.grew;
      finished = rw (e.desk, e.names) done;
      ended = rw e.desk (framed_well (given_of g.D.Desk.fixed o) known old mid (verdict.Enter by.Own) f done);
      asks = rw (e.desk, e.names) asks;
      own = λ past had. rw (e.desk, e.names) (same_own (given_of g.D.Desk.fixed o) given past known asked mid d.same (subst (λ (r : Ruling). IsOwnBehind given past known asked mid s.held.now.items s.answers.now.items (Ok r)) c.in-Ok-Kept.field-0-is (c.in-Ok-Kept.ensures.own past had)));
      ways = λ past had. rw e.desk (d.ways past had);
    }

pub returns-in-Ok-Checked : goal.returns-in-Ok-Checked
returns-in-Ok-Checked g c =
    let o = c.args.self.now in let d = c.decide.ensures in let s = c.decide.new.self in let f = c.frame-in-Ok-Checked.result in let e = c.frame-in-Ok-Checked.ensures in
    let given = given_of g.D.Desk.fixed s in let old = g.D.Desk.front o.desk.now in let mid = g.D.Desk.front s.desk.now in
    let known = g.N.Names.known s.names.now in let asked = g.N.Names.asked s.names.now in
    let decided = subst (λ (r : Ruling). Decided given known old mid (verdict_by r) (site_by r)) c.in-Ok-Checked.field-0-is c.in-Ok-Checked.ensures.decided in
    let keys : f.held.items ≡ s.held.now.items = rw e.frame.3 refl in
    let done = framed (given_of g.D.Desk.fixed o) given d.same f e.frame.0 e.frame.1 s.held.now.items keys known old mid (verdict.Enter by.Fresh) c.in-Ok-Checked.derivation.body e.frame.2 decided d.holds in
    record {
      desk = rw e.desk d.desk;
      names = rw e.names d.names;
      answers = rw e.answers (ap (λ (h : Given). h.answers) (sym d.same));
      alike = rw e.names d.alike;
      fixed = rw e.desk (ap (λ (h : Given). h.door) (sym d.same));
      went = rw (e.desk, e.names) d.went;
      grew = λ told. rw (e.desk, e.names) d.grew;
      finished = rw (e.desk, e.names) done;
      ended = rw e.desk (framed_well (given_of g.D.Desk.fixed o) known old mid (verdict.Enter by.Fresh) f done);
      asks = tt;
      own = λ past had. rw (e.desk, e.names, e.answers) (framed_resting (given_of g.D.Desk.fixed o) given d.same f e.frame.0 e.frame.1 s.held.now.items keys past known asked mid s.answers.now.items c.in-Ok-Checked.derivation e.frame.2
          (subst (λ (r : Ruling). IsOwnBehind given past known asked mid s.held.now.items s.answers.now.items (Ok r)) c.in-Ok-Checked.field-0-is (c.in-Ok-Checked.ensures.own past had)));
      ways = λ past had. rw e.desk (d.ways past had);
    }

pub returns-in-Ok-Refused : goal.returns-in-Ok-Refused
returns-in-Ok-Refused g c =
    let o = c.args.self.now in let d = c.decide.ensures in let s = c.decide.new.self in let f = c.free_keys.ensures in
    let given = given_of g.D.Desk.fixed s in let old = g.D.Desk.front o.desk.now in let mid = g.D.Desk.front s.desk.now in let new = g.D.Desk.front c.free_keys.new.desk in
    let known = g.N.Names.known s.names.now in let asked = g.N.Names.asked s.names.now in let was = moment_of g.D.Desk.front g.N.Names.known g.N.Names.asked o in
    let decided = subst (λ (r : Ruling). Decided given known old mid (verdict_by r) (site_by r)) c.in-Ok-Refused.field-0-is c.in-Ok-Refused.ensures.decided in
    let back = f.acts ∙ ap (λ ks. acts given.door.caller mid ++ frees s.q ks) c.deref.ensures.value in
    record {
      desk = d.desk;
      names = d.names;
      answers = ap (λ (h : Given). h.answers) (sym d.same);
      alike = d.alike;
      fixed = f.fixed ∙ ap (λ (h : Given). h.door) (sym d.same);
      went = back_went (given_of g.D.Desk.fixed o) given d.same was known asked mid new s.held.now.items f.kept back f.legal d.went;
      grew = λ told. back_grew (given_of g.D.Desk.fixed o) given d.same was known asked mid new s.held.now.items f.kept back (called_fits s.prog.now given.door.caller known s.q s.held.now.items mid new (called_of given known old mid c.in-Ok-Refused.verdict c.in-Ok-Refused.field-0-0 decided) back) d.grew;
      finished = gave_back (given_of g.D.Desk.fixed o) given known old mid new c.in-Ok-Refused.verdict c.in-Ok-Refused.field-0-0 s.held.now.items d.same decided d.holds f.kept back;
      ended = tt;
      asks = tt;
      own = λ past had. back_own (given_of g.D.Desk.fixed o) given d.same was known asked mid new s.held.now.items f.kept back past (subst (λ (r : Ruling). IsOwnBehind given past known asked mid s.held.now.items s.answers.now.items (Ok r)) c.in-Ok-Refused.field-0-is (c.in-Ok-Refused.ensures.own past had));
      ways = λ past had. back_ways (given_of g.D.Desk.fixed o) given d.same was known asked mid new s.held.now.items f.kept back past (d.ways past had);
    }

pub returns-in-Err : goal.returns-in-Err
returns-in-Err g c =
    let o = c.args.self.now in let d = c.decide.ensures in let s = c.decide.new.self in let f = c.free_keys-in-Err.ensures in
    let given = given_of g.D.Desk.fixed s in let old = g.D.Desk.front o.desk.now in let mid = g.D.Desk.front s.desk.now in let new = g.D.Desk.front c.free_keys-in-Err.new.desk in
    let known = g.N.Names.known s.names.now in let asked = g.N.Names.asked s.names.now in let was = moment_of g.D.Desk.front g.N.Names.known g.N.Names.asked o in
    let legal : IsLegal given.door.limit mid = subst (λ (h : Given). IsLegal h.door.limit mid) d.same (d.went.legal c.requires.calling.legal) in
    let back = f.acts ∙ ap (λ ks. acts given.door.caller mid ++ frees s.q ks) c.deref-in-Err.ensures.value in
    record {
      desk = d.desk;
      names = d.names;
      answers = ap (λ (h : Given). h.answers) (sym d.same);
      alike = d.alike;
      fixed = f.fixed ∙ ap (λ (h : Given). h.door) (sym d.same);
      went = back_went (given_of g.D.Desk.fixed o) given d.same was known asked mid new s.held.now.items f.kept back f.legal d.went;
      grew = λ told. back_grew (given_of g.D.Desk.fixed o) given d.same was known asked mid new s.held.now.items f.kept back (stopped_fits s.prog.now known given.door.limit given.door.caller s.q s.key d.first.0 s.held.now.items mid new c.in-Err.cause told c.in-Err.ensures.rightly d.first.1 d.holds (f.legal legal) back) d.grew;
      finished = stopped (given_of g.D.Desk.fixed o) given known old mid new s.held.now.items d.first.0 c.in-Err.cause d.same d.first.1 c.in-Err.ensures.full d.holds back c.in-Err.ensures.goes.goes.begun;
      ended = tt;
      asks = tt;
      own = λ past had. back_own (given_of g.D.Desk.fixed o) given d.same was known asked mid new s.held.now.items f.kept back past (c.in-Err.ensures.own past had);
      ways = λ past had. back_ways (given_of g.D.Desk.fixed o) given d.same was known asked mid new s.held.now.items f.kept back past (d.ways past had);
    }
