use Rattle.std.proofs.Common.{refl, ◌≡◌, ◌++◌, Ok, Some, None, sym, ap, ◌∙◌, subst}
use Rattle.hb_types.specs.declared.ids.KeyId.{KeyId}
use Rattle.hb_names.specs.Names.{place}
use Rattle.hb_names.proofs.NameLemmas.{place-longer}
use Rattle.hb_tables.specs.Answers.{Fixed, IsLookAt}
use Rattle.hb_tables.specs.History.{IsLegal}
use Rattle.hb_tables.specs.Rows.{IsFilled}
use Rattle.hb_call.specs.Alike.{alike_itself, alike_on, fits_since_on}
use Rattle.hb_call.specs.GrowthLaws.{each_itself, with_rules}
use Rattle.hb_call.proofs.AgainLemmas.{begun_goes, unfit_again, unfit_ruled, alike_again, looked_again, may_again, rules_again}
use Rattle.hb_call.specs.Calling.{Given, Goes, IsArgKinds}
use Rattle.hb_call.specs.Seen.{given_of, moment_of}
use Rattle.hb_call.proofs.HeldLemmas.{prefix_on}
use Rattle.hb_call.proofs.DecidingLemmas.{learned}
use Rattle.std.specs.Prelude.{Option}
use Rattle.hb_types.specs.declared.ids.BodySite.{BodySite}
use Rattle.hb_tables.specs.declared.entry.Verdict.{Verdict}
use Rattle.hb_call.specs.declared.frame.CallFail.TheVariants as fail
use Rattle.hb_call.specs.Deciding.{Decided, IsOwnBehind, IsRuled, site_by, verdict_by}
use Rattle.hb_call.specs.OwnCache.{IsOwnCache}
use Rattle.hb_call.proofs.OwnGoingLemmas.{goes_own, goes_ways}
use Rattle.hb_call.proofs.RuledLemmas.{own_stopped, ruled_own, ruled_row, ruled_unshared, ruled_ways}
use Rattle.hb_call.specs.Entering.{IsFullFor, IsRightlyFor}
use Rattle.hb_call.proofs.FullLemmas.{if_err}
use Rattle.hb_call.proofs.MarkLemmas.{asks_by}
use Rattle.hb_tables.specs.declared.entry.Act.TheVariants.{Call}
use Rattle.hb_call.proofs.DecideLemmas.{on_err, not_ok, own_below, call_holds, call_whole, call_decided, decided_went, decided_grew, decided_ways}
use Rattle.hb_call.proofs.call.Call.decide.Goals as goal

pub loop-ruling-init : goal.loop-ruling-init
loop-ruling-init g c = record {
  calling = c.requires.calling;
  args = c.requires.args;
  answers = c.requires.fresh.0;
  compared = c.requires.fresh.1;
  refused = c.requires.fresh.2;
  few = c.requires.few;
  own = c.requires.own;
  named = c.requires.named;
  looked = c.requires.looked;
  unfit = λ e. refl;
  rules = each_itself _ _ _;
  alike = alike_itself _ _;
  names = g.N.Names.alike_itself c.args.self.now.names.now;
}

pub returns-in_err-ruling-clause-goes : goal.returns-in_err-ruling-clause-goes
returns-in_err-ruling-clause-goes g c = on_err c.from_residual.result (alike_on _ _ _ _ _ _ c.loop-ruling.invariant.alike c.ruling.ensures.alike)

pub returns-in_err-reserve-clause-goes : goal.returns-in_err-reserve-clause-goes
returns-in_err-reserve-clause-goes g c = on_err c.from_residual-in_err-reserve.result (rw (c.reserve.ensures.fixed, c.reserve.ensures.front) (alike_on _ _ _ _ _ _ c.loop-ruling.invariant.alike c.ruling.ensures.alike))

pub decide-requires-clause-look : goal.decide-requires-clause-look
decide-requires-clause-look g c =
    let l = c.loop-ruling.invariant.looked in let a = c.ruling.ensures.alike in
    rw (c.reserve.ensures.front) (l.at, prefix_on l.at _ _ l.to a.goes.went.kept, subst (λ (k : KeyId). IsLookAt k.0 c.loop-ruling.look l.at) (ap (λ (h : Given). h.key) a.same) l.is)

pub ruling-requires-clause-defined : goal.ruling-requires-clause-defined
ruling-requires-clause-defined g c = let l = c.loop-ruling.invariant.looked in record { start = l.start; began = l.began; had = record { at = l.at; from = l.from; to = l.to; is = l.is.0 } }

pub returns-in-Ok-clause-went : goal.returns-in-Ok-clause-went
returns-in-Ok-clause-went g c =
    let s = c.ruling.new.self in let a = c.ruling.ensures.alike in let given = given_of g.D.Desk.fixed s in
    let d = rw (c.reserve.ensures.fixed, c.reserve.ensures.front) at c.in-Ok.ensures.answer in
    let legal : IsLegal (g.D.Desk.fixed s.desk.now).limit (g.D.Desk.front c.decide.new.self) = rw (c.reserve.ensures.fixed) at c.decide.ensures.legal in
    let all = alike_on _ _ _ _ _ _ c.loop-ruling.invariant.alike a in
    decided_went _ given all.same _ (g.N.Names.known s.names.now) (g.N.Names.asked s.names.now) (g.D.Desk.front s.desk.now) (g.D.Desk.front c.decide.new.self) c.loop-ruling.look.site c.verdict-verdict.result (d.0, d.1, d.2) all.goes.went legal

pub returns-in_err-ruling-clause-went : goal.returns-in_err-ruling-clause-went
returns-in_err-ruling-clause-went g c = (alike_on _ _ _ _ _ _ c.loop-ruling.invariant.alike c.ruling.ensures.alike).goes.went

pub returns-in_err-ruling-clause-grew : goal.returns-in_err-ruling-clause-grew
returns-in_err-ruling-clause-grew g c = with_rules _ _ _ _ _ _ _ ((alike_on _ _ _ _ _ _ c.loop-ruling.invariant.alike c.ruling.ensures.alike).goes.grew) (fits_since_on _ _ (moment_of g.D.Desk.front g.N.Names.known g.N.Names.asked c.args.self.now) (moment_of g.D.Desk.front g.N.Names.known g.N.Names.asked c.loop-ruling.self) (moment_of g.D.Desk.front g.N.Names.known g.N.Names.asked c.ruling.new.self) c.loop-ruling.invariant.alike.same c.ruling.ensures.alike.goes.went c.loop-ruling.invariant.rules c.ruling.ensures.rules)

pub returns-in_err-reserve-clause-went : goal.returns-in_err-reserve-clause-went
returns-in_err-reserve-clause-went g c = rw (c.reserve.ensures.front) ((alike_on _ _ _ _ _ _ c.loop-ruling.invariant.alike c.ruling.ensures.alike).goes.went)

pub returns-in_err-reserve-clause-grew : goal.returns-in_err-reserve-clause-grew
returns-in_err-reserve-clause-grew g c = rw (c.reserve.ensures.front) (with_rules _ _ _ _ _ _ _ ((alike_on _ _ _ _ _ _ c.loop-ruling.invariant.alike c.ruling.ensures.alike).goes.grew) (fits_since_on _ _ (moment_of g.D.Desk.front g.N.Names.known g.N.Names.asked c.args.self.now) (moment_of g.D.Desk.front g.N.Names.known g.N.Names.asked c.loop-ruling.self) (moment_of g.D.Desk.front g.N.Names.known g.N.Names.asked c.ruling.new.self) c.loop-ruling.invariant.alike.same c.ruling.ensures.alike.goes.went c.loop-ruling.invariant.rules c.ruling.ensures.rules))

pub returns-in_err-ruling-clause-same : goal.returns-in_err-ruling-clause-same
returns-in_err-ruling-clause-same g c = (alike_on _ _ _ _ _ _ c.loop-ruling.invariant.alike c.ruling.ensures.alike).same

pub returns-in_err-reserve-clause-same : goal.returns-in_err-reserve-clause-same
returns-in_err-reserve-clause-same g c = rw (c.reserve.ensures.fixed) ((alike_on _ _ _ _ _ _ c.loop-ruling.invariant.alike c.ruling.ensures.alike).same)

pub returns-in-Ok-clause-same : goal.returns-in-Ok-clause-same
returns-in-Ok-clause-same g c = rw (c.decide.ensures.fixed, c.reserve.ensures.fixed) ((alike_on _ _ _ _ _ _ c.loop-ruling.invariant.alike c.ruling.ensures.alike).same)

pub returns-in_err-ruling-clause-alike : goal.returns-in_err-ruling-clause-alike
returns-in_err-ruling-clause-alike g c = g.N.Names.alike_on _ _ _ c.loop-ruling.invariant.names c.ruling.ensures.names

pub returns-in_err-reserve-clause-alike : goal.returns-in_err-reserve-clause-alike
returns-in_err-reserve-clause-alike g c = g.N.Names.alike_on _ _ _ c.loop-ruling.invariant.names c.ruling.ensures.names

pub returns-in-Ok-clause-alike : goal.returns-in-Ok-clause-alike
returns-in-Ok-clause-alike g c = g.N.Names.alike_on _ _ _ c.loop-ruling.invariant.names c.ruling.ensures.names

pub retreat-requires-clause-holding : goal.retreat-requires-clause-holding
retreat-requires-clause-holding g c =
    let s = c.ruling.new.self in
    let d = rw (c.reserve.ensures.fixed, c.reserve.ensures.front) at c.in-Err.ensures.answer in
    let legal : IsLegal (g.D.Desk.fixed s.desk.now).limit (g.D.Desk.front c.decide.new.self) = rw (c.reserve.ensures.fixed) at c.decide.ensures.legal in
    let rr = c.in_ok-ruling.ensures.ruled in (rr.compared ++ rr.answers, rw (c.decide.ensures.fixed, c.reserve.ensures.fixed) (learned s.prog.now (g.D.Desk.fixed s.desk.now) s.q (g.N.Names.known s.names.now) (g.N.Names.asked s.names.now) (g.D.Desk.front s.desk.now) s.key s.own s.held.now.items (rr.compared ++ rr.answers) rr.calling (g.D.Desk.front c.decide.new.self) d.0 legal))

pub retreat-requires-clause-may : goal.retreat-requires-clause-may
retreat-requires-clause-may g c =
    let s = c.ruling.new.self in let w = c.loop-ruling.self in let given = given_of g.D.Desk.fixed s in let new = g.D.Desk.front c.decide.new.self in
    let was = moment_of g.D.Desk.front g.N.Names.known g.N.Names.asked w in let mid = moment_of g.D.Desk.front g.N.Names.known g.N.Names.asked s in
    let d = rw (c.reserve.ensures.fixed, c.reserve.ensures.front) at c.in-Err.ensures.answer in
    let legal : IsLegal (g.D.Desk.fixed s.desk.now).limit new = rw (c.reserve.ensures.fixed) at c.decide.ensures.legal in
    let may = may_again (given_of g.D.Desk.fixed w) given was mid new c.loop-ruling.look c.in-Err.newer c.ruling.ensures.alike c.ruling.ensures.live d.0 legal c.loop-ruling.invariant.looked d.1 d.2 in
    rw (c.decide.ensures.fixed, c.reserve.ensures.fixed) may

pub loop-ruling-preserved : goal.loop-ruling-preserved
loop-ruling-preserved g c =
    let s = c.ruling.new.self in let w = c.loop-ruling.self in let given = given_of g.D.Desk.fixed s in let new = g.D.Desk.front c.decide.new.self in
    let was = moment_of g.D.Desk.front g.N.Names.known g.N.Names.asked w in let mid = moment_of g.D.Desk.front g.N.Names.known g.N.Names.asked s in
    let d = rw (c.reserve.ensures.fixed, c.reserve.ensures.front) at c.in-Err.ensures.answer in
    let legal : IsLegal (g.D.Desk.fixed s.desk.now).limit new = rw (c.reserve.ensures.fixed) at c.decide.ensures.legal in
    let may = may_again (given_of g.D.Desk.fixed w) given was mid new c.loop-ruling.look c.in-Err.newer c.ruling.ensures.alike c.ruling.ensures.live d.0 legal c.loop-ruling.invariant.looked d.1 d.2 in
    let i = c.loop-ruling.invariant in let o = c.retreat.new.self in let end = moment_of g.D.Desk.front g.N.Names.known g.N.Names.asked o in let door = g.D.Desk.fixed c.decide.new.self in
    let same = c.decide.ensures.fixed ∙ c.reserve.ensures.fixed in let known = g.N.Names.known o.names.now in
    let on = alike_again (given_of g.D.Desk.fixed w) given was mid new c.loop-ruling.look c.in-Err.newer c.ruling.ensures.alike c.ruling.ensures.live d.0 legal door same (given_of g.D.Desk.fixed o) end c.retreat.ensures.alike in
    record {
      calling = c.retreat.ensures.calling;
      args = subst (λ (h : Given). IsArgKinds h.args) on.same i.args;
      answers = c.retreat.ensures.fresh.0;
      compared = c.retreat.ensures.fresh.1;
      refused = c.retreat.ensures.fresh.2;
      few = on.goes.went.few i.few;
      own = subst (λ (h : Given). IsOwnCache h.t known (g.N.Names.asked o.names.now) h.door.caller None (g.D.Desk.front o.desk.now) h.cache) on.same (goes_own (given_of g.D.Desk.fixed w) None was end w.cache.now on.goes i.own);
      named = (i.named.0, subst (λ (h : Given). place known (h.class.0, i.named.0) ≡ Some h.key.0) on.same (place-longer _ known (w.class.0, i.named.0) w.key.0 on.goes.went.named i.named.1));
      looked = looked_again (given_of g.D.Desk.fixed w) given was mid new c.loop-ruling.look c.in-Err.newer c.ruling.ensures.alike c.ruling.ensures.live d.0 legal door same (given_of g.D.Desk.fixed o) end c.retreat.ensures.alike may d.1 c.retreat.ensures.freed.0 c.retreat.ensures.freed.2;
      unfit = unfit_again (given_of g.D.Desk.fixed w) given was mid new c.ruling.ensures.alike s.held.now.items c.ruling.ensures.unfit d.0 door same end c.retreat.ensures.freed (given_of g.D.Desk.fixed c.args.self.now) (moment_of g.D.Desk.front g.N.Names.known g.N.Names.asked c.args.self.now) i.alike.same i.unfit;
      rules = rules_again (given_of g.D.Desk.fixed w) given was mid new c.loop-ruling.look c.in-Err.newer c.ruling.ensures.alike c.ruling.ensures.live d.0 legal door same (given_of g.D.Desk.fixed o) end c.retreat.ensures.alike (given_of g.D.Desk.fixed c.args.self.now) (moment_of g.D.Desk.front g.N.Names.known g.N.Names.asked c.args.self.now) i.alike.same i.rules c.ruling.ensures.rules c.retreat.ensures.rules;
      alike = alike_on _ _ _ _ _ _ i.alike on;
      names = g.N.Names.alike_on _ _ _ i.names (subst (λ n. g.N.Names.alike w.names.now n) (sym (ap (λ n. n.now) c.retreat.ensures.names)) c.ruling.ensures.names);
    }

pub loop-ruling-preserved-in-Err : goal.loop-ruling-preserved-in-Err
loop-ruling-preserved-in-Err g c =
    let s = c.ruling.new.self in let w = c.loop-ruling.self in let given = given_of g.D.Desk.fixed s in let new = g.D.Desk.front c.decide.new.self in
    let was = moment_of g.D.Desk.front g.N.Names.known g.N.Names.asked w in let mid = moment_of g.D.Desk.front g.N.Names.known g.N.Names.asked s in
    let d = rw (c.reserve.ensures.fixed, c.reserve.ensures.front) at c.in-Err.ensures.answer in
    let legal : IsLegal (g.D.Desk.fixed s.desk.now).limit new = rw (c.reserve.ensures.fixed) at c.decide.ensures.legal in
    let may = may_again (given_of g.D.Desk.fixed w) given was mid new c.loop-ruling.look c.in-Err.newer c.ruling.ensures.alike c.ruling.ensures.live d.0 legal c.loop-ruling.invariant.looked d.1 d.2 in
    let i = c.loop-ruling.invariant in let o = c.retreat.new.self in let end = moment_of g.D.Desk.front g.N.Names.known g.N.Names.asked o in let door = g.D.Desk.fixed c.decide.new.self in
    let same = c.decide.ensures.fixed ∙ c.reserve.ensures.fixed in let known = g.N.Names.known o.names.now in
    let on = alike_again (given_of g.D.Desk.fixed w) given was mid new c.loop-ruling.look c.in-Err.newer c.ruling.ensures.alike c.ruling.ensures.live d.0 legal door same (given_of g.D.Desk.fixed o) end c.retreat.ensures.alike in
    record {
      calling = c.retreat.ensures.calling;
      args = subst (λ (h : Given). IsArgKinds h.args) on.same i.args;
      answers = c.retreat.ensures.fresh.0;
      compared = c.retreat.ensures.fresh.1;
      refused = c.retreat.ensures.fresh.2;
      few = on.goes.went.few i.few;
      own = subst (λ (h : Given). IsOwnCache h.t known (g.N.Names.asked o.names.now) h.door.caller None (g.D.Desk.front o.desk.now) h.cache) on.same (goes_own (given_of g.D.Desk.fixed w) None was end w.cache.now on.goes i.own);
      named = (i.named.0, subst (λ (h : Given). place known (h.class.0, i.named.0) ≡ Some h.key.0) on.same (place-longer _ known (w.class.0, i.named.0) w.key.0 on.goes.went.named i.named.1));
      looked = looked_again (given_of g.D.Desk.fixed w) given was mid new c.loop-ruling.look c.in-Err.newer c.ruling.ensures.alike c.ruling.ensures.live d.0 legal door same (given_of g.D.Desk.fixed o) end c.retreat.ensures.alike may d.1 c.retreat.ensures.freed.0 c.retreat.ensures.freed.2;
      unfit = unfit_again (given_of g.D.Desk.fixed w) given was mid new c.ruling.ensures.alike s.held.now.items c.ruling.ensures.unfit d.0 door same end c.retreat.ensures.freed (given_of g.D.Desk.fixed c.args.self.now) (moment_of g.D.Desk.front g.N.Names.known g.N.Names.asked c.args.self.now) i.alike.same i.unfit;
      rules = rules_again (given_of g.D.Desk.fixed w) given was mid new c.loop-ruling.look c.in-Err.newer c.ruling.ensures.alike c.ruling.ensures.live d.0 legal door same (given_of g.D.Desk.fixed o) end c.retreat.ensures.alike (given_of g.D.Desk.fixed c.args.self.now) (moment_of g.D.Desk.front g.N.Names.known g.N.Names.asked c.args.self.now) i.alike.same i.rules c.ruling.ensures.rules c.retreat.ensures.rules;
      alike = alike_on _ _ _ _ _ _ i.alike on;
      names = g.N.Names.alike_on _ _ _ i.names (subst (λ n. g.N.Names.alike w.names.now n) (sym (ap (λ n. n.now) c.retreat.ensures.names)) c.ruling.ensures.names);
    }

pub returns-in_err-ruling-clause-desk : goal.returns-in_err-ruling-clause-desk
returns-in_err-ruling-clause-desk g c = sym (ap (λ (h : Given). h.desk) (alike_on _ _ _ _ _ _ c.loop-ruling.invariant.alike c.ruling.ensures.alike).same)

pub returns-in_err-reserve-clause-desk : goal.returns-in_err-reserve-clause-desk
returns-in_err-reserve-clause-desk g c = sym (ap (λ (h : Given). h.desk) (alike_on _ _ _ _ _ _ c.loop-ruling.invariant.alike c.ruling.ensures.alike).same)

pub returns-in-Ok-clause-desk : goal.returns-in-Ok-clause-desk
returns-in-Ok-clause-desk g c = sym (ap (λ (h : Given). h.desk) (alike_on _ _ _ _ _ _ c.loop-ruling.invariant.alike c.ruling.ensures.alike).same)

pub returns-in_err-ruling-clause-names : goal.returns-in_err-ruling-clause-names
returns-in_err-ruling-clause-names g c = sym (ap (λ (h : Given). h.names) (alike_on _ _ _ _ _ _ c.loop-ruling.invariant.alike c.ruling.ensures.alike).same)

pub returns-in_err-reserve-clause-names : goal.returns-in_err-reserve-clause-names
returns-in_err-reserve-clause-names g c = sym (ap (λ (h : Given). h.names) (alike_on _ _ _ _ _ _ c.loop-ruling.invariant.alike c.ruling.ensures.alike).same)

pub returns-in-Ok-clause-names : goal.returns-in-Ok-clause-names
returns-in-Ok-clause-names g c = sym (ap (λ (h : Given). h.names) (alike_on _ _ _ _ _ _ c.loop-ruling.invariant.alike c.ruling.ensures.alike).same)

pub returns-in-Ok-clause-holds : goal.returns-in-Ok-clause-holds
returns-in-Ok-clause-holds g c =
    let s = c.ruling.new.self in let given = given_of g.D.Desk.fixed s in
    let known = g.N.Names.known s.names.now in let asked = g.N.Names.asked s.names.now in let log = g.D.Desk.front s.desk.now in let new = g.D.Desk.front c.decide.new.self in
    let d = rw (c.reserve.ensures.fixed, c.reserve.ensures.front) at c.in-Ok.ensures.answer in
    let legal : IsLegal (g.D.Desk.fixed s.desk.now).limit new = rw (c.reserve.ensures.fixed) at c.decide.ensures.legal in
    let rr = c.in_ok-ruling.ensures.ruled in
    rw (c.decide.ensures.fixed, c.reserve.ensures.fixed) (call_holds given known asked log s.held.now.items (rr.compared ++ rr.answers) rr.calling new c.loop-ruling.look.site c.verdict-verdict.result d.0 d.1 d.2 legal)

pub returns-in-Ok-clause-decided : goal.returns-in-Ok-clause-decided
returns-in-Ok-clause-decided g c =
    let s = c.ruling.new.self in let a = c.ruling.ensures.alike in let named = c.loop-ruling.invariant.named in let given = given_of g.D.Desk.fixed s in
    let known = g.N.Names.known s.names.now in let asked = g.N.Names.asked s.names.now in let log = g.D.Desk.front s.desk.now in let new = g.D.Desk.front c.decide.new.self in let w = c.loop-ruling.self in
    let d = rw (c.reserve.ensures.fixed, c.reserve.ensures.front) at c.in-Ok.ensures.answer in
    let legal : IsLegal (g.D.Desk.fixed s.desk.now).limit new = rw (c.reserve.ensures.fixed) at c.decide.ensures.legal in
    let all = alike_on _ _ _ _ _ _ c.loop-ruling.invariant.alike a in
    let rr = c.in_ok-ruling.ensures.ruled in
    let ruled = subst (λ (v : Verdict). IsRuled given c.loop-ruling.look.site rr.compared rr.answers v) (sym c.verdict-verdict.ensures) rr.ruled in
    let here : place known (given.class.0, named.0) ≡ Some given.key.0 = subst (λ (h : Given). place known (h.class.0, named.0) ≡ Some h.key.0) a.same (place-longer _ known (w.class.0, named.0) w.key.0 a.goes.went.named named.1) in
    let goes = subst (λ (h : Given). Goes h (moment_of g.D.Desk.front g.N.Names.known g.N.Names.asked c.args.self.now) (moment_of g.D.Desk.front g.N.Names.known g.N.Names.asked s)) all.same all.goes in
    let unfit = unfit_ruled (given_of g.D.Desk.fixed w) given a.same (given_of g.D.Desk.fixed c.args.self.now) c.loop-ruling.invariant.alike.same (g.D.Desk.front c.args.self.now.desk.now) (g.D.Desk.front w.desk.now) log s.held.now.items c.loop-ruling.invariant.unfit c.ruling.ensures.unfit in
    let done = call_decided given known asked log s.held.now.items (rr.compared ++ rr.answers) rr.calling new c.loop-ruling.look.site c.verdict-verdict.result d.0 d.1 d.2 legal (ruled_unshared given s.answers.now.items rr.answers c.verdict-verdict.result c.in_ok-ruling.ruling c.verdict-verdict.ensures rr.shows) (ruled_row given known asked log s.held.now.items rr.compared rr.answers rr.calling new c.loop-ruling.look.site c.verdict-verdict.result d.0 d.1 d.2 legal ruled named.0 here d.3.0) (g.D.Desk.front c.args.self.now.desk.now) (begun_goes given (moment_of g.D.Desk.front g.N.Names.known g.N.Names.asked c.args.self.now) (moment_of g.D.Desk.front g.N.Names.known g.N.Names.asked s) goes unfit) in
    rw (c.decide.ensures.fixed, c.reserve.ensures.fixed)
    (subst (λ (o : Option BodySite). Decided given known (g.D.Desk.front c.args.self.now.desk.now) new (verdict_by c.in_ok-ruling.ruling) o) rr.is
    (subst (λ (v : Verdict). Decided given known (g.D.Desk.front c.args.self.now.desk.now) new v c.loop-ruling.look.site) c.verdict-verdict.ensures done))

pub returns-in-Ok-clause-own : goal.returns-in-Ok-clause-own
returns-in-Ok-clause-own g c past had =
    let s = c.ruling.new.self in let a = c.ruling.ensures.alike in let named = c.loop-ruling.invariant.named in let given = given_of g.D.Desk.fixed s in
    let known = g.N.Names.known s.names.now in let asked = g.N.Names.asked s.names.now in let log = g.D.Desk.front s.desk.now in let new = g.D.Desk.front c.decide.new.self in let w = c.loop-ruling.self in
    let d = rw (c.reserve.ensures.fixed, c.reserve.ensures.front) at c.in-Ok.ensures.answer in
    let legal : IsLegal (g.D.Desk.fixed s.desk.now).limit new = rw (c.reserve.ensures.fixed) at c.decide.ensures.legal in
    let rr = c.in_ok-ruling.ensures.ruled in
    let ruled = subst (λ (v : Verdict). IsRuled given c.loop-ruling.look.site rr.compared rr.answers v) (sym c.verdict-verdict.ensures) rr.ruled in
    let here : place known (given.class.0, named.0) ≡ Some given.key.0 = subst (λ (h : Given). place known (h.class.0, named.0) ≡ Some h.key.0) a.same (place-longer _ known (w.class.0, named.0) w.key.0 a.goes.went.named named.1) in
    let o = c.args.self.now in let all = alike_on _ _ _ _ _ _ c.loop-ruling.invariant.alike a in
    let own = subst (λ (h : Given). IsOwnCache h.t known asked h.door.caller past log h.cache) all.same (goes_own (given_of g.D.Desk.fixed o) past (moment_of g.D.Desk.front g.N.Names.known g.N.Names.asked o) (moment_of g.D.Desk.front g.N.Names.known g.N.Names.asked s) o.cache.now all.goes had) in
    subst (λ (x : Fixed). IsOwnBehind (record given { door = x }) past known asked new s.held.now.items s.answers.now.items (Ok c.in_ok-ruling.ruling)) (sym (c.decide.ensures.fixed ∙ c.reserve.ensures.fixed)) (ruled_own given known asked log s.held.now.items rr.compared rr.answers rr.calling new c.loop-ruling.look.site c.verdict-verdict.result d.0 d.1 d.2 legal ruled named.0 here d.3.0 past own s.answers.now.items c.in_ok-ruling.ruling c.verdict-verdict.ensures rr.is rr.shows)

pub returns-in-Ok-clause-ways : goal.returns-in-Ok-clause-ways
returns-in-Ok-clause-ways g c past had =
    let s = c.ruling.new.self in let a = c.ruling.ensures.alike in let named = c.loop-ruling.invariant.named in let given = given_of g.D.Desk.fixed s in
    let known = g.N.Names.known s.names.now in let asked = g.N.Names.asked s.names.now in let log = g.D.Desk.front s.desk.now in let new = g.D.Desk.front c.decide.new.self in let w = c.loop-ruling.self in
    let d = rw (c.reserve.ensures.fixed, c.reserve.ensures.front) at c.in-Ok.ensures.answer in
    let legal : IsLegal (g.D.Desk.fixed s.desk.now).limit new = rw (c.reserve.ensures.fixed) at c.decide.ensures.legal in
    let rr = c.in_ok-ruling.ensures.ruled in
    let ruled = subst (λ (v : Verdict). IsRuled given c.loop-ruling.look.site rr.compared rr.answers v) (sym c.verdict-verdict.ensures) rr.ruled in
    let here : place known (given.class.0, named.0) ≡ Some given.key.0 = subst (λ (h : Given). place known (h.class.0, named.0) ≡ Some h.key.0) a.same (place-longer _ known (w.class.0, named.0) w.key.0 a.goes.went.named named.1) in
    let o = c.args.self.now in let all = alike_on _ _ _ _ _ _ c.loop-ruling.invariant.alike a in
    let own = subst (λ (h : Given). IsOwnCache h.t known asked h.door.caller (Some past) log h.cache) all.same (goes_own (given_of g.D.Desk.fixed o) (Some past) (moment_of g.D.Desk.front g.N.Names.known g.N.Names.asked o) (moment_of g.D.Desk.front g.N.Names.known g.N.Names.asked s) o.cache.now all.goes had) in
    decided_ways (given_of g.D.Desk.fixed o) given all.same (moment_of g.D.Desk.front g.N.Names.known g.N.Names.asked o) known asked log new c.loop-ruling.look.site c.verdict-verdict.result (d.0, d.1, d.2) past all.goes (ruled_ways given known asked log s.held.now.items rr.compared rr.answers rr.calling new c.loop-ruling.look.site c.verdict-verdict.result d.0 d.1 d.2 legal ruled named.0 here d.3.0 past own)

pub returns-in-Ok-clause-grew : goal.returns-in-Ok-clause-grew
returns-in-Ok-clause-grew g c =
    let s = c.ruling.new.self in let a = c.ruling.ensures.alike in let named = c.loop-ruling.invariant.named in let given = given_of g.D.Desk.fixed s in
    let known = g.N.Names.known s.names.now in let asked = g.N.Names.asked s.names.now in let log = g.D.Desk.front s.desk.now in let new = g.D.Desk.front c.decide.new.self in let w = c.loop-ruling.self in
    let d = rw (c.reserve.ensures.fixed, c.reserve.ensures.front) at c.in-Ok.ensures.answer in
    let legal : IsLegal (g.D.Desk.fixed s.desk.now).limit new = rw (c.reserve.ensures.fixed) at c.decide.ensures.legal in
    let all = alike_on _ _ _ _ _ _ c.loop-ruling.invariant.alike a in
    let rr = c.in_ok-ruling.ensures.ruled in
    let ruled = subst (λ (v : Verdict). IsRuled given c.loop-ruling.look.site rr.compared rr.answers v) (sym c.verdict-verdict.ensures) rr.ruled in
    let here : place known (given.class.0, named.0) ≡ Some given.key.0 = subst (λ (h : Given). place known (h.class.0, named.0) ≡ Some h.key.0) a.same (place-longer _ known (w.class.0, named.0) w.key.0 a.goes.went.named named.1) in
    let rules = fits_since_on _ _ (moment_of g.D.Desk.front g.N.Names.known g.N.Names.asked c.args.self.now) (moment_of g.D.Desk.front g.N.Names.known g.N.Names.asked w) (moment_of g.D.Desk.front g.N.Names.known g.N.Names.asked s) c.loop-ruling.invariant.alike.same a.goes.went c.loop-ruling.invariant.rules c.ruling.ensures.rules in
    decided_grew _ given all.same (moment_of g.D.Desk.front g.N.Names.known g.N.Names.asked c.args.self.now) known asked log new c.loop-ruling.look.site c.verdict-verdict.result (d.0, d.1, d.2) (with_rules _ _ _ _ _ _ _ all.goes.grew rules) (subst (λ (h : Given). IsFilled h.args) a.same c.loop-ruling.invariant.args.1) (ruled_row given known asked log s.held.now.items rr.compared rr.answers rr.calling new c.loop-ruling.look.site c.verdict-verdict.result d.0 d.1 d.2 legal ruled named.0 here d.3.0)
    (call_whole given known asked log s.held.now.items (rr.compared ++ rr.answers) rr.calling new c.loop-ruling.look.site c.verdict-verdict.result d.0 d.1 d.2 legal)

pub returns-in_err-ruling-clause-own : goal.returns-in_err-ruling-clause-own
returns-in_err-ruling-clause-own g c past had =
    let s = c.ruling.new.self in let o = c.args.self.now in let all = alike_on _ _ _ _ _ _ c.loop-ruling.invariant.alike c.ruling.ensures.alike in
    let own = subst (λ (h : Given). IsOwnCache h.t (g.N.Names.known s.names.now) (g.N.Names.asked s.names.now) h.door.caller past (g.D.Desk.front s.desk.now) h.cache) all.same (goes_own (given_of g.D.Desk.fixed o) past (moment_of g.D.Desk.front g.N.Names.known g.N.Names.asked o) (moment_of g.D.Desk.front g.N.Names.known g.N.Names.asked s) o.cache.now all.goes had) in
    own_stopped (given_of g.D.Desk.fixed s) past _ _ _ s.held.now.items s.answers.now.items c.from_residual.result c.in_err-ruling.field-0.0 c.from_residual.ensures.1 own

pub returns-in_err-ruling-clause-ways : goal.returns-in_err-ruling-clause-ways
returns-in_err-ruling-clause-ways g c past had =
    let s = c.ruling.new.self in let o = c.args.self.now in let all = alike_on _ _ _ _ _ _ c.loop-ruling.invariant.alike c.ruling.ensures.alike in
    goes_ways (given_of g.D.Desk.fixed o) past (moment_of g.D.Desk.front g.N.Names.known g.N.Names.asked o) (moment_of g.D.Desk.front g.N.Names.known g.N.Names.asked s) all.goes

pub returns-in_err-reserve-clause-own : goal.returns-in_err-reserve-clause-own
returns-in_err-reserve-clause-own g c past had =
    let s = c.ruling.new.self in let o = c.args.self.now in let all = alike_on _ _ _ _ _ _ c.loop-ruling.invariant.alike c.ruling.ensures.alike in
    let own = subst (λ (h : Given). IsOwnCache h.t (g.N.Names.known s.names.now) (g.N.Names.asked s.names.now) h.door.caller past (g.D.Desk.front s.desk.now) h.cache) all.same (goes_own (given_of g.D.Desk.fixed o) past (moment_of g.D.Desk.front g.N.Names.known g.N.Names.asked o) (moment_of g.D.Desk.front g.N.Names.known g.N.Names.asked s) o.cache.now all.goes had) in
    rw (c.reserve.ensures.fixed, c.reserve.ensures.front) (own_stopped (given_of g.D.Desk.fixed s) past _ _ _ s.held.now.items s.answers.now.items c.from_residual-in_err-reserve.result fail.NoMemory c.from_residual-in_err-reserve.ensures.1 own)

pub returns-in_err-reserve-clause-ways : goal.returns-in_err-reserve-clause-ways
returns-in_err-reserve-clause-ways g c past had =
    let s = c.ruling.new.self in let o = c.args.self.now in let all = alike_on _ _ _ _ _ _ c.loop-ruling.invariant.alike c.ruling.ensures.alike in
    rw (c.reserve.ensures.front) (goes_ways (given_of g.D.Desk.fixed o) past (moment_of g.D.Desk.front g.N.Names.known g.N.Names.asked o) (moment_of g.D.Desk.front g.N.Names.known g.N.Names.asked s) all.goes)

pub returns-in_err-ruling-clause-holds : goal.returns-in_err-ruling-clause-holds
returns-in_err-ruling-clause-holds g c = c.ruling.ensures.holding.1.holds

pub returns-in_err-ruling-clause-first : goal.returns-in_err-ruling-clause-first
returns-in_err-ruling-clause-first g c = c.ruling.ensures.holding.1.first

pub returns-in_err-reserve-clause-holds : goal.returns-in_err-reserve-clause-holds
returns-in_err-reserve-clause-holds g c = rw (c.reserve.ensures.fixed, c.reserve.ensures.front) c.in_ok-ruling.ensures.ruled.calling.holds

pub returns-in_err-reserve-clause-first : goal.returns-in_err-reserve-clause-first
returns-in_err-reserve-clause-first g c = c.in_ok-ruling.ensures.ruled.calling.first

pub returns-in-Ok-clause-first : goal.returns-in-Ok-clause-first
returns-in-Ok-clause-first g c = c.in_ok-ruling.ensures.ruled.calling.first

pub returns-in-Ok-clause-goes : goal.returns-in-Ok-clause-goes
returns-in-Ok-clause-goes g c = tt

pub returns-in-Ok-clause-full : goal.returns-in-Ok-clause-full
returns-in-Ok-clause-full g c = tt

pub returns-in-Ok-clause-rightly : goal.returns-in-Ok-clause-rightly
returns-in-Ok-clause-rightly g c = tt

pub returns-in_err-ruling-clause-decided : goal.returns-in_err-ruling-clause-decided
returns-in_err-ruling-clause-decided g c =
    let s = c.ruling.new.self in
    not_ok (λ e. e ≡ c.in_err-ruling.field-0.0) (λ r. Decided (given_of g.D.Desk.fixed s) (g.N.Names.known s.names.now) (g.D.Desk.front c.args.self.now.desk.now) (g.D.Desk.front s.desk.now) (verdict_by r) (site_by r)) c.from_residual.result c.from_residual.ensures.1

pub returns-in_err-reserve-clause-decided : goal.returns-in_err-reserve-clause-decided
returns-in_err-reserve-clause-decided g c = not_ok (λ e. e ≡ fail.NoMemory) _ c.from_residual-in_err-reserve.result c.from_residual-in_err-reserve.ensures.1

pub returns-in_err-ruling-clause-full : goal.returns-in_err-ruling-clause-full
returns-in_err-ruling-clause-full g c = if_err (IsFullFor (given_of g.D.Desk.fixed c.ruling.new.self) (g.N.Names.known c.ruling.new.self.names.now)) c.from_residual.result c.in_err-ruling.field-0.0 c.from_residual.ensures.1 c.in_err-ruling.ensures.full

pub returns-in_err-ruling-clause-rightly : goal.returns-in_err-ruling-clause-rightly
returns-in_err-ruling-clause-rightly g c =
    let s = c.ruling.new.self in
    if_err (IsRightlyFor s.prog.now (g.N.Names.known s.names.now) (g.D.Desk.fixed s.desk.now).caller s.q s.key (g.D.Desk.front s.desk.now)) c.from_residual.result c.in_err-ruling.field-0.0 c.from_residual.ensures.1 c.in_err-ruling.ensures.rightly

pub returns-in_err-reserve-clause-full : goal.returns-in_err-reserve-clause-full
returns-in_err-reserve-clause-full g c = rw (c.reserve.ensures.fixed) (if_err (IsFullFor (given_of g.D.Desk.fixed c.ruling.new.self) (g.N.Names.known c.ruling.new.self.names.now)) c.from_residual-in_err-reserve.result fail.NoMemory c.from_residual-in_err-reserve.ensures.1 tt)

pub returns-in_err-reserve-clause-rightly : goal.returns-in_err-reserve-clause-rightly
returns-in_err-reserve-clause-rightly g c =
    let s = c.ruling.new.self in
    rw (c.reserve.ensures.fixed, c.reserve.ensures.front) (if_err (IsRightlyFor s.prog.now (g.N.Names.known s.names.now) (g.D.Desk.fixed s.desk.now).caller s.q s.key (g.D.Desk.front s.desk.now)) c.from_residual-in_err-reserve.result fail.NoMemory c.from_residual-in_err-reserve.ensures.1 tt)

pub ruling-requires-clause-calling : goal.ruling-requires-clause-calling
ruling-requires-clause-calling g c = c.loop-ruling.invariant.calling

pub ruling-requires-clause-args : goal.ruling-requires-clause-args
ruling-requires-clause-args g c = c.loop-ruling.invariant.args

pub ruling-requires-clause-named : goal.ruling-requires-clause-named
ruling-requires-clause-named g c = c.loop-ruling.invariant.named

pub ruling-requires-clause-own : goal.ruling-requires-clause-own
ruling-requires-clause-own g c = c.loop-ruling.invariant.own

pub ruling-requires-clause-few : goal.ruling-requires-clause-few
ruling-requires-clause-few g c = c.loop-ruling.invariant.few

pub ruling-requires-clause-fresh : goal.ruling-requires-clause-fresh
ruling-requires-clause-fresh g c = (c.loop-ruling.invariant.answers, c.loop-ruling.invariant.compared, c.loop-ruling.invariant.refused)

pub decide-requires-clause-key : goal.decide-requires-clause-key
decide-requires-clause-key g c =
    let s = c.ruling.new.self in let r = c.in_ok-ruling.ensures.ruled.calling in
    own_below (g.D.Desk.fixed s.desk.now).caller s.q.0 s.key r.first.0 s.held.now.items (g.D.Desk.front s.desk.now) r.first.1 r.holds

pub decide-requires-clause-owner : goal.decide-requires-clause-owner
decide-requires-clause-owner g c =
    let s = c.ruling.new.self in let r = c.in_ok-ruling.ensures.ruled.calling in
    own_below (g.D.Desk.fixed s.desk.now).caller s.q.0 s.key r.first.0 s.held.now.items (g.D.Desk.front s.desk.now) r.first.1 r.holds

pub decide-requires-clause-held : goal.decide-requires-clause-held
decide-requires-clause-held g c = rw (c.reserve.ensures.fixed, c.reserve.ensures.front) c.in_ok-ruling.ensures.ruled.calling.own_is.0

pub decide-requires-clause-owned : goal.decide-requires-clause-owned
decide-requires-clause-owned g c = rw (c.reserve.ensures.fixed, c.reserve.ensures.front) c.in_ok-ruling.ensures.ruled.calling.own_is.0

pub decide-requires-clause-spare : goal.decide-requires-clause-spare
decide-requires-clause-spare g c = c.in_ok-reserve.ensures.spare

pub returns-in_err-ruling-clause-asks : goal.returns-in_err-ruling-clause-asks
returns-in_err-ruling-clause-asks g c = not_ok (λ e. e ≡ c.in_err-ruling.field-0.0) _ c.from_residual.result c.from_residual.ensures.1

pub returns-in_err-reserve-clause-asks : goal.returns-in_err-reserve-clause-asks
returns-in_err-reserve-clause-asks g c = not_ok (λ e. e ≡ fail.NoMemory) _ c.from_residual-in_err-reserve.result c.from_residual-in_err-reserve.ensures.1

pub returns-in-Ok-clause-asks : goal.returns-in-Ok-clause-asks
returns-in-Ok-clause-asks g c =
    let o = c.args.self.now in let s = c.ruling.new.self in
    let d = rw (c.reserve.ensures.fixed, c.reserve.ensures.front) at c.in-Ok.ensures.answer in
    let all = alike_on _ _ _ _ _ _ c.loop-ruling.invariant.alike c.ruling.ensures.alike in
    asks_by (given_of g.D.Desk.fixed o) (given_of g.D.Desk.fixed s) all.same (moment_of g.D.Desk.front g.N.Names.known g.N.Names.asked o) (moment_of g.D.Desk.front g.N.Names.known g.N.Names.asked s) (g.D.Desk.front c.decide.new.self) s.held.now.items
    (Call s.key s.q c.loop-ruling.look.site s.args c.verdict-verdict.result) all.goes (d.0, d.1, d.2) c.requires.own (c.requires.calling.asked_for o.key.0 c.requires.calling.own_is.0) c.in_ok-ruling.ensures.ruled.calling.holds c.in_ok-ruling.ruling c.in_ok-ruling.ensures.marks
