use Rattle.std.proofs.Common.{◌≡◌, ℕ, Some, None, refl, sym, ◌∙◌, subst, length, eq-eqb}
use Rattle.std.proofs.{lemmas.Bool.eqb-true, lemmas.Option.slice_get_read}
use Rattle.std.specs.Prelude.{slice_get}
use Rattle.hb_tables.specs.History.{spot, times}
use Rattle.hb_call.specs.{Alike.alike_itself, Alike.goes_itself, Calling.Given, Comparing.HasCompared, Seen.given_of, Seen.moment_of}
use Rattle.hb_call.proofs.ApartLemmas.{next_free}
use Rattle.hb_call.proofs.CompareLemmas.{goes_compared, kept_held, kept_other, kept_same, the_low}
use Rattle.hb_call.proofs.call.Call.compare_at.Goals as goal

pub hold-requires-clause-below : goal.hold-requires-clause-below
hold-requires-clause-below g c =
    let s = c.args.self.now in let seen = c.index.result.now in
    let there : slice_get c.args.kept.now.counts.items c.args.at ≡ Some seen = slice_get_read c.args.kept.now.counts.items (length c.args.kept.now.counts.items) c.args.at seen refl c.requires.at c.index.ensures in
    the_low (given_of g.D.Desk.fixed s) (g.N.Names.known s.names.now) (g.N.Names.asked s.names.now)
    (g.D.Desk.front s.desk.now) s.held.now.items c.args.kept.now c.args.at seen c.requires.calling c.requires.check there c.requires.key c.requires.count c.requires.few

pub hold-requires-clause-free : goal.hold-requires-clause-free
hold-requires-clause-free g c =
    let s = c.args.self.now in let seen = c.index.result.now in
    let there : slice_get c.args.kept.now.counts.items c.args.at ≡ Some seen = slice_get_read c.args.kept.now.counts.items (length c.args.kept.now.counts.items) c.args.at seen refl c.requires.at c.index.ensures in
    let other : seen.key.0 ≡ s.key.0 → ⊥ = λ e. let t = eq-eqb seen.key.0 s.key.0 e in let f = c.eq.ensures in let differ = c.if-eq.false in cc (t, f, differ) in
    next_free (given_of g.D.Desk.fixed s) (g.N.Names.known s.names.now) (g.N.Names.asked s.names.now)
    (g.D.Desk.front s.desk.now) s.held.now.items c.args.kept.now c.args.at seen c.requires.calling c.requires.program c.requires.check there other

pub returns-then-eq-clause-one : goal.returns-then-eq-clause-one
returns-then-eq-clause-one g c =
    let s = c.args.self.now in let seen = c.index.result.now in
    let there : slice_get c.args.kept.now.counts.items c.args.at ≡ Some seen = slice_get_read c.args.kept.now.counts.items (length c.args.kept.now.counts.items) c.args.at seen refl c.requires.at c.index.ensures in
    let own : s.key.0 ≡ seen.key.0 = sym (eqb-true seen.key.0 s.key.0 (sym c.eq.ensures ∙ c.if-eq.true)) in
    let one = subst (λ (k : ℕ). times ((g.D.Desk.fixed s.desk.now).caller, s.q.0) (spot k (g.D.Desk.front s.desk.now)).calls ≡ 1) own c.requires.calling.own_is.0 in
    kept_held (given_of g.D.Desk.fixed s) (g.N.Names.known s.names.now) (g.N.Names.asked s.names.now)
    (g.D.Desk.front s.desk.now) s.held.now.items c.args.kept.now c.args.at seen c.requires.calling c.requires.check there c.requires.key c.requires.count one

pub returns-then-eq-clause-alike : goal.returns-then-eq-clause-alike
returns-then-eq-clause-alike g c = alike_itself _ _

pub returns-in_err-held-clause-alike : goal.returns-in_err-held-clause-alike
returns-in_err-held-clause-alike g c =
    record { same = c.hold.ensures.same; goes = rw (c.hold.ensures.names, c.in_err-held.ensures.failed.2) (goes_itself _ _) }

pub returns-then-held-seen-clause-alike : goal.returns-then-held-seen-clause-alike
returns-then-held-seen-clause-alike g c =
    let s = c.args.self.now in let seen = c.index.result.now in
    let there : slice_get c.args.kept.now.counts.items c.args.at ≡ Some seen = slice_get_read c.args.kept.now.counts.items (length c.args.kept.now.counts.items) c.args.at seen refl c.requires.at c.index.ensures in
    let n = c.hold.new.self in let found = c.in_ok-held.held in let new = g.D.Desk.front n.desk.now in let adds = c.in_ok-held.ensures.held.1 in let legal = c.in_ok-held.ensures.legal in
    record {
      same = c.hold.ensures.same;
      goes = rw (c.hold.ensures.names)
          (goes_compared (given_of g.D.Desk.fixed s) (g.N.Names.known s.names.now) (g.N.Names.asked s.names.now)
          (g.D.Desk.front s.desk.now) s.held.now.items c.args.kept.now c.args.at seen c.requires.calling c.requires.check there c.requires.key c.requires.count new found adds legal);
    }

pub returns-clause-alike : goal.returns-clause-alike
returns-clause-alike g c =
    let s = c.args.self.now in let seen = c.index.result.now in
    let there : slice_get c.args.kept.now.counts.items c.args.at ≡ Some seen = slice_get_read c.args.kept.now.counts.items (length c.args.kept.now.counts.items) c.args.at seen refl c.requires.at c.index.ensures in
    let n = c.hold.new.self in let found = c.in_ok-held.held in let new = g.D.Desk.front n.desk.now in let adds = c.in_ok-held.ensures.held.1 in let legal = c.in_ok-held.ensures.legal in
    record {
      same = c.hold.ensures.same;
      goes = rw (c.hold.ensures.names)
          (goes_compared (given_of g.D.Desk.fixed s) (g.N.Names.known s.names.now) (g.N.Names.asked s.names.now)
          (g.D.Desk.front s.desk.now) s.held.now.items c.args.kept.now c.args.at seen c.requires.calling c.requires.check there c.requires.key c.requires.count new found adds legal);
    }

pub returns-then-held-seen-clause-one : goal.returns-then-held-seen-clause-one
returns-then-held-seen-clause-one g c =
    let s = c.args.self.now in let seen = c.index.result.now in
    let there : slice_get c.args.kept.now.counts.items c.args.at ≡ Some seen = slice_get_read c.args.kept.now.counts.items (length c.args.kept.now.counts.items) c.args.at seen refl c.requires.at c.index.ensures in
    let other : seen.key.0 ≡ s.key.0 → ⊥ = λ e. let t = eq-eqb seen.key.0 s.key.0 e in let f = c.eq.ensures in let differ = c.if-eq.false in cc (t, f, differ) in
    let none = next_free (given_of g.D.Desk.fixed s) (g.N.Names.known s.names.now) (g.N.Names.asked s.names.now)
    (g.D.Desk.front s.desk.now) s.held.now.items c.args.kept.now c.args.at seen c.requires.calling c.requires.program c.requires.check there other in
    let n = c.hold.new.self in let found = c.in_ok-held.held in let new = g.D.Desk.front n.desk.now in let adds = c.in_ok-held.ensures.held.1 in let legal = c.in_ok-held.ensures.legal in
    let done = kept_same (given_of g.D.Desk.fixed s) (g.N.Names.known s.names.now) (g.N.Names.asked s.names.now)
    (g.D.Desk.front s.desk.now) s.held.now.items c.args.kept.now c.args.at seen c.requires.calling c.requires.check there c.requires.key c.requires.count new found adds legal none
    c.requires.few c.if-held-seen.true in
    subst (λ (x : Given). HasCompared x (moment_of g.D.Desk.front g.N.Names.known g.N.Names.asked s)
    (moment_of g.D.Desk.front g.N.Names.known g.N.Names.asked n) n.held.now.items c.args.kept.now c.args.at None) c.hold.ensures.same
    (rw (c.hold.ensures.names, c.in_ok-held.ensures.held.0) done)

pub returns-clause-one : goal.returns-clause-one
returns-clause-one g c =
    let s = c.args.self.now in let seen = c.index.result.now in
    let there : slice_get c.args.kept.now.counts.items c.args.at ≡ Some seen = slice_get_read c.args.kept.now.counts.items (length c.args.kept.now.counts.items) c.args.at seen refl c.requires.at c.index.ensures in
    let other : seen.key.0 ≡ s.key.0 → ⊥ = λ e. let t = eq-eqb seen.key.0 s.key.0 e in let f = c.eq.ensures in let differ = c.if-eq.false in cc (t, f, differ) in
    let none = next_free (given_of g.D.Desk.fixed s) (g.N.Names.known s.names.now) (g.N.Names.asked s.names.now)
    (g.D.Desk.front s.desk.now) s.held.now.items c.args.kept.now c.args.at seen c.requires.calling c.requires.program c.requires.check there other in
    let n = c.hold.new.self in let found = c.in_ok-held.held in let new = g.D.Desk.front n.desk.now in let adds = c.in_ok-held.ensures.held.1 in let legal = c.in_ok-held.ensures.legal in
    let done = kept_other (given_of g.D.Desk.fixed s) (g.N.Names.known s.names.now) (g.N.Names.asked s.names.now)
    (g.D.Desk.front s.desk.now) s.held.now.items c.args.kept.now c.args.at seen c.requires.calling c.requires.check there c.requires.key c.requires.count new found adds legal none
    c.requires.few c.if-held-seen.false in
    subst (λ (x : Given). HasCompared x (moment_of g.D.Desk.front g.N.Names.known g.N.Names.asked s)
    (moment_of g.D.Desk.front g.N.Names.known g.N.Names.asked n) n.held.now.items c.args.kept.now c.args.at (Some found)) c.hold.ensures.same
    (rw (c.hold.ensures.names, c.in_ok-held.ensures.held.0) done)

pub returns-then-held-seen-clause-holding : goal.returns-then-held-seen-clause-holding
returns-then-held-seen-clause-holding g c = let r = returns-then-held-seen-clause-one g c in (_, r.calling)

pub returns-clause-holding : goal.returns-clause-holding
returns-clause-holding g c = let r = returns-clause-one g c in (_, r.calling)
