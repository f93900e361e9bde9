use mathlib.Core.List.{IsPrefix}
use Rattle.std.proofs.Common.{◌≡◌, ◌∙◌, ◌<◌, Some, None, List, refl, sym, ap, subst, arith, rules}
use Rattle.std.specs.Prelude.{Option, Ok, Err, Result, IfErr, IfOk, OnOk}
use Rattle.hb_tree.specs.Canon.{bytes_at}
use Rattle.hb_names.specs.Names.{Differ, place, with_name}
use Rattle.hb_names.specs.declared.names.TheConstants.{NAMES_MAX}
use Rattle.hb_names.proofs.NameLemmas.{place-longer, with_name-begins}
use Rattle.hb_tables.specs.Answers.{Fixed}
use Rattle.hb_tables.specs.History.{Adds, IsLegal}
use Rattle.hb_tables.specs.declared.entry.Act.TheVariants.{Hold}
use Rattle.hb_call.specs.declared.frame.CallFail.{CallFail}
use Rattle.hb_call.specs.declared.frame.CallFail.TheVariants as fail
use Rattle.hb_call.specs.declared.frame.Entered.{Entered}
use Rattle.hb_call.specs.declared.ruling.Ended.{Ended}
use Rattle.hb_call.specs.Calling.{Given, IsAskedFor}
use Rattle.hb_call.specs.Entering.{Asks, Enters, IsEndedWell, IsTold, IsUndone, MarksOnce, MayUndo, entered_of}
use Rattle.hb_call.specs.Growth.{EachNew, Grown}
use Rattle.hb_call.specs.GrowthLaws.{grown_itself, grown_on, prefix_itself, prefix_more, with_rules}
use Rattle.hb_call.specs.Held.{stands}
use Rattle.hb_call.specs.OwnCache.{IsOwnCache, KeepsChecks}
use Rattle.hb_call.specs.Rules.{EntersBy}
use Rattle.hb_cache.specs.declared.kept.Kept.{Kept}
use Rattle.hb_call.specs.OwnLaws.{keeps_named, keeps_on, own_named}
use Rattle.hb_call.specs.Sharing.{Collects}
use Rattle.hb_call.proofs.BegunLemmas.{begun_started}
use Rattle.hb_call.proofs.DecidingLemmas.{learned}
use Rattle.hb_call.proofs.EnteredLemmas.{ended_marks, kept_enters, kept_framed, kept_marks, kept_others, kept_own, kept_told, may_undo, own_moved, told_back}
use Rattle.hb_call.proofs.EnteringLemmas.{bytes_found, enters}
use Rattle.hb_call.proofs.GrowthLemmas.{asked_now}
use Rattle.hb_call.proofs.NoteLemmas.{as_err}
use Rattle.hb_call.proofs.OwnGoingLemmas.{goes_keep, goes_own}
use Rattle.hb_call.proofs.StartLemmas.{begins, first_fits, first_room, looked_first, none_held, started}
use Rattle.hb_call.proofs.StepLemmas.{at}
use Rattle.hb_call.proofs.entering.enter.Goals as goal

pub hold-own-requires-clause-free : goal.hold-own-requires-clause-free
hold-own-requires-clause-free g c = rw (c.reserve.ensures.fixed, c.reserve.ensures.front) (none_held (g.D.Desk.fixed c.args.desk.now).caller c.args.q.0 c.in_ok-key.key.0 (g.D.Desk.front c.args.desk.now) c.requires.unused)

pub hold-own-requires-clause-few : goal.hold-own-requires-clause-few
hold-own-requires-clause-few g c = rw (c.reserve.ensures.fixed, c.reserve.ensures.front) (first_room (g.D.Desk.fixed c.args.desk.now).caller c.args.q.0 c.in_ok-key.key.0 (g.D.Desk.front c.args.desk.now) c.requires.unused c.requires.room)

pub returns-in_err-key-clause-grown : goal.returns-in_err-key-clause-grown
returns-in_err-key-clause-grown g c told = rw c.in_err-key.ensures.unasked (grown_itself _ _ _ _ _)

pub returns-in_err-key-clause-cache : goal.returns-in_err-key-clause-cache
returns-in_err-key-clause-cache g c = rw c.in_err-key.ensures.unasked (own_named _ _ _ _ _ _ None _ _ c.key.ensures.kept (prefix_itself _) c.requires.cache)

pub returns-in_err-key-clause-own : goal.returns-in_err-key-clause-own
returns-in_err-key-clause-own g c told = rw c.in_err-key.ensures.unasked (keeps_named _ _ _ _ _ _ _ _ c.key.ensures.kept (prefix_itself _))

pub returns-in_err-held-clause-cache : goal.returns-in_err-held-clause-cache
returns-in_err-held-clause-cache g c = rw c.lend.ensures.kept (own_named _ _ _ _ _ _ None _ _ c.key.ensures.kept (rw c.in_ok-key.ensures.asked (with_name-begins _ _)) c.requires.cache)

pub returns-in_err-reserve-clause-cache : goal.returns-in_err-reserve-clause-cache
returns-in_err-reserve-clause-cache g c = rw (c.lend.ensures.kept, c.reserve.ensures.front) (own_named _ _ _ _ _ _ None _ _ c.key.ensures.kept (rw c.in_ok-key.ensures.asked (with_name-begins _ _)) c.requires.cache)

pub returns-in_err-ended-clause-marks : goal.returns-in_err-ended-clause-marks
returns-in_err-ended-clause-marks g c =
    let asks : Asks = record { t = c.args.prog.now; door = g.D.Desk.fixed c.args.desk.now; q = c.args.q; class = c.args.class; bytes = bytes_at c.args.prog.now.names c.args.name.0; args = c.args.args } in
    as_err (λ (x : Result Entered CallFail). MarksOnce asks (g.N.Names.asked c.args.names.now) (g.N.Names.asked c.names-1.given.0) (g.D.Desk.front c.args.desk.now) (g.D.Desk.front c.desk-1.given.0) x) c.from_residual-in_err-ended.result c.in_err-ended.field-0.0 c.from_residual-in_err-ended.ensures.1 tt

pub returns-in_err-ended-clause-collects : goal.returns-in_err-ended-clause-collects
returns-in_err-ended-clause-collects g c =
    let hs = stands (g.D.Desk.fixed c.args.desk.now).caller c.args.q.0 (g.D.Desk.front c.desk-1.given.0) in
    as_err (λ (x : Result Entered CallFail). Collects c.args.prog.now (g.N.Names.known c.names-1.given.0) hs c.lend.new.self c.args.share.now c.args.share.now x) c.from_residual-in_err-ended.result c.in_err-ended.field-0.0 c.from_residual-in_err-ended.ensures.1 refl

pub finish-requires : goal.finish-requires
finish-requires g c =
    let door = g.D.Desk.fixed c.args.desk.now in let old = g.D.Desk.front c.args.desk.now in let mid = g.D.Desk.front c.hold-own.new.self in let look = g.D.Desk.front c.look-look.new.self in
    let key = c.in_ok-key.key in let own = c.hold-own.result in let known = g.N.Names.known c.key.new.self in let asked = g.N.Names.asked c.key.new.self in
    let adds : Adds door.caller old mid (Hold key c.args.q own.ty own.changes) = rw (c.reserve.ensures.fixed, c.reserve.ensures.front) at c.hold-own.ensures.entry in
    let legal : IsLegal door.limit mid = rw (c.reserve.ensures.fixed) at c.hold-own.ensures.legal in
    let seen = rw (c.hold-own.ensures.fixed, c.reserve.ensures.fixed) at c.look-look.ensures.seen in
    let later : IsLegal door.limit look = rw (c.hold-own.ensures.fixed, c.reserve.ensures.fixed) at c.look-look.ensures.legal in
    let fixed : g.D.Desk.fixed c.look-look.new.self ≡ door = c.look-look.ensures.fixed ∙ c.hold-own.ensures.fixed ∙ c.reserve.ensures.fixed in
    let given : Given = record { t = c.args.prog.now; door = door; q = c.args.q; key = key; own = own; class = c.args.class; args = c.args.args; cache = c.lend.new.self; desk = 0; names = 0; answers = 0 } in
    let first = begins given (g.N.Names.known c.args.names.now) (g.N.Names.asked c.args.names.now) known asked old mid look (c.args.class.0, c.name.result.now) own
    c.key.ensures.kept c.key.ensures.few c.key.ensures.differ c.in_ok-key.ensures.key c.in_ok-key.ensures.asked adds legal c.requires.unused seen.0 later in
    let low : key.0 < NAMES_MAX = let a = c.in_ok-key.ensures.below in let b = c.key.ensures.few in omega (arith, a, b) in
    let asks : IsAskedFor known asked key.0 = subst (λ m. IsAskedFor known m key.0) (sym c.in_ok-key.ensures.asked) (asked_now known (g.N.Names.asked c.args.names.now) (c.args.class.0, c.name.result.now) key.0 c.in_ok-key.ensures.key) in
    let start = started c.args.prog.now door c.args.q known asked old mid key own adds legal c.requires.unused c.requires.room low asks in
    record {
      calling = rw (c.look-look.ensures.fixed, c.hold-own.ensures.fixed, c.reserve.ensures.fixed, c.push_reserved.ensures.items, c.in_ok-held.ensures.empty, c.new-answers.ensures.items, c.new-compared.ensures.items)
          (learned c.args.prog.now door c.args.q known asked mid key own _ _ start look seen.0 later);
      args = c.requires.args;
      fresh = (c.new-answers.ensures.items, c.new-compared.ensures.items, refl);
      named = (c.name.result.now, c.in_ok-key.ensures.key);
      own = rw (c.look-look.ensures.fixed, c.hold-own.ensures.fixed, c.reserve.ensures.fixed) (goes_own given None (at (g.N.Names.known c.args.names.now) (g.N.Names.asked c.args.names.now) old) (at known asked look) c.lend.new.self first (rw c.lend.ensures.kept c.requires.cache));
      few = c.key.ensures.few;
      looked = rw (c.look-look.ensures.fixed, c.hold-own.ensures.fixed, c.reserve.ensures.fixed) (looked_first door.caller c.args.q old mid look key own.ty own.changes c.look-look.result adds c.requires.unused seen.0 seen.1);
    }

pub keep-requires : goal.keep-requires
keep-requires g c =
    let desk : c.finish.new.self.desk.now ≡ c.desk-1.given.0 = search rules in
    let names : c.finish.new.self.names.now ≡ c.names-1.given.0 = search rules in
    let e = c.in_ok-ended.ended in
    record {
      held = subst (λ (d : g.row.D.Denot). MayUndo (g.D.Desk.fixed d).caller (g.D.Desk.front d) e) desk
          (rw c.finish.ensures.fixed (may_undo (g.D.Desk.fixed c.look-look.new.self).caller c.args.q (g.D.Desk.front c.finish.new.self.desk.now) e c.in_ok-ended.ensures.ended));
    }

pub returns-in_err-ended-clause-entered : goal.returns-in_err-ended-clause-entered
returns-in_err-ended-clause-entered g c =
    let desk : c.finish.new.self.desk.now ≡ c.desk-1.given.0 = search rules in
    let names : c.finish.new.self.names.now ≡ c.names-1.given.0 = search rules in
    let door = g.D.Desk.fixed c.args.desk.now in let old = g.D.Desk.front c.args.desk.now in let mid = g.D.Desk.front c.hold-own.new.self in let look = g.D.Desk.front c.look-look.new.self in
    let key = c.in_ok-key.key in let own = c.hold-own.result in let known = g.N.Names.known c.key.new.self in let asked = g.N.Names.asked c.key.new.self in
    let adds : Adds door.caller old mid (Hold key c.args.q own.ty own.changes) = rw (c.reserve.ensures.fixed, c.reserve.ensures.front) at c.hold-own.ensures.entry in
    let legal : IsLegal door.limit mid = rw (c.reserve.ensures.fixed) at c.hold-own.ensures.legal in
    let seen = rw (c.hold-own.ensures.fixed, c.reserve.ensures.fixed) at c.look-look.ensures.seen in
    let later : IsLegal door.limit look = rw (c.hold-own.ensures.fixed, c.reserve.ensures.fixed) at c.look-look.ensures.legal in
    let fixed : g.D.Desk.fixed c.look-look.new.self ≡ door = c.look-look.ensures.fixed ∙ c.hold-own.ensures.fixed ∙ c.reserve.ensures.fixed in
    let asks : Asks = record { t = c.args.prog.now; door = door; q = c.args.q; class = c.args.class; bytes = bytes_at c.args.prog.now.names c.args.name.0; args = c.args.args } in
    let last = g.N.Names.known c.finish.new.self.names.now in
    let found : place last (c.args.class.0, bytes_at c.args.prog.now.names c.args.name.0) ≡ Some key.0 =
    rw (bytes_found c.args.prog.now.names c.args.name.0 c.name.result.now c.name.ensures.value) (place-longer known last (c.args.class.0, c.name.result.now) key.0 c.finish.ensures.went.named c.in_ok-key.ensures.key) in
    let end = g.D.Desk.front c.finish.new.self.desk.now in let r = c.from_residual-in_err-ended.result in let cause = c.in_err-ended.field-0.0 in
    let done = enters asks _ refl fixed refl refl refl last found old look (begun_started _ door fixed old mid look adds c.requires.unused seen.0) end (Err cause) c.in_err-ended.ensures.finished in
    subst (λ (d : g.row.D.Denot). Enters asks (g.N.Names.known c.names-1.given.0) old (g.D.Desk.front d) r) desk
    (subst (λ (m : g.row.N.Denot). Enters asks (g.N.Names.known m) old end r) names
    (as_err (λ (x : Result Entered CallFail). Enters asks last old end x) r cause c.from_residual-in_err-ended.ensures.1 done))

pub returns-in_err-ended-clause-grown : goal.returns-in_err-ended-clause-grown
returns-in_err-ended-clause-grown g c told =
    let desk : c.finish.new.self.desk.now ≡ c.desk-1.given.0 = search rules in
    let names : c.finish.new.self.names.now ≡ c.names-1.given.0 = search rules in
    let door = g.D.Desk.fixed c.args.desk.now in let old = g.D.Desk.front c.args.desk.now in let mid = g.D.Desk.front c.hold-own.new.self in let look = g.D.Desk.front c.look-look.new.self in
    let key = c.in_ok-key.key in let own = c.hold-own.result in let known = g.N.Names.known c.key.new.self in let asked = g.N.Names.asked c.key.new.self in
    let adds : Adds door.caller old mid (Hold key c.args.q own.ty own.changes) = rw (c.reserve.ensures.fixed, c.reserve.ensures.front) at c.hold-own.ensures.entry in
    let legal : IsLegal door.limit mid = rw (c.reserve.ensures.fixed) at c.hold-own.ensures.legal in
    let seen = rw (c.hold-own.ensures.fixed, c.reserve.ensures.fixed) at c.look-look.ensures.seen in
    let later : IsLegal door.limit look = rw (c.hold-own.ensures.fixed, c.reserve.ensures.fixed) at c.look-look.ensures.legal in
    let fixed : g.D.Desk.fixed c.look-look.new.self ≡ door = c.look-look.ensures.fixed ∙ c.hold-own.ensures.fixed ∙ c.reserve.ensures.fixed in
    let given : Given = record { t = c.args.prog.now; door = door; q = c.args.q; key = key; own = own; class = c.args.class; args = c.args.args; cache = c.lend.new.self; desk = 0; names = 0; answers = 0 } in
    let first = begins given (g.N.Names.known c.args.names.now) (g.N.Names.asked c.args.names.now) known asked old mid look (c.args.class.0, c.name.result.now) own
    c.key.ensures.kept c.key.ensures.few c.key.ensures.differ c.in_ok-key.ensures.key c.in_ok-key.ensures.asked adds legal c.requires.unused seen.0 later in
    let cause = c.in_err-ended.field-0.0 in
    let so : IsTold {X = Ended} (Err cause) = told_back c.from_residual-in_err-ended.result cause c.from_residual-in_err-ended.ensures.1 told in
    let before = with_rules _ _ _ _ _ _ _ first.grew (first_fits c.args.prog.now known door.caller c.args.q old mid look key own.ty own.changes adds c.requires.unused c.in_ok-key.ensures.below seen.0) in
    let since = subst (λ (d : Fixed). Grown c.args.prog.now d.caller (g.N.Names.known c.finish.new.self.names.now) asked (g.N.Names.asked c.finish.new.self.names.now) look (g.D.Desk.front c.finish.new.self.desk.now)) fixed (c.in_err-ended.ensures.grew so) in
    let all = grown_on _ _ known _ _ asked _ old look _ before since c.finish.ensures.went.named in
    subst (λ (m : g.row.N.Denot). Grown c.args.prog.now door.caller (g.N.Names.known m) (g.N.Names.asked c.args.names.now) (g.N.Names.asked m) old (g.D.Desk.front c.desk-1.given.0)) names
    (subst (λ (d : g.row.D.Denot). Grown c.args.prog.now door.caller (g.N.Names.known c.finish.new.self.names.now) (g.N.Names.asked c.args.names.now) (g.N.Names.asked c.finish.new.self.names.now) old (g.D.Desk.front d)) desk all)

pub returns-in_err-ended-clause-cache : goal.returns-in_err-ended-clause-cache
returns-in_err-ended-clause-cache g c =
    let desk : c.finish.new.self.desk.now ≡ c.desk-1.given.0 = search rules in
    let names : c.finish.new.self.names.now ≡ c.names-1.given.0 = search rules in
    let door = g.D.Desk.fixed c.args.desk.now in let old = g.D.Desk.front c.args.desk.now in let mid = g.D.Desk.front c.hold-own.new.self in let look = g.D.Desk.front c.look-look.new.self in
    let key = c.in_ok-key.key in let own = c.hold-own.result in let known = g.N.Names.known c.key.new.self in let asked = g.N.Names.asked c.key.new.self in
    let adds : Adds door.caller old mid (Hold key c.args.q own.ty own.changes) = rw (c.reserve.ensures.fixed, c.reserve.ensures.front) at c.hold-own.ensures.entry in
    let legal : IsLegal door.limit mid = rw (c.reserve.ensures.fixed) at c.hold-own.ensures.legal in
    let seen = rw (c.hold-own.ensures.fixed, c.reserve.ensures.fixed) at c.look-look.ensures.seen in
    let later : IsLegal door.limit look = rw (c.hold-own.ensures.fixed, c.reserve.ensures.fixed) at c.look-look.ensures.legal in
    let fixed : g.D.Desk.fixed c.look-look.new.self ≡ door = c.look-look.ensures.fixed ∙ c.hold-own.ensures.fixed ∙ c.reserve.ensures.fixed in
    let given : Given = record { t = c.args.prog.now; door = door; q = c.args.q; key = key; own = own; class = c.args.class; args = c.args.args; cache = c.lend.new.self; desk = 0; names = 0; answers = 0 } in
    let first = begins given (g.N.Names.known c.args.names.now) (g.N.Names.asked c.args.names.now) known asked old mid look (c.args.class.0, c.name.result.now) own
    c.key.ensures.kept c.key.ensures.few c.key.ensures.differ c.in_ok-key.ensures.key c.in_ok-key.ensures.asked adds legal c.requires.unused seen.0 later in
    let keeps = goes_keep given (at (g.N.Names.known c.args.names.now) (g.N.Names.asked c.args.names.now) old) (at known asked look) c.lend.new.self first in
    let known2 = g.N.Names.known c.finish.new.self.names.now in let asked2 = g.N.Names.asked c.finish.new.self.names.now in let end = g.D.Desk.front c.finish.new.self.desk.now in let cache = c.lend.new.self in let t = c.args.prog.now in
    let here = subst (λ (d : Fixed). IsOwnCache t known asked d.caller None look cache) (sym fixed) (keeps.own None (rw c.lend.ensures.kept c.requires.cache)) in
    let own2 = subst (λ (d : Fixed). IsOwnCache t known2 asked2 d.caller None end cache) fixed (c.in_err-ended.ensures.own None here) in
    subst (λ (m : g.row.N.Denot). IsOwnCache t (g.N.Names.known m) (g.N.Names.asked m) door.caller None (g.D.Desk.front c.desk-1.given.0) cache) names
    (subst (λ (d : g.row.D.Denot). IsOwnCache t known2 asked2 door.caller None (g.D.Desk.front d) cache) desk own2)

pub returns-in_err-ended-clause-own : goal.returns-in_err-ended-clause-own
returns-in_err-ended-clause-own g c told =
    let desk : c.finish.new.self.desk.now ≡ c.desk-1.given.0 = search rules in
    let names : c.finish.new.self.names.now ≡ c.names-1.given.0 = search rules in
    let door = g.D.Desk.fixed c.args.desk.now in let old = g.D.Desk.front c.args.desk.now in let mid = g.D.Desk.front c.hold-own.new.self in let look = g.D.Desk.front c.look-look.new.self in
    let key = c.in_ok-key.key in let own = c.hold-own.result in let known = g.N.Names.known c.key.new.self in let asked = g.N.Names.asked c.key.new.self in
    let adds : Adds door.caller old mid (Hold key c.args.q own.ty own.changes) = rw (c.reserve.ensures.fixed, c.reserve.ensures.front) at c.hold-own.ensures.entry in
    let legal : IsLegal door.limit mid = rw (c.reserve.ensures.fixed) at c.hold-own.ensures.legal in
    let seen = rw (c.hold-own.ensures.fixed, c.reserve.ensures.fixed) at c.look-look.ensures.seen in
    let later : IsLegal door.limit look = rw (c.hold-own.ensures.fixed, c.reserve.ensures.fixed) at c.look-look.ensures.legal in
    let fixed : g.D.Desk.fixed c.look-look.new.self ≡ door = c.look-look.ensures.fixed ∙ c.hold-own.ensures.fixed ∙ c.reserve.ensures.fixed in
    let given : Given = record { t = c.args.prog.now; door = door; q = c.args.q; key = key; own = own; class = c.args.class; args = c.args.args; cache = c.lend.new.self; desk = 0; names = 0; answers = 0 } in
    let first = begins given (g.N.Names.known c.args.names.now) (g.N.Names.asked c.args.names.now) known asked old mid look (c.args.class.0, c.name.result.now) own
    c.key.ensures.kept c.key.ensures.few c.key.ensures.differ c.in_ok-key.ensures.key c.in_ok-key.ensures.asked adds legal c.requires.unused seen.0 later in
    let keeps = goes_keep given (at (g.N.Names.known c.args.names.now) (g.N.Names.asked c.args.names.now) old) (at known asked look) c.lend.new.self first in
    let known2 = g.N.Names.known c.finish.new.self.names.now in let asked2 = g.N.Names.asked c.finish.new.self.names.now in let end = g.D.Desk.front c.finish.new.self.desk.now in let cache = c.lend.new.self in let t = c.args.prog.now in
    let names1 = g.N.Names.known c.args.names.now in let was = g.N.Names.asked c.args.names.now in
    let since : KeepsChecks t door.caller known known2 asked asked2 look end cache cache = record {
      own = λ past had. subst (λ (d : Fixed). IsOwnCache t known2 asked2 d.caller past end cache) fixed (c.in_err-ended.ensures.own past (subst (λ (d : Fixed). IsOwnCache t known asked d.caller past look cache) (sym fixed) had));
      ways = λ past had. subst (λ (d : Fixed). EachNew (EntersBy d.caller past) d.caller look end) fixed (c.finish.ensures.ways past (subst (λ (d : Fixed). IsOwnCache t known asked d.caller (Some past) look cache) (sym fixed) had));
    } in
    let all = keeps_on t door.caller names1 known known2 was asked asked2 old look end cache cache cache c.finish.ensures.went.kept keeps since in
    subst (λ (m : g.row.N.Denot). KeepsChecks t door.caller names1 (g.N.Names.known m) was (g.N.Names.asked m) old (g.D.Desk.front c.desk-1.given.0) c.args.cache.now cache) names
    (subst (λ (d : g.row.D.Denot). KeepsChecks t door.caller names1 known2 was asked2 old (g.D.Desk.front d) c.args.cache.now cache) desk
    (subst (λ (x : List (Option Kept)). KeepsChecks t door.caller names1 known2 was asked2 old end x cache) c.lend.ensures.kept all))

pub returns-in_err-ended-clause-others : goal.returns-in_err-ended-clause-others
returns-in_err-ended-clause-others g c p other =
    let desk : c.finish.new.self.desk.now ≡ c.desk-1.given.0 = search rules in
    let names : c.finish.new.self.names.now ≡ c.names-1.given.0 = search rules in
    let door = g.D.Desk.fixed c.args.desk.now in let old = g.D.Desk.front c.args.desk.now in let mid = g.D.Desk.front c.hold-own.new.self in let look = g.D.Desk.front c.look-look.new.self in
    let key = c.in_ok-key.key in let own = c.hold-own.result in let known = g.N.Names.known c.key.new.self in let asked = g.N.Names.asked c.key.new.self in
    let adds : Adds door.caller old mid (Hold key c.args.q own.ty own.changes) = rw (c.reserve.ensures.fixed, c.reserve.ensures.front) at c.hold-own.ensures.entry in
    let legal : IsLegal door.limit mid = rw (c.reserve.ensures.fixed) at c.hold-own.ensures.legal in
    let seen = rw (c.hold-own.ensures.fixed, c.reserve.ensures.fixed) at c.look-look.ensures.seen in
    let later : IsLegal door.limit look = rw (c.hold-own.ensures.fixed, c.reserve.ensures.fixed) at c.look-look.ensures.legal in
    let fixed : g.D.Desk.fixed c.look-look.new.self ≡ door = c.look-look.ensures.fixed ∙ c.hold-own.ensures.fixed ∙ c.reserve.ensures.fixed in
    let given : Given = record { t = c.args.prog.now; door = door; q = c.args.q; key = key; own = own; class = c.args.class; args = c.args.args; cache = c.lend.new.self; desk = 0; names = 0; answers = 0 } in
    let first = begins given (g.N.Names.known c.args.names.now) (g.N.Names.asked c.args.names.now) known asked old mid look (c.args.class.0, c.name.result.now) own
    c.key.ensures.kept c.key.ensures.few c.key.ensures.differ c.in_ok-key.ensures.key c.in_ok-key.ensures.asked adds legal c.requires.unused seen.0 later in
    let end = g.D.Desk.front c.finish.new.self.desk.now in
    let last = subst (λ (d : Fixed). stands d.caller p end ≡ stands d.caller p look) fixed (c.finish.ensures.went.others p other) in
    subst (λ (d : g.row.D.Denot). stands door.caller p (g.D.Desk.front d) ≡ stands door.caller p old) desk (last ∙ first.went.others p other)

pub returns-clause-names_differ : goal.returns-clause-names_differ
returns-clause-names_differ g c before =
    let names : c.finish.new.self.names.now ≡ c.names-1.given.0 = search rules in
    subst (λ (m : g.row.N.Denot). Differ (g.N.Names.known m)) names (c.finish.ensures.went.differ c.key.ensures.differ)

pub returns-clause-entered : goal.returns-clause-entered
returns-clause-entered g c =
    let desk : c.finish.new.self.desk.now ≡ c.desk-1.given.0 = search rules in
    let names : c.finish.new.self.names.now ≡ c.names-1.given.0 = search rules in
    let door = g.D.Desk.fixed c.args.desk.now in let old = g.D.Desk.front c.args.desk.now in let mid = g.D.Desk.front c.hold-own.new.self in let look = g.D.Desk.front c.look-look.new.self in
    let key = c.in_ok-key.key in let own = c.hold-own.result in let known = g.N.Names.known c.key.new.self in let asked = g.N.Names.asked c.key.new.self in
    let adds : Adds door.caller old mid (Hold key c.args.q own.ty own.changes) = rw (c.reserve.ensures.fixed, c.reserve.ensures.front) at c.hold-own.ensures.entry in
    let legal : IsLegal door.limit mid = rw (c.reserve.ensures.fixed) at c.hold-own.ensures.legal in
    let seen = rw (c.hold-own.ensures.fixed, c.reserve.ensures.fixed) at c.look-look.ensures.seen in
    let later : IsLegal door.limit look = rw (c.hold-own.ensures.fixed, c.reserve.ensures.fixed) at c.look-look.ensures.legal in
    let fixed : g.D.Desk.fixed c.look-look.new.self ≡ door = c.look-look.ensures.fixed ∙ c.hold-own.ensures.fixed ∙ c.reserve.ensures.fixed in
    let e = c.in_ok-ended.ended in let end = g.D.Desk.front c.finish.new.self.desk.now in let new = g.D.Desk.front c.keep.new.desk in
    let ending : g.D.Desk.fixed c.finish.new.self.desk.now ≡ door = c.finish.ensures.fixed ∙ fixed in
    let well : IsEndedWell door.caller c.args.q end e = subst (λ (d : Fixed). IsEndedWell d.caller c.args.q end e) fixed c.in_ok-ended.ensures.ended in
    let done : IfOk c.keep.result (λ x. (x ≡ entered_of e) × (new ≡ end)) = subst (λ (d : g.row.D.Denot). IfOk c.keep.result (λ x. (x ≡ entered_of e) × (new ≡ g.D.Desk.front d))) (sym desk) c.keep.ensures.done in
    let undone : IfErr c.keep.result (λ x. (x ≡ fail.NoMemory) × IsUndone door.caller end new e) =
    subst (λ (d : Fixed). IfErr c.keep.result (λ x. (x ≡ fail.NoMemory) × IsUndone d.caller end new e)) ending
    (subst (λ (d : g.row.D.Denot). IfErr c.keep.result (λ x. (x ≡ fail.NoMemory) × IsUndone (g.D.Desk.fixed d).caller (g.D.Desk.front d) new e)) (sym desk) c.keep.ensures.undone) in
    let asks : Asks = record { t = c.args.prog.now; door = door; q = c.args.q; class = c.args.class; bytes = bytes_at c.args.prog.now.names c.args.name.0; args = c.args.args } in
    let last = g.N.Names.known c.finish.new.self.names.now in
    let found : place last (c.args.class.0, bytes_at c.args.prog.now.names c.args.name.0) ≡ Some key.0 =
    rw (bytes_found c.args.prog.now.names c.args.name.0 c.name.result.now c.name.ensures.value) (place-longer known last (c.args.class.0, c.name.result.now) key.0 c.finish.ensures.went.named c.in_ok-key.ensures.key) in
    let decided = enters asks _ refl fixed refl refl refl last found old look (begun_started _ door fixed old mid look adds c.requires.unused seen.0) end (Ok e) c.in_ok-ended.ensures.finished in
    subst (λ (m : g.row.N.Denot). Enters asks (g.N.Names.known m) old new c.keep.result) names (kept_enters asks last old end new e well c.keep.result done undone decided)

pub returns-clause-framed : goal.returns-clause-framed
returns-clause-framed g c =
    let desk : c.finish.new.self.desk.now ≡ c.desk-1.given.0 = search rules in
    let names : c.finish.new.self.names.now ≡ c.names-1.given.0 = search rules in
    let door = g.D.Desk.fixed c.args.desk.now in let old = g.D.Desk.front c.args.desk.now in let mid = g.D.Desk.front c.hold-own.new.self in let look = g.D.Desk.front c.look-look.new.self in
    let key = c.in_ok-key.key in let own = c.hold-own.result in let known = g.N.Names.known c.key.new.self in let asked = g.N.Names.asked c.key.new.self in
    let adds : Adds door.caller old mid (Hold key c.args.q own.ty own.changes) = rw (c.reserve.ensures.fixed, c.reserve.ensures.front) at c.hold-own.ensures.entry in
    let legal : IsLegal door.limit mid = rw (c.reserve.ensures.fixed) at c.hold-own.ensures.legal in
    let seen = rw (c.hold-own.ensures.fixed, c.reserve.ensures.fixed) at c.look-look.ensures.seen in
    let later : IsLegal door.limit look = rw (c.hold-own.ensures.fixed, c.reserve.ensures.fixed) at c.look-look.ensures.legal in
    let fixed : g.D.Desk.fixed c.look-look.new.self ≡ door = c.look-look.ensures.fixed ∙ c.hold-own.ensures.fixed ∙ c.reserve.ensures.fixed in
    let e = c.in_ok-ended.ended in let end = g.D.Desk.front c.finish.new.self.desk.now in let new = g.D.Desk.front c.keep.new.desk in
    let ending : g.D.Desk.fixed c.finish.new.self.desk.now ≡ door = c.finish.ensures.fixed ∙ fixed in
    let well : IsEndedWell door.caller c.args.q end e = subst (λ (d : Fixed). IsEndedWell d.caller c.args.q end e) fixed c.in_ok-ended.ensures.ended in
    let done : IfOk c.keep.result (λ x. (x ≡ entered_of e) × (new ≡ end)) = subst (λ (d : g.row.D.Denot). IfOk c.keep.result (λ x. (x ≡ entered_of e) × (new ≡ g.D.Desk.front d))) (sym desk) c.keep.ensures.done in
    let undone : IfErr c.keep.result (λ x. (x ≡ fail.NoMemory) × IsUndone door.caller end new e) =
    subst (λ (d : Fixed). IfErr c.keep.result (λ x. (x ≡ fail.NoMemory) × IsUndone d.caller end new e)) ending
    (subst (λ (d : g.row.D.Denot). IfErr c.keep.result (λ x. (x ≡ fail.NoMemory) × IsUndone (g.D.Desk.fixed d).caller (g.D.Desk.front d) new e)) (sym desk) c.keep.ensures.undone) in
    kept_framed door.caller c.args.q end new e well c.keep.result done

pub returns-clause-kept : goal.returns-clause-kept
returns-clause-kept g c =
    let desk : c.finish.new.self.desk.now ≡ c.desk-1.given.0 = search rules in
    let names : c.finish.new.self.names.now ≡ c.names-1.given.0 = search rules in
    let door = g.D.Desk.fixed c.args.desk.now in let old = g.D.Desk.front c.args.desk.now in let mid = g.D.Desk.front c.hold-own.new.self in let look = g.D.Desk.front c.look-look.new.self in
    let key = c.in_ok-key.key in let own = c.hold-own.result in let known = g.N.Names.known c.key.new.self in let asked = g.N.Names.asked c.key.new.self in
    let adds : Adds door.caller old mid (Hold key c.args.q own.ty own.changes) = rw (c.reserve.ensures.fixed, c.reserve.ensures.front) at c.hold-own.ensures.entry in
    let legal : IsLegal door.limit mid = rw (c.reserve.ensures.fixed) at c.hold-own.ensures.legal in
    let seen = rw (c.hold-own.ensures.fixed, c.reserve.ensures.fixed) at c.look-look.ensures.seen in
    let later : IsLegal door.limit look = rw (c.hold-own.ensures.fixed, c.reserve.ensures.fixed) at c.look-look.ensures.legal in
    let fixed : g.D.Desk.fixed c.look-look.new.self ≡ door = c.look-look.ensures.fixed ∙ c.hold-own.ensures.fixed ∙ c.reserve.ensures.fixed in
    let given : Given = record { t = c.args.prog.now; door = door; q = c.args.q; key = key; own = own; class = c.args.class; args = c.args.args; cache = c.lend.new.self; desk = 0; names = 0; answers = 0 } in
    let first = begins given (g.N.Names.known c.args.names.now) (g.N.Names.asked c.args.names.now) known asked old mid look (c.args.class.0, c.name.result.now) own
    c.key.ensures.kept c.key.ensures.few c.key.ensures.differ c.in_ok-key.ensures.key c.in_ok-key.ensures.asked adds legal c.requires.unused seen.0 later in
    let end = g.D.Desk.front c.finish.new.self.desk.now in let new = g.D.Desk.front c.keep.new.desk in
    prefix_more old look new first.went.kept (prefix_more look end new c.finish.ensures.went.kept (subst (λ (d : g.row.D.Denot). IsPrefix (g.D.Desk.front d) new) (sym desk) c.keep.ensures.kept))

pub returns-clause-grown : goal.returns-clause-grown
returns-clause-grown g c told =
    let desk : c.finish.new.self.desk.now ≡ c.desk-1.given.0 = search rules in
    let names : c.finish.new.self.names.now ≡ c.names-1.given.0 = search rules in
    let door = g.D.Desk.fixed c.args.desk.now in let old = g.D.Desk.front c.args.desk.now in let mid = g.D.Desk.front c.hold-own.new.self in let look = g.D.Desk.front c.look-look.new.self in
    let key = c.in_ok-key.key in let own = c.hold-own.result in let known = g.N.Names.known c.key.new.self in let asked = g.N.Names.asked c.key.new.self in
    let adds : Adds door.caller old mid (Hold key c.args.q own.ty own.changes) = rw (c.reserve.ensures.fixed, c.reserve.ensures.front) at c.hold-own.ensures.entry in
    let legal : IsLegal door.limit mid = rw (c.reserve.ensures.fixed) at c.hold-own.ensures.legal in
    let seen = rw (c.hold-own.ensures.fixed, c.reserve.ensures.fixed) at c.look-look.ensures.seen in
    let later : IsLegal door.limit look = rw (c.hold-own.ensures.fixed, c.reserve.ensures.fixed) at c.look-look.ensures.legal in
    let fixed : g.D.Desk.fixed c.look-look.new.self ≡ door = c.look-look.ensures.fixed ∙ c.hold-own.ensures.fixed ∙ c.reserve.ensures.fixed in
    let given : Given = record { t = c.args.prog.now; door = door; q = c.args.q; key = key; own = own; class = c.args.class; args = c.args.args; cache = c.lend.new.self; desk = 0; names = 0; answers = 0 } in
    let first = begins given (g.N.Names.known c.args.names.now) (g.N.Names.asked c.args.names.now) known asked old mid look (c.args.class.0, c.name.result.now) own
    c.key.ensures.kept c.key.ensures.few c.key.ensures.differ c.in_ok-key.ensures.key c.in_ok-key.ensures.asked adds legal c.requires.unused seen.0 later in
    let e = c.in_ok-ended.ended in let end = g.D.Desk.front c.finish.new.self.desk.now in let new = g.D.Desk.front c.keep.new.desk in
    let ending : g.D.Desk.fixed c.finish.new.self.desk.now ≡ door = c.finish.ensures.fixed ∙ fixed in
    let well : IsEndedWell door.caller c.args.q end e = subst (λ (d : Fixed). IsEndedWell d.caller c.args.q end e) fixed c.in_ok-ended.ensures.ended in
    let done : IfOk c.keep.result (λ x. (x ≡ entered_of e) × (new ≡ end)) = subst (λ (d : g.row.D.Denot). IfOk c.keep.result (λ x. (x ≡ entered_of e) × (new ≡ g.D.Desk.front d))) (sym desk) c.keep.ensures.done in
    let undone : IfErr c.keep.result (λ x. (x ≡ fail.NoMemory) × IsUndone door.caller end new e) =
    subst (λ (d : Fixed). IfErr c.keep.result (λ x. (x ≡ fail.NoMemory) × IsUndone d.caller end new e)) ending
    (subst (λ (d : g.row.D.Denot). IfErr c.keep.result (λ x. (x ≡ fail.NoMemory) × IsUndone (g.D.Desk.fixed d).caller (g.D.Desk.front d) new e)) (sym desk) c.keep.ensures.undone) in
    let before = with_rules _ _ _ _ _ _ _ first.grew (first_fits c.args.prog.now known door.caller c.args.q old mid look key own.ty own.changes adds c.requires.unused c.in_ok-key.ensures.below seen.0) in
    let since = subst (λ (d : Fixed). Grown c.args.prog.now d.caller (g.N.Names.known c.finish.new.self.names.now) asked (g.N.Names.asked c.finish.new.self.names.now) look (g.D.Desk.front c.finish.new.self.desk.now)) fixed (c.in_ok-ended.ensures.grew tt) in
    let all = grown_on _ _ known _ _ asked _ old look _ before since c.finish.ensures.went.named in
    let was = g.N.Names.asked c.args.names.now in
    subst (λ (m : g.row.N.Denot). Grown c.args.prog.now door.caller (g.N.Names.known m) was (g.N.Names.asked m) old new) names
    (kept_told door.caller c.args.q end new e well (λ l. Grown c.args.prog.now door.caller (g.N.Names.known c.finish.new.self.names.now) was (g.N.Names.asked c.finish.new.self.names.now) old l) c.keep.result done undone told all)

pub returns-clause-others : goal.returns-clause-others
returns-clause-others g c p other =
    let desk : c.finish.new.self.desk.now ≡ c.desk-1.given.0 = search rules in
    let names : c.finish.new.self.names.now ≡ c.names-1.given.0 = search rules in
    let door = g.D.Desk.fixed c.args.desk.now in let old = g.D.Desk.front c.args.desk.now in let mid = g.D.Desk.front c.hold-own.new.self in let look = g.D.Desk.front c.look-look.new.self in
    let key = c.in_ok-key.key in let own = c.hold-own.result in let known = g.N.Names.known c.key.new.self in let asked = g.N.Names.asked c.key.new.self in
    let adds : Adds door.caller old mid (Hold key c.args.q own.ty own.changes) = rw (c.reserve.ensures.fixed, c.reserve.ensures.front) at c.hold-own.ensures.entry in
    let legal : IsLegal door.limit mid = rw (c.reserve.ensures.fixed) at c.hold-own.ensures.legal in
    let seen = rw (c.hold-own.ensures.fixed, c.reserve.ensures.fixed) at c.look-look.ensures.seen in
    let later : IsLegal door.limit look = rw (c.hold-own.ensures.fixed, c.reserve.ensures.fixed) at c.look-look.ensures.legal in
    let fixed : g.D.Desk.fixed c.look-look.new.self ≡ door = c.look-look.ensures.fixed ∙ c.hold-own.ensures.fixed ∙ c.reserve.ensures.fixed in
    let given : Given = record { t = c.args.prog.now; door = door; q = c.args.q; key = key; own = own; class = c.args.class; args = c.args.args; cache = c.lend.new.self; desk = 0; names = 0; answers = 0 } in
    let first = begins given (g.N.Names.known c.args.names.now) (g.N.Names.asked c.args.names.now) known asked old mid look (c.args.class.0, c.name.result.now) own
    c.key.ensures.kept c.key.ensures.few c.key.ensures.differ c.in_ok-key.ensures.key c.in_ok-key.ensures.asked adds legal c.requires.unused seen.0 later in
    let e = c.in_ok-ended.ended in let end = g.D.Desk.front c.finish.new.self.desk.now in let new = g.D.Desk.front c.keep.new.desk in
    let ending : g.D.Desk.fixed c.finish.new.self.desk.now ≡ door = c.finish.ensures.fixed ∙ fixed in
    let well : IsEndedWell door.caller c.args.q end e = subst (λ (d : Fixed). IsEndedWell d.caller c.args.q end e) fixed c.in_ok-ended.ensures.ended in
    let done : IfOk c.keep.result (λ x. (x ≡ entered_of e) × (new ≡ end)) = subst (λ (d : g.row.D.Denot). IfOk c.keep.result (λ x. (x ≡ entered_of e) × (new ≡ g.D.Desk.front d))) (sym desk) c.keep.ensures.done in
    let undone : IfErr c.keep.result (λ x. (x ≡ fail.NoMemory) × IsUndone door.caller end new e) =
    subst (λ (d : Fixed). IfErr c.keep.result (λ x. (x ≡ fail.NoMemory) × IsUndone d.caller end new e)) ending
    (subst (λ (d : g.row.D.Denot). IfErr c.keep.result (λ x. (x ≡ fail.NoMemory) × IsUndone (g.D.Desk.fixed d).caller (g.D.Desk.front d) new e)) (sym desk) c.keep.ensures.undone) in
    let last = subst (λ (d : Fixed). stands d.caller p end ≡ stands d.caller p look) fixed (c.finish.ensures.went.others p other) in
    kept_others door.caller c.args.q end new e well c.keep.result done undone p other ∙ last ∙ first.went.others p other

pub returns-clause-cache : goal.returns-clause-cache
returns-clause-cache g c =
    let desk : c.finish.new.self.desk.now ≡ c.desk-1.given.0 = search rules in
    let names : c.finish.new.self.names.now ≡ c.names-1.given.0 = search rules in
    let door = g.D.Desk.fixed c.args.desk.now in let old = g.D.Desk.front c.args.desk.now in let mid = g.D.Desk.front c.hold-own.new.self in let look = g.D.Desk.front c.look-look.new.self in
    let key = c.in_ok-key.key in let own = c.hold-own.result in let known = g.N.Names.known c.key.new.self in let asked = g.N.Names.asked c.key.new.self in
    let adds : Adds door.caller old mid (Hold key c.args.q own.ty own.changes) = rw (c.reserve.ensures.fixed, c.reserve.ensures.front) at c.hold-own.ensures.entry in
    let legal : IsLegal door.limit mid = rw (c.reserve.ensures.fixed) at c.hold-own.ensures.legal in
    let seen = rw (c.hold-own.ensures.fixed, c.reserve.ensures.fixed) at c.look-look.ensures.seen in
    let later : IsLegal door.limit look = rw (c.hold-own.ensures.fixed, c.reserve.ensures.fixed) at c.look-look.ensures.legal in
    let fixed : g.D.Desk.fixed c.look-look.new.self ≡ door = c.look-look.ensures.fixed ∙ c.hold-own.ensures.fixed ∙ c.reserve.ensures.fixed in
    let given : Given = record { t = c.args.prog.now; door = door; q = c.args.q; key = key; own = own; class = c.args.class; args = c.args.args; cache = c.lend.new.self; desk = 0; names = 0; answers = 0 } in
    let first = begins given (g.N.Names.known c.args.names.now) (g.N.Names.asked c.args.names.now) known asked old mid look (c.args.class.0, c.name.result.now) own
    c.key.ensures.kept c.key.ensures.few c.key.ensures.differ c.in_ok-key.ensures.key c.in_ok-key.ensures.asked adds legal c.requires.unused seen.0 later in
    let keeps = goes_keep given (at (g.N.Names.known c.args.names.now) (g.N.Names.asked c.args.names.now) old) (at known asked look) c.lend.new.self first in
    let e = c.in_ok-ended.ended in let end = g.D.Desk.front c.finish.new.self.desk.now in let new = g.D.Desk.front c.keep.new.desk in
    let ending : g.D.Desk.fixed c.finish.new.self.desk.now ≡ door = c.finish.ensures.fixed ∙ fixed in
    let well : IsEndedWell door.caller c.args.q end e = subst (λ (d : Fixed). IsEndedWell d.caller c.args.q end e) fixed c.in_ok-ended.ensures.ended in
    let done : IfOk c.keep.result (λ x. (x ≡ entered_of e) × (new ≡ end)) = subst (λ (d : g.row.D.Denot). IfOk c.keep.result (λ x. (x ≡ entered_of e) × (new ≡ g.D.Desk.front d))) (sym desk) c.keep.ensures.done in
    let undone : IfErr c.keep.result (λ x. (x ≡ fail.NoMemory) × IsUndone door.caller end new e) =
    subst (λ (d : Fixed). IfErr c.keep.result (λ x. (x ≡ fail.NoMemory) × IsUndone d.caller end new e)) ending
    (subst (λ (d : g.row.D.Denot). IfErr c.keep.result (λ x. (x ≡ fail.NoMemory) × IsUndone (g.D.Desk.fixed d).caller (g.D.Desk.front d) new e)) (sym desk) c.keep.ensures.undone) in
    let t = c.args.prog.now in let known2 = g.N.Names.known c.finish.new.self.names.now in let asked2 = g.N.Names.asked c.finish.new.self.names.now in
    let call : Given = record { t = t; door = g.D.Desk.fixed c.look-look.new.self; q = c.args.q; key = key; own = own; class = c.args.class; args = c.args.args; cache = c.lend.new.self; desk = c.call-1.given; names = c.call-2-1.given; answers = c.answers-1.given.0 } in
    let said : c.finish.new.self.answers.now ≡ c.answers-2-1.given.0 = search rules in
    let answers : c.finish.new.self.answers.now.items ≡ c.deref.result.now = rw (c.deref.ensures.value, sym said) refl in
    let same : call.door ≡ g.D.Desk.fixed c.desk-1.given.0 = subst (λ (d : g.row.D.Denot). call.door ≡ g.D.Desk.fixed d) desk (sym c.finish.ensures.fixed) in
    let cache = c.lend.new.self in
    let at_end = own_moved call None known2 asked2 end (g.D.Desk.front c.desk-1.given.0) c.finish.new.self.answers.now.items c.deref.result.now (Ok e) (ap (λ (d : g.row.D.Denot). g.D.Desk.front d) desk) answers (c.in_ok-ended.ensures.own None (subst (λ (d : Fixed). IsOwnCache t known asked d.caller None look cache) (sym fixed) (keeps.own None (rw c.lend.ensures.kept c.requires.cache)))) in
    subst (λ (m : g.row.N.Denot). IsOwnCache t (g.N.Names.known m) (g.N.Names.asked m) door.caller None new c.keep.new.cache) names
    (subst (λ (d : Fixed). IsOwnCache t known2 asked2 d.caller None new c.keep.new.cache) fixed (c.keep.ensures.checks call known2 asked2 same refl refl at_end))

pub returns-clause-own : goal.returns-clause-own
returns-clause-own g c told =
    let desk : c.finish.new.self.desk.now ≡ c.desk-1.given.0 = search rules in
    let names : c.finish.new.self.names.now ≡ c.names-1.given.0 = search rules in
    let door = g.D.Desk.fixed c.args.desk.now in let old = g.D.Desk.front c.args.desk.now in let mid = g.D.Desk.front c.hold-own.new.self in let look = g.D.Desk.front c.look-look.new.self in
    let key = c.in_ok-key.key in let own = c.hold-own.result in let known = g.N.Names.known c.key.new.self in let asked = g.N.Names.asked c.key.new.self in
    let adds : Adds door.caller old mid (Hold key c.args.q own.ty own.changes) = rw (c.reserve.ensures.fixed, c.reserve.ensures.front) at c.hold-own.ensures.entry in
    let legal : IsLegal door.limit mid = rw (c.reserve.ensures.fixed) at c.hold-own.ensures.legal in
    let seen = rw (c.hold-own.ensures.fixed, c.reserve.ensures.fixed) at c.look-look.ensures.seen in
    let later : IsLegal door.limit look = rw (c.hold-own.ensures.fixed, c.reserve.ensures.fixed) at c.look-look.ensures.legal in
    let fixed : g.D.Desk.fixed c.look-look.new.self ≡ door = c.look-look.ensures.fixed ∙ c.hold-own.ensures.fixed ∙ c.reserve.ensures.fixed in
    let given : Given = record { t = c.args.prog.now; door = door; q = c.args.q; key = key; own = own; class = c.args.class; args = c.args.args; cache = c.lend.new.self; desk = 0; names = 0; answers = 0 } in
    let first = begins given (g.N.Names.known c.args.names.now) (g.N.Names.asked c.args.names.now) known asked old mid look (c.args.class.0, c.name.result.now) own
    c.key.ensures.kept c.key.ensures.few c.key.ensures.differ c.in_ok-key.ensures.key c.in_ok-key.ensures.asked adds legal c.requires.unused seen.0 later in
    let keeps = goes_keep given (at (g.N.Names.known c.args.names.now) (g.N.Names.asked c.args.names.now) old) (at known asked look) c.lend.new.self first in
    let e = c.in_ok-ended.ended in let end = g.D.Desk.front c.finish.new.self.desk.now in let new = g.D.Desk.front c.keep.new.desk in
    let ending : g.D.Desk.fixed c.finish.new.self.desk.now ≡ door = c.finish.ensures.fixed ∙ fixed in
    let well : IsEndedWell door.caller c.args.q end e = subst (λ (d : Fixed). IsEndedWell d.caller c.args.q end e) fixed c.in_ok-ended.ensures.ended in
    let done : IfOk c.keep.result (λ x. (x ≡ entered_of e) × (new ≡ end)) = subst (λ (d : g.row.D.Denot). IfOk c.keep.result (λ x. (x ≡ entered_of e) × (new ≡ g.D.Desk.front d))) (sym desk) c.keep.ensures.done in
    let undone : IfErr c.keep.result (λ x. (x ≡ fail.NoMemory) × IsUndone door.caller end new e) =
    subst (λ (d : Fixed). IfErr c.keep.result (λ x. (x ≡ fail.NoMemory) × IsUndone d.caller end new e)) ending
    (subst (λ (d : g.row.D.Denot). IfErr c.keep.result (λ x. (x ≡ fail.NoMemory) × IsUndone (g.D.Desk.fixed d).caller (g.D.Desk.front d) new e)) (sym desk) c.keep.ensures.undone) in
    let t = c.args.prog.now in let known2 = g.N.Names.known c.finish.new.self.names.now in let asked2 = g.N.Names.asked c.finish.new.self.names.now in
    let call : Given = record { t = t; door = g.D.Desk.fixed c.look-look.new.self; q = c.args.q; key = key; own = own; class = c.args.class; args = c.args.args; cache = c.lend.new.self; desk = c.call-1.given; names = c.call-2-1.given; answers = c.answers-1.given.0 } in
    let said : c.finish.new.self.answers.now ≡ c.answers-2-1.given.0 = search rules in
    let answers : c.finish.new.self.answers.now.items ≡ c.deref.result.now = rw (c.deref.ensures.value, sym said) refl in
    let same : call.door ≡ g.D.Desk.fixed c.desk-1.given.0 = subst (λ (d : g.row.D.Denot). call.door ≡ g.D.Desk.fixed d) desk (sym c.finish.ensures.fixed) in
    let cache = c.lend.new.self in let names1 = g.N.Names.known c.args.names.now in let was = g.N.Names.asked c.args.names.now in
    let since : KeepsChecks t door.caller known known2 asked asked2 look new cache c.keep.new.cache = record {
      own = λ past had. kept_own door.caller c.args.q end new e well c.keep.result undone told
          (subst (λ (d : Fixed). OnOk c.keep.result (IsOwnCache t known2 asked2 d.caller past new c.keep.new.cache)) fixed (c.keep.ensures.own call past known2 asked2 same refl refl
          (own_moved call past known2 asked2 end (g.D.Desk.front c.desk-1.given.0) c.finish.new.self.answers.now.items c.deref.result.now (Ok e) (ap (λ (d : g.row.D.Denot). g.D.Desk.front d) desk) answers (c.in_ok-ended.ensures.own past (subst (λ (d : Fixed). IsOwnCache t known asked d.caller past look cache) (sym fixed) had)))));
      ways = λ past had. kept_told door.caller c.args.q end new e well (λ l. EachNew (EntersBy door.caller past) door.caller look l) c.keep.result done undone told
          (subst (λ (d : Fixed). EachNew (EntersBy d.caller past) d.caller look end) fixed (c.finish.ensures.ways past (subst (λ (d : Fixed). IsOwnCache t known asked d.caller (Some past) look cache) (sym fixed) had)));
    } in
    let later_on = kept_told door.caller c.args.q end new e well (λ l. IsPrefix look l) c.keep.result done undone told c.finish.ensures.went.kept in
    let all = keeps_on t door.caller names1 known known2 was asked asked2 old look new cache cache c.keep.new.cache later_on keeps since in
    subst (λ (m : g.row.N.Denot). KeepsChecks t door.caller names1 (g.N.Names.known m) was (g.N.Names.asked m) old new c.args.cache.now c.keep.new.cache) names
    (subst (λ (x : List (Option Kept)). KeepsChecks t door.caller names1 known2 was asked2 old new x c.keep.new.cache) c.lend.ensures.kept all)

pub returns-clause-collects : goal.returns-clause-collects
returns-clause-collects g c =
    let desk : c.finish.new.self.desk.now ≡ c.desk-1.given.0 = search rules in
    let names : c.finish.new.self.names.now ≡ c.names-1.given.0 = search rules in
    let door = g.D.Desk.fixed c.args.desk.now in let old = g.D.Desk.front c.args.desk.now in let mid = g.D.Desk.front c.hold-own.new.self in let look = g.D.Desk.front c.look-look.new.self in
    let key = c.in_ok-key.key in let own = c.hold-own.result in let known = g.N.Names.known c.key.new.self in let asked = g.N.Names.asked c.key.new.self in
    let adds : Adds door.caller old mid (Hold key c.args.q own.ty own.changes) = rw (c.reserve.ensures.fixed, c.reserve.ensures.front) at c.hold-own.ensures.entry in
    let legal : IsLegal door.limit mid = rw (c.reserve.ensures.fixed) at c.hold-own.ensures.legal in
    let seen = rw (c.hold-own.ensures.fixed, c.reserve.ensures.fixed) at c.look-look.ensures.seen in
    let later : IsLegal door.limit look = rw (c.hold-own.ensures.fixed, c.reserve.ensures.fixed) at c.look-look.ensures.legal in
    let fixed : g.D.Desk.fixed c.look-look.new.self ≡ door = c.look-look.ensures.fixed ∙ c.hold-own.ensures.fixed ∙ c.reserve.ensures.fixed in
    let given : Given = record { t = c.args.prog.now; door = door; q = c.args.q; key = key; own = own; class = c.args.class; args = c.args.args; cache = c.lend.new.self; desk = 0; names = 0; answers = 0 } in
    let first = begins given (g.N.Names.known c.args.names.now) (g.N.Names.asked c.args.names.now) known asked old mid look (c.args.class.0, c.name.result.now) own
    c.key.ensures.kept c.key.ensures.few c.key.ensures.differ c.in_ok-key.ensures.key c.in_ok-key.ensures.asked adds legal c.requires.unused seen.0 later in
    let keeps = goes_keep given (at (g.N.Names.known c.args.names.now) (g.N.Names.asked c.args.names.now) old) (at known asked look) c.lend.new.self first in
    let e = c.in_ok-ended.ended in let end = g.D.Desk.front c.finish.new.self.desk.now in let new = g.D.Desk.front c.keep.new.desk in
    let t = c.args.prog.now in let known2 = g.N.Names.known c.finish.new.self.names.now in let asked2 = g.N.Names.asked c.finish.new.self.names.now in
    let call : Given = record { t = t; door = g.D.Desk.fixed c.look-look.new.self; q = c.args.q; key = key; own = own; class = c.args.class; args = c.args.args; cache = c.lend.new.self; desk = c.call-1.given; names = c.call-2-1.given; answers = c.answers-1.given.0 } in
    let said : c.finish.new.self.answers.now ≡ c.answers-2-1.given.0 = search rules in
    let answers : c.finish.new.self.answers.now.items ≡ c.deref.result.now = rw (c.deref.ensures.value, sym said) refl in
    let same : call.door ≡ g.D.Desk.fixed c.desk-1.given.0 = subst (λ (d : g.row.D.Denot). call.door ≡ g.D.Desk.fixed d) desk (sym c.finish.ensures.fixed) in
    let at_end = own_moved call None known2 asked2 end (g.D.Desk.front c.desk-1.given.0) c.finish.new.self.answers.now.items c.deref.result.now (Ok e) (ap (λ (d : g.row.D.Denot). g.D.Desk.front d) desk) answers (c.in_ok-ended.ensures.own None (subst (λ (d : Fixed). IsOwnCache t known asked d.caller None look c.lend.new.self) (sym fixed) (keeps.own None (rw c.lend.ensures.kept c.requires.cache)))) in
    subst (λ (m : g.row.N.Denot). Collects t (g.N.Names.known m) (stands door.caller c.args.q.0 new) c.keep.new.cache c.args.share.now c.keep.new.share c.keep.result) names
    (subst (λ (d : Fixed). Collects t known2 (stands d.caller c.args.q.0 new) c.keep.new.cache c.args.share.now c.keep.new.share c.keep.result) fixed (c.keep.ensures.collects call known2 asked2 same refl refl at_end))

pub returns-clause-marks : goal.returns-clause-marks
returns-clause-marks g c =
    let desk : c.finish.new.self.desk.now ≡ c.desk-1.given.0 = search rules in
    let names : c.finish.new.self.names.now ≡ c.names-1.given.0 = search rules in
    let door = g.D.Desk.fixed c.args.desk.now in let old = g.D.Desk.front c.args.desk.now in let mid = g.D.Desk.front c.hold-own.new.self in let look = g.D.Desk.front c.look-look.new.self in
    let key = c.in_ok-key.key in let own = c.hold-own.result in let known = g.N.Names.known c.key.new.self in let asked = g.N.Names.asked c.key.new.self in
    let adds : Adds door.caller old mid (Hold key c.args.q own.ty own.changes) = rw (c.reserve.ensures.fixed, c.reserve.ensures.front) at c.hold-own.ensures.entry in
    let legal : IsLegal door.limit mid = rw (c.reserve.ensures.fixed) at c.hold-own.ensures.legal in
    let seen = rw (c.hold-own.ensures.fixed, c.reserve.ensures.fixed) at c.look-look.ensures.seen in
    let later : IsLegal door.limit look = rw (c.hold-own.ensures.fixed, c.reserve.ensures.fixed) at c.look-look.ensures.legal in
    let fixed : g.D.Desk.fixed c.look-look.new.self ≡ door = c.look-look.ensures.fixed ∙ c.hold-own.ensures.fixed ∙ c.reserve.ensures.fixed in
    let given : Given = record { t = c.args.prog.now; door = door; q = c.args.q; key = key; own = own; class = c.args.class; args = c.args.args; cache = c.lend.new.self; desk = 0; names = 0; answers = 0 } in
    let first = begins given (g.N.Names.known c.args.names.now) (g.N.Names.asked c.args.names.now) known asked old mid look (c.args.class.0, c.name.result.now) own
    c.key.ensures.kept c.key.ensures.few c.key.ensures.differ c.in_ok-key.ensures.key c.in_ok-key.ensures.asked adds legal c.requires.unused seen.0 later in
    let e = c.in_ok-ended.ended in let end = g.D.Desk.front c.finish.new.self.desk.now in let new = g.D.Desk.front c.keep.new.desk in
    let ending : g.D.Desk.fixed c.finish.new.self.desk.now ≡ door = c.finish.ensures.fixed ∙ fixed in
    let well : IsEndedWell door.caller c.args.q end e = subst (λ (d : Fixed). IsEndedWell d.caller c.args.q end e) fixed c.in_ok-ended.ensures.ended in
    let done : IfOk c.keep.result (λ x. (x ≡ entered_of e) × (new ≡ end)) = subst (λ (d : g.row.D.Denot). IfOk c.keep.result (λ x. (x ≡ entered_of e) × (new ≡ g.D.Desk.front d))) (sym desk) c.keep.ensures.done in
    let undone : IfErr c.keep.result (λ x. (x ≡ fail.NoMemory) × IsUndone door.caller end new e) =
    subst (λ (d : Fixed). IfErr c.keep.result (λ x. (x ≡ fail.NoMemory) × IsUndone d.caller end new e)) ending
    (subst (λ (d : g.row.D.Denot). IfErr c.keep.result (λ x. (x ≡ fail.NoMemory) × IsUndone (g.D.Desk.fixed d).caller (g.D.Desk.front d) new e)) (sym desk) c.keep.ensures.undone) in
    let asks : Asks = record { t = c.args.prog.now; door = door; q = c.args.q; class = c.args.class; bytes = bytes_at c.args.prog.now.names c.args.name.0; args = c.args.args } in
    let call : Given = record given { door = g.D.Desk.fixed c.look-look.new.self; desk = c.call-1.given; names = c.call-2-1.given; answers = c.answers-1.given.0 } in
    let known2 = g.N.Names.known c.finish.new.self.names.now in let asked2 = g.N.Names.asked c.finish.new.self.names.now in let was = g.N.Names.asked c.args.names.now in
    let named : asked ≡ with_name was (c.args.class.0, asks.bytes) = rw (bytes_found c.args.prog.now.names c.args.name.0 c.name.result.now c.name.ensures.value) c.in_ok-key.ensures.asked in
    let once = ended_marks asks was old call (at known asked look) (at known2 asked2 end) e fixed refl first.grew.made first.grew.grows c.finish.ensures.went.kept named c.in_ok-ended.ensures.asks in
    subst (λ (m : g.row.N.Denot). MarksOnce asks was (g.N.Names.asked m) old new c.keep.result) names (kept_marks asks was asked2 old end new e c.keep.result done once)
