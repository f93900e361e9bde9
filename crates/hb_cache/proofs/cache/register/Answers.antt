use Rattle.std.proofs.Common.{◌≡◌, true, List, get_or, sym, subst, arith}
use Rattle.std.proofs.lemmas.List.{take_all}
use Rattle.hb_cache.specs.declared.kept.Seen.{Seen}
use Rattle.hb_cache.specs.Held.{has_seen, IsKnown}
use Rattle.hb_cache.proofs.HeldLemmas.{known-more}
use Rattle.hb_cache.proofs.cache.register.Goals as goal

pub returns-in_err-add_user-clause-stay : goal.returns-in_err-add_user-clause-stay
returns-in_err-add_user-clause-stay c used user w = c.add_user.ensures.stay used user (c.loop-seen.invariant.stay used user w)

pub loop-seen-preserved : goal.loop-seen-preserved
loop-seen-preserved c = record {
  stay = λ used user w. c.add_user.ensures.stay used user (c.loop-seen.invariant.stay used user w);
  so_far =
      let counts = c.args.kept.now.counts in let l = c.deref-seen-items.ensures in let more = c.loop-seen-test.true in let n = counts.ok.0 in let len = l.len in
      known-more c.loop-seen.users.items c.add_user.new.users.items counts.items c.loop-seen.seen-index c.args.kept.now.key.0 _ (omega (arith, more, len, n)) c.add_user.ensures.stay c.loop-seen.invariant.so_far
      (subst (λ (l : List Seen). IsKnown c.add_user.new.users.items (get_or l c.loop-seen.seen-index _).key.0 c.args.kept.now.key.0) l.value c.in_ok-add_user.ensures.ok);
}

pub returns-clause-ok : goal.returns-clause-ok
returns-clause-ok c used h =
    let counts = c.args.kept.now.counts in
    let all = take_all c.loop-seen.seen-index counts.items (let past = c.loop-seen-test.false in let len = c.deref-seen-items.ensures.len in let n = counts.ok.0 in omega (arith, past, len, n)) in
    c.loop-seen.invariant.so_far used (subst (λ l. has_seen l used ≡ true) (sym all) h)
