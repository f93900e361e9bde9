use Rattle.std.proofs.{Common.◌<◌, Common.length, Common.arith, lemmas.Option.slice_get_read}
use Rattle.hb_cache.proofs.HeldLemmas.{known-set, known-here, on_ok}
use Rattle.hb_cache.proofs.cache.add_user.Goals as goal

within : (c : goal.After-users-1) → c.args.used.0 < length c.make_list.new.users.items
within c = let i = c.in_ok-make_list.ensures.ok in let n = c.make_list.new.users.ok.0 in omega (arith, i, n)

pub returns-clause-stay : goal.returns-clause-stay
returns-clause-stay c used user w =
    let users = c.make_list.new.users in let list = c.index_mut-list.result.now in
    let read = slice_get_read users.items users.len c.args.used.0 list users.ok.0 c.in_ok-make_list.ensures.ok c.index_mut-list.ensures.value in
    known-set users.items c.args.used.0 list c.add_key.new.list (within c) read c.add_key.ensures.stay used user (c.in_ok-make_list.ensures.stay used user w)

pub returns-clause-ok : goal.returns-clause-ok
returns-clause-ok c = on_ok c.add_key.result c.add_key.ensures.ok (λ h. known-here c.make_list.new.users.items c.args.used.0 c.add_key.new.list c.args.user.0 (within c) h)
