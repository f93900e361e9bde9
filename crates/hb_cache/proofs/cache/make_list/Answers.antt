use Rattle.std.proofs.Common.{◌+◌, ◌++◌, sym, ◌∙◌, ap, subst, arith}
use Rattle.std.proofs.lemmas.List.{take_all}
use Rattle.hb_cache.specs.Held.{Users, KeepKnown}
use Rattle.hb_cache.proofs.HeldLemmas.{known-longer}
use Rattle.hb_cache.proofs.cache.make_list.Goals as goal

pub returns-in_err-resize_with-clause-stay : goal.returns-in_err-resize_with-clause-stay
returns-in_err-resize_with-clause-stay c = subst (KeepKnown c.args.users.now.items) (sym c.in_err-resize_with.ensures.err.0) (λ used user w. w)

pub returns-in_ok-resize_with-clause-stay : goal.returns-in_ok-resize_with-clause-stay
returns-in_ok-resize_with-clause-stay c =
    let users = c.args.users.now in let w = c.in_ok-resize_with.ensures.items in
    let all = take_all (c.args.used.0 + 1) users.items (let past = c.if-at-len.true in let n = users.ok.0 in let l = c.len.ensures in omega (arith, past, n, l)) in
    subst (KeepKnown users.items) (sym (w.2 ∙ ap (λ (l : Users). l ++ w.0) all)) (known-longer users.items w.0)
