use Rattle.std.proofs.Common.{◌≡◌, ◌+◌, ◌++◌, List, Option, None, ap, ◌∙◌, arith, rules, tests}
use Rattle.std.proofs.lemmas.List.{take_all}
use Rattle.hb_cache.specs.declared.kept.Kept.{Kept}
use Rattle.hb_cache.specs.Kept.{kept_at}
use Rattle.hb_cache.proofs.KeptLemmas.{each_result, kept_at-more}
use Rattle.hb_cache.proofs.cache.make_place.Goals as goal

pub returns-in_ok-resize_with-clause-each : goal.returns-in_ok-resize_with-clause-each
returns-in_ok-resize_with-clause-each c k =
    let kept = c.args.all.now in let w = c.in_ok-resize_with.ensures.items in
    let nones = each_result _ (λ y. y ≡ None) (λ p x q s. search (rules, tests)) _ w.0 w.1 w.3 in
    let all = take_all (c.args.key.0 + 1) kept.items (let past = c.if-at-len.true in let n = kept.ok.0 in let l = c.len.ensures in omega (arith, past, n, l)) in
    ap (λ (l : List (Option Kept)). kept_at l k) (w.2 ∙ ap (λ (l : List (Option Kept)). l ++ w.0) all) ∙ kept_at-more kept.items w.0 nones k
