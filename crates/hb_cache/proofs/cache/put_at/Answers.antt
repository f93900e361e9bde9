use Rattle.std.proofs.Common.{◌∙◌, ap, Some, if◌then◌else◌, ◌==◌, arith}
use Rattle.hb_cache.proofs.KeptLemmas.{kept_at-set}
use Rattle.hb_cache.proofs.cache.put_at.Goals as goal

pub returns-clause-each : goal.returns-clause-each
returns-clause-each c k =
    let kept = c.args.kept in let inside = c.in_ok-make_place.ensures.ok in
    kept_at-set c.make_place.new.all.items kept.key.0 (Some kept) (omega (arith, inside, c.make_place.new.all.ok.0)) k ∙ ap (λ o. if kept.key.0 == k then Some kept else o) (c.make_place.ensures.each k)
