use Rattle.std.proofs.Common.{◌==◌, if◌then◌else◌, None, sym, ◌∙◌, ap, length, subst}
use Rattle.hb_cache.specs.{Kept.kept_at, Held.IsCache}
use Rattle.hb_cache.proofs.CacheLemmas.{cache-without, whole}
use Rattle.hb_cache.proofs.cache.Cache.drop_def.Goals as goal

pub invariant_of-self : goal.invariant_of-self
invariant_of-self c =
    let kept = c.self.inside.kept in let users = c.self.inside.users.items in let was = c.deref_mut.ensures.value in
    let is = whole kept.len c.forget.new.kept kept.items kept.ok.0 (c.forget.auto.kept ∙ ap length was) in
    subst (λ l. IsCache l users) (sym is) (cache-without kept.items c.forget.new.kept users c.args.key.0 (λ k. c.forget.ensures k ∙ ap (λ l. if c.args.key.0 == k then None else kept_at l k) was) c.self.invariant)
