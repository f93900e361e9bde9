use Rattle.std.proofs.Common.{subst, sym}
use Rattle.hb_cache.proofs.{HeldLemmas.either_way, CacheLemmas.cache-wider, CacheLemmas.cache-with}
use Rattle.hb_cache.specs.Held.{IsCache}
use Rattle.hb_cache.proofs.cache.Cache.put.Goals as goal

pub invariant_of-self : goal.invariant_of-self
invariant_of-self c = cache-wider c.self.inside.kept.items c.self.inside.users.items c.register.new.users.items c.register.ensures.stay c.self.invariant

pub invariant_of-self-2 : goal.invariant_of-self-2
invariant_of-self-2 c =
    let kept = c.self.inside.kept.items in let users = c.register.new.users.items in
    let wider = cache-wider kept c.self.inside.users.items users c.register.ensures.stay c.self.invariant in
    either_way c.put_at.result c.put_at.ensures.each c.put_at.ensures.err
    (λ each. cache-with kept c.put_at.new.all.items users c.args.kept each c.in_ok-register.ensures.ok wider)
    (λ same. subst (λ l. IsCache l users) (sym same) wider)
