use Rattle.std.proofs.Common.{◌≡◌, ◌++◌, ℕ, take, drop, sym, ◌∙◌, ap, subst, length, set}
use Rattle.hb_cache.specs.{Kept.kept_at, Kept.not_using, Held.IsCache}
use Rattle.hb_cache.proofs.CacheLemmas.{cache-unused, cache-unused_yet, same-dropped, whole}
use Rattle.hb_cache.proofs.cache.Cache.drop_type.Goals as goal
use Rattle.hb_cache.proofs.cache.Cache.drop_type.Goals.{in-Some, in_default}

each : (c : goal.Joined-get_mut) → (k : ℕ) → kept_at c.drop_using.new.kept k ≡ not_using c.args.key.0 (kept_at c.self.inside.kept.items k)
each c k = c.drop_using.ensures k ∙ ap (λ l. not_using c.args.key.0 (kept_at l k)) c.deref_mut.ensures.value

is : (c : goal.Joined-get_mut) → take c.self.inside.kept.len (c.drop_using.new.kept ++ drop (length c.drop_using.new.kept) c.self.inside.kept.items) ≡ c.drop_using.new.kept
is c = let kept = c.self.inside.kept in whole kept.len c.drop_using.new.kept kept.items kept.ok.0 (c.drop_using.auto.kept ∙ ap length c.deref_mut.ensures.value)

pub invariant_of-self : goal.invariant_of-self
invariant_of-self c =
    let kept = c.self.inside.kept.items in let fewer = c.drop_using.new.kept in let users = c.self.inside.users.items in let key = c.args.key.0 in
    elim c.match-get_mut.branch [
      | in-Some w ↦ subst (λ i. IsCache i.kept.items i.users.items) (sym w.self-inside-is)
          (subst (λ l. IsCache l (set users key w.clear.new.self)) (sym (is c)) (cache-unused kept fewer users key w.clear.new.self (each c) c.self.invariant))
      | in_default w ↦ subst (λ i. IsCache i.kept.items i.users.items) (sym w.self-inside-is)
          (subst (λ l. IsCache l users) (sym (is c)) (cache-unused_yet kept fewer users key (each c) c.self.invariant))
    ]

pub returns-clause-each : goal.returns-clause-each
returns-clause-each c k =
    let at = ap (λ l. kept_at l k) (is c) ∙ (each c k ∙ ap (λ l. not_using c.args.key.0 (kept_at l k)) c.self.view_is) in
    elim c.match-get_mut.branch [
      | in-Some w ↦ ap (λ i. kept_at i.kept.items k) w.self-inside-is ∙ at
      | in_default w ↦ ap (λ i. kept_at i.kept.items k) w.self-inside-is ∙ at
    ]

pub returns-clause-items : goal.returns-clause-items
returns-clause-items c = same-dropped c.args.key.0 c.args.self.now _ (returns-clause-each c)
