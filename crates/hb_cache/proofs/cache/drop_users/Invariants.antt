use Rattle.std.proofs.Common.{◌≡◌, ℕ, take, if◌then◌else◌}
use Rattle.hb_cache.specs.{Kept.kept_at, Kept.not_using, Held.has}
use Rattle.hb_cache.proofs.cache.drop_users.Given as goal

abbrev pub invariant-loop-user : goal.invariant-loop-user
invariant-loop-user l = (k : ℕ) → kept_at l.kept k ≡ (if has (take l.user-index l.users) k then not_using l.key.0 (kept_at l.initial.kept k) else kept_at l.initial.kept k)
