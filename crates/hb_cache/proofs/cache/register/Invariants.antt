use Rattle.std.proofs.Common.{take}
use Rattle.hb_cache.specs.Held.{AreKnown, KeepKnown}
use Rattle.hb_cache.proofs.cache.register.Given as goal

abbrev pub invariant-loop-seen : goal.invariant-loop-seen
invariant-loop-seen l = record {
  stay : KeepKnown l.initial.users.items l.users.items;
  so_far : AreKnown l.users.items (take l.seen-index l.kept.counts.items) l.kept.key.0;
}
