use Rattle.std.proofs.Common.{◌≡◌, take}
use Rattle.hb_draft.specs.Unfinished.{in_hand}
use Rattle.hb_build.proofs.HighestLemmas.{tallest}
use Rattle.hb_build.proofs.builder.Builder.highest.Given as goal

abbrev pub invariant-loop-below : goal.invariant-loop-below
invariant-loop-below l = l.most ≡ tallest (take l.below (in_hand l.self.draft))
