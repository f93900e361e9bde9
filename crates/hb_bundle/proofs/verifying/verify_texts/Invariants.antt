use Rattle.std.proofs.Common.{◌≤◌, ◌-◌, length, take}
use Rattle.hb_bundle.specs.Verifies.{AreVerified}
use Rattle.hb_bundle.proofs.verifying.verify_texts.Given as goal

-- the texts before this place were verified
abbrev pub invariant-loop-at : goal.invariant-loop-at
invariant-loop-at l = record {
  within : l.at ≤ length l.bytes;
  before : AreVerified l.prog (take l.at l.bytes) l.verdicts.lines.items l.verdicts.all_good;
}

abbrev pub decreases-loop-at : goal.decreases-loop-at
decreases-loop-at l = length l.bytes - l.at
