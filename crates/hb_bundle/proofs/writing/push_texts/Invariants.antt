use Rattle.std.proofs.Common.{◌≡◌, ◌++◌, map, take}
use Rattle.hb_deriv.specs.Derivation.{content_of}
use Rattle.hb_bundle.specs.Bundle.{texts_of}
use Rattle.hb_bundle.proofs.writing.push_texts.Given as goal

-- the texts of the first ones were added
abbrev pub invariant-loop-derivation : goal.invariant-loop-derivation
invariant-loop-derivation l = l.bytes.items ≡ l.fn.bytes.items ++ texts_of l.prog (map content_of (take l.derivation-index l.made))
