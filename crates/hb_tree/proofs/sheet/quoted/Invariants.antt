use Rattle.std.proofs.Common.{◌≡◌, ◌++◌, ◌∷◌, [], drop}
use Rattle.std.specs.List.{flat_map}
use Rattle.hb_tree.specs.Canon.{escape}
use Rattle.hb_tree.proofs.sheet.quoted.Given as goal

abbrev pub invariant-loop-byte : goal.invariant-loop-byte
invariant-loop-byte l = l.literal.items ++ flat_map escape (drop l.byte-index l.value) ≡ (34 ∷ []) ++ flat_map escape l.value
