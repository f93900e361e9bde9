use Rattle.std.proofs.Common.{◌≡◌, ◌++◌, string_bytes}
use Rattle.std.specs.List.{flat_map}
use Rattle.hb_gen.specs.Generated.{block_in, numbers}
use Rattle.hb_gen.proofs.texts.push_blocks.Given as goal

abbrev pub invariant-loop-before : goal.invariant-loop-before
invariant-loop-before l = string_bytes l.text ≡ string_bytes l.initial.text ++ flat_map (block_in l.j) (numbers l.before)
