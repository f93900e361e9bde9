use Rattle.std.proofs.Common.{◌≡◌, ◌++◌, string_bytes}
use Rattle.std.specs.List.{flat_map}
use Rattle.hb_gen.specs.Generated.{class_line, numbers}
use Rattle.hb_gen.proofs.texts.push_classes.Given as goal

abbrev pub invariant-loop-before : goal.invariant-loop-before
invariant-loop-before l = string_bytes l.text ≡ string_bytes l.initial.text ++ flat_map class_line (numbers l.before)
