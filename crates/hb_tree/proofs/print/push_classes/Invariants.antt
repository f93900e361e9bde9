use Rattle.std.proofs.Common.{◌≡◌, drop}
use Rattle.std.specs.List.{flat_map}
use Rattle.hb_tree.specs.{Canon.class_line, Page.written}
use Rattle.hb_tree.proofs.print.push_classes.Given as goal

abbrev pub invariant-loop-class : goal.invariant-loop-class
invariant-loop-class l = written l.sheet (flat_map class_line (drop l.class l.prog.classes)) ≡ written l.initial.sheet (flat_map class_line l.prog.classes)
