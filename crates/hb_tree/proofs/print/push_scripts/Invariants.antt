use Rattle.std.proofs.Common.{◌≡◌, drop}
use Rattle.std.specs.List.{flat_map}
use Rattle.hb_tree.specs.{Canon.script_lines, Page.written}
use Rattle.hb_tree.proofs.print.push_scripts.Given as goal

abbrev pub invariant-loop-i : goal.invariant-loop-i
invariant-loop-i l = written l.sheet (flat_map (script_lines l.prog) (drop l.i l.prog.scripts)) ≡ written l.initial.sheet (flat_map (script_lines l.prog) l.prog.scripts)
