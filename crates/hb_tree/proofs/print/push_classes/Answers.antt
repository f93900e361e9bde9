use Rattle.std.proofs.Common.{refl, length, ◌≤◌, arith}
use Rattle.std.specs.List.{flat_map}
use Rattle.hb_tree.specs.Canon.{class_line}
use Rattle.hb_tree.proofs.Pages.{wrote, walk_found, walk_end}
use Rattle.hb_tree.proofs.print.push_classes.Goals as goal

pub loop-class-preserved : goal.loop-class-preserved
loop-class-preserved c =
    walk_found class_line c.args.prog.now.classes c.loop-class.class _ _ _ _ c.class_name.ensures.value
    (wrote _ _ _ (wrote _ _ _ c.in_ok-mark.ensures c.in_ok-class_name.ensures) c.in_ok-line_end.ensures) c.loop-class.invariant

pub returns : goal.returns
returns c =
    let past : length c.args.prog.now.classes ≤ c.loop-class.class = omega arith in
    walk_end class_line (flat_map class_line) refl c.args.prog.now.classes c.loop-class.class _ _ past c.loop-class.invariant
