use Rattle.std.proofs.Common.{refl, length, ◌≤◌, arith}
use Rattle.std.specs.List.{flat_map}
use Rattle.hb_tree.specs.Canon.{script_lines}
use Rattle.hb_tree.proofs.Pages.{wrote, walk_found, walk_end}
use Rattle.hb_tree.proofs.print.push_scripts.Goals as goal

pub loop-i-preserved : goal.loop-i-preserved
loop-i-preserved c =
    let head = wrote _ _ _ (wrote _ _ _ c.in_ok-mark.ensures c.in_ok-push_name.ensures) c.in_ok-line_end.ensures in
    walk_found (script_lines c.args.prog.now) c.args.prog.now.scripts c.loop-i.i _ _ _ _ c.script.ensures.value
    (wrote _ _ _ head c.in_ok-push_lines.ensures) c.loop-i.invariant

pub returns : goal.returns
returns c =
    let past : length c.args.prog.now.scripts ≤ c.loop-i.i = omega arith in
    walk_end (script_lines c.args.prog.now) (flat_map (script_lines c.args.prog.now)) refl c.args.prog.now.scripts c.loop-i.i _ _ past c.loop-i.invariant
