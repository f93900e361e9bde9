use Rattle.std.proofs.Common.{◌≡◌, ◌-◌, length, arith}
use Rattle.std.proofs.lemmas.Grind.{common_steps}
use Rattle.hb_draft.proofs.Heights.{greatest-drop, greatest-last}
use Rattle.hb_draft.proofs.pieces.push_node.Goals as goal

pub overflow_add-height : goal.overflow_add-height
overflow_add-height c =
    let hs = c.args.heights.now.items in
    let len : c.len-2.result ≡ length hs = omega (arith, c.len-2.ensures, c.args.heights.now.ok) in
    let top = greatest-last hs c.deref.result.now c.len-2.result c.args.count c.greatest-height.result c.deref.ensures.value len c.greatest-height.ensures in
    omega (arith, top, greatest-drop 256 (length hs - c.args.count) hs c.requires.low)

pub returns-clause-heights : goal.returns-clause-heights
returns-clause-heights c =
    let hs = c.args.heights.now.items in
    let len : c.len-2.result ≡ length hs = omega (arith, c.len-2.ensures, c.args.heights.now.ok) in
    let top = greatest-last hs c.deref.result.now c.len-2.result c.args.count c.greatest-height.result c.deref.ensures.value len c.greatest-height.ensures in
    grind (arith, common_steps, top)
