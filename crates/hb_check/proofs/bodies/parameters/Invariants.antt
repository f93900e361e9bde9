use Rattle.std.proofs.Common.{◌≡◌, take}
use Rattle.hb_types.specs.Types.{params_of as types_of}
use Rattle.hb_tree.specs.Nodes.{params_of}
use Rattle.hb_deriv.specs.Judge.{parameters}
use Rattle.hb_check.proofs.bodies.parameters.Given as goal

-- the first parameters have their types
abbrev pub invariant-loop-i : goal.invariant-loop-i
invariant-loop-i l = l.env ≡ parameters (take l.i (params_of l.fn.body)) (types_of l.fn.ty)
