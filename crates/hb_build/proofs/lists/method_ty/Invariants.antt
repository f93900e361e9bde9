use Rattle.std.proofs.Common.{◌≡◌, take}
use Rattle.hb_build.specs.Acts.{filled}
use Rattle.hb_build.proofs.lists.method_ty.Given as goal

abbrev pub invariant-loop-i : goal.invariant-loop-i
invariant-loop-i l = l.types ≡ filled 4 (take l.i l.params)
