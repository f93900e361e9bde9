-- What is told of derivations, one after another.
use Rattle.std.specs.Prelude.{◌≡◌, ◌++◌, ◌&&◌}
use Rattle.hb_tree.specs.Table.{Table}
use Rattle.hb_deriv.specs.Derivation.{Content}
use Rattle.hb_bundle.specs.Verdicts.{verdict_line, is_good}
use Rattle.hb_bundle.specs.declared.verdicts.Verdicts.{Verdicts}

-- the line of a derivation is added, and all are good where this one is too
pub record Adds (t : Table) (d : Content) (old new : Verdicts) : Type 0 where
  pub line : new.lines.items ≡ old.lines.items ++ verdict_line t d
  pub good : new.all_good ≡ (old.all_good && is_good t d)
