-- What two programs have in common that differ in places alone.
use Rattle.std.specs.Prelude.{◌≡◌, length}
use Rattle.hb_build.specs.Said.{Said}

-- both say the same, and have as many nodes; only the nodes' places may differ
pub record IsSameButPlaces (one other : Said) : Type 0 where
  pub classes : one.classes ≡ other.classes
  pub names : one.names ≡ other.names
  pub texts : one.texts ≡ other.texts
  pub places : length one.places ≡ length other.places
  pub bodies : one.bodies ≡ other.bodies
  pub types : one.types ≡ other.types
  pub setup : one.setup ≡ other.setup
  pub scripts : one.scripts ≡ other.scripts
