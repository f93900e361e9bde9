-- The types and the definitions that a key was given, in their order.
use Rattle.std.specs.Prelude.{ℕ, ◌==◌, cond, List, [], ◌∷◌, ◌++◌}
use Rattle.hb_types.specs.declared.{ids.TypeSite.TypeSite, ids.BodySite.BodySite}
use Rattle.hb_tables.specs.declared.{entry.Entry.Entry, entry.Act.Act, entry.Act.TheVariants.Retype, entry.Act.TheVariants.Define}

-- the type that an act gives the key
abbrev pub type_given : ℕ → Act → List TypeSite
type_given k (Retype key site) = cond (k == key.0) (site ∷ []) []
type_given k _ = []

-- the definition that an act gives the key
abbrev pub body_given : ℕ → Act → List BodySite
body_given k (Define key site) = cond (k == key.0) (site ∷ []) []
body_given k _ = []

abbrev pub types_given : ℕ → List Entry → List TypeSite
types_given k [] = []
types_given k (e ∷ es) = type_given k e.act ++ types_given k es

abbrev pub bodies_given : ℕ → List Entry → List BodySite
bodies_given k [] = []
bodies_given k (e ∷ es) = body_given k e.act ++ bodies_given k es
