-- Derivations about the bodies of a program.
use Rattle.std.specs.Prelude.{◌≡◌, ℕ, slice_get, Option, Some, None}
use Rattle.std.specs.Option.{option_map}
use Rattle.hb_types.specs.declared.types.MethodTy.{MethodTy}
use Rattle.hb_tree.specs.{Table.Table, Nodes.params_of, TreeAt.tree_at}
use Rattle.hb_tree.specs.declared.parts.Body.{Body}
use Rattle.hb_deriv.specs.{Judge.Subject, Derivation.Content, Derivation.Sites, Walk.IsGood}

-- the type at a type site of the program; another site has none
abbrev pub sites_of : Table → Sites
sites_of t site = option_map (λ y. y.0) (slice_get t.types site)

abbrev pub subject_from : Table → ℕ → Option Body → Option MethodTy → Option Subject
subject_from t class None declared = None
subject_from t class (Some b) None = None
subject_from t class (Some b) (Some m) = Some (record { self = class; params = params_of b; block = tree_at t b.block.0; declared = m })

-- the body of this site, with self of this class, at the type of this site
abbrev pub subject_of : Table → (class body declared : ℕ) → Option Subject
subject_of t class body declared = subject_from t class (slice_get t.bodies body) (sites_of t declared)

-- the derivation is for the program: it is good there
pub record IsFor (t : Table) (d : Content) : Type 0 where
  pub subject : Subject
  pub is : subject_of t d.class d.body d.declared ≡ Some subject
  pub good : IsGood (sites_of t) subject d
