-- The text of a derivation, and which derivations name only what a program has.
use Rattle.std.specs.Prelude.{◌<◌, ℕ, List, [], ◌++◌, length, All, Option, Some, None, codes, decimal, slice_get}
use Rattle.std.specs.List.{flat_map}
use Rattle.hb_types.specs.declared.ids.NodeId.{NodeId}
use Rattle.hb_types.specs.declared.types.Ty.{Ty}
use Rattle.hb_types.specs.declared.types.Ty.TheVariants as ty
use Rattle.hb_types.specs.declared.types.MethodTy.{MethodTy}
use Rattle.hb_tree.specs.declared.parts.Body.{Body}
use Rattle.hb_tree.specs.Table.{Table}
use Rattle.hb_tree.specs.Program.{IsTyIn}
use Rattle.hb_tree.specs.Nodes.{place_at}
use Rattle.hb_tree.specs.Canon.{bytes_at}
use Rattle.hb_deriv.specs.declared.raw.Used.{Used}
use Rattle.hb_deriv.specs.declared.raw.Step.{Step}
use Rattle.hb_deriv.specs.declared.raw.RawDerivation.{RawDerivation}
use Rattle.hb_deriv.specs.Derivation.{Content}

-- what a derivation says of which nothing is known
abbrev pub raw_content_of : RawDerivation → Content
raw_content_of d = record { class = d.class.0; body = d.body.0; declared = d.declared.0; uses = d.uses.items; steps = d.steps.items }

-- ── words ──

-- a line and a column, where there are
abbrev pub line_and_column : Option (ℕ × ℕ) → List ℕ
line_and_column None = []
line_and_column (Some place) = decimal place.0 ++ codes ":" ++ decimal place.1

-- the place of a node
abbrev pub place : Table → ℕ → List ℕ
place t id = line_and_column (place_at t id)

-- the place of the definition of a body
abbrev pub place_of_def : Table → Option Body → List ℕ
place_of_def t None = []
place_of_def t (Some b) = place t b.def.0

-- the place of the `type` or `type?` that declares a type
abbrev pub place_of_type : Table → Option (MethodTy × NodeId) → List ℕ
place_of_type t None = []
place_of_type t (Some y) = place t y.1.0

abbrev pub type_word : Table → Ty → List ℕ
type_word t ty.Nil = codes "Nil"
type_word t ty.Bool = codes "Bool"
type_word t ty.Int = codes "Int"
type_word t ty.Str = codes "Str"
type_word t ty.Any = codes "Any"
type_word t (ty.Class c) = bytes_at t.classes c.0

-- ── lines ──

-- what begins a derivation
unfoldable pub head_word : List ℕ
head_word = codes "derivation "

-- the body, and the type that is declared of the method
abbrev pub where_defined : Table → (body declared : ℕ) → List ℕ
where_defined t body declared =
    codes " " ++ place_of_def t (slice_get t.bodies body) ++ codes " " ++ place_of_type t (slice_get t.types declared) ++ codes "\n"

-- the class of self, the body and its declared type
abbrev pub head_line : Table → (class body declared : ℕ) → List ℕ
head_line t class body declared = head_word ++ bytes_at t.classes class ++ where_defined t body declared

-- a method, and what gives its type
abbrev pub use_line : Table → Used → List ℕ
use_line t u =
    codes "use " ++ bytes_at t.classes u.class.0 ++ codes "." ++ bytes_at t.names u.name.0
    ++ codes " " ++ place_of_type t (slice_get t.types u.site.0) ++ codes "\n"

-- an expression and its type
abbrev pub step_line : Table → Step → List ℕ
step_line t s = codes "step " ++ place t s.node.0 ++ codes " " ++ type_word t s.ty ++ codes "\n"

abbrev pub text_of : Table → Content → List ℕ
text_of t d = head_line t d.class d.body d.declared ++ flat_map (use_line t) d.uses ++ flat_map (step_line t) d.steps ++ codes "end\n"

-- ── what fits ──

-- the method and the declaration are the program's
pub record IsUseIn (t : Table) (u : Used) : Type 0 where
  pub class : u.class.0 < length t.classes
  pub name : u.name.0 < length t.names
  pub site : u.site.0 < length t.types

-- the class of the type, where it is one of a class, is the program's
unfoldable pub IsTypeIn : Table → Ty → Type 0
IsTypeIn t y = IsTyIn t y

-- the node and the type are the program's
pub record IsStepIn (t : Table) (s : Step) : Type 0 where
  pub node : s.node.0 < length t.nodes
  pub ty : IsTypeIn t s.ty

-- each class, name, site and node is the program's
pub record Fits (t : Table) (d : Content) : Type 0 where
  pub class : d.class < length t.classes
  pub body : d.body < length t.bodies
  pub declared : d.declared < length t.types
  pub uses : All (IsUseIn t) d.uses
  pub steps : All (IsStepIn t) d.steps
