-- What a lookup was asked, and which type tables agree with what it answered.
use Rattle.std.specs.Prelude.{◌≡◌, ℕ, ◌≤◌, List, [], ◌∷◌, length, Option, Some, None}
use Rattle.std.specs.Option.{option_map}
use Rattle.hb_types.specs.declared.ids.ClassId.{ClassId}
use Rattle.hb_types.specs.declared.ids.NameId.{NameId}
use Rattle.hb_types.specs.declared.ids.TypeSite.{TypeSite}
use Rattle.hb_tree.specs.Table.{Table}
use Rattle.hb_deriv.specs.declared.raw.Used.{Used}
use Rattle.hb_deriv.specs.Judge.{Key, Types}
use Rattle.hb_deriv.specs.Derivation.{Sites, type_at}
use Rattle.hb_check.specs.declared.lookup.LookFail.{LookFail}

-- the type of this method is declared at this site, or nowhere
pub record Asked : Type 0 where
  pub class : ℕ
  pub name : ℕ
  pub site : Option ℕ

-- no answer for this method, and why
pub record Refusal : Type 0 where
  pub class : ℕ
  pub name : ℕ
  pub cause : LookFail

abbrev pub asked : ClassId → NameId → Option TypeSite → Asked
asked class name site = record { class = class.0; name = name.0; site = option_map (λ s. s.0) site }

abbrev pub refusal : ClassId → NameId → LookFail → Refusal
refusal class name cause = record { class = class.0; name = name.0; cause = cause }

-- the answer that a use stands for
abbrev pub answer_of : Used → Asked
answer_of u = asked u.class u.name (Some u.site)

abbrev pub key_asked : Asked → Key
key_asked a = (a.class, a.name)

abbrev pub key_refused : Refusal → Key
key_refused r = (r.class, r.name)

-- a table of types, by the sites that declare them
abbrev pub Declared : Type 0
Declared = Key → Option ℕ

-- the table has each of these answers
abbrev pub Agrees : List Asked → Declared → Type 0
Agrees [] declared = Unit {0}
Agrees (a ∷ answers) declared = (declared (key_asked a) ≡ a.site) × Agrees answers declared

-- the types of a program that the table has
abbrev pub types_in : Sites → Declared → Types
types_in sites declared k = type_at sites (declared k)

-- a lookup that may be asked now, for each name of the table
pub record MayAsk (ready : Type 0) (names : ℕ) (t : Table) : Type 0 where
  pub is_ready : ready
  pub all_names : length t.names ≤ names
