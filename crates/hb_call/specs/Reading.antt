-- What a call reads of its caller's acts.
use Rattle.std.specs.Prelude.{ℕ, List, [], ◌∷◌, ◌++◌, Option, Some, None, Bool, true, false, nat_eq, ◌&&◌, if◌then◌else◌}
use Rattle.std.specs.Option.{option_map}
use Rattle.hb_types.specs.declared.ids.BodySite.{BodySite}
use Rattle.hb_types.specs.declared.ids.TypeSite.{TypeSite}
use Rattle.hb_types.specs.declared.types.Ty.{Ty}
use Rattle.hb_types.specs.Types.{same_ty}
use Rattle.hb_tree.specs.Table.{Table}
use Rattle.hb_deriv.specs.Derivation.{type_at}
use Rattle.hb_deriv.specs.Programs.{sites_of}
use Rattle.hb_tables.specs.declared.entry.Act.{Act}
use Rattle.hb_tables.specs.declared.entry.Act.TheVariants.{Hold, Free, Call}
use Rattle.hb_tables.specs.declared.entry.Verdict.{Verdict}
use Rattle.hb_tables.specs.declared.entry.Verdict.TheVariants as verdict
use Rattle.hb_tables.specs.Standing.{Stand, all_but}
use Rattle.hb_tables.specs.Rows.{kinds_of}
use Rattle.hb_tables.specs.Verdicts.{typed_takes}

-- A call that was decided, with the Holds that stand behind it; one that found the list of names full; or no call. Behind it the rest is left.
pub data Read : Type 0 where
  Called : (site : Option BodySite) (v : Verdict) (held : List Stand) (rest : List Act) → Read
  FullAt : (rest : List Act) → Read
  Lost : Read

-- the acts behind a Free of each of these Holds by q, in their order
abbrev pub freed : ℕ → List Stand → List Act → Option (List Act)
freed q [] l = Some l
freed q (h ∷ hs) (Free key p ∷ l) = if nat_eq p.0 q && nat_eq key.0 h.key then freed q hs l else None
freed q (h ∷ hs) _ = None

abbrev pub refused_at : Option BodySite → Verdict → Option (List Act) → Read
refused_at site v None = Lost
refused_at site v (Some rest) = Called site v [] rest

abbrev pub full_at : Option (List Act) → Read
full_at None = Lost
full_at (Some rest) = FullAt rest

-- a call that enters keeps its Holds, and another one gives them back
abbrev pub called : ℕ → Option BodySite → Verdict → List Stand → List Act → Read
called q site (verdict.Enter way) held l = Called site (verdict.Enter way) held l
called q site v held l = refused_at site v (freed q held l)

abbrev pub same_kinds : List Ty → List Ty → Bool
same_kinds [] [] = true
same_kinds (a ∷ xs) (b ∷ ys) = same_ty a b && same_kinds xs ys
same_kinds _ _ = false

-- there is a type at the site, and it takes arguments of these kinds
abbrev pub takes_at : Table → Option TypeSite → List Ty → Bool
takes_at t site kinds = typed_takes (type_at (sites_of t) (option_map (λ s. s.0) site)) kinds

-- What follows the first Hold of q. Where its type fits the arguments, there are Holds and Frees by q, and a Free of k begins the last Frees of a call that is Full. Else there is nothing but the Call of the key k with these kinds.
abbrev pub decision : (fits : Bool) → ℕ → ℕ → List Ty → List Stand → List Act → Read
decision fits q k kinds held (Hold key p ty changes ∷ l) = if fits && nat_eq p.0 q then decision fits q k kinds (held ++ record { key = key.0; ty = ty; changes = changes } ∷ []) l else Lost
decision fits q k kinds held (Free key p ∷ l) =
    if fits && nat_eq p.0 q
    then (if nat_eq key.0 k then full_at (freed q held (Free key p ∷ l)) else decision fits q k kinds (all_but key.0 held) l)
    else Lost
decision fits q k kinds held (Call key p site args v ∷ l) = if nat_eq p.0 q && nat_eq key.0 k && same_kinds kinds (kinds_of args) then called q site v held l else Lost
decision fits q k kinds held _ = Lost

-- The acts of the call q of the key k with these kinds of arguments. They begin with the Hold of k, and go past it as its type takes the arguments.
abbrev pub call_of : Table → ℕ → ℕ → List Ty → List Act → Read
call_of t q k kinds (Hold key p ty changes ∷ l) = if nat_eq p.0 q && nat_eq key.0 k then decision (takes_at t ty kinds) q k kinds (record { key = key.0; ty = ty; changes = changes } ∷ []) l else Lost
call_of t q k kinds _ = Lost
