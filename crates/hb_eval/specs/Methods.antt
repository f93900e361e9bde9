-- What `def`, `type` and `type?` do to a method, which may have a computed name.
use Rattle.std.specs.Prelude.{ℕ, List, length, Bool, true, false, not, ◌&&◌, nat_eq, nat_le, bytes_eq, Option, Some, None, Result, Ok, Err, if◌then◌else◌}
use Rattle.std.specs.List.{list_any}
use Rattle.hb_tree.specs.declared.limits.TheConstants.{WORD_BYTES_MAX}
use Rattle.hb_tree.specs.Spelling.{is_word, is_small, keywords}
use Rattle.hb_names.specs.declared.names.TheConstants.{NAMES_MAX}
use Rattle.hb_names.specs.Names.{Name, place}
use Rattle.hb_tables.specs.declared.{entry.Act.Act, entry.Act.TheVariants.Retype, entry.Act.TheVariants.Busy, entry.Act.TheVariants.WornType, entry.Act.TheVariants.Define}
use Rattle.hb_tables.specs.declared.{entry.Act.TheVariants.WornDef}
use Rattle.hb_eval.specs.declared.{value.Value.Value, stop.Stop.Stop}
use Rattle.hb_eval.specs.declared.value.Value.TheVariants as value
use Rattle.hb_eval.specs.declared.stop.Stop.TheVariants as stop
use Rattle.hb_eval.specs.State.{St, Answer, Lost, Halt, reads}

-- the bytes are a name: a small letter or `_` begins them, and they are no keyword
abbrev pub is_name : List ℕ → Bool
is_name bytes = is_word is_small bytes && (not (list_any (bytes_eq bytes) keywords) && nat_le (length bytes) WORD_BYTES_MAX)

-- a value as the name of a method
abbrev pub named : ℕ → Value → St → (List ℕ → Answer) → Answer
named id value.Nil s go = Halt stop.NilValue id s
named id (value.Str bytes) s go = if is_name bytes then go bytes else Halt stop.BadName id s
named id _ s go = Halt stop.BadOperand id s

abbrev pub with_key : List Name → ℕ → Option ℕ → St → (ℕ → Answer) → Answer
with_key names id (Some key) s go = go key
with_key names id None s go = if nat_eq (length names) NAMES_MAX then Halt stop.Full id s else Lost

-- the key of a method; where the list of names is full and this is none of them, the stop Full
abbrev pub keyed : List Name → ℕ → Name → St → (ℕ → Answer) → Answer
keyed names id name s go = with_key names id (place names name) s go

-- what the acts mean that may follow a `def`
abbrev pub define_meaning : ℕ → ℕ → Act → Option (Result Value Stop)
define_meaning key site (Define k s) = if nat_eq k.0 key && nat_eq s.0 site then Some (Ok value.Nil) else None
define_meaning key site (WornDef k) = if nat_eq k.0 key then Some (Err stop.Worn) else None
define_meaning key site _ = None

-- `type?` tells whether it changed the type, and `type` stops where it did not
abbrev pub changed : Bool → Result Value Stop
changed true = Ok (value.Bool true)
changed false = Ok value.Nil

abbrev pub unchanged : Bool → Result Value Stop
unchanged true = Ok (value.Bool false)
unchanged false = Err stop.Busy

-- what the acts mean that may follow a `type` or a `type?`
abbrev pub declare_meaning : Bool → ℕ → ℕ → Act → Option (Result Value Stop)
declare_meaning asks key site (Retype k s) = if nat_eq k.0 key && nat_eq s.0 site then Some (changed asks) else None
declare_meaning asks key site (Busy k pins) = if nat_eq k.0 key then Some (unchanged asks) else None
declare_meaning asks key site (WornType k) = if nat_eq k.0 key then Some (Err stop.Worn) else None
declare_meaning asks key site _ = None

-- a method gets the body of a site
abbrev pub define : List Name → ℕ → Name → ℕ → St → Answer
define names id name site s = keyed names id name s (λ key. reads (define_meaning key site) id s)

-- a method gets the type of a site
abbrev pub declare : List Name → ℕ → Bool → Name → ℕ → St → Answer
declare names id asks name site s = keyed names id name s (λ key. reads (declare_meaning asks key site) id s)
