-- The trace of a history: a line for each entry.
use Rattle.std.specs.Prelude.{ℕ, List, [], ◌∷◌, ◌++◌, Option, Some, None, codes, decimal, slice_get}
use Rattle.std.specs.List.{flat_map}
use Rattle.hb_types.specs.declared.types.Ty.{Ty}
use Rattle.hb_types.specs.declared.types.Ty.TheVariants as ty
use Rattle.hb_types.specs.declared.types.MethodTy.{MethodTy}
use Rattle.hb_types.specs.declared.ids.BodySite.{BodySite}
use Rattle.hb_types.specs.declared.ids.NodeId.{NodeId}
use Rattle.hb_types.specs.declared.ids.TypeSite.{TypeSite}
use Rattle.hb_tree.specs.declared.parts.Body.{Body}
use Rattle.hb_tree.specs.Table.{Table}
use Rattle.hb_tree.specs.Canon.{bytes_at}
use Rattle.hb_names.specs.Names.{Name}
use Rattle.hb_tables.specs.declared.entry.Entry.{Entry}
use Rattle.hb_tables.specs.declared.entry.Act.{Act}
use Rattle.hb_tables.specs.declared.entry.Act.TheVariants.{Hold, Free, Retype, Busy, WornType, Define, WornDef, Call}
use Rattle.hb_tables.specs.declared.entry.By.{By}
use Rattle.hb_tables.specs.declared.entry.By.TheVariants as by
use Rattle.hb_tables.specs.declared.entry.Verdict.{Verdict}
use Rattle.hb_tables.specs.declared.entry.Verdict.TheVariants as verdict
use Rattle.hb_tables.specs.Rows.{body_at, kinds_of}
use Rattle.hb_report.specs.Places.{fault, place}

abbrev pub class_name : Table → ℕ → List ℕ
class_name t c = bytes_at t.classes c

-- a method by its class and its name, where there is one
abbrev pub method : Table → Option Name → List ℕ
method t None = []
method t (Some name) = class_name t name.0 ++ codes "." ++ name.1

-- a call by its number and its method
abbrev pub call : Table → List Name → (q k : ℕ) → List ℕ
call t names q k = decimal q ++ codes " " ++ method t (slice_get names k)

-- the place of a `type` or `type?`
abbrev pub declaration : Table → Option (MethodTy × NodeId) → List ℕ
declaration t None = []
declaration t (Some declared) = place t declared.1.0

abbrev pub type_place : Table → TypeSite → List ℕ
type_place t site = declaration t (slice_get t.types site.0)

abbrev pub type_or_none : Table → Option TypeSite → List ℕ
type_or_none t None = codes "none"
type_or_none t (Some site) = type_place t site

-- the place of a `def`
abbrev pub definition : Table → Option Body → List ℕ
definition t None = []
definition t (Some body) = place t body.def.0

abbrev pub def_place : Table → BodySite → List ℕ
def_place t site = definition t (body_at t (Some site))

abbrev pub def_or_none : Table → Option BodySite → List ℕ
def_or_none t None = codes "none"
def_or_none t (Some site) = def_place t site

abbrev pub kind_word : Table → Ty → List ℕ
kind_word t ty.Nil = codes "Nil"
kind_word t ty.Bool = codes "Bool"
kind_word t ty.Int = codes "Int"
kind_word t ty.Str = codes "Str"
kind_word t ty.Any = codes "Any"
kind_word t (ty.Class c) = class_name t c.0

-- kinds with a comma between two
abbrev pub kinds_text : Table → List Ty → List ℕ
kinds_text t [] = []
kinds_text t (kind ∷ kinds) = kind_word t kind ++ flat_map (λ k. codes "," ++ kind_word t k) kinds

abbrev pub way_word : By → List ℕ
way_word by.Own = codes "own"
way_word by.Shared = codes "shared"
way_word by.Fresh = codes "fresh"

abbrev pub verdict_text : Table → Verdict → List ℕ
verdict_text t (verdict.Enter way) = codes "enter " ++ way_word way
verdict_text t verdict.NoBody = codes "NoBody"
verdict_text t verdict.NoType = codes "NoType"
verdict_text t verdict.BadArgs = codes "BadArgs"
verdict_text t (verdict.IllTyped ill) = codes "IllTyped" ++ fault t ill

-- how a call was decided: its definition, the kinds of its arguments, and what it came to
abbrev pub decision : Table → Option BodySite → List Ty → Verdict → List ℕ
decision t site kinds v = def_or_none t site ++ codes " (" ++ kinds_text t kinds ++ codes ") " ++ verdict_text t v

abbrev pub word : Act → List ℕ
word (Hold key q site changes) = codes " hold "
word (Free key q) = codes " free "
word (Retype key site) = codes " type "
word (Busy key pins) = codes " busy "
word (WornType key) = codes " worn type "
word (Define key site) = codes " def "
word (WornDef key) = codes " worn def "
word (Call key q site args v) = codes " call "

-- what was done to which method, where the names of the keys are these
abbrev pub about : Table → List Name → Act → List ℕ
about t names (Hold key q site changes) = call t names q.0 key.0 ++ codes " " ++ type_or_none t site ++ codes " " ++ decimal changes
about t names (Free key q) = call t names q.0 key.0
about t names (Retype key site) = method t (slice_get names key.0) ++ codes " " ++ type_place t site
about t names (Busy key pins) = method t (slice_get names key.0) ++ codes " " ++ decimal pins
about t names (WornType key) = method t (slice_get names key.0)
about t names (Define key site) = method t (slice_get names key.0) ++ codes " " ++ def_place t site
about t names (WornDef key) = method t (slice_get names key.0)
about t names (Call key q site args v) = call t names q.0 key.0 ++ codes " " ++ decision t site (kinds_of args) v

-- the caller, and what it did
abbrev pub trace_line : Table → List Name → Entry → List ℕ
trace_line t names e = decimal e.caller.0 ++ word e.act ++ about t names e.act ++ codes "\n"

abbrev pub trace_of : Table → List Name → List Entry → List ℕ
trace_of t names log = codes "trace\n" ++ flat_map (trace_line t names) log
