-- Entries, the state of one key after them, and which lists of entries are legal.
use Rattle.std.specs.Prelude.{◌≡◌, ℕ, ◌+◌, ◌<◌, ◌≤◌, ◌==◌, ◌&&◌, Bool, cond, Option, Some, None, List, [], ◌∷◌, ◌++◌, length}
use Rattle.hb_types.specs.declared.{ids.TypeSite.TypeSite, ids.BodySite.BodySite}
use Rattle.hb_tree.specs.declared.limits.TheConstants.{TYPES_MAX}
use Rattle.hb_tables.specs.declared.{entry.TheConstants.HOLDS_MAX, entry.TheConstants.BODIES_MAX, entry.Entry.Entry, entry.Act.Act, entry.Act.TheVariants.Hold}
use Rattle.hb_tables.specs.declared.{entry.Act.TheVariants.Free, entry.Act.TheVariants.Retype, entry.Act.TheVariants.Busy, entry.Act.TheVariants.WornType}
use Rattle.hb_tables.specs.declared.{entry.Act.TheVariants.Define, entry.Act.TheVariants.WornDef, entry.Act.TheVariants.Call}

-- the state of one key: its type's site and how often that was changed, its definition's site and how often that was changed, and the calls that hold it, each a caller and a number
pub record Spot : Type 0 where
  pub ty : Option TypeSite
  pub changes : ℕ
  pub body : Option BodySite
  pub redefs : ℕ
  pub calls : List (ℕ × ℕ)

-- before all entries
abbrev pub blank : Spot
blank = record { ty = None; changes = 0; body = None; redefs = 0; calls = [] }

abbrev pub same_call : ℕ × ℕ → ℕ × ℕ → Bool
same_call x y = (x.0 == y.0) && (x.1 == y.1)

-- how often a call stands among these
abbrev pub times : ℕ × ℕ → List (ℕ × ℕ) → ℕ
times x [] = 0
times x (y ∷ ys) = cond (same_call x y) 1 0 + times x ys

-- the others
abbrev pub without : ℕ × ℕ → List (ℕ × ℕ) → List (ℕ × ℕ)
without x [] = []
without x (y ∷ ys) = cond (same_call x y) (without x ys) (y ∷ without x ys)

-- those of one caller
abbrev pub of_caller : ℕ → List (ℕ × ℕ) → List (ℕ × ℕ)
of_caller c [] = []
of_caller c (y ∷ ys) = cond (c == y.0) (y ∷ of_caller c ys) (of_caller c ys)

-- the key that an act is about
abbrev pub key_of : Act → ℕ
key_of (Hold key q ty changes) = key.0
key_of (Free key q) = key.0
key_of (Retype key site) = key.0
key_of (Busy key pins) = key.0
key_of (WornType key) = key.0
key_of (Define key site) = key.0
key_of (WornDef key) = key.0
key_of (Call key q site args verdict) = key.0

-- a key's state after an act on it by a caller
abbrev pub done : ℕ → Spot → Act → Spot
done c s (Hold key q ty changes) = record s { calls = (c, q.0) ∷ s.calls }
done c s (Free key q) = record s { calls = without (c, q.0) s.calls }
done c s (Retype key site) = record s { ty = Some site; changes = s.changes + 1 }
done c s (Define key site) = record s { body = Some site; redefs = s.redefs + 1 }
done c s (Busy key pins) = s
done c s (WornType key) = s
done c s (WornDef key) = s
done c s (Call key q site args verdict) = s

-- the state of the key k after an entry
abbrev pub turn : ℕ → Spot → Entry → Spot
turn k s e = cond (k == key_of e.act) (done e.caller.0 s e.act) s

abbrev pub spot_from : ℕ → Spot → List Entry → Spot
spot_from k s [] = s
spot_from k s (e ∷ es) = spot_from k (turn k s e) es

-- the state of the key k after all these entries
abbrev pub spot : ℕ → List Entry → Spot
spot k log = spot_from k blank log

-- the entries of one caller
abbrev pub journal : ℕ → List Entry → List Entry
journal c [] = []
journal c (e ∷ es) = cond (c == e.caller.0) (e ∷ journal c es) (journal c es)

-- the act fits the state of its key
abbrev pub FitsAct : ℕ → ℕ → Spot → Act → Type 0
FitsAct limit c s (Hold key q ty changes) = (ty ≡ s.ty) × (changes ≡ s.changes) × (times (c, q.0) s.calls ≡ 0) × (length (of_caller c s.calls) < HOLDS_MAX)
FitsAct limit c s (Free key q) = times (c, q.0) s.calls ≡ 1
FitsAct limit c s (Retype key site) = (length s.calls ≡ 0) × (s.changes < limit) × (site.0 < TYPES_MAX)
FitsAct limit c s (Busy key pins) = (pins ≡ length s.calls) × (0 < pins)
FitsAct limit c s (WornType key) = (length s.calls ≡ 0) × (s.changes ≡ limit)
FitsAct limit c s (Define key site) = (s.redefs < limit) × (site.0 < BODIES_MAX)
FitsAct limit c s (WornDef key) = s.redefs ≡ limit
FitsAct limit c s (Call key q site args verdict) = Unit {0}

-- the entry fits the state of its key after those before it
abbrev pub Fits : ℕ → List Entry → Entry → Type 0
Fits limit log e = FitsAct limit e.caller.0 (spot (key_of e.act) log) e.act

-- each entry stands in this relation to the entries before it
abbrev pub Every : (List Entry → Entry → Type 0) → List Entry → Type 0
Every F log = (before after : List Entry) (e : Entry) → log ≡ before ++ e ∷ after → F before e

-- each entry fits the state before it
abbrev pub IsLegal : ℕ → List Entry → Type 0
IsLegal limit log = Every (Fits limit) log

-- what a caller does
abbrev pub entry : ℕ → Act → Entry
entry c act = record { caller = record { 0 = c }; act = act }

-- the longer list goes on with entries of others, and then with this one
abbrev pub Adds : ℕ → List Entry → List Entry → Act → Type 0
Adds c old new act = (between : List Entry) × (new ≡ (old ++ between) ++ entry c act ∷ []) × (journal c between ≡ [])

-- the longer list goes on with entries of others
abbrev pub Learns : ℕ → List Entry → List Entry → Type 0
Learns c old new = (between : List Entry) × (new ≡ old ++ between) × (journal c between ≡ [])

-- a site by its number plus one, and none by 0
abbrev pub ty_code : Option TypeSite → ℕ
ty_code None = 0
ty_code (Some site) = site.0 + 1

abbrev pub body_code : Option BodySite → ℕ
body_code None = 0
body_code (Some site) = site.0 + 1

-- what legality keeps of each key's state
pub record Sound (limit : ℕ) (s : Spot) : Type 0 where
  pub changes : s.changes ≤ limit
  pub redefs : s.redefs ≤ limit
  pub ty : ty_code s.ty ≤ TYPES_MAX
  pub body : body_code s.body ≤ BODIES_MAX
  pub few : (c : ℕ) → length (of_caller c s.calls) ≤ HOLDS_MAX
  pub once : (x : ℕ × ℕ) → times x s.calls ≤ 1
