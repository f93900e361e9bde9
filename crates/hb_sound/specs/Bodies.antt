-- The bodies of frames, in the tables at their Calls.
use Rattle.std.specs.Prelude.{◌≡◌, ℕ, List, map, Option, Some, true}
use Rattle.hb_types.specs.declared.{ids.BodySite.BodySite, types.Ty.Ty, types.MethodTy.MethodTy}
use Rattle.hb_types.specs.{Types.is_below, Variables.Variables}
use Rattle.hb_tree.specs.declared.parts.Body.{Body}
use Rattle.hb_tree.specs.{Table.Table, Nodes.params_of, Tree.Tree}
use Rattle.hb_deriv.specs.{Judge.variables_of, Judgement.Judged, Events.events}
use Rattle.hb_names.specs.Names.{Name, place}
use Rattle.hb_tables.specs.Rows.{body_at, types_in, type_of_key}
use Rattle.hb_tables.specs.Verdicts.{subject}
use Rattle.hb_eval.specs.declared.value.Value.{Value}
use Rattle.hb_eval.specs.{Values.kind_of, State.St, Calls.bindings}
use Rattle.hb_sound.specs.{Sound.Fits, Sound.LooksIn, Frames.Frame, Frames.Holds}

-- The expression is judged in the tables at the frame's Call, by the types of methods whose keys its call holds there.
pub record IsJudgedIn (t : Table) (names : List Name) (c : ℕ) (f : Frame) (me : ℕ) (G : Variables) (e : Tree) (behind : Variables) (ty : Ty) : Type 0 where
  pub judged : Judged (types_in t names f.before) me G e behind ty
  pub held : LooksIn (Holds t names c f) (events (types_in t names f.before) me e G)

-- The frame's Call of this key enters the body at this site, which is judged at the key's type there; arguments of these kinds fit its parameters.
pub record Enters (t : Table) (names : List Name) (c : ℕ) (f : Frame) (key : ℕ) (site : Option BodySite) (kinds : List Ty) : Type 0 where
  pub name : Name
  pub body : Body
  pub declared : MethodTy
  pub behind : Variables
  pub ty : Ty
  pub is : place names name ≡ Some key
  pub defined : body_at t site ≡ Some body
  pub typed : type_of_key t f.before key ≡ Some declared
  pub judged : IsJudgedIn t names c f name.0 (variables_of (subject t name.0 body declared)) (subject t name.0 body declared).block behind ty
  pub below : is_below ty declared.result ≡ true
  pub fit : (vs : List Value) → map kind_of vs ≡ kinds → Fits (variables_of (subject t name.0 body declared)) (bindings (params_of body) vs)

-- the state in which a body begins: with self, its parameters, and no other variable
abbrev pub begun_with : (me : ℕ) → Body → List Value → St → St
begun_with me body vs s = record s { vars = bindings (params_of body) vs; self = Some (record { 0 = me }) }
