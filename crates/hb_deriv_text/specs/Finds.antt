-- What the index of a program finds: at each place and each spelling the first that stands there, or is spelled so.
use Rattle.std.specs.Prelude.{◌≡◌, ℕ, List, drop, Bool, ◌&&◌, nat_eq, bytes_eq}
use Rattle.std.specs.Option.{option_map}
use Rattle.indexmap.specs.IndexMap.{IndexMap, get}
use Rattle.hb_types.specs.declared.ids.{NodeId.NodeId, BodySite.BodySite, TypeSite.TypeSite, ClassId.ClassId, NameId.NameId}
use Rattle.hb_types.specs.declared.types.MethodTy.{MethodTy}
use Rattle.hb_tree.specs.declared.parts.Body.{Body}
use Rattle.hb_tree.specs.Table.{Table}
use Rattle.hb_tree.specs.Nodes.{place_at}
use Rattle.hb_deriv_text.specs.Reading.{first, is_word, is_expr_at, same_place}
use Rattle.hb_deriv_text.specs.Written.{HasSmallPlaces}

-- the map has for each key the number of the first, from this one on, that passes the key's test
abbrev pub Finds : {K V X S : Type 0} → (K → K → Bool) → (V → ℕ) → (K → X → Bool) → List X → ℕ → IndexMap K V S → Type 0
Finds {K} eq number passes xs i m = (k : K) → option_map number (get eq m k) ≡ first (passes k) i (drop i xs)

abbrev pub same_key : ℕ × ℕ → ℕ × ℕ → Bool
same_key p q = nat_eq p.0 q.0 && nat_eq p.1 q.1

module _ {S : Type 0} (t : Table) where
  -- at each place the first expression, from this node on
  abbrev pub FindsExpressions : ℕ → IndexMap (ℕ × ℕ) NodeId S → Type 0
  FindsExpressions = Finds same_key (λ e. e.0) is_expr_at t.nodes

  -- at each place the first body that is defined there, from this one on
  abbrev pub FindsBodies : ℕ → IndexMap (ℕ × ℕ) BodySite S → Type 0
  FindsBodies = Finds same_key (λ b. b.0) (λ place (b : Body). same_place place (place_at t b.def.0)) t.bodies

  -- at each place the first type that is declared there, from this one on
  abbrev pub FindsTypes : ℕ → IndexMap (ℕ × ℕ) TypeSite S → Type 0
  FindsTypes = Finds same_key (λ y. y.0) (λ place (y : MethodTy × NodeId). same_place place (place_at t y.1.0)) t.types

-- for each spelling the first word, from this one on
abbrev pub FindsWords : {W V S : Type 0} → (W → List ℕ) → (V → ℕ) → List (List ℕ) → ℕ → IndexMap W V S → Type 0
FindsWords spelling number words = Finds (λ v w. bytes_eq (spelling v) (spelling w)) number (λ w. is_word (spelling w)) words

-- these five maps are the index of the program, whose places are small
pub record IsIndex {W S : Type 0} (spelling : W → List ℕ) (t : Table) (at : IndexMap (ℕ × ℕ) NodeId S) (defined : IndexMap (ℕ × ℕ) BodySite S) (declared : IndexMap (ℕ × ℕ) TypeSite S)
    (named : IndexMap W ClassId S) (spelled : IndexMap W NameId S) : Type 0 where
  pub expressions : FindsExpressions t 0 at
  pub bodies : FindsBodies t 0 defined
  pub types : FindsTypes t 0 declared
  pub classes : FindsWords spelling (λ c. c.0) t.classes 0 named
  pub names : FindsWords spelling (λ x. x.0) t.names 0 spelled
  pub small : HasSmallPlaces t
