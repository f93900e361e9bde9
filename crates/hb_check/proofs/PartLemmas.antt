-- The last part of an expression, and parts that begin from other variables.
use Rattle.std.proofs.Common.{◌≡◌, ℕ, suc, ◌+◌, ◌<◌, ◌≤◌, get_or, drop, add-one, drop-cons, List, [], ◌∷◌, ◌++◌, length, Bool, true, false, refl, sym, ap, ◌∙◌, subst, append-nil, append_assoc, eqb-true, arith}
use Rattle.std.proofs.Math.ListN.{drop_of_length-le}
use Rattle.std.specs.Prelude.{Result, Ok, Err, Option, Some, None, nat_eq, if◌then◌else◌, ◌||◌}
use Rattle.std.specs.{Cmp.nat_eq_equiv, List.AllByRecursion, List.IsDistinct, Set.is_member}
use Rattle.hb_types.specs.declared.{env.TheConstants.VARIABLES_MAX, ids.NodeId.NodeId, types.Ty.Ty, types.MethodTy.MethodTy, ids.TypeSite.TypeSite}
use Rattle.hb_types.specs.declared.types.Ty.TheVariants as ty
use Rattle.hb_tree.specs.declared.node.Node.TheVariants as node
use Rattle.hb_tree.specs.declared.node.Method.{Method}
use Rattle.hb_tree.specs.declared.node.Method.TheVariants as method
use Rattle.hb_tree.specs.{Table.Table, Tree.Tree, Tree.NoTree, Tree.Trees, TreeAt.forest_at, TreeAt.tree_of, TreeAt.tree_at}
use Rattle.hb_types.specs.Variables.{Variables, IsMap, get, set, join, joined}
use Rattle.hb_types.specs.Variables.{has as has_name}
use Rattle.hb_deriv.specs.declared.ill.Reason.{Reason}
use Rattle.hb_deriv.specs.Judge.{Types, Typed, Verdict, ◌>>=◌, keys_of, declaration_type, called, call_type}
use Rattle.hb_deriv.specs.Events.{Events, behind, done, look_at}
use Rattle.hb_deriv.specs.Derivation.{Sites}
use Rattle.hb_check.specs.{Checked.Checks, Checked.ChecksMethod, Looking.method_of, Looking.with_type, Rules.concluded}
use Rattle.hb_check.specs.declared.notes.Stop.{Stop}
use Rattle.hb_check.specs.declared.notes.Stop.TheVariants as stop
use Rattle.hb_check.specs.Runs.{State, names_of, Within, HasRoom, IsSound, Runs}
use Rattle.hb_check.proofs.RunLemmas.{within_itself, within_left, within_right, within_both, leaves_wider, runs_stop, runs_then, runs_from, runs_alike}

-- ── names ──

apart_from : (G : Variables) (x : ℕ) → has_name G x ≡ false → AllByRecursion (λ y. nat_eq x y ≡ false) (names_of G)
apart_from [] x h = tt
apart_from (v ∷ G) x h = go (nat_eq v.0.0 x) refl h (apart_from G x)
  where
    go : (b : Bool) → nat_eq v.0.0 x ≡ b → b || has_name G x ≡ false → (has_name G x ≡ false → AllByRecursion (λ y. nat_eq x y ≡ false) (names_of G))
        → (nat_eq x v.0.0 ≡ false) × AllByRecursion (λ y. nat_eq x y ≡ false) (names_of G)
    go true e h rest = absurd (cc)
    go false e h rest = (nat_eq_equiv.symm x v.0.0 ∙ e, rest h)

map_apart : (G : Variables) → IsMap G → IsDistinct nat_eq (names_of G)
unfolding IsDistinct
map_apart [] h = tt
map_apart (v ∷ G) h = (apart_from G v.0.0 h.0, map_apart G h.1)

names_length : (G : Variables) → length (names_of G) ≡ length G
names_length [] = refl
names_length (v ∷ G) = ap suc (names_length G)

-- an environment that is full has no room for one name more
no_room : (G : Variables) (x : ℕ) → IsMap G → length G ≡ VARIABLES_MAX → has_name G x ≡ false → HasRoom (names_of G ++ x ∷ []) → ⊥
unfolding IsDistinct
no_room G x unique full new room =
    let most = room (x ∷ names_of G) (apart_from G x new, map_apart G unique)
    (within_both (x ∷ []) (names_of G) (names_of G ++ x ∷ []) (within_right (names_of G) (x ∷ [])) (within_left (names_of G) (x ∷ []))) in
    let same = names_length G in
    omega (arith, most, same, full)

pub names_set : (G : Variables) (x : ℕ) (t : Ty) → Within (names_of (set G x t)) (names_of G ++ x ∷ [])
names_set [] x t = within_itself (x ∷ [])
names_set (v ∷ G) x t = go (nat_eq v.0.0 x) refl (names_set G x t)
  where
    known : nat_eq v.0.0 x ≡ true → Within (x ∷ names_of G) (v.0.0 ∷ (names_of G ++ x ∷ []))
    known e = within_both (x ∷ []) (names_of G) (v.0.0 ∷ (names_of G ++ x ∷ []))
        (λ y h. within_right (v.0.0 ∷ names_of G) (x ∷ []) y h)
        (λ y h. within_right (v.0.0 ∷ []) (names_of G ++ x ∷ []) y (within_left (names_of G) (x ∷ []) y h))

    go : (b : Bool) → nat_eq v.0.0 x ≡ b → Within (names_of (set G x t)) (names_of G ++ x ∷ []) → Within (names_of (if b then ((record { 0 = x }), t) ∷ G else v ∷ set G x t)) (v.0.0 ∷ (names_of G ++ x ∷ []))
    go true e rest = known e
    go false e rest = within_both (v.0.0 ∷ []) (names_of (set G x t)) (v.0.0 ∷ (names_of G ++ x ∷ []))
        (within_left (v.0.0 ∷ []) (names_of G ++ x ∷ []))
        (λ y h. within_right (v.0.0 ∷ []) (names_of G ++ x ∷ []) y (rest y h))

member_of : (G : Variables) (x : ℕ) (t : Ty) → get G x ≡ Some t → is_member nat_eq (names_of G) x ≡ true
member_of [] x t h = absurd (cc)
member_of (v ∷ G) x t h = go (nat_eq v.0.0 x) refl h (member_of G x t)
  where
    go : (b : Bool) → nat_eq v.0.0 x ≡ b → (if b then Some v.1 else get G x) ≡ Some t → (get G x ≡ Some t → is_member nat_eq (names_of G) x ≡ true) → nat_eq x v.0.0 || is_member nat_eq (names_of G) x ≡ true
    go true e h rest = rw (nat_eq_equiv.symm x v.0.0 ∙ e) refl
    go false e h rest = rw (nat_eq_equiv.symm x v.0.0 ∙ e) (rest h)

none_in : (names : List ℕ) → Within [] names
none_in names x h = absurd (cc)

pub names_join_other : (G others : Variables) → Within (names_of (join G others)) (names_of others)
names_join_other [] others = none_in (names_of others)
names_join_other (v ∷ G) others = go (get others v.0.0) refl (names_join_other G others)
  where
    go : (o : Option Ty) → get others v.0.0 ≡ o → Within (names_of (join G others)) (names_of others) → Within (names_of (joined v o (join G others))) (names_of others)
    go None e rest = rest
    go (Some t) e rest = within_both (v.0.0 ∷ []) (names_of (join G others)) (names_of others) (only v.0.0 (names_of others) (member_of others v.0.0 t e)) rest
      where
        only : (x : ℕ) (names : List ℕ) → is_member nat_eq names x ≡ true → Within (x ∷ []) names
        only x names h y k = subst (λ z. is_member nat_eq names z ≡ true) (sym (eqb-true y x (alone y x k))) h
          where
            alone : (y x : ℕ) → nat_eq y x || false ≡ true → nat_eq y x ≡ true
            alone y x k = go2 (nat_eq y x) k
              where
                go2 : (b : Bool) → b || false ≡ true → b ≡ true
                go2 true k = refl
                go2 false k = absurd (cc)

-- ── parts ──

module _ {X Y : Type 0} {sites : Sites} {v : Types → Verdict (Variables × X)} {es : Types → Events} (k : Types → Variables × X → Verdict (Variables × Y)) (l : Types → Variables × X → Events) where
  -- what follows the part assigns no name
  pub runs_last : {A : List ℕ} {G : Variables} {old mid new : State} {r : Variables × X} {result : Result (Variables × Y) Stop}
      → Runs sites v es A G old mid (Ok r)
      → Runs sites (λ types. k types r) (λ types. l types r) [] r.0 mid new result
      → Runs sites (λ types. v types >>= k types) (λ types. es types ++ behind (v types) (l types)) A G old new result
  runs_last {A} {G} {old} {mid} {new} {r} {result} a b =
      subst (λ names. Runs sites (λ types. v types >>= k types) (λ types. es types ++ behind (v types) (l types)) names G old new result) (append-nil A) (runs_then k l a b)

  -- the part has no type, and what would follow assigns no name
  pub runs_ended_early : {A : List ℕ} {G : Variables} {old new : State} {e : Stop}
      → Runs sites v es A G old new (let x : Result (Variables × X) Stop = Err e in x)
      → Runs sites (λ types. v types >>= k types) (λ types. es types ++ behind (v types) (l types)) A G old new (let y : Result (Variables × Y) Stop = Err e in y)
  runs_ended_early {A} {G} {old} {new} {e} a =
      subst (λ names. Runs sites (λ types. v types >>= k types) (λ types. es types ++ behind (v types) (l types)) names G old new (let y : Result (Variables × Y) Stop = Err e in y)) (append-nil A) (runs_stop k l [] a)

  -- and goes on from other variables
  pub runs_ended : {A : List ℕ} {G : Variables} (H : Variables) {old mid new : State} {r : Variables × X} {result : Result (Variables × Y) Stop}
      → Runs sites v es A G old mid (Ok r)
      → (IsSound old → Within (names_of H) (names_of G ++ A))
      → Runs sites (λ types. k types r) (λ types. l types r) [] H mid new result
      → Runs sites (λ types. v types >>= k types) (λ types. es types ++ behind (v types) (l types)) A G old new result
  runs_ended {A} {G} H {old} {mid} {new} {r} {result} a w b = record {
    ran = λ sound.
        (subst (λ names. Runs sites (λ types. v types >>= k types) (λ types. es types ++ behind (v types) (l types)) names G old new result) (append-nil A) (runs_from k l a (w sound) b)).ran sound;
  }

-- a part that begins from fewer variables, and assigns fewer
pub runs_begun : {X : Type 0} {sites : Sites} {v : Types → Verdict (Variables × X)} {es : Types → Events} (A B : List ℕ) (G H : Variables) {old new : State} {result : Result (Variables × X) Stop}
    → Within (names_of H ++ A) (names_of G ++ B) → Runs sites v es A H old new result → Runs sites v es B G old new result
runs_begun A B G H {new = new} {result} w a = record {
  ran = λ sound.
      let part = a.ran sound in
      record {
        more = part.more;
        grows = part.grows;
        leaves = leaves_wider (names_of H ++ A) (names_of G ++ B) new result w part.leaves;
        comes = part.comes;
      };
}

-- the environment is full at an assignment
pub runs_full : {X : Type 0} (sites : Sites) (v : Types → Verdict (Variables × X)) (es : Types → Events) (G : Variables) (x : ℕ) (s : State)
    → IsMap G → length G ≡ VARIABLES_MAX → has_name G x ≡ false
    → Runs sites v es (x ∷ []) G s s (let y : Result (Variables × X) Stop = Err stop.Full in y)
runs_full sites v es G x s unique full new = record {
  ran = λ sound. record {
    more = [];
    grows = sym (append-nil s.answers);
    leaves = no_room G x unique full new;
    comes = λ declared agrees. tt;
  };
}

-- the rule that concludes an expression
pub runs_ruled : {sites : Sites} {A : List ℕ} {H : Variables} {old new : State} {result : Result Typed Stop} (id : ℕ) (G : Variables) (v : Verdict Typed) (verdict : Result Ty Reason)
    → v ≡ concluded id G verdict
    → Runs sites (λ types. concluded id G verdict) (λ types. done id (concluded id G verdict)) A H old new result
    → Runs sites (λ types. v) (λ types. done id v) A H old new result
runs_ruled {sites} {A} {H} {old} {new} {result} id G v verdict e a = subst (λ x. Runs sites (λ types. x) (λ types. done id x) A H old new result) (sym e) a

-- ── loops ──

-- whatever the rest comes to from here, the whole comes to
pub record Leads {X : Type 0} (rest whole : State → Result (Variables × X) Stop → Type 0) : Type 0 where
  pub on : (new : State) (result : Result (Variables × X) Stop) → rest new result → whole new result

-- the forest of the nodes that are left
pub forest_next : (part : ℕ → Tree) (ids : List NodeId) (i : ℕ) (d : NodeId) → i < length ids → forest_at part (drop i ids) ≡ Trees (part (get_or ids i d).0) (forest_at part (drop (i + 1) ids))
forest_next part ids i d h = rw (drop-cons ids i d h, add-one) refl

pub forest_none : (part : ℕ → Tree) (ids : List NodeId) (i : ℕ) → length ids ≤ i → forest_at part (drop i ids) ≡ NoTree
forest_none part ids i h = ap (forest_at part) (drop_of_length-le ids h)

-- ── calls ──

-- a call looks for the method, and then its rule concludes
pub call_split : (types : Types) (id m : ℕ) (G : Variables) (t : Ty) (args : List Ty) → call_type types id m G t args ≡ (method_of types id m G t >>= (λ r. called id r.0 args (Some r.1)))
unfolding ◌>>=◌
call_split types id m G (ty.Class c) args = go (types (c.0, m))
  where
    go : (o : Option MethodTy) → called id G args o ≡ (with_type id G o >>= (λ r. called id r.0 args (Some r.1)))
    go None = refl
    go (Some s) = refl
call_split _ _ _ _ _ _ = refl

pub call_events : (types : Types) (id m : ℕ) (G : Variables) (t : Ty) (args : List Ty) → done id (call_type types id m G t args) ≡ behind (method_of types id m G t) (λ r. done id (called id r.0 args (Some r.1)))
unfolding ◌>>=◌ behind
call_events types id m G (ty.Class c) args = go (types (c.0, m))
  where
    go : (o : Option MethodTy) → done id (called id G args o) ≡ behind (with_type id G o) (λ r. done id (called id r.0 args (Some r.1)))
    go None = refl
    go (Some s) = refl
call_events _ _ _ _ _ _ = refl

pub within_turned : (x : ℕ) (names : List ℕ) → Within (names ++ x ∷ []) (x ∷ names)
within_turned x names = within_both names (x ∷ []) (x ∷ names) (within_right (x ∷ []) names) (within_left (x ∷ []) names)

-- what follows an assignment begins from the names with this one
pub within_set : (G : Variables) (x : ℕ) (t : Ty) → Within (names_of (set G x t) ++ []) (names_of G ++ x ∷ [])
within_set G x t y h = names_set G x t y (subst (λ names. is_member nat_eq names y ≡ true) (append-nil (names_of (set G x t))) h)

pub runs_grouped : {X : Type 0} {sites : Sites} {v : Types → Verdict (Variables × X)} {es : Types → Events} (A B C : List ℕ) {G : Variables} {old new : State} {result : Result (Variables × X) Stop}
    → Runs sites v es (A ++ (B ++ C)) G old new result → Runs sites v es ((A ++ B) ++ C) G old new result
runs_grouped {sites = sites} {v} {es} A B C {G} {old} {new} {result} a = subst (λ names. Runs sites v es names G old new result) (sym (append_assoc A B C)) a

-- a call's last part, as the method that is looked for and its rule
pub call_parts : {sites : Sites} {A : List ℕ} {H : Variables} {old new : State} {result : Result Typed Stop} (id m : ℕ) (G : Variables) (t : Ty) (args : List Ty)
    → Runs sites (λ types. method_of types id m G t >>= (λ r. called id r.0 args (Some r.1)))
    (λ types. look_at id (keys_of t m) ++ behind (method_of types id m G t) (λ r. done id (called id r.0 args (Some r.1)))) A H old new result
    → Runs sites (λ types. call_type types id m G t args) (λ types. look_at id (keys_of t m) ++ done id (call_type types id m G t args)) A H old new result
call_parts id m G t args a = runs_alike
    (λ types. method_of types id m G t >>= (λ r. called id r.0 args (Some r.1))) (λ types. call_type types id m G t args)
    (λ types. look_at id (keys_of t m) ++ behind (method_of types id m G t) (λ r. done id (called id r.0 args (Some r.1)))) (λ types. look_at id (keys_of t m) ++ done id (call_type types id m G t args))
    (λ types. sym (call_split types id m G t args))
    (λ types. ap (λ (es : Events). look_at id (keys_of t m) ++ es) (sym (call_events types id m G t args)))
    a

-- ── definitions and declarations ──

pub checks_declare : (t : Table) (self id : ℕ) (m : Method) (asks : Bool) (s : TypeSite) {G : Variables} {old new : State} {result : Result Typed Stop}
    → ChecksMethod t self id m (declaration_type asks) G old new result → Checks t self (tree_of t (tree_at t) id (node.Declare m s asks)) G old new result
checks_declare t self id (method.Named c x) asks s h = h
checks_declare t self id (method.Computed c e) asks s h = h
