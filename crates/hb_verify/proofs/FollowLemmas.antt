-- Parts of a walk, one behind another.
use Rattle.std.proofs.Common.{◌≡◌, ℕ, zero, suc, ◌+◌, ◌<◌, ◌≤◌, get_or, drop, take, add-one, drop-cons, List, [], ◌∷◌, ◌++◌, map, length, Bool, true}
use Rattle.std.proofs.Common.{false, refl, sym, ap, subst, append-nil, append_assoc, arith}
use Rattle.std.proofs.Math.ListN.{drop_of_length-le}
use Rattle.std.specs.Prelude.{Result, Ok, Err, Some, None, nat_eq, if◌then◌else◌, ◌&&◌, ◌||◌}
use Rattle.hb_types.specs.declared.env.TheConstants.{VARIABLES_MAX}
use Rattle.hb_types.specs.declared.ids.NodeId.{NodeId}
use Rattle.hb_types.specs.declared.ids.TypeSite.{TypeSite}
use Rattle.hb_types.specs.declared.types.Ty.{Ty}
use Rattle.hb_types.specs.declared.types.Ty.TheVariants as ty
use Rattle.hb_types.specs.Types.{same_ty}
use Rattle.hb_types.specs.Variables.{Variables, IsMap}
use Rattle.hb_types.specs.Variables.{has as has_name}
use Rattle.hb_types.specs.declared.ids.ClassId.{ClassId}
use Rattle.hb_types.specs.declared.ids.BodySite.{BodySite}
use Rattle.hb_tree.specs.declared.node.Node.TheVariants as node
use Rattle.hb_tree.specs.declared.node.Method.{Method}
use Rattle.hb_tree.specs.declared.node.Method.TheVariants as method
use Rattle.hb_tree.specs.Table.{Table}
use Rattle.hb_tree.specs.Tree.{Tree, NoTree, Trees}
use Rattle.hb_tree.specs.TreeAt.{forest_at, tree_of, tree_at}
use Rattle.hb_deriv.specs.declared.raw.Used.{Used}
use Rattle.hb_deriv.specs.declared.raw.Step.{Step}
use Rattle.hb_deriv.specs.Judge.{Key, Typed, Verdict, called, declaration_type}
use Rattle.hb_deriv.specs.Events.{same_key, has}
use Rattle.hb_deriv.specs.Derivation.{Sites, key_of, table}
use Rattle.hb_deriv.specs.Walk.{State, AtStep, Walked, ◌>>>◌, finish, walk_call}
use Rattle.hb_verify.specs.declared.progress.Progress.{Progress}
use Rattle.hb_verify.specs.declared.progress.Stop.{Stop}
use Rattle.hb_verify.specs.declared.progress.Stop.TheVariants as stop
use Rattle.hb_verify.specs.Room.{names_of, Within}
use Rattle.hb_verify.specs.Rules.{outcome, given}
use Rattle.hb_verify.specs.Follows.{state_of, find, FindsUse, Comes, Follows}
use Rattle.hb_verify.specs.Walks.{Walks, WalksMethod}
use Rattle.hb_verify.proofs.RoomLemmas.{within_left, within_right, within_both, within_begun, within_wider, no_room}

pub comes_wider : {X : Type 0} (uses : List Used) (steps : List Step) (walked : Walked (State × (Variables × X))) (names others : List ℕ) (new : Progress)
    (result : Result (Variables × X) Stop) → Within names others → Comes uses steps walked names new result → Comes uses steps walked others new result
comes_wider uses steps walked names others new (Ok r) w h = (h.0, λ x i. w x (h.1 x i))
comes_wider uses steps walked names others new (Err stop.Step) w h = h
comes_wider uses steps walked names others new (Err stop.Uses) w h = h
comes_wider uses steps walked names others new (Err stop.Full) w h = λ room. h (λ some apart within. room some apart (λ x i. w x (within x i)))

module _ {X Y : Type 0} {uses : List Used} {steps : List Step} {w : Walked (State × (Variables × X))}
    (k : State × (Variables × X) → Walked (State × (Variables × Y))) where
  -- A part has a type, and what follows goes on from variables that were there or assigned.
  pub follows_from : {A B : List ℕ} {G H : Variables} {mid new : Progress} {r : Variables × X} {result : Result (Variables × Y) Stop}
      → Follows uses steps w A G mid (Ok r)
      → Within (names_of H) (names_of G ++ A)
      → Follows uses steps (k (state_of uses steps mid, r)) B H new result
      → Follows uses steps (w >>> k) (A ++ B) G new result
  unfolding ◌>>>◌
  follows_from {A} {B} {G} {H} {mid} {new} {r} {result} a i b = record {
    comes = subst (λ (z : Walked (State × (Variables × Y))). Comes uses steps z (names_of G ++ (A ++ B)) new result)
        (sym (ap (λ (z : Walked (State × (Variables × X))). z >>> k) a.comes.0))
        (comes_wider uses steps (k (state_of uses steps mid, r)) (names_of H ++ B) (names_of G ++ (A ++ B)) new result (within_begun A B G H i) b.comes);
  }

  -- from the variables behind the part
  pub follows_then : {A B : List ℕ} {G : Variables} {mid new : Progress} {r : Variables × X} {result : Result (Variables × Y) Stop}
      → Follows uses steps w A G mid (Ok r)
      → Follows uses steps (k (state_of uses steps mid, r)) B r.0 new result
      → Follows uses steps (w >>> k) (A ++ B) G new result
  follows_then a b = follows_from a a.comes.1 b

  -- what follows assigns no name
  pub follows_ended : {A : List ℕ} {G : Variables} (H : Variables) {mid new : Progress} {r : Variables × X} {result : Result (Variables × Y) Stop}
      → Follows uses steps w A G mid (Ok r)
      → Within (names_of H) (names_of G ++ A)
      → Follows uses steps (k (state_of uses steps mid, r)) [] H new result
      → Follows uses steps (w >>> k) A G new result
  follows_ended {A} {G} H {mid} {new} {r} {result} a i b = subst (λ names. Follows uses steps (w >>> k) names G new result) (append-nil A) (follows_from a i b)

  pub follows_last : {A : List ℕ} {G : Variables} {mid new : Progress} {r : Variables × X} {result : Result (Variables × Y) Stop}
      → Follows uses steps w A G mid (Ok r)
      → Follows uses steps (k (state_of uses steps mid, r)) [] r.0 new result
      → Follows uses steps (w >>> k) A G new result
  follows_last {r = r} a b = follows_ended r.0 a a.comes.1 b

  stopped : {A : List ℕ} (B : List ℕ) {G : Variables} {new : Progress} (e : Stop)
      → Follows uses steps w A G new (let x : Result (Variables × X) Stop = Err e in x)
      → Follows uses steps (w >>> k) (A ++ B) G new (let y : Result (Variables × Y) Stop = Err e in y)
  unfolding ◌>>>◌
  stopped {A} B {G} stop.Step a = record { comes = ap (λ (z : Walked (State × (Variables × X))). z >>> k) a.comes }
  stopped {A} B {G} stop.Uses a = record { comes = ap (λ (z : Walked (State × (Variables × X))). z >>> k) a.comes }
  stopped {A} B {G} stop.Full a = record {
    comes = λ room. a.comes (λ some apart within. room some apart (λ x i. within_wider A B G x (within x i)));
  }

  -- A part has no type, and nothing follows.
  pub follows_stop : {A : List ℕ} (B : List ℕ) {G : Variables} {new : Progress} {e : Stop}
      → Follows uses steps w A G new (let x : Result (Variables × X) Stop = Err e in x)
      → Follows uses steps (w >>> k) (A ++ B) G new (let y : Result (Variables × Y) Stop = Err e in y)
  follows_stop B {e = e} a = stopped B e a

  pub follows_ended_early : {A : List ℕ} {G : Variables} {new : Progress} {e : Stop}
      → Follows uses steps w A G new (let x : Result (Variables × X) Stop = Err e in x)
      → Follows uses steps (w >>> k) A G new (let y : Result (Variables × Y) Stop = Err e in y)
  follows_ended_early {A} {G} {new} {e} a = subst (λ names. Follows uses steps (w >>> k) names G new (let y : Result (Variables × Y) Stop = Err e in y))
      (append-nil A) (follows_stop [] a)

-- a part that begins from fewer variables, and assigns fewer
pub follows_begun : {X : Type 0} {uses : List Used} {steps : List Step} {w : Walked (State × (Variables × X))} (A B : List ℕ)
    (G H : Variables) {new : Progress} {result : Result (Variables × X) Stop}
    → Within (names_of H ++ A) (names_of G ++ B) → Follows uses steps w A H new result → Follows uses steps w B G new result
follows_begun {uses = uses} {steps} {w} A B G H {new} {result} i a = record { comes = comes_wider uses steps w (names_of H ++ A) (names_of G ++ B) new result i a.comes }

pub follows_wider : {X : Type 0} {uses : List Used} {steps : List Step} {w : Walked (State × (Variables × X))}
    (A B : List ℕ) {G : Variables} {new : Progress} {result : Result (Variables × X) Stop}
    → Within A B → Follows uses steps w A G new result → Follows uses steps w B G new result
follows_wider A B {G} i a = follows_begun A B G G
    (within_both (names_of G) A (names_of G ++ B) (within_left (names_of G) B) (λ x j. within_right (names_of G) B x (i x j))) a

pub follows_grouped : {X : Type 0} {uses : List Used} {steps : List Step} {w : Walked (State × (Variables × X))}
    (A B C : List ℕ) {G : Variables} {new : Progress} {result : Result (Variables × X) Stop}
    → Follows uses steps w (A ++ (B ++ C)) G new result → Follows uses steps w ((A ++ B) ++ C) G new result
follows_grouped {uses = uses} {steps} {w} A B C {G} {new} {result} a = subst (λ names. Follows uses steps w names G new result) (sym (append_assoc A B C)) a

-- a part does nothing
pub follows_value : {X : Type 0} (uses : List Used) (steps : List Step) (G : Variables) (at : Progress) (x : X)
    → Follows uses steps (Ok (state_of uses steps at, (G, x))) [] G at (Ok (G, x))
follows_value uses steps G at x = record { comes = (refl, within_left (names_of G) []) }

-- the environment is full at an assignment
pub follows_full : {X : Type 0} (uses : List Used) (steps : List Step) (w : Walked (State × (Variables × X))) (G : Variables) (x : ℕ) (at : Progress)
    → IsMap G → length G ≡ VARIABLES_MAX → has_name G x ≡ false
    → Follows uses steps w (x ∷ []) G at (let y : Result (Variables × X) Stop = Err stop.Full in y)
follows_full uses steps w G x at unique full new = record { comes = no_room G x unique full new }

-- ── the end of an expression ──

-- the walk asks not why the judgement fails
pub finish_same : (s : State) (id : ℕ) (v w : Verdict Typed) → outcome v ≡ outcome w → finish s id v ≡ finish s id w
finish_same s id (Ok a) (Ok b) h = ap (λ (r : Typed). finish s id (Ok r)) (same a b h)
  where
    same : (a b : Typed) → Some a ≡ Some b → a ≡ b
    same a b h = cc
finish_same s id (Ok a) (Err f) h = absurd (cc)
finish_same s id (Err e) (Ok b) h = absurd (cc)
finish_same s id (Err e) (Err f) h = refl

pub concluded_given : {uses : List Used} {steps : List Step} {A : List ℕ} {H : Variables} {new : Progress} {result : Result Typed Stop} (s : State) (id : ℕ)
    (G : Variables) (v : Verdict Typed) (t : Ty)
    → outcome v ≡ given G (Some t) → Follows uses steps (finish s id (Ok (G, t))) A H new result → Follows uses steps (finish s id v) A H new result
concluded_given {uses} {steps} {A} {H} {new} {result} s id G v t e a = subst (λ z. Follows uses steps z A H new result) (sym (finish_same s id v (Ok (G, t)) e)) a

pub finish_typed_as : {uses : List Used} {steps : List Step} {new : Progress} {result : Result Typed Stop} (s : State) (id : ℕ) (G : Variables) (t u : Ty)
    → t ≡ u → Follows uses steps (finish s id (Ok (G, t))) [] G new result → Follows uses steps (finish s id (Ok (G, u))) [] G new result
finish_typed_as {uses} {steps} {new} {result} s id G t u e a = subst (λ (x : Ty). Follows uses steps (finish s id (Ok (G, x))) [] G new result) e a

none_finished : (s : State) (id : ℕ) (v : Verdict Typed) → outcome v ≡ None → finish s id v ≡ Err (AtStep s.passed)
none_finished s id (Ok r) e = absurd (cc)
none_finished s id (Err f) e = refl

pub concluded_none : (uses : List Used) (steps : List Step) (at : Progress) (id : ℕ) (G : Variables) (v : Verdict Typed)
    → outcome v ≡ None → Follows uses steps (finish (state_of uses steps at) id v) [] G at (Err stop.Step)
concluded_none uses steps at id G v e = record { comes = none_finished (state_of uses steps at) id v e }

-- the next step
pub passed_next : (uses : List Used) (steps : List Step) (old new : Progress) (id : ℕ) (t : Ty) (G : Variables) (d : Step)
    → old.passed < length steps → (nat_eq (get_or steps old.passed d).node.0 id && same_ty (get_or steps old.passed d).ty t) ≡ true
    → new.taken ≡ old.taken → new.passed ≡ old.passed + 1
    → Follows uses steps (finish (state_of uses steps old) id (Ok (G, t))) [] G new (Ok (G, t))
unfolding ◌>>>◌
passed_next uses steps old new id t G d more same taken passed = record { comes = (done, within_left (names_of G) []) }
  where
    done : finish (state_of uses steps old) id (Ok (G, t)) ≡ Ok (state_of uses steps new, (G, t))
    done = rw (drop-cons steps old.passed d more, same, taken, passed, add-one) refl

-- no step is left, or the next is another one
pub passed_none : (uses : List Used) (steps : List Step) (at : Progress) (id : ℕ) (t : Ty) (G : Variables)
    → length steps ≤ at.passed → Follows uses steps (finish (state_of uses steps at) id (Ok (G, t))) [] G at (Err stop.Step)
unfolding ◌>>>◌
passed_none uses steps at id t G none = record { comes = rw (drop_of_length-le steps none) refl }

pub passed_other : (uses : List Used) (steps : List Step) (at : Progress) (id : ℕ) (t : Ty) (G : Variables) (d : Step)
    → at.passed < length steps → (nat_eq (get_or steps at.passed d).node.0 id && same_ty (get_or steps at.passed d).ty t) ≡ false
    → Follows uses steps (finish (state_of uses steps at) id (Ok (G, t))) [] G at (Err stop.Step)
unfolding ◌>>>◌
passed_other uses steps at id t G d more other = record { comes = rw (drop-cons steps at.passed d more, other) refl }

-- ── looks ──

pub find_has : (uses : List Used) (k : Key) (site : TypeSite) → find uses k ≡ Some site → has k (map key_of uses) ≡ true
find_has [] k site h = absurd (cc)
find_has (u ∷ uses) k site h = go (same_key (key_of u) k) h (find_has uses k site)
  where
    go : (b : Bool) → (if b then Some u.site else find uses k) ≡ Some site → (find uses k ≡ Some site → has k (map key_of uses) ≡ true)
        → b || has k (map key_of uses) ≡ true
    go true h rest = refl
    go false h rest = rest h

pub find_none : (uses : List Used) (k : Key) → find uses k ≡ None → has k (map key_of uses) ≡ false
find_none [] k h = refl
find_none (u ∷ uses) k h = go (same_key (key_of u) k) h (find_none uses k)
  where
    go : (b : Bool) → (if b then Some u.site else find uses k) ≡ None → (find uses k ≡ None → has k (map key_of uses) ≡ false) → b || has k (map key_of uses) ≡ false
    go true h rest = absurd (cc)
    go false h rest = rest h

pub find_table : (sites : Sites) (uses : List Used) (k : Key) (site : TypeSite) → find uses k ≡ Some site → table sites uses k ≡ sites site.0
find_table sites [] k site h = absurd (cc)
find_table sites (u ∷ uses) k site h = go (same_key (key_of u) k) h (find_table sites uses k site)
  where
    same : (a b : TypeSite) → Some a ≡ Some b → a ≡ b
    same a b h = cc

    go : (b : Bool) → (if b then Some u.site else find uses k) ≡ Some site → (find uses k ≡ Some site → table sites uses k ≡ sites site.0)
        → (if b then sites u.site.0 else table sites uses k) ≡ sites site.0
    go true h rest = ap (λ (s : TypeSite). sites s.0) (same u.site site h)
    go false h rest = rest h

find_more : (uses : List Used) (u : Used) (k : Key) → find uses k ≡ None → same_key (key_of u) k ≡ true → find (uses ++ u ∷ []) k ≡ Some u.site
find_more [] u k h same = rw same refl
find_more (v ∷ uses) u k h same = go (same_key (key_of v) k) h (λ h. find_more uses u k h same)
  where
    go : (b : Bool) → (if b then Some v.site else find uses k) ≡ None → (find uses k ≡ None → find (uses ++ u ∷ []) k ≡ Some u.site)
        → (if b then Some v.site else find (uses ++ u ∷ []) k) ≡ Some u.site
    go true h rest = absurd (cc)
    go false h rest = rest h

take_more : (uses : List Used) (n : ℕ) (d : Used) → n < length uses → take (n + 1) uses ≡ take n uses ++ get_or uses n d ∷ []
take_more [] n d h = absurd (omega arith)
take_more (u ∷ uses) zero d h = refl
take_more (u ∷ uses) (suc n) d h = let rest = take_more uses n d (omega arith) in rw add-one
    (ap (λ (l : List Used). u ∷ l) (subst (λ m. take m uses ≡ take n uses ++ get_or uses n d ∷ []) (add-one n) rest))

pub length_take : (uses : List Used) (n : ℕ) → n ≤ length uses → length (take n uses) ≡ n
length_take uses zero h = refl
length_take [] (suc n) h = absurd (omega arith)
length_take (u ∷ uses) (suc n) h = ap suc (length_take uses n (omega arith))

pub finds_taken : (uses : List Used) (steps : List Step) (at : Progress) (k : Key) (site : TypeSite) → find (take at.taken uses) k ≡ Some site
    → FindsUse uses steps k at at (Ok site)
finds_taken uses steps at k site h = (rw (find_has (take at.taken uses) k site h) refl, h)

pub finds_next : (uses : List Used) (steps : List Step) (old new : Progress) (k : Key) (d : Used)
    → find (take old.taken uses) k ≡ None → old.taken < length uses → same_key (key_of (get_or uses old.taken d)) k ≡ true
    → new.taken ≡ old.taken + 1 → new.passed ≡ old.passed → FindsUse uses steps k old new (Ok (get_or uses old.taken d).site)
finds_next uses steps old new k d none more same taken passed = (
  rw (find_none (take old.taken uses) k none, drop-cons uses old.taken d more, same, taken, passed, take_more uses old.taken d more, add-one) refl,
  rw (taken, take_more uses old.taken d more) (find_more (take old.taken uses) (get_or uses old.taken d) k none same),
)

pub finds_no_more : (uses : List Used) (steps : List Step) (at : Progress) (k : Key) → at.taken ≤ length uses
    → find (take at.taken uses) k ≡ None → length uses ≤ at.taken → FindsUse uses steps k at at (Err stop.Uses)
finds_no_more uses steps at k within none all = rw (find_none (take at.taken uses) k none, drop_of_length-le uses all, length_take uses at.taken within) refl

pub finds_other : (uses : List Used) (steps : List Step) (at : Progress) (k : Key) (d : Used)
    → find (take at.taken uses) k ≡ None → at.taken < length uses → same_key (key_of (get_or uses at.taken d)) k ≡ false → FindsUse uses steps k at at (Err stop.Uses)
finds_other uses steps at k d none more other =
    let within : at.taken ≤ length uses = omega arith in
    rw (find_none (take at.taken uses) k none, drop-cons uses at.taken d more, other, length_take uses at.taken within) refl

-- ── calls ──

-- a method was found, and its type is that of the site
pub call_found : (uses : List Used) (steps : List Step) (sites : Sites) (id m c : ℕ) (G : Variables) (args : List Ty) (old mid : Progress) (site : TypeSite)
    → FindsUse uses steps (c, m) old mid (Ok site)
    → walk_call sites id m G (ty.Class (record { 0 = c })) args (state_of uses steps old) ≡ finish (state_of uses steps mid) id (called id G args (sites site.0))
unfolding ◌>>>◌
call_found uses steps sites id m c G args old mid site h = rw (h.0, find_table sites (take mid.taken uses) (c, m) site h.1) refl

pub call_lost : {uses : List Used} {steps : List Step} (sites : Sites) (id m c : ℕ) (G : Variables) (args : List Ty) (old mid : Progress) (e : Stop)
    → FindsUse uses steps (c, m) old mid (Err e)
    → Follows uses steps (walk_call sites id m G (ty.Class (record { 0 = c })) args (state_of uses steps old)) [] G mid (let y : Result Typed Stop = Err e in y)
unfolding ◌>>>◌
call_lost sites id m c G args old mid stop.Uses h = record { comes = rw h refl }
call_lost sites id m c G args old mid stop.Step h = absurd h
call_lost sites id m c G args old mid stop.Full h = absurd h

pub call_follows : {uses : List Used} {steps : List Step} (sites : Sites) (id m c : ℕ) (G : Variables) (args : List Ty) (old mid : Progress)
    (site : TypeSite) {new : Progress} {result : Result Typed Stop}
    → FindsUse uses steps (c, m) old mid (Ok site)
    → Follows uses steps (finish (state_of uses steps mid) id (called id G args (sites site.0))) [] G new result
    → Follows uses steps (walk_call sites id m G (ty.Class (record { 0 = c })) args (state_of uses steps old)) [] G new result
call_follows {uses} {steps} sites id m c G args old mid site {new} {result} h a = subst (λ z. Follows uses steps z [] G new result)
    (sym (call_found uses steps sites id m c G args old mid site h)) a

-- no method of what is no object of a class
pub call_other : (uses : List Used) (steps : List Step) (sites : Sites) (id m : ℕ) (G : Variables) (t : Ty) (args : List Ty) (at : Progress)
    → ((c : ClassId) → t ≡ ty.Class c → ⊥)
    → Follows uses steps (walk_call sites id m G t args (state_of uses steps at)) [] G at (Err stop.Step)
unfolding ◌>>>◌
call_other uses steps sites id m G ty.Nil args at h = record { comes = refl }
call_other uses steps sites id m G ty.Bool args at h = record { comes = refl }
call_other uses steps sites id m G ty.Int args at h = record { comes = refl }
call_other uses steps sites id m G ty.Str args at h = record { comes = refl }
call_other uses steps sites id m G ty.Any args at h = record { comes = refl }
call_other uses steps sites id m G (ty.Class c) args at h = absurd (h c refl)

-- ── definitions and declarations ──

pub walks_declare : (t : Table) (old : Progress) (self id : ℕ) (m : Method) (asks : Bool)
    (s : TypeSite) {G : Variables} {uses : List Used} {steps : List Step} {new : Progress} {result : Result Typed Stop}
    → WalksMethod t self id m (declaration_type asks) G uses steps old new result
    → Walks t self (tree_of t (tree_at t) id (node.Declare m s asks)) G uses steps old new result
walks_declare t old self id (method.Named c x) asks s h = h
walks_declare t old self id (method.Computed c e) asks s h = h

-- ── loops ──

-- whatever the rest comes to from here, the whole comes to
pub record Leads {X : Type 0} (rest whole : Progress → Result (Variables × X) Stop → Type 0) : Type 0 where
  pub on : (new : Progress) (result : Result (Variables × X) Stop) → rest new result → whole new result

-- the forest of the nodes that are left
pub forest_next : (part : ℕ → Tree) (ids : List NodeId) (i : ℕ) (d : NodeId) → i < length ids → forest_at part (drop i ids)
    ≡ Trees (part (get_or ids i d).0) (forest_at part (drop (i + 1) ids))
forest_next part ids i d h = rw (drop-cons ids i d h, add-one) refl

pub forest_none : (part : ℕ → Tree) (ids : List NodeId) (i : ℕ) → length ids ≤ i → forest_at part (drop i ids) ≡ NoTree
forest_none part ids i h = ap (forest_at part) (drop_of_length-le ids h)

pub walks_def : (t : Table) (old : Progress) (self id : ℕ) (m : Method)
    (s : BodySite) {G : Variables} {uses : List Used} {steps : List Step} {new : Progress} {result : Result Typed Stop}
    → WalksMethod t self id m ty.Nil G uses steps old new result → Walks t self (tree_of t (tree_at t) id (node.Def m s)) G uses steps old new result
walks_def t old self id (method.Named c x) s h = h
walks_def t old self id (method.Computed c e) s h = h
