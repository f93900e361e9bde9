-- Names that variables have, and room for them.
use Rattle.std.proofs.Common.{◌≡◌, ℕ, suc, List, [], ◌∷◌, ◌++◌, length, Bool, true, false, refl, sym, ap, ◌∙◌, subst, append-nil, append_assoc, eqb-true, arith}
use Rattle.std.specs.Prelude.{Option, Some, None, nat_eq, if◌then◌else◌, ◌||◌}
use Rattle.std.specs.Cmp.{nat_eq_equiv}
use Rattle.std.specs.List.{AllByRecursion, IsDistinct}
use Rattle.std.specs.Set.{is_member}
use Rattle.hb_types.specs.declared.env.TheConstants.{VARIABLES_MAX}
use Rattle.hb_types.specs.declared.types.Ty.{Ty}
use Rattle.hb_types.specs.Variables.{Variables, IsMap, get, set, join, joined}
use Rattle.hb_types.specs.Variables.{has as has_name}
use Rattle.hb_verify.specs.Room.{names_of, Within, HasRoom}

pub within_itself : (names : List ℕ) → Within names names
within_itself names x h = h

member_or : (a b : Bool) → a || b ≡ true → (a ≡ true → ⊥) → b ≡ true
member_or true b h none = absurd (none refl)
member_or false b h none = h

pub within_left : (names more : List ℕ) → Within names (names ++ more)
within_left [] more x h = absurd (cc)
within_left (y ∷ names) more x h = go (nat_eq x y) (within_left names more x) h
  where
    go : (b : Bool) → (is_member nat_eq names x ≡ true → is_member nat_eq (names ++ more) x ≡ true) → b || is_member nat_eq names x ≡ true
        → b || is_member nat_eq (names ++ more) x ≡ true
    go true rest h = refl
    go false rest h = rest h

pub within_right : (names more : List ℕ) → Within more (names ++ more)
within_right [] more x h = h
within_right (y ∷ names) more x h = go (nat_eq x y) (within_right names more x h)
  where
    go : (b : Bool) → is_member nat_eq (names ++ more) x ≡ true → b || is_member nat_eq (names ++ more) x ≡ true
    go true rest = refl
    go false rest = rest

pub within_both : (names more others : List ℕ) → Within names others → Within more others → Within (names ++ more) others
within_both [] more others h k x i = k x i
within_both (y ∷ names) more others h k x i = go (nat_eq x y) (λ j. h x j) (within_both names more others (λ z j. h z (within_right (y ∷ []) names z j)) k x) i
  where
    go : (b : Bool) → (b || is_member nat_eq names x ≡ true → is_member nat_eq others x ≡ true)
        → (is_member nat_eq (names ++ more) x ≡ true → is_member nat_eq others x ≡ true) → b || is_member nat_eq (names ++ more) x ≡ true
        → is_member nat_eq others x ≡ true
    go true first rest i = first refl
    go false first rest i = rest i

apart_from : (G : Variables) (x : ℕ) → has_name G x ≡ false → AllByRecursion (λ y. nat_eq x y ≡ false) (names_of G)
apart_from [] x h = tt
apart_from (v ∷ G) x h = go (nat_eq v.0.0 x) refl h (apart_from G x)
  where
    go : (b : Bool) → nat_eq v.0.0 x ≡ b → b || has_name G x ≡ false → (has_name G x ≡ false → AllByRecursion (λ y. nat_eq x y ≡ false) (names_of G))
        → (nat_eq x v.0.0 ≡ false) × AllByRecursion (λ y. nat_eq x y ≡ false) (names_of G)
    go true e h rest = absurd (cc)
    go false e h rest = (nat_eq_equiv.symm x v.0.0 ∙ e, rest h)

map_apart : (G : Variables) → IsMap G → IsDistinct nat_eq (names_of G)
unfolding IsDistinct
map_apart [] h = tt
map_apart (v ∷ G) h = (apart_from G v.0.0 h.0, map_apart G h.1)

names_length : (G : Variables) → length (names_of G) ≡ length G
names_length [] = refl
names_length (v ∷ G) = ap suc (names_length G)

-- an environment that is full has no room for one name more
pub no_room : (G : Variables) (x : ℕ) → IsMap G → length G ≡ VARIABLES_MAX → has_name G x ≡ false → HasRoom (names_of G ++ x ∷ []) → ⊥
unfolding IsDistinct
no_room G x unique full new room =
    let most = room (x ∷ names_of G) (apart_from G x new, map_apart G unique)
    (within_both (x ∷ []) (names_of G) (names_of G ++ x ∷ []) (within_right (names_of G) (x ∷ [])) (within_left (names_of G) (x ∷ []))) in
    let same = names_length G in
    omega (arith, most, same, full)

pub names_set : (G : Variables) (x : ℕ) (t : Ty) → Within (names_of (set G x t)) (names_of G ++ x ∷ [])
names_set [] x t = within_itself (x ∷ [])
names_set (v ∷ G) x t = go (nat_eq v.0.0 x) refl (names_set G x t)
  where
    known : nat_eq v.0.0 x ≡ true → Within (x ∷ names_of G) (v.0.0 ∷ (names_of G ++ x ∷ []))
    known e = within_both (x ∷ []) (names_of G) (v.0.0 ∷ (names_of G ++ x ∷ []))
        (λ y h. within_right (v.0.0 ∷ names_of G) (x ∷ []) y h)
        (λ y h. within_right (v.0.0 ∷ []) (names_of G ++ x ∷ []) y (within_left (names_of G) (x ∷ []) y h))

    go : (b : Bool) → nat_eq v.0.0 x ≡ b → Within (names_of (set G x t)) (names_of G ++ x ∷ [])
        → Within (names_of (if b then ((record { 0 = x }), t) ∷ G else v ∷ set G x t)) (v.0.0 ∷ (names_of G ++ x ∷ []))
    go true e rest = known e
    go false e rest = within_both (v.0.0 ∷ []) (names_of (set G x t)) (v.0.0 ∷ (names_of G ++ x ∷ []))
        (within_left (v.0.0 ∷ []) (names_of G ++ x ∷ []))
        (λ y h. within_right (v.0.0 ∷ []) (names_of G ++ x ∷ []) y (rest y h))

pub names_join : (G others : Variables) → Within (names_of (join G others)) (names_of G)
names_join [] others = within_itself []
names_join (v ∷ G) others = go (get others v.0.0) (names_join G others)
  where
    go : (o : Option Ty) → Within (names_of (join G others)) (names_of G) → Within (names_of (joined v o (join G others))) (v.0.0 ∷ names_of G)
    go None rest = λ y h. within_right (v.0.0 ∷ []) (names_of G) y (rest y h)
    go (Some t) rest = within_both (v.0.0 ∷ []) (names_of (join G others)) (v.0.0 ∷ names_of G)
        (within_left (v.0.0 ∷ []) (names_of G))
        (λ y h. within_right (v.0.0 ∷ []) (names_of G) y (rest y h))

-- a name of both is one of the second
member_of : (G : Variables) (x : ℕ) (t : Ty) → get G x ≡ Some t → is_member nat_eq (names_of G) x ≡ true
member_of [] x t h = absurd (cc)
member_of (v ∷ G) x t h = go (nat_eq v.0.0 x) refl h (member_of G x t)
  where
    go : (b : Bool) → nat_eq v.0.0 x ≡ b → (if b then Some v.1 else get G x) ≡ Some t → (get G x ≡ Some t → is_member nat_eq (names_of G) x ≡ true)
        → nat_eq x v.0.0 || is_member nat_eq (names_of G) x ≡ true
    go true e h rest = rw (nat_eq_equiv.symm x v.0.0 ∙ e) refl
    go false e h rest = rw (nat_eq_equiv.symm x v.0.0 ∙ e) (rest h)

none_in : (names : List ℕ) → Within [] names
none_in names x h = absurd (cc)

pub names_join_other : (G others : Variables) → Within (names_of (join G others)) (names_of others)
names_join_other [] others = none_in (names_of others)
names_join_other (v ∷ G) others = go (get others v.0.0) refl (names_join_other G others)
  where
    go : (o : Option Ty) → get others v.0.0 ≡ o → Within (names_of (join G others)) (names_of others) → Within (names_of (joined v o (join G others))) (names_of others)
    go None e rest = rest
    go (Some t) e rest = within_both (v.0.0 ∷ []) (names_of (join G others)) (names_of others) (only v.0.0 (names_of others) (member_of others v.0.0 t e)) rest
      where
        only : (x : ℕ) (names : List ℕ) → is_member nat_eq names x ≡ true → Within (x ∷ []) names
        only x names h y k = subst (λ z. is_member nat_eq names z ≡ true) (sym (eqb-true y x (alone y x k))) h
          where
            alone : (y x : ℕ) → nat_eq y x || false ≡ true → nat_eq y x ≡ true
            alone y x k = go2 (nat_eq y x) k
              where
                go2 : (b : Bool) → b || false ≡ true → b ≡ true
                go2 true k = refl
                go2 false k = absurd (cc)

pub within_turned : (x : ℕ) (names : List ℕ) → Within (names ++ x ∷ []) (x ∷ names)
within_turned x names = within_both names (x ∷ []) (x ∷ names) (within_right (x ∷ []) names) (within_left (x ∷ []) names)

-- what follows an assignment begins from the names with this one
pub within_set : (G : Variables) (x : ℕ) (t : Ty) → Within (names_of (set G x t) ++ []) (names_of G ++ x ∷ [])
within_set G x t y h = names_set G x t y (subst (λ names. is_member nat_eq names y ≡ true) (append-nil (names_of (set G x t))) h)

-- what is joined, or begins a branch, has names that were there or assigned
pub within_joined : (G others H : Variables) (A : List ℕ) → Within (names_of G) (names_of H ++ A) → Within (names_of (join G others)) (names_of H ++ A)
within_joined G others H A w y h = w y (names_join G others y h)

pub within_begun : (A B : List ℕ) (G H : Variables) → Within (names_of H) (names_of G ++ A) → Within (names_of H ++ B) (names_of G ++ (A ++ B))
within_begun A B G H w = within_both (names_of H) B (names_of G ++ (A ++ B))
    (λ x i. subst (λ (names : List ℕ). is_member nat_eq names x ≡ true) (append_assoc (names_of G) A B) (within_left (names_of G ++ A) B x (w x i)))
    (λ x i. within_right (names_of G) (A ++ B) x (within_right A B x i))

pub within_wider : (A B : List ℕ) (G : Variables) → Within (names_of G ++ A) (names_of G ++ (A ++ B))
within_wider A B G x i = subst (λ (names : List ℕ). is_member nat_eq names x ≡ true) (append_assoc (names_of G) A B) (within_left (names_of G ++ A) B x i)
