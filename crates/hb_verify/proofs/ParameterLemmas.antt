-- The parameters of a body as the variables from which it is judged.
use Rattle.std.proofs.Common.{◌≡◌, ℕ, zero, suc, ◌+◌, ◌<◌, ◌≤◌, List, [], ◌∷◌, ◌++◌, map, length, take, get_or, Bool, true, false, refl, sym, ap}
use Rattle.std.proofs.Common.{◌∙◌, subst, arith, add-one, eqb-true}
use Rattle.std.specs.Prelude.{nat_eq, ◌||◌, if◌then◌else◌}
use Rattle.std.specs.List.{AllByRecursion, IsDistinct}
use Rattle.std.specs.Cmp.{nat_eq_equiv}
use Rattle.std.specs.Set.{is_member, distinct_count}
use Rattle.std.proofs.lemmas.Map.Made.{length-from_keys, length-le_from_is_member}
use Rattle.hb_types.specs.declared.env.TheConstants.{VARIABLES_MAX}
use Rattle.hb_types.specs.declared.ids.NameId.{NameId}
use Rattle.hb_types.specs.declared.types.Ty.{Ty}
use Rattle.hb_types.specs.Variables.{Variables, variable, has, set}
use Rattle.hb_types.proofs.MapLemmas.{set_new}
use Rattle.hb_deriv.specs.Judge.{parameters}
use Rattle.hb_verify.specs.Room.{names_of, Within, HasRoom}
use Rattle.hb_verify.proofs.RoomLemmas.{within_left, within_right, within_both}

-- one parameter more
params_more : (xs : List ℕ) (ts : List Ty) (i d : ℕ) (e : Ty) → i < length xs → i < length ts
    → parameters (take (i + 1) xs) ts ≡ parameters (take i xs) ts ++ variable (get_or xs i d) (get_or ts i e) ∷ []
params_more [] ts i d e h k = absurd (omega arith)
params_more (x ∷ xs) [] i d e h k = absurd (omega arith)
params_more (x ∷ xs) (t ∷ ts) zero d e h k = refl
params_more (x ∷ xs) (t ∷ ts) (suc i) d e h k =
    let rest : parameters (take (i + 1) xs) ts ≡ parameters (take i xs) ts
    ++ variable (get_or xs i d) (get_or ts i e) ∷ [] = params_more xs ts i d e (omega arith) (omega arith) in
    rw add-one (ap (λ (G : Variables). variable x t ∷ G)
    (subst (λ n. parameters (take n xs) ts ≡ parameters (take i xs) ts ++ variable (get_or xs i d) (get_or ts i e) ∷ []) (add-one i) rest))

apart_at : (x : ℕ) (xs : List ℕ) (i d : ℕ) → AllByRecursion (λ y. nat_eq x y ≡ false) xs → i < length xs → nat_eq x (get_or xs i d) ≡ false
apart_at x [] i d h k = absurd (omega arith)
apart_at x (y ∷ xs) zero d h k = h.0
apart_at x (y ∷ xs) (suc i) d h k = apart_at x xs i d h.1 (omega arith)

-- which has another name than those before
params_new : (xs : List ℕ) (ts : List Ty) (i d : ℕ) → IsDistinct nat_eq xs → i < length xs → has (parameters (take i xs) ts) (get_or xs i d) ≡ false
unfolding IsDistinct
params_new xs ts zero d apart h = refl
params_new [] ts (suc i) d apart h = absurd (omega arith)
params_new (x ∷ xs) [] (suc i) d apart h = refl
params_new (x ∷ xs) (t ∷ ts) (suc i) d apart h =
    rw (apart_at x xs i d apart.0 (omega arith)) (params_new xs ts i d apart.1 (omega arith))

params_length : (xs : List ℕ) (ts : List Ty) (i : ℕ) → length (parameters (take i xs) ts) ≤ i
params_length xs ts zero = omega arith
params_length [] ts (suc i) = omega arith
params_length (x ∷ xs) [] (suc i) = omega arith
params_length (x ∷ xs) (t ∷ ts) (suc i) = let rest = params_length xs ts i in omega (arith, rest)

-- ── names ──

pub names_params : (xs : List ℕ) (ts : List Ty) → Within (names_of (parameters xs ts)) xs
names_params [] ts = λ x h. h
names_params (x ∷ xs) [] = λ y h. absurd (not_there h)
  where
    not_there : false ≡ true → ⊥
    not_there e = cc
names_params (x ∷ xs) (t ∷ ts) =
    within_both (x ∷ []) (names_of (parameters xs ts)) (x ∷ xs) (within_left (x ∷ []) xs) (λ y h. within_right (x ∷ []) xs y (names_params xs ts y h))

-- each name once
abbrev once : List ℕ → List ℕ
once [] = []
once (x ∷ names) = if is_member nat_eq names x then once names else x ∷ once names

-- the same names
once_member : (names : List ℕ) (q : ℕ) → is_member nat_eq (once names) q ≡ is_member nat_eq names q
once_member [] q = refl
once_member (x ∷ names) q = go (is_member nat_eq names x) refl (nat_eq q x) refl (once_member names q)
  where
    go : (b : Bool) → is_member nat_eq names x ≡ b → (c : Bool) → nat_eq q x ≡ c → is_member nat_eq (once names) q ≡ is_member nat_eq names q
        → is_member nat_eq (if b then once names else x ∷ once names) q ≡ (c || is_member nat_eq names q)
    go true m true e rest = rest ∙ subst (λ z. is_member nat_eq names z ≡ true) (sym (eqb-true q x e)) m
    go true m false e rest = rest
    go false m true e rest = rw e refl
    go false m false e rest = rw e rest

absent_apart : (x : ℕ) (names : List ℕ) → is_member nat_eq names x ≡ false → AllByRecursion (λ y. nat_eq x y ≡ false) names
absent_apart x [] h = tt
absent_apart x (y ∷ names) h = go (nat_eq x y) refl h (absent_apart x names)
  where
    go : (b : Bool) → nat_eq x y ≡ b → b || is_member nat_eq names x ≡ false
        → (is_member nat_eq names x ≡ false → AllByRecursion (λ y. nat_eq x y ≡ false) names) → (nat_eq x y ≡ false) × AllByRecursion (λ y. nat_eq x y ≡ false) names
    go true e h rest = absurd (cc)
    go false e h rest = (e, rest h)

once_distinct : (names : List ℕ) → IsDistinct nat_eq (once names)
unfolding IsDistinct
once_distinct [] = tt
once_distinct (x ∷ names) = go (is_member nat_eq names x) refl (once_distinct names)
  where
    go : (b : Bool) → is_member nat_eq names x ≡ b → IsDistinct nat_eq (once names) → IsDistinct nat_eq (if b then once names else x ∷ once names)
    go true m rest = rest
    go false m rest = (absent_apart x (once names) (once_member names x ∙ m), rest)

-- different names are no more than there are different ones
room_of : (names : List ℕ) → distinct_count nat_eq names ≤ VARIABLES_MAX → HasRoom names
room_of names few some apart within =
    let same = length-from_keys nat_eq_equiv (once names) names (once_distinct names) (once_member names) in
    let most = length-le_from_is_member nat_eq_equiv some (once names) apart (λ q h. once_member names q ∙ within q h) in
    omega (arith, most, same, few)

-- a body with so few variables has room from its parameters on
pub body_room : (xs : List ℕ) (ts : List Ty) (assigned : List ℕ) → distinct_count nat_eq (xs ++ assigned) ≤ VARIABLES_MAX
    → HasRoom (names_of (parameters xs ts) ++ assigned)
body_room xs ts assigned few some apart within =
    room_of (xs ++ assigned) few some apart (λ q h. wider q (within q h))
  where
    wider : Within (names_of (parameters xs ts) ++ assigned) (xs ++ assigned)
    wider = within_both (names_of (parameters xs ts)) assigned (xs ++ assigned) (λ q h. within_left xs assigned q (names_params xs ts q h)) (within_right xs assigned)

-- ── one parameter after another ──

abbrev pub numbers : List NameId → List ℕ
numbers names = map (λ x. x.0) names

get_number : (names : List NameId) (n i : ℕ) (d : NameId) → i < n → get_or (numbers (take n names)) i d.0 ≡ (get_or names i d).0
get_number names zero i d h = absurd (omega arith)
get_number [] (suc n) i d h = refl
get_number (x ∷ names) (suc n) zero d h = refl
get_number (x ∷ names) (suc n) (suc i) d h = get_number names n i d (omega arith)

get_type : (ts : List Ty) (n i : ℕ) (e : Ty) → i < n → get_or (take n ts) i e ≡ get_or ts i e
get_type ts zero i e h = absurd (omega arith)
get_type [] (suc n) i e h = refl
get_type (t ∷ ts) (suc n) zero e h = refl
get_type (t ∷ ts) (suc n) (suc i) e h = get_type ts n i e (omega arith)

pub count_of : (names : List NameId) (n : ℕ) → n ≤ length names → length (numbers (take n names)) ≡ n
count_of names zero h = refl
count_of [] (suc n) h = absurd (omega arith)
count_of (x ∷ names) (suc n) h = ap suc (count_of names n (omega arith))

count_types : (ts : List Ty) (n : ℕ) → n ≤ length ts → length (take n ts) ≡ n
count_types ts zero h = refl
count_types [] (suc n) h = absurd (omega arith)
count_types (t ∷ ts) (suc n) h = ap suc (count_types ts n (omega arith))

-- the next parameter gets its type
pub parameter_set : (names : List NameId) (ts : List Ty) (n m i : ℕ) (d : NameId) (e : Ty) (env next : Variables)
    → n ≡ m → n ≤ length names → n ≤ length ts → IsDistinct nat_eq (numbers (take n names)) → i < n
    → env ≡ parameters (take i (numbers (take n names))) (take m ts)
    → next ≡ set env (get_or names i d).0 (get_or ts i e)
    → next ≡ parameters (take (i + 1) (numbers (take n names))) (take m ts)
parameter_set names ts n m i d e env next same many much apart h is to =
    let xs : List ℕ = numbers (take n names) in
    let us : List Ty = take m ts in
    let G : Variables = parameters (take i xs) us in
    let few = count_of names n many in
    let fits = count_types ts m (omega (arith, same, much)) in
    to ∙ ap (λ (F : Variables). set F (get_or names i d).0 (get_or ts i e)) is
    ∙ ap (λ (x : ℕ). set G x (get_or ts i e)) (sym (get_number names n i d h))
    ∙ ap (λ (t : Ty). set G (get_or xs i d.0) t) (sym (get_type ts m i e (omega (arith, same, h))))
    ∙ sym (set_new G (get_or xs i d.0) (get_or us i e) (params_new xs us i d.0 apart (omega (arith, few, h))))
    ∙ sym (params_more xs us i d.0 e (omega (arith, few, h)) (omega (arith, fits, same, h)))

-- and there is room for it
pub parameter_room : (names : List NameId) (ts : List Ty) (n m i : ℕ) (env : Variables) → n ≤ 4 → i < n
    → env ≡ parameters (take i (numbers (take n names))) (take m ts) → length env ≡ VARIABLES_MAX → ⊥
parameter_room names ts n m i env few h is full =
    let most = params_length (numbers (take n names)) (take m ts) i in
    let same = ap (λ (F : Variables). length F) is in
    omega (arith, most, same, full, few, h)

-- whether a body has as many parameters as its type
pub count_test : (names : List NameId) (n m : ℕ) → n ≤ length names → (n ≡ m → ⊥) → nat_eq (length (numbers (take n names))) m ≡ false
count_test names n m many differ = go (nat_eq (length (numbers (take n names))) m) refl
  where
    go : (b : Bool) → nat_eq (length (numbers (take n names))) m ≡ b → nat_eq (length (numbers (take n names))) m ≡ false
    go true e = absurd (differ (sym (count_of names n many) ∙ eqb-true (length (numbers (take n names))) m e))
    go false e = e

pub count_same : (names : List NameId) (n m : ℕ) → n ≤ length names → n ≡ m → nat_eq (length (numbers (take n names))) m ≡ true
count_same names n m many same = rw (count_of names n many ∙ same) (nat_eq_equiv.refl m)
