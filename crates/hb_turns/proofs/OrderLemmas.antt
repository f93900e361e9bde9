-- The turns are by the order.
use Rattle.std.proofs.Common.{◌≡◌, ◌≢◌, ◌⊎◌, inl, inr, ℕ, zero, suc, ◌+◌, ◌-◌, ◌<◌, ◌≤◌, List, [], ◌∷◌, ◌++◌, length, map, Some, true, false, Bool, refl, sym, ap, ◌∙◌, subst, arith, append_assoc, cond, eqb, eq-eqb}
use Rattle.std.specs.Prelude.{slice_get, slice_set, replicate, ◌==◌, if◌then◌else◌}
use Rattle.std.proofs.lemmas.Bool.Decides.{eqb_tells}
use Rattle.std.proofs.lemmas.List.{append-nil, map-append}
use Rattle.hb_types.specs.declared.ids.NodeId.{NodeId}
use Rattle.hb_types.specs.declared.ids.NameId.{NameId}
use Rattle.hb_run.specs.History.{callers_from}
use Rattle.hb_turns.specs.declared.player.Player.{Player}
use Rattle.hb_turns.specs.Playing.{Taken, and_idle, turns_by}
use Rattle.hb_turns.specs.Players.{AreOver, IsInOrder, IsLeft, MayBeLeft, less, turn_order, turns_left}
use Rattle.hb_turns.proofs.PlayerLemmas.{set_itself, turns_more}

-- ── the order goes by how many turns there are, however that is said ──

left_same : (l m : ℕ → ℕ) → ((d : ℕ) → l d ≡ m d) → (cs : List ℕ) → turns_left l cs ≡ turns_left m cs
left_same l m same [] = refl
left_same l m same (c ∷ cs) = ap (λ (n : ℕ). replicate n c ++ turns_left l cs) (same c) ∙ ap (λ (x : List ℕ). replicate (m c) c ++ x) (left_same l m same cs)

less_same : (c : ℕ) (l m : ℕ → ℕ) → ((d : ℕ) → l d ≡ m d) → (d : ℕ) → less c l d ≡ less c m d
less_same c l m same d = ap (λ (n : ℕ). if d == c then n - 1 else n) (same d)

order_same : (l m : ℕ → ℕ) → ((d : ℕ) → l d ≡ m d) → (order cs : List ℕ) → turn_order order l cs ≡ turn_order order m cs
order_same l m same [] cs = left_same l m same cs
order_same l m same (c ∷ order) cs =
    ap (λ (n : ℕ). if n == 0 then turn_order order l cs else c ∷ turn_order order (less c l) cs) (same c)
    ∙ ap (λ (x : List ℕ). if m c == 0 then x else c ∷ turn_order order (less c l) cs) (order_same l m same order cs)
    ∙ ap (λ (x : List ℕ). if m c == 0 then turn_order order m cs else c ∷ x) (order_same (less c l) (less c m) (less_same c l m same) order cs)

-- one turn more for a caller
abbrev with_turn : ℕ → (ℕ → ℕ) → ℕ → ℕ
with_turn c left d = cond (eqb d c) 1 0 + left d

with_mine : (c : ℕ) (left : ℕ → ℕ) → with_turn c left c ≡ 1 + left c
with_mine c left = (let is = eq-eqb c c refl in rw is refl)

with_other : (c d : ℕ) (left : ℕ → ℕ) → d ≢ c → with_turn c left d ≡ left d
with_other c d left apart = elim (eqb_tells d c) [
  | inl same ↦ absurd (apart same.1)
  | inr other ↦ (let is = other.0 in rw is (omega arith))
]

less_with : (c : ℕ) (left : ℕ → ℕ) (d : ℕ) → less c (with_turn c left) d ≡ left d
less_with c left d = go (eqb d c)
  where
    go : (same : Bool) → (if same then (cond same 1 0 + left d) - 1 else (cond same 1 0 + left d)) ≡ left d
    go true = omega arith
    go false = omega arith

order_next : (c : ℕ) (left : ℕ → ℕ) (order cs : List ℕ) → turn_order (c ∷ order) (with_turn c left) cs ≡ c ∷ turn_order order left cs
order_next c left order cs = go (eqb (with_turn c left c) 0) (eqb_tells (with_turn c left c) 0) ∙ ap (λ (x : List ℕ). c ∷ x) (order_same (less c (with_turn c left)) left (less_with c left) order cs)
  where
    go : (none : Bool) → ((none ≡ true) × (with_turn c left c ≡ 0)) ⊎ ((none ≡ false) × (with_turn c left c ≢ 0))
        → (if none then turn_order order (with_turn c left) cs else c ∷ turn_order order (less c (with_turn c left)) cs) ≡ c ∷ turn_order order (less c (with_turn c left)) cs
    go true (inl is) = absurd (let one = with_mine c left in let zero_is = is.1 in omega (arith, one, zero_is))
    go true (inr is) = absurd cc
    go false h = refl

order_past : (c : ℕ) (left : ℕ → ℕ) (order cs : List ℕ) → left c ≡ 0 → turn_order (c ∷ order) left cs ≡ turn_order order left cs
order_past c left order cs none = (let is = eq-eqb (left c) 0 none in rw is refl)

-- ── how many turns may be left ──

may_more : (c d : ℕ) (ps : List Player) (left : ℕ → ℕ) → d < c → MayBeLeft c ps left → MayBeLeft c ps (with_turn d left)
may_more c d [] left below may = λ e from. with_other d e left (λ is. omega (arith, is, below, from)) ∙ may e from
may_more c d (p ∷ ps) left below may =
    (subst (IsLeft p.over) (sym (with_other d c left (λ is. omega (arith, is, below)))) may.0, may_more (suc c) d ps left (omega (arith, below)) may.1)

-- behind a turn of the player at a place so many may be left: one more before it
may_before : (c at : ℕ) (ps : List Player) (p q : Player) (left : ℕ → ℕ) → slice_get ps at ≡ Some p → p.over ≡ false → MayBeLeft c (slice_set ps at q) left → MayBeLeft c ps (with_turn (c + at) left)
may_before c at [] p q left there goes may = absurd cc
may_before c zero (x ∷ ps) p q left there goes may =
    let same : x ≡ p = cc in let here : c ≡ c + 0 = omega arith in
    let one : 0 < with_turn (c + 0) left c = subst (λ (d : ℕ). 0 < with_turn d left c) here (let w = with_mine c left in omega (arith, w)) in (
      subst (λ (o : Bool). IsLeft o (with_turn (c + 0) left c)) (sym goes ∙ sym (ap (λ (y : Player). y.over) same)) one,
      may_more (suc c) (c + 0) ps left (omega arith) may.1,
    )
may_before c (suc at) (x ∷ ps) p q left there goes may =
    let on : suc c + at ≡ c + suc at = omega arith in (
      subst (IsLeft x.over) (sym (with_other (c + suc at) c left (λ is. omega (arith, is)))) may.0,
      subst (λ (d : ℕ). MayBeLeft (suc c) ps (with_turn d left)) on (may_before (suc c) at ps p q left there goes may.1),
    )

none_past : (c d : ℕ) (ps : List Player) (left : ℕ → ℕ) → MayBeLeft c ps left → c + length ps ≤ d → left d ≡ 0
none_past c d [] left may past = may d (omega (arith, past))
none_past c d (p ∷ ps) left may past = none_past (suc c) d ps left may.1 (omega (arith, past))

none_over : (c at : ℕ) (ps : List Player) (p : Player) (left : ℕ → ℕ) → MayBeLeft c ps left → slice_get ps at ≡ Some p → p.over ≡ true → left (c + at) ≡ 0
none_over c at [] p left may there over = absurd cc
none_over c zero (x ∷ ps) p left may there over =
    let same : x ≡ p = cc in let here : c ≡ c + 0 = omega arith in
    subst (λ (d : ℕ). left d ≡ 0) here (subst (λ (o : Bool). IsLeft o (left c)) (ap (λ (y : Player). y.over) same ∙ over) may.0)
none_over c (suc at) (x ∷ ps) p left may there over =
    let on : suc c + at ≡ c + suc at = omega arith in
    subst (λ (d : ℕ). left d ≡ 0) on (none_over (suc c) at ps p left may.1 there over)

-- ── the steps ──

-- how many turns there are in all is the same before a turn and behind it
all_turns : (us : List Taken) (u : Taken) (left : ℕ → ℕ) (order cs : List ℕ) → turn_order order (λ d. turns_by d (us ++ u ∷ []) + left d) cs ≡ turn_order order (λ d. turns_by d us + with_turn u.caller left d) cs
all_turns us u left order cs = order_same (λ d. turns_by d (us ++ u ∷ []) + left d) (λ d. turns_by d us + with_turn u.caller left d) (λ d. let m = turns_more d us u in omega (arith, m)) order cs

pub order_takes : (order rest cs : List ℕ) (us : List Taken) (u : Taken) (at : ℕ) (ps : List Player) (p q : Player) → u.caller ≡ 1 + at → slice_get ps at ≡ Some p → p.over ≡ false
    → IsInOrder order (u.caller ∷ rest) cs us ps → IsInOrder order rest cs (us ++ u ∷ []) (slice_set ps at q)
order_takes order rest cs us u at ps p q mine there goes before = λ left zero_is may.
    let l = with_turn u.caller left in
    let may' : MayBeLeft 1 ps l = subst (λ (d : ℕ). MayBeLeft 1 ps (with_turn d left)) (sym mine) (may_before 1 at ps p q left there goes may) in
    let zero' : l 0 ≡ 0 = with_other u.caller 0 left (λ is. omega (arith, is, mine)) ∙ zero_is in
    all_turns us u left order cs ∙ before l zero' may' ∙ ap (λ (x : List ℕ). map (λ (w : Taken). w.caller) us ++ x) (order_next u.caller left rest cs)
    ∙ sym (append_assoc (map (λ (w : Taken). w.caller) us) (u.caller ∷ []) (turn_order rest left cs))
    ∙ ap (λ (x : List ℕ). x ++ turn_order rest left cs) (sym (map-append (λ (w : Taken). w.caller) us (u ∷ [])))

pub order_passes : (order rest cs : List ℕ) (us : List Taken) (c : ℕ) (ps : List Player) → ((left : ℕ → ℕ) → left 0 ≡ 0 → MayBeLeft 1 ps left → left c ≡ 0)
    → IsInOrder order (c ∷ rest) cs us ps → IsInOrder order rest cs us ps
order_passes order rest cs us c ps none before = λ left zero_is may.
    before left zero_is may ∙ ap (λ (x : List ℕ). map (λ (w : Taken). w.caller) us ++ x) (order_past c left rest cs (none left zero_is may))

pub passes_unknown : (c : ℕ) (ps : List Player) → (c ≡ 0) ⊎ (length ps < c) → (left : ℕ → ℕ) → left 0 ≡ 0 → MayBeLeft 1 ps left → left c ≡ 0
passes_unknown c ps (inl none) left zero_is may = ap left none ∙ zero_is
passes_unknown c ps (inr past) left zero_is may = none_past 1 c ps left may (omega (arith, past))

pub passes_over : (c at : ℕ) (ps : List Player) (p : Player) → c ≡ 1 + at → slice_get ps at ≡ Some p → p.over ≡ true → (left : ℕ → ℕ) → left 0 ≡ 0 → MayBeLeft 1 ps left → left c ≡ 0
passes_over c at ps p is there over left zero_is may = ap left is ∙ none_over 1 at ps p left may there over

-- where the players before it are over, the turns that are left begin with this one's
left_next : (c at : ℕ) (ss : List (NameId × NodeId)) (ps : List Player) (left : ℕ → ℕ) → length ss ≡ length ps → at < length ps → AreOver at ps → MayBeLeft c ps (with_turn (c + at) left)
    → turns_left (with_turn (c + at) left) (callers_from c ss) ≡ (c + at) ∷ turns_left left (callers_from c ss)
left_next c at [] [] left many below over may = absurd (omega (arith, below))
left_next c at [] (p ∷ ps) left many below over may = absurd (omega (arith, many))
left_next c at (s ∷ ss) [] left many below over may = absurd (omega (arith, below))
left_next c zero (s ∷ ss) (p ∷ ps) left many below over may =
    let here : c ≡ c + 0 = omega arith in
    subst (λ (d : ℕ). turns_left (with_turn d left) (callers_from c (s ∷ ss)) ≡ d ∷ turns_left left (callers_from c (s ∷ ss))) here
    (ap (λ (n : ℕ). replicate n c ++ turns_left (with_turn c left) (callers_from (suc c) ss)) (with_mine c left ∙ one)
    ∙ ap (λ (x : List ℕ). replicate (suc (left c)) c ++ x) (others (suc c) ss (omega arith)))
  where
    one : 1 + left c ≡ suc (left c)
    one = omega arith

    others : (d : ℕ) (ts : List (NameId × NodeId)) → c < d → turns_left (with_turn c left) (callers_from d ts) ≡ turns_left left (callers_from d ts)
    others d [] above = refl
    others d (x ∷ ts) above =
        ap (λ (n : ℕ). replicate n d ++ turns_left (with_turn c left) (callers_from (suc d) ts)) (with_other c d left (λ is. omega (arith, is, above)))
        ∙ ap (λ (l : List ℕ). replicate (left d) d ++ l) (others (suc d) ts (omega (arith, above)))
left_next c (suc at) (s ∷ ss) (p ∷ ps) left many below over may =
    let on : suc c + at ≡ c + suc at = omega arith in
    let none : with_turn (c + suc at) left c ≡ 0 = subst (λ (o : Bool). IsLeft o (with_turn (c + suc at) left c)) (over 0 p (omega arith) refl) may.0 in
    let none' : left c ≡ 0 = sym (with_other (c + suc at) c left (λ is. omega (arith, is))) ∙ none in
    ap (λ (n : ℕ). replicate n c ++ turns_left (with_turn (c + suc at) left) (callers_from (suc c) ss)) none
    ∙ subst (λ (d : ℕ). turns_left (with_turn d left) (callers_from (suc c) ss) ≡ d ∷ turns_left left (callers_from (suc c) ss)) on
    (left_next (suc c) at ss ps left (omega (arith, many)) (omega (arith, below)) (λ i x low is. over (suc i) x (omega (arith, low)) is) (subst (λ (d : ℕ). MayBeLeft (suc c) ps (with_turn d left)) (sym on) may.1))
    ∙ ap (λ (n : ℕ). (c + suc at) ∷ (replicate n c ++ turns_left left (callers_from (suc c) ss))) (sym none')

pub order_rests : (order : List ℕ) (ss : List (NameId × NodeId)) (us : List Taken) (u : Taken) (at : ℕ) (ps : List Player) (p q : Player) → u.caller ≡ 1 + at → slice_get ps at ≡ Some p → p.over ≡ false
    → length ss ≡ length ps → at < length ps → AreOver at ps
    → IsInOrder order [] (callers_from 1 ss) us ps → IsInOrder order [] (callers_from 1 ss) (us ++ u ∷ []) (slice_set ps at q)
order_rests order ss us u at ps p q mine there goes many below over before = λ left zero_is may.
    let l = with_turn u.caller left in
    let may' : MayBeLeft 1 ps l = subst (λ (d : ℕ). MayBeLeft 1 ps (with_turn d left)) (sym mine) (may_before 1 at ps p q left there goes may) in
    let zero' : l 0 ≡ 0 = with_other u.caller 0 left (λ is. omega (arith, is, mine)) ∙ zero_is in
    let next : turns_left l (callers_from 1 ss) ≡ u.caller ∷ turns_left left (callers_from 1 ss) =
    subst (λ (d : ℕ). turns_left (with_turn d left) (callers_from 1 ss) ≡ d ∷ turns_left left (callers_from 1 ss)) (sym mine)
    (left_next 1 at ss ps left many below over (may_before 1 at ps p q left there goes may)) in
    all_turns us u left order (callers_from 1 ss) ∙ before l zero' may' ∙ ap (λ (x : List ℕ). map (λ (w : Taken). w.caller) us ++ x) next
    ∙ sym (append_assoc (map (λ (w : Taken). w.caller) us) (u.caller ∷ []) (turns_left left (callers_from 1 ss)))
    ∙ ap (λ (x : List ℕ). x ++ turns_left left (callers_from 1 ss)) (sym (map-append (λ (w : Taken). w.caller) us (u ∷ [])))

-- idle turns come to those that are taken, where nothing is left of the order
pub order_idle : (order : List ℕ) (ss : List (NameId × NodeId)) (us : List Taken) (c idle at : ℕ) (ps : List Player) (p : Player) → c ≡ 1 + at → slice_get ps at ≡ Some p → p.over ≡ false
    → length ss ≡ length ps → at < length ps → AreOver at ps
    → IsInOrder order [] (callers_from 1 ss) us ps → IsInOrder order [] (callers_from 1 ss) (and_idle c idle us) ps
order_idle order ss us c zero at ps p mine there goes many below over before = before
order_idle order ss us c (suc idle) at ps p mine there goes many below over before =
    let u : Taken = record { caller = c; begun = turns_by c us + 1; acts = [] } in
    order_idle order ss (us ++ u ∷ []) c idle at ps p mine there goes many below over
    (subst (λ (l : List Player). IsInOrder order [] (callers_from 1 ss) (us ++ u ∷ []) l) (sym (set_itself at ps p there))
    (order_rests order ss us u at ps p p mine there goes many below over before))

-- where all are over none is left
pub order_ends : (order : List ℕ) (ss : List (NameId × NodeId)) (us : List Taken) (ps : List Player) → AreOver (length ps) ps
    → IsInOrder order [] (callers_from 1 ss) us ps → map (λ (u : Taken). u.caller) us ≡ turn_order order (λ c. turns_by c us) (callers_from 1 ss)
order_ends order ss us ps over in_order =
    sym (sym (order_same (λ c. turns_by c us + 0) (λ c. turns_by c us) (λ d. omega arith) order (callers_from 1 ss))
    ∙ in_order (λ c. 0) refl (no_more 1 ps over)
    ∙ ap (λ (x : List ℕ). map (λ (u : Taken). u.caller) us ++ x) (none (callers_from 1 ss))
    ∙ append-nil (map (λ (u : Taken). u.caller) us))
  where
    none : (cs : List ℕ) → turns_left (λ c. 0) cs ≡ []
    none [] = refl
    none (c ∷ cs) = none cs

    no_more : (c : ℕ) (xs : List Player) → AreOver (length xs) xs → MayBeLeft c xs (λ d. 0)
    no_more c [] h = λ d from. refl
    no_more c (x ∷ xs) h = (subst (λ (o : Bool). IsLeft o 0) (sym (h 0 x (omega arith) refl)) refl, no_more (suc c) xs (λ i y low is. h (suc i) y (omega (arith, low)) is))
