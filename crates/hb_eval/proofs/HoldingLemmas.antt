-- What the frames of a caller hold stays so while it goes on.
use Rattle.std.proofs.Common.{◌≡◌, ◌⊎◌, inl, inr, ℕ, ◌+◌, ◌<◌, ◌≤◌, eqb, eq-eqb, Bool, true, false, cond, ◌&&◌, List, [], ◌∷◌, ◌++◌, length, sym, refl, ap, ◌∙◌, subst, arith}
use Rattle.std.specs.{Prelude.map, Prelude.Err, List.AllByRecursion}
use Rattle.std.proofs.lemmas.List.{length-map}
use mathlib.Core.List.{IsPrefix}
use mathlib.Core.Logic.{dite}
use native.Mathlib.Decide.{ℕ_discrete}
use Rattle.hb_types.specs.declared.{ids.KeyId.KeyId, ids.CallNo.CallNo}
use Rattle.hb_names.specs.Names.{Name}
use Rattle.hb_tables.specs.declared.{entry.By.By, entry.Entry.Entry}
use Rattle.hb_tree.proofs.Lists.{each_append}
use Rattle.hb_tables.specs.History.{spot, same_call, times, without, of_caller}
use Rattle.hb_tables.specs.Frames.{acts}
use Rattle.hb_tables.specs.Standing.{Stand, standing, count_of}
use Rattle.hb_tables.proofs.CallLemmas.{length_without, own_without, times_own, times_without}
use Rattle.hb_tables.proofs.AddingLemmas.{none_without}
use Rattle.hb_tables.proofs.StandingLemmas.{held_stands}
use Rattle.hb_call.specs.declared.{frame.Frame.Frame, frame.CallFail.CallFail}
use Rattle.hb_call.specs.declared.frame.CallFail.TheVariants as fail
use Rattle.hb_call.specs.declared.frame.Entered.TheVariants as entered
use Rattle.hb_call.specs.Entering.{Asks, Enters, IsFramed}
use Rattle.hb_call.specs.Held.{HasCall, Holds, HasRoom, stands}
use Rattle.hb_call.specs.GrowthLaws.{has_call_on}
use Rattle.hb_eval.specs.declared.framed.Framed.{Framed}
use Rattle.hb_eval.specs.Holding.{IsLive, numbers, Rise, IsNone, Holding, frames_of}

-- Each call but this one has the same Holds.
abbrev pub OthersStay : (c n : ℕ) → (old new : List Entry) → Type 0
OthersStay c n old new = (p : ℕ) → (p ≡ n → ⊥) → stands c p new ≡ stands c p old

-- numbers that rise

rise_reaches : (first : ℕ) (qs : List ℕ) (next : ℕ) → Rise first qs next → first ≤ next
rise_reaches first [] next r = r
rise_reaches first (q ∷ qs) next r = let a = r.0 in let b = rise_reaches (q + 1) qs next r.1 in omega (arith, a, b)

-- the next is none of them
rise_none : (first : ℕ) (qs : List ℕ) (next : ℕ) → Rise first qs next → IsNone next qs
rise_none first [] next r = tt
rise_none first (q ∷ qs) next r = let b = rise_reaches (q + 1) qs next r.1 in ((λ e. absurd (omega (arith, e, b))), rise_none (q + 1) qs next r.1)

rise_more : (first : ℕ) (qs : List ℕ) (next more : ℕ) → next ≤ more → Rise first qs next → Rise first qs more
rise_more first [] next more le r = omega (arith, le, r)
rise_more first (q ∷ qs) next more le r = (r.0, rise_more (q + 1) qs next more le r.1)

rise_push : (first : ℕ) (qs : List ℕ) (next : ℕ) → Rise first qs next → Rise first (qs ++ next ∷ []) (next + 1)
rise_push first [] next r = (r, omega arith)
rise_push first (q ∷ qs) next r = (r.0, rise_push (q + 1) qs next r.1)

rise_pop : (first : ℕ) (qs : List ℕ) (q next : ℕ) → Rise first (qs ++ q ∷ []) next → Rise first qs q
rise_pop first [] q next r = r.0
rise_pop first (x ∷ qs) q next r = (r.0, rise_pop (x + 1) qs q next r.1)

rise_last : (first : ℕ) (qs : List ℕ) (q next : ℕ) → Rise first (qs ++ q ∷ []) next → q + 1 ≤ next
rise_last first [] q next r = r.1
rise_last first (x ∷ qs) q next r = rise_last (x + 1) qs q next r.1

numbers_push : (frames : List Frame) (f : Frame) → numbers (frames ++ f ∷ []) ≡ numbers frames ++ f.q.0 ∷ []
numbers_push [] f = refl
numbers_push (g ∷ frames) f = ap (λ qs. g.q.0 ∷ qs) (numbers_push frames f)

-- each element of the front of a list
each_front : {X : Type 0} (P : X → Type 0) (xs ys : List X) → AllByRecursion P (xs ++ ys) → AllByRecursion P xs
each_front P [] ys all = tt
each_front P (x ∷ xs) ys all = (all.0, each_front P xs ys all.1)

each_last : {X : Type 0} (P : X → Type 0) (xs : List X) (y : X) → AllByRecursion P (xs ++ y ∷ []) → P y
each_last P [] y all = all.0
each_last P (x ∷ xs) y all = each_last P xs y all.1

-- frames that stay live

holds_same : (c q : ℕ) (held : List KeyId) (old new : List Entry) → stands c q new ≡ stands c q old → Holds c q held old → Holds c q held new
holds_same c q held old new e h = record {
  keys = ap (map (λ (s : Stand). s.key)) e ∙ h.keys;
  once = λ k. subst (λ l. count_of k l ≤ 1) (sym e) (h.once k);
  below = h.below;
}

live_on : (c : ℕ) (old new : List Entry) (f : Frame) → IsPrefix old new → stands c f.q.0 new ≡ stands c f.q.0 old → IsLive c old f → IsLive c new f
live_on c old new f p e l = record { holds = holds_same c f.q.0 f.held.items old new e l.holds; called = has_call_on c f.q.0 old new l.called p }

all_live : (c n : ℕ) (old new : List Entry) (frames : List Frame) → IsPrefix old new → OthersStay c n old new → IsNone n (numbers frames) → AllByRecursion (IsLive c old) frames → AllByRecursion (IsLive c new) frames
all_live c n old new [] p others out all = tt
all_live c n old new (f ∷ frames) p others out all = (live_on c old new f p (others f.q.0 (λ e. out.0 (sym e))) all.0, all_live c n old new frames p others out.1 all.1)

pub holding_unused : (c next : ℕ) (frames : List Frame) (front : List Entry) → Holding c next frames front → stands c next front ≡ []
holding_unused c next frames front h = h.none next (rise_none 0 (numbers frames) next h.rising)

-- A call that came to no frame holds nothing. Its number may be given again, as where memory was wanting.
pub holding_undone : (c next : ℕ) (frames : List Frame) (old new : List Entry) → Holding c next frames old → stands c next new ≡ [] → OthersStay c next old new → IsPrefix old new → Holding c next frames new
holding_undone c next frames old new h none others p = record {
  live = all_live c next old new frames p others (rise_none 0 (numbers frames) next h.rising) h.live;
  rising = h.rising;
  none = λ q out. dite (ℕ_discrete q next) (λ is. subst (λ n. stands c n new ≡ []) (sym is) none) (λ ne. others q ne ∙ h.none q out);
}

-- Or the next call has the next number.
pub holding_refused : (c next : ℕ) (frames : List Frame) (old new : List Entry) → Holding c next frames old → stands c next new ≡ [] → OthersStay c next old new → IsPrefix old new → Holding c (next + 1) frames new
holding_refused c next frames old new h none others p =
    let same = holding_undone c next frames old new h none others p in
    record { live = same.live; rising = rise_more 0 (numbers frames) next (next + 1) (omega arith) same.rising; none = same.none }

-- A call that entered holds its frame's keys.
pub holding_entered : (c next : ℕ) (frames : List Frame) (f : Frame) (old new : List Entry) → Holding c next frames old → f.q.0 ≡ next → Holds c f.q.0 f.held.items new → HasCall c f.q.0 new
    → OthersStay c next old new → IsPrefix old new → Holding c (next + 1) (frames ++ f ∷ []) new
holding_entered c next frames f old new h is holds called others p = record {
  live = each_append (IsLive c new) frames (f ∷ []) (all_live c next old new frames p others (rise_none 0 (numbers frames) next h.rising) h.live) (record { holds = holds; called = called }, tt);
  rising = subst (λ qs. Rise 0 qs (next + 1)) (ap (λ n. numbers frames ++ n ∷ []) (sym is) ∙ sym (numbers_push frames f)) (rise_push 0 (numbers frames) next h.rising);
  none = λ q out.
      let all : IsNone q (numbers frames ++ f.q.0 ∷ []) = subst (IsNone q) (numbers_push frames f) out in
      others q (λ e. each_last (λ n. q ≡ n → ⊥) (numbers frames) f.q.0 all (e ∙ sym is)) ∙ h.none q (each_front (λ n. q ≡ n → ⊥) (numbers frames) (f.q.0 ∷ []) all);
}

-- The same of a frame as `enter` gives it.
pub holding_framed : (c : ℕ) (q : CallNo) (frames : List Frame) (f : Frame) (way : By) (old new : List Entry) → Holding c q.0 frames old → IsFramed c q new (entered.Frame f way)
    → OthersStay c q.0 old new → IsPrefix old new → Holding c (q.0 + 1) (frames ++ f ∷ []) new
holding_framed c q frames f way old new h (is, holds, called) others p =
    holding_entered c q.0 frames f old new h (ap (λ (n : CallNo). n.0) is)
    (subst (λ (n : CallNo). Holds c n.0 f.held.items new) (sym is) holds)
    (subst (λ (n : CallNo). HasCall c n.0 new) (sym is) called) others p

-- A call that was not decided holds nothing.
pub failed_none : (a : Asks) (names : List Name) (old new : List Entry) (cause : CallFail) → Enters a names old new (Err cause) → stands a.door.caller a.q.0 old ≡ [] → stands a.door.caller a.q.0 new ≡ []
failed_none a names old new fail.NoMemory none unused = none
failed_none a names old new fail.Full (inl once) unused = ap (stands a.door.caller a.q.0) once.same ∙ unused
failed_none a names old new fail.Full (inr later) unused = later.none

-- The frame on top is live.
pub holding_last : (c next : ℕ) (frames : List Frame) (f : Frame) (front : List Entry) → Holding c next (frames ++ f ∷ []) front → IsLive c front f
holding_last c next frames f front h = each_last (IsLive c front) frames f h.live

-- Once the frame on top has left, its call holds nothing.
pub holding_left : (c next : ℕ) (frames : List Frame) (f : Frame) (old new : List Entry) → Holding c next (frames ++ f ∷ []) old → stands c f.q.0 new ≡ [] → OthersStay c f.q.0 old new
    → IsPrefix old new → Holding c next frames new
holding_left c next frames f old new h none others p =
    let rise : Rise 0 (numbers frames ++ f.q.0 ∷ []) next = subst (λ qs. Rise 0 qs next) (numbers_push frames f) h.rising in
    let below : Rise 0 (numbers frames) f.q.0 = rise_pop 0 (numbers frames) f.q.0 next rise in
    let last : f.q.0 + 1 ≤ next = rise_last 0 (numbers frames) f.q.0 next rise in
    record {
      live = all_live c f.q.0 old new frames p others (rise_none 0 (numbers frames) f.q.0 below) (each_front (IsLive c old) frames (f ∷ []) h.live);
      rising = rise_more 0 (numbers frames) f.q.0 next (omega (arith, last)) below;
      none = λ q out. dite (ℕ_discrete q f.q.0) (λ is. subst (λ n. stands c n new ≡ []) (sym is) none)
          (λ ne. others q ne ∙ h.none q (subst (IsNone q) (sym (numbers_push frames f)) (each_append (λ n. q ≡ n → ⊥) (numbers frames) (f.q.0 ∷ []) out (ne, tt))));
    }

-- What no call has a part in leaves all as it is.
pub holding_apart : (c next : ℕ) (frames : List Frame) (old new : List Entry) → Holding c next frames old → ((q : ℕ) → stands c q new ≡ stands c q old) → IsPrefix old new → Holding c next frames new
holding_apart c next frames old new h same p = record {
  live = all_live c next old new frames p (λ q _. same q) (rise_none 0 (numbers frames) next h.rising) h.live;
  rising = h.rising;
  none = λ q out. same q ∙ h.none q out;
}

-- What others do leaves it.
pub holding_waits : (c next : ℕ) (frames : List Frame) (old new : List Entry) → Holding c next frames old → acts c new ≡ acts c old → IsPrefix old new → Holding c next frames new
holding_waits c next frames old new h same p = holding_apart c next frames old new h (λ q. ap (standing q) same) p

-- Where no call holds anything there are no frames.
pub holding_empty : (c first : ℕ) (front : List Entry) → ((q : ℕ) → stands c q front ≡ []) → Holding c first [] front
holding_empty c first front none = record { live = tt; rising = omega arith; none = λ q _. none q }

pub holding_end : (c next : ℕ) (front : List Entry) → Holding c next [] front → (q : ℕ) → stands c q front ≡ []
holding_end c next front h q = h.none q tt

-- room

none_own : (c : ℕ) (ys : List (ℕ × ℕ)) → ((q : ℕ) → times (c, q) ys ≡ 0) → length (of_caller c ys) ≤ 0
none_own c [] none = omega arith
none_own c (y ∷ ys) none = go (eqb c y.0) refl (none_own c ys (λ q. let n = none q in omega (arith, n)))
  where
    go : (b : Bool) → eqb c y.0 ≡ b → length (of_caller c ys) ≤ 0 → length (cond b (y ∷ of_caller c ys) (of_caller c ys)) ≤ 0
    go true e r =
        let one : same_call (c, y.1) y ≡ true = ap (λ b. b && eqb y.1 y.1) e ∙ eq-eqb y.1 y.1 refl in
        let z : 1 + times (c, y.1) ys ≡ 0 = ap (λ b. cond b 1 0 + times (c, y.1) ys) (sym one) ∙ none y.1 in
        absurd (omega (arith, z))
    go false e r = r

no_calls : (ys : List (ℕ × ℕ)) → length ys ≤ 0 → ys ≡ []
no_calls [] le = refl
no_calls (y ∷ ys) le = absurd (omega arith)

-- Where no Hold of the caller stands, none of its calls holds a key.
pub nothing_held : (c : ℕ) (front : List Entry) → ((q : ℕ) → stands c q front ≡ []) → (k : ℕ) → of_caller c (spot k front).calls ≡ []
nothing_held c front none k = no_calls (of_caller c (spot k front).calls) (none_own c (spot k front).calls (λ q. held_stands c q k front ∙ ap (count_of k) (none q)))

-- a caller's calls that are there at most once, and are all among these numbers, are no more than these
few_own : (c : ℕ) (qs : List ℕ) (ys : List (ℕ × ℕ)) → ((q : ℕ) → times (c, q) ys ≤ 1) → ((q : ℕ) → IsNone q qs → times (c, q) ys ≡ 0) → length (of_caller c ys) ≤ length qs
few_own c [] ys once none = none_own c ys (λ q. none q tt)
few_own c (q ∷ qs) ys once none =
    let r = few_own c qs (without (c, q) ys)
    (λ p. let a = times_without (c, p) (c, q) ys in let b = once p in omega (arith, a, b))
    (λ p out. dite (ℕ_discrete p q)
    (λ is. subst (λ n. times (c, n) (without (c, q) ys) ≡ 0) (sym is) (none_without (c, q) ys))
    (λ ne. let a = times_without (c, p) (c, q) ys in let z = none p (ne, out) in omega (arith, a, z))) in
    let e = ap length (own_without c q ys) in let n = length_without (c, q) (of_caller c ys) in let o = once q in let t = times_own c q ys in
    omega (arith, r, e, n, o, t)

once_or_none : (c : ℕ) (front : List Entry) (frames : List Frame) → AllByRecursion (IsLive c front) frames → (q : ℕ) → ((k : ℕ) → count_of k (stands c q front) ≤ 1) ⊎ IsNone q (numbers frames)
once_or_none c front [] all q = inr tt
once_or_none c front (f ∷ frames) all q = dite (ℕ_discrete q f.q.0)
    (λ is. inl (λ k. subst (λ n. count_of k (stands c n front) ≤ 1) (sym is) (all.0.holds.once k)))
    (λ ne. more ne (once_or_none c front frames all.1 q))
  where
    more : (q ≡ f.q.0 → ⊥) → ((k : ℕ) → count_of k (stands c q front) ≤ 1) ⊎ IsNone q (numbers frames) → ((k : ℕ) → count_of k (stands c q front) ≤ 1) ⊎ IsNone q (numbers (f ∷ frames))
    more ne (inl once) = inl once
    more ne (inr out) = inr (ne, out)

holding_once : (c next : ℕ) (frames : List Frame) (front : List Entry) → Holding c next frames front → (q k : ℕ) → times (c, q) (spot k front).calls ≤ 1
holding_once c next frames front h q k = go (once_or_none c front frames h.live q)
  where
    go : ((k : ℕ) → count_of k (stands c q front) ≤ 1) ⊎ IsNone q (numbers frames) → times (c, q) (spot k front).calls ≤ 1
    go (inl once) = let a = held_stands c q k front in let b = once k in omega (arith, a, b)
    go (inr out) = let a = held_stands c q k front ∙ ap (count_of k) (h.none q out) in omega (arith, a)

-- There is room for one more call where fewer frames are live than may be.
pub holding_room : (c next : ℕ) (frames : List Frame) (front : List Entry) → Holding c next frames front → length frames < 4096 → HasRoom front c next
holding_room c next frames front h few k =
    let n : length (numbers frames) ≡ length frames = length-map frames (λ (f : Frame). f.q.0) in
    let r = few_own c (numbers frames) (spot k front).calls (λ q. holding_once c next frames front h q k) (λ q out. held_stands c q k front ∙ ap (count_of k) (h.none q out)) in
    omega (arith, r, n, few)

-- what a machine keeps of its frames

pub frames_push : (framed : List Framed) (f : Framed) → frames_of (framed ++ f ∷ []) ≡ frames_of framed ++ f.frame ∷ []
frames_push [] f = refl
frames_push (g ∷ framed) f = ap (λ fs. g.frame ∷ fs) (frames_push framed f)

-- The last of them is on top.
pub holding_top : (c next : ℕ) (all rest : List Framed) (f : Framed) (front : List Entry) → all ≡ rest ++ f ∷ [] → Holding c next (frames_of all) front → Holding c next (frames_of rest ++ f.frame ∷ []) front
holding_top c next all rest f front is h = subst (λ fs. Holding c next fs front) (ap frames_of is ∙ frames_push rest f) h

pub holding_pushed : (c next : ℕ) (framed : List Framed) (f : Framed) (front : List Entry) → Holding c next (frames_of framed ++ f.frame ∷ []) front → Holding c next (frames_of (framed ++ f ∷ [])) front
holding_pushed c next framed f front h = subst (λ fs. Holding c next fs front) (sym (frames_push framed f)) h
