-- Who is known to which key.
use Rattle.std.proofs.Common.{◌≡◌, ℕ, zero, suc, ◌+◌, ◌<◌, ◌==◌, Bool, true, false, ◌||◌, List, [], ◌∷◌, ◌++◌, length, take, set, get_or, Some, Result, Ok, Err, refl, sym, ap, ◌∙◌, subst}
use Rattle.std.specs.{Prelude.slice_get, Prelude.OnOk, Prelude.OnErr, Global.Vec}
use Rattle.std.proofs.{lemmas.Bool.eqb-true, lemmas.Bool.eqb-false, lemmas.List.Folds.list_any_more, lemmas.Bool.eq-eqb, lemmas.List.Folds.list_any-append}
use Rattle.hb_types.specs.declared.ids.KeyId.{KeyId}
use Rattle.hb_cache.specs.declared.kept.Seen.{Seen}
use Rattle.hb_cache.specs.Held.{Users, has, has_seen, KeepHad, IsKnown, KeepKnown, AreKnown}
use Rattle.hb_cache.proofs.KeptLemmas.{get-set, get-set_else}

get-longer : {A : Type 0} (l more : List A) (k : ℕ) (a : A) → slice_get l k ≡ Some a → slice_get (l ++ more) k ≡ Some a
get-longer [] more k a e = absurd cc
get-longer (x ∷ l) more zero a e = e
get-longer (x ∷ l) more (suc k) a e = get-longer l more k a e

-- more lists keep what was known
pub known-longer : (users more : Users) → KeepKnown users (users ++ more)
known-longer users more used user w = (w.0, get-longer users more used w.0 w.1, w.2)

-- a list that keeps its keys keeps what was known
pub known-set : (users : Users) (at : ℕ) (list longer : Vec KeyId) → at < length users → slice_get users at ≡ Some list → KeepHad list.items longer.items → KeepKnown users (set users at longer)
known-set users at list longer inside e had used user w = by (at == used) refl
  where
    by : (b : Bool) → (at == used) ≡ b → IsKnown (set users at longer) used user
    by true here =
        let same = eqb-true at used here in
        let one : w.0 ≡ list = (let f = w.1 in let g = ap (slice_get users) same in cc) in
        (longer, ap (slice_get (set users at longer)) (sym same) ∙ get-set users at longer inside, had user (subst (λ (v : Vec KeyId). has v.items user ≡ true) one w.2))
    by false off = (w.0, get-set_else users at used longer (eqb-false at used off) ∙ w.1, w.2)

-- a user that stands in the list is known
pub known-here : (users : Users) (at : ℕ) (list : Vec KeyId) (user : ℕ) → at < length users → has list.items user ≡ true → IsKnown (set users at list) at user
known-here users at list user inside e = (list, get-set users at list inside, e)

-- one hold more is known
pub known-more : (users longer : Users) (counts : List Seen) (i user : ℕ) (d : Seen) → i < length counts → KeepKnown users longer → AreKnown users (take i counts) user → IsKnown longer (get_or counts i d).key.0 user
    → AreKnown longer (take (i + 1) counts) user
known-more users longer counts i user d inside stay known last used h = by (has_seen (take i counts) used) refl (sym (list_any_more (λ (s : Seen). s.key.0 == used) counts i d inside) ∙ h)
  where
    by : (b : Bool) → has_seen (take i counts) used ≡ b → (b || ((get_or counts i d).key.0 == used)) ≡ true → IsKnown longer used user
    by true e h = stay used user (known used e)
    by false e h = subst (λ n. IsKnown longer n user) (eqb-true (get_or counts i d).key.0 used h) last

-- what follows where a call gave `Ok`
pub on_ok : {T E A B : Type 0} (r : Result T E) → OnOk r A → (A → B) → OnOk r B
on_ok (Ok x) a f = f a
on_ok (Err e) a f = a

-- what follows in both cases
pub either_way : {T E A B P : Type 0} (r : Result T E) → OnOk r A → OnErr r B → (A → P) → (B → P) → P
either_way (Ok x) a b f g = f a
either_way (Err e) a b f g = g b
