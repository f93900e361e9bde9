use Rattle.std.proofs.Common.{◌≡◌, ◌≤◌, ◌==◌, Option, None, false, true, if◌then◌else◌, List, length, refl, sym, ◌∙◌, ap, subst}
use Rattle.std.specs.Global.{Vec}
use Rattle.std.proofs.lemmas.Option.{MatchOption-at_none, none-some, slice_get_past, slice_get_read}
use Rattle.hb_types.specs.declared.ids.KeyId.{KeyId}
use Rattle.hb_cache.proofs.{CacheLemmas.using-dropped, cache.drop_using.Goals.in-Some, cache.drop_using.Goals.in_default}
use Rattle.hb_cache.specs.{Kept.kept_at, Held.has, Held.IsKnown}
use Rattle.hb_cache.specs.declared.kept.Kept.{Kept}
use Rattle.hb_cache.proofs.cache.drop_using.Goals as goal

pub returns : goal.returns
returns c k =
    let kept = c.args.kept.now in let users = c.args.users.now in let key = c.args.key.0 in
    let without : List (Option Kept) → Option Kept = λ l. if key == k then None else kept_at l k in
    c.forget.ensures k ∙ elim c.match-get.branch [
      | in-Some w ↦
          let list = w.in-Some.users.now in let at = w.in-Some.ensures.lookup in
          let is = slice_get_read users (length users) key list refl at.3.0 at.1 in
          let known : IsKnown users key k → has w.deref.result.now k ≡ true = λ u.
          let same : u.0 ≡ list = (let there = u.1 in cc) in
          ap (λ keys. has keys k) w.deref.ensures.value ∙ subst (λ (v : Vec KeyId). has v.items k ≡ true) same u.2 in
          ap without w.kept-is ∙ (ap (λ o. if key == k then None else o) (w.drop_users.ensures k) ∙ using-dropped kept users key k (has w.deref.result.now k) c.requires known)
      | in_default w ↦
          let past : length users ≤ key = MatchOption-at_none _ _ w.in_default.is c.get.ensures.lookup.3 in
          ap without w.kept-is ∙ using-dropped kept users key k false c.requires (λ u. absurd (none-some u.0 (sym (slice_get_past users key past) ∙ u.1)))
    ]
