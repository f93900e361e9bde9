-- Whether a caller's own check agrees, by what the holds of a comparison found.
use Rattle.std.proofs.Common.{◌≡◌, ℕ, zero, suc, List, [], ◌∷◌, ◌++◌, map, take, drop, Some, None, sym, ap, ◌∙◌, subst, eq-eqb}
use Rattle.std.proofs.lemmas.Option.{none-some, same_Some}
use Rattle.std.specs.Prelude.{Option, slice_get, if◌then◌else◌}
use Rattle.std.specs.List.{AllByRecursion}
use Rattle.hb_types.specs.declared.ids.BodySite.{BodySite}
use Rattle.hb_tree.specs.Table.{Table}
use Rattle.hb_deriv.specs.declared.raw.Used.{Used}
use Rattle.hb_cache.specs.declared.kept.Kept.{Kept}
use Rattle.hb_cache.specs.declared.kept.Seen.{Seen}
use Rattle.hb_cache.specs.Kept.{kept_at, of_body}
use Rattle.hb_names.specs.Names.{Name}
use Rattle.hb_tables.specs.declared.desk.Held.{Held}
use Rattle.hb_tables.specs.declared.entry.Entry.{Entry}
use Rattle.hb_tables.specs.declared.entry.Act.{Act}
use Rattle.hb_tables.specs.declared.entry.Verdict.TheVariants as verdict
use Rattle.hb_tables.specs.declared.entry.By.TheVariants as by
use Rattle.hb_tables.specs.History.{spot}
use Rattle.hb_call.specs.declared.answers.Answer.{Answer}
use Rattle.hb_call.specs.Calling.{AreTrue, Given, HasType}
use Rattle.hb_call.specs.Comparing.{answers_differing, answers_in, answers_kept}
use Rattle.hb_call.specs.Deciding.{IsRightly}
use Rattle.hb_call.specs.Own.{OwnAgrees}
use Rattle.hb_call.specs.OwnCache.{AreUses, IsOwnCache}
use Rattle.hb_call.specs.OwnLaws.{agrees_hits, hit_agrees, own_differs}

module _ (t : Table) (names asked : List Name) (c : ℕ) (past : List Act) (k : ℕ) (log : List Entry) (cache : List (Option Kept)) (own : IsOwnCache t names asked c (Some past) log cache) (x : ℕ × ℕ) where
  counts_true : (us : List Used) (seen : List Seen) → AreUses t names asked log us seen → AreTrue t names log x (answers_in us seen) → AllByRecursion (λ s. (spot s.key.0 log).changes ≡ s.changes) seen
  counts_true [] [] u a = tt
  counts_true [] (s ∷ seen) u a = absurd u
  counts_true (v ∷ us) [] u a = absurd u
  counts_true (v ∷ us) (s ∷ seen) u a = (sym a.1.2, counts_true us seen u.1 a.2)

  -- where the holds of its uses found their counts, an own check agrees
  pub kept_agrees : (kept : Kept) (held : Held) → kept_at cache k ≡ Some kept → kept.key.0 ≡ k → Some kept.derivation.body ≡ (spot k log).body → HasType log x k held → kept.changes ≡ held.changes → AreTrue t names log x (answers_kept kept) → OwnAgrees c past k log
  kept_agrees kept held there keyed body type count a = hit_agrees t names asked c past k log cache own (record {
    kept = kept;
    there = there;
    body = sym body;
    own = ap (λ j. (spot j log).changes) keyed ∙ sym type.2 ∙ sym count;
    counts = counts_true kept.derivation.uses.items kept.counts.items (own.each k kept there).uses a;
  })

  -- where no check of this body is kept, no own check agrees
  pub unfound_differs : (body : BodySite) → of_body body.0 (kept_at cache k) ≡ None → Some body ≡ (spot k log).body → OwnAgrees c past k log → ⊥
  unfound_differs body none is a =
      let h = agrees_hits t names asked c past k log cache own a in
      let same : h.kept.derivation.body ≡ body = same_Some h.kept.derivation.body body (sym (is ∙ h.body)) in
      let found : of_body body.0 (kept_at cache k) ≡ Some h.kept = ap (of_body body.0) h.there ∙ ap (λ b. if b then Some h.kept else None) (eq-eqb h.kept.derivation.body.0 body.0 (ap (λ (s : BodySite). s.0) same)) in
      none-some h.kept (sym none ∙ found)

  -- where the own key's hold found another count, no own check agrees
  pub other_differs : (kept : Kept) (held : Held) → kept_at cache k ≡ Some kept → kept.key.0 ≡ k → HasType log x k held → (kept.changes ≡ held.changes → ⊥) → OwnAgrees c past k log → ⊥
  other_differs kept held there keyed type other = own_differs t names asked c past k log cache own kept there (λ e. other (sym e ∙ ap (λ j. (spot j log).changes) keyed ∙ sym type.2))

  last_true : (held : Held) (us : List Used) (seen : List Seen) (n : ℕ) (s : Seen) → AreUses t names asked log us seen → slice_get seen n ≡ Some s → AreTrue t names log x (take n (answers_in us seen) ++ map (λ (y : Answer). record y { held = held }) (take 1 (drop n (answers_in us seen))))
      → held.changes ≡ (spot s.key.0 log).changes
  last_true held [] [] n s u e a = absurd (none-some s e)
  last_true held [] (z ∷ seen) n s u e a = absurd u
  last_true held (v ∷ us) [] n s u e a = absurd u
  last_true held (v ∷ us) (z ∷ seen) zero s u e a = a.1.2 ∙ ap (λ (y : Seen). (spot y.key.0 log).changes) (same_Some z s e)
  last_true held (v ∷ us) (z ∷ seen) (suc n) s u e a = last_true held us seen n s u.1 e a.2

  count_at : (seen : List Seen) (n : ℕ) (s : Seen) → AllByRecursion (λ s. (spot s.key.0 log).changes ≡ s.changes) seen → slice_get seen n ≡ Some s → (spot s.key.0 log).changes ≡ s.changes
  count_at [] n s all e = absurd (none-some s e)
  count_at (z ∷ seen) zero s all e = subst (λ (y : Seen). (spot y.key.0 log).changes ≡ y.changes) (same_Some z s e) all.0
  count_at (z ∷ seen) (suc n) s all e = count_at seen n s all.1 e

  -- where the hold of a use found another count, no own check agrees
  pub last_differs : (kept : Kept) (last : ℕ) (held : Held) (s : Seen) → kept_at cache k ≡ Some kept → slice_get kept.counts.items last ≡ Some s → (held.changes ≡ s.changes → ⊥) → AreTrue t names log x (answers_differing kept last held) → OwnAgrees c past k log → ⊥
  last_differs kept last held s there at other a agrees =
      let h = agrees_hits t names asked c past k log cache own agrees in
      let now = last_true held kept.derivation.uses.items kept.counts.items last s (own.each k kept there).uses at a in
      let all = subst (λ (y : Kept). AllByRecursion (λ s. (spot s.key.0 log).changes ≡ s.changes) y.counts.items) (same_Some h.kept kept (sym h.there ∙ there)) h.counts in
      other (now ∙ count_at kept.counts.items last s all at)

-- ── the way of the verdict ──

module _ (g : Given) where
  -- a call whose comparison found all as it was enters by its caller's own check
  pub agreed_rightly : (kept : Kept) → kept_at g.cache g.key.0 ≡ Some kept → kept.key.0 ≡ g.key.0 → kept.changes ≡ g.own.changes → IsRightly g (Some kept.derivation.body) (answers_kept kept) (verdict.Enter by.Own)
  agreed_rightly kept there keyed count names asked past log own body type a = kept_agrees g.t names asked g.door.caller past g.key.0 log g.cache own (g.door.caller, g.q.0) kept g.own there keyed body type count a

  -- and by a fresh one where nothing of this body is kept
  pub unfound_rightly : (body : BodySite) → of_body body.0 (kept_at g.cache g.key.0) ≡ None → IsRightly g (Some body) [] (verdict.Enter by.Fresh)
  unfound_rightly body none names asked past log own is type a = unfound_differs g.t names asked g.door.caller past g.key.0 log g.cache own (g.door.caller, g.q.0) body none is

  -- where the type of its own key was changed
  pub other_rightly : (kept : Kept) (site : Option BodySite) → kept_at g.cache g.key.0 ≡ Some kept → kept.key.0 ≡ g.key.0 → (kept.changes ≡ g.own.changes → ⊥) → IsRightly g site [] (verdict.Enter by.Fresh)
  other_rightly kept site there keyed other names asked past log own is type a = other_differs g.t names asked g.door.caller past g.key.0 log g.cache own (g.door.caller, g.q.0) kept g.own there keyed type other

  -- or that of a use
  pub last_rightly : (kept : Kept) (site : Option BodySite) (last : ℕ) (held : Held) (s : Seen) → kept_at g.cache g.key.0 ≡ Some kept → slice_get kept.counts.items last ≡ Some s → (held.changes ≡ s.changes → ⊥) → IsRightly g site (answers_differing kept last held) (verdict.Enter by.Fresh)
  last_rightly kept site last held s there at other names asked past log own is type a = last_differs g.t names asked g.door.caller past g.key.0 log g.cache own (g.door.caller, g.q.0) kept last held s there at other a
