-- What is kept, and given away, of a check that a call made.
use Rattle.std.proofs.Common.{◌≡◌, ◌⊎◌, inl, inr, Bool, ◌<◌, List, [], ◌∷◌, length, Some, None, Ok, Err, sym, ap, ◌∙◌, subst, eq-eqb, arith}
use mathlib.Core.List.{IsPrefix}
use Rattle.std.specs.Prelude.{Option, Result, IfOk, OnOk, if◌then◌else◌}
use Rattle.hb_types.specs.declared.ids.BodySite.{BodySite}
use Rattle.hb_types.specs.declared.ids.KeyId.{KeyId}
use Rattle.hb_deriv.specs.declared.raw.Derivation.{Derivation}
use Rattle.hb_deriv.specs.Derivation.{IsCopy}
use Rattle.hb_call.specs.declared.share.TheConstants.{COLLECTED_MAX}
use Rattle.hb_cache.specs.declared.kept.Kept.{Kept}
use Rattle.hb_cache.specs.Kept.{kept_at}
use Rattle.hb_names.specs.Names.{Name}
use Rattle.hb_tables.specs.declared.entry.Entry.{Entry}
use Rattle.hb_tables.specs.declared.entry.Act.{Act}
use Rattle.hb_tables.specs.declared.entry.Act.TheVariants.{Call}
use Rattle.hb_tables.specs.declared.entry.Verdict.TheVariants as verdict
use Rattle.hb_tables.specs.declared.entry.By.TheVariants as by
use Rattle.hb_tables.specs.History.{entry}
use Rattle.hb_call.specs.declared.answers.Answer.{Answer}
use Rattle.hb_call.specs.Calling.{Given}
use Rattle.hb_call.specs.Deciding.{IsResting}
use Rattle.hb_call.specs.Held.{stands}
use Rattle.hb_call.specs.Keeping.{IsPut, Shares}
use Rattle.hb_call.specs.Entering.{IsOwnAtEnd}
use Rattle.hb_call.specs.declared.frame.Frame.{Frame}
use Rattle.hb_call.specs.declared.ruling.Ended.TheVariants as ended
use Rattle.hb_tables.specs.declared.desk.Held.{Held}
use Rattle.hb_call.specs.GrowthLaws.{prefix_itself, prefix_more}
use Rattle.hb_call.specs.OwnCache.{IsOwnCache, IsTrueCache}
use Rattle.hb_call.specs.OwnLaws.{true_on}
use Rattle.hb_call.specs.Sharing.{CollectsFew, CollectsOne, IsCopyFor, TakesCopy}
use Rattle.hb_call.proofs.OwnRestingLemmas.{resting_found, resting_own}

module _ (g : Given) (past : Option (List Act)) (known asked : List Name) (new : List Entry) (held : List KeyId) (answers : List Answer) (d : Derivation) (r : IsResting g past known asked new held answers d) (left : List (Option Kept)) (p : IsPut g.key g.own answers d g.cache left) where
  -- what is kept then is true, and the machine's own
  pub put_own : IsOwnCache g.t known asked g.door.caller past new left
  put_own = resting_own g past known asked new held answers d r p.kept p.key_is p.changes p.counts p.derivation left p.put

  put_there : kept_at left g.key.0 ≡ Some p.kept
  put_there = p.put g.key.0 ∙ ap (λ (b : Bool). if b then Some p.kept else kept_at g.cache g.key.0) (eq-eqb p.kept.key.0 g.key.0 (ap (λ (k : KeyId). k.0) p.key_is))

  -- and what was collected has it too, where there was room
  pub put_shares : (old next : Option (List Derivation)) → Shares d old next → CollectsFew g.t known (stands g.door.caller g.q.0 new) left g.key.0 d.body old next
  put_shares None next h = h
  put_shares (Some old) next h = (few, h.1)
    where
      few : length old < COLLECTED_MAX → CollectsOne g.t known (stands g.door.caller g.q.0 new) left g.key.0 d.body old next
      few low =
          let c = h.0 low in
          let same : IsCopy p.kept.derivation c.0 = subst (λ (z : Derivation). IsCopy z c.0) (sym p.derivation) c.1 in
          let f = resting_found g past known asked new held answers d r p.kept p.key_is p.changes p.counts p.derivation c.0 same in
          record { kept = p.kept; at = put_there; key = ap (λ (k : KeyId). k.0) p.key_is; body = ap (λ (z : Derivation). z.body) p.derivation; copy = c.0; same = same; last = c.2; declared = f.0; uses = f.1 }

-- what holds in any case holds of what went well
pub when_ok : {T E A : Type 0} (r : Result T E) → A → OnOk r A
when_ok (Ok x) a = a
when_ok (Err e) a = tt

pub ok_then : {T E A B : Type 0} (r : Result T E) → IfOk r (λ x. A) → (A → B) → OnOk r B
ok_then (Ok x) a f = f a
ok_then (Err e) a f = tt

-- a copy that was made where there was room, and taken, is what is given away
pub shares_copy : (d : Derivation) (old new : Option (List Derivation)) (copy : Option Derivation) → IsCopyFor old d copy → TakesCopy old copy new → Shares d old new
shares_copy d None new copy h i = i
shares_copy d (Some old) new None h i = ((λ low. absurd (omega (arith, low, h))), λ full. i)
shares_copy d (Some old) new (Some copy) h i = ((λ low. (copy, h.1, i)), λ full. absurd (let low = h.0 in omega (arith, low, full)))

-- behind a call that ended what is kept is true, and its machine's own
pub kept_own : (g : Given) (past : Option (List Act)) (known asked : List Name) (log : List Entry) (answers : List Answer) (own : Held) (old new : List (Option Kept)) (f : Frame) (d : Derivation) → g.own ≡ own → g.cache ≡ old → IsOwnAtEnd g past known asked log answers (Ok (ended.Fresh f d)) → IsPut f.key own answers d old new → IsOwnCache g.t known asked g.door.caller past log new
kept_own g past known asked log answers own old new f d same cache h p =
    put_own g past known asked log f.held.items answers d h.3 new
    (subst (λ (k : KeyId). IsPut k g.own answers d g.cache new) h.1 (subst (λ (o : Held). IsPut f.key o answers d g.cache new) (sym same) (subst (λ (c : List (Option Kept)). IsPut f.key own answers d c new) (sym cache) p)))

pub kept_shares : (g : Given) (past : Option (List Act)) (known asked : List Name) (log : List Entry) (answers : List Answer) (own : Held) (old new : List (Option Kept)) (f : Frame) (d : Derivation) (had has : Option (List Derivation)) → g.own ≡ own → g.cache ≡ old → IsOwnAtEnd g past known asked log answers (Ok (ended.Fresh f d)) → IsPut f.key own answers d old new → Shares d had has → CollectsFew g.t known (stands g.door.caller g.q.0 log) new f.key.0 f.body had has
kept_shares g past known asked log answers own old new f d had has same cache h p shares =
    subst (λ (b : BodySite). CollectsFew g.t known (stands g.door.caller g.q.0 log) new f.key.0 b had has) (sym h.2)
    (subst (λ (k : KeyId). CollectsFew g.t known (stands g.door.caller g.q.0 log) new k.0 d.body had has) (sym h.1)
    (put_shares g past known asked log f.held.items answers d h.3 new
    (subst (λ (k : KeyId). IsPut k g.own answers d g.cache new) h.1 (subst (λ (o : Held). IsPut f.key o answers d g.cache new) (sym same) (subst (λ (c : List (Option Kept)). IsPut f.key own answers d c new) (sym cache) p))) had has shares))

-- what is kept of a check that was given back again is true, whether it was put there or not
pub kept_true : (g : Given) (known asked : List Name) (log end : List Entry) (answers : List Answer) (own : Held) (old new : List (Option Kept)) (f : Frame) (d : Derivation) → g.own ≡ own → g.cache ≡ old → IsPrefix log end → IsOwnAtEnd g None known asked log answers (Ok (ended.Fresh f d))
    → (new ≡ old) ⊎ IsPut f.key own answers d old new → IsTrueCache g.t known asked g.door.caller end new
kept_true g known asked log end answers own old new f d same cache goes h (inl left) =
    let r = h.3 in
    let behind : IsPrefix r.before log = (entry g.door.caller (Call g.key g.q (Some d.body) g.args (verdict.Enter by.Fresh)) ∷ [], sym r.is) in
    true_on g.t known known asked asked g.door.caller r.before end new (prefix_itself known) (prefix_itself asked) (prefix_more r.before log end behind goes)
    (subst (λ (c : List (Option Kept)). IsTrueCache g.t known asked g.door.caller r.before c) (cache ∙ sym left) r.kept)
kept_true g known asked log end answers own old new f d same cache goes h (inr p) =
    true_on g.t known known asked asked g.door.caller log end new (prefix_itself known) (prefix_itself asked) goes (kept_own g None known asked log answers own old new f d same cache h p)
