-- What a caller holds of the key behind what it does there.
use Rattle.std.proofs.Common.{◌≡◌, ℕ, ◌<◌, Option, Result, Ok, Err, List, [], ◌∷◌, ◌++◌, length, refl, sym, ap, ◌∙◌, subst, arith, eq-eqb}
use Rattle.std.proofs.lemmas.List.{append-nil}
use Rattle.hb_types.specs.declared.{ids.CallNo.CallNo, ids.KeyId.KeyId, ids.TypeSite.TypeSite, ids.BodySite.BodySite}
use Rattle.hb_tables.specs.declared.{entry.Entry.Entry, entry.Act.Act, entry.ArgKinds.ArgKinds, entry.Verdict.Verdict}
use Rattle.hb_tables.specs.declared.{entry.TheConstants.HOLDS_MAX, desk.TypeAnswer.TypeAnswer, desk.DefAnswer.DefAnswer, desk.Look.Look}
use Rattle.hb_tables.specs.declared.entry.Act.TheVariants.{Hold, Free, Retype, Busy, WornType, Define, WornDef, Call}
use Rattle.hb_tables.specs.declared.desk.TypeAnswer.TheVariants as typed
use Rattle.hb_tables.specs.declared.desk.DefAnswer.TheVariants as defined
use Rattle.hb_tables.specs.History.{Spot, spot, times, without, of_caller, done, key_of, journal, entry, Adds, Learns}
use Rattle.hb_tables.specs.Answers.{TypeAdds, DefAdds, Decides}
use Rattle.hb_tables.proofs.CallLemmas.{times_own, own_without}
use Rattle.hb_tables.proofs.HistoryLemmas.{journal_append, own_calls, spot_more, turn_here}
use Rattle.hb_words.specs.declared.view.View.{View}
use Rattle.hb_words.specs.Words.{Looks, forked}
use Rattle.hb_trials_words.specs.Calls.{calls_of}

-- entries of others leave what the caller holds
pub learns_own : (c : ℕ) (old new : List Entry) → Learns c old new → calls_of c new ≡ calls_of c old
learns_own c old new l = own_calls 0 c new old (ap (journal c) l.1 ∙ journal_append c old l.0 ∙ ap (λ w. journal c old ++ w) l.2 ∙ append-nil (journal c old))

-- an entry of the caller makes of what it holds what its act does
adds_own : (c : ℕ) (old new : List Entry) (act : Act) → 0 ≡ key_of act → Adds c old new act → calls_of c new ≡ of_caller c (done c (spot 0 old) act).calls
adds_own c old new act here adds =
    let e : Entry = entry c act in
    own_calls 0 c new (old ++ e ∷ []) (ap (journal c) adds.1 ∙ (journal_append c (old ++ adds.0) (e ∷ [])
    ∙ (ap (λ w. w ++ journal c (e ∷ [])) (journal_append c old adds.0 ∙ (ap (λ w. journal c old ++ w) adds.2 ∙ append-nil (journal c old))) ∙ sym (journal_append c old (e ∷ [])))))
    ∙ ap (λ (s : Spot). of_caller c s.calls) (spot_more 0 old e ∙ turn_here 0 (spot 0 old) e here)

pub holds_own : (c : ℕ) (old new : List Entry) (ty : Option TypeSite) (n : ℕ) → Adds c old new (Hold (record { 0 = 0 }) (record { 0 = 1 }) ty n) → calls_of c old ≡ [] → calls_of c new ≡ (c, 1) ∷ []
holds_own c old new ty n adds none = adds_own c old new (Hold (record { 0 = 0 }) (record { 0 = 1 }) ty n) refl adds ∙ (let e = eq-eqb c c refl in rw e (ap (λ zs. (c, 1) ∷ zs) none))

pub frees_own : (c : ℕ) (old new : List Entry) → Adds c old new (Free (record { 0 = 0 }) (record { 0 = 1 })) → calls_of c old ≡ (c, 1) ∷ [] → calls_of c new ≡ []
frees_own c old new adds one = adds_own c old new (Free (record { 0 = 0 }) (record { 0 = 1 })) refl adds ∙ own_without c 1 (spot 0 old).calls ∙ ap (without (c, 1)) one ∙
    (let e = eq-eqb c c refl in rw e refl)

pub types_own : (c : ℕ) (old new : List Entry) (site : TypeSite) (a : TypeAnswer) → TypeAdds c old new (record { 0 = 0 }) site a → calls_of c new ≡ calls_of c old
types_own c old new site typed.Done adds = adds_own c old new (Retype (record { 0 = 0 }) site) refl adds
types_own c old new site (typed.Busy pins) adds = adds_own c old new (Busy (record { 0 = 0 }) pins) refl adds
types_own c old new site typed.Worn adds = adds_own c old new (WornType (record { 0 = 0 })) refl adds

pub defs_own : (c : ℕ) (old new : List Entry) (site : BodySite) (a : DefAnswer) → DefAdds c old new (record { 0 = 0 }) site a → calls_of c new ≡ calls_of c old
defs_own c old new site defined.Done adds = adds_own c old new (Define (record { 0 = 0 }) site) refl adds
defs_own c old new site defined.Worn adds = adds_own c old new (WornDef (record { 0 = 0 })) refl adds

pub decides_own : (c : ℕ) (old new : List Entry) (q : CallNo) (owner : KeyId) (look : Look) (args : ArgKinds) (v : Verdict) (r : Result (Unit {0}) Look)
    → Decides c old new q (record { 0 = 0 }) owner look args v r → calls_of c new ≡ calls_of c old
decides_own c old new q owner look args v (Ok _) d = adds_own c old new (Call (record { 0 = 0 }) q look.site args v) refl (d.0, d.1, d.2)
decides_own c old new q owner look args v (Err newer) d = learns_own c old new d.0

-- who holds nothing holds the key by no call, and has room for one more
pub idle_free : (c q : ℕ) (ys : List (ℕ × ℕ)) → of_caller c ys ≡ [] → times (c, q) ys ≡ 0
idle_free c q ys none = sym (times_own c q ys) ∙ ap (times (c, q)) none

pub idle_few : (c : ℕ) (ys : List (ℕ × ℕ)) → of_caller c ys ≡ [] → length (of_caller c ys) < HOLDS_MAX
idle_few c ys none = subst (λ (zs : List (ℕ × ℕ)). length zs < HOLDS_MAX) (sym none) (omega arith)

-- who holds the key by one call alone holds it by that one
pub alone_held : (c : ℕ) (ys : List (ℕ × ℕ)) → of_caller c ys ≡ (c, 1) ∷ [] → times (c, 1) ys ≡ 1
alone_held c ys one = sym (times_own c 1 ys) ∙ ap (times (c, 1)) one ∙ (let e = eq-eqb c c refl in rw e refl)

-- a caller that has no entry holds nothing
pub newcomer_idle : (c : ℕ) (log : List Entry) → journal c log ≡ [] → calls_of c log ≡ []
newcomer_idle c log none = own_calls 0 c log [] none

-- nor does caller 0 behind a fork, where it had seen nothing
pub forked_idle : (u v w : View) → Looks u v → w ≡ forked v → u.seen ≡ [] → calls_of w.caller w.seen ≡ []
forked_idle u v w looks is none = ap (λ (z : View). calls_of z.caller z.seen) is ∙ ap (λ (z : View). calls_of z.caller v.seen) looks.2 ∙ learns_own u.caller u.seen v.seen looks.0
    ∙ ap (calls_of u.caller) none
