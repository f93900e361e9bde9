-- Which keys a call holds that enters by a kept check.
use Rattle.std.proofs.Common.{◌≡◌, ◌≤◌, ◌+◌, ℕ, inl, inr, Bool, true, false, cond, eqb, List, [], ◌∷◌, ◌++◌, map, Some, refl, sym, ap, ◌∙◌, subst, append_assoc, eq-eqb, nat_eq, arith}
use Rattle.std.proofs.lemmas.Bool.{eqb-true}
use Rattle.std.proofs.lemmas.List.{append_cancel_left}
use Rattle.std.specs.Prelude.{◌⊎◌, Option, if◌then◌else◌}
use Rattle.std.specs.List.{AllByRecursion}
use Rattle.hb_types.specs.declared.ids.KeyId.{KeyId}
use Rattle.hb_types.specs.declared.ids.BodySite.{BodySite}
use Rattle.hb_cache.specs.declared.kept.Kept.{Kept}
use Rattle.hb_cache.specs.Kept.{kept_at}
use Rattle.hb_check.specs.declared.bodies.Checked.{Checked}
use Rattle.hb_check.specs.declared.bodies.Checked.TheVariants as checked
use Rattle.hb_deriv.specs.declared.raw.Used.{Used}
use Rattle.hb_cache.specs.declared.kept.Seen.{Seen}
use Rattle.hb_tree.specs.Table.{Table}
use Rattle.hb_names.specs.Names.{Name}
use Rattle.hb_tables.specs.declared.entry.Act.{Act}
use Rattle.hb_tables.specs.declared.entry.Entry.{Entry}
use Rattle.hb_tables.specs.Frames.{StaysLive, acts}
use Rattle.hb_tables.specs.History.{Adds}
use Rattle.hb_tables.specs.Standing.{Stand, count_of, standing, standing_from}
use Rattle.hb_tables.proofs.FrameLemmas.{live_parts}
use Rattle.hb_tables.proofs.FrontLemmas.{adds_act}
use Rattle.hb_tables.proofs.StandingLemmas.{standing_append}
use Rattle.hb_call.specs.Held.{Holds, stands}
use Rattle.hb_call.specs.GrowthLaws.{prefix_itself}
use Rattle.hb_call.specs.OwnCache.{AreUses, IsTrueCache}
use Rattle.hb_call.proofs.GrowthLemmas.{asked_on}
use Rattle.hb_call.proofs.OwnGoingLemmas.{asked_live}
use Rattle.hb_call.specs.Calling.{Given, Goes, IsAmong, IsAskedFor, IsCalling, Moment, has_key}
use Rattle.hb_call.specs.Comparing.{AreOfKept, AsksNoMore, MarksKept, answers_in, answers_kept}
use Rattle.hb_call.specs.declared.ruling.Ruling.{Ruling}
use Rattle.hb_call.specs.declared.ruling.Ruling.TheVariants as ruling
use Rattle.hb_call.specs.Deciding.{told}
use Rattle.hb_call.proofs.CompareLemmas.{held_key}

-- what each key of a list meets
all_keys : (P : KeyId → Type 0) (keys : List KeyId) → ((k : KeyId) → has_key keys k.0 ≡ true → P k) → AllByRecursion P keys
all_keys P [] each = tt
all_keys P (key ∷ keys) each = (
  each key (ap (λ (b : Bool). if b then true else has_key keys key.0) (eq-eqb key.0 key.0 refl)),
  all_keys P keys (λ k there. each k (later k there (nat_eq key.0 k.0))),
)
  where
    later : (k : KeyId) → has_key keys k.0 ≡ true → (b : Bool) → (if b then true else has_key keys k.0) ≡ true
    later k there true = refl
    later k there false = there

-- the keys that are held where all the uses of a kept check were compared
pub marks_kept : (g : Given) (m : Moment) (held : List KeyId) (kept : Kept) → kept_at g.cache g.key.0 ≡ Some kept → IsCalling g.t g.door g.q.0 m.known m.asked m.log g.key g.own held (answers_kept kept) → AreOfKept g.key g.cache held
marks_kept g m held kept there calling = record {
  kept = kept;
  there = there;
  each = all_keys (λ (k : KeyId). (k.0 ≡ g.key.0) ⊎ IsAmong k.0 (answers_kept kept)) held (λ k in_held. calling.only k.0 (held_key g.door.caller g.q.0 k.0 held m.log calling.holds in_held));
}

-- a check of the body is none that was kept
pub marks_told : (key : KeyId) (cache : List (Option Kept)) (held : List KeyId) (body : BodySite) (found : Checked) → MarksKept key cache held (told body found)
marks_told key cache held body (checked.Good d) = tt
marks_told key cache held body (checked.Bad ill) = tt

-- ── the names that were asked for ──

-- what each key that stands meets
stood : (P : ℕ → Type 0) (k : ℕ) (hs : List Stand) (held : List KeyId) → map (λ (h : Stand). h.key) hs ≡ map (λ (j : KeyId). j.0) held → AllByRecursion (λ (j : KeyId). P j.0) held → 1 ≤ count_of k hs → P k
stood P k [] held e all some = absurd (omega (arith, some))
stood P k (h ∷ hs) [] e all some = absurd (cc e)
stood P k (h ∷ hs) (j ∷ held) e all some = go (eqb k h.key) refl (stood P k hs held (cc e) all.1)
  where
    same : j.0 ≡ h.key
    same = cc e

    go : (b : Bool) → eqb k h.key ≡ b → (1 ≤ count_of k hs → P k) → P k
    go true is rest = subst P (same ∙ sym (eqb-true k h.key is)) all.0
    go false is rest = rest (let n : 1 ≤ cond false 1 0 + count_of k hs = subst (λ m. 1 ≤ m) (ap (λ b. cond b 1 0 + count_of k hs) is) some in omega (arith, n))

among_asked : (t : Table) (names asked : List Name) (log : List Entry) (k : ℕ) (us : List Used) (seen : List Seen) → AreUses t names asked log us seen → IsAmong k (answers_in us seen) → IsAskedFor names asked k
among_asked t names asked log k [] seen uses among = absurd among
among_asked t names asked log k (u ∷ us) [] uses among = absurd among
among_asked t names asked log k (u ∷ us) (s ∷ seen) uses (inl e) = subst (IsAskedFor names asked) (sym e) uses.0.asked_for
among_asked t names asked log k (u ∷ us) (s ∷ seen) uses (inr later) = among_asked t names asked log k us seen uses.1 later

asked_as : (g : Given) (was : Moment) (kept : Kept) → IsAskedFor was.known was.asked g.key.0 → AreUses g.t was.known was.asked was.log kept.derivation.uses.items kept.counts.items → (k : ℕ) → (k ≡ g.key.0) ⊎ IsAmong k (answers_kept kept) → IsAskedFor was.known was.asked k
asked_as g was kept key uses k (inl e) = subst (IsAskedFor was.known was.asked) (sym e) key
asked_as g was kept key uses k (inr among) = among_asked g.t was.known was.asked was.log k kept.derivation.uses.items kept.counts.items uses among

-- Where all that a call holds are its own key and those of a kept check, it asked for nothing new, if it gave nothing back.
pub asks_no_more : (g : Given) (was mid : Moment) (end : List Entry) (held : List KeyId) (a : Act) → Goes g was mid → Adds g.door.caller mid.log end a → IsTrueCache g.t was.known was.asked g.door.caller was.log g.cache → IsAskedFor was.known was.asked g.key.0
    → Holds g.door.caller g.q.0 held mid.log → AreOfKept g.key g.cache held → (made : List Act) → acts g.door.caller end ≡ acts g.door.caller was.log ++ made → StaysLive g.q.0 made → mid.asked ≡ was.asked
asks_no_more g was mid end held a goes adds own key holds of made is live =
    let c = g.door.caller in let l = goes.grew.made in
    let all : acts c was.log ++ made ≡ acts c was.log ++ (l ++ a ∷ []) = sym is ∙ adds_act c mid.log end a adds ∙ ap (λ w. w ++ a ∷ []) goes.grew.grows ∙ append_assoc (acts c was.log) l (a ∷ []) in
    let parts = live_parts g.q.0 l (a ∷ []) (subst (StaysLive g.q.0) (append_cancel_left (acts c was.log) made (l ++ a ∷ []) all) live) in
    let standing_then : standing_from g.q.0 (stands c g.q.0 was.log) l ≡ stands c g.q.0 mid.log = sym (standing_append g.q.0 [] (acts c was.log) l) ∙ ap (standing g.q.0) (sym goes.grew.grows) in
    let uses = (own.each g.key.0 of.kept of.there).uses in
    let on : (k : ℕ) → IsAskedFor was.known was.asked k → IsAskedFor mid.known was.asked k = λ k h. asked_on was.known mid.known was.asked was.asked k goes.went.named (prefix_itself was.asked) h in
    goes.grew.names mid.known (prefix_itself mid.known)
    ∙ asked_live g.q mid.known was.asked (stands c g.q.0 was.log) l goes.parts parts.0
    (λ k some. on k (asked_as g was of.kept key uses k (stood (λ (j : ℕ). (j ≡ g.key.0) ⊎ IsAmong j (answers_kept of.kept)) k (stands c g.q.0 mid.log) held holds.keys of.each (subst (λ hs. 1 ≤ count_of k hs) standing_then some))))

-- so it is behind the decision
pub asks_by : (g h : Given) → g ≡ h → (was mid : Moment) (end : List Entry) (held : List KeyId) (a : Act) → Goes g was mid → Adds h.door.caller mid.log end a → IsTrueCache g.t was.known was.asked g.door.caller was.log g.cache → IsAskedFor was.known was.asked g.key.0
    → Holds h.door.caller h.q.0 held mid.log → (r : Ruling) → MarksKept h.key h.cache held r → AsksNoMore g was (record mid { log = end }) r
asks_by g h same was mid end held a goes adds own key holds (ruling.Kept body) marks =
    asks_no_more g was mid end held a goes (subst (λ (x : Given). Adds x.door.caller mid.log end a) (sym same) adds) own key (subst (λ (x : Given). Holds x.door.caller x.q.0 held mid.log) (sym same) holds) (subst (λ (x : Given). AreOfKept x.key x.cache held) (sym same) marks)
asks_by g h same was mid end held a goes adds own key holds (ruling.Checked d) marks = tt
asks_by g h same was mid end held a goes adds own key holds (ruling.Refused site v) marks = tt
