-- Where derivations are collected, some list of them is what was collected, and over one history it is one.
use Rattle.std.proofs.Common.{◌≡◌, ℕ, List, [], ◌∷◌, ◌++◌, Option, Some, inl, inr, length, map, refl, subst, sym, ap, ◌∙◌, arith, append_assoc}
use Rattle.std.proofs.lemmas.Bool.{cases_lt}
use Rattle.hb_types.specs.declared.ids.BodySite.{BodySite}
use Rattle.hb_tree.specs.Table.{Table}
use Rattle.hb_deriv.specs.declared.raw.Derivation.{Derivation}
use Rattle.hb_deriv.specs.Derivation.{Content, content_of}
use Rattle.hb_names.specs.Names.{Name}
use Rattle.hb_tables.specs.declared.entry.Act.{Act}
use Rattle.hb_tables.specs.declared.entry.Act.TheVariants.{Call}
use Rattle.hb_tables.specs.declared.entry.Entry.{Entry}
use Rattle.hb_tables.specs.declared.entry.By.TheVariants as by
use Rattle.hb_tables.specs.declared.entry.Verdict.{Verdict}
use Rattle.hb_tables.specs.declared.entry.Verdict.TheVariants as verdict
use Rattle.hb_tables.specs.Frames.{acts}
use Rattle.hb_tables.specs.History.{IsLegal}
use Rattle.hb_tables.proofs.HistoryLemmas.{legal_prefix, sound}
use Rattle.hb_tables.proofs.StandingLemmas.{held_stands}
use Rattle.hb_tables.specs.Standing.{Stand, standing}
use Rattle.hb_call.specs.declared.share.TheConstants.{COLLECTED_MAX}
use Rattle.hb_eval.specs.Gathering.{GathersCall, GathersOne, TakesOne}
use Rattle.hb_turns.specs.Collecting.{Collects}
use Rattle.hb_top.proofs.CollectedLemmas.{Derive, IsHeldOnce, contents, one_call}

abbrev pub IsMade : Option (List Derivation) → Type 0
IsMade new = (made : List Derivation) × (new ≡ Some made)

taken : (t : Table) (names : List Name) (held : List Stand) (k : ℕ) (site : BodySite) (old : List Derivation) (new : Option (List Derivation))
    → TakesOne t names held k site (Some old) new → IsMade new
taken t names held k site old new h = elim (cases_lt (length old) COLLECTED_MAX) [
  | inl few ↦ (let one = h.0 few in (old ++ one.derivation ∷ [], one.last))
  | inr all ↦ (old, h.1 all)
]

call_made : (t : Table) (names : List Name) (held : List Stand) (k : ℕ) (v : Verdict) (site : Option BodySite) (old : List Derivation) (new : Option (List Derivation))
    → GathersCall t names held k v site (Some old) new → IsMade new
call_made t names held k (verdict.Enter by.Fresh) (Some site) old new h = taken t names held k site old new h
call_made t names held k v site old new h = (old, h)

pub act_made : (t : Table) (names : List Name) (before : List Act) (a : Act) (old : List Derivation) (new : Option (List Derivation))
    → GathersOne t names before a (Some old) new → IsMade new
act_made t names before (Call key q site args v) old new h = call_made t names (standing q.0 before) key.0 v site old new h
act_made t names before a old new h = (old, h)

pub collects_made : (t : Table) (names : List Name) (before came : List Entry) (old : List Derivation) (new : Option (List Derivation))
    → Collects t names before came (Some old) new → IsMade new
collects_made t names before [] old new h = (old, h)
collects_made t names before (e ∷ es) old new h =
    let one = act_made t names (acts e.caller.0 before) e.act old h.0 h.1 in
    collects_made t names (before ++ e ∷ []) es one.0 new (subst (λ (mid : Option (List Derivation)). Collects t names (before ++ e ∷ []) es mid new) one.1 h.2)

-- ── over one history it is one ──

-- no call holds a key twice
once : (limit c : ℕ) (before came : List Entry) → IsLegal limit (before ++ came) → (q : ℕ) → IsHeldOnce (standing q (acts c before))
once limit c before came legal q k =
    let counts = held_stands c q k before in
    let few = (sound limit before (legal_prefix limit before (before ++ came) (came, refl) legal) k).once (c, q) in
    omega (arith, counts, few)

one_act : Derive → (t : Table) (names : List Name) (before : List Act) → ((q : ℕ) → IsHeldOnce (standing q before)) → (a : Act) (old past : List Derivation) (new now : Option (List Derivation))
    → map content_of old ≡ map content_of past → GathersOne t names before a (Some old) new → GathersOne t names before a (Some past) now → contents new ≡ contents now
one_act derive t names before single (Call key q site args v) old past new now same x y =
    one_call derive t names (standing q.0 before) (single q.0) key.0 v site old past new now same x y
one_act derive t names before single a old past new now same x y = ap contents x ∙ ap (λ (l : List Content). Some l) same ∙ sym (ap contents y)

pub one_collected : Derive → (t : Table) (names : List Name) (limit : ℕ) (before came : List Entry) → IsLegal limit (before ++ came) → (old past : List Derivation) (new now : Option (List Derivation))
    → map content_of old ≡ map content_of past → Collects t names before came (Some old) new → Collects t names before came (Some past) now → contents new ≡ contents now
one_collected derive t names limit before [] legal old past new now same x y = ap contents x ∙ ap (λ (l : List Content). Some l) same ∙ sym (ap contents y)
one_collected derive t names limit before (e ∷ es) legal old past new now same x y =
    let a = act_made t names (acts e.caller.0 before) e.act old x.0 x.1 in
    let b = act_made t names (acts e.caller.0 before) e.act past y.0 y.1 in
    let one = one_act derive t names (acts e.caller.0 before) (once limit e.caller.0 before (e ∷ es) legal) e.act old past x.0 y.0 same x.1 y.1 in
    let mids : Some (map content_of a.0) ≡ Some (map content_of b.0) = sym (ap contents a.1) ∙ one ∙ ap contents b.1 in
    let mid : map content_of a.0 ≡ map content_of b.0 = cc mids in
    one_collected derive t names limit (before ++ e ∷ []) es (subst (IsLegal limit) (sym (append_assoc before (e ∷ []) es)) legal) a.0 b.0 new now mid
    (subst (λ (m : Option (List Derivation)). Collects t names (before ++ e ∷ []) es m new) a.1 x.2)
    (subst (λ (m : Option (List Derivation)). Collects t names (before ++ e ∷ []) es m now) b.1 y.2)
