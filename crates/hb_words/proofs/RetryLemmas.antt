-- What a caller sees after a further try.
use Rattle.std.proofs.Common.{◌≡◌, ◌≢◌, ℕ, ◌<◌, ◌≤◌, List, [], ◌∷◌, ◌++◌, length, sym, ap, ◌∙◌, subst, arith, append_assoc}
use mathlib.Core.Logic.{dite}
use native.Mathlib.Decide.{ℕ_discrete}
use Rattle.hb_types.specs.declared.{ids.KeyId.KeyId, ids.TypeSite.TypeSite, ids.BodySite.BodySite}
use Rattle.hb_tables.specs.declared.{entry.Act.Act, entry.Entry.Entry, entry.TheConstants.VERSIONS_MAX, desk.TypeAnswer.TypeAnswer, desk.DefAnswer.DefAnswer}
use Rattle.hb_tables.specs.declared.desk.TypeAnswer.TheVariants as typed
use Rattle.hb_tables.specs.declared.desk.DefAnswer.TheVariants as defined
use Rattle.hb_tables.specs.History.{Spot, Sound, spot, journal, entry, ty_code, body_code, IsLegal}
use Rattle.hb_tables.proofs.HistoryLemmas.{journal_append, legal_prefix, sound, changes_same, redefs_grow, redefs_same}
use Rattle.hb_words.specs.declared.{view.View.View}
use Rattle.hb_words.specs.Layout.{type_word, def_word, changes_in, redefs_in}
use Rattle.hb_words.specs.Words.{seeing, Extends, Looks}
use Rattle.hb_words.specs.Tries.{TypeTells, DefTells}
use Rattle.hb_words.proofs.ChangeLemmas.{changes_grow}
use Rattle.hb_words.proofs.WordLemmas.{sound_changes, sound_redefs}

-- entries of others, and then entries of others
both_others : (c : ℕ) (xs ys : List Entry) → journal c xs ≡ [] → journal c ys ≡ [] → journal c (xs ++ ys) ≡ []
both_others c xs ys a b = journal_append c xs ys ∙ ap (λ w. w ++ journal c ys) a ∙ b

pub looks_looks : (u v w : View) → Looks u v → Looks v w → Looks u w
looks_looks u v w p q =
    let same_caller : v.caller ≡ u.caller = ap (λ (z : View). z.caller) p.2 in
    let same_limit : v.limit ≡ u.limit = ap (λ (z : View). z.limit) p.2 in
    let a = p.0 in let b = q.0 in (
      (a.0 ++ b.0, b.1 ∙ (ap (λ z. z ++ b.0) a.1 ∙ append_assoc u.seen a.0 b.0), both_others u.caller a.0 b.0 a.2 (subst (λ z. journal z b.0 ≡ []) same_caller b.2)),
      subst (λ z. IsLegal z w.seen) same_limit q.1,
      q.2 ∙ ap (λ (z : View). seeing z w.seen) p.2,
    )

pub looks_extends : (u v w : View) (act : Act) → Looks u v → Extends v act w → Extends u act w
looks_extends u v w act p q =
    let same_caller : v.caller ≡ u.caller = ap (λ (z : View). z.caller) p.2 in
    let same_limit : v.limit ≡ u.limit = ap (λ (z : View). z.limit) p.2 in
    let a = p.0 in let b = q.0 in (
      (
        a.0 ++ b.0,
        b.1 ∙ ap (λ z. z ++ entry v.caller act ∷ []) (ap (λ z. z ++ b.0) a.1 ∙ append_assoc u.seen a.0 b.0) ∙ ap (λ z. (u.seen ++ (a.0 ++ b.0)) ++ entry z act ∷ []) same_caller,
        both_others u.caller a.0 b.0 a.2 (subst (λ z. journal z b.0 ≡ []) same_caller b.2),
      ),
      subst (λ z. IsLegal z w.seen) same_limit q.1,
      q.2 ∙ ap (λ (z : View). seeing z w.seen) p.2,
    )

pub looks_type : (u v w : View) (key : KeyId) (site : TypeSite) (a : TypeAnswer) → Looks u v → TypeTells v key site w a → TypeTells u key site w a
looks_type u v w key site typed.Done p q = looks_extends u v w _ p q
looks_type u v w key site (typed.Busy pins) p q = looks_extends u v w _ p q
looks_type u v w key site typed.Worn p q = looks_extends u v w _ p q

pub looks_def : (u v w : View) (key : KeyId) (site : BodySite) (a : DefAnswer) → Looks u v → DefTells v key site w a → DefTells u key site w a
looks_def u v w key site defined.Done p q = looks_extends u v w _ p q
looks_def u v w key site defined.Worn p q = looks_extends u v w _ p q

-- another word with no pins has a greater count
pub later_type : (k : ℕ) (u v : View) (m n : ℕ) → u.limit ≤ VERSIONS_MAX → Looks u v → m ≡ type_word (spot k u.seen) → length (spot k u.seen).calls ≡ 0 → n ≡ type_word (spot k v.seen)
    → length (spot k v.seen).calls ≡ 0 → n ≢ m → changes_in m < changes_in n
later_type k u v m n low p before none after none' other =
    let a = p.0 in
    let old : Spot = spot k u.seen in let new : Spot = spot k v.seen in
    let sold : Sound u.limit old = sound u.limit u.seen (legal_prefix u.limit u.seen v.seen (a.0, sym a.1) p.1) k in
    let snew : Sound u.limit new = sound u.limit v.seen p.1 k in
    let c : changes_in m ≡ old.changes = ap changes_in before ∙ sound_changes u.limit old sold low (omega arith) in
    let d : changes_in n ≡ new.changes = ap changes_in after ∙ sound_changes u.limit new snew low (omega arith) in
    let grow : old.changes ≤ new.changes = subst (λ z. old.changes ≤ (spot k z).changes) (sym a.1) (changes_grow k u.seen a.0) in
    let stays : new.changes ≡ old.changes → new.ty ≡ old.ty = subst (λ z. (spot k z).changes ≡ old.changes → (spot k z).ty ≡ old.ty) (sym a.1) (changes_same k u.seen a.0) in
    dite (ℕ_discrete new.changes old.changes) (λ is. absurd (other (let t = ap ty_code (stays is) in omega arith))) (λ ne. omega arith)

-- another word has a greater count
pub later_def : (k : ℕ) (u v : View) (m n : ℕ) → u.limit ≤ VERSIONS_MAX → Looks u v → m ≡ def_word (spot k u.seen) → n ≡ def_word (spot k v.seen) → n ≢ m → redefs_in m < redefs_in n
later_def k u v m n low p before after other =
    let a = p.0 in
    let old : Spot = spot k u.seen in let new : Spot = spot k v.seen in
    let sold : Sound u.limit old = sound u.limit u.seen (legal_prefix u.limit u.seen v.seen (a.0, sym a.1) p.1) k in
    let snew : Sound u.limit new = sound u.limit v.seen p.1 k in
    let c : redefs_in m ≡ old.redefs = ap redefs_in before ∙ sound_redefs u.limit old sold in
    let d : redefs_in n ≡ new.redefs = ap redefs_in after ∙ sound_redefs u.limit new snew in
    let grow = redefs_grow k u.seen v.seen (a.0, sym a.1) in
    dite (ℕ_discrete new.redefs old.redefs) (λ is. absurd (other (let t = ap body_code (redefs_same k u.seen v.seen (a.0, sym a.1) is) in omega arith))) (λ ne. omega arith)
