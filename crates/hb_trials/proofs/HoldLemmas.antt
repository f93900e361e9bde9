-- What calls hold, and what is kept, while steps are made by hand at a desk.
use Rattle.std.proofs.Common.{◌≡◌, ℕ, ◌≤◌, List, [], refl, length, sym, ap, ◌∙◌, subst, arith}
use Rattle.std.specs.Prelude.{map, None, Option, Some}
use mathlib.Core.List.{IsPrefix}
use mathlib.Core.Logic.{dite}
use native.Mathlib.Decide.{ℕ_discrete}
use Rattle.hb_types.specs.declared.{ids.CallNo.CallNo, ids.KeyId.KeyId, ids.TypeSite.TypeSite, ids.BodySite.BodySite}
use Rattle.hb_tree.specs.Table.{Table}
use Rattle.hb_names.specs.Names.{Name, with_name}
use Rattle.hb_cache.specs.declared.kept.Kept.{Kept}
use Rattle.hb_tables.specs.declared.{entry.Entry.Entry, entry.Act.TheVariants.Busy, entry.Act.TheVariants.WornType, entry.Act.TheVariants.WornDef, desk.TypeAnswer.TypeAnswer}
use Rattle.hb_tables.specs.declared.{desk.DefAnswer.DefAnswer}
use Rattle.hb_tables.specs.declared.desk.TypeAnswer.TheVariants as typed
use Rattle.hb_tables.specs.declared.desk.DefAnswer.TheVariants as defined
use Rattle.hb_tables.specs.{Frames.acts, Standing.Stand, Standing.count_of}
use Rattle.hb_tables.specs.Answers.{Fixed, TypeAdds, DefAdds}
use Rattle.hb_tables.proofs.DeskLemmas.{type_apart, def_apart}
use Rattle.hb_call.specs.Held.{Holds, HasRoom, stands}
use Rattle.hb_call.specs.{OwnCache.IsTrueCache, OwnLaws.own_none, OwnLaws.own_true}
use Rattle.hb_eval.specs.Keeping.{StaysOwn}
use Rattle.hb_eval.proofs.{HoldingLemmas.nothing_held, KeepingLemmas.keeps_named, KeepingLemmas.stays_left}
use Rattle.hb_trials.specs.declared.desks.TheConstants.{CALL}
use Rattle.hb_trials.specs.Desks.{IsAloneAt, IsIdle, IsReady, HoldSame, StaysReady}

-- Where no call holds a key there is room for one.
pub idle_room : (door : Fixed) (q : ℕ) (log : List Entry) → IsIdle door log → HasRoom log door.caller q
idle_room door q log idle k = let n = ap length (nothing_held door.caller log idle k) in omega (arith, n)

pub same_idle : (was door : Fixed) (old new : List Entry) → HoldSame was door old new → IsIdle was old → IsIdle door new
same_idle was door old new same idle q = same q ∙ idle q

-- A frame's keys are held where its call holds the same.
pub same_held : (was door : Fixed) (old new : List Entry) (q : ℕ) (keys : List KeyId) → HoldSame was door old new → Holds was.caller q keys old → Holds door.caller q keys new
same_held was door old new q keys same h = record {
  keys = ap (map (λ (s : Stand). s.key)) (same q) ∙ h.keys;
  once = λ k. subst (λ (l : List Stand). count_of k l ≤ 1) (sym (same q)) (h.once k);
  below = h.below;
}

pub type_same : (was door : Fixed) (old new : List Entry) (key : KeyId) (site : TypeSite) (answer : TypeAnswer) → door ≡ was → TypeAdds was.caller old new key site answer → HoldSame was door old new
type_same was door old new key site answer is adds q = ap (λ (d : Fixed). stands d.caller q new) is ∙ type_apart was.caller q old new key site answer adds

pub def_same : (was door : Fixed) (old new : List Entry) (key : KeyId) (site : BodySite) (answer : DefAnswer) → door ≡ was → DefAdds was.caller old new key site answer → HoldSame was door old new
def_same was door old new key site answer is adds q = ap (λ (d : Fixed). stands d.caller q new) is ∙ def_apart was.caller q old new key site answer adds

-- None holds a key where one alone might, and that one does not.
pub alone_idle : (q : ℕ) (door : Fixed) (log : List Entry) → IsAloneAt q door log → stands door.caller q log ≡ [] → IsIdle door log
alone_idle q door log alone none p = dite (ℕ_discrete p q) (λ is. subst (λ n. stands door.caller n log ≡ []) (sym is) none) (alone p)

-- The frame of the one call ended.
pub left_ready : (t : Table) (names asked : List Name) (before door : Fixed) (old new : List Entry) (q : CallNo) (kept : List (Option Kept)) → door ≡ before → q ≡ CALL → IsAloneAt CALL.0 before old
    → stands before.caller q.0 new ≡ [] → ((p : ℕ) → (p ≡ q.0 → ⊥) → stands before.caller p new ≡ stands before.caller p old) → IsTrueCache t names asked before.caller new kept → IsReady t names asked door new kept
left_ready t names asked before door old new q kept is called alone none others checks = subst (λ (d : Fixed). IsReady t names asked d new kept) (sym is) (record {
  idle = alone_idle q.0 before new (λ p other. others p other ∙ alone p (λ e. other (e ∙ sym (ap (λ (n : CallNo). n.0) called)))) none;
  checks = checks;
})

-- a type that was not set leaves what is kept
pub type_left : (c : ℕ) (old new : List Entry) (key : KeyId) (site : TypeSite) (answer : TypeAnswer) (kept : List (Option Kept)) → (answer ≡ typed.Done → ⊥) → TypeAdds c old new key site answer → StaysOwn c old new kept kept
type_left c old new key site typed.Done kept other adds = absurd (other refl)
type_left c old new key site (typed.Busy pins) kept other adds = stays_left c old new (Busy key pins) kept adds refl (λ past before. tt)
type_left c old new key site typed.Worn kept other adds = stays_left c old new (WornType key) kept adds refl (λ past before. tt)

-- and so does a definition that was not set
pub def_left : (c : ℕ) (old new : List Entry) (key : KeyId) (site : BodySite) (answer : DefAnswer) (kept : List (Option Kept)) → (answer ≡ defined.Done → ⊥) → DefAdds c old new key site answer → StaysOwn c old new kept kept
def_left c old new key site defined.Done kept other adds = absurd (other refl)
def_left c old new key site defined.Worn kept other adds = stays_left c old new (WornDef key) kept adds refl (λ past before. tt)

-- A name was asked for, and behind that each call holds what it held and what is kept stays true.
pub ready_on : (t : Table) (names known was asked : List Name) (name : Name) (before door : Fixed) (old new : List Entry) (kept left : List (Option Kept)) → IsPrefix names known → asked ≡ with_name was name → door ≡ before
    → HoldSame before door old new → StaysOwn before.caller old new kept left → StaysReady t names known was asked before door old new kept left
ready_on t names known was asked name before door old new kept left longer named is same stays ready = record {
  idle = same_idle before door old new same ready.idle;
  checks = subst (λ (d : Fixed). IsTrueCache t known asked d.caller new left) (sym is) ((keeps_named t before.caller names known was asked name old new kept left longer named stays).own None ready.checks);
}
