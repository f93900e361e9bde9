-- What a caller's calls hold after each call of its desk.
use Rattle.std.proofs.Common.{◌≡◌, ℕ, false, List, [], ◌∷◌, ◌++◌, Result, Ok, Err, sym, refl, ap, ◌∙◌, append_assoc}
use Rattle.std.proofs.lemmas.List.{append-nil}
use mathlib.Core.List.{IsPrefix}
use Rattle.hb_types.specs.declared.{ids.KeyId.KeyId, ids.CallNo.CallNo, ids.TypeSite.TypeSite, ids.BodySite.BodySite}
use Rattle.hb_tables.proofs.{FrameLemmas.acts_append, FrontLemmas.acts_none, FrontLemmas.adds_act}
use Rattle.hb_tables.specs.declared.{entry.ArgKinds.ArgKinds, entry.Verdict.Verdict, entry.Entry.Entry, entry.Act.Act, entry.Act.TheVariants.Retype, entry.Act.TheVariants.Busy}
use Rattle.hb_tables.specs.declared.{entry.Act.TheVariants.WornType, entry.Act.TheVariants.Define, entry.Act.TheVariants.WornDef, entry.Act.TheVariants.Call, desk.Look.Look}
use Rattle.hb_tables.specs.declared.{desk.TypeAnswer.TypeAnswer, desk.DefAnswer.DefAnswer}
use Rattle.hb_tables.specs.declared.desk.TypeAnswer.TheVariants as typed
use Rattle.hb_tables.specs.declared.desk.DefAnswer.TheVariants as defined
use Rattle.hb_tables.specs.History.{spot, times, entry, Adds, Learns}
use Rattle.hb_tables.specs.{Answers.TypeAdds, Answers.DefAdds, Answers.Decides, Frames.acts, Standing.stand_done, Standing.standing, Standing.count_of}
use Rattle.hb_tables.proofs.StandingLemmas.{standing_append, has_part, standing_stays, held_stands}

-- the acts of a caller that learned
pub learns_acts : (c : ℕ) (old new : List Entry) → Learns c old new → acts c new ≡ acts c old
learns_acts c old new l = ap (acts c) l.1 ∙ acts_append c old l.0 ∙ ap (λ w. acts c old ++ w) (acts_none c l.0 l.2) ∙ append-nil (acts c old)

pub adds_prefix : (c : ℕ) (old new : List Entry) (a : Act) → Adds c old new a → IsPrefix old new
adds_prefix c old new a h = (h.0 ++ entry c a ∷ [], sym (append_assoc old h.0 (entry c a ∷ [])) ∙ sym h.1)

pub learns_prefix : (c : ℕ) (old new : List Entry) → Learns c old new → IsPrefix old new
learns_prefix c old new h = (h.0, sym h.1)

-- an entry in which a call has no part
pub adds_apart : (c q : ℕ) (old new : List Entry) (a : Act) → Adds c old new a → has_part q a ≡ false → standing q (acts c new) ≡ standing q (acts c old)
adds_apart c q old new a h none = ap (standing q) (adds_act c old new a h) ∙ standing_stays q (acts c old) a none

pub type_apart : (c q : ℕ) (old new : List Entry) (key : KeyId) (site : TypeSite) (answer : TypeAnswer) → TypeAdds c old new key site answer → standing q (acts c new) ≡ standing q (acts c old)
type_apart c q old new key site typed.Done h = adds_apart c q old new (Retype key site) h refl
type_apart c q old new key site (typed.Busy pins) h = adds_apart c q old new (Busy key pins) h refl
type_apart c q old new key site typed.Worn h = adds_apart c q old new (WornType key) h refl

pub def_apart : (c q : ℕ) (old new : List Entry) (key : KeyId) (site : BodySite) (answer : DefAnswer) → DefAdds c old new key site answer → standing q (acts c new) ≡ standing q (acts c old)
def_apart c q old new key site defined.Done h = adds_apart c q old new (Define key site) h refl
def_apart c q old new key site defined.Worn h = adds_apart c q old new (WornDef key) h refl

pub decides_apart : (c p : ℕ) (old new : List Entry) (q : CallNo) (key owner : KeyId) (look : Look) (args : ArgKinds) (v : Verdict) (r : Result (Unit {0}) Look)
    → Decides c old new q key owner look args v r → standing p (acts c new) ≡ standing p (acts c old)
decides_apart c p old new q key owner look args v (Ok _) h = adds_apart c p old new (Call key q look.site args v) (h.0, h.1, h.2) refl
decides_apart c p old new q key owner look args v (Err newer) h = ap (standing p) (learns_acts c old new h.0)

pub adds_stand : (c q : ℕ) (old new : List Entry) (a : Act) → Adds c old new a → standing q (acts c new) ≡ stand_done q (standing q (acts c old)) a
adds_stand c q old new a h = ap (standing q) (adds_act c old new a h) ∙ standing_append q [] (acts c old) (a ∷ [])

-- what a call holds, where it has the same acts that stand
pub same_held : (c q k : ℕ) (old new : List Entry) → standing q (acts c new) ≡ standing q (acts c old) → times (c, q) (spot k new).calls ≡ times (c, q) (spot k old).calls
same_held c q k old new e = held_stands c q k new ∙ ap (count_of k) e ∙ sym (held_stands c q k old)

-- a call that holds a key holds it still, where its caller is the same and what stands is
pub holds_on : (c d q k : ℕ) (old new : List Entry) → d ≡ c → standing q (acts c new) ≡ standing q (acts c old) → times (c, q) (spot k old).calls ≡ 1 → times (d, q) (spot k new).calls ≡ 1
holds_on c d q k old new is e one = ap (λ x. times (x, q) (spot k new).calls) is ∙ same_held c q k old new e ∙ one
