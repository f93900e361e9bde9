-- A refused call of a desk changes nothing.
use Rattle.std.proofs.Common.{◌≡◌, ◌≢◌, ◌∙◌, ℕ, List, [], ◌∷◌, ◌++◌, Bool, true, false, Result, Ok, Err, inl, inr, refl, sym, ap, append-nil, arith}
use Rattle.std.specs.Prelude.{◌==◌, ◌⊎◌, cond, IsErr}
use Rattle.hb_types.specs.declared.{ids.BodySite.BodySite, ids.CallNo.CallNo, ids.KeyId.KeyId, ids.TypeSite.TypeSite}
use Rattle.hb_tables.specs.declared.{desk.DefAnswer.DefAnswer, desk.Look.Look, desk.TypeAnswer.TypeAnswer, entry.Act.Act, entry.ArgKinds.ArgKinds, entry.Entry.Entry, entry.Verdict.Verdict}
use Rattle.hb_tables.specs.declared.entry.Act.TheVariants.{Busy, Call, Define, Free, Hold, Retype, WornDef, WornType}
use Rattle.hb_tables.specs.declared.desk.TypeAnswer.TheVariants as typed
use Rattle.hb_tables.specs.declared.desk.DefAnswer.TheVariants as defined
use Rattle.hb_tables.specs.Answers.{DefAdds, Decides, TypeAdds}
use Rattle.hb_tables.specs.History.{Adds, Learns, Spot, done, entry, key_of, spot}
use Rattle.hb_tables.proofs.HistoryLemmas.{spot_more}
use Rattle.hb_sound.specs.Refusals.{ChangesNothing, IsRefusal, Refuses}

-- the act leaves the state of its key
done_same : (c : ℕ) (s : Spot) (a : Act) → IsRefusal a → done c s a ≡ s
done_same c s (Hold key q ty changes) h = absurd h
done_same c s (Free key q) h = absurd h
done_same c s (Retype key site) h = absurd h
done_same c s (Busy key pins) h = refl
done_same c s (WornType key) h = refl
done_same c s (Define key site) h = absurd h
done_same c s (WornDef key) h = refl
done_same c s (Call key q site args verdict) h = refl

either_same : (b : Bool) (x s : Spot) → x ≡ s → cond b x s ≡ s
either_same true x s e = e
either_same false x s e = refl

pub refusal_same : (before : List Entry) (e : Entry) → IsRefusal e.act → (k : ℕ) → spot k (before ++ e ∷ []) ≡ spot k before
refusal_same before e h k = spot_more k before e ∙ either_same (k == key_of e.act) (done e.caller.0 (spot k before) e.act) (spot k before) (done_same e.caller.0 (spot k before) e.act h)

adds_nothing : (c : ℕ) (old new : List Entry) (a : Act) → IsRefusal a → Adds c old new a → ChangesNothing c old new
adds_nothing c old new a h (others, is, idle) = record {
  others = others;
  idle = idle;
  own = entry c a ∷ [];
  is = is;
  few = omega arith;
  same = λ k. ap (spot k) is ∙ refusal_same (old ++ others) (entry c a) h k;
}

learns_nothing : (c : ℕ) (old new : List Entry) → Learns c old new → ChangesNothing c old new
learns_nothing c old new (others, is, idle) = record {
  others = others;
  idle = idle;
  own = [];
  is = is ∙ sym (append-nil (old ++ others));
  few = omega arith;
  same = λ k. ap (spot k) is;
}

pub type_refused : (c : ℕ) (old new : List Entry) (key : KeyId) (site : TypeSite) (answer : TypeAnswer) → TypeAdds c old new key site answer → answer ≢ typed.Done → ChangesNothing c old new
type_refused c old new key site typed.Done adds other = absurd (other refl)
type_refused c old new key site (typed.Busy pins) adds other = adds_nothing c old new (Busy key pins) tt adds
type_refused c old new key site typed.Worn adds other = adds_nothing c old new (WornType key) tt adds

pub definition_refused : (c : ℕ) (old new : List Entry) (key : KeyId) (site : BodySite) (answer : DefAnswer) → DefAdds c old new key site answer → answer ≢ defined.Done → ChangesNothing c old new
definition_refused c old new key site defined.Done adds other = absurd (other refl)
definition_refused c old new key site defined.Worn adds other = adds_nothing c old new (WornDef key) tt adds

pub call_refused : (c : ℕ) (old new : List Entry) (q : CallNo) (key owner : KeyId) (look : Look) (args : ArgKinds) (verdict : Verdict) (answer : Result (Unit {0}) Look)
    → Decides c old new q key owner look args verdict answer → IsErr answer ⊎ Refuses verdict → ChangesNothing c old new
call_refused c old new q key owner look args verdict (Ok u) decides (inl e) = absurd (cc e)
call_refused c old new q key owner look args verdict (Ok u) decides (inr refused) =
    adds_nothing c old new (Call key q look.site args verdict) refused (decides.0, decides.1, decides.2)
call_refused c old new q key owner look args verdict (Err newer) decides refused = learns_nothing c old new decides.0
