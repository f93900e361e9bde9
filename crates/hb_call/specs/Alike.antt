-- A call that goes on is the same call.
use Rattle.std.proofs.Common.{◌≡◌, ◌∙◌, ℕ, List, [], ◌∷◌, ◌++◌, refl, sym, ap, subst, append_assoc}
use Rattle.std.proofs.lemmas.List.{append-nil}
use mathlib.Core.List.{IsPrefix}
use Rattle.hb_types.specs.declared.ids.CallNo.{CallNo}
use Rattle.hb_tree.specs.Table.{Table}
use Rattle.hb_names.specs.Names.{Name}
use Rattle.hb_names.proofs.NameLemmas.{place-longer}
use Rattle.hb_tables.specs.declared.entry.Entry.{Entry}
use Rattle.hb_tables.specs.declared.entry.Act.{Act}
use Rattle.hb_tables.specs.Frames.{KeepsHold}
use Rattle.hb_tables.specs.Names.{name_of}
use Rattle.hb_call.specs.declared.answers.Answer.{Answer}
use Rattle.hb_call.specs.Calling.{AreParts, AreTrue, FitsSince, Given, Moment, Went, Goes, HoldsAnswer, IsAlike, IsAsking}
use Rattle.hb_call.specs.GrowthLaws.{each_itself, each_on, prefix_itself, prefix_more, grows_itself, grows_on, rules_on}

pub went_itself : (g : Given) (m : Moment) → Went g m m
went_itself g m = record { named = prefix_itself m.known; few = λ h. h; differ = λ h. h; kept = prefix_itself m.log; legal = λ h. h; others = λ p other. refl }

pub went_on : (g : Given) (a b c : Moment) → Went g a b → Went g b c → Went g a c
went_on g a b c p q = record {
  named = prefix_more a.known b.known c.known p.named q.named;
  few = λ h. q.few (p.few h);
  differ = λ h. q.differ (p.differ h);
  kept = prefix_more a.log b.log c.log p.kept q.kept;
  legal = λ h. q.legal (p.legal h);
  others = λ n other. q.others n other ∙ p.others n other;
}

pub keeps_join : (q k : ℕ) (l m : List Act) → KeepsHold q k l → KeepsHold q k m → KeepsHold q k (l ++ m)
keeps_join q k [] m h i = i
keeps_join q k (a ∷ l) m h i = (h.0, keeps_join q k l m h.1 i)

pub parts_join : (q : CallNo) (l m : List Act) → AreParts q l → AreParts q m → AreParts q (l ++ m)
parts_join q [] m h i = i
parts_join q (a ∷ l) m h i = (h.0, parts_join q l m h.1 i)

pub goes_itself : (g : Given) (m : Moment) → Goes g m m
goes_itself g m = record { went = went_itself g m; grew = grows_itself g.door.caller m.known m.asked m.log; keeps = tt; parts = tt; begun = λ fits start b. b }

pub goes_on : (g : Given) (a b c : Moment) → Goes g a b → Goes g b c → Goes g a c
goes_on g a b c p q = record {
  went = went_on g a b c p.went q.went;
  grew = grows_on g.door.caller b.known c.known a.asked b.asked c.asked a.log b.log c.log p.grew q.grew q.went.named;
  keeps = keeps_join g.q.0 g.key.0 p.grew.made q.grew.made p.keeps q.keeps;
  parts = parts_join g.q p.grew.made q.grew.made p.parts q.parts;
  begun = λ fits start x. q.begun fits start (p.begun fits start x);
}

pub alike_itself : (g : Given) (m : Moment) → IsAlike g g m m
alike_itself g m = record { same = refl; goes = goes_itself g m }

pub alike_on : (g h i : Given) (a b c : Moment) → IsAlike g h a b → IsAlike h i b c → IsAlike g i a c
alike_on g h i a b c p q = record { same = p.same ∙ q.same; goes = goes_on g a b c p.goes (subst (λ (k : Given). Goes k b c) (sym p.same) q.goes) }

pub fits_since_on : (g h : Given) (a b c : Moment) → g ≡ h → Went h b c → FitsSince g a b → FitsSince h b c → FitsSince g a c
fits_since_on g h a b c same went p q =
    subst (λ (k : Given). Went k b c → FitsSince k b c → FitsSince g a c) same (λ w r. rules_on g.t g.door.caller b.known c.known a.log b.log c.log w.named w.kept p r) went q

true_named : (t : Table) (names known : List Name) (log : List Entry) (x : ℕ × ℕ) (answers : List Answer) → IsPrefix names known → AreTrue t names log x answers → AreTrue t known log x answers
true_named t names known log x [] longer h = tt
true_named t names known log x (a ∷ answers) longer h = (place-longer names known (name_of t (a.class.0, a.name.0)) a.key.0 longer h.0, h.1, true_named t names known log x answers longer h.2)

holds_longer : (t : Table) (names known : List Name) (c : ℕ) (q : CallNo) (answers more : List Answer) (log : List Entry) (a : Act) → IsPrefix names known → HoldsAnswer t names c q answers log a → HoldsAnswer t known c q (answers ++ more) log a
holds_longer t names known c q answers more log a longer h = record {
  first = h.first;
  answer = h.answer;
  rest = h.rest ++ more;
  among = ap (λ w. w ++ more) h.among ∙ append_assoc h.first (h.answer ∷ h.rest) more;
  told = true_named t names known log (c, q.0) h.first longer h.told;
  named = place-longer names known (name_of t (h.answer.class.0, h.answer.name.0)) h.answer.key.0 longer h.named;
  ty = h.ty;
  changes = h.changes;
  is = h.is;
  whole = h.whole;
}

pub asking_itself : (g : Given) (m : Moment) (answers : List Answer) → IsAsking g m m answers answers
asking_itself g m answers = record { more = []; grows = sym (append-nil answers); holds = each_itself (HoldsAnswer g.t m.known g.door.caller g.q answers) g.door.caller m.log }

pub asking_on : (g h : Given) (a b c : Moment) (x y z : List Answer) → g ≡ h → Went h b c → IsAsking g a b x y → IsAsking h b c y z → IsAsking g a c x z
asking_on g h a b c x y z same went p q =
    subst (λ (k : Given). Went k b c → IsAsking k b c y z → IsAsking g a c x z) same
    (λ w r. record {
      more = p.more ++ r.more;
      grows = r.grows ∙ ap (λ l. l ++ r.more) p.grows ∙ append_assoc x p.more r.more;
      holds = each_on (HoldsAnswer g.t c.known g.door.caller g.q z) g.door.caller a.log b.log c.log w.kept
          (λ before after e is from own. subst (λ l. HoldsAnswer g.t c.known g.door.caller g.q l before e.act) (sym r.grows) (holds_longer g.t b.known c.known g.door.caller g.q y r.more before e.act w.named (p.holds before after e is from own))) r.holds;
    }) went q
