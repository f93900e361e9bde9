-- A call that retreats, and how often it did.
use Rattle.std.proofs.Common.{◌≡◌, ℕ, ◌+◌, ◌<◌, ◌≤◌, inl, inr, Bool, true, false, cond, eqb, List, [], ◌∷◌, ◌++◌, map, sym, refl, ap, ◌∙◌, subst, arith, append_assoc, eq-eqb}
use Rattle.std.proofs.lemmas.Bool.{eqb-true}
use mathlib.Core.List.{IsPrefix}
use Rattle.hb_types.specs.declared.ids.CallNo.{CallNo}
use Rattle.hb_types.specs.declared.ids.KeyId.{KeyId}
use Rattle.hb_tree.specs.Table.{Table}
use Rattle.hb_names.specs.Names.{Name}
use Rattle.hb_tables.specs.declared.entry.Entry.{Entry}
use Rattle.hb_tables.specs.declared.entry.Act.{Act}
use Rattle.hb_tables.specs.declared.entry.Act.TheVariants.{Hold, Free, Retype, Busy, WornType, Define, WornDef, Call}
use Rattle.hb_tables.specs.declared.desk.Look.{Look}
use Rattle.hb_tables.specs.Answers.{IsLookAt}
use Rattle.hb_tables.specs.History.{Learns}
use Rattle.hb_tables.proofs.FrontLemmas.{acts_none}
use Rattle.hb_tables.specs.Frames as frames
use Rattle.hb_tables.specs.Frames.{acts, KeepsHold, StaysLive}
use Rattle.hb_tables.specs.Standing.{Stand, all_but, standing, standing_from, count_of}
use Rattle.hb_tables.proofs.FrameLemmas.{acts_append}
use Rattle.hb_tables.proofs.HistoryLemmas.{redefs_grow}
use Rattle.hb_tables.proofs.StandingLemmas.{standing_append}
use Rattle.hb_call.specs.Held.{frees, stands}
use Rattle.hb_call.specs.Calling.{Given, Goes, HasLooked, IsAsking, MayRetreat, Moment}
use Rattle.hb_call.specs.declared.answers.Answer.{Answer}
use Rattle.hb_call.specs.Growth.{EachNew}
use Rattle.hb_call.specs.Rules.{FitsRules, Retreats, runs}
use Rattle.hb_call.specs.GrowthLaws.{prefix_itself, prefix_more}
use Rattle.hb_call.proofs.GrowthLemmas.{each_made, empty_not}
use Rattle.hb_call.proofs.StayLemmas.{acts_rest}
use Rattle.hb_call.proofs.HeldLemmas.{head_gone, head_same, less}
use Rattle.hb_call.proofs.BegunLemmas.{AreOthers, keeps_others}
use Rattle.hb_call.proofs.LookingLemmas.{began_on}

-- ── runs of Frees ──

runs_none : (q : ℕ) (going : Bool) (m : List Act) → StaysLive q m → runs q going m ≡ 0
runs_none q going [] h = refl
runs_none q going (Hold key p ty changes ∷ m) h = elim (eqb q p.0) as (λ b. cond b (runs q false m) (runs q going m) ≡ 0) [ true ↦ runs_none q false m h.1 | false ↦ runs_none q going m h.1 ]
runs_none q going (Free key p ∷ m) h = ap (λ b. cond b (cond going 0 1 + runs q true m) (runs q going m)) h.0 ∙ runs_none q going m h.1
runs_none q going (Retype key site ∷ m) h = runs_none q going m h.1
runs_none q going (Busy key pins ∷ m) h = runs_none q going m h.1
runs_none q going (WornType key ∷ m) h = runs_none q going m h.1
runs_none q going (Define key site ∷ m) h = runs_none q going m h.1
runs_none q going (WornDef key ∷ m) h = runs_none q going m h.1
runs_none q going (Call key p site args v ∷ m) h = runs_none q going m h.1

-- what comes behind adds at most so many runs
runs_more : (q : ℕ) (going : Bool) (l m : List Act) (n : ℕ) → ((b : Bool) → runs q b m ≤ n) → runs q going (l ++ m) ≤ runs q going l + n
runs_more q going [] m n h = let a = h going in omega (arith, a)
runs_more q going (Hold key p ty changes ∷ l) m n h = elim (eqb q p.0) as (λ b. cond b (runs q false (l ++ m)) (runs q going (l ++ m)) ≤ cond b (runs q false l) (runs q going l) + n) [ true ↦ runs_more q false l m n h | false ↦ runs_more q going l m n h ]
runs_more q going (Free key p ∷ l) m n h =
    let t = runs_more q true l m n h in
    elim (eqb q p.0) as (λ b. cond b (cond going 0 1 + runs q true (l ++ m)) (runs q going (l ++ m)) ≤ cond b (cond going 0 1 + runs q true l) (runs q going l) + n) [ true ↦ omega (arith, t) | false ↦ runs_more q going l m n h ]
runs_more q going (Retype key site ∷ l) m n h = runs_more q going l m n h
runs_more q going (Busy key pins ∷ l) m n h = runs_more q going l m n h
runs_more q going (WornType key ∷ l) m n h = runs_more q going l m n h
runs_more q going (Define key site ∷ l) m n h = runs_more q going l m n h
runs_more q going (WornDef key ∷ l) m n h = runs_more q going l m n h
runs_more q going (Call key p site args v ∷ l) m n h = runs_more q going l m n h

runs_going : (q : CallNo) (keys : List KeyId) → runs q.0 true (frees q keys) ≡ 0
runs_going q [] = refl
runs_going q (key ∷ keys) = let r = runs_going q keys in ap (λ b. cond b (0 + runs q.0 true (frees q keys)) (runs q.0 true (frees q keys))) (eq-eqb q.0 q.0 refl) ∙ omega (arith, r)

runs_frees : (q : CallNo) (keys : List KeyId) (going : Bool) → runs q.0 going (frees q keys) ≤ 1
runs_frees q [] going = omega arith
runs_frees q (key ∷ keys) going =
    let r = runs_going q keys in let e = ap (λ b. cond b (cond going 0 1 + runs q.0 true (frees q keys)) (runs q.0 going (frees q keys))) (eq-eqb q.0 q.0 refl) in
    let low : cond going 0 1 ≤ 1 = elim going as (λ b. cond b 0 1 ≤ 1) [ true ↦ omega arith | false ↦ omega arith ] in omega (arith, e, r, low)

-- acts among which the call frees nothing
pub live_of : (c q : ℕ) (old rest : List Entry) → EachNew (λ before a. frames.frees q a ≡ false) c old (old ++ rest) → StaysLive q (acts c rest)
live_of c q old [] each = tt
live_of c q old (x ∷ rest) each =
    let same : (old ++ x ∷ []) ++ rest ≡ old ++ x ∷ rest = append_assoc old (x ∷ []) rest in
    let more : StaysLive q (acts c rest) = live_of c q (old ++ x ∷ []) rest (λ before after e is from own. each before after e (sym same ∙ is) (prefix_more old (old ++ x ∷ []) before (x ∷ [], refl) from) own) in
    go (eqb c x.caller.0) refl more
  where
    go : (b : Bool) → eqb c x.caller.0 ≡ b → StaysLive q (acts c rest) → StaysLive q (cond b (x.act ∷ acts c rest) (acts c rest))
    go true e more = (each old rest x refl (prefix_itself old) (sym (eqb-true c x.caller.0 e)), more)
    go false e more = more

pub learns_live : (c q : ℕ) (old new : List Entry) → Learns c old new → (rest : List Entry) × (old ++ rest ≡ new) × StaysLive q (acts c rest)
learns_live c q old new learns = (learns.0, sym learns.1, subst (StaysLive q) (sym (acts_none c learns.0 learns.2)) tt)

-- a check frees nothing
pub live_asked : (g : Given) (was is : Moment) (old new : List Answer) → IsAsking g was is old new → IsPrefix was.log is.log → (rest : List Entry) × (was.log ++ rest ≡ is.log) × StaysLive g.q.0 (acts g.door.caller rest)
live_asked g was is old new asking kept =
    (kept.0, kept.1, live_of g.door.caller g.q.0 was.log kept.0 (λ before after e there from own. let h = asking.holds before after e (sym kept.1 ∙ there) from own in subst (λ (a : Act). frames.frees g.q.0 a ≡ false) (sym h.is) refl))

-- ── the look, as the call goes on ──

-- behind acts among which the call frees nothing the look is as good
pub looked_live : (g : Given) (was is : Moment) (seen : Look) (goes : Goes g was is) → (rest : List Entry) × (was.log ++ rest ≡ is.log) × StaysLive g.q.0 (acts g.door.caller rest) → HasLooked g.door.caller g.q g.key seen was.log → HasLooked g.door.caller g.q g.key seen is.log
looked_live g was is seen goes free h =
    let c = g.door.caller in let rest = free.0 in let live = free.2 in
    let made = acts_rest c was.log rest is.log goes.grew.made free.1 goes.grew.grows in
    subst (HasLooked c g.q g.key seen) free.1 (record {
      start = h.start;
      began = began_on c g.q g.key h.start was.log rest h.began (subst (KeepsHold g.q.0 g.key.0) (sym made) goes.keeps);
      at = h.at;
      from = h.from;
      to = prefix_more h.at was.log (was.log ++ rest) h.to (rest, refl);
      is = h.is;
      few =
          let a = ap (runs g.q.0 false) (acts_append c h.began.since rest) in
          let b = runs_more g.q.0 false (acts c h.began.since) (acts c rest) 0 (λ b. let z = runs_none g.q.0 b (acts c rest) live in omega (arith, z)) in let f = h.few in omega (arith, a, b, f);
    })

-- a newer definition lets the call retreat
pub may_retreat : (c : ℕ) (q : CallNo) (key : KeyId) (seen newer : Look) (log : List Entry) → HasLooked c q key seen log → IsLookAt key.0 newer log → seen.changes < newer.changes → MayRetreat c q key log
may_retreat c q key seen newer log h true_here less = record { start = h.start; began = h.began; few = let f = h.few in let n = true_here.1 in omega (arith, f, n, less) }

-- and then the newer one was looked at
pub looked_newer : (g : Given) (was is : Moment) (newer : Look) (others : List KeyId) (goes : Goes g was is) → acts g.door.caller is.log ≡ acts g.door.caller was.log ++ frees g.q others → MayRetreat g.door.caller g.q g.key was.log → IsLookAt g.key.0 newer was.log → HasLooked g.door.caller g.q g.key newer is.log
looked_newer g was is newer others goes back h fact =
    let c = g.door.caller in let rest = goes.went.kept.0 in
    let made = acts_rest c was.log rest is.log goes.grew.made goes.went.kept.1 goes.grew.grows in
    let freed = acts_rest c was.log rest is.log (frees g.q others) goes.went.kept.1 back in
    subst (HasLooked c g.q g.key newer) goes.went.kept.1 (record {
      start = h.start;
      began = began_on c g.q g.key h.start was.log rest h.began (subst (KeepsHold g.q.0 g.key.0) (sym made) goes.keeps);
      at = was.log;
      from = (h.began.since, h.began.goes);
      to = (rest, refl);
      is = fact;
      few =
          let a = ap (runs g.q.0 false) (acts_append c h.began.since rest ∙ ap (λ w. acts c h.began.since ++ w) freed) in
          let b = runs_more g.q.0 false (acts c h.began.since) (frees g.q others) 1 (runs_frees g.q others) in let f = h.few in let n = fact.1 in omega (arith, a, b, f, n);
    })

-- ── what a retreat frees ──

record FreesCut (q : CallNo) (keys : List KeyId) (xs : List Act) (a : Act) : Type 0 where
  front : List KeyId
  key : KeyId
  back : List KeyId
  keys_are : keys ≡ front ++ key ∷ back
  first : xs ≡ frees q front
  is : Free key q ≡ a

frees_cut : (q : CallNo) (keys : List KeyId) (xs ys : List Act) (a : Act) → frees q keys ≡ xs ++ a ∷ ys → FreesCut q keys xs a
frees_cut q [] xs ys a e = absurd (empty_not xs ys a e)
frees_cut q (key ∷ keys) [] ys a e = record { front = []; key = key; back = keys; keys_are = refl; first = refl; is = cc e }
frees_cut q (key ∷ keys) (x ∷ xs) ys a e =
    let r = frees_cut q keys xs ys a (cc e) in let same : x ≡ Free key q = cc e in
    record { front = key ∷ r.front; key = r.key; back = r.back; keys_are = ap (λ l. key ∷ l) r.keys_are; first = ap (λ y. y ∷ xs) same ∙ ap (λ l. Free key q ∷ l) r.first; is = r.is }

-- what stands behind the Frees of the first of these keys
freed_front : (q : CallNo) (kept hs : List Stand) (xs ys : List KeyId) → map (λ (h : Stand). h.key) hs ≡ map (λ (k : KeyId). k.0) (xs ++ ys) → ((k : ℕ) → count_of k (kept ++ hs) ≤ 1) → (left : List Stand) × (standing_from q.0 (kept ++ hs) (frees q xs) ≡ kept ++ left) × (map (λ (h : Stand). h.key) left ≡ map (λ (k : KeyId). k.0) ys)
freed_front q kept hs [] ys e once = (hs, refl, e)
freed_front q kept [] (key ∷ xs) ys e once = absurd (cc e)
freed_front q kept (h ∷ hs) (key ∷ xs) ys e once =
    let p = head_same h hs key (xs ++ ys) e in
    let r = freed_front q kept hs xs ys p.1 (λ k. less k kept hs h (once k)) in (
      r.0,
      ap (λ b. standing_from q.0 (cond b (all_but key.0 (kept ++ h ∷ hs)) (kept ++ h ∷ hs)) (frees q xs)) (eq-eqb q.0 q.0 refl)
          ∙ ap (λ l. standing_from q.0 l (frees q xs)) (head_gone kept hs h key.0 p.0 (once key.0)) ∙ r.1,
      r.2,
    )

record NextStand (key : KeyId) (hs : List Stand) : Type 0 where
  next : Stand
  others : List Stand
  are : hs ≡ next ∷ others
  is : key.0 ≡ next.key

next_stand : (key : KeyId) (keys : List KeyId) (hs : List Stand) → map (λ (h : Stand). h.key) hs ≡ map (λ (k : KeyId). k.0) (key ∷ keys) → NextStand key hs
next_stand key keys [] e = absurd (cc e)
next_stand key keys (h ∷ hs) e = record { next = h; others = hs; are = refl; is = (head_same h hs key keys e).0 }

others_front : (k : ℕ) (xs ys : List KeyId) → AreOthers k (xs ++ ys) → AreOthers k xs
others_front k [] ys h = tt
others_front k (x ∷ xs) ys h = (h.0, others_front k xs ys h.1)

frees_last : (q : CallNo) (xs : List KeyId) (key : KeyId) → frees q (xs ++ key ∷ []) ≡ frees q xs ++ Free key q ∷ []
frees_last q [] key = refl
frees_last q (x ∷ xs) key = ap (λ l. Free x q ∷ l) (frees_last q xs key)

pub retreat_fits : (t : Table) (names : List Name) (c : ℕ) (q : CallNo) (key : KeyId) (others : List KeyId) (old new : List Entry) (own : Stand) (hs : List Stand) → MayRetreat c q key old → stands c q.0 old ≡ own ∷ hs → map (λ (h : Stand). h.key) hs ≡ map (λ (k : KeyId). k.0) others
    → ((k : ℕ) → count_of k (own ∷ hs) ≤ 1) → AreOthers key.0 others → acts c new ≡ acts c old ++ frees q others → EachNew (FitsRules t names c) c old new
retreat_fits t names c q key others old new own hs may held keys once apart is =
    each_made (FitsRules t names c) c old new (frees q others) is (λ xs ys a before e from to past.
    let f = frees_cut q others xs ys a e in
    let acts_are : acts c before ≡ acts c old ++ frees q f.front = past ∙ ap (λ w. acts c old ++ w) f.first in
    let rest = acts_rest c old from.0 before (frees q f.front) from.1 acts_are in
    let left = freed_front q (own ∷ []) hs f.front (f.key ∷ f.back) (keys ∙ ap (map (λ (k : KeyId). k.0)) f.keys_are) once in
    let stand : stands c q.0 before ≡ own ∷ left.0 = ap (standing q.0) acts_are ∙ standing_append q.0 [] (acts c old) (frees q f.front) ∙ ap (λ (l : List Stand). standing_from q.0 l (frees q f.front)) held ∙ left.1 in
    let n = next_stand f.key f.back left.0 left.2 in
    let b = began_on c q key may.start old from.0 may.began (subst (KeepsHold q.0 key.0) (sym rest) (keeps_others q key.0 f.front (others_front key.0 f.front (f.key ∷ f.back) (subst (AreOthers key.0) f.keys_are apart)))) in
    subst (FitsRules t names c before) f.is (record {
      row = tt;
      hold = tt;
      free = inr (inl (subst (Retreats c q f.key) from.1 (record {
        first = key;
        start = may.start;
        began = b;
        own = own;
        next = n.next;
        others = n.others;
        held = ap (stands c q.0) from.1 ∙ stand ∙ ap (λ (l : List Stand). own ∷ l) n.are;
        is = n.is;
        few =
            let a = ap (λ w. runs q.0 false (w ++ Free f.key q ∷ [])) (acts_append c may.began.since from.0 ∙ ap (λ w. acts c may.began.since ++ w) rest) in
            let d = ap (runs q.0 false) (append_assoc (acts c may.began.since) (frees q f.front) (Free f.key q ∷ []) ∙ ap (λ w. acts c may.began.since ++ w) (sym (frees_last q f.front f.key))) in
            let m = runs_more q.0 false (acts c may.began.since) (frees q (f.front ++ f.key ∷ [])) 1 (runs_frees q (f.front ++ f.key ∷ [])) in
            let grow = redefs_grow key.0 old (old ++ from.0) (from.0, refl) in let few = may.few in omega (arith, a, d, m, grow, few);
      })));
      whole = tt;
      named = tt;
    }))
