-- Each step keeps the rule.
use Rattle.std.proofs.Common.{◌≡◌, ◌≢◌, ℕ, ◌^◌, ◌<◌, ◌≤◌, true, false, cond, List, [], ◌∷◌, ◌++◌}
use Rattle.std.proofs.Common.{length, get_or, set, sym, refl, ap, ◌∙◌, subst, ⊎_elim, arith, ne_eqb, length-set, get_or-set_same, get_or-set_other}
use mathlib.Core.Option.{Option, some}
use mathlib.Core.List.{IsPrefix}
use lib.ListN.{get_elem?}
use lib.Seq.{set-get_or}
use Rattle.std.proofs.lemmas.List.{append-nil}
use Rattle.atomic_table.specs.Table.{Act as Deed, Valid, carried_after, keeps, stepped}
use Rattle.atomic_table.proofs.Lists.{at_set}
use Rattle.hb_names.specs.declared.names.TheConstants.{NAMES_MAX}
use Rattle.hb_tables.specs.declared.{entry.Entry.Entry, entry.Act.Act, entry.TheConstants.HOLDS_MAX}
use Rattle.hb_tables.specs.History.{Sound, spot, key_of, done, journal, entry, times, of_caller, FitsAct, IsLegal}
use Rattle.hb_tables.proofs.CallLemmas.{at_most}
use Rattle.hb_tables.proofs.HistoryLemmas.{journal_append, legal_more, own_calls, own_times, spread, sound}
use Rattle.hb_words.specs.declared.{view.View.View, layout.TheConstants.CALLERS_MAX}
use Rattle.hb_words.specs.Layout.{type_word, def_word, type_at, def_at}
use Rattle.hb_words.specs.Words.{AreWords, Knows, Kept, seeing, Extends, Looks}
use Rattle.hb_words.specs.Steps.{TableState, Seated}
use Rattle.hb_words.proofs.BeginningLemmas.{prefix_self, prefix_more, set_there, rest_of_others}

-- A step that leaves n in a word can go on: its seat has some view with which the rule is kept, and tells this of the number that it found.
abbrev pub CanEnd : ℕ → TableState → ℕ → Seated → ℕ → ℕ → (ℕ → Seated → Type 0) → Type 0
CanEnd limit s id me word n then = (w : View) × (a : Deed (Unit {0})) × Valid s.homes me.1 a × Kept limit (stepped s word n id me.1 w a) × then (get_or s.words word 0) (w, carried_after me.1 a)

-- the type word of the entry's key is that after the entry, and its def word need not change
pub types_more : (log : List Entry) (ws : List ℕ) (e : Entry) (k n : ℕ) → AreWords log ws → k ≡ key_of e.act → k < NAMES_MAX
    → n ≡ type_word (done e.caller.0 (spot (key_of e.act) log) e.act) → def_word (spot (key_of e.act) log) ≡ def_word (done e.caller.0 (spot (key_of e.act) log) e.act)
    → AreWords (log ++ e ∷ []) (set ws (type_at k) n)
types_more log ws e k n are key inside type def = let wide = are.wide in record {
  wide = length-set ws (type_at k) n ∙ wide;
  types = λ j l. spread j log e (λ s. get_or (set ws (type_at k) n) (type_at j) 0 ≡ type_word s)
      (λ ne. get_or-set_other ws (type_at k) (type_at j) n 0 (λ h. ne (let m : j ≡ k = omega arith in m ∙ key)) ∙ are.types j l)
      (λ is. let same : j ≡ k = is ∙ sym key in subst (λ z. get_or (set ws (type_at k) n) (type_at z) 0 ≡ type_word (done e.caller.0 (spot (key_of e.act) log) e.act)) (sym same)
      (get_or-set_same ws (type_at k) n 0 (omega arith) ∙ type));
  defs = λ j l. spread j log e (λ s. get_or (set ws (type_at k) n) (def_at j) 0 ≡ def_word s)
      (λ ne. get_or-set_other ws (type_at k) (def_at j) n 0 (λ h. omega arith) ∙ are.defs j l)
      (λ is. get_or-set_other ws (type_at k) (def_at j) n 0 (λ h. omega arith) ∙ (are.defs j l ∙ (ap (λ z. def_word (spot z log)) is ∙ def)));
}

-- the same at a def word
pub defs_more : (log : List Entry) (ws : List ℕ) (e : Entry) (k n : ℕ) → AreWords log ws → k ≡ key_of e.act → k < NAMES_MAX
    → n ≡ def_word (done e.caller.0 (spot (key_of e.act) log) e.act) → type_word (spot (key_of e.act) log) ≡ type_word (done e.caller.0 (spot (key_of e.act) log) e.act)
    → AreWords (log ++ e ∷ []) (set ws (def_at k) n)
defs_more log ws e k n are key inside def type = let wide = are.wide in record {
  wide = length-set ws (def_at k) n ∙ wide;
  defs = λ j l. spread j log e (λ s. get_or (set ws (def_at k) n) (def_at j) 0 ≡ def_word s)
      (λ ne. get_or-set_other ws (def_at k) (def_at j) n 0 (λ h. ne (let m : j ≡ k = omega arith in m ∙ key)) ∙ are.defs j l)
      (λ is. let same : j ≡ k = is ∙ sym key in subst (λ z. get_or (set ws (def_at k) n) (def_at z) 0 ≡ def_word (done e.caller.0 (spot (key_of e.act) log) e.act)) (sym same)
      (get_or-set_same ws (def_at k) n 0 (omega arith) ∙ def));
  types = λ j l. spread j log e (λ s. get_or (set ws (def_at k) n) (type_at j) 0 ≡ type_word s)
      (λ ne. get_or-set_other ws (def_at k) (type_at j) n 0 (λ h. omega arith) ∙ are.types j l)
      (λ is. get_or-set_other ws (def_at k) (type_at j) n 0 (λ h. omega arith) ∙ (are.types j l ∙ (ap (λ z. type_word (spot z log)) is ∙ type)));
}

-- an entry that changes nothing
pub words_same : (log : List Entry) (ws : List ℕ) (e : Entry) → AreWords log ws → spot (key_of e.act) log ≡ done e.caller.0 (spot (key_of e.act) log) e.act → AreWords (log ++ e ∷ []) ws
words_same log ws e are same = record {
  wide = are.wide;
  types = λ j l. spread j log e (λ s. get_or ws (type_at j) 0 ≡ type_word s) (λ _. are.types j l) (λ is. are.types j l ∙ ap type_word (ap (λ z. spot z log) is ∙ same));
  defs = λ j l. spread j log e (λ s. get_or ws (def_at j) 0 ≡ def_word s) (λ _. are.defs j l) (λ is. are.defs j l ∙ ap def_word (ap (λ z. spot z log) is ∙ same));
}

-- a load leaves the words
pub unchanged : (log : List Entry) (ws : List ℕ) (i : ℕ) → AreWords log ws → AreWords log (set ws i (get_or ws i 0))
unchanged log ws i are = subst (AreWords log) (sym (set-get_or ws i 0)) are

no_entry_of : (c : ℕ) (e : Entry) → c ≢ e.caller.0 → journal c (e ∷ []) ≡ []
no_entry_of c e ne = subst (λ b. cond b (e ∷ []) [] ≡ []) (sym (ne_eqb c e.caller.0 ne)) refl

-- what is true of the view of one seat is true of that which stands there
pub knows_there : (limit : ℕ) (log : List Entry) (made : ℕ) (owner : ℕ → ℕ) (i j : ℕ) (w u : View) → (j ≡ i) × (w ≡ u) → Knows limit log made owner i w → Knows limit log made owner j u
knows_there limit log made owner i j w u same k = subst (λ (z : ℕ × View). Knows limit log made owner z.0 z.1) (λ t. (sym same.0 t, same.1 t)) k

-- the views, once that of one seat has changed
pub knows_set : (limit : ℕ) (log : List Entry) (made : ℕ) (owner : ℕ → ℕ) (views : List View) (i : ℕ) (w : View) → Knows limit log made owner i w
    → ((j : ℕ) (u : View) → j ≢ i → get_elem? views j ≡ some u → u.live ≡ true → Knows limit log made owner j u)
    → (j : ℕ) (u : View) → get_elem? (set views i w) j ≡ some u → u.live ≡ true → Knows limit log made owner j u
knows_set limit log made owner views i w itself others j u there alive = ⊎_elim
    (λ (t : (j ≡ i) × (w ≡ u)). knows_there limit log made owner i j w u t itself)
    (λ (t : (j ≢ i) × (get_elem? views j ≡ some u)). others j u t.0 t.1 alive)
    (at_set views i j w u there)

module _ (limit : ℕ) (s : TableState) (r : Kept limit s) (id : ℕ) (me : Seated) (at : get_elem? s.views id ≡ some me.0) (live : me.0.live ≡ true) where
  abbrev v : View
  v = me.0

  mine : Knows limit r.log r.made r.owner id v
  mine = r.seats id v at live

  abbrev entered : Act → List Entry
  entered act = r.log ++ entry v.caller act ∷ []

  no_more : (act : Act) (c : ℕ) → c ≢ v.caller → journal c (entered act) ≡ journal c r.log
  no_more act c apart = journal_append c r.log (entry v.caller act ∷ []) ∙ (ap (λ w. journal c r.log ++ w) (no_entry_of c (entry v.caller act) apart) ∙ append-nil (journal c r.log))

  -- a seat owns no caller of another
  not_mine : (j c : ℕ) → j ≢ id → r.owner c ≡ j → c ≢ v.caller
  not_mine j c ne own is = ne (sym own ∙ (ap r.owner is ∙ ((mine).own v.caller (mine).itself).1))

  -- the others, after a step of this seat
  others : (act : Act) (j : ℕ) (u : View) → j ≢ id → get_elem? s.views j ≡ some u → u.live ≡ true → Knows limit (entered act) r.made r.owner j u
  others act j u ne there alive =
      let k = r.seats j u there alive in
      record {
        limit_is = k.limit_is;
        front = prefix_more u.seen r.log (entry v.caller act ∷ []) k.front;
        itself = k.itself;
        first = k.first;
        own = λ c has. (let o = k.own c has in (o.0, o.1, no_more act c (not_mine j c ne o.1) ∙ o.2));
        taken = λ i f shut there. (let t = k.taken i f shut there in
            (t.0, prefix_more f.seen r.log (entry v.caller act ∷ []) t.1, no_more act f.caller (not_mine j f.caller ne (k.own f.caller t.0).1) ∙ t.2));
      }

  -- the seat makes an entry that fits, and its front becomes the history
  added : v.shut ≡ false → (act : Act) (ws : List ℕ) (homes : List (Option (Unit {0}))) → FitsAct limit v.caller (spot (key_of act) r.log) act → AreWords (entered act) ws
      → Kept limit record { words = ws; homes = homes; views = set s.views id (seeing v (entered act)) }
  added still act ws homes fits are = let k = mine in record {
    log = entered act;
    made = r.made;
    owner = r.owner;
    few = r.few;
    low = r.low;
    legal = legal_more limit r.log (entry v.caller act) r.legal fits;
    unmade = λ c late. (let o = k.own v.caller k.itself in no_more act c (λ is. (let l = o.0 in omega arith)) ∙ r.unmade c late);
    words = are;
    seats = knows_set limit (entered act) r.made r.owner s.views id (seeing v (entered act)) record {
      limit_is = k.limit_is;
      front = prefix_self (entered act);
      itself = k.itself;
      first = k.first;
      own = λ c has. (let o = k.own c has in (o.0, o.1, refl));
      taken = λ i f shut _. absurd (let e : false ≡ true = sym still ∙ shut in cc e);
    } (others act);
    whole = (id, seeing v (entered act), set_there s.views id v (seeing v (entered act)) at, live, refl);
  }

  -- the seat sees the history
  sighted : (ws : List ℕ) (homes : List (Option (Unit {0}))) → AreWords r.log ws → Kept limit record { words = ws; homes = homes; views = set s.views id (seeing v r.log) }
  sighted ws homes are = let k = mine in record {
    log = r.log;
    made = r.made;
    owner = r.owner;
    few = r.few;
    low = r.low;
    legal = r.legal;
    unmade = r.unmade;
    words = are;
    seats = knows_set limit r.log r.made r.owner s.views id (seeing v r.log) record {
      limit_is = k.limit_is;
      front = prefix_self r.log;
      itself = k.itself;
      first = k.first;
      own = λ c has. (let o = k.own c has in (o.0, o.1, refl));
      taken = k.taken;
    } (λ j u _. r.seats j u);
    whole = (id, seeing v r.log, set_there s.views id v (seeing v r.log) at, live, refl);
  }

  others_rest : journal v.caller (mine).front.0 ≡ []
  others_rest = let k = mine in rest_of_others v.caller v.seen r.log k.front (k.own v.caller k.itself).2

  extends : (act : Act) → FitsAct limit v.caller (spot (key_of act) r.log) act → Extends v act (seeing v (entered act))
  extends act fits = let k = mine in (
    (k.front.0, ap (λ w. w ++ entry v.caller act ∷ []) (sym k.front.1), others_rest),
    subst (λ l. IsLegal l (entered act)) (sym k.limit_is) (legal_more limit r.log (entry v.caller act) r.legal fits),
    refl,
  )

  pub limit_now : v.limit ≡ limit
  limit_now = (mine).limit_is

  -- the front begins the history, and the rest has no entry of the caller
  pub front_now : (p : IsPrefix v.seen r.log) × (journal v.caller p.0 ≡ [])
  front_now = ((mine).front, others_rest)

  looks : Looks v (seeing v r.log)
  looks = let k = mine in ((k.front.0, sym k.front.1, others_rest), subst (λ l. IsLegal l r.log) (sym k.limit_is) r.legal, refl)

  -- what the front says of the caller's own calls is so
  pub own_now : (k q : ℕ) → times (v.caller, q) (spot k r.log).calls ≡ times (v.caller, q) (spot k v.seen).calls
  own_now k q = own_times k v.caller q r.log v.seen ((mine).own v.caller (mine).itself).2

  pub few_now : (k : ℕ) → of_caller v.caller (spot k r.log).calls ≡ of_caller v.caller (spot k v.seen).calls
  few_now k = own_calls k v.caller r.log v.seen ((mine).own v.caller (mine).itself).2

  -- a step with an entry that fits, after which these are the words
  pub enters : v.shut ≡ false → (act : Act) → FitsAct limit v.caller (spot (key_of act) r.log) act → (word n : ℕ) → AreWords (entered act) (set s.words word n)
      → (then : ℕ → Seated → Type 0) → (Extends v act (seeing v (entered act)) → then (get_or s.words word 0) (seeing v (entered act), me.1)) → CanEnd limit s id me word n then
  enters still act fits word n are then tells = (seeing v (entered act), keeps, tt, added still act (set s.words word n) s.homes fits are, tells (extends act fits))

  -- a load that has no entry
  pub sees : (word : ℕ) (then : ℕ → Seated → Type 0) → (Looks v (seeing v r.log) → then (get_or s.words word 0) (seeing v r.log, me.1)) → CanEnd limit s id me word (get_or s.words word 0) then
  sees word then tells = (seeing v r.log, keeps, tt, sighted (set s.words word (get_or s.words word 0)) s.homes (unchanged r.log s.words word r.words), tells looks)

module _ (limit : ℕ) (s : TableState) (r : Kept limit s) where
  pub is_sound : (k : ℕ) → Sound limit (spot k r.log)
  is_sound k = sound limit r.log r.legal k

  -- pins fit their bits
  pub pins_fit : (k : ℕ) → length (spot k r.log).calls < 2 ^ 24
  pins_fit k = let w = is_sound k in let f = r.few in
      let none_late : (c : ℕ) → CALLERS_MAX ≤ c → of_caller c (spot k r.log).calls ≡ [] = λ c late. own_calls k c r.log [] (r.unmade c (omega arith)) in
      let m = at_most CALLERS_MAX HOLDS_MAX (spot k r.log).calls none_late w.few in omega (arith, m)
