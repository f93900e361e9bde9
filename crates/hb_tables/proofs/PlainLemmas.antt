-- An entry that fits keeps what the fields of the plain tables say.
use Rattle.std.proofs.Common.{◌≡◌, ◌≢◌, Ok, ℕ, zero, suc, ◌+◌, ◌-◌, ◌<◌, ◌≤◌, ◌⊎◌, inl, inr, ⊎_elim, List, [], ◌∷◌, ◌++◌, length, length-append, drop, get_or, set, sym, refl}
use Rattle.std.proofs.Common.{ap, ◌∙◌, subst, arith, length-set, Some, slice_get, ne_eqb, replicate}
use Rattle.std.proofs.{lemmas.List.append-nil, lemmas.List.drop-append-le, lemmas.List.length-replicate, lemmas.Option.slice_get_read}
use mathlib.Core.List.{IsPrefix}
use Rattle.hb_tree.proofs.Lists.{each_append}
use Rattle.hb_types.specs.declared.{ids.CallNo.CallNo, ids.KeyId.KeyId}
use Rattle.hb_names.specs.declared.names.TheConstants.{NAMES_MAX}
use Rattle.hb_tables.specs.declared.{entry.TheConstants.HOLDS_MAX, entry.TheConstants.VERSIONS_MAX, entry.Entry.Entry, entry.Act.Act, entry.Act.TheVariants.Hold}
use Rattle.hb_tables.specs.declared.{entry.Act.TheVariants.Free, entry.Act.TheVariants.Call, entry.ArgKinds.ArgKinds, entry.Verdict.Verdict, desk.Look.Look}
use Rattle.hb_tables.specs.declared.{plain.KeyState.KeyState}
use Rattle.hb_tables.specs.History.{times, of_caller, Spot, spot, key_of, done, journal, entry, FitsAct, IsLegal, Adds, Learns}
use Rattle.hb_tables.specs.Answers.{IsLookAt, Decides}
use Rattle.hb_tables.specs.Plain.{Tables, Matches, AreTables, holds_in, AreOwn, IsOpen}
use Rattle.hb_tables.proofs.HistoryLemmas.{legal_none, legal_more, spread, spot_more, turn_here, turn_else, journal_append, own_calls, sound, redefs_grow, redefs_same}
use Rattle.hb_tables.proofs.{CallLemmas.length_without, CallLemmas.at_most, SumLemmas.total_zero, SumLemmas.total_one, SumLemmas.total_at}

get_set : {A : Type 0} (l : List A) (i j : ℕ) (a b : A) → slice_get (set l i a) j ≡ Some b → ((j ≡ i) × (a ≡ b)) ⊎ (slice_get l j ≡ Some b)
get_set [] i j a b e = absurd cc
get_set (x ∷ xs) zero zero a b e = inl (refl, cc e)
get_set (x ∷ xs) zero (suc j) a b e = inr e
get_set (x ∷ xs) (suc i) zero a b e = inr e
get_set (x ∷ xs) (suc i) (suc j) a b e = ⊎_elim (λ t. inl (ap suc t.0, t.1)) (λ t. inr t) (get_set xs i j a b e)

get_other : {A : Type 0} (l : List A) (i j : ℕ) (a b : A) → j ≢ i → slice_get (set l i a) j ≡ Some b → slice_get l j ≡ Some b
get_other l i j a b ne e = ⊎_elim (λ (t : (j ≡ i) × (a ≡ b)). absurd (ne t.0)) (λ (t : slice_get l j ≡ Some b). t) (get_set l i j a b e)

get_here : {A : Type 0} (l : List A) (i : ℕ) (a b : A) → slice_get (set l i a) i ≡ Some b → a ≡ b
get_here [] i a b e = absurd cc
get_here (x ∷ xs) zero a b e = cc e
get_here (x ∷ xs) (suc i) a b e = get_here xs i a b e

-- the holds on one key, and those on all
holds_more : (log : List Entry) (e : Entry) → key_of e.act < NAMES_MAX → holds_in (log ++ e ∷ []) + length (spot (key_of e.act) log).calls ≡ holds_in log + length (done e.caller.0 (spot (key_of e.act) log) e.act).calls
holds_more log e inside =
    let f : ℕ → ℕ = λ k. length (spot k (log ++ e ∷ [])).calls in let g : ℕ → ℕ = λ k. length (spot k log).calls in
    let one = total_one NAMES_MAX (key_of e.act) f g inside (λ j ne. ap (λ (s : Spot). length s.calls) (spot_more j log e ∙ turn_else j (spot j log) e ne)) in
    let here : f (key_of e.act) ≡ length (done e.caller.0 (spot (key_of e.act) log) e.act).calls = ap (λ (s : Spot). length s.calls)
    (spot_more (key_of e.act) log e ∙ turn_here (key_of e.act) (spot (key_of e.act) log) e refl) in
    omega (arith, one, here)

callers_more : (log : List Entry) (c : ℕ) (act : Act) → c < 256 → ((d : ℕ) → 256 ≤ d → journal d log ≡ []) → (d : ℕ) → 256 ≤ d → journal d (log ++ entry c act ∷ []) ≡ []
callers_more log c act low none d high =
    let n = ne_eqb d c (λ e. omega arith) in
    journal_append d log (entry c act ∷ []) ∙ (ap (λ w. w ++ journal d (entry c act ∷ [])) (none d high) ∙ rw n refl)

pub tables_more : (limit : ℕ) (log : List Entry) (states : List KeyState) (owed : ℕ) (c : ℕ) (act : Act) (next : KeyState) (owed' : ℕ) → AreTables limit log states owed → c < 256
    → key_of act < NAMES_MAX → FitsAct limit c (spot (key_of act) log) act
    → Matches next (done c (spot (key_of act) log) act) → owed' + length (spot (key_of act) log).calls ≡ owed + length (done c (spot (key_of act) log) act).calls
    → AreTables limit (log ++ entry c act ∷ []) (set states (key_of act) next) owed'
tables_more limit log states owed c act next owed' w low inside fits same is = record {
  low = w.low;
  legal = legal_more limit log (entry c act) w.legal fits;
  callers = callers_more log c act low w.callers;
  wide = length-set states (key_of act) next ∙ w.wide;
  match = λ k s e. spread k log (entry c act) (Matches s) (λ ne. w.match k s (get_other states (key_of act) k next s ne e))
      (λ here. subst (λ (z : KeyState). Matches z (done c (spot (key_of act) log) act)) (get_here states (key_of act) next s (subst (λ z. slice_get (set states (key_of act) next) z ≡ Some s) here e)) same);
  owed_is = (let m = holds_more log (entry c act) inside in let o = w.owed_is in omega (arith, m, o, is));
}

owes : (limit : ℕ) (log : List Entry) (states : List KeyState) (owed k : ℕ) → AreTables limit log states owed → k < NAMES_MAX → length (spot k log).calls ≤ owed
owes limit log states owed k w inside = let t = total_at NAMES_MAX k (λ j. length (spot j log).calls) inside in let o = w.owed_is in omega (arith, t, o)

-- the state that is kept of a key
pub matches_at : (limit : ℕ) (log : List Entry) (states : List KeyState) (owed : ℕ) (key : KeyId) (s : KeyState) → AreTables limit log states owed → key.0 < NAMES_MAX → s ≡ get_or states key.0 s
    → Matches s (spot key.0 log)
matches_at limit log states owed key s w inside read = w.match key.0 s (slice_get_read states NAMES_MAX key.0 s (sym w.wide) inside read)

-- one more entry of the caller whose door is open
pub open_more : (c opened : ℕ) (log : List Entry) (act : Act) → IsOpen c opened log → IsOpen c opened (log ++ entry c act ∷ [])
open_more c opened log act w = record {
  low = w.low;
  before = (let n = length-append log (entry c act ∷ []) in let b = w.before in omega (arith, n, b));
  own = subst (AreOwn c) (sym (drop-append-le opened log (entry c act ∷ []) w.before)) (each_append (λ e. e.caller.0 ≡ c) (drop opened log) (entry c act ∷ []) w.own (refl, tt));
}

-- few calls hold a key
pub pins_low : (limit : ℕ) (log : List Entry) (states : List KeyState) (owed : ℕ) (k : ℕ) → AreTables limit log states owed → length (spot k log).calls ≤ 1048832
pins_low limit log states owed k w =
    at_most 256 HOLDS_MAX (spot k log).calls (λ c high. own_calls k c log [] (w.callers c high)) (sound limit log w.legal k).few

pub hold_tables : (limit : ℕ) (log : List Entry) (states : List KeyState) (owed c : ℕ) (q : CallNo) (key : KeyId) (s : KeyState) → AreTables limit log states owed → c < 256 → key.0 < NAMES_MAX → s ≡ get_or states key.0 s
    → times (c, q.0) (spot key.0 log).calls ≡ 0 → length (of_caller c (spot key.0 log).calls) < HOLDS_MAX
    → AreTables limit (log ++ entry c (Hold key q s.ty s.changes) ∷ []) (set states key.0 (record s { pins = s.pins + 1 })) (owed + 1)
hold_tables limit log states owed c q key s w low inside read none few =
    let m = matches_at limit log states owed key s w inside read in
    tables_more limit log states owed c (Hold key q s.ty s.changes) (record s { pins = s.pins + 1 }) (owed + 1) w low inside (m.0, m.1, none, few) (m.0, m.1, m.2, m.3, (let p = m.4 in omega arith)) (omega arith)

-- what a free finds and leaves
pub record Freed (limit : ℕ) (log : List Entry) (states : List KeyState) (owed c : ℕ) (q : CallNo) (key : KeyId) (s : KeyState) : Type 0 where
  pub pins : 1 ≤ s.pins
  pub some : 1 ≤ owed
  pub tables : AreTables limit (log ++ entry c (Free key q) ∷ []) (set states key.0 (record s { pins = s.pins - 1 })) (owed - 1)

pub free_tables : (limit : ℕ) (log : List Entry) (states : List KeyState) (owed c : ℕ) (q : CallNo) (key : KeyId) (s : KeyState) → AreTables limit log states owed → c < 256 → key.0 < NAMES_MAX → s ≡ get_or states key.0 s
    → times (c, q.0) (spot key.0 log).calls ≡ 1 → Freed limit log states owed c q key s
free_tables limit log states owed c q key s w low inside read one =
    let m = matches_at limit log states owed key s w inside read in
    let n = length_without (c, q.0) (spot key.0 log).calls in let o = owes limit log states owed key.0 w inside in
    let p : s.pins ≡ length (spot key.0 log).calls = m.4 in
    record {
      pins = omega (arith, n, one, p);
      some = omega (arith, n, one, o);
      tables = tables_more limit log states owed c (Free key q) (record s { pins = s.pins - 1 }) (owed - 1) w low inside one (m.0, m.1, m.2, m.3, omega (arith, n, one, p)) (omega (arith, n, one, o));
    }

pub look_stays : (owner : KeyId) (look newer : Look) (before log : List Entry) → IsPrefix before log → IsLookAt owner.0 look before → IsLookAt owner.0 newer log → newer.changes ≤ look.changes → IsLookAt owner.0 look log
look_stays owner look newer before log p h n low =
    let g = redefs_grow owner.0 before log p in let a = h.1 in let b = n.1 in
    let same : (spot owner.0 log).redefs ≡ (spot owner.0 before).redefs = omega (arith, g, a, b, low) in
    (h.0 ∙ sym (redefs_same owner.0 before log p same), h.1 ∙ sym same)

-- the counts of changes have not passed the limit
pub changes_low : (limit : ℕ) (log : List Entry) (k : ℕ) → IsLegal limit log → (spot k log).changes ≤ limit
changes_low limit log k legal = (sound limit log legal k).changes

pub redefs_low : (limit : ℕ) (log : List Entry) (k : ℕ) → IsLegal limit log → (spot k log).redefs ≤ limit
redefs_low limit log k legal = (sound limit log legal k).redefs

blank_at : (n k : ℕ) (b s : KeyState) → slice_get (replicate n b) k ≡ Some s → s ≡ b
blank_at zero k b s e = absurd cc
blank_at (suc n) zero b s e = cc e
blank_at (suc n) (suc k) b s e = blank_at n k b s e

-- tables with no entry
pub tables_none : (limit : ℕ) (b : KeyState) → limit ≤ VERSIONS_MAX → ((k : ℕ) → Matches b (spot k [])) → AreTables limit [] (replicate NAMES_MAX b) 0
tables_none limit b low blank = record {
  low = low;
  legal = legal_none limit;
  callers = λ c high. refl;
  wide = length-replicate NAMES_MAX b;
  match = λ k s e. subst (λ z. Matches z (spot k [])) (sym (blank_at NAMES_MAX k b s e)) (blank k);
  owed_is = sym (total_zero NAMES_MAX);
}

-- an act by which no hold begins or ends, where its rules are told of what is seen of the tables
pub written_tables : (limit : ℕ) (log : List Entry) (states : List KeyState) (owed c : ℕ) (act : Act) (key : KeyId) (next : KeyState) → AreTables limit log states owed → c < 256
    → (key.0 < NAMES_MAX) × (key_of act ≡ key.0)
    → (seen : Tables) → c ≡ seen.caller → log ≡ seen.log → limit ≡ seen.limit → FitsAct seen.limit seen.caller (spot key.0 seen.log) act → Matches next (done seen.caller (spot key.0 seen.log) act)
    → length (done seen.caller (spot key.0 seen.log) act).calls ≡ length (spot key.0 seen.log).calls
    → AreTables limit (log ++ entry c act ∷ []) (set states key.0 next) owed
written_tables limit log states owed c act key next w low at seen caller_is log_is limit_is fits same calls =
    let k = sym at.1 in
    let fits : FitsAct limit c (spot key.0 log) act = rw (limit_is, caller_is, log_is) fits in
    let same : Matches next (done c (spot key.0 log) act) = rw (caller_is, log_is) same in
    let calls : length (done c (spot key.0 log) act).calls ≡ length (spot key.0 log).calls = rw (caller_is, log_is) calls in
    subst (λ j. AreTables limit (log ++ entry c act ∷ []) (set states j next) owed) at.1
    (tables_more limit log states owed c act next owed w low (subst (λ j. j < NAMES_MAX) k at.0) (subst (λ j. FitsAct limit c (spot j log) act) k fits) (subst (λ j. Matches next (done c (spot j log) act)) k same)
    (subst (λ j. owed + length (spot j log).calls ≡ owed + length (done c (spot j log) act).calls) k (omega (arith, calls))))

-- a call that is decided behind what was known
pub decides_here : (c : ℕ) (old new : List Entry) (q : CallNo) (key owner : KeyId) (look : Look) (args : ArgKinds) (v : Verdict) → new ≡ old ++ entry c (Call key q look.site args v) ∷ [] → IsLookAt owner.0 look old
    → Decides c old new q key owner look args v (Ok tt)
decides_here c old new q key owner look args v is h =
    ([], is ∙ ap (λ w. w ++ entry c (Call key q look.site args v) ∷ []) (sym (append-nil old)), refl, subst (IsLookAt owner.0 look) (sym (append-nil old)) h)
