-- Seats that are split and joined keep the rule.
use Rattle.std.proofs.Common.{◌≡◌, ◌≢◌, ℕ, zero, suc, ◌+◌, ◌<◌, ◌≤◌, eqb, Bool, true, false, cond, List, []}
use Rattle.std.proofs.Common.{◌∷◌, ◌++◌, length, set, replicate, sym, refl, ap, ◌∙◌, subst, ⊎_elim, arith, eq-eqb, ne_eqb, length-set}
use Rattle.std.proofs.lemmas.List.{append-nil, length-replicate, get_or-replicate}
use mathlib.Core.Logic.{dite}
use mathlib.Core.Option.{some, some-injective, some-ne-none}
use native.Mathlib.Decide.{ℕ_discrete, dec_lt}
use lib.ListN.{get_elem?}
use Rattle.atomic_table.specs.Table.{opening, Splits, Joins}
use Rattle.atomic_table.proofs.Lists.{at_set, set_else, set_again, at_longer}
use Rattle.hb_tables.specs.declared.{entry.Entry.Entry, entry.TheConstants.VERSIONS_MAX}
use Rattle.hb_tables.specs.History.{journal}
use Rattle.hb_tables.proofs.HistoryLemmas.{legal_none}
use Rattle.hb_words.specs.declared.{view.View.View, view.Front.Front, layout.TheConstants.WORDS, layout.TheConstants.CALLERS_MAX}
use Rattle.hb_words.specs.Layout.{type_at, def_at}
use Rattle.hb_words.specs.Words.{among, Knows, Kept, newcomer, longer, forked, joined, spent, memory, IsKnown, front_of, fronts, Stands}
use Rattle.hb_words.specs.Steps.{TableState}
use Rattle.hb_words.proofs.AmongLemmas.{among_one, among_itself, among_left, among_right, among_either, stands_alone, stands_either}
use Rattle.hb_words.proofs.BeginningLemmas.{prefix_self, rest_of_others, set_there, at_behind, prefix_length, prefix_whole, longer_begins, between_has, none_before}
use Rattle.hb_words.proofs.RuleLemmas.{knows_there, knows_set}

-- where no caller has an entry, there is none
no_entry : (xs : List Entry) → ((c : ℕ) → journal c xs ≡ []) → xs ≡ []
no_entry [] never = refl
no_entry (x ∷ xs) never = absurd (let n = never x.caller.0 in let e = eq-eqb x.caller.0 x.caller.0 refl in let m : cond true (x ∷ journal x.caller.0 xs) (journal x.caller.0 xs) ≡ [] =
    subst (λ b. cond b (x ∷ journal x.caller.0 xs) (journal x.caller.0 xs) ≡ []) e n in cc m)

-- the fronts that a view has put together, its own among them
pub fronts_known : (limit : ℕ) (log : List Entry) (made : ℕ) (owner : ℕ → ℕ) (j : ℕ) (v : View) → Knows limit log made owner j v → (f : Front) → Stands f (fronts v) → IsKnown log v.owns f
fronts_known limit log made owner j v k f there =
    let seen : (b : Bool) → v.shut ≡ b → Stands f (cond b v.took (front_of v ∷ [])) → IsKnown log v.owns f = elim [
      | true ↦ λ shut at. k.taken at.0 f shut at.1
      | false ↦ λ _ at. subst (IsKnown log v.owns) (stands_alone (front_of v) f at) (k.itself, k.front, (k.own v.caller k.itself).2)
    ] in seen v.shut refl there

pub splits : (limit id : ℕ) (v : View) → v.caller ≡ 0 → v.live ≡ true → v.made < CALLERS_MAX → Splits (Kept limit) id v (forked v) (newcomer v.limit v.made 0 v.seen)
splits limit id v zero_is live room s r at =
    let me = r.seats id v at live in
    let mine = me.own v.caller me.itself in
    let made_is : v.made ≡ r.made = me.first zero_is in
    let w : View = newcomer v.limit v.made 0 v.seen in
    let views = set s.views id (forked v) in
    let owner' : ℕ → ℕ = λ c. cond (eqb c r.made) (length s.views) (r.owner c) in
    let old_owner : (c : ℕ) → c < r.made → owner' c ≡ r.owner c = λ c l. (let e = ne_eqb c r.made (λ h. omega arith) in rw e refl) in
    record {
      log = r.log;
      made = r.made + 1;
      owner = owner';
      few = omega arith;
      low = r.low;
      legal = r.legal;
      unmade = λ c late. r.unmade c (omega arith);
      words = r.words;
      seats = λ j u there alive. ⊎_elim
          (λ (t : get_elem? views j ≡ some u). knows_set limit r.log (r.made + 1) owner' s.views id (forked v) record {
            limit_is = me.limit_is;
            front = me.front;
            itself = me.itself;
            first = λ _. (omega arith);
            own = λ c has. (let o = me.own c has in (omega arith, old_owner c o.0 ∙ o.1, o.2));
            taken = me.taken;
          } (λ i x apart at_i lives. let k = r.seats i x at_i lives in record {
            limit_is = k.limit_is;
            front = k.front;
            itself = k.itself;
            first = λ z. absurd (apart (let o = k.own x.caller k.itself in sym o.1 ∙ (ap r.owner (z ∙ sym zero_is) ∙ mine.1)));
            own = λ c has. (let o = k.own c has in (omega arith, old_owner c o.0 ∙ o.1, o.2));
            taken = k.taken;
          }) j u t alive)
          (λ (t : (j ≡ length views) × (w ≡ u)). knows_there limit r.log (r.made + 1) owner' (length views) j w u t record {
            limit_is = me.limit_is;
            front = me.front;
            itself = among_itself v.made [];
            first = λ z. absurd (let l = mine.0 in omega arith);
            own = λ c has. (let is : c ≡ r.made = among_one c v.made has ∙ made_is in let e = eq-eqb c r.made is in
                (omega arith, rw e (sym (length-set s.views id (forked v))), (let n = r.unmade c (omega arith) in n ∙ sym (none_before c v.seen r.log me.front n))));
            taken = λ i f shut _. absurd (let e : false ≡ true = shut in cc e);
          })
          (at_behind views w u j there);
      whole = (let o = r.whole in dite (ℕ_discrete o.0 id)
          (λ is. let same : v ≡ o.1 = some-injective v o.1 (sym at ∙ (ap (get_elem? s.views) (sym is) ∙ o.2)) in
          (id, forked v, at_longer views (w ∷ []) id (forked v) (set_there s.views id v (forked v) at), live, ap (λ (z : View). z.seen) same ∙ o.4))
          (λ ne. (o.0, o.1, at_longer views (w ∷ []) o.0 o.1 (set_else s.views id o.0 (forked v) ne ∙ o.2), o.3, o.4)));
    }

pub joins : (limit id other : ℕ) (v w : View) → v.live ≡ true → w.live ≡ true → Joins (Kept limit) id v other w (joined v w) spent
joins limit id other v w live alive_too s r at apart at_other =
    let me = r.seats id v at live in
    let there_other : get_elem? s.views other ≡ some w = sym (set_else s.views id other (joined v w) apart) ∙ at_other in
    let it = r.seats other w there_other alive_too in
    let both = longer_begins v.seen w.seen r.log me.front it.front in
    let owner' : ℕ → ℕ = λ c. cond (among c w.owns) id (r.owner c) in
    let not_theirs : (c j : ℕ) → j ≢ other → r.owner c ≡ j → owner' c ≡ j = λ c j ne own.
    (let seen : (b : Bool) → among c w.owns ≡ b → cond b id (r.owner c) ≡ j = elim [ true ↦ λ has. absurd (ne (sym own ∙ (it.own c has).1)) | false ↦ λ _. own ] in seen (among c w.owns) refl) in
    record {
      log = r.log;
      made = r.made;
      owner = owner';
      few = r.few;
      low = r.low;
      legal = r.legal;
      unmade = r.unmade;
      words = r.words;
      seats = λ j u there alive. ⊎_elim
          (λ (t : (j ≡ other) × (spent ≡ u)). absurd (let e : false ≡ true = ap (λ (z : View). z.live) t.1 ∙ alive in cc e))
          (λ (t : (j ≢ other) × (get_elem? (set s.views id (joined v w)) j ≡ some u)). ⊎_elim
          (λ (p : (j ≡ id) × (joined v w ≡ u)). knows_there limit r.log r.made owner' id j (joined v w) u p record {
            limit_is = me.limit_is;
            front = both.begins;
            itself = among_left v.caller v.owns w.owns me.itself;
            first = me.first;
            own = λ c has. ⊎_elim
                (λ (h : among c v.owns ≡ true). (let o = me.own c h in (o.0, not_theirs c id (λ e. apart (sym e)) o.1, between_has c v.seen (longer v.seen w.seen) r.log both.left both.begins o.2)))
                (λ (h : among c w.owns ≡ true). (let o = it.own c h in (o.0, rw h refl, between_has c w.seen (longer v.seen w.seen) r.log both.right both.begins o.2)))
                (among_either c v.owns w.owns has);
            taken = λ i f _ there. ⊎_elim
                (λ (t : Stands f (fronts v)). (let h = fronts_known limit r.log r.made r.owner id v me f t in (among_left f.caller v.owns w.owns h.0, h.1, h.2)))
                (λ (t : Stands f (fronts w)). (let h = fronts_known limit r.log r.made r.owner other w it f t in (among_right f.caller v.owns w.owns h.0, h.1, h.2)))
                (stands_either (fronts v) (fronts w) f (i, there));
          })
          (λ (p : (j ≢ id) × (get_elem? s.views j ≡ some u)). let k = r.seats j u p.1 alive in record {
            limit_is = k.limit_is;
            front = k.front;
            itself = k.itself;
            first = k.first;
            own = λ c has. (let o = k.own c has in (o.0, not_theirs c j t.0 o.1, o.2));
            taken = k.taken;
          })
          (at_set s.views id j (joined v w) u t.1))
          (at_set (set s.views id (joined v w)) other j spent u there);
      whole = (let o = r.whole in
          let here : (joined v w).seen ≡ r.log → (j : ℕ) × (u : View) × (get_elem? (set (set s.views id (joined v w)) other spent) j ≡ some u) × (u.live ≡ true) × (u.seen ≡ r.log) =
          λ e. (id, joined v w, set_else (set s.views id (joined v w)) other id spent (λ h. apart (sym h)) ∙ set_there s.views id v (joined v w) at, live, e) in
          let all : r.log ≡ v.seen → (joined v w).seen ≡ r.log = λ e. prefix_whole (longer v.seen w.seen) r.log both.begins
          (let a = prefix_length v.seen (longer v.seen w.seen) both.left in let b = ap length e in omega (arith, a, b)) in
          let all' : r.log ≡ w.seen → (joined v w).seen ≡ r.log = λ e. prefix_whole (longer v.seen w.seen) r.log both.begins
          (let a = prefix_length w.seen (longer v.seen w.seen) both.right in let b = ap length e in omega (arith, a, b)) in
          dite (ℕ_discrete o.0 id)
          (λ is. let same : v ≡ o.1 = some-injective v o.1 (sym at ∙ (ap (get_elem? s.views) (sym is) ∙ o.2)) in here (all (sym o.4 ∙ ap (λ (z : View). z.seen) (sym same))))
          (λ ne. dite (ℕ_discrete o.0 other)
          (λ is. let same : w ≡ o.1 = some-injective w o.1 (sym there_other ∙ (ap (get_elem? s.views) (sym is) ∙ o.2)) in here (all' (sym o.4 ∙ ap (λ (z : View). z.seen) (sym same))))
          (λ no. (o.0, o.1, set_else (set s.views id (joined v w)) other o.0 spent no ∙ (set_else s.views id o.0 (joined v w) ne ∙ o.2), o.3, o.4))));
    }

pub remembers : (limit id : ℕ) (v : View) → Splits (Kept limit) id v v (memory v)
remembers limit id v s r at =
    let same : set s.views id v ≡ s.views = set_again s.views id v at in
    subst (λ (vs : List View). Kept limit record { words = s.words; homes = s.homes; views = vs ++ memory v ∷ [] }) (sym same) record {
      log = r.log;
      made = r.made;
      owner = r.owner;
      few = r.few;
      low = r.low;
      legal = r.legal;
      unmade = r.unmade;
      words = r.words;
      seats = λ j u there alive. ⊎_elim
          (λ (t : get_elem? s.views j ≡ some u). r.seats j u t alive)
          (λ (t : (j ≡ length s.views) × (memory v ≡ u)). absurd (let e : false ≡ true = ap (λ (z : View). z.live) t.1 ∙ alive in cc e))
          (at_behind s.views (memory v) u j there);
      whole = (let o = r.whole in (o.0, o.1, at_longer s.views (memory v ∷ []) o.0 o.1 o.2, o.3, o.4));
    }

one_view : (v u : View) (j : ℕ) → get_elem? (v ∷ []) j ≡ some u → (j ≡ 0) × (v ≡ u)
one_view v u zero e = (refl, some-injective v u e)
one_view v u (suc j) e = absurd (some-ne-none u (sym e))

-- the table as it is made
pub opens : (limit : ℕ) → limit ≤ VERSIONS_MAX → Kept limit (opening (replicate WORDS 0) [] (newcomer limit 0 1 []))
opens limit low = record {
  log = [];
  made = 1;
  owner = λ _. 0;
  few = omega arith;
  low = low;
  legal = legal_none limit;
  unmade = λ c _. refl;
  words = record { wide = length-replicate {A = ℕ} WORDS 0; types = λ k l. get_or-replicate WORDS (type_at k) 0 0 (omega arith); defs = λ k l. get_or-replicate WORDS (def_at k) 0 0 (omega arith) };
  seats = λ j u there alive. (let t = one_view (newcomer limit 0 1 []) u j there in
      knows_there limit [] 1 (λ _. 0) 0 j (newcomer limit 0 1 []) u t record {
        limit_is = refl;
        front = prefix_self [];
        itself = among_itself 0 [];
        first = λ _. refl;
        own = λ c has. (let is = among_one c 0 has in (omega arith, refl, refl));
        taken = λ i f shut _. absurd (let e : false ≡ true = shut in cc e);
      });
  whole = (0, newcomer limit 0 1 [], refl, refl, refl);
}

-- a seat that owns all callers knows the whole history
pub knows_all : (limit id : ℕ) (v : View) (s : TableState) (r : Kept limit s) → get_elem? s.views id ≡ some v → v.live ≡ true → v.caller ≡ 0 → ((c : ℕ) → c < v.made → among c v.owns ≡ true)
    → v.seen ≡ r.log
knows_all limit id v s r at live zero_is all =
    let me = r.seats id v at live in let made_is = me.first zero_is in
    let none_left : (c : ℕ) → journal c me.front.0 ≡ [] = λ c. dite (dec_lt c v.made)
    (λ l. rest_of_others c v.seen r.log me.front (me.own c (all c l)).2)
    (λ late. (let n = r.unmade c (omega arith) in rest_of_others c v.seen r.log me.front (n ∙ sym (none_before c v.seen r.log me.front n)))) in
    sym (append-nil v.seen) ∙ (ap (λ z. v.seen ++ z) (sym (no_entry me.front.0 none_left)) ∙ me.front.1)
