-- Seats that are split and joined keep the rule.
use Rattle.std.proofs.Common.{◌≡◌, ◌≢◌, ℕ, zero, suc, ◌+◌, ◌<◌, ◌⊎◌, inl, inr, eqb, Bool, true, false, cond, List, [], ◌∷◌, ◌++◌, length, set, sym, refl, ap, ◌∙◌, subst, ⊎_elim}
use Rattle.std.proofs.Common.{arith, eq-eqb, ne_eqb, length-set}
use mathlib.Core.Logic.{dite}
use mathlib.Core.Option.{some, some-injective, some-ne-none}
use native.Mathlib.Decide.{ℕ_discrete}
use lib.ListN.{get_elem?}
use Rattle.atomic_table.specs.Table.{Splits, Joins}
use Rattle.atomic_table.proofs.Lists.{at_set, set_else}
use Rattle.hb_names.specs.Names.{Name}
use Rattle.hb_row.specs.declared.view.View.{View}
use Rattle.hb_row.specs.declared.view.Front.{Front}
use Rattle.hb_row.specs.Row.{Use, callers_max, among, IsKnown, Knows, Rowed, newcomer, forked, front_of, fronts, joined, spent}
use Rattle.hb_row.proofs.ListLemmas.{at_behind, at_either}

pub among_one : (c m : ℕ) → among c (m ∷ []) ≡ true → c ≡ m
among_one c m has = dite (ℕ_discrete c m) (λ is. is) (λ ne. absurd (let h = ne_eqb c m ne in let g : cond (eqb c m) true false ≡ true = has in
    let f : cond false true false ≡ true = subst (λ b. cond b true false ≡ true) h g in cc f))

one_of : {A : Type 0} (a b : A) (i : ℕ) → get_elem? (a ∷ []) i ≡ some b → a ≡ b
one_of a b zero e = some-injective a b e
one_of a b (suc i) e = absurd (some-ne-none b (sym e))

pub among_itself : (m : ℕ) (ms : List ℕ) → among m (m ∷ ms) ≡ true
among_itself m ms = subst (λ b. cond b true (among m ms) ≡ true) (sym (eq-eqb m m refl)) refl

pub among_left : (c : ℕ) (xs ys : List ℕ) → among c xs ≡ true → among c (xs ++ ys) ≡ true
among_left c [] ys has = absurd (cc has)
among_left c (x ∷ xs) ys has = dite (ℕ_discrete c x) (λ is. rw (eq-eqb c x is) refl) (λ ne. let h = ne_eqb c x ne in
    rw h (among_left c xs ys (let g : cond false true (among c xs) ≡ true = subst (λ b. cond b true (among c xs) ≡ true) h has in g)))

pub among_right : (c : ℕ) (xs ys : List ℕ) → among c ys ≡ true → among c (xs ++ ys) ≡ true
among_right c [] ys has = has
among_right c (x ∷ xs) ys has = elim (eqb c x) as (λ b. cond b true (among c (xs ++ ys)) ≡ true) [ true ↦ refl | false ↦ among_right c xs ys has ]

pub among_either : (c : ℕ) (xs ys : List ℕ) → among c (xs ++ ys) ≡ true → (among c xs ≡ true) ⊎ (among c ys ≡ true)
among_either c [] ys has = inr has
among_either c (x ∷ xs) ys has = dite (ℕ_discrete c x) (λ is. inl (rw (eq-eqb c x is) refl)) (λ ne. let h = ne_eqb c x ne in
    ⊎_elim (λ t. inl (rw h t)) (λ t. inr t) (among_either c xs ys (let g : cond false true (among c (xs ++ ys)) ≡ true = subst (λ b. cond b true (among c (xs ++ ys)) ≡ true) h has in g)))

-- the fronts that a view has put together, its own among them
pub fronts_known : (words : List ℕ) (names : List Name) (made : ℕ) (owner : ℕ → ℕ) (placed : ℕ → List Name) (use_of : ℕ → Use) (j : ℕ) (v : View) → Knows words names made owner placed use_of j v
    → (i : ℕ) (f : Front) → get_elem? (fronts v) i ≡ some f → IsKnown names placed v.owns f
fronts_known words names made owner placed use_of j v k i f there =
    let seen : (b : Bool) → v.shut ≡ b → get_elem? (cond b v.took (front_of v ∷ [])) i ≡ some f → IsKnown names placed v.owns f = elim [
      | true ↦ λ shut at. k.taken i f shut at
      | false ↦ λ still at. (let same = one_of (front_of v) f i at in subst (IsKnown names placed v.owns) same (k.itself, k.front, k.mine still))
    ] in seen v.shut refl there

pub splits : (id : ℕ) (v : View) → v.caller ≡ 0 → v.live ≡ true → v.made < callers_max → Splits Rowed id v (forked v) (newcomer v.made 0)
splits id v zero_is live room s r at =
    let me = r.seats id v at live in
    let mine = me.own v.caller me.itself in
    let made_is : v.made ≡ r.made = me.first zero_is in
    let w : View = newcomer v.made 0 in
    let owner' : ℕ → ℕ = λ c. cond (eqb c r.made) (length s.views) (r.owner c) in
    let old_owner : (c : ℕ) → c < r.made → owner' c ≡ r.owner c = λ c l. (let e = ne_eqb c r.made (λ h. omega arith) in rw e refl) in
    record {
      names = r.names;
      made = r.made + 1;
      owner = owner';
      placed = r.placed;
      use_of = r.use_of;
      few = omega arith;
      fits = r.fits;
      wide = r.wide;
      distinct = r.distinct;
      valid = r.valid;
      taken = λ i p e. (let o = r.taken i p e in let l = o.was_made in record {
        caller = o.caller;
        number = o.number;
        was_made = omega arith;
        was_placed = o.was_placed;
        offer = o.offer;
        low = o.low;
        used = o.used;
        named = o.named;
        spelt_there = o.spelt_there;
      });
      open_ = r.open_;
      waiting = r.waiting;
      unmade = λ c late. r.unmade c (omega arith);
      unused = λ c late low. r.unused c (omega arith) low;
      seats = λ j u there alive. ⊎_elim
          (λ (t : get_elem? (set s.views id (forked v)) j ≡ some u). ⊎_elim
          (λ (p : (j ≡ id) × (forked v ≡ u)). subst (λ (z : ℕ × View). Knows s.words r.names (r.made + 1) owner' r.placed r.use_of z.0 z.1) (λ i. (sym p.0 i, p.1 i)) record {
            front = me.front;
            itself = me.itself;
            first = λ _. (omega arith);
            own = λ c has. (let o = me.own c has in (omega arith, old_owner c o.0 ∙ o.1));
            mine = me.mine;
            taken = me.taken;
            offers_long = me.offers_long;
            rows = me.rows;
            short = me.short;
            drafts = me.drafts;
            drafted = me.drafted;
          })
          (λ (p : (j ≢ id) × (get_elem? s.views j ≡ some u)). let k = r.seats j u p.1 alive in record {
            front = k.front;
            itself = k.itself;
            first = λ z. absurd (p.0 (let o = k.own u.caller k.itself in sym o.1 ∙ (ap r.owner (z ∙ sym zero_is) ∙ mine.1)));
            own = λ c has. (let o = k.own c has in (omega arith, old_owner c o.0 ∙ o.1));
            mine = k.mine;
            taken = k.taken;
            offers_long = k.offers_long;
            rows = k.rows;
            short = k.short;
            drafts = k.drafts;
            drafted = k.drafted;
          })
          (at_set s.views id j (forked v) u t))
          (λ (t : (j ≡ length (set s.views id (forked v))) × (w ≡ u)). subst (λ (z : ℕ × View). Knows s.words r.names (r.made + 1) owner' r.placed r.use_of z.0 z.1) (λ i. (sym t.0 i, t.1 i)) record {
            front = (r.names, refl);
            itself = among_itself v.made [];
            first = λ z. absurd (let l = mine.0 in omega arith);
            own = λ c has. (let is : c ≡ r.made = among_one c v.made has ∙ made_is in let e = eq-eqb c r.made is in
                (omega arith, rw e (sym (length-set s.views id (forked v)))));
            mine = λ _. r.unmade v.made (omega arith);
            taken = λ i f shut _. absurd (let e : false ≡ true = shut in cc e);
            offers_long = refl;
            rows = λ k l. absurd (omega arith);
            short = omega arith;
            drafts = λ _. r.unused v.made (omega arith) room;
            drafted = λ k _ l. absurd (omega arith);
          })
          (at_behind (set s.views id (forked v)) w u j there);
    }

pub joins : (id other : ℕ) (v w : View) → v.live ≡ true → w.live ≡ true → Joins Rowed id v other w (joined v w) spent
joins id other v w live alive_too s r at apart at_other =
    let me = r.seats id v at live in
    let there_other : get_elem? s.views other ≡ some w = sym (set_else s.views id other (joined v w) apart) ∙ at_other in
    let it = r.seats other w there_other alive_too in
    let owner' : ℕ → ℕ = λ c. cond (among c w.owns) id (r.owner c) in
    let not_theirs : (c j : ℕ) → j ≢ other → r.owner c ≡ j → owner' c ≡ j = λ c j ne own.
    (let seen : (b : Bool) → among c w.owns ≡ b → cond b id (r.owner c) ≡ j = elim [ true ↦ λ has. absurd (ne (sym own ∙ (it.own c has).1)) | false ↦ λ _. own ] in seen (among c w.owns) refl) in
    record {
      names = r.names;
      made = r.made;
      owner = owner';
      placed = r.placed;
      use_of = r.use_of;
      few = r.few;
      fits = r.fits;
      wide = r.wide;
      distinct = r.distinct;
      valid = r.valid;
      taken = r.taken;
      open_ = r.open_;
      waiting = r.waiting;
      unmade = r.unmade;
      unused = r.unused;
      seats = λ j u there alive. ⊎_elim
          (λ (t : (j ≡ other) × (spent ≡ u)). absurd (let e : false ≡ true = ap (λ (z : View). z.live) t.1 ∙ alive in cc e))
          (λ (t : (j ≢ other) × (get_elem? (set s.views id (joined v w)) j ≡ some u)). ⊎_elim
          (λ (p : (j ≡ id) × (joined v w ≡ u)). subst (λ (z : ℕ × View). Knows s.words r.names r.made owner' r.placed r.use_of z.0 z.1) (λ i. (sym p.0 i, p.1 i)) record {
            front = me.front;
            itself = among_left v.caller v.owns w.owns me.itself;
            first = me.first;
            own = λ c has. ⊎_elim
                (λ (h : among c v.owns ≡ true). (let o = me.own c h in (o.0, not_theirs c id (λ e. apart (sym e)) o.1)))
                (λ (h : among c w.owns ≡ true). (let o = it.own c h in (o.0, rw h refl)))
                (among_either c v.owns w.owns has);
            mine = λ still. absurd (let e : true ≡ false = still in cc e);
            taken = λ i f _ there. ⊎_elim
                (λ (t : (i : ℕ) × (get_elem? (fronts v) i ≡ some f)). (let h = fronts_known s.words r.names r.made r.owner r.placed r.use_of id v me t.0 f t.1 in
                (among_left f.caller v.owns w.owns h.0, h.1, h.2)))
                (λ (t : (i : ℕ) × (get_elem? (fronts w) i ≡ some f)). (let h = fronts_known s.words r.names r.made r.owner r.placed r.use_of other w it t.0 f t.1 in
                (among_right f.caller v.owns w.owns h.0, h.1, h.2)))
                (at_either (fronts v) (fronts w) f i there);
            offers_long = me.offers_long;
            rows = me.rows;
            short = me.short;
            drafts = λ still. absurd (let e : true ≡ false = still in cc e);
            drafted = λ k still. absurd (let e : true ≡ false = still in cc e);
          })
          (λ (p : (j ≢ id) × (get_elem? s.views j ≡ some u)). let k = r.seats j u p.1 alive in record {
            front = k.front;
            itself = k.itself;
            first = k.first;
            own = λ c has. (let o = k.own c has in (o.0, not_theirs c j t.0 o.1));
            mine = k.mine;
            taken = k.taken;
            offers_long = k.offers_long;
            rows = k.rows;
            short = k.short;
            drafts = k.drafts;
            drafted = k.drafted;
          })
          (at_set s.views id j (joined v w) u t.1))
          (at_set (set s.views id (joined v w)) other j spent u there);
    }
