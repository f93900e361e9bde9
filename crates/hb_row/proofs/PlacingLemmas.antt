-- A step on the row keeps the rule.
use Rattle.std.proofs.Common.{◌≡◌, ◌≢◌, ℕ, zero, suc, ◌+◌, ◌*◌, ◌<◌, ◌≤◌, eqb, ltb, true, false, cond, None, List, [], ◌∷◌, ◌++◌, length, get_or, set, take, sym, refl, ap, ◌∙◌, subst}
use Rattle.std.proofs.Common.{⊎_elim, arith, length-set, get_or-set_same, get_or-set_other, eq-eqb, ne_eqb, lt-ltb, le-ltb, append_assoc}
use mathlib.Core.Logic.{dite}
use mathlib.Core.Option.{Option, some, none, some-injective, some-ne-none}
use native.Mathlib.Decide.{ℕ_discrete, dec_lt}
use lib.ListN.{get_elem?}
use prog.Atomic.{either}
use Rattle.std.proofs.lemmas.List.{append-nil, length_push, length-take-le, get_or_push, get_or_append_left, get_or-take, set-get_or}
use Rattle.atomic_table.specs.Table.{State, opening, step, keeps, stepped, Allows, Act, Valid, carried_after}
use Rattle.atomic_table.proofs.Lists.{at_set, set_again, at_longer, at_last, exchanged}
use Rattle.hb_names.specs.Names.{Name, place}
use Rattle.hb_names.specs.declared.names.TheConstants.{NAMES_MAX}
use Rattle.hb_row.specs.declared.view.View.{View}
use Rattle.hb_row.specs.Row.{Use, waits, drafted_by, stands_at, spelt, row_at, offer_at, offer_name, next_offer, callers_max, offers_max, words_max, among}
use Rattle.hb_row.specs.Row.{IsValid, IsDrafted, Stands, Knows, Rowed, Sat, places, drafts, with_draft}
use Rattle.hb_row.specs.Row.{with_known, with_placed, Reaches, newcomer, reads, spells}
use Rattle.hb_row.proofs.ListLemmas.{within, at_there, prefix_length, prefix_whole, prefix_next, at_behind, nowhere, never}

abbrev St : Type 0
St = State (Unit {0}) View

-- one use is not another
stands-drafted : (i c : ℕ) → stands_at i ≢ drafted_by c
stands-drafted i c e = cc e

stands-waits : (i : ℕ) → stands_at i ≢ waits
stands-waits i e = cc e

drafted-waits : (c : ℕ) → drafted_by c ≢ waits
drafted-waits c e = cc e

abbrev drafter : Use → ℕ
drafter (drafted_by c) = c
drafter _ = 0

drafter-same : (c d : ℕ) → drafted_by c ≡ drafted_by d → c ≡ d
drafter-same c d e = ap drafter e

module _ (s : St) (r : Rowed s) (id : ℕ) (v : View) (at : get_elem? s.views id ≡ some v) (live : v.live ≡ true) where
  mine : Knows s.words r.names r.made r.owner r.placed r.use_of id v
  mine = r.seats id v at live

  own_caller : (v.caller < r.made) × (r.owner v.caller ≡ id)
  own_caller = (mine).own v.caller (mine).itself

  -- where the word of the first unknown place is 0, the known names are all there are
  all_known : length v.known < NAMES_MAX → get_or s.words (row_at (length v.known)) 0 ≡ 0 → v.known ≡ r.names
  all_known inside is = prefix_whole v.known r.names (mine).front (dite (dec_lt (length v.known) (length r.names))
      (λ l. let t = at_there r.names (length v.known) l in let st = r.taken (length v.known) t.0 t.1 in absurd (let n = st.named in omega arith))
      (λ ge. omega arith))

  -- where it is another, a name stands there
  one_more : length v.known < NAMES_MAX → get_or s.words (row_at (length v.known)) 0 ≢ 0 → (p : Name) × (get_elem? r.names (length v.known) ≡ some p)
  one_more inside other = dite (dec_lt (length v.known) (length r.names)) (λ l. at_there r.names (length v.known) l) (λ ge. absurd (other (r.open_ (length v.known) (omega arith) inside)))

  -- its row word names an offer, and the name is valid and was not known
  one_more_is : (p : Name) → get_elem? r.names (length v.known) ≡ some p → IsValid p × (place v.known p ≡ None) × (get_or s.words (row_at (length v.known)) 0 ≤ offers_max)
  one_more_is p e = let st = r.taken (length v.known) p e in let low = st.low in let named = st.named in (
    r.valid (length v.known) p e,
    nowhere v.known p (λ i there. let l = within v.known i p there in let same = r.distinct i (length v.known) p (subst
        (λ l. get_elem? l i ≡ some p) (mine).front.1 (at_longer v.known (mine).front.0 i p there)) e in omega arith),
    omega arith,
  )

  longer_offers : (n : ℕ) (p : Name) → length (v.offers ++ n ∷ []) ≡ length (v.known ++ p ∷ [])
  longer_offers n p = let a = length_push v.offers n in let b = length_push v.known p in let c = (mine).offers_long in omega (arith, a, b, c)

  -- the row words of the known places, where one more is known
  own_row : (ns : List ℕ) (n : ℕ) (p : Name) (k : ℕ) → k < length (v.known ++ p ∷ []) → get_or ns (row_at (length v.known)) 0 ≡ n → (k ≢ length v.known
      → get_or ns (row_at k) 0 ≡ get_or s.words (row_at k) 0)
      → get_or ns (row_at k) 0 ≡ get_or (v.offers ++ n ∷ []) k 0
  own_row ns n p k l here stay = let b = length_push v.known p in let c = (mine).offers_long in dite (ℕ_discrete k (length v.known))
      (λ is. ap (λ z. get_or ns (row_at z) 0) is ∙ (here ∙ sym (get_or_push v.offers n 0 k (c ∙ sym is))))
      (λ ne. stay ne ∙ ((mine).rows k (omega (arith, b, l, ne)) ∙ sym (get_or_append_left v.offers (n ∷ []) 0 k (omega (arith, b, c, l, ne)))))

  -- the pair is placed
  module _ (p : Name) (inside : length v.known < NAMES_MAX) (free : get_or s.words (row_at (length v.known)) 0 ≡ 0) (new : place v.known p ≡ None)
      (ok : IsValid p) (room : v.offer < offers_max) (open_still : v.shut ≡ false) (ready : IsDrafted p v.draft) where
    abbrev i : ℕ
    i = length v.known

    abbrev word : ℕ
    word = offer_name v.offer

    abbrev ws : List ℕ
    ws = set s.words (row_at i) word

    abbrev names' : List Name
    names' = r.names ++ p ∷ []

    abbrev placed' : ℕ → List Name
    placed' c = cond (eqb c v.caller) (v.placed ++ p ∷ []) (r.placed c)

    -- the offer stands at its place now, and that of the place is its caller's next
    abbrev use_of' : ℕ → Use
    use_of' n = cond (eqb n v.offer) (stands_at i) (cond (eqb n (next_offer i)) (drafted_by v.caller) (r.use_of n))

    abbrev w : View
    w = with_placed v p word

    all_placed : r.placed v.caller ≡ v.placed
    all_placed = (mine).mine open_still

    here : v.known ≡ r.names
    here = all_known inside free

    long : length r.names ≡ i
    long = ap length (sym here)

    own_placed : placed' v.caller ≡ v.placed ++ p ∷ []
    own_placed = let e = eq-eqb v.caller v.caller refl in rw e refl

    other_placed : (c : ℕ) → c ≢ v.caller → placed' c ≡ r.placed c
    other_placed c ne = let e = ne_eqb c v.caller ne in rw e refl

    -- what was placed stays
    still : (c n : ℕ) (q : Name) → get_elem? (r.placed c) n ≡ some q → get_elem? (placed' c) n ≡ some q
    still c n q e = dite (ℕ_discrete c v.caller)
        (λ is. subst (λ d. get_elem? (placed' d) n ≡ some q) (sym is) (subst (λ l. get_elem? l n ≡ some q) (sym own_placed)
        (at_longer v.placed (p ∷ []) n q (subst (λ l. get_elem? l n ≡ some q) all_placed (subst (λ d. get_elem? (r.placed d) n ≡ some q) is e)))))
        (λ ne. subst (λ l. get_elem? l n ≡ some q) (sym (other_placed c ne)) e)

    waited : r.use_of (next_offer i) ≡ waits
    waited = r.waiting i (let l = long in omega (arith, l))

    used_here : use_of' v.offer ≡ stands_at i
    used_here = let e = eq-eqb v.offer v.offer refl in rw e refl

    used_next : use_of' (next_offer i) ≡ drafted_by v.caller
    used_next =
        let e = ne_eqb (next_offer i) v.offer (λ h. drafted-waits v.caller (sym ((mine).drafts open_still) ∙ ap r.use_of (sym h) ∙ waited)) in
        let f = eq-eqb (next_offer i) (next_offer i) refl in rw e (rw f refl)

    used_else : (n : ℕ) → n ≢ v.offer → n ≢ next_offer i → use_of' n ≡ r.use_of n
    used_else n other later = let e = ne_eqb n v.offer other in let f = ne_eqb n (next_offer i) later in rw e (rw f refl)

    -- no offer's word is that of a place
    offers_stay : (n j : ℕ) → get_or ws (offer_at n + j) 0 ≡ get_or s.words (offer_at n + j) 0
    offers_stay n j = get_or-set_other s.words (row_at i) (offer_at n + j) word 0 (λ h. omega arith)

    stands : (k : ℕ) (q : Name) → get_elem? names' k ≡ some q → Stands ws placed' use_of' r.made k q
    stands k q e = ⊎_elim
        (λ (t : get_elem? r.names k ≡ some q). let o = r.taken k q t in let l = within r.names k q t in record {
          caller = o.caller;
          number = o.number;
          was_made = o.was_made;
          was_placed = still o.caller o.number q o.was_placed;
          offer = o.offer;
          low = o.low;
          used = used_else o.offer
              (λ h. stands-drafted k v.caller (sym o.used ∙ ap r.use_of h ∙ (mine).drafts open_still))
              (λ h. stands-waits k (sym o.used ∙ ap r.use_of h ∙ waited)) ∙ o.used;
          named = get_or-set_other s.words (row_at i) (row_at k) word 0 (λ h. let m = long in omega arith) ∙ o.named;
          spelt_there = λ j l. offers_stay o.offer j ∙ o.spelt_there j l;
        })
        (λ (t : (k ≡ length r.names) × (p ≡ q)). record {
          caller = v.caller;
          number = length v.placed;
          was_made = own_caller.0;
          was_placed = subst (λ l. get_elem? l (length v.placed) ≡ some q) (sym own_placed) (subst
              (λ z. get_elem? (v.placed ++ p ∷ []) (length v.placed) ≡ some z) t.1 (at_last v.placed p (length v.placed) refl));
          offer = v.offer;
          low = room;
          used = used_here ∙ ap stands_at (sym (t.0 ∙ long));
          named = ap (λ z. get_or ws (row_at z) 0) (t.0 ∙ long) ∙ get_or-set_same s.words (row_at i) word 0 (let wide = r.wide in omega arith);
          spelt_there = λ j l. offers_stay v.offer j ∙ ((mine).drafted j open_still (let d = ready.0 in omega arith) ∙ (ready.1 j l ∙ ap (λ z. spelt z j) t.1));
        })
        (at_behind r.names p q k e)

    unheard : (k : ℕ) → get_elem? r.names k ≡ some p → ⊥
    unheard k e = never v.known p new k (subst (λ l. get_elem? l k ≡ some p) (sym here) e)

    pub placed_so : (homes : List (mathlib.Core.Option.Option (Unit {0}))) → Rowed record { words = ws; homes = homes; views = set s.views id w }
    placed_so homes = record {
      names = names';
      made = r.made;
      owner = r.owner;
      placed = placed';
      use_of = use_of';
      few = r.few;
      fits = (let n = length_push r.names p in let m = long in omega arith);
      wide = length-set s.words (row_at i) word ∙ r.wide;
      distinct = λ j k q a b. ⊎_elim
          (λ (t : get_elem? r.names j ≡ some q). ⊎_elim (λ (u : get_elem? r.names k ≡ some q). r.distinct j k q t u)
          (λ (u : (k ≡ length r.names) × (p ≡ q)). absurd (unheard j (subst (λ z. get_elem? r.names j ≡ some z) (sym u.1) t))) (at_behind r.names p q k b))
          (λ (t : (j ≡ length r.names) × (p ≡ q)). ⊎_elim (λ (u : get_elem? r.names k ≡ some q). absurd (unheard k (subst (λ z. get_elem? r.names k ≡ some z) (sym t.1) u)))
          (λ (u : (k ≡ length r.names) × (p ≡ q)). t.0 ∙ sym u.0) (at_behind r.names p q k b))
          (at_behind r.names p q j a);
      valid = λ k q a. ⊎_elim (λ (t : get_elem? r.names k ≡ some q). r.valid k q t) (λ (t : (k ≡ length r.names) × (p ≡ q)). subst IsValid t.1 ok) (at_behind r.names p q k a);
      taken = stands;
      open_ = λ k late low. (let n = length_push r.names p in let m = long in
          get_or-set_other s.words (row_at i) (row_at k) word 0 (λ h. omega arith) ∙ r.open_ k (omega arith) low);
      waiting = λ k late. (let n = length_push r.names p in let m = long in let before = r.waiting k (omega (arith, late, n)) in
          used_else (next_offer k) (λ h. drafted-waits v.caller (sym ((mine).drafts open_still) ∙ ap r.use_of (sym h) ∙ before)) (λ h. omega (arith, h, late, n, m)) ∙ before);
      unmade = λ c late. other_placed c (λ h. let l = own_caller.0 in omega arith) ∙ r.unmade c late;
      unused = λ c late low. (let before = r.unused c late low in let l = own_caller.0 in
          used_else c (λ h. let e = drafter-same c v.caller (sym before ∙ ap r.use_of h ∙ (mine).drafts open_still) in omega (arith, e, l, late)) (λ h. omega (arith, h, low)) ∙ before);
      seats = λ j u there alive. ⊎_elim
          (λ (t : (j ≡ id) × (w ≡ u)). subst (λ (z : ℕ × View). Knows ws names' r.made r.owner placed' use_of' z.0 z.1) (λ k. (sym t.0 k, t.1 k)) record {
            front = ([], append-nil (v.known ++ p ∷ []) ∙ ap (λ z. z ++ p ∷ []) here);
            itself = (mine).itself;
            first = (mine).first;
            own = (mine).own;
            mine = λ _. own_placed;
            taken = λ k f shut _. absurd (let e : true ≡ false = sym shut ∙ open_still in cc e);
            offers_long = longer_offers word p;
            rows = λ k l. own_row ws word p k l (get_or-set_same s.words (row_at i) word 0 (let wide = r.wide in
                omega arith)) (λ ne. get_or-set_other s.words (row_at i) (row_at k) word 0 (λ h. ne (omega arith)));
            short = omega arith;
            drafts = λ _. used_next;
            drafted = λ k _ l. absurd (omega arith);
          })
          (λ (t : (j ≢ id) × (get_elem? s.views j ≡ some u)). let k = r.seats j u t.1 alive in
          let apart : (c : ℕ) → among c u.owns ≡ true → c ≢ v.caller = λ c has e. t.0 (sym (k.own c has).1 ∙ (ap r.owner e ∙ own_caller.1)) in record {
            front = (k.front.0 ++ p ∷ [], sym (append_assoc u.known k.front.0 (p ∷ [])) ∙ ap (λ z. z ++ p ∷ []) k.front.1);
            itself = k.itself;
            first = k.first;
            own = k.own;
            mine = λ still. other_placed u.caller (apart u.caller k.itself) ∙ k.mine still;
            taken = λ i f shut there. (let o = k.taken i f shut there in (
              o.0,
              (o.1.0 ++ p ∷ [], sym (append_assoc f.known o.1.0 (p ∷ [])) ∙ ap (λ z. z ++ p ∷ []) o.1.1),
              other_placed f.caller (apart f.caller o.0) ∙ o.2,
            ));
            offers_long = k.offers_long;
            rows = λ n l. (let le = prefix_length u.known r.names k.front in let m = long in get_or-set_other s.words (row_at i) (row_at n) word 0 (λ h. omega arith) ∙ k.rows n l);
            short = k.short;
            drafts = λ still. (let theirs = k.drafts still in
                used_else u.offer (λ h. apart u.caller k.itself (drafter-same u.caller v.caller (sym theirs ∙ ap r.use_of h ∙ (mine).drafts open_still)))
                (λ h. drafted-waits u.caller (sym theirs ∙ ap r.use_of h ∙ waited)) ∙ theirs);
            drafted = λ n still l. offers_stay u.offer n ∙ k.drafted n still l;
          })
          (at_set s.views id j w u there);
    }

  abbrev learned : Name → View
  learned p = with_known v p (get_or s.words (row_at (length v.known)) 0)

  -- a name that stands at the first unknown place is learned
  pub reached : (ns : List ℕ) (homes : List (mathlib.Core.Option.Option (Unit {0}))) (p : Name) → ns ≡ s.words → get_elem? r.names (length v.known) ≡ some p
      → Rowed record { words = ns; homes = homes; views = set s.views id (learned p) }
  reached ns homes p same next = subst (λ (l : List ℕ). Rowed record { words = l; homes = homes; views = set s.views id (learned p) }) (sym same) record {
    names = r.names;
    made = r.made;
    owner = r.owner;
    placed = r.placed;
    use_of = r.use_of;
    few = r.few;
    fits = r.fits;
    wide = r.wide;
    distinct = r.distinct;
    valid = r.valid;
    taken = r.taken;
    open_ = r.open_;
    waiting = r.waiting;
    unmade = r.unmade;
    unused = r.unused;
    seats = λ j u there alive. ⊎_elim
        (λ (t : (j ≡ id) × (learned p ≡ u)). subst (λ (z : ℕ × View). Knows s.words r.names r.made r.owner r.placed r.use_of z.0 z.1) (λ k. (sym t.0 k, t.1 k)) record {
          front = prefix_next v.known r.names p (mine).front next;
          itself = (mine).itself;
          first = (mine).first;
          own = (mine).own;
          mine = (mine).mine;
          taken = (mine).taken;
          offers_long = longer_offers (get_or s.words (row_at (length v.known)) 0) p;
          rows = λ k l. own_row s.words (get_or s.words (row_at (length v.known)) 0) p k l refl (λ _. refl);
          short = (mine).short;
          drafts = (mine).drafts;
          drafted = (mine).drafted;
        })
        (λ (t : (j ≢ id) × (get_elem? s.views j ≡ some u)). r.seats j u t.1 alive)
        (at_set s.views id j (learned p) u there);
  }

  -- a word of the seat's offer is stored
  pub drafted_so : (i x : ℕ) (homes : List (mathlib.Core.Option.Option (Unit {0}))) → i ≤ length v.draft → i < 9 → v.offer < offers_max → v.shut ≡ false
      → Rowed record { words = set s.words (offer_at v.offer + i) x; homes = homes; views = set s.views id (with_draft v i x) }
  drafted_so i x homes le inside room open_still =
      let at_word : ℕ = offer_at v.offer + i in
      let others_stay : (n j : ℕ) → j < 9 → n ≢ v.offer → get_or (set s.words at_word x) (offer_at n + j) 0 ≡ get_or s.words (offer_at n + j) 0 = λ n j l other.
      get_or-set_other s.words at_word (offer_at n + j) x 0 (λ h. other (omega (arith, h, l, inside))) in
      let rows_stay : (k : ℕ) → k < NAMES_MAX → get_or (set s.words at_word x) (row_at k) 0 ≡ get_or s.words (row_at k) 0 = λ k l. get_or-set_other s.words at_word (row_at k) x 0 (λ h. omega arith) in
      let long : length (take i v.draft) ≡ i = length-take-le i v.draft le in
      let longer = length_push (take i v.draft) x in
      record {
        names = r.names;
        made = r.made;
        owner = r.owner;
        placed = r.placed;
        use_of = r.use_of;
        few = r.few;
        fits = r.fits;
        wide = length-set s.words at_word x ∙ r.wide;
        distinct = r.distinct;
        valid = r.valid;
        taken = λ k q e. (let o = r.taken k q e in let l = within r.names k q e in let f = r.fits in record {
          caller = o.caller;
          number = o.number;
          was_made = o.was_made;
          was_placed = o.was_placed;
          offer = o.offer;
          low = o.low;
          used = o.used;
          named = rows_stay k (omega arith) ∙ o.named;
          spelt_there = λ j l. others_stay o.offer j l (λ h. stands-drafted k v.caller (sym o.used ∙ ap r.use_of h ∙ (mine).drafts open_still)) ∙ o.spelt_there j l;
        });
        open_ = λ k late l. rows_stay k l ∙ r.open_ k late l;
        waiting = r.waiting;
        unmade = r.unmade;
        unused = r.unused;
        seats = λ j u there alive. ⊎_elim
            (λ (t : (j ≡ id) × (with_draft v i x ≡ u)). subst (λ (z : ℕ × View). Knows (set s.words at_word x) r.names r.made r.owner r.placed r.use_of z.0 z.1) (λ k. (sym t.0 k, t.1 k)) record {
              front = (mine).front;
              itself = (mine).itself;
              first = (mine).first;
              own = (mine).own;
              mine = (mine).mine;
              taken = (mine).taken;
              offers_long = (mine).offers_long;
              rows = λ k l. (let le = prefix_length v.known r.names (mine).front in let f = r.fits in rows_stay k (omega arith) ∙ (mine).rows k l);
              short = omega arith;
              drafts = (mine).drafts;
              drafted = λ k _ l. dite (ℕ_discrete k i)
                  (λ is. ap (λ z. get_or (set s.words at_word x) (offer_at v.offer + z) 0) is ∙ (get_or-set_same s.words at_word x 0 (let wide = r.wide in omega arith)
                  ∙ sym (ap (λ z. get_or (take i v.draft ++ x ∷ []) z 0) is ∙ get_or_push (take i v.draft) x 0 i long)))
                  (λ ne. get_or-set_other s.words at_word (offer_at v.offer + k) x 0 (λ h. ne (omega arith)) ∙ ((mine).drafted k open_still (omega arith)
                  ∙ sym (get_or_append_left (take i v.draft) (x ∷ []) 0 k (omega arith) ∙ get_or-take i v.draft k 0 (omega arith))));
            })
            (λ (t : (j ≢ id) × (get_elem? s.views j ≡ some u)). let k = r.seats j u t.1 alive in
            let theirs = k.own u.caller k.itself in
            let apart : u.caller ≢ v.caller = λ e. t.0 (sym theirs.1 ∙ (ap r.owner e ∙ own_caller.1)) in record {
              front = k.front;
              itself = k.itself;
              first = k.first;
              own = k.own;
              mine = k.mine;
              taken = k.taken;
              offers_long = k.offers_long;
              rows = λ n l. (let le = prefix_length u.known r.names k.front in let f = r.fits in rows_stay n (omega arith) ∙ k.rows n l);
              short = k.short;
              drafts = k.drafts;
              drafted = λ n still l. (let sh = k.short in
                  others_stay u.offer n (omega (arith, l, sh)) (λ h. apart (drafter-same u.caller v.caller (sym (k.drafts still) ∙ ap r.use_of h ∙ (mine).drafts open_still))) ∙ k.drafted n still l);
            })
            (at_set s.views id j (with_draft v i x) u there);
      }

same_so : (s : St) (r : Rowed s) (id : ℕ) (v : View) → get_elem? s.views id ≡ some v → (ns : List ℕ) (homes : List (mathlib.Core.Option.Option (Unit {0}))) → ns ≡ s.words
    → Rowed record { words = ns; homes = homes; views = set s.views id v }
same_so s r id v at ns homes same = subst (λ (z : List ℕ × List View). Rowed record { words = z.0; homes = homes; views = z.1 }) (λ k. (sym same k, sym (set_again s.views id v at) k)) record {
  names = r.names;
  made = r.made;
  owner = r.owner;
  placed = r.placed;
  use_of = r.use_of;
  few = r.few;
  fits = r.fits;
  wide = r.wide;
  distinct = r.distinct;
  valid = r.valid;
  taken = r.taken;
  open_ = r.open_;
  waiting = r.waiting;
  unmade = r.unmade;
  unused = r.unused;
  seats = r.seats;
}

module _ (slots id : ℕ) (me : Sat) (live : me.0.live ≡ true) where
  -- what stands at the first unknown place
  abbrev found : St → ℕ
  found s = get_or s.words (row_at (length me.0.known)) 0

  -- what a try for a place may leave there, and what it tells
  abbrev Tries : St → Name → ℕ → ℕ → ℕ → Type 0
  Tries s p word new n =
      (w : View) × (a : Act (Unit {0})) × Valid s.homes me.1 a × Rowed (stepped s word n id me.1 w a)
      × places p (step slots word 0 new none) me (get_or s.words word 0) (w, carried_after me.1 a)

  -- the seat's view is reached by a read or a failed try
  reaches : (s : St) (r : Rowed s) → get_elem? s.views id ≡ some me.0 → length me.0.known < NAMES_MAX → found s ≢ 0
      → (w : View) × Rowed record { words = set s.words (row_at (length me.0.known)) (found s); homes = s.homes; views = set s.views id w } × Reaches me.0 (found s) w
  reaches s r at inside miss =
      let at_place : ℕ = row_at (length me.0.known) in let q = one_more s r id me.0 at live inside miss in let is = one_more_is s r id me.0 at live q.0 q.1 in (
        with_known me.0 q.0 (get_or s.words at_place 0),
        reached s r id me.0 at live (set s.words at_place (get_or s.words at_place 0)) s.homes q.0 (set-get_or s.words at_place 0) q.1,
        (q.0, refl, is.0, is.1, is.2, (r.seats id me.0 at live).offers_long),
      )

  pub drafts_word : (i x : ℕ) → i ≤ length me.0.draft → i < 9 → me.0.offer < offers_max → me.0.shut ≡ false → (word : ℕ) → word ≡ offer_at me.0.offer + i
      → Allows Rowed slots id me word (λ _. x) (λ _. drafts (step slots word x 0 none) me x)
  drafts_word i x le inside room still word is s r _ at _ = (
    with_draft me.0 i x,
    keeps,
    tt,
    subst (λ (k : ℕ). Rowed (stepped s k x id me.1 (with_draft me.0 i x) keeps)) (sym is) (drafted_so s r id me.0 at live i x s.homes le inside room still),
    λ j at_word. (let same : i ≡ j = omega arith in ap (λ k. (with_draft me.0 k x, me.1)) same),
  )

  pub places_name : (p : Name) → length me.0.known < NAMES_MAX → place me.0.known p ≡ None → IsValid p → me.0.offer < offers_max → me.0.shut ≡ false
      → IsDrafted p me.0.draft → (word new : ℕ) → word ≡ row_at (length me.0.known) → new ≡ offer_name me.0.offer
      → Allows Rowed slots id me word (λ n. either (eqb n 0) new n) (places p (step slots word 0 new none) me)
  places_name p inside fresh ok room still ready place_word new is is' s r _ at _ =
      subst (λ (z : ℕ × ℕ). Tries s p z.0 z.1 (either (eqb (get_or s.words z.0 0) 0) z.1 (get_or s.words z.0 0))) (λ k. (sym is k, sym is' k))
      (let at_place : ℕ = row_at (length me.0.known) in let name : ℕ = offer_name me.0.offer in
      exchanged (get_or s.words at_place 0) 0 name (Tries s p at_place name)
      (λ hit. (
        with_placed me.0 p name,
        keeps,
        tt,
        placed_so s r id me.0 at live p inside hit fresh ok room still ready s.homes,
        (refl, (λ _. refl), λ other. absurd (other hit)),
      ))
      (λ miss. let q = reaches s r at inside miss in (q.0, keeps, tt, q.1, (refl, (λ hit. absurd (miss hit)), λ _. q.2))))

  -- the first unknown place is read
  pub reads_place : length me.0.known < NAMES_MAX → (word : ℕ) → word ≡ row_at (length me.0.known) → Allows Rowed slots id me word (λ n. n) (reads (step slots word 0 0 none) me)
  reads_place inside place_word is = subst (λ (k : ℕ). Allows Rowed slots id me k (λ n. n) (reads (step slots k 0 0 none) me)) (sym is) (λ s r _ at _.
      let at_place : ℕ = row_at (length me.0.known) in dite (ℕ_discrete (get_or s.words at_place 0) 0)
      (λ hit. (me.0, keeps, tt, same_so s r id me.0 at (set s.words at_place (get_or s.words at_place 0)) s.homes (set-get_or s.words at_place 0), (refl, (λ _. refl), λ other. absurd (other hit))))
      (λ miss. let q = reaches s r at inside miss in (q.0, keeps, tt, q.1, (refl, (λ hit. absurd (miss hit)), λ _. q.2))))

  -- a word of the offer that stands at a known place is read
  pub spells_word : (word : ℕ) → Allows Rowed slots id me word (λ m. m) (spells (step slots word 0 0 none) me)
  spells_word word s r _ at _ =
      let mine = r.seats id me.0 at live in (
        me.0,
        keeps,
        tt,
        same_so s r id me.0 at (set s.words word (get_or s.words word 0)) s.homes (set-get_or s.words word 0),
        (
          refl,
          λ k j p known is inside.
              (let there : get_elem? r.names k ≡ some p = subst (λ l. get_elem? l k ≡ some p) mine.front.1 (at_longer me.0.known mine.front.0 k p known) in
              let st = r.taken k p there in
              let same : offer_name st.offer ≡ get_or me.0.offers k 0 = sym st.named ∙ mine.rows k (within me.0.known k p known) in
              let e : word ≡ offer_at st.offer + j = omega arith in
              ap (λ z. get_or s.words z 0) e ∙ st.spelt_there j inside),
        ),
      )

one_view : (v u : View) (j : ℕ) → get_elem? (v ∷ []) j ≡ some u → (j ≡ 0) × (v ≡ u)
one_view v u zero e = (refl, some-injective v u e)
one_view v u (suc j) e = absurd (some-ne-none u (sym e))

among_one : (c m : ℕ) → among c (m ∷ []) ≡ true → c ≡ m
among_one c m has = dite (ℕ_discrete c m) (λ is. is) (λ ne. absurd (let h = ne_eqb c m ne in let g : cond (eqb c m) true false ≡ true = has in
    let f : cond false true false ≡ true = subst (λ b. cond b true false ≡ true) h g in cc f))

-- each caller's first offer may be drafted, and the others wait
abbrev first_uses : ℕ → Use
first_uses n = cond (ltb n callers_max) (drafted_by n) waits

-- the row as it is made, of words that are 0
pub opens : (zeros : List ℕ) → length zeros ≡ words_max → ((k : ℕ) → get_or zeros k 0 ≡ 0) → Rowed (opening zeros [] (newcomer 0 1))
opens zeros long blank = record {
  names = [];
  made = 1;
  owner = λ _. 0;
  placed = λ _. [];
  use_of = first_uses;
  few = omega arith;
  fits = omega arith;
  wide = long;
  distinct = λ i j p e _. absurd (some-ne-none p (sym e));
  valid = λ i p e. absurd (some-ne-none p (sym e));
  taken = λ i p e. absurd (some-ne-none p (sym e));
  open_ = λ i _ _. blank (row_at i);
  waiting = λ i _. (let e = le-ltb (next_offer i) callers_max (omega arith) in rw e refl);
  unmade = λ _ _. refl;
  unused = λ c _ low. (let e = lt-ltb c callers_max low in rw e refl);
  seats = λ j u there alive. (let t = one_view (newcomer 0 1) u j there in
      subst (λ (z : ℕ × View). Knows zeros [] 1 (λ _. 0) (λ _. []) first_uses z.0 z.1) (λ i. (sym t.0 i, t.1 i)) record {
        front = ([], refl);
        itself = refl;
        first = λ _. refl;
        own = λ c has. (let is = among_one c 0 has in (omega arith, refl));
        mine = λ _. refl;
        taken = λ k f shut _. absurd (let e : false ≡ true = shut in cc e);
        offers_long = refl;
        rows = λ k l. absurd (omega arith);
        short = omega arith;
        drafts = λ _. refl;
        drafted = λ k _ l. absurd (omega arith);
      });
}
