-- What comes to a caller's front in two parts, one behind the other.
use Rattle.std.proofs.Common.{◌≡◌, ◌⊎◌, inl, inr, ℕ, suc, ◌<◌, ◌≤◌, Bool, true, false, Some, None, map, List, [], ◌∷◌, ◌++◌, length, refl, sym, ap, ◌∙◌, subst, append_assoc, length-append, arith}
use Rattle.std.proofs.lemmas.List.{append-nil}
use Rattle.std.specs.Prelude.{Contains, Option, if◌then◌else◌}
use mathlib.Core.List.{IsPrefix}
use Rattle.hb_tree.specs.Table.{Table}
use Rattle.hb_names.specs.Names.{IsFull, Name}
use Rattle.hb_names.specs.declared.names.TheConstants.{NAMES_MAX}
use Rattle.hb_names.proofs.NameLemmas.{place-longer}
use Rattle.hb_types.specs.declared.types.Ty.{Ty}
use Rattle.hb_types.specs.declared.types.MethodTy.{MethodTy}
use Rattle.hb_types.specs.declared.ids.CallNo.{CallNo}
use Rattle.hb_tree.specs.declared.parts.Body.{Body}
use Rattle.hb_deriv.specs.Judge.{Key, Types}
use Rattle.hb_deriv.specs.Events.{SameAt, looks}
use Rattle.hb_deriv.specs.Derivation.{type_at}
use Rattle.hb_deriv.specs.Programs.{sites_of}
use Rattle.hb_deriv.proofs.LookLemmas.{looks_onward}
use Rattle.hb_tables.specs.Names.{name_of}
use Rattle.hb_tables.specs.Verdicts.{looks_of, subject, takes}
use Rattle.hb_tables.specs.declared.entry.Entry.{Entry}
use Rattle.hb_tables.specs.declared.entry.Act.{Act}
use Rattle.hb_tables.specs.declared.entry.Act.TheVariants.{Hold, Free, Retype, Busy, WornType, Define, WornDef, Call}
use Rattle.hb_tables.specs.Rows.{FitsCall, HoldsName, kinds_of, site_in, types_in}
use Rattle.hb_tables.proofs.RowLemmas.{row_longer}
use Rattle.hb_call.specs.Held.{HasCall}
use Rattle.hb_call.specs.Rules.{FitsFree, FitsHold, FitsRules, HasName, IsNextLook}
use Rattle.hb_call.specs.Growth.{EachNew, Grown, Grows, asked_by, asked_after}

pub prefix_itself : {X : Type 0} (a : List X) → IsPrefix a a
prefix_itself a = ([], append-nil a)

pub prefix_more : {X : Type 0} (a b c : List X) → IsPrefix a b → IsPrefix b c → IsPrefix a c
prefix_more a b c p q = (p.0 ++ q.0, sym (append_assoc a p.0 q.0) ∙ ap (λ w. w ++ q.0) p.1 ∙ q.1)

-- an entry of two lists together stands behind the first, or in it
pub split : (xs ys before after : List Entry) (e : Entry) → xs ++ ys ≡ before ++ e ∷ after → (IsPrefix xs before) ⊎ ((rest : List Entry) × (xs ≡ before ++ e ∷ rest))
split [] ys before after e is = inl (before, refl)
split (x ∷ xs) ys [] after e is = inr (xs, let h : x ≡ e = cc is in ap (λ y. y ∷ xs) h)
split (x ∷ xs) ys (b ∷ before) after e is = let h : x ≡ b = cc is in elim (split xs ys before after e (cc is)) [ inl p ↦ inl (p.0, cc (h, p.1)) | inr r ↦ inr (r.0, cc (h, r.1)) ]

module _ (F : List Entry → Act → Type 0) (c : ℕ) where
  pub each_itself : (log : List Entry) → EachNew F c log log
  each_itself log before after e is p own = absurd (let n = ap length (is ∙ ap (λ w. w ++ e ∷ after) (sym p.1)) in let a = length-append (log ++ p.0) (e ∷ after) in let b = length-append log p.0 in omega (arith, n, a, b))

  pub each_on : (a b d : List Entry) → IsPrefix b d → EachNew F c a b → EachNew F c b d → EachNew F c a d
  each_on a b d p left right before after e is from own = elim (split b p.0 before after e (p.1 ∙ is)) [ inl r ↦ right before after e is r own | inr r ↦ left before r.0 e r.1 from own ]

fits_longer : (t : Table) (names more : List Name) (c : ℕ) (before : List Entry) (a : Act) → FitsCall t names c before a → FitsCall t (names ++ more) c before a
fits_longer t names more c before (Call key q site args v) d = (row_longer t names more before (c, q.0) key.0 site (kinds_of args) v d.0, d.1)
fits_longer t names more c before (Hold key q ty changes) d = d
fits_longer t names more c before (Free key q) d = d
fits_longer t names more c before (Retype key site) d = d
fits_longer t names more c before (Busy key pins) d = d
fits_longer t names more c before (WornType key) d = d
fits_longer t names more c before (Define key site) d = d
fits_longer t names more c before (WornDef key) d = d

-- ── the rules, for longer lists of names ──

types_longer : (t : Table) (names known : List Name) (log : List Entry) (x : ℕ × ℕ) (ks : List Key) → IsPrefix names known → ((p : Name) → Contains (map (name_of t) ks) p → HoldsName names log x p) → SameAt (types_in t names log) (types_in t known log) ks
types_longer t names known log x [] longer h = tt
types_longer t names known log x (k ∷ ks) longer h =
    let one = h (name_of t k) (0, omega arith, refl) in
    (ap (λ o. type_at (sites_of t) (site_in log o)) (one.1 ∙ sym (place-longer names known (name_of t k) one.0 longer one.1)), types_longer t names known log x ks longer (λ p i. h p (let n = i.1 in (suc i.0, omega arith, i.2))))

-- tables that have the same types at the first looks have the next look in common
pub looks_of_on : (t : Table) (T U : Types) (class : ℕ) (b : Option Body) (m : Option MethodTy) (kinds : List Ty) (ks rest : List Key) (k : Key) → looks_of t T class b m kinds ≡ ks ++ k ∷ rest → SameAt T U ks → (others : List Key) × (looks_of t U class b m kinds ≡ ks ++ k ∷ others)
looks_of_on t T U class None m kinds ks rest k e same = absurd (none_there ks e)
  where
    none_there : (ks : List Key) → [] ≡ ks ++ k ∷ rest → ⊥
    none_there [] e = cc e
    none_there (x ∷ ks) e = cc e
looks_of_on t T U class (Some b) None kinds ks rest k e same = absurd (none_there ks e)
  where
    none_there : (ks : List Key) → [] ≡ ks ++ k ∷ rest → ⊥
    none_there [] e = cc e
    none_there (x ∷ ks) e = cc e
looks_of_on t T U class (Some b) (Some m) kinds ks rest k e same = by (takes m kinds) e
  where
    none_there : (ks : List Key) → [] ≡ ks ++ k ∷ rest → ⊥
    none_there [] e = cc e
    none_there (x ∷ ks) e = cc e

    by : (a : Bool) → (if a then looks T (subject t class b m) else []) ≡ ks ++ k ∷ rest → (others : List Key) × ((if a then looks U (subject t class b m) else []) ≡ ks ++ k ∷ others)
    by true e = looks_onward T U (subject t class b m) ks rest k e same
    by false e = absurd (none_there ks e)

-- what is looked at is looked at by a check of a body at a type
pub record AreLooks (t : Table) (T : Types) (class : ℕ) (b : Option Body) (m : Option MethodTy) (ks : List Key) : Type 0 where
  pub body : Body
  pub defined : b ≡ Some body
  pub declared : MethodTy
  pub typed : m ≡ Some declared
  pub order : looks T (subject t class body declared) ≡ ks

pub looks_by : (t : Table) (T : Types) (class : ℕ) (b : Option Body) (m : Option MethodTy) (kinds : List Ty) (ks rest : List Key) (k : Key) → looks_of t T class b m kinds ≡ ks ++ k ∷ rest → AreLooks t T class b m (ks ++ k ∷ rest)
looks_by t T class None m kinds [] rest k e = absurd (cc e)
looks_by t T class None m kinds (x ∷ ks) rest k e = absurd (cc e)
looks_by t T class (Some b) None kinds [] rest k e = absurd (cc e)
looks_by t T class (Some b) None kinds (x ∷ ks) rest k e = absurd (cc e)
looks_by t T class (Some b) (Some m) kinds ks rest k e = by (takes m kinds) e
  where
    none_there : (ks : List Key) → [] ≡ ks ++ k ∷ rest → ⊥
    none_there [] e = cc e
    none_there (x ∷ ks) e = cc e

    by : (a : Bool) → (if a then looks T (subject t class b m) else []) ≡ ks ++ k ∷ rest → AreLooks t T class (Some b) (Some m) (ks ++ k ∷ rest)
    by true e = record { body = b; defined = refl; declared = m; typed = refl; order = e }
    by false e = absurd (none_there ks e)

abbrev next_longer : (t : Table) (names known : List Name) (c : ℕ) (q : CallNo) (log : List Entry) (next : Key) → IsPrefix names known → IsNextLook t names c q log next → IsNextLook t known c q log next
next_longer t names known c q log next longer n =
    let on = looks_onward (types_in t names log) (types_in t known log) (subject t n.name.0 n.body n.declared) n.held n.others next n.order (types_longer t names known log (c, q.0) n.held longer n.holds) in
    record {
      key = n.key;
      start = n.start;
      began = n.began;
      name = n.name;
      named = place-longer names known n.name n.key.0 longer n.named;
      site = n.site;
      had = n.had;
      body = n.body;
      defined = n.defined;
      declared = n.declared;
      typed = n.typed;
      held = n.held;
      others = on.0;
      order = on.1;
      holds = λ p i. let h = n.holds p i in (h.0, place-longer names known p h.0 longer h.1, h.2);
    }

hold_longer : (t : Table) (names known : List Name) (c : ℕ) (log : List Entry) (a : Act) → IsPrefix names known → FitsHold t names c log a → FitsHold t known c log a
hold_longer t names known c log (Hold key q ty changes) longer (inl none) = inl none
hold_longer t names known c log (Hold key q ty changes) longer (inr n) = inr (record { look = n.look; next = next_longer t names known c q log n.look longer n.next; is = place-longer names known (name_of t n.look) key.0 longer n.is })
hold_longer t names known c log (Free key q) longer h = h
hold_longer t names known c log (Retype key site) longer h = h
hold_longer t names known c log (Busy key pins) longer h = h
hold_longer t names known c log (WornType key) longer h = h
hold_longer t names known c log (Define key site) longer h = h
hold_longer t names known c log (WornDef key) longer h = h
hold_longer t names known c log (Call key q site args v) longer h = h

-- a full list cannot grow
full_longer : (names known : List Name) (name : Name) → IsPrefix names known → (length names ≤ NAMES_MAX → IsFull names name) → length known ≤ NAMES_MAX → IsFull known name
full_longer names known name longer full few =
    let n = ap length longer.1 in let a = length-append names longer.0 in
    let low : length names ≤ NAMES_MAX = omega (arith, n, a, few) in
    let f = full low in let top = f.0 in
    subst (λ ns. IsFull ns name) (sym (append-nil names) ∙ ap (λ w. names ++ w) (sym (nothing longer.0 (omega (arith, n, a, few, top)))) ∙ longer.1) f
  where
    nothing : (l : List Name) → length l ≡ 0 → l ≡ []
    nothing [] e = refl
    nothing (x ∷ l) e = absurd (omega (arith, e))

free_longer : (t : Table) (names known : List Name) (c : ℕ) (log : List Entry) (a : Act) → IsPrefix names known → FitsFree t names c log a → FitsFree t known c log a
free_longer t names known c log (Free key q) longer (inl h) = inl h
free_longer t names known c log (Free key q) longer (inr (inl h)) = inr (inl h)
free_longer t names known c log (Free key q) longer (inr (inr (inl h))) = inr (inr (inl (record {
  look = h.look;
  next = next_longer t names known c q log h.look longer h.next;
  own = h.own;
  full = full_longer names known (name_of t h.look) longer h.full;
  only = λ j one. elim (h.only j one) [ inl e ↦ inl e | inr p ↦ inr (p.0, p.1, place-longer names known p.0 j longer p.2) ];
  whole = h.whole;
})))
free_longer t names known c log (Free key q) longer (inr (inr (inr h))) = inr (inr (inr h))
free_longer t names known c log (Hold key q ty changes) longer h = h
free_longer t names known c log (Retype key site) longer h = h
free_longer t names known c log (Busy key pins) longer h = h
free_longer t names known c log (WornType key) longer h = h
free_longer t names known c log (Define key site) longer h = h
free_longer t names known c log (WornDef key) longer h = h
free_longer t names known c log (Call key q site args v) longer h = h

below_longer : (names known : List Name) (k : ℕ) → IsPrefix names known → k < length names → k < length known
below_longer names known k longer h = let n = ap length longer.1 in let a = length-append names longer.0 in omega (arith, h, n, a)

name_longer : (names known : List Name) (a : Act) → IsPrefix names known → HasName names a → HasName known a
name_longer names known (Hold key q ty changes) longer h = below_longer names known key.0 longer h
name_longer names known (Free key q) longer h = h
name_longer names known (Retype key site) longer h = below_longer names known key.0 longer h
name_longer names known (Busy key pins) longer h = below_longer names known key.0 longer h
name_longer names known (WornType key) longer h = below_longer names known key.0 longer h
name_longer names known (Define key site) longer h = below_longer names known key.0 longer h
name_longer names known (WornDef key) longer h = below_longer names known key.0 longer h
name_longer names known (Call key q site args v) longer h = h

-- what fits the rules does so for each longer list of names
pub rules_longer : (t : Table) (names known : List Name) (c : ℕ) (before : List Entry) (a : Act) → IsPrefix names known → FitsRules t names c before a → FitsRules t known c before a
rules_longer t names known c before a p h = record {
  row = subst (λ ns. FitsCall t ns c before a) p.1 (fits_longer t names p.0 c before a h.row);
  hold = hold_longer t names known c before a p h.hold;
  free = free_longer t names known c before a p h.free;
  whole = h.whole;
  named = name_longer names known a p h.named;
}

pub asked_append : (names asked : List Name) (l m : List Act) → asked_after names asked (l ++ m) ≡ asked_after names (asked_after names asked l) m
asked_append names asked [] m = refl
asked_append names asked (a ∷ l) m = asked_append names (asked_by names asked a) l m

abbrev pub grows_itself : (c : ℕ) (known asked : List Name) (log : List Entry) → Grows c known asked asked log log
grows_itself c known asked log = record { made = []; grows = sym (append-nil _); kept = prefix_itself log; names = λ names p. refl }

abbrev pub grows_on : (c : ℕ) (m n was mid asked : List Name) (a b d : List Entry) → Grows c m was mid a b → Grows c n mid asked b d → IsPrefix m n → Grows c n was asked a d
grows_on c m n was mid asked a b d p q longer = record {
  made = p.made ++ q.made;
  grows = q.grows ∙ ap (λ w. w ++ q.made) p.grows ∙ append_assoc _ p.made q.made;
  kept = prefix_more a b d p.kept q.kept;
  names = λ names more. q.names names more ∙ ap (λ w. asked_after names w q.made) (p.names names (prefix_more m n names longer more)) ∙ sym (asked_append names was p.made q.made);
}

pub rules_on : (t : Table) (c : ℕ) (m n : List Name) (a b d : List Entry) → IsPrefix m n → IsPrefix b d → EachNew (FitsRules t m c) c a b → EachNew (FitsRules t n c) c b d → EachNew (FitsRules t n c) c a d
rules_on t c m n a b d longer kept p q = each_on (FitsRules t n c) c a b d kept (λ before after e is from own. rules_longer t m n c before e.act longer (p before after e is from own)) q

pub with_rules : (t : Table) (c : ℕ) (known was asked : List Name) (old new : List Entry) → Grows c known was asked old new → EachNew (FitsRules t known c) c old new → Grown t c known was asked old new
with_rules t c known was asked old new g rules = record { made = g.made; grows = g.grows; kept = g.kept; rules = rules; names = g.names }

pub without_rules : (t : Table) (c : ℕ) (known was asked : List Name) (old new : List Entry) → Grown t c known was asked old new → Grows c known was asked old new
without_rules t c known was asked old new g = record { made = g.made; grows = g.grows; kept = g.kept; names = g.names }

pub grown_itself : (t : Table) (c : ℕ) (known asked : List Name) (log : List Entry) → Grown t c known asked asked log log
grown_itself t c known asked log = with_rules t c known asked asked log log (grows_itself c known asked log) (each_itself (FitsRules t known c) c log)

pub grown_on : (t : Table) (c : ℕ) (m n was mid asked : List Name) (a b d : List Entry) → Grown t c m was mid a b → Grown t c n mid asked b d → IsPrefix m n → Grown t c n was asked a d
grown_on t c m n was mid asked a b d p q longer =
    with_rules t c n was asked a d
    (grows_on c m n was mid asked a b d (without_rules t c m was mid a b p) (without_rules t c n mid asked b d q) longer)
    (rules_on t c m n a b d longer q.kept p.rules q.rules)

-- a Call stays
pub has_call_on : (c q : ℕ) (a b : List Entry) → HasCall c q a → IsPrefix a b → HasCall c q b
has_call_on c q a b h p = record {
  before = h.before;
  call = h.call;
  key = h.key;
  site = h.site;
  args = h.args;
  verdict = h.verdict;
  after = h.after ++ p.0;
  is = sym p.1 ∙ ap (λ w. w ++ p.0) h.is ∙ append_assoc h.before _ p.0;
  number = h.number;
}
