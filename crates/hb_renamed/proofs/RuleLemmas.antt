-- The rules under other keys.
use Rattle.std.proofs.Common.{◌≡◌, ◌⊎◌, inl, inr, ℕ, ◌+◌, ◌<◌, ◌≤◌, false, List, [], ◌∷◌, ◌++◌, length, map, Option, Some, None, refl, sym, ap, ◌∙◌, subst}
use Rattle.std.proofs.lemmas.List.{map-append}
use Rattle.std.specs.Prelude.{Contains}
use Rattle.std.specs.Option.{option_map}
use Rattle.hb_types.specs.declared.ids.BodySite.{BodySite}
use Rattle.hb_types.specs.declared.ids.CallNo.{CallNo}
use Rattle.hb_types.specs.declared.ids.KeyId.{KeyId}
use Rattle.hb_types.specs.declared.ids.TypeSite.{TypeSite}
use Rattle.hb_types.specs.declared.types.Ty.{Ty}
use Rattle.hb_tree.specs.Table.{Table}
use Rattle.hb_deriv.specs.Derivation.{type_at}
use Rattle.hb_deriv.specs.Events.{looks}
use Rattle.hb_deriv.specs.Judge.{Key, Types}
use Rattle.hb_deriv.specs.Programs.{sites_of}
use Rattle.hb_names.specs.Names.{IsFull, Name, place}
use Rattle.hb_names.specs.declared.names.TheConstants.{NAMES_MAX}
use Rattle.hb_tables.specs.declared.entry.Act.{Act}
use Rattle.hb_tables.specs.declared.entry.Act.TheVariants.{Hold, Free, Retype, Busy, WornType, Define, WornDef, Call}
use Rattle.hb_tables.specs.declared.entry.Entry.{Entry}
use Rattle.hb_tables.specs.declared.entry.Verdict.{Verdict}
use Rattle.hb_tables.specs.Frames.{acts}
use Rattle.hb_tables.specs.History.{Every, Spot, entry, spot, times}
use Rattle.hb_tables.specs.Names.{name_of}
use Rattle.hb_tables.specs.Rows.{FitsCall, HoldsName, IsDecided, body_at, kinds_of, needs_in, site_in, type_of_key, types_in}
use Rattle.hb_tables.specs.Verdicts.{looks_of, subject, verdict_of}
use Rattle.hb_call.specs.Rules.{FitsFree, FitsHold, FitsRules, FitsWhole, GivesUp, HadBody, HasName, IsFullRightly, IsNextLook, Retreats, runs}
use Rattle.hb_renamed.specs.Renaming.{rename, rename_key, renamed}
use Rattle.hb_renamed.proofs.ActLemmas.{acts_renamed, began_renamed, cut_renamed, every_renamed, has_call_renamed, none_renamed, prefix_renamed}
use Rattle.hb_renamed.proofs.ActLemmas.{runs_renamed, spot_back, spot_renamed, stand, stands_renamed, whole_renamed}

module _ (r s : ℕ → ℕ) (there : (k : ℕ) → s (r k) ≡ k) (here : (k : ℕ) → r (s k) ≡ k) (t : Table) (names others : List Name)
    (many : length names ≡ length others) (moves : (p : Name) → place others p ≡ option_map r (place names p)) (within : (k : ℕ) → k < length names → r k < length others) where
  moves_at : (p : Name) (k : ℕ) → place names p ≡ Some k → place others p ≡ Some (r k)
  moves_at p k e = moves p ∙ ap (option_map r) e

  site_renamed : (log : List Entry) (o : Option ℕ) → site_in (renamed r log) (option_map r o) ≡ site_in log o
  site_renamed log None = refl
  site_renamed log (Some k) = ap (λ (x : Spot). option_map (λ (y : TypeSite). y.0) x.ty) (spot_renamed r s there here k log)

  pub types_renamed : (log : List Entry) → types_in t others (renamed r log) ≡ types_in t names log
  types_renamed log i key = type_at (sites_of t) ((ap (site_in (renamed r log)) (moves (name_of t key)) ∙ site_renamed log (place names (name_of t key))) i)

  pub typed_renamed : (log : List Entry) (k : ℕ) → type_of_key t (renamed r log) (r k) ≡ type_of_key t log k
  typed_renamed log k = ap (type_at (sites_of t)) (site_renamed log (Some k))

  holds_name : (log : List Entry) (x : ℕ × ℕ) (p : Name) → HoldsName names log x p → HoldsName others (renamed r log) x p
  holds_name log x p h = (r h.0, moves_at p h.0 h.1, ap (λ (y : Spot). times x y.calls) (spot_renamed r s there here h.0 log) ∙ h.2)

  -- ── a Call ──

  needs_renamed : (log : List Entry) (name : Name) (k : ℕ) (site : Option BodySite) (kinds : List Ty) → needs_in t others (renamed r log) name (r k) site kinds ≡ needs_in t names log name k site kinds
  needs_renamed log name k site kinds i = name ∷ map (name_of t) (looks_of t (types_renamed log i) name.0 (body_at t site) (typed_renamed log k i) kinds)

  pub decided_renamed : (log : List Entry) (x : ℕ × ℕ) (k : ℕ) (site : Option BodySite) (kinds : List Ty) (v : Verdict) → IsDecided t names log x k site kinds v
      → IsDecided t others (renamed r log) x (r k) site kinds v
  decided_renamed log x k site kinds v d = record {
    name = d.name;
    is = moves_at d.name k d.is;
    defined = d.defined ∙ ap (λ (y : Spot). y.body) (sym (spot_renamed r s there here k log));
    rules = d.rules ∙ (λ i. verdict_of t (sym (types_renamed log) i) d.name.0 (body_at t site) (sym (typed_renamed log k) i) kinds);
    held = λ p need. holds_name log x p (d.held p (subst (λ l. Contains l p) (needs_renamed log d.name k site kinds) need));
    only = λ j held.
        let one = d.only (s j) (ap (λ (y : Spot). times x y.calls) (sym (spot_back r s there here j log)) ∙ held) in
        (one.0, subst (λ l. Contains l one.0) (sym (needs_renamed log d.name k site kinds)) one.1, moves_at one.0 (s j) one.2 ∙ ap Some (here j));
  }

  row_renamed : (c : ℕ) (log : List Entry) (a : Act) → FitsCall t names c log a → FitsCall t others c (renamed r log) (rename r a)
  row_renamed c log (Call key q site args v) h = (decided_renamed log (c, q.0) key.0 site (kinds_of args) v h.0, h.1)
  row_renamed c log _ h = tt

  -- ── a Hold ──

  had_renamed : (k : ℕ) (start log : List Entry) (site : Option BodySite) → HadBody k start log site → HadBody (r k) (renamed r start) (renamed r log) site
  had_renamed k start log site h = record {
    at = renamed r h.at;
    from = prefix_renamed r start h.at h.from;
    to = prefix_renamed r h.at log h.to;
    is = h.is ∙ ap (λ (y : Spot). y.body) (sym (spot_renamed r s there here k h.at));
  }

  next_renamed : (c : ℕ) (q : CallNo) (log : List Entry) (next : Key) → IsNextLook t names c q log next → IsNextLook t others c q (renamed r log) next
  next_renamed c q log next n = record {
    key = rename_key r n.key;
    start = renamed r n.start;
    began = began_renamed r s there here c q n.key n.start log n.began;
    name = n.name;
    named = moves_at n.name n.key.0 n.named;
    site = n.site;
    had = had_renamed n.key.0 n.start log n.site n.had;
    body = n.body;
    defined = n.defined;
    declared = n.declared;
    typed = typed_renamed log n.key.0 ∙ n.typed;
    held = n.held;
    others = n.others;
    order = ap (λ (T : Types). looks T (subject t n.name.0 n.body n.declared)) (types_renamed log) ∙ n.order;
    holds = λ p i. holds_name log (c, q.0) p (n.holds p i);
  }

  hold_renamed : (c : ℕ) (log : List Entry) (a : Act) → FitsHold t names c log a → FitsHold t others c (renamed r log) (rename r a)
  hold_renamed c log (Hold key q ty n) (inl none) = inl (none_renamed r s there here c q.0 log none)
  hold_renamed c log (Hold key q ty n) (inr h) = inr (record { look = h.look; next = next_renamed c q log h.look h.next; is = moves_at (name_of t h.look) key.0 h.is })
  hold_renamed c log _ h = tt

  -- ── a Free ──

  retreats_renamed : (c : ℕ) (q : CallNo) (key : KeyId) (log : List Entry) → Retreats c q key log → Retreats c q (rename_key r key) (renamed r log)
  unfolding began_renamed
  retreats_renamed c q key log x = record {
    first = rename_key r x.first;
    start = renamed r x.start;
    began = began_renamed r s there here c q x.first x.start log x.began;
    own = stand r x.own;
    next = stand r x.next;
    others = map (stand r) x.others;
    held = stands_renamed r s there here c q.0 log ∙ ap (map (stand r)) x.held;
    is = ap r x.is;
    few =
        let since : acts c (renamed r x.began.since) ++ Free (rename_key r key) q ∷ [] ≡ map (rename r) (acts c x.began.since ++ Free key q ∷ []) =
        ap (λ l. l ++ Free (rename_key r key) q ∷ []) (acts_renamed r c x.began.since) ∙ sym (map-append (rename r) (acts c x.began.since) (Free key q ∷ [])) in
        let count : runs q.0 false (acts c (renamed r x.began.since) ++ Free (rename_key r key) q ∷ []) ≡ runs q.0 false (acts c x.began.since ++ Free key q ∷ []) =
        ap (runs q.0 false) since ∙ runs_renamed r s there here q.0 false (acts c x.began.since ++ Free key q ∷ []) in
        let early : (spot (r x.first.0) (renamed r x.start)).redefs ≡ (spot x.first.0 x.start).redefs = ap (λ (y : Spot). y.redefs) (spot_renamed r s there here x.first.0 x.start) in
        let late : (spot (r x.first.0) (renamed r log)).redefs ≡ (spot x.first.0 log).redefs = ap (λ (y : Spot). y.redefs) (spot_renamed r s there here x.first.0 log) in
        subst (λ n. n ≤ (spot (r x.first.0) (renamed r log)).redefs) (λ i. sym count i + sym early i)
        (subst (λ n. runs q.0 false (acts c x.began.since ++ Free key q ∷ []) + (spot x.first.0 x.start).redefs ≤ n)
        (sym late) x.few);
  }

  full_renamed : (p : Name) → IsFull names p → IsFull others p
  full_renamed p full = (sym many ∙ full.0, moves p ∙ ap (option_map r) full.1)

  full_rightly : (c : ℕ) (q : CallNo) (key : KeyId) (log : List Entry) → IsFullRightly t names c q key log → IsFullRightly t others c q (rename_key r key) (renamed r log)
  unfolding next_renamed
  full_rightly c q key log x = record {
    look = x.look;
    next = next_renamed c q log x.look x.next;
    own = ap (rename_key r) x.own;
    full = λ few. full_renamed (name_of t x.look) (x.full (subst (λ n. n ≤ NAMES_MAX) (sym many) few));
    only = λ j held. one j (x.only (s j) (ap (λ (y : Spot). times (c, q.0) y.calls) (sym (spot_back r s there here j log)) ∙ held));
    whole = whole_renamed r s there here c q.0 log x.whole;
  }
    where
      one : (j : ℕ) → (s j ≡ key.0) ⊎ ((p : Name) × Contains (map (name_of t) x.next.held) p × (place names p ≡ Some (s j)))
          → (j ≡ r key.0) ⊎ ((p : Name) × Contains (map (name_of t) x.next.held) p × (place others p ≡ Some j))
      one j (inl e) = inl (sym (here j) ∙ ap r e)
      one j (inr h) = inr (h.0, h.1, moves_at h.0 (s j) h.2 ∙ ap Some (here j))

  gives_up : (c : ℕ) (q : CallNo) (log : List Entry) → GivesUp c q log → GivesUp c q (renamed r log)
  gives_up c q log x = record {
    key = rename_key r x.key;
    start = renamed r x.start;
    at = renamed r x.at;
    began = began_renamed r s there here c q x.key x.start x.at x.began;
    since = renamed r x.since;
    is = cut_renamed r log x.at x.since (entry c (Free x.key q)) x.is;
  }

  free_renamed : (c : ℕ) (log : List Entry) (a : Act) → FitsFree t names c log a → FitsFree t others c (renamed r log) (rename r a)
  free_renamed c log (Free key q) (inl h) = inl (has_call_renamed r s there here c q.0 log h)
  free_renamed c log (Free key q) (inr (inl h)) = inr (inl (retreats_renamed c q key log h))
  free_renamed c log (Free key q) (inr (inr (inl h))) = inr (inr (inl (full_rightly c q key log h)))
  free_renamed c log (Free key q) (inr (inr (inr h))) = inr (inr (inr (gives_up c q log h)))
  free_renamed c log _ h = tt

  -- ── all rules ──

  fits_whole : (c : ℕ) (log : List Entry) (a : Act) → FitsWhole c log a → FitsWhole c (renamed r log) (rename r a)
  fits_whole c log (Hold key q ty n) (inl none) = inl (none_renamed r s there here c q.0 log none)
  fits_whole c log (Hold key q ty n) (inr h) = inr (whole_renamed r s there here c q.0 log h)
  fits_whole c log (Call key q site args v) h = whole_renamed r s there here c q.0 log h
  fits_whole c log _ h = tt

  has_name : (a : Act) → HasName names a → HasName others (rename r a)
  has_name (Hold key q ty n) h = within key.0 h
  has_name (Free key q) h = tt
  has_name (Retype key site) h = within key.0 h
  has_name (Busy key pins) h = within key.0 h
  has_name (WornType key) h = within key.0 h
  has_name (Define key site) h = within key.0 h
  has_name (WornDef key) h = within key.0 h
  has_name (Call key q site args v) h = tt

  pub rules_renamed : (log : List Entry) → Every (λ before e. FitsRules t names e.caller.0 before e.act) log → Every (λ before e. FitsRules t others e.caller.0 before e.act) (renamed r log)
  rules_renamed log h = every_renamed r s there here (λ before e. FitsRules t names e.caller.0 before e.act) (λ before e. FitsRules t others e.caller.0 before e.act) (λ before e x. record {
    row = row_renamed e.caller.0 before e.act x.row;
    hold = hold_renamed e.caller.0 before e.act x.hold;
    free = free_renamed e.caller.0 before e.act x.free;
    whole = fits_whole e.caller.0 before e.act x.whole;
    named = has_name e.act x.named;
  }) log h
