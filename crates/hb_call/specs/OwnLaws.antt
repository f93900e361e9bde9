-- What a caller keeps of its checks as its acts go on, and when a call finds it.
use Rattle.std.proofs.Common.{◌≡◌, ℕ, zero, suc, Bool, true, false, eqb, List, [], ◌∷◌, ◌++◌, Some, None, refl, sym, ap, ◌∙◌, subst, append_assoc, eq-eqb}
use Rattle.std.proofs.lemmas.List.{append-nil}
use Rattle.std.proofs.lemmas.Bool.{eqb-true}
use Rattle.std.proofs.lemmas.Option.{none-some, same_Some}
use Rattle.std.specs.Prelude.{Option, if◌then◌else◌, is_some, slice_get, length, drop}
use Rattle.std.specs.Option.{option_map}
use Rattle.std.specs.List.{AllByRecursion}
use mathlib.Core.List.{IsPrefix}
use Rattle.hb_types.specs.declared.ids.BodySite.{BodySite}
use Rattle.hb_types.specs.declared.ids.CallNo.{CallNo}
use Rattle.hb_types.specs.declared.ids.KeyId.{KeyId}
use Rattle.hb_types.specs.declared.ids.TypeSite.{TypeSite}
use Rattle.hb_tree.specs.Table.{Table}
use Rattle.hb_deriv.specs.declared.raw.Used.{Used}
use Rattle.hb_deriv.specs.Derivation.{AgreesWith, key_of, type_at, type_of}
use Rattle.hb_deriv.specs.Programs.{sites_of}
use Rattle.hb_cache.specs.declared.kept.Kept.{Kept}
use Rattle.hb_cache.specs.declared.kept.Seen.{Seen}
use Rattle.hb_cache.specs.Cache.{Item, Items, SameItem, SaysSame, nothing, unless_used, with_item, without_item}
use Rattle.hb_cache.specs.Kept.{count_in, count_of, item_of, items_in, kept_at, not_using, uses}
use Rattle.hb_names.specs.Names.{Name}
use Rattle.hb_names.proofs.NameLemmas.{place-longer, with_name-begins, with_name-known}
use Rattle.hb_tables.specs.declared.entry.Entry.{Entry}
use Rattle.hb_tables.specs.declared.entry.Act.{Act}
use Rattle.hb_tables.specs.declared.entry.Act.TheVariants.{Hold, Free, Retype, Busy, WornType, Define, WornDef, Call}
use Rattle.hb_tables.specs.declared.entry.ArgKinds.{ArgKinds}
use Rattle.hb_tables.specs.declared.entry.Verdict.{Verdict}
use Rattle.hb_tables.specs.Frames.{acts}
use Rattle.hb_tables.specs.History.{entry, spot, Adds, IsLegal, Learns}
use Rattle.hb_tables.specs.Names.{name_of}
use Rattle.hb_tables.specs.Rows.{site_in, type_of_key, types_in}
use Rattle.hb_tables.specs.Standing.{Stand, standing, standing_from}
use Rattle.hb_tables.proofs.DeskLemmas.{adds_prefix, learns_acts, learns_prefix}
use Rattle.hb_tables.proofs.FrontLemmas.{adds_act}
use Rattle.hb_tables.proofs.HistoryLemmas.{changes_same}
use Rattle.hb_tables.proofs.StandingLemmas.{standing_append}
use Rattle.hb_call.specs.Calling.{IsAskedFor}
use Rattle.hb_call.specs.Growth.{Grows, asked_after, asked_by, with_found, with_key}
use Rattle.hb_call.specs.GrowthLaws.{each_itself, each_on, prefix_itself, prefix_more}
use Rattle.hb_call.specs.Held.{stands}
use Rattle.hb_call.specs.Own.{LeavesKept, OwnAgrees, WasSeen, brings, cache_from, cache_of, cache_since, changes_kept, item_by, kept_by}
use Rattle.hb_call.specs.OwnCache.{AreOwn, AreUses, IsHit, IsOwnCache, IsTrueCache, IsTrueCheck, IsUse, KeepsChecks}
use Rattle.hb_call.specs.Rules.{EntersBy}

-- ── the fold ──

-- what acts make of the items, in two parts
pub cache_append : (before : List Act) (items : Items) (l m : List Act) → cache_from before items (l ++ m) ≡ cache_from (before ++ l) (cache_from before items l) m
cache_append before items [] m = ap (λ b. cache_from b items m) (sym (append-nil before))
cache_append before items (a ∷ l) m = cache_append (before ++ a ∷ []) (kept_by before items a) l m ∙ ap (λ b. cache_from b (cache_from (before ++ a ∷ []) (kept_by before items a) l) m) (append_assoc before (a ∷ []) l)

kept_left : (before : List Act) (items : Items) (a : Act) → changes_kept a ≡ false → kept_by before items a ≡ items
kept_left before items (Call key q (Some site) args v) h = ap (λ b. if b then with_item key.0 (item_by (standing q.0 before) site) items else items) h
kept_left before items (Call key q None args v) h = refl
kept_left before items (Retype key site) h = absurd (cc h)
kept_left before items (Define key site) h = absurd (cc h)
kept_left before items (Hold key q ty changes) h = refl
kept_left before items (Free key q) h = refl
kept_left before items (Busy key pins) h = refl
kept_left before items (WornType key) h = refl
kept_left before items (WornDef key) h = refl

cache_left : (before : List Act) (items : Items) (l : List Act) → LeavesKept l → cache_from before items l ≡ items
cache_left before items [] h = refl
cache_left before items (a ∷ l) h = ap (λ i. cache_from (before ++ a ∷ []) i l) (kept_left before items a h.0) ∙ cache_left (before ++ a ∷ []) items l h.1

drop_all : (past l : List Act) → drop (length past) (past ++ l) ≡ l
drop_all [] l = refl
drop_all (a ∷ past) l = drop_all past l

-- what more acts make of the items that the machine keeps
pub since_append : (past l made : List Act) → IsPrefix past l → cache_since past (l ++ made) ≡ cache_from l (cache_since past l) made
since_append past l made p =
    subst (λ (m : List Act). cache_since past (m ++ made) ≡ cache_from m (cache_since past m) made) p.1
    (ap (cache_from past nothing) (ap (drop (length past)) (append_assoc past p.0 made) ∙ drop_all past (p.0 ++ made))
    ∙ cache_append past nothing p.0 made ∙ ap (λ (l : List Act). cache_from (past ++ p.0) (cache_from past nothing l) made) (sym (drop_all past p.0)))

-- what a machine keeps stays over acts that leave it
pub cache_stays : (c : ℕ) (past : List Act) (old new : List Entry) (made : List Act) → IsPrefix past (acts c old) → acts c new ≡ acts c old ++ made → LeavesKept made → cache_since past (acts c new) ≡ cache_since past (acts c old)
cache_stays c past old new made begins is h = ap (cache_since past) is ∙ since_append past (acts c old) made begins ∙ cache_left (acts c old) (cache_since past (acts c old)) made h

-- and is what one act more makes of it
pub cache_more : (c : ℕ) (past : List Act) (old new : List Entry) (a : Act) → IsPrefix past (acts c old) → acts c new ≡ acts c old ++ a ∷ [] → cache_since past (acts c new) ≡ kept_by (acts c old) (cache_since past (acts c old)) a
cache_more c past old new a begins is = ap (cache_since past) is ∙ since_append past (acts c old) (a ∷ []) begins

-- what a call brings depends on what stands alone
kept_alike : (x y : List Act) (items : Items) (a : Act) → ((q : ℕ) → standing q x ≡ standing q y) → kept_by x items a ≡ kept_by y items a
kept_alike x y items (Call key q (Some site) args v) same = ap (λ (hs : List Stand). if brings v then with_item key.0 (item_by hs site) items else items) (same q.0)
kept_alike x y items (Call key q None args v) same = refl
kept_alike x y items (Retype key site) same = refl
kept_alike x y items (Define key site) same = refl
kept_alike x y items (Hold key q ty changes) same = refl
kept_alike x y items (Free key q) same = refl
kept_alike x y items (Busy key pins) same = refl
kept_alike x y items (WornType key) same = refl
kept_alike x y items (WornDef key) same = refl

cache_alike : (x y : List Act) (items : Items) (l : List Act) → ((q : ℕ) → standing q x ≡ standing q y) → cache_from x items l ≡ cache_from y items l
cache_alike x y items [] same = refl
cache_alike x y items (a ∷ l) same =
    ap (λ (i : Items). cache_from (x ++ a ∷ []) i l) (kept_alike x y items a same)
    ∙ cache_alike (x ++ a ∷ []) (y ++ a ∷ []) (kept_by y items a) l (λ q. standing_append q [] x (a ∷ []) ∙ ap (λ (hs : List Stand). standing_from q hs (a ∷ [])) (same q) ∙ sym (standing_append q [] y (a ∷ [])))

-- A machine that begins where its caller holds nothing keeps what its own acts alone keep.
pub since_alone : (past mine : List Act) → ((q : ℕ) → standing q past ≡ []) → cache_since past (past ++ mine) ≡ cache_of mine
since_alone past mine none = ap (cache_from past nothing) (drop_all past mine) ∙ cache_alike past [] nothing mine none

-- and where it begins it keeps nothing
pub since_itself : (past : List Act) → cache_since past past ≡ nothing
since_itself past = ap (cache_from past nothing) (ap (drop (length past)) (sym (append-nil past)) ∙ drop_all past [])

get_more : {X : Type 0} (a b : List X) (k : ℕ) (x : X) → slice_get a k ≡ Some x → slice_get (a ++ b) k ≡ Some x
get_more [] b k x e = absurd (none-some x e)
get_more (y ∷ a) b zero x e = e
get_more (y ∷ a) b (suc k) x e = get_more a b k x e

-- what was asked for stays so
pub asked_on : (names known was asked : List Name) (k : ℕ) → IsPrefix names known → IsPrefix was asked → IsAskedFor names was k → IsAskedFor known asked k
asked_on names known was asked k longer more h = record {
  name = h.name;
  named = subst (λ ns. slice_get ns k ≡ Some h.name) longer.1 (get_more names longer.0 k h.name h.named);
  at = h.at;
  there = place-longer was asked h.name h.at more h.there;
}

key_begins : (names asked : List Name) (k : ℕ) → IsPrefix asked (with_key names asked k)
key_begins names asked k = by (slice_get names k)
  where
    by : (o : Option Name) → IsPrefix asked (with_found asked o)
    by None = prefix_itself asked
    by (Some name) = with_name-begins asked name

act_begins : (names asked : List Name) (a : Act) → IsPrefix asked (asked_by names asked a)
act_begins names asked (Hold key q ty changes) = key_begins names asked key.0
act_begins names asked (Free key q) = prefix_itself asked
act_begins names asked (Retype key site) = key_begins names asked key.0
act_begins names asked (Busy key pins) = key_begins names asked key.0
act_begins names asked (WornType key) = key_begins names asked key.0
act_begins names asked (Define key site) = key_begins names asked key.0
act_begins names asked (WornDef key) = key_begins names asked key.0
act_begins names asked (Call key q site args v) = prefix_itself asked

-- the names that were asked for begin those that are so after these acts
pub asked_begins : (names asked : List Name) (l : List Act) → IsPrefix asked (asked_after names asked l)
asked_begins names asked [] = prefix_itself asked
asked_begins names asked (a ∷ l) = prefix_more asked (asked_by names asked a) (asked_after names (asked_by names asked a) l) (act_begins names asked a) (asked_begins names (asked_by names asked a) l)

pub grows_asked : (c : ℕ) (known was asked : List Name) (old new : List Entry) → Grows c known was asked old new → IsPrefix was asked
grows_asked c known was asked old new g = subst (IsPrefix was) (sym (g.names known (prefix_itself known))) (asked_begins known was g.made)

-- a key whose name was asked for asks for nothing new
pub asked_already : (names asked : List Name) (k : ℕ) → IsAskedFor names asked k → with_key names asked k ≡ asked
asked_already names asked k h = ap (with_found asked) h.named ∙ with_name-known asked h.name h.at h.there

-- ── what was seen ──

-- a type changes only with its count
pub seen_now : (limit : ℕ) (key : KeyId) (n : ℕ) (site : Option TypeSite) (log : List Entry) → IsLegal limit log → WasSeen key n site log → (spot key.0 log).changes ≡ n → (spot key.0 log).ty ≡ site
seen_now limit key n site log legal h =
    let e : Entry = entry h.caller (Hold key h.call site n) in let found = legal h.before h.after e h.is in
    subst (λ l. (spot key.0 l).changes ≡ n → (spot key.0 l).ty ≡ site) (sym h.is) (λ now. changes_same key.0 h.before (e ∷ h.after) (now ∙ found.1) ∙ sym found.0)

pub seen_on : (key : KeyId) (n : ℕ) (site : Option TypeSite) (old new : List Entry) → IsPrefix old new → WasSeen key n site old → WasSeen key n site new
seen_on key n site old new p h = record {
  before = h.before;
  caller = h.caller;
  call = h.call;
  after = h.after ++ p.0;
  is = sym p.1 ∙ ap (λ w. w ++ p.0) h.is ∙ append_assoc h.before (entry h.caller (Hold key h.call site n) ∷ h.after) p.0;
}

-- ── kept checks stay true ──

module _ (t : Table) (names known was asked : List Name) (old new : List Entry) (longer : IsPrefix names known) (more : IsPrefix was asked) (goes : IsPrefix old new) where
  pub use_on : (u : Used) (s : Seen) → IsUse t names was old u s → IsUse t known asked new u s
  use_on u s h = record {
    named = place-longer names known (name_of t (key_of u)) s.key.0 longer h.named;
    was = seen_on s.key s.changes s.site old new goes h.was;
    typed = h.typed;
    asked_for = asked_on names known was asked s.key.0 longer more h.asked_for;
  }

  pub uses_on : (us : List Used) (seen : List Seen) → AreUses t names was old us seen → AreUses t known asked new us seen
  uses_on [] [] h = tt
  uses_on [] (s ∷ seen) h = absurd h
  uses_on (u ∷ us) [] h = absurd h
  uses_on (u ∷ us) (s ∷ seen) h = (use_on u s h.0, uses_on us seen h.1)

  pub check_on : (kept : Kept) → IsTrueCheck t names was old kept → IsTrueCheck t known asked new kept
  check_on kept h = record {
    good = h.good;
    name = h.name;
    named = place-longer names known h.name kept.key.0 longer h.named;
    class = h.class;
    site = h.site;
    was = seen_on kept.key kept.changes (Some h.site) old new goes h.was;
    typed = h.typed;
    asked_for = asked_on names known was asked kept.key.0 longer more h.asked_for;
    uses = uses_on kept.derivation.uses.items kept.counts.items h.uses;
    once = h.once;
  }

-- ── the own cache as its caller goes on ──

-- what is kept is true, whose ever it is
pub own_true : (t : Table) (names asked : List Name) (c : ℕ) (past : Option (List Act)) (log : List Entry) (cache : List (Option Kept)) → IsOwnCache t names asked c past log cache → IsTrueCache t names asked c log cache
own_true t names asked c past log cache own = record { same = tt; each = own.each }

-- a machine that begins behind these entries keeps nothing
pub own_none : (t : Table) (names asked : List Name) (c : ℕ) (log : List Entry) (cache : List (Option Kept)) → ((k : ℕ) → kept_at cache k ≡ None) → IsOwnCache t names asked c (Some (acts c log)) log cache
own_none t names asked c log cache empty = record {
  same = (
    prefix_itself (acts c log),
    λ k. subst (λ (o : Option Kept). SameItem (option_map item_of o) (cache_since (acts c log) (acts c log) k)) (sym (empty k)) (subst (λ (items : Items). SameItem None (items k)) (sym (since_itself (acts c log))) tt),
  );
  each = λ k kept e. absurd (none-some kept (sym (empty k) ∙ e));
}

dropped_same : (key : ℕ) (o : Option Kept) (i : Option Item) → SameItem (option_map item_of o) i → SameItem (option_map item_of (not_using key o)) (unless_used key i)
dropped_same key None None h = tt
dropped_same key None (Some i) h = absurd h
dropped_same key (Some kept) None h = absurd h
dropped_same key (Some kept) (Some i) h = by (uses kept key) (is_some (i.count key)) (ap is_some (h.counts key))
  where
    by : (a b : Bool) → a ≡ b → SameItem (option_map item_of (if a then None else Some kept)) (if b then None else Some i)
    by true true e = tt
    by false false e = h
    by true false e = absurd (cc e)
    by false true e = absurd (cc e)

still_kept : (key : ℕ) (o : Option Kept) (kept : Kept) → not_using key o ≡ Some kept → o ≡ Some kept
still_kept key None kept e = absurd (none-some kept e)
still_kept key (Some x) kept e = by (uses x key) e
  where
    by : (b : Bool) → (if b then None else Some x) ≡ Some kept → Some x ≡ Some kept
    by true e = absurd (none-some kept e)
    by false e = e

cleared_same : (b : Bool) (o : Option Kept) (i : Option Item) → SameItem (option_map item_of o) i → SameItem (option_map item_of (if b then None else o)) (if b then None else i)
cleared_same true o i h = tt
cleared_same false o i h = h

not_cleared : (b : Bool) (o : Option Kept) (kept : Kept) → (if b then None else o) ≡ Some kept → o ≡ Some kept
not_cleared true o kept e = absurd (none-some kept e)
not_cleared false o kept e = e

put_same : (b : Bool) (kept : Kept) (item : Item) (o : Option Kept) (i : Option Item) → SaysSame (item_of kept) item → SameItem (option_map item_of o) i → SameItem (option_map item_of (if b then Some kept else o)) (if b then Some item else i)
put_same true kept item o i s h = s
put_same false kept item o i s h = h

-- what one act more makes of an own cache
step_of : (t : Table) (known asked : List Name) (c : ℕ) (past : Option (List Act)) (old new : List Entry) (a : Act) (cache left : List (Option Kept)) → acts c new ≡ acts c old ++ a ∷ [] → AreOwn past (acts c old) (items_in cache)
    → ((items : Items) → ((k : ℕ) → SameItem (items_in cache k) (items k)) → (k : ℕ) → SameItem (items_in left k) (kept_by (acts c old) items a k)) → ((k : ℕ) (kept : Kept) → kept_at left k ≡ Some kept → IsTrueCheck t known asked new kept)
    → IsOwnCache t known asked c past new left
step_of t known asked c None old new a cache left is own same each = record { same = tt; each = each }
step_of t known asked c (Some past) old new a cache left is own same each = record {
  same = (
    prefix_more past (acts c old) (acts c new) own.0 (a ∷ [], sym is),
    λ k. subst (λ (items : Items). SameItem (items_in left k) (items k)) (sym (cache_more c past old new a own.0 is)) (same (cache_since past (acts c old)) own.1 k),
  );
  each = each;
}

stay_own : (c : ℕ) (past : Option (List Act)) (old new : List Entry) (made : List Act) (items : Items) → acts c new ≡ acts c old ++ made → LeavesKept made → AreOwn past (acts c old) items → AreOwn past (acts c new) items
stay_own c None old new made items is leaves own = tt
stay_own c (Some past) old new made items is leaves own = (
  prefix_more past (acts c old) (acts c new) own.0 (made, sym is),
  λ k. subst (λ (i : Items). SameItem (items k) (i k)) (sym (cache_stays c past old new made own.0 is leaves)) (own.1 k),
)

module _ (t : Table) (names known was asked : List Name) (c : ℕ) (past : Option (List Act)) (old new : List Entry) (cache : List (Option Kept)) (longer : IsPrefix names known) (more : IsPrefix was asked) (own : IsOwnCache t names was c past old cache) where
  -- it stays over longer fronts, with more names known and asked for, as long as its caller does nothing that changes it
  pub own_stays : (made : List Act) → IsPrefix old new → acts c new ≡ acts c old ++ made → LeavesKept made → IsOwnCache t known asked c past new cache
  own_stays made goes is leaves = record {
    same = stay_own c past old new made (items_in cache) is leaves own.same;
    each = λ k kept e. check_on t names known was asked old new longer more goes kept (own.each k kept e);
  }

  pub own_retype : (key : KeyId) (site : TypeSite) (left : List (Option Kept)) → Adds c old new (Retype key site) → ((k : ℕ) → kept_at left k ≡ not_using key.0 (kept_at cache k)) → IsOwnCache t known asked c past new left
  own_retype key site left adds drops = step_of t known asked c past old new (Retype key site) cache left (adds_act c old new (Retype key site) adds) own.same
      (λ items same k. subst (λ (o : Option Kept). SameItem (option_map item_of o) (unless_used key.0 (items k))) (sym (drops k)) (dropped_same key.0 (kept_at cache k) (items k) (same k)))
      (λ k kept e. check_on t names known was asked old new longer more (adds_prefix c old new (Retype key site) adds) kept (own.each k kept (still_kept key.0 (kept_at cache k) kept (sym (drops k) ∙ e))))

  -- its caller gave the key a definition, and what was kept for the key was dropped
  pub own_define : (key : KeyId) (site : BodySite) (left : List (Option Kept)) → Adds c old new (Define key site) → ((k : ℕ) → kept_at left k ≡ (if eqb key.0 k then None else kept_at cache k)) → IsOwnCache t known asked c past new left
  own_define key site left adds drops = step_of t known asked c past old new (Define key site) cache left (adds_act c old new (Define key site) adds) own.same
      (λ items same k. subst (λ (o : Option Kept). SameItem (option_map item_of o) (without_item key.0 items k)) (sym (drops k)) (cleared_same (eqb key.0 k) (kept_at cache k) (items k) (same k)))
      (λ k kept e. check_on t names known was asked old new longer more (adds_prefix c old new (Define key site) adds) kept (own.each k kept (not_cleared (eqb key.0 k) (kept_at cache k) kept (sym (drops k) ∙ e))))

  -- its caller has a Call that brings a derivation, and a true check that says the same as the Holds which stand was put there
  pub own_put : (q : CallNo) (key : KeyId) (site : BodySite) (args : ArgKinds) (v : Verdict) (kept : Kept) (left : List (Option Kept)) → IsPrefix old new → acts c new ≡ acts c old ++ Call key q (Some site) args v ∷ [] → brings v ≡ true
      → kept.key ≡ key → SaysSame (item_of kept) (item_by (stands c q.0 old) site) → IsTrueCheck t known asked new kept → ((k : ℕ) → kept_at left k ≡ (if eqb kept.key.0 k then Some kept else kept_at cache k)) → IsOwnCache t known asked c past new left
  own_put q key site args v kept left goes is new_one called says true_one puts = step_of t known asked c past old new (Call key q (Some site) args v) cache left is own.same
      (λ items same k. subst (λ (o : Option Kept). SameItem (option_map item_of o) ((if brings v then with_item key.0 (item_by (stands c q.0 old) site) items else items) k)) (sym (puts k))
      (subst (λ (b : Bool). SameItem (option_map item_of (if eqb kept.key.0 k then Some kept else kept_at cache k)) ((if b then with_item key.0 (item_by (stands c q.0 old) site) items else items) k)) (sym new_one)
      (subst (λ (j : KeyId). SameItem (option_map item_of (if eqb kept.key.0 k then Some kept else kept_at cache k)) (with_item j.0 (item_by (stands c q.0 old) site) items k)) called
      (put_same (eqb kept.key.0 k) kept (item_by (stands c q.0 old) site) (kept_at cache k) (items k) says (same k)))))
      (λ k x e. each (eqb kept.key.0 k) k x (sym (puts k) ∙ e))
    where
      each : (b : Bool) (k : ℕ) (x : Kept) → (if b then Some kept else kept_at cache k) ≡ Some x → IsTrueCheck t known asked new x
      each true k x e = subst (λ (y : Kept). IsTrueCheck t known asked new y) (same_Some kept x e) true_one
      each false k x e = check_on t names known was asked old new longer more goes x (own.each k x e)

pub own_grows : (t : Table) (names known was asked : List Name) (c : ℕ) (past : Option (List Act)) (old new : List Entry) (cache : List (Option Kept)) (g : Grows c known was asked old new) → IsPrefix names known → LeavesKept g.made → IsOwnCache t names was c past old cache → IsOwnCache t known asked c past new cache
own_grows t names known was asked c past old new cache g longer leaves own = own_stays t names known was asked c past old new cache longer (grows_asked c known was asked old new g) own g.made g.kept g.grows leaves

-- it stays with more names known and asked for
pub own_named : (t : Table) (names known was asked : List Name) (c : ℕ) (past : Option (List Act)) (log : List Entry) (cache : List (Option Kept)) → IsPrefix names known → IsPrefix was asked → IsOwnCache t names was c past log cache → IsOwnCache t known asked c past log cache
own_named t names known was asked c past log cache longer more own = own_stays t names known was asked c past log log cache longer more own [] (prefix_itself log) (sym (append-nil (acts c log))) tt

-- what is true stays so behind longer fronts, whatever came
pub true_on : (t : Table) (names known was asked : List Name) (c : ℕ) (old new : List Entry) (cache : List (Option Kept)) → IsPrefix names known → IsPrefix was asked → IsPrefix old new → IsTrueCache t names was c old cache → IsTrueCache t known asked c new cache
true_on t names known was asked c old new cache longer more goes own = record { same = tt; each = λ k kept e. check_on t names known was asked old new longer more goes kept (own.each k kept e) }

-- in two parts, one behind the other
pub keeps_on : (t : Table) (c : ℕ) (names mid known was half asked : List Name) (a b d : List Entry) (x y z : List (Option Kept)) → IsPrefix b d → KeepsChecks t c names mid was half a b x y → KeepsChecks t c mid known half asked b d y z → KeepsChecks t c names known was asked a d x z
keeps_on t c names mid known was half asked a b d x y z kept p q = record {
  own = λ past own. q.own past (p.own past own);
  ways = λ past own. each_on (EntersBy c past) c a b d kept (p.ways past own) (q.ways past (p.own (Some past) own));
}

-- it goes on to be so with more names known and asked for
pub keeps_named : (t : Table) (c : ℕ) (names known was asked : List Name) (log : List Entry) (cache : List (Option Kept)) → IsPrefix names known → IsPrefix was asked → KeepsChecks t c names known was asked log log cache cache
keeps_named t c names known was asked log cache longer more = record {
  own = λ past own. own_named t names known was asked c past log cache longer more own;
  ways = λ past own. each_itself (EntersBy c past) c log;
}

-- where nothing is done it is so
pub keeps_itself : (t : Table) (c : ℕ) (names asked : List Name) (log : List Entry) (cache : List (Option Kept)) → KeepsChecks t c names names asked asked log log cache cache
keeps_itself t c names asked log cache = keeps_named t c names names asked asked log cache (prefix_itself names) (prefix_itself asked)

-- ── when a call finds its own check ──

same_some : (i : Item) (o : Option Item) → SameItem (Some i) o → (j : Item) × (o ≡ Some j) × SaysSame i j
same_some i None h = absurd h
same_some i (Some j) h = (j, refl, h)

some_same : (o : Option Kept) (j : Item) → SameItem (option_map item_of o) (Some j) → (kept : Kept) × (o ≡ Some kept) × SaysSame (item_of kept) j
some_same None j h = absurd h
some_same (Some kept) j h = (kept, refl, h)

among_tells : (log : List Entry) (seen : List Seen) → AllByRecursion (λ s. (spot s.key.0 log).changes ≡ s.changes) seen → (k n : ℕ) → count_in seen k ≡ Some n → (spot k log).changes ≡ n
among_tells log [] h k n e = absurd (none-some n e)
among_tells log (s ∷ seen) h k n e = by (eqb s.key.0 k) refl (among_tells log seen h.1 k n) e
  where
    by : (b : Bool) → eqb s.key.0 k ≡ b → (count_in seen k ≡ Some n → (spot k log).changes ≡ n) → (if b then Some s.changes else count_in seen k) ≡ Some n → (spot k log).changes ≡ n
    by true is later e = ap (λ i. (spot i log).changes) (sym (eqb-true s.key.0 k is)) ∙ h.0 ∙ same_Some s.changes n e
    by false is later e = later e

count_tells : (log : List Entry) (kept : Kept) → (spot kept.key.0 log).changes ≡ kept.changes → AllByRecursion (λ s. (spot s.key.0 log).changes ≡ s.changes) kept.counts.items → (k n : ℕ) → count_of kept k ≡ Some n → (spot k log).changes ≡ n
count_tells log kept own h k n e = by (eqb kept.key.0 k) refl e
  where
    by : (b : Bool) → eqb kept.key.0 k ≡ b → (if b then Some kept.changes else count_in kept.counts.items k) ≡ Some n → (spot k log).changes ≡ n
    by true is e = ap (λ i. (spot i log).changes) (sym (eqb-true kept.key.0 k is)) ∙ own ∙ same_Some kept.changes n e
    by false is e = among_tells log kept.counts.items h k n e

each_tells : (log : List Entry) (kept : Kept) (seen : List Seen) → ((k n : ℕ) → count_of kept k ≡ Some n → (spot k log).changes ≡ n) → AllByRecursion (λ s. count_of kept s.key.0 ≡ Some s.changes) seen → AllByRecursion (λ s. (spot s.key.0 log).changes ≡ s.changes) seen
each_tells log kept [] tells h = tt
each_tells log kept (s ∷ seen) tells h = (tells s.key.0 s.changes h.0, each_tells log kept seen tells h.1)

own_count : (kept : Kept) → count_of kept kept.key.0 ≡ Some kept.changes
own_count kept = ap (λ b. if b then Some kept.changes else count_in kept.counts.items kept.key.0) (eq-eqb kept.key.0 kept.key.0 refl)

module _ (t : Table) (names asked : List Name) (c : ℕ) (past : List Act) (k : ℕ) (log : List Entry) (cache : List (Option Kept)) (own : IsOwnCache t names asked c (Some past) log cache) where
  -- what is kept for the key agrees: an own check agrees
  pub hit_agrees : IsHit cache k log → OwnAgrees c past k log
  hit_agrees h =
      let s = same_some (item_of h.kept) (cache_since past (acts c log) k) (subst (λ (o : Option Kept). SameItem (option_map item_of o) (cache_since past (acts c log) k)) h.there (own.same.1 k)) in
      record { item = s.0; kept = s.1; agrees = record { body = h.body ∙ ap Some s.2.body; counts = λ j n e. count_tells log h.kept h.own h.counts j n (s.2.counts j ∙ e) } }

  -- and the other way round
  pub agrees_hits : OwnAgrees c past k log → IsHit cache k log
  agrees_hits a =
      let s = some_same (kept_at cache k) a.item (subst (λ (o : Option Item). SameItem (items_in cache k) o) a.kept (own.same.1 k)) in
      let tells : (j n : ℕ) → count_of s.0 j ≡ Some n → (spot j log).changes ≡ n = λ j n e. a.agrees.counts j n (sym (s.2.counts j) ∙ e) in
      record {
        kept = s.0;
        there = s.1;
        body = a.agrees.body ∙ ap Some (sym s.2.body);
        own = tells s.0.key.0 s.0.changes (own_count s.0);
        counts = each_tells log s.0 s.0.counts.items tells (own.each k s.0 s.1).once;
      }

  pub own_differs : (kept : Kept) → kept_at cache k ≡ Some kept → ((spot kept.key.0 log).changes ≡ kept.changes → ⊥) → OwnAgrees c past k log → ⊥
  own_differs kept there other a = let h = agrees_hits a in other (subst (λ (x : Kept). (spot x.key.0 log).changes ≡ x.changes) (same_Some h.kept kept (sym h.there ∙ there)) h.own)
