-- A caller's own cache, and the names that were asked for, while a call is decided.
use Rattle.std.proofs.Common.{◌≡◌, ℕ, ◌+◌, ◌≤◌, eqb, Bool, true, false, cond, List, [], ◌∷◌, ◌++◌, refl, sym, ap, ◌∙◌, subst, arith, eq-eqb}
use Rattle.std.specs.Prelude.{Option}
use Rattle.hb_types.specs.declared.ids.CallNo.{CallNo}
use Rattle.hb_types.specs.declared.ids.KeyId.{KeyId}
use Rattle.hb_types.specs.declared.ids.TypeSite.{TypeSite}
use mathlib.Core.List.{IsPrefix}
use Rattle.hb_cache.specs.declared.kept.Kept.{Kept}
use Rattle.hb_tree.specs.Table.{Table}
use Rattle.hb_names.specs.Names.{Name}
use Rattle.hb_tables.specs.declared.entry.Act.{Act}
use Rattle.hb_tables.specs.declared.entry.Entry.{Entry}
use Rattle.hb_tables.specs.declared.entry.Act.TheVariants.{Hold, Free, Retype, Busy, WornType, Define, WornDef, Call}
use Rattle.hb_tables.specs.Frames.{acts, frees as frees_by, StaysLive}
use Rattle.hb_tables.specs.Standing.{Stand, count_of, stand_done, standing_from}
use Rattle.hb_tables.proofs.StandingLemmas.{count_last}
use Rattle.hb_call.specs.Calling.{AreParts, Given, Goes, IsAskedFor, IsPart, Moment}
use Rattle.hb_call.specs.Growth.{EachNew, asked_after}
use Rattle.hb_call.specs.GrowthLaws.{prefix_itself}
use Rattle.hb_call.specs.Held.{frees}
use Rattle.hb_call.specs.Own.{LeavesKept}
use Rattle.hb_call.specs.OwnCache.{IsOwnCache, KeepsChecks}
use Rattle.hb_call.specs.OwnLaws.{asked_already, own_grows, own_stays}
use Rattle.hb_call.specs.Rules.{EntersBy}
use Rattle.hb_call.proofs.GrowthLemmas.{each_frees, each_made}

-- holds and frees leave what is kept
pub parts_leave : (q : CallNo) (l : List Act) → AreParts q l → LeavesKept l
parts_leave q [] h = tt
parts_leave q (Hold key p ty changes ∷ l) h = (refl, parts_leave q l h.1)
parts_leave q (Free key p ∷ l) h = (refl, parts_leave q l h.1)
parts_leave _ _ h = absurd h.0

pub frees_leave : (q : CallNo) (keys : List KeyId) → LeavesKept (frees q keys)
frees_leave q [] = tt
frees_leave q (key ∷ keys) = (refl, frees_leave q keys)

-- so a call that goes on leaves its caller's own cache
pub goes_own : (g : Given) (past : Option (List Act)) (was is : Moment) (cache : List (Option Kept)) → Goes g was is → IsOwnCache g.t was.known was.asked g.door.caller past was.log cache → IsOwnCache g.t is.known is.asked g.door.caller past is.log cache
goes_own g past was is cache goes own = own_grows g.t was.known is.known was.asked is.asked g.door.caller past was.log is.log cache goes.grew goes.went.named (parts_leave g.q goes.grew.made goes.parts) own

part_at : (q : CallNo) (xs ys : List Act) (a : Act) → AreParts q (xs ++ a ∷ ys) → IsPart q a
part_at q [] ys a h = h.0
part_at q (x ∷ xs) ys a h = part_at q xs ys a h.1

part_enters : (c : ℕ) (past : List Act) (q : CallNo) (before : List Entry) (a : Act) → IsPart q a → EntersBy c past before a
part_enters c past q before (Hold key p ty changes) h = tt
part_enters c past q before (Free key p) h = tt
part_enters _ _ _ _ _ h = absurd h

-- and enters no body
pub goes_ways : (g : Given) (past : List Act) (was is : Moment) → Goes g was is → EachNew (EntersBy g.door.caller past) g.door.caller was.log is.log
goes_ways g past was is goes = each_made (EntersBy g.door.caller past) g.door.caller was.log is.log goes.grew.made goes.grew.grows
    (λ xs ys a before e from to so_far. part_enters g.door.caller past g.q before a (part_at g.q xs ys a (subst (AreParts g.q) e goes.parts)))

pub goes_keep : (g : Given) (was is : Moment) (cache : List (Option Kept)) → Goes g was is → KeepsChecks g.t g.door.caller was.known is.known was.asked is.asked was.log is.log cache cache
goes_keep g was is cache goes = record { own = λ past own. goes_own g past was is cache goes own; ways = λ past own. goes_ways g past was is goes }

-- what is given back enters no body
pub frees_ways : (c : ℕ) (past : List Act) (q : CallNo) (keys : List KeyId) (old new : List Entry) → acts c new ≡ acts c old ++ frees q keys → EachNew (EntersBy c past) c old new
frees_ways c past q keys old new is = each_frees (EntersBy c past) c q keys old new is (λ before key from. tt)

-- what is kept stays over what a call gives back
pub frees_keep : (t : Table) (c : ℕ) (names asked : List Name) (q : CallNo) (keys : List KeyId) (old new : List Entry) (cache : List (Option Kept)) → IsPrefix old new → acts c new ≡ acts c old ++ frees q keys → KeepsChecks t c names names asked asked old new cache cache
frees_keep t c names asked q keys old new cache kept is = record {
  own = λ past own. own_stays t names names asked asked c past old new cache (prefix_itself names) (prefix_itself asked) own (frees q keys) kept is (frees_leave q keys);
  ways = λ past own. frees_ways c past q keys old new is;
}

-- ── names that were asked for before ──

stands_on : (q k : ℕ) (hs : List Stand) (a : Act) → frees_by q a ≡ false → 1 ≤ count_of k hs → 1 ≤ count_of k (stand_done q hs a)
stands_on q k hs (Hold key p ty changes) live some = by (eqb q p.0)
  where
    by : (b : Bool) → 1 ≤ count_of k (cond b (hs ++ record { key = key.0; ty = ty; changes = changes } ∷ []) hs)
    by true = let n = count_last k hs (record { key = key.0; ty = ty; changes = changes }) in omega (arith, n, some)
    by false = some
stands_on q k hs (Free key p) live some = rw live some
stands_on _ _ _ _ _ some = some

-- what stands does so while the call frees nothing
stands_live : (q k : ℕ) (hs : List Stand) (l : List Act) → StaysLive q l → 1 ≤ count_of k hs → 1 ≤ count_of k (standing_from q hs l)
stands_live q k hs [] live some = some
stands_live q k hs (a ∷ l) live some = stands_live q k (stand_done q hs a) l live.1 (stands_on q k hs a live.0 some)

stands_held : (q p : CallNo) (key : KeyId) (ty : Option TypeSite) (changes : ℕ) (hs : List Stand) → p ≡ q → 1 ≤ count_of key.0 (stand_done q.0 hs (Hold key p ty changes))
stands_held q p key ty changes hs is =
    let here : Stand = record { key = key.0; ty = ty; changes = changes } in
    let n = count_last key.0 hs here in
    let one : count_of key.0 (here ∷ []) ≡ 1 + count_of key.0 [] = ap (λ b. cond b 1 0 + count_of key.0 []) (eq-eqb key.0 key.0 refl) in
    let same : eqb q.0 p.0 ≡ true = eq-eqb q.0 p.0 (ap (λ (x : CallNo). x.0) (sym is)) in
    rw same (omega (arith, n, one))

-- A call that frees nothing, and holds keys whose names were asked for, asks for nothing new.
pub asked_live : (q : CallNo) (names asked : List Name) (hs : List Stand) (l : List Act) → AreParts q l → StaysLive q.0 l → ((k : ℕ) → 1 ≤ count_of k (standing_from q.0 hs l) → IsAskedFor names asked k) → asked_after names asked l ≡ asked
asked_live q names asked hs [] parts live held = refl
asked_live q names asked hs (Hold key p ty changes ∷ l) parts live held =
    let hs2 = stand_done q.0 hs (Hold key p ty changes) in
    ap (λ w. asked_after names w l) (asked_already names asked key.0 (held key.0 (stands_live q.0 key.0 hs2 l live.1 (stands_held q p key ty changes hs parts.0))))
    ∙ asked_live q names asked hs2 l parts.1 live.1 held
asked_live q names asked hs (Free key p ∷ l) parts live held = asked_live q names asked (stand_done q.0 hs (Free key p)) l parts.1 live.1 held
asked_live _ _ _ _ _ parts _ _ = absurd parts.0
