-- A call that is decided, in the words of its parts.
use Rattle.std.proofs.Common.{◌≡◌, ℕ, suc, ◌+◌, ◌<◌, ◌≤◌, ◌⊎◌, inl, inr, List, [], ◌∷◌, ◌++◌, length, map, get_or, drop, Option, Some, None, Bool, true, false, nat_eq, refl, sym, ap, ◌∙◌, subst, arith}
use Rattle.std.proofs.lemmas.Option.{none-some}
use Rattle.std.proofs.lemmas.Bool.{eqb-true}
use Rattle.hb_tables.specs.declared.entry.Act.TheVariants.{Hold, Free, Retype, Busy, WornType, Define, WornDef, Call}
use Rattle.hb_deriv.proofs.JudgementLemmas.{and_both}
use Rattle.hb_call.specs.Reading.{FullAt, Lost, call_of, decision, takes_at}
use Rattle.hb_call.specs.Growth.{Grown, with_found, with_key, asked_after}
use Rattle.hb_call.specs.GrowthLaws.{grown_itself, grown_on}
use Rattle.hb_tables.specs.Frames.{acts}
use Rattle.hb_names.proofs.NameLemmas.{place-append}
use Rattle.std.proofs.Common.{append-nil}
use Rattle.std.specs.Prelude.{Ok, slice_get, is_some, ◌&&◌, if◌then◌else◌}
use mathlib.Core.List.{IsPrefix}
use Rattle.hb_cache.specs.declared.kept.Kept.{Kept}
use Rattle.hb_types.specs.declared.ids.CallNo.{CallNo}
use Rattle.hb_types.specs.declared.ids.ClassId.{ClassId}
use Rattle.hb_types.specs.declared.ids.NodeId.{NodeId}
use Rattle.hb_types.specs.declared.types.Ty.{Ty}
use Rattle.hb_tree.specs.declared.parts.Body.{Body}
use Rattle.hb_tree.specs.Table.{Table}
use Rattle.hb_tree.specs.Canon.{bytes_at}
use Rattle.hb_names.specs.declared.names.TheConstants.{NAMES_MAX}
use Rattle.hb_names.specs.Names.{Name, place, with_name, IsFull}
use Rattle.hb_names.proofs.NameLemmas.{place-longer, place-at, place-last}
use Rattle.hb_tables.specs.declared.entry.Entry.{Entry}
use Rattle.hb_tables.specs.declared.entry.Act.{Act}
use Rattle.hb_tables.specs.declared.entry.ArgKinds.{ArgKinds}
use Rattle.hb_tables.specs.declared.entry.By.{By}
use Rattle.hb_tables.specs.declared.entry.By.TheVariants as by
use Rattle.hb_tables.specs.declared.entry.Verdict.TheVariants as verdict
use Rattle.hb_tables.specs.Answers.{Fixed}
use Rattle.hb_tables.specs.Rows.{kinds_of, body_at}
use Rattle.hb_call.specs.declared.frame.Frame.{Frame}
use Rattle.hb_call.specs.Entering.{Asks, IsDecidedOf, IsFullAtOnce, IsFullLater}
use Rattle.hb_eval.specs.declared.value.Value.{Value}
use Rattle.hb_eval.specs.declared.value.Value.TheVariants as value
use Rattle.hb_eval.specs.declared.framed.Framed.{Framed}
use Rattle.hb_eval.specs.declared.state.State.{State}
use Rattle.hb_eval.specs.declared.state.Move.{Move}
use Rattle.hb_eval.specs.Values.{IsKnown, kind_of}
use Rattle.hb_eval.specs.Calls.{receiver}
use Rattle.hb_eval.specs.Turns.{Goes, Telling, with_operands, after, Reads}
use Rattle.hb_eval.specs.Entries.{calling, counted, entered, with_entry}
use Rattle.hb_eval.proofs.MethodLemmas.{whole}
use Rattle.hb_eval.proofs.TurnLemmas.{prefix_on, reads_on}
use Rattle.hb_eval.proofs.StayingLemmas.{prefix_itself}
use Rattle.hb_eval.proofs.EntryLemmas.{call_enters}

-- the class of a receiver is known
pub class_known : (t : Table) (v : Value) (c : ClassId) → receiver v ≡ Ok c → IsKnown t v → c.0 < length t.classes
class_known t (value.Object o) c e known = subst (λ (x : ClassId). x.0 < length t.classes) (let f : o ≡ c = cc in f) known
class_known t _ c e known = absurd (cc)

pub reads_longer : (known longer : List Name) (c : ℕ) (was now : List Entry) (old new : State) (first second : Telling) → IsPrefix known longer → Reads known c was now old new first second → Reads longer c was now old new first second
reads_longer known longer c was now old new first second named a = record {
  more = a.more;
  grows = a.grows;
  same = λ names p few ks read journal. a.same names (prefix_on known longer names named p) few ks read journal;
  tallies = a.tallies;
}

-- what is kept plays no part in what the acts come to
pub reads_kept : (known : List Name) (c : ℕ) (was now : List Entry) (old new : State) (cache : List (Option Kept)) (told telling : Telling) → Reads known c was now (record old { cache = cache }) new told telling → Reads known c was now old new told telling
reads_kept known c was now old new cache told telling r = record {
  more = r.more;
  grows = r.grows;
  same = r.same;
  tallies = record { decided = r.tallies.decided; own = r.tallies.own; fresh = r.tallies.fresh; shared = r.tallies.shared };
}

-- nor in what the stacks have
pub goes_kept : (t : Table) (taken ended pending : ℕ) (old_frames : List Framed) (old : State) (cache : List (Option Kept)) (new_frames : List Framed) (new : State) (move : Move)
    → Goes t taken ended pending old_frames (record old { cache = cache }) new_frames new move → Goes t taken ended pending old_frames old new_frames new move
goes_kept t taken ended pending old_frames old cache new_frames new move g = record {
  under = g.under;
  push = g.push;
  step = g.step;
  light = g.light;
  operands = g.operands;
  frames = g.frames;
  calls = g.calls;
  decided = g.decided;
  entered = g.entered;
  based = λ b. g.based (record { top = b.top; below = b.below });
  known = λ h. g.known (record { state = record { acc = h.state.acc; operands = h.state.operands; vars = h.state.vars; class = h.state.class }; callers = h.callers });
}

entered_more : (way : By) (x : State) → x.own + x.fresh ≤ x.decided → with_entry by.Own way x.own + with_entry by.Fresh way x.fresh ≤ x.decided + 1
entered_more by.Own x h = omega (arith, h)
entered_more by.Shared x h = omega (arith, h)
entered_more by.Fresh x h = omega (arith, h)

-- the call of a body that begins was counted
pub goes_counted : (t : Table) (taken : ℕ) (way : By) (old_frames : List Framed) (old : State) (new_frames : List Framed) (new : State) (move : Move)
    → Goes t taken 0 0 old_frames (counted way old) new_frames new move → Goes t taken 0 1 old_frames old new_frames new move
goes_counted t taken way old_frames old new_frames new move g = record {
  under = g.under;
  push = g.push;
  step = g.step;
  light = g.light;
  operands = g.operands;
  frames = g.frames;
  calls = let e = g.calls in omega (arith, e);
  decided = λ h. g.decided (omega (arith, h));
  entered = λ h. g.entered (entered_more way old h);
  based = λ b. g.based (record { top = b.top; below = b.below });
  known = λ h. g.known (record { state = record { acc = h.state.acc; operands = h.state.operands; vars = h.state.vars; class = h.state.class }; callers = h.callers });
}

-- it enters, and its body begins
pub enters_body : (known : List Name) (t : Table) (door : Fixed) (q : CallNo) (cl : ClassId) (m : ℕ) (args : ArgKinds) (id : NodeId) (at : ℕ) (d : Value) (frames reserved new_frames : List Framed) (old mid new : State) (f : Frame) (way : By) (b : Body) (was now : List Entry) (move : Move)
    → q.0 ≡ old.made + 1 → at < length old.operands.items → length frames < 4096 → receiver (get_or old.operands.items at d) ≡ Ok cl → kinds_of args ≡ map kind_of (drop (suc at) old.operands.items)
    → f.q ≡ q → IsDecidedOf (record { t = t; door = door; q = q; class = cl; bytes = bytes_at t.names m; args = args }) known was now f.key (verdict.Enter way) (Some f.body) f.held.items → (way ≡ by.Shared → ⊥) → body_at t (Some f.body) ≡ Some b
    → mid ≡ counted way old → reserved ≡ frames → new.begun ≡ mid.begun
    → Reads known door.caller now now mid new (with_operands t at (λ w room vs s. entered w room f cl b vs s) reserved mid) (after t move new_frames new)
    → Reads known door.caller was now old new (with_operands t at (λ w room vs s. calling w room id.0 m vs s) frames old) (after t move new_frames new)
enters_body known t door q cl m args id at d frames reserved new_frames old mid new f way b was now move number lt few rec kinds same h apart body is room begun r =
    reads_on known known door.caller was now now old mid new _ _ _ (prefix_itself known) (sym begun)
    (call_enters known t door q cl m args id at d frames old number lt few rec kinds f way b was now mid same h apart body is)
    (subst (λ l. Reads known door.caller now now mid new (with_operands t at (λ w room vs s. entered w room f cl b vs s) l mid) (after t move new_frames new)) room r)

-- a name has its place also in a longer list, so it was not that name for which there was no room
pub later_full : (a : Asks) (known longer : List Name) (was now : List Entry) → IsPrefix known longer → length longer ≤ NAMES_MAX → ((key : ℕ) × (place longer (a.class.0, a.bytes) ≡ Some key)) → IsFullAtOnce a known was now ⊎ IsFullLater a known was now → IsFullLater a known was now
later_full a known longer was now p few h (inl once) =
    absurd (none-some h.0 (sym once.full.1 ∙ ap (λ l. place l (a.class.0, a.bytes)) (sym (whole known longer p once.full.0 few)) ∙ h.1))
later_full a known longer was now p few h (inr later) = later

pub once_full : (a : Asks) (known longer : List Name) (was now : List Entry) → IsPrefix known longer → IsFull longer (a.class.0, a.bytes) → IsFullAtOnce a known was now ⊎ IsFullLater a known was now → IsFullAtOnce a known was now
once_full a known longer was now p h (inl once) = once
once_full a known longer was now p h (inr later) = absurd (none-some later.key.0 (sym h.1 ∙ place-longer known longer (a.class.0, a.bytes) later.key.0 p later.named))

name_there : (was : List Name) (name : Name) → (k : ℕ) × (place (with_name was name) name ≡ Some k)
name_there was name = go (place was name) refl
  where
    go : (o : Option ℕ) → place was name ≡ o → (k : ℕ) × (place (with_name was name) name ≡ Some k)
    go None e = (length was, ap (λ o. place (if is_some o then was else was ++ name ∷ []) name) e ∙ place-last was name e)
    go (Some k) e = (k, ap (λ o. place (if is_some o then was else was ++ name ∷ []) name) e ∙ e)

name_stays : (was : List Name) (n name : Name) (k : ℕ) → place was name ≡ Some k → place (with_name was n) name ≡ Some k
name_stays was n name k e = go (is_some (place was n))
  where
    go : (b : Bool) → place (if b then was else was ++ n ∷ []) name ≡ Some k
    go true = e
    go false = place-append was (n ∷ []) name k e

found_stays : (was : List Name) (o : Option Name) (name : Name) (k : ℕ) → place was name ≡ Some k → place (with_found was o) name ≡ Some k
found_stays was None name k e = e
found_stays was (Some n) name k e = name_stays was n name k e

asked_stays : (names was : List Name) (l : List Act) (name : Name) (k : ℕ) → place was name ≡ Some k → place (asked_after names was l) name ≡ Some k
asked_stays names was [] name k e = e
asked_stays names was (Hold key q ty changes ∷ l) name k e = asked_stays names (with_key names was key.0) l name k (found_stays was (slice_get names key.0) name k e)
asked_stays names was (Free key q ∷ l) name k e = asked_stays names was l name k e
asked_stays names was (Retype key site ∷ l) name k e = asked_stays names (with_key names was key.0) l name k (found_stays was (slice_get names key.0) name k e)
asked_stays names was (Busy key pins ∷ l) name k e = asked_stays names (with_key names was key.0) l name k (found_stays was (slice_get names key.0) name k e)
asked_stays names was (WornType key ∷ l) name k e = asked_stays names (with_key names was key.0) l name k (found_stays was (slice_get names key.0) name k e)
asked_stays names was (Define key site ∷ l) name k e = asked_stays names (with_key names was key.0) l name k (found_stays was (slice_get names key.0) name k e)
asked_stays names was (WornDef key ∷ l) name k e = asked_stays names (with_key names was key.0) l name k (found_stays was (slice_get names key.0) name k e)
asked_stays names was (Call key q site args v ∷ l) name k e = asked_stays names was l name k e

-- the acts of a call ask for its own name first
asked_first : (t : Table) (names was : List Name) (q k : ℕ) (kinds : List Ty) (made : List Act) (name : Name) → place names name ≡ Some k → call_of t q k kinds made ≡ FullAt [] → (j : ℕ) × (place (asked_after names was made) name ≡ Some j)
asked_first t names was q k kinds (Hold key r ty changes ∷ l) name found e = go (nat_eq r.0 q && nat_eq key.0 k) refl e
  where
    go : (b : Bool) → (nat_eq r.0 q && nat_eq key.0 k) ≡ b → (if b then decision (takes_at t ty kinds) q k kinds (record { key = key.0; ty = ty; changes = changes } ∷ []) l else Lost) ≡ FullAt [] → (j : ℕ) × (place (asked_after names (with_key names was key.0) l) name ≡ Some j)
    go true is e =
        let same : key.0 ≡ k = eqb-true key.0 k (and_both _ _ is).1 in
        let at : slice_get names key.0 ≡ Some name = ap (slice_get names) same ∙ place-at names name k found in
        let there = name_there was name in
        (there.0, asked_stays names (with_key names was key.0) l name there.0 (ap (λ o. place (with_found was o) name) at ∙ there.1))
    go false is e = absurd (cc)
asked_first t names was q k kinds _ name found e = absurd (cc)

same_end : {A : Type 0} (a b c : List A) → a ++ b ≡ a ++ c → b ≡ c
same_end [] b c e = e
same_end (x ∷ a) b c e = same_end a b c (let f : a ++ b ≡ a ++ c = cc in f)

-- asking once more for the name of a call changes nothing
pub grown_again : (a : Asks) (known longer was mid again : List Name) (old new : List Entry) → IsPrefix known longer → IsFullLater a known old new → again ≡ with_name mid (a.class.0, a.bytes) → Grown a.t a.door.caller known was mid old new → Grown a.t a.door.caller longer was again old new
grown_again a known longer was mid again old new p h is g =
    let made : g.made ≡ h.made = same_end (acts a.door.caller old) g.made h.made (sym g.grows ∙ h.grows) in
    let asked : mid ≡ asked_after known was h.made = g.names known (prefix_itself known) ∙ ap (asked_after known was) made in
    let there = asked_first a.t known was a.q.0 h.key.0 (kinds_of a.args) h.made (a.class.0, a.bytes) h.named (ap (call_of a.t a.q.0 h.key.0 (kinds_of a.args)) (sym (append-nil h.made)) ∙ h.reads []) in
    let known_there : place mid (a.class.0, a.bytes) ≡ Some there.0 = ap (λ l. place l (a.class.0, a.bytes)) asked ∙ there.1 in
    let same : again ≡ mid = is ∙ ap (λ o. if is_some o then mid else mid ++ (a.class.0, a.bytes) ∷ []) known_there in
    subst (λ l. Grown a.t a.door.caller longer was l old new) (sym same)
    (grown_on a.t a.door.caller known longer was mid mid old new new g (grown_itself a.t a.door.caller longer mid new) p)
