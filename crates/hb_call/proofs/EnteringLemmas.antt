-- A call that is entered or refused, from what the finish of its decision comes to.
use Rattle.std.proofs.Common.{true, ◌≡◌, ℕ, inr, List, [], ◌∷◌, ◌++◌, map, Bool, cond, eqb, eq-eqb, Some, None, refl, sym, ap, ◌∙◌, subst, append_assoc}
use Rattle.std.specs.Prelude.{Option, Result, Ok, Err, slice_get, ◌&&◌}
use Rattle.std.specs.Option.{unwrap_or}
use Rattle.hb_tree.specs.Canon.{bytes_at}
use mathlib.Core.List.{IsPrefix}
use Rattle.hb_types.specs.declared.ids.CallNo.{CallNo}
use Rattle.hb_types.specs.declared.ids.KeyId.{KeyId}
use Rattle.hb_types.specs.declared.ids.BodySite.{BodySite}
use Rattle.hb_names.specs.Names.{Name, place}
use Rattle.hb_tables.specs.declared.entry.Entry.{Entry}
use Rattle.hb_tables.specs.declared.entry.Verdict.{Verdict}
use Rattle.hb_tables.specs.declared.entry.Verdict.TheVariants as verdict
use Rattle.hb_tables.specs.Answers.{Fixed}
use Rattle.hb_tables.specs.Frames.{acts}
use Rattle.hb_tables.specs.Rows.{kinds_of}
use Rattle.hb_call.specs.declared.frame.CallFail.{CallFail}
use Rattle.hb_call.specs.declared.frame.CallFail.TheVariants as fail
use Rattle.hb_tables.specs.declared.entry.ArgKinds.{ArgKinds}
use Rattle.hb_tables.specs.declared.entry.Act.{Act}
use Rattle.hb_tables.specs.declared.entry.Act.TheVariants.{Free}
use Rattle.hb_tables.specs.Standing.{Stand, all_but}
use Rattle.hb_types.specs.declared.types.Ty.{Ty}
use Rattle.hb_call.specs.Reading.{call_of, decision, freed, full_at, FullAt, Lost}
use Rattle.hb_call.specs.declared.ruling.Ended.{Ended}
use Rattle.hb_call.specs.declared.ruling.Ended.TheVariants as ended
use Rattle.hb_tables.specs.declared.entry.By.TheVariants as by
use Rattle.hb_call.specs.Held.{HasCall, Holds, frees, stands}
use Rattle.hb_tree.specs.Table.{Table}
use Rattle.hb_call.specs.Calling.{Begun, Given, Grew, Moment, Went, fits_of}
use Rattle.hb_call.specs.Alike.{went_on}
use Rattle.hb_call.specs.GrowthLaws.{each_on, grown_on, prefix_itself, with_rules}
use Rattle.hb_call.proofs.StepLemmas.{at, went_frees}
use Rattle.hb_call.specs.Growth.{EachNew}
use Rattle.hb_call.specs.Rules.{EntersBy, FitsRules}
use Rattle.hb_call.proofs.GrowthLemmas.{grows_frees}
use Rattle.hb_tables.specs.History.{IsLegal}
use Rattle.hb_call.specs.Deciding.{Decided, IsResting}
use Rattle.hb_call.specs.OwnCache.{IsOwnCache}
use Rattle.hb_call.specs.OwnLaws.{own_stays}
use Rattle.hb_call.proofs.OwnGoingLemmas.{frees_leave, frees_ways}
use Rattle.hb_call.specs.declared.answers.Answer.{Answer}
use Rattle.hb_call.specs.declared.frame.Frame.{Frame}
use Rattle.hb_deriv.specs.declared.raw.Derivation.{Derivation}
use Rattle.hb_call.specs.Entering.{Asks, IsDecidedOf, Enters, IsFinished, GaveBack, GaveUp, Finished, IsFullFor, entered_by}
use Rattle.hb_call.proofs.HeldLemmas.{none_stand}

-- what is given back of a call that is the same as before
pub gave_back : (g h : Given) (names : List Name) (old mid new : List Entry) (v : Verdict) (site : Option BodySite) (held : List KeyId) → g ≡ h → Decided h names old mid v site → Holds h.door.caller h.q.0 held mid → IsPrefix mid new → acts h.door.caller new ≡ acts h.door.caller mid ++ frees h.q held → GaveBack g names old new v
gave_back g h names old mid new v site held same decided holds kept freed =
    subst (λ (x : Given). GaveBack x names old new v) (sym same) (record {
      mid = mid;
      site = site;
      held = held;
      finished = record { decided = decided; holds = holds };
      kept = kept;
      freed = freed;
      none = none_stand h.door.caller h.q held mid new holds freed;
    })

freed_all : (q : CallNo) (hs : List Stand) (keys : List KeyId) (l : List Act) → map (λ (h : Stand). h.key) hs ≡ map (λ (k : KeyId). k.0) keys → freed q.0 hs (frees q keys ++ l) ≡ Some l
freed_all q [] [] l e = refl
freed_all q [] (key ∷ keys) l e = absurd (cc e)
freed_all q (h ∷ hs) [] l e = absurd (cc e)
freed_all q (h ∷ hs) (key ∷ keys) l e =
    let head : key.0 ≡ h.key = cc e in let rest : map (λ (h : Stand). h.key) hs ≡ map (λ (k : KeyId). k.0) keys = cc e in
    let one = eq-eqb q.0 q.0 refl in let two = eq-eqb key.0 h.key head in
    ap (λ (b : Bool). cond (b && eqb key.0 h.key) (freed q.0 hs (frees q keys ++ l)) None) one ∙ ap (λ (b : Bool). cond b (freed q.0 hs (frees q keys ++ l)) None) two ∙ freed_all q hs keys l rest

-- the Frees of all that a call holds, its own key first, tell that it is Full where its type takes the arguments
full_read : (q : CallNo) (key : KeyId) (kinds : List Ty) (hs : List Stand) (others : List KeyId) (l : List Act) → map (λ (h : Stand). h.key) hs ≡ map (λ (k : KeyId). k.0) (key ∷ others) → decision true q.0 key.0 kinds hs (frees q (key ∷ others) ++ l) ≡ FullAt l
full_read q key kinds hs others l e =
    let one = eq-eqb q.0 q.0 refl in let two = eq-eqb key.0 key.0 refl in let acts = frees q others ++ l in
    ap (λ (b : Bool). cond b (cond (eqb key.0 key.0) (full_at (freed q.0 hs (Free key q ∷ acts))) (decision true q.0 key.0 kinds (all_but key.0 hs) acts)) Lost) one
    ∙ ap (λ (b : Bool). cond b (full_at (freed q.0 hs (Free key q ∷ acts))) (decision true q.0 key.0 kinds (all_but key.0 hs) acts)) two
    ∙ ap full_at (freed_all q hs (key ∷ others) l e)

pub gave_up : (g h : Given) (names : List Name) (old mid new : List Entry) (held others : List KeyId) → g ≡ h → held ≡ h.key ∷ others → IsFullFor h names fail.Full → Holds h.door.caller h.q.0 held mid → acts h.door.caller new ≡ acts h.door.caller mid ++ frees h.q held
    → (fits_of g ≡ true → (start : List Entry) → Begun g start old → Begun g start mid) → GaveUp g names old new
gave_up g h names old mid new held others same first full holds back begun =
    subst (λ (x : Given). (fits_of x ≡ true → (start : List Entry) → Begun x start old → Begun x start mid) → GaveUp x names old new) (sym same) given begun
  where
    given : (fits_of h ≡ true → (start : List Entry) → Begun h start old → Begun h start mid) → GaveUp h names old new
    given on = record {
      full = full.1;
      reads = λ start b. let m = on full.0 start b in let hs = stands h.door.caller h.q.0 mid in (
        m.made ++ frees h.q held,
        back ∙ ap (λ w. w ++ frees h.q held) m.grows ∙ append_assoc (acts h.door.caller start) m.made (frees h.q held),
        λ l. ap (call_of h.t h.q.0 h.key.0 (kinds_of h.args)) (append_assoc m.made (frees h.q held) l) ∙ m.reads (frees h.q held ++ l)
            ∙ ap (λ (b : Bool). decision b h.q.0 h.key.0 (kinds_of h.args) hs (frees h.q held ++ l)) full.0
            ∙ ap (λ (ks : List KeyId). decision true h.q.0 h.key.0 (kinds_of h.args) hs (frees h.q ks ++ l)) first
            ∙ full_read h.q h.key (kinds_of h.args) hs others l (holds.keys ∙ ap (map (λ (k : KeyId). k.0)) first),
      );
      none = none_stand h.door.caller h.q held mid new holds back;
    }

pub called_of : (g : Given) (names : List Name) (old new : List Entry) (v : Verdict) (site : Option BodySite) → Decided g names old new v site → HasCall g.door.caller g.q.0 new
called_of g names old new v site d = record { before = d.before; call = g.q; key = g.key; site = site; args = g.args; verdict = v; after = []; is = d.is; number = refl }

-- a frame that took the keys over of a call that is the same as before
module _ (g h : Given) (same : g ≡ h) (f : Frame) (q : f.q ≡ h.q) (key : f.key ≡ h.key) (held : List KeyId) (keys : f.held.items ≡ held) where
  pub framed : (names : List Name) (old new : List Entry) (v : Verdict) (body : BodySite) → f.body ≡ body → Decided h names old new v (Some body) → Holds h.door.caller h.q.0 held new → (f.q ≡ g.q) × (f.key ≡ g.key) × IsFinished g names old new v (Some f.body) f.held.items
  framed names old new v body is decided holds =
      subst (λ (x : Given). (f.q ≡ x.q) × (f.key ≡ x.key) × IsFinished x names old new v (Some f.body) f.held.items) (sym same)
      (q, key, record { decided = subst (λ (b : BodySite). Decided h names old new v (Some b)) (sym is) decided; holds = subst (λ (l : List KeyId). Holds h.door.caller h.q.0 l new) (sym keys) holds })

  pub framed_resting : (past : Option (List Act)) (known asked : List Name) (new : List Entry) (answers : List Answer) (d : Derivation) → f.body ≡ d.body → IsResting h past known asked new held answers d → (f.q ≡ g.q) × (f.key ≡ g.key) × (f.body ≡ d.body) × IsResting g past known asked new f.held.items answers d
  framed_resting past known asked new answers d is rests =
      subst (λ (x : Given). (f.q ≡ x.q) × (f.key ≡ x.key) × (f.body ≡ d.body) × IsResting x past known asked new f.held.items answers d) (sym same)
      (q, key, is, subst (λ (l : List KeyId). IsResting h past known asked new l answers d) (sym keys) rests)

-- it holds its keys behind its Call
pub framed_well : (g : Given) (names : List Name) (old new : List Entry) (v : Verdict) (f : Frame) → (f.q ≡ g.q) × (f.key ≡ g.key) × IsFinished g names old new v (Some f.body) f.held.items → (f.q ≡ g.q) × Holds g.door.caller g.q.0 f.held.items new × HasCall g.door.caller g.q.0 new
framed_well g names old new v f h = (h.0, h.2.holds, called_of g names old new v (Some f.body) h.2.decided)

-- what is kept stays so for a call that is the same as before
pub same_own : (g h : Given) (past : Option (List Act)) (known asked : List Name) (new : List Entry) → g ≡ h → IsOwnCache h.t known asked h.door.caller past new h.cache → IsOwnCache g.t known asked g.door.caller past new g.cache
same_own g h past known asked new same own = subst (λ (x : Given). IsOwnCache x.t known asked x.door.caller past new x.cache) (sym same) own

-- what a call comes to that gave back what it held
module _ (g h : Given) (same : g ≡ h) (was : Moment) (known asked : List Name) (mid new : List Entry) (held : List KeyId) (kept : IsPrefix mid new) (back : acts h.door.caller new ≡ acts h.door.caller mid ++ frees h.q held) where
  pub back_went : (IsLegal h.door.limit mid → IsLegal h.door.limit new) → Went g was (at known asked mid) → Went g was (at known asked new)
  back_went legal went = went_on g was (at known asked mid) (at known asked new) went (subst (λ (x : Given). Went x (at known asked mid) (at known asked new)) (sym same) (went_frees h known asked mid new held kept back legal))

  pub back_grew : EachNew (FitsRules h.t known h.door.caller) h.door.caller mid new → Grew g was (at known asked mid) → Grew g was (at known asked new)
  back_grew rules grew =
      let last : Grew g (at known asked mid) (at known asked new) = subst (λ (x : Given). Grew x (at known asked mid) (at known asked new)) (sym same) (with_rules h.t h.door.caller known asked asked mid new (grows_frees h.door.caller known asked h.q held mid new kept back) rules) in
      grown_on g.t g.door.caller known known was.asked asked asked was.log mid new grew last (prefix_itself known)

  pub back_ways : (past : List Act) → EachNew (EntersBy g.door.caller past) g.door.caller was.log mid → EachNew (EntersBy g.door.caller past) g.door.caller was.log new
  back_ways past ways = each_on (EntersBy g.door.caller past) g.door.caller was.log mid new kept ways (subst (λ (x : Given). EachNew (EntersBy x.door.caller past) x.door.caller mid new) (sym same) (frees_ways h.door.caller past h.q held mid new back))

  pub back_own : (past : Option (List Act)) → IsOwnCache h.t known asked h.door.caller past mid h.cache → IsOwnCache g.t known asked g.door.caller past new g.cache
  back_own past own = same_own g h past known asked new same (own_stays h.t known known asked asked h.door.caller past mid new h.cache (prefix_itself known) (prefix_itself asked) own (frees h.q held) kept back (frees_leave h.q held))

pub none_left : (g h : Given) (mid new : List Entry) (held : List KeyId) → g ≡ h → Holds h.door.caller h.q.0 held mid → acts h.door.caller new ≡ acts h.door.caller mid ++ frees h.q held → stands g.door.caller g.q.0 new ≡ []
none_left g h mid new held same holds freed = ap (λ (x : Given). stands x.door.caller x.q.0 new) same ∙ none_stand h.door.caller h.q held mid new holds freed

-- a call that was not decided
pub stopped : (g h : Given) (names : List Name) (old mid new : List Entry) (held others : List KeyId) (cause : CallFail) → g ≡ h → held ≡ h.key ∷ others → IsFullFor h names cause → Holds h.door.caller h.q.0 held mid → acts h.door.caller new ≡ acts h.door.caller mid ++ frees h.q held
    → (fits_of g ≡ true → (start : List Entry) → Begun g start old → Begun g start mid) → Finished g names old new (Err cause)
stopped g h names old mid new held others fail.Full same first full holds back begun = gave_up g h names old mid new held others same first full holds back begun
stopped g h names old mid new held others fail.NoMemory same first full holds back begun = none_left g h mid new held same holds back

module _ (a : Asks) (g : Given) (program : g.t ≡ a.t) (door : g.door ≡ a.door) (q : g.q ≡ a.q) (class : g.class ≡ a.class) (args : g.args ≡ a.args) (names : List Name) (named : place names (a.class.0, a.bytes) ≡ Some g.key.0) (old first : List Entry) (begun : Begun g old first) where
  decided_of : (mid : List Entry) (key : KeyId) (v : Verdict) (site : Option BodySite) (held : List KeyId) → key ≡ g.key → IsFinished g names first mid v site held → IsDecidedOf a names old mid key v site held
  decided_of mid key v site held is f = record {
    given = g;
    program = program;
    door = door;
    q = q;
    class = class;
    args = args;
    called = sym is;
    named = named ∙ ap (λ (k : KeyId). Some k.0) (sym is);
    first = first;
    begun = begun;
    decided = f.decided;
    holds = subst (λ (d : Fixed). Holds d.caller a.q.0 held mid) door (subst (λ (p : CallNo). Holds g.door.caller p.0 held mid) q f.holds);
  }

  none_of : (new : List Entry) → stands g.door.caller g.q.0 new ≡ [] → stands a.door.caller a.q.0 new ≡ []
  none_of new none = ap (λ (d : Fixed). stands d.caller a.q.0 new) (sym door) ∙ ap (λ (p : CallNo). stands g.door.caller p.0 new) (sym q) ∙ none

  pub enters : (new : List Entry) (r : Result Ended CallFail) → Finished g names first new r → Enters a names old new (entered_by r)
  enters new (Ok (ended.Own f)) h = (h.0 ∙ q, decided_of new f.key (verdict.Enter by.Own) (Some f.body) f.held.items h.1 h.2)
  enters new (Ok (ended.Fresh f d)) h = (h.0 ∙ q, decided_of new f.key (verdict.Enter by.Fresh) (Some f.body) f.held.items h.1 h.2)
  enters new (Ok (ended.Refused v)) h = record {
    mid = h.mid;
    key = g.key;
    site = h.site;
    held = h.held;
    decided = decided_of h.mid g.key v h.site h.held refl h.finished;
    kept = h.kept;
    freed = ap (λ (d : Fixed). acts d.caller new) (sym door) ∙ h.freed ∙ ap (λ (d : Fixed). acts d.caller h.mid ++ frees g.q h.held) door ∙ ap (λ (p : CallNo). acts a.door.caller h.mid ++ frees p h.held) q;
    none = none_of new h.none;
  }
  enters new (Err fail.Full) h =
      let r = h.reads old begun in
      inr (record {
        key = g.key;
        named = named;
        full = h.full;
        made = r.0;
        grows = ap (λ (d : Fixed). acts d.caller new) (sym door) ∙ r.1 ∙ ap (λ (d : Fixed). acts d.caller old ++ r.0) door;
        reads = λ l. ap (λ (p : CallNo). call_of a.t p.0 g.key.0 (kinds_of a.args) (r.0 ++ l)) (sym q) ∙ ap (λ (x : ArgKinds). call_of a.t g.q.0 g.key.0 (kinds_of x) (r.0 ++ l)) (sym args)
            ∙ ap (λ (t : Table). call_of t g.q.0 g.key.0 (kinds_of g.args) (r.0 ++ l)) (sym program) ∙ r.2 l;
        none = none_of new h.none;
      })
  enters new (Err fail.NoMemory) h = none_of new h

pub bytes_found : (names : List (List ℕ)) (n : ℕ) (bytes : List ℕ) → slice_get names n ≡ Some bytes → bytes_at names n ≡ bytes
bytes_found names n bytes is = ap (λ (o : Option (List ℕ)). unwrap_or o []) is
