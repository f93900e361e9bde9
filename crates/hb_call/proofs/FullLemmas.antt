-- A call that gives up where the list of names is full.
use Rattle.std.proofs.Common.{◌≡◌, inl, inr, ℕ, true, suc, List, [], ◌∷◌, ◌++◌, map, Some, None, Ok, Err, refl, sym, ap, ◌∙◌, subst, append_assoc, arith}
use Rattle.std.proofs.lemmas.List.{append-nil}
use Rattle.std.specs.Prelude.{Option, Result, Contains, IfErr, IsErrAnd, slice_get}
use Rattle.std.specs.Option.{option_map}
use mathlib.Core.List.{IsPrefix}
use Rattle.hb_types.specs.declared.ids.CallNo.{CallNo}
use Rattle.hb_types.specs.declared.ids.KeyId.{KeyId}
use Rattle.hb_types.specs.declared.ids.TypeSite.{TypeSite}
use Rattle.hb_types.specs.declared.ids.BodySite.{BodySite}
use Rattle.hb_types.specs.declared.types.Ty.{Ty}
use Rattle.hb_types.specs.declared.types.MethodTy.{MethodTy}
use Rattle.hb_tree.specs.Table.{Table}
use Rattle.hb_deriv.specs.Judge.{Key}
use Rattle.hb_deriv.specs.Events.{SameAt}
use Rattle.hb_deriv.specs.Derivation.{type_at}
use Rattle.hb_deriv.specs.Programs.{sites_of}
use Rattle.hb_deriv.proofs.LookLemmas.{looks_onward}
use Rattle.hb_check.specs.declared.lookup.LookFail.{LookFail}
use Rattle.hb_check.specs.declared.lookup.LookFail.TheVariants as look
use Rattle.hb_check.specs.Asked.{key_asked}
use Rattle.hb_check.specs.Checking.{Answers}
use Rattle.hb_names.specs.Names.{Name, place}
use Rattle.hb_tables.specs.declared.entry.Entry.{Entry}
use Rattle.hb_tables.specs.declared.entry.Act.{Act}
use Rattle.hb_tables.specs.declared.entry.Act.TheVariants.{Free}
use Rattle.hb_tables.specs.History.{spot, times, entry, IsLegal}
use Rattle.hb_tables.specs.Frames.{acts, KeepsHold}
use Rattle.hb_tables.specs.Standing.{count_of, standing}
use Rattle.hb_tables.specs.Names.{name_of}
use Rattle.hb_tables.specs.Rows.{HoldsName, declared_in, kinds_of, site_in, type_of_key, types_in}
use Rattle.hb_tables.specs.Verdicts.{looks_of, subject, takes}
use Rattle.hb_tables.proofs.FrameLemmas.{acts_append, acts_cut, hold_keeps}
use Rattle.hb_tables.proofs.DeskLemmas.{same_held}
use Rattle.hb_tables.proofs.HistoryLemmas.{legal_prefix}
use Rattle.hb_call.specs.declared.answers.Answer.{Answer}
use Rattle.hb_call.specs.declared.answers.Refused.{Refused}
use Rattle.hb_call.specs.declared.frame.CallFail.{CallFail}
use Rattle.hb_call.specs.declared.ruling.Ended.{Ended}
use Rattle.hb_call.specs.declared.frame.CallFail.TheVariants as fail
use Rattle.hb_call.proofs.RetreatLemmas.{first_of}
use Rattle.hb_call.proofs.HeldLemmas.{count_head}
use Rattle.hb_tables.proofs.StandingLemmas.{held_stands}
use Rattle.hb_call.specs.Causes.{look_cause}
use Rattle.hb_call.specs.Held.{Holds, frees, stands}
use Rattle.hb_call.specs.Calling.{Given, HasBody, IsCalling, IsRefusedRightly, Moment, answers_of, refusal_of}
use Rattle.hb_call.specs.Entering.{IsRightlyFor, IsTold}
use Rattle.hb_call.specs.Growth.{EachNew}
use Rattle.hb_call.specs.Rules.{Began, FitsRules, GivesUp, IsFullRightly}
use Rattle.hb_call.specs.GrowthLaws.{looks_by, prefix_more}
use Rattle.hb_call.proofs.GrowthLemmas.{each_made, whole_same}
use Rattle.hb_call.proofs.StayLemmas.{acts_rest}
use Rattle.hb_call.proofs.DecidingLemmas.{agrees, found_in, held_in}
use Rattle.hb_call.specs.Deciding.{AreNext, type_declared}
use Rattle.hb_call.proofs.NarrowLemmas.{looks_here, narrow_before}
use Rattle.hb_call.proofs.LookingLemmas.{all_looks, began_on, true_back}

-- while others go on, a list of names that was full for the next look is so
module _ (t : Table) (names : List Name) (limit c : ℕ) (q : CallNo) (key : KeyId) (log rest : List Entry) (legal : IsLegal limit (log ++ rest)) (none : acts c rest ≡ []) where
  same : stands c q.0 (log ++ rest) ≡ stands c q.0 log
  same = ap (standing q.0) (acts_append c log rest ∙ ap (λ w. acts c log ++ w) none ∙ append-nil (acts c log))

  keeps : (k : ℕ) → KeepsHold q.0 k (acts c rest)
  keeps k = subst (KeepsHold q.0 k) (sym none) tt

  type_later : (k : ℕ) → times (c, q.0) (spot k log).calls ≡ 1 → (spot k (log ++ rest)).ty ≡ (spot k log).ty
  type_later k one = (hold_keeps limit k c q.0 log rest legal (keeps k) (omega (arith, one))).0

  types_later : (ks : List Key) → ((p : Name) → Contains (map (name_of t) ks) p → HoldsName names log (c, q.0) p) → SameAt (types_in t names log) (types_in t names (log ++ rest)) ks
  types_later [] h = tt
  types_later (k ∷ ks) h =
      let one = h (name_of t k) (0, omega arith, refl) in (
        ap (λ (o : Option ℕ). type_at (sites_of t) (site_in log o)) one.1 ∙ ap (λ (o : Option TypeSite). type_at (sites_of t) (option_map (λ (s : TypeSite). s.0) o)) (sym (type_later one.0 one.2)) ∙ ap (λ (o : Option ℕ). type_at (sites_of t) (site_in (log ++ rest) o)) (sym one.1),
        types_later ks (λ p i. h p (let n = i.1 in (suc i.0, omega arith, i.2))),
      )

  full_later : times (c, q.0) (spot key.0 log).calls ≡ 1 → IsFullRightly t names c q key log → IsFullRightly t names c q key (log ++ rest)
  full_later one h =
      let n = h.next in
      let own_one : times (c, q.0) (spot n.key.0 log).calls ≡ 1 = subst (λ (k : KeyId). times (c, q.0) (spot k.0 log).calls ≡ 1) (sym h.own) one in
      let on = looks_onward (types_in t names log) (types_in t names (log ++ rest)) (subject t n.name.0 n.body n.declared) n.held n.others h.look n.order (types_later n.held n.holds) in
      let typed : type_of_key t (log ++ rest) n.key.0 ≡ type_of_key t log n.key.0 = ap (λ (o : Option TypeSite). type_at (sites_of t) (option_map (λ (s : TypeSite). s.0) o)) (type_later n.key.0 own_one) in
      record {
        look = h.look;
        next = record {
          key = n.key;
          start = n.start;
          began = began_on c q n.key n.start log rest n.began (keeps n.key.0);
          name = n.name;
          named = n.named;
          site = n.site;
          had = record { at = n.had.at; from = n.had.from; to = prefix_more n.had.at log (log ++ rest) n.had.to (rest, refl); is = n.had.is };
          body = n.body;
          defined = n.defined;
          declared = n.declared;
          typed = typed ∙ n.typed;
          held = n.held;
          others = on.0;
          order = on.1;
          holds = λ p i. let o = n.holds p i in (o.0, o.1, same_held c q.0 o.0 log (log ++ rest) same ∙ o.2);
        };
        own = h.own;
        full = h.full;
        only = λ j held. h.only j (sym (same_held c q.0 j log (log ++ rest) same) ∙ held);
        whole = whole_same c q.0 log (log ++ rest) (acts_append c log rest ∙ ap (λ w. acts c log ++ w) none ∙ append-nil (acts c log)) h.whole;
      }

-- what the call frees then fits the rules
pub full_frees : (t : Table) (names : List Name) (limit c : ℕ) (q : CallNo) (key : KeyId) (others : List KeyId) (mid new : List Entry) → IsFullRightly t names c q key mid → times (c, q.0) (spot key.0 mid).calls ≡ 1 → IsLegal limit new → acts c new ≡ acts c mid ++ frees q (key ∷ others) → EachNew (FitsRules t names c) c mid new
full_frees t names limit c q key others mid new full one legal is =
    each_made (FitsRules t names c) c mid new (frees q (key ∷ others)) is (λ xs ys a before e from to past. go xs ys a before e from to (acts_rest c mid from.0 before xs from.1 past))
  where
    go : (xs ys : List Act) (a : Act) (before : List Entry) → frees q (key ∷ others) ≡ xs ++ a ∷ ys → (from : IsPrefix mid before) → IsPrefix before new → acts c from.0 ≡ xs → FitsRules t names c before a
    go [] ys a before e from to none =
        let low = legal_prefix limit (mid ++ from.0) new (to.0, ap (λ w. w ++ to.0) from.1 ∙ to.1) legal in
        let here = subst (IsFullRightly t names c q key) from.1 (full_later t names limit c q key mid from.0 low none one full) in
        let act : Free key q ≡ a = cc e in
        subst (FitsRules t names c before) act (record { row = tt; hold = tt; free = inr (inr (inl here)); whole = tt; named = tt })
    go (x ∷ xs) ys a before e from to more =
        let act : Free key q ≡ x = cc e in let rest : frees q others ≡ xs ++ a ∷ ys = cc e in
        let cut = acts_cut c from.0 [] (Free key q) xs (more ∙ ap (λ y. y ∷ xs) (sym act)) in
        let at = mid ++ cut.before in
        let began : Began c q key full.next.start at = subst (λ (k : KeyId). Began c q k full.next.start at) full.own (began_on c q full.next.key full.next.start mid cut.before full.next.began (subst (KeepsHold q.0 full.next.key.0) (sym cut.first) tt)) in
        let gives : GivesUp c q before = record { key = key; start = full.next.start; at = at; began = began; since = cut.after; is = sym from.1 ∙ ap (λ w. mid ++ w) cut.is ∙ sym (append_assoc mid cut.before (entry c (Free key q) ∷ cut.after)) } in
        behind q others xs ys a before rest gives
      where
        behind : (q : CallNo) (others : List KeyId) (xs ys : List Act) (a : Act) (before : List Entry) → frees q others ≡ xs ++ a ∷ ys → GivesUp c q before → FitsRules t names c before a
        behind q [] [] ys a before e gives = absurd (cc e)
        behind q [] (x ∷ xs) ys a before e gives = absurd (cc e)
        behind q (j ∷ others) [] ys a before e gives = let act : Free j q ≡ a = cc e in subst (FitsRules t names c before) act (record { row = tt; hold = tt; free = inr (inr (inr gives)); whole = tt; named = tt })
        behind q (j ∷ others) (x ∷ xs) ys a before e gives = behind q others xs ys a before (cc e) gives

-- a call holds its own key
pub own_held : (c : ℕ) (q : CallNo) (key : KeyId) (held others : List KeyId) (log : List Entry) → Holds c q.0 held log → held ≡ key ∷ others → times (c, q.0) (spot key.0 log).calls ≡ 1
own_held c q key held others log h is =
    let f = first_of key others (stands c q.0 log) (h.keys ∙ ap (map (λ (k : KeyId). k.0)) is) in
    let n = held_stands c q.0 key.0 log in let a = ap (count_of key.0) f.is in let b = count_head key.0 f.rest f.h f.key_is in let o = h.once key.0 in omega (arith, n, a, b, o)

-- what a call frees that found the list of names full fits the rules
pub stopped_fits : (t : Table) (names : List Name) (limit c : ℕ) (q : CallNo) (key : KeyId) (others held : List KeyId) (mid new : List Entry) (cause : CallFail) → IsTold {X = Ended} (Err cause) → IsRightlyFor t names c q key mid cause → held ≡ key ∷ others → Holds c q.0 held mid → IsLegal limit new → acts c new ≡ acts c mid ++ frees q held → EachNew (FitsRules t names c) c mid new
stopped_fits t names limit c q key others held mid new fail.Full told full first holds legal is = full_frees t names limit c q key others mid new full (own_held c q key held others mid holds first) legal (is ∙ ap (λ ks. acts c mid ++ frees q ks) first)
stopped_fits t names limit c q key others held mid new fail.NoMemory told full first holds legal is = absurd told

-- a check that the full list of names ended
module _ (g : Given) (is : Moment) (site : BodySite) (declared : TypeSite) (m : MethodTy) (kinds : List Ty) (typed : sites_of g.t declared.0 ≡ Some m) (fits : takes m kinds ≡ true) (own : g.own.ty ≡ Some declared)
    (after : List KeyId) (compared answers : List Answer) (refused : Option Refused) (j : IsCalling g.t g.door g.q.0 is.known is.asked is.log g.key g.own after (compared ++ answers)) (next : AreNext g (Some site) compared) (same_kinds : kinds ≡ kinds_of g.args)
    (bytes : List ℕ) (named : place is.known (g.class.0, bytes) ≡ Some g.key.0) (body : HasBody g.door.caller g.q g.key (Some site) is.log) (right : IsRefusedRightly g.t is.known refused) where
  pub rightly : (cause : LookFail) → Answers g.t g.class.0 site.0 declared.0 (answers_of answers) (refusal_of refused) (Err cause) → IsRightlyFor g.t is.known g.door.caller g.q g.key is.log (look_cause cause)
  rightly look.NoMemory a = tt
  rightly look.Full a = go refused a right
    where
      go : (refused : Option Refused) → Answers g.t g.class.0 site.0 declared.0 (answers_of answers) (refusal_of refused) (Err look.Full) → IsRefusedRightly g.t is.known refused → IsFullRightly g.t is.known g.door.caller g.q g.key is.log
      go None a right = absurd (cc (a.cause))
      go (Some r) a right =
          let c = g.door.caller in
          let ks = map key_asked (answers_of answers) in
          let all = all_looks g.t g.class.0 site declared m kinds typed fits answers (refusal_of (Some r)) (Err look.Full) a (declared_in g.t is.known is.log) (agrees g.t is.known is.log (c, g.q.0) answers (true_back g.t is.known is.log (c, g.q.0) compared answers j.answered)) in
          let looks_are : looks_here g is.known is.log (Some site) ≡ ks ++ (r.class.0, r.name.0) ∷ all.0 = ap (λ (o : Option TypeSite). looks_of g.t (types_in g.t is.known is.log) g.class.0 (slice_get g.t.bodies site.0) (type_declared g.t o) (kinds_of g.args)) own ∙ ap (λ (l : List Ty). looks_of g.t (types_in g.t is.known is.log) g.class.0 (slice_get g.t.bodies site.0) (sites_of g.t declared.0) l) (sym same_kinds) ∙ all.1 ∙ append_assoc ks ((r.class.0, r.name.0) ∷ []) all.0 in
          let i = narrow_before g is.known is.asked is.log after compared answers j (Some site) (r.class.0, r.name.0) all.0 next looks_are (right (sym a.cause)).1 in
          let looked_at = looks_by g.t (types_in g.t is.known is.log) g.class.0 (slice_get g.t.bodies site.0) (sites_of g.t declared.0) kinds ks all.0 (r.class.0, r.name.0) (all.1 ∙ append_assoc ks ((r.class.0, r.name.0) ∷ []) all.0) in
          let at_key : type_of_key g.t is.log g.key.0 ≡ sites_of g.t declared.0 = ap (λ (o : Option TypeSite). type_at (sites_of g.t) (option_map (λ (s : TypeSite). s.0) o)) (sym i.own_is.1 ∙ own) in
          record {
            look = (r.class.0, r.name.0);
            next = record {
              key = g.key;
              start = body.start;
              began = body.began;
              name = (g.class.0, bytes);
              named = named;
              site = Some site;
              had = body.had;
              body = looked_at.body;
              defined = looked_at.defined;
              declared = looked_at.declared;
              typed = at_key ∙ looked_at.typed;
              held = ks;
              others = all.0;
              order = looked_at.order;
              holds = held_in g.t is.known is.log (c, g.q.0) answers i.answered;
            };
            own = refl;
            full = λ few. right (sym a.cause);
            only = λ j one. elim (i.only j one) [ inl e ↦ inl e | inr among ↦ inr (found_in g.t is.known is.log (c, g.q.0) answers j i.answered among) ];
            whole = i.whole;
          }

pub if_err : {X : Type 0} (P : CallFail → Type 0) (r : Result X CallFail) (e : CallFail) → IsErrAnd r (λ x. x ≡ e) → P e → IfErr r P
if_err P (Ok x) e h p = tt
if_err P (Err x) e h p = subst P (sym h) p
