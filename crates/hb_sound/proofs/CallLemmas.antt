-- Calls within a frame are sound, by induction on the room for frames.
use Rattle.std.proofs.Common.{◌≡◌, ℕ, zero, suc, ◌+◌, ◌<◌, Bool, true, false, List, [], ◌∷◌, ◌++◌, length, map, Option, Some, None, sym, refl, ap, ◌∙◌, subst, arith, nat_eq, append_assoc}
use Rattle.std.specs.Prelude.{if◌then◌else◌}
use Rattle.std.proofs.lemmas.Bool.{eqb-true}
use Rattle.hb_types.specs.declared.ids.BodySite.{BodySite}
use Rattle.hb_types.specs.declared.ids.CallNo.{CallNo}
use Rattle.hb_types.specs.declared.ids.ClassId.{ClassId}
use Rattle.hb_types.specs.declared.ids.KeyId.{KeyId}
use Rattle.hb_types.specs.declared.types.Ty.{Ty}
use Rattle.hb_types.specs.declared.types.Ty.TheVariants as ty
use Rattle.hb_types.specs.declared.types.MethodTy.{MethodTy}
use Rattle.hb_types.specs.Types.{is_below, params_of as types_of}
use Rattle.hb_types.specs.Variables.{Variables}
use Rattle.hb_tree.specs.declared.parts.Body.{Body}
use Rattle.hb_tree.specs.Table.{Table}
use Rattle.hb_tree.specs.TreeAt.{tree_at}
use Rattle.hb_tree.specs.Nodes.{params_of}
use Rattle.hb_deriv.specs.Judge.{Key, Subject, all_below, variables_of}
use Rattle.hb_deriv.specs.Judgement.{IsJudged}
use Rattle.hb_deriv.specs.Events.{events}
use Rattle.hb_deriv.proofs.JudgementLemmas.{and_both}
use Rattle.hb_names.specs.declared.names.TheConstants.{NAMES_MAX}
use Rattle.hb_names.specs.Names.{Name, place}
use Rattle.hb_tables.specs.declared.entry.ArgKinds.{ArgKinds}
use Rattle.hb_tables.specs.declared.entry.By.{By}
use Rattle.hb_tables.specs.declared.entry.Verdict.{Verdict}
use Rattle.hb_tables.specs.declared.entry.Verdict.TheVariants as verdict
use Rattle.hb_tables.specs.declared.entry.Act.{Act}
use Rattle.hb_tables.specs.declared.entry.Act.TheVariants.{Call}
use Rattle.hb_tables.specs.declared.entry.Entry.{Entry}
use Rattle.hb_tables.specs.History.{entry, IsLegal}
use Rattle.hb_tables.specs.Frames.{acts, StaysLive}
use Rattle.hb_tables.specs.Names.{name_of}
use Rattle.hb_tables.specs.Rows.{body_at, types_in, type_of_key, kinds_of, HoldsName, HasCallRows}
use Rattle.hb_tables.specs.Standing.{Stand}
use Rattle.hb_tables.specs.Verdicts.{takes, subject, Reaches}
use Rattle.hb_tables.proofs.FrameLemmas.{acts_cut, live_join}
use Rattle.hb_tables.proofs.RowLemmas.{key_type}
use Rattle.hb_tables.proofs.VerdictLemmas.{enters_from}
use Rattle.hb_call.specs.Reading.{Read, Called, FullAt, Lost as NoCall, call_of, freed}
use Rattle.hb_eval.specs.declared.value.Value.{Value}
use Rattle.hb_eval.specs.declared.value.Value.TheVariants as value
use Rattle.hb_eval.specs.declared.stop.Stop.{Stop}
use Rattle.hb_eval.specs.declared.stop.Stop.TheVariants as stop
use Rattle.hb_eval.specs.Values.{kind_of}
use Rattle.hb_eval.specs.State.{Bindings, St, Answer, Lost, Done, Halt}
use Rattle.hb_eval.specs.Methods.{with_key}
use Rattle.hb_eval.specs.Meaning.{ev}
use Rattle.hb_eval.specs.Calls.{bindings, read_to, numbered, read_frees, leave, run_body, decided, called, call_in}
use Rattle.hb_sound.specs.Sound.{Conforms, Fits, AllConform, IsNamed, Rest, Stands, Sound, LooksIn, AreSound}
use Rattle.hb_sound.specs.Frames.{Frame, AreLive, Holds, Ends}
use Rattle.hb_sound.proofs.ValueLemmas.{widen, some_same, taken, params_fit}
use Rattle.hb_sound.proofs.SoundLemmas.{sound}
use Rattle.hb_sound.proofs.ReadLemmas.{HasRead, call_of_reads, freed_reads}
use Rattle.hb_sound.proofs.RowLemmas.{RowAt, row_at, refused_takes, untyped_none, entered_looks}
use Rattle.hb_sound.proofs.LiveLemmas.{AreOlder, older_of, spares_older, live_past, live_quiet, own_acts, Reached, types_kept}

-- what is to be shown of each way in which a call can end
pub record Copes (t : Table) (names : List Name) (log : List Entry) (c : ℕ) (fs : List Frame) (pre : List Entry) (since : List Act) (q id : ℕ) (k : Key) (kinds : List Ty) (vars : Bindings) (self : Option ClassId) (P : Answer → Type 0) : Type 0 where
  pub lost : P Lost
  pub halts : (e : Stop) (s : St) → IsNamed e → P (Halt e id s)
  pub untyped : (before : List Entry) → Reached log c pre since q before → types_in t names before k ≡ None → (s : St) → P (Halt stop.NoType id s)
  pub refused : (before : List Entry) → Reached log c pre since q before → (m : MethodTy) → types_in t names before k ≡ Some m → takes m kinds ≡ false → (s : St) → P (Halt stop.BadArgs id s)
  pub done : (before : List Entry) → Reached log c pre since q before → (m : MethodTy) → types_in t names before k ≡ Some m → (a : Answer) → Ends (AreLive log c fs) m.result vars self a → P a

-- a body's answer, and then its Frees
leave_ends : (log : List Entry) (c : ℕ) (f : Frame) (fs : List Frame) (q me : ℕ) (G : Variables) (t r : Ty) (held : List Stand) (vars : Bindings) (self : Option ClassId) (a : Answer)
    → AreOlder fs q → is_below t r ≡ true → Sound (AreLive log c (f ∷ fs)) me G t a → Ends (AreLive log c fs) r vars self (leave q held vars self a)
leave_ends log c f fs q me G t r held vars self Lost old le h = tt
leave_ends log c f fs q me G t r held vars self (Done v s) old le h = go (freed q held s.journal) refl
  where
    go : (o : Option (List Act)) → freed q held s.journal ≡ o → Ends (AreLive log c fs) r vars self (read_frees o s (λ s. Done v (record s { vars = vars; self = self })))
    go None e = tt
    go (Some rest) e =
        let read = freed_reads q held s.journal rest e in
        (widen v t r h.0 le, refl, refl, live_past log c fs s.next s.next read.front rest (omega arith) (spares_older fs q read.front old read.quiet) (subst (AreLive log c fs s.next) read.is h.1.inv.1))
leave_ends log c f fs q me G t r held vars self (Halt e id s) old le h = go (freed q held s.journal)
  where
    go : (o : Option (List Act)) → Ends (AreLive log c fs) r vars self (read_frees o s (λ s. Halt e id (record s { vars = vars; self = self })))
    go None = tt
    go (Some rest) = h

module _ (t : Table) (names : List Name) (limit : ℕ) (log : List Entry) (c : ℕ) (legal : IsLegal limit log) (rows : HasCallRows t names log) where
  -- calls within a frame are sound where there is so much room
  unfoldable pub Within : ℕ → Type 0
  Within room = (me : ℕ) (fs : List Frame) (f : Frame) → AreSound (AreLive log c (f ∷ fs)) me (Holds t names c f) (types_in t names f.before) (call_in t names room)

  -- a call that is entered
  entered : (room : ℕ) → Within room → (fs : List Frame) (before after : List Entry) (p : CallNo) (j : KeyId) (site : Option BodySite) (args : ArgKinds) (v : Verdict) (d : ClassId) (vs : List Value) (held : List Stand) (b : Option Body) (own : Option MethodTy) (s : St)
      → log ≡ before ++ entry c (Call j p site args v) ∷ after → acts c after ≡ s.journal → p.0 < s.next → AreOlder fs p.0 → AreLive log c fs s.next s.journal
      → (e : Reaches (IsJudged (types_in t names before)) t d.0 b own (map kind_of vs))
      → LooksIn (λ k. HoldsName names before (c, p.0) (name_of t k)) (events (types_in t names before) d.0 (subject t d.0 e.body e.declared).block (variables_of (subject t d.0 e.body e.declared)))
      → Ends (AreLive log c fs) e.declared.result s.vars s.self (run_body (λ block s. ev t names (call_in t names room) (tree_at t block) s) p.0 d vs held b s)
  unfolding Within
  entered room ih fs before after p j site args v d vs held b own s is behind young old live e looks =
      let f : Frame = record { q = p.0; call = Call j p site args v; before = before; after = after } in
      let Inv : Rest = AreLive log c (f ∷ fs) in
      let x : Subject = subject t d.0 e.body e.declared in
      let k = and_both _ _ e.fits in
      let u : St = record s { vars = bindings (params_of e.body) vs; self = Some d } in
      let stands : Stands Inv d.0 (variables_of x) u = record {
        vars = params_fit (params_of e.body) (types_of e.declared) vs (eqb-true _ _ k.0 ∙ sym e.holds.count) k.1;
        self = refl;
        inv = (record { is = is; quiet = refl; since = []; rest = behind; live = tt; older = young }, live);
      } in
      let body : Sound Inv d.0 e.holds.behind e.holds.ty (ev t names (call_in t names room) x.block u) = sound Inv d.0 t names (call_in t names room) e.holds.judged (ih d.0 fs f) looks u stands in
      subst (λ (o : Option Body). Ends (AreLive log c fs) e.declared.result s.vars s.self (run_body (λ block s. ev t names (call_in t names room) (tree_at t block) s) p.0 d vs held o s)) (sym e.has_body)
      (leave_ends log c f fs p.0 d.0 e.holds.behind e.holds.ty e.declared.result held s.vars s.self (ev t names (call_in t names room) x.block u) old e.holds.below body)

  -- what follows a verdict copes
  decided_ends : (room : ℕ) → Within room → (fs : List Frame) (pre : List Entry) (since : List Act) (before after : List Entry) (p : CallNo) (j : KeyId) (site : Option BodySite) (args : ArgKinds) (v : Verdict) (id : ℕ) (d : ClassId) (m : ℕ) (vs : List Value) (held : List Stand) (s : St)
      → log ≡ before ++ entry c (Call j p site args v) ∷ after → ((way : By) → v ≡ verdict.Enter way → acts c after ≡ s.journal) → p.0 < s.next → AreOlder fs p.0
      → ((way : By) → v ≡ verdict.Enter way → AreLive log c fs s.next s.journal)
      → Reached log c pre since p.0 before → place names (name_of t (d.0, m)) ≡ Some j.0 → kinds_of args ≡ map kind_of vs
      → (P : Answer → Type 0) → Copes t names log c fs pre since p.0 id (d.0, m) (map kind_of vs) s.vars s.self P
      → P (decided id (run_body (λ block s. ev t names (call_in t names room) (tree_at t block) s) p.0 d vs held (body_at t site)) v s)
  decided_ends room ih fs pre since before after p j site args v id d m vs held s is behind young old live at there same P h = by v row behind live
    where
      kinds : List Ty
      kinds = map kind_of vs

      own : Option MethodTy
      own = type_of_key t before j.0

      row : RowAt t names before (c, p.0) (d.0, m) j.0 site kinds v
      row = row_at t names before (c, p.0) (d.0, m) j.0 site kinds (kinds_of args) v (rows before after (entry c (Call j p site args v)) is).0 there same

      typed : types_in t names before (d.0, m) ≡ own
      typed = key_type t names before (d.0, m) j.0 there

      by : (w : Verdict) → RowAt t names before (c, p.0) (d.0, m) j.0 site kinds w → ((way : By) → w ≡ verdict.Enter way → acts c after ≡ s.journal) → ((way : By) → w ≡ verdict.Enter way → AreLive log c fs s.next s.journal)
          → P (decided id (run_body (λ block s. ev t names (call_in t names room) (tree_at t block) s) p.0 d vs held (body_at t site)) w s)
      by (verdict.Enter way) row behind live =
          let e = enters_from t (types_in t names before) d.0 (body_at t site) own kinds row.rules in
          h.done before at e.declared (typed ∙ e.has_type) _
          (entered room ih fs before after p j site args v d vs held (body_at t site) own s is (behind way refl) young old (live way refl) e
          (entered_looks t (HoldsName names before (c, p.0)) (types_in t names before) d.0 (body_at t site) own kinds e row.held))
      by verdict.NoBody row behind live = h.halts stop.NoBody s tt
      by verdict.NoType row behind live = h.untyped before at (typed ∙ untyped_none t (types_in t names before) d.0 (body_at t site) own kinds row.rules) s
      by verdict.BadArgs row behind live = let r = refused_takes t (types_in t names before) d.0 (body_at t site) own kinds row.rules in h.refused before at r.0 (typed ∙ r.1) r.2 s
      by (verdict.IllTyped f) row behind live = h.halts (stop.IllTyped f) s tt

  -- what follows the acts of a call copes
  called_ends : (room : ℕ) → Within room → (fs : List Frame) (pre seg : List Entry) (since : List Act) (id : ℕ) (d : ClassId) (m key : ℕ) (vs : List Value) (s : St)
      → log ≡ pre ++ seg → acts c seg ≡ since ++ s.journal → AreLive log c fs s.next s.journal → place names (name_of t (d.0, m)) ≡ Some key
      → (P : Answer → Type 0) → Copes t names log c fs pre since s.next id (d.0, m) (map kind_of vs) s.vars s.self P
      → (r : Read) → HasRead s.next key (map kind_of vs) s.journal r
      → P (called t (λ block s. ev t names (call_in t names room) (tree_at t block) s) id d vs r s)
  unfolding HasRead
  called_ends room ih fs pre seg since id d m key vs s cut own live there P h NoCall read = h.lost
  called_ends room ih fs pre seg since id d m key vs s cut own live there P h (FullAt rest) read = h.halts stop.Full _ tt
  called_ends room ih fs pre seg since id d m key vs s cut own live there P h (Called site v held rest) read =
      let call : Act = Call read.key read.number site read.args v in
      let at = acts_cut c seg (since ++ read.front) call read.behind (own ∙ ap (λ w. since ++ w) read.is ∙ sym (append_assoc since read.front (call ∷ read.behind))) in
      let before : List Entry = pre ++ at.before in
      let whole : log ≡ before ++ entry c call ∷ at.after = cut ∙ ap (λ w. pre ++ w) at.is ∙ sym (append_assoc pre at.before (entry c call ∷ at.after)) in
      let q = read.of_call in
      let old = older_of log c fs s.next s.journal live in
      let u : St = numbered (read_to rest s) in
      let on : AreLive log c fs (s.next + 1) read.behind =
      live_past log c fs s.next (s.next + 1) (read.front ++ call ∷ []) read.behind (omega arith)
      (spares_older fs s.next (read.front ++ call ∷ []) old (λ n ne. live_join n read.front (call ∷ []) (read.quiet n ne) (refl, tt)))
      (subst (AreLive log c fs s.next) (read.is ∙ sym (append_assoc read.front (call ∷ []) read.behind)) live) in
      let reached : Reached log c pre since read.number.0 before = record { between = at.before; rest = entry c call ∷ at.after; is = refl; whole = whole; stays = λ n less l. subst (StaysLive n) (sym at.first) (live_join n since read.front l (read.quiet n (λ e. absurd (omega (arith, e, less, q))))) } in
      subst (λ n. P (decided id (run_body (λ block s. ev t names (call_in t names room) (tree_at t block) s) n d vs held (body_at t site)) v u)) q
      (decided_ends room ih fs pre since before at.after read.number read.key site read.args v id d m vs held u whole (λ way e. at.last ∙ read.enters way e) (omega (arith, q)) (subst (AreOlder fs) (sym q) old)
      (λ way e. subst (AreLive log c fs (s.next + 1)) (read.enters way e) on) reached (there ∙ ap Some (sym read.of_key)) read.of_kinds P
      (subst (λ n. Copes t names log c fs pre since n id (d.0, m) (map kind_of vs) s.vars s.self P) (sym q) h))

  choose_full : (P : Answer → Type 0) (b : Bool) (id : ℕ) (s : St) → P Lost → P (Halt stop.Full id s) → P (if b then Halt stop.Full id s else Lost)
  choose_full P true id s h k = k
  choose_full P false id s h k = h

  -- a call of an object's method copes
  pub call_ends : (room : ℕ) → Within room → (fs : List Frame) (pre seg : List Entry) (since : List Act) (id : ℕ) (d : ClassId) (m : ℕ) (vs : List Value) (s : St)
      → log ≡ pre ++ seg → acts c seg ≡ since ++ s.journal → AreLive log c fs s.next s.journal
      → (P : Answer → Type 0) → Copes t names log c fs pre since s.next id (d.0, m) (map kind_of vs) s.vars s.self P
      → P (call_in t names (suc room) id (value.Object d) m vs s)
  unfolding call_in
  call_ends room ih fs pre seg since id d m vs s cut own live P h = go (place names (name_of t (d.0, m))) refl
    where
      go : (o : Option ℕ) → place names (name_of t (d.0, m)) ≡ o → P (with_key names id o s (λ key. called t (λ block s. ev t names (call_in t names room) (tree_at t block) s) id d vs (call_of t s.next key (map kind_of vs) s.journal) s))
      go None e = choose_full P (nat_eq (length names) NAMES_MAX) id s h.lost (h.halts stop.Full s tt)
      go (Some key) e = called_ends room ih fs pre seg since id d m key vs s cut own live e P h (call_of t s.next key (map kind_of vs) s.journal) (call_of_reads t s.next key (map kind_of vs) s.journal)

  ends_sound : (Inv : Rest) (me : ℕ) (G : Variables) (r : Ty) (s : St) (a : Answer) → Fits G s.vars → s.self ≡ Some (record { 0 = me }) → Ends Inv r s.vars s.self a → Sound Inv me G r a
  ends_sound Inv me G r s Lost f e h = tt
  ends_sound Inv me G r s (Done v u) f e h = (h.0, record { vars = subst (Fits G) (sym h.1) f; self = h.2 ∙ e; inv = h.3 })
  ends_sound Inv me G r s (Halt x id u) f e h = h

  no_room : (G : Variables) (Inv : Rest) (me id m : ℕ) (r : Value) (vs : List Value) (d : ClassId) (a : Ty) (s : St) → Conforms r (ty.Class d) → Sound Inv me G a (call_in t names 0 id r m vs s)
  unfolding call_in
  no_room G Inv me id m value.Nil vs d a s h = tt
  no_room G Inv me id m (value.Object b) vs d a s h = tt
  no_room G _ me id m _ vs d a s h = absurd (cc)

  on_nil : (G : Variables) (Inv : Rest) (me room id m : ℕ) (vs : List Value) (a : Ty) (s : St) → Sound Inv me G a (call_in t names (suc room) id value.Nil m vs s)
  unfolding call_in
  on_nil G Inv me room id m vs a s = tt

  -- in a frame, a call of a method that has a type there is sound
  frame_call : (room : ℕ) → Within room → (me : ℕ) (fs : List Frame) (f : Frame) (G : Variables) (id m : ℕ) (d : ClassId) (r : Value) (vs : List Value) (ts : List Ty) (declared : MethodTy) (s : St)
      → Holds t names c f (d.0, m) → types_in t names f.before (d.0, m) ≡ Some declared → Conforms r (ty.Class d) → AllConform vs ts → length ts ≡ declared.count → all_below ts (types_of declared) ≡ true → Stands (AreLive log c (f ∷ fs)) me G s
      → Sound (AreLive log c (f ∷ fs)) me G declared.result (call_in t names (suc room) id r m vs s)
  frame_call room ih me fs f G id m d value.Nil vs ts declared s used typed is are n b stands = on_nil G (AreLive log c (f ∷ fs)) me room id m vs declared.result s
  frame_call room ih me fs f G id m d (value.Object x) vs ts declared s used typed is are n b stands =
      let Inv : Rest = AreLive log c (f ∷ fs) in
      let l = stands.inv.0 in
      let same : d.0 ≡ x.0 = sym (eqb-true x.0 d.0 is) in
      let there : Holds t names c f (x.0, m) = subst (λ k. Holds t names c f (k, m)) same used in
      let known : (before : List Entry) → Reached log c f.before (f.call ∷ l.since) s.next before → types_in t names before (x.0, m) ≡ Some declared = λ before at. types_kept t names limit log c legal f l.since s.next before (x.0, m) at l.older l.quiet l.live there ∙ ap (λ k. types_in t names f.before (k, m)) (sym same) ∙ typed in
      call_ends room ih (f ∷ fs) f.before (entry c f.call ∷ f.after) (f.call ∷ l.since) id x m vs s l.is (own_acts log c f s.next s.journal l) stands.inv
      (Sound Inv me G declared.result)
      (record {
        lost = tt;
        halts = λ e u a. a;
        untyped = λ before at none u. absurd (let k = known before at in cc);
        refused = λ before at other has none u. absurd (let k : other ≡ declared = some_same other declared (sym has ∙ known before at) in let y = taken vs ts declared are n b in let z : takes declared (map kind_of vs) ≡ false = subst (λ (o : MethodTy). takes o (map kind_of vs) ≡ false) k none in cc);
        done = λ before at other has a ends. let k : other ≡ declared = some_same other declared (sym has ∙ known before at) in
            ends_sound Inv me G declared.result s a stands.vars stands.self (subst (λ (o : MethodTy). Ends Inv o.result s.vars s.self a) k ends);
      })
  frame_call room ih me fs f G id m d _ vs ts declared s used typed is are n b stands = absurd (cc)

  -- by induction on the room for frames
  pub within : (room : ℕ) → Within room
  unfolding Within
  within zero me fs f = record {
    calls = λ G id m d r vs ts declared s used typed is are n b stands. no_room G (AreLive log c (f ∷ fs)) me id m r vs d declared.result s is;
    reads = λ a next left. live_quiet log c (f ∷ fs) a next left;
  }
  within (suc room) me fs f = record {
    calls = frame_call room (within room) me fs f;
    reads = λ a next left. live_quiet log c (f ∷ fs) a next left;
  }
