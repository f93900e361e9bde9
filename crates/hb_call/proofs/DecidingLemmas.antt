-- A verdict by what was answered is the row's, and what a call keeps while others go on.
use Rattle.std.proofs.Common.{◌≡◌, ℕ, zero, suc, ◌⊎◌, inl, inr, Bool, true, List, [], ◌∷◌, ◌++◌, map, Some, None, Ok, refl, sym, ap, ◌∙◌, subst, arith}
use Rattle.std.proofs.{lemmas.List.append-nil, lemmas.Option.none-some}
use Rattle.std.specs.Prelude.{Option, Contains, slice_get, if◌then◌else◌}
use Rattle.std.specs.Option.{option_map}
use Rattle.hb_types.specs.declared.{ids.KeyId.KeyId, ids.CallNo.CallNo, ids.TypeSite.TypeSite, ids.BodySite.BodySite, types.Ty.Ty, types.MethodTy.MethodTy}
use Rattle.hb_tree.specs.declared.parts.Body.{Body}
use Rattle.hb_tree.specs.Table.{Table}
use Rattle.hb_deriv.specs.{Judge.Key, Judge.Subject, Judgement.IsJudged, Faults.BodyFails, Events.looks, Derivation.type_at, Programs.sites_of, Programs.subject_from}
use Rattle.hb_check.specs.declared.bodies.Checked.{Checked}
use Rattle.hb_check.specs.declared.bodies.Checked.TheVariants as checked
use Rattle.hb_check.specs.Asked.{Asked, Refusal, Agrees, key_asked, types_in}
use Rattle.hb_check.specs.{Checking.Answers, Runs.keys_asked}
use Rattle.hb_names.specs.Names.{Name, place}
use Rattle.hb_tables.specs.declared.{desk.Held.Held, entry.Entry.Entry, entry.Verdict.Verdict}
use Rattle.hb_tables.specs.{Answers.Fixed, Names.name_of, Frames.acts, Frames.KeepsHold, Standing.Stand, Standing.standing}
use Rattle.hb_tables.specs.History.{spot, times, IsLegal, Learns}
use Rattle.hb_tables.specs.Rows.{site_in, declared_in, body_at, HoldsName, IsDecided}
use Rattle.hb_tables.specs.Verdicts.{takes, subject, verdict_of, looks_of}
use Rattle.hb_tables.proofs.{AddingLemmas.own_stays, DeskLemmas.learns_acts, VerdictLemmas.enters_of, VerdictLemmas.ill_of}
use Rattle.hb_call.specs.declared.answers.Answer.{Answer}
use Rattle.hb_call.specs.Held.{HasRoom, stands}
use Rattle.hb_call.specs.Calling.{HasType, AreTrue, IsAmong, IsCalling, answers_of}
use Rattle.hb_call.specs.Deciding.{IsVerdictBy, told, type_declared, verdict_by}
use Rattle.hb_call.proofs.{RoomLemmas.room_learns, GrowthLemmas.whole_same}
use Rattle.hb_call.proofs.StayLemmas.{held_once, type_stays, answers_stay, keeps_none}

-- the body and the type of a subject
pub record Parts (t : Table) (class : ℕ) (b : Option Body) (m : Option MethodTy) (s : Subject) : Type 0 where
  pub body : Body
  pub declared : MethodTy
  pub has_body : b ≡ Some body
  pub has_type : m ≡ Some declared
  pub is : subject t class body declared ≡ s

pub parts : (t : Table) (class : ℕ) (b : Option Body) (m : Option MethodTy) (s : Subject) → subject_from t class b m ≡ Some s → Parts t class b m s
parts t class None m s e = absurd (none-some s e)
parts t class (Some b) None s e = absurd (none-some s e)
parts t class (Some b) (Some m) s e = record { body = b; declared = m; has_body = refl; has_type = refl; is = cc }

pub fits_type : (m : MethodTy) (n : MethodTy) (kinds : List Ty) (o : Option MethodTy) → o ≡ Some m → o ≡ Some n → takes m kinds ≡ true → takes n kinds ≡ true
fits_type m n kinds o a b h = let e : m ≡ n = cc in subst (λ (x : MethodTy). takes x kinds ≡ true) e h

pub found_by : (t : Table) (class : ℕ) (site : BodySite) (declared : TypeSite) (m : MethodTy) (kinds : List Ty) (answers : List Asked) (refused : Option Refusal) (found : Checked)
    → sites_of t declared.0 ≡ Some m → takes m kinds ≡ true → Answers t class site.0 declared.0 answers refused (Ok found)
    → IsVerdictBy t class (Some site) (Some declared) kinds answers (verdict_by (told site found))
found_by t class site declared m kinds answers refused (checked.Good d) typed fits a table agrees =
    let U = types_in (sites_of t) table in
    let p = parts t class (slice_get t.bodies site.0) (sites_of t declared.0) a.subject a.subject_is in
    let good = fits_type m p.declared kinds (sites_of t declared.0) typed p.has_type fits in
    let r = a.tells table agrees in
    let keys : map key_asked answers ≡ looks U a.subject = sym (append-nil (map key_asked answers)) ∙ ap (keys_asked answers) (sym a.cause) ∙ r.1 in (
      sym (enters_of t U class (slice_get t.bodies site.0) (sites_of t declared.0) kinds
          (record { body = p.body; declared = p.declared; has_body = p.has_body; has_type = p.has_type; fits = good; holds = subst (λ s. IsJudged U s) (sym p.is) r.0 })),
      ap (λ (b : Option Body). looks_of t U class b (sites_of t declared.0) kinds) p.has_body ∙ ap (λ (n : Option MethodTy). looks_of t U class (Some p.body) n kinds) p.has_type
          ∙ ap (λ (b : Bool). if b then looks U (subject t class p.body p.declared) else []) good ∙ ap (looks U) p.is ∙ sym keys,
    )
found_by t class site declared m kinds answers refused (checked.Bad ill) typed fits a table agrees =
    let U = types_in (sites_of t) table in
    let p = parts t class (slice_get t.bodies site.0) (sites_of t declared.0) a.subject a.subject_is in
    let good = fits_type m p.declared kinds (sites_of t declared.0) typed p.has_type fits in
    let r = a.tells table agrees in
    let keys : map key_asked answers ≡ looks U a.subject = sym (append-nil (map key_asked answers)) ∙ ap (keys_asked answers) (sym a.cause) ∙ r.1 in (
      sym (ill_of t U class (slice_get t.bodies site.0) (sites_of t declared.0) kinds ill
          (record { body = p.body; declared = p.declared; has_body = p.has_body; has_type = p.has_type; fits = good; holds = subst (λ s. BodyFails U s ill) (sym p.is) r.0 })),
      ap (λ (b : Option Body). looks_of t U class b (sites_of t declared.0) kinds) p.has_body ∙ ap (λ (n : Option MethodTy). looks_of t U class (Some p.body) n kinds) p.has_type
          ∙ ap (λ (b : Bool). if b then looks U (subject t class p.body p.declared) else []) good ∙ ap (looks U) p.is ∙ sym keys,
    )

-- the tables behind a list agree with answers that are true there
pub agrees : (t : Table) (names : List Name) (log : List Entry) (x : ℕ × ℕ) (answers : List Answer) → AreTrue t names log x answers → Agrees (answers_of answers) (declared_in t names log)
agrees t names log x [] h = tt
agrees t names log x (a ∷ answers) h = (ap (site_in log) h.0 ∙ ap (option_map (λ (s : TypeSite). s.0)) (sym h.1.1), agrees t names log x answers h.2)

pub held_in : (t : Table) (names : List Name) (log : List Entry) (x : ℕ × ℕ) (answers : List Answer) → AreTrue t names log x answers → (p : Name)
    → Contains (map (name_of t) (map key_asked (answers_of answers))) p → HoldsName names log x p
held_in t names log x [] h p i = absurd (let low = i.1 in omega (arith, low))
held_in t names log x (a ∷ answers) h p (zero, low, e) = (a.key.0, ap (place names) (sym e) ∙ h.0, h.1.0)
held_in t names log x (a ∷ answers) h p (suc i, low, e) = held_in t names log x answers h.2 p (i, omega (arith, low), e)

pub found_in : (t : Table) (names : List Name) (log : List Entry) (x : ℕ × ℕ) (answers : List Answer) (k : ℕ) → AreTrue t names log x answers → IsAmong k answers
    → (p : Name) × Contains (map (name_of t) (map key_asked (answers_of answers))) p × (place names p ≡ Some k)
found_in t names log x [] k h i = absurd i
found_in t names log x (a ∷ answers) k h (inl e) = (name_of t (a.class.0, a.name.0), (0, omega arith, refl), h.0 ∙ ap Some (sym e))
found_in t names log x (a ∷ answers) k h (inr i) =
    let r = found_in t names log x answers k h.2 i in let c = r.1 in
    (r.0, (suc c.0, (let low = c.1 in omega (arith, low)), c.2), r.2)

module _ (t : Table) (door : Fixed) (q : CallNo) (names asked : List Name) (log : List Entry) (key : KeyId) (own : Held) (held : List KeyId) (answers : List Answer)
    (h : IsCalling t door q.0 names asked log key own held answers) where
  pub learned : (new : List Entry) → Learns door.caller log new → IsLegal door.limit new → IsCalling t door q.0 names asked new key own held answers
  learned new learns legal =
      let c = door.caller in let between = learns.0 in
      let is : log ++ between ≡ new = sym learns.1 in
      let legal2 : IsLegal door.limit (log ++ between) = subst (IsLegal door.limit) (sym is) legal in
      let keeps : (k : ℕ) → KeepsHold q.0 k (acts c between) = λ k. keeps_none c q.0 k between learns.2 in
      let same : stands c q.0 log ≡ stands c q.0 new = ap (standing q.0) (sym (learns_acts c log new learns)) in
      record {
        legal = legal;
        room = subst (λ l. HasRoom l c q.0) is (room_learns c q.0 log between learns.2 h.room);
        holds = record { keys = ap (map (λ (s : Stand). s.key)) (sym same) ∙ h.holds.keys; once = held_once door.limit c q.0 new legal; below = h.holds.below };
        first = h.first;
        own_is = subst (λ l. HasType l (c, q.0) key.0 own) is (type_stays door.limit c q.0 log between legal2 key.0 (keeps key.0) own h.own_is);
        answered = subst (λ l. AreTrue t names l (c, q.0) answers) is (answers_stay t names names door.limit c q.0 log between answers ([], append-nil names) legal2 keeps h.answered);
        only = λ k one. h.only k (sym (own_stays k c q.0 log between learns.2) ∙ ap (λ l. times (c, q.0) (spot k l).calls) is ∙ one);
        whole = whole_same c q.0 log new (learns_acts c log new learns) h.whole;
        asked_for = λ k one. h.asked_for k (sym (own_stays k c q.0 log between learns.2) ∙ ap (λ l. times (c, q.0) (spot k l).calls) is ∙ one);
      }

  -- the call is decided as its row says
  pub row_here : (class : ℕ) (bytes : List ℕ) (site : Option BodySite) (kinds : List Ty) (v : Verdict) → place names (class, bytes) ≡ Some key.0 → site ≡ (spot key.0 log).body
      → IsVerdictBy t class site own.ty kinds (answers_of answers) v
      → IsDecided t names log (door.caller, q.0) key.0 site kinds v
  row_here class bytes site kinds v named defined by =
      let r = by (declared_in t names log) (agrees t names log (door.caller, q.0) answers h.answered) in
      let ty = h.own_is.1 in
      let decl : type_declared t own.ty ≡ type_at (sites_of t) (site_in log (Some key.0)) = ap (λ (o : Option TypeSite). type_at (sites_of t) (option_map (λ (s : TypeSite). s.0) o)) ty in
      let looked = ap (λ (m : Option MethodTy). looks_of t (types_in (sites_of t) (declared_in t names log)) class (body_at t site) m kinds) (sym decl) ∙ r.1 in
      let needs = ap (λ (ks : List Key). (class, bytes) ∷ map (name_of t) ks) looked in
      record {
        name = (class, bytes);
        is = named;
        defined = defined;
        rules = r.0 ∙ ap (λ (m : Option MethodTy). verdict_of t (types_in (sites_of t) (declared_in t names log)) class (body_at t site) m kinds) decl;
        held = λ p i. holds_it class bytes named p (subst (λ (l : List Name). Contains l p) needs i);
        only = λ j one. let o = found_it class bytes named j (h.only j one) in (o.0, subst (λ (l : List Name). Contains l o.0) (sym needs) o.1, o.2);
      }
    where
      holds_it : (class : ℕ) (bytes : List ℕ) → place names (class, bytes) ≡ Some key.0 → (p : Name) → Contains ((class, bytes) ∷ map (name_of t) (map key_asked (answers_of answers))) p
          → HoldsName names log (door.caller, q.0) p
      holds_it class bytes named p (zero, low, e) = (key.0, ap (place names) (sym e) ∙ named, h.own_is.0)
      holds_it class bytes named p (suc i, low, e) = held_in t names log (door.caller, q.0) answers h.answered p (i, omega (arith, low), e)

      found_it : (class : ℕ) (bytes : List ℕ) → place names (class, bytes) ≡ Some key.0 → (j : ℕ) → (j ≡ key.0) ⊎ IsAmong j answers
          → (p : Name) × Contains ((class, bytes) ∷ map (name_of t) (map key_asked (answers_of answers))) p × (place names p ≡ Some j)
      found_it class bytes named j (inl e) = ((class, bytes), (0, omega arith, refl), named ∙ ap Some (sym e))
      found_it class bytes named j (inr i) =
          let r = found_in t names log (door.caller, q.0) answers j h.answered i in let c = r.1 in
          (r.0, (suc c.0, (let low = c.1 in omega (arith, low)), c.2), r.2)
