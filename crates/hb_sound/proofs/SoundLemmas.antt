-- Each judged expression is sound, by its judgement.
use Rattle.std.proofs.Common.{◌≡◌, ℕ, zero, suc, List, [], ◌∷◌, ◌++◌, length, Option, Some, None, Bool, true, false, refl, sym, subst, nat_eq, nat_le, eq-eqb}
use Rattle.std.specs.Prelude.{Result, Ok, Err, ℤ, ◌&&◌, if◌then◌else◌, ◌+ℤ◌, ◌-ℤ◌, ◌*ℤ◌}
use Rattle.hb_types.specs.declared.{ids.ClassId.ClassId, types.Ty.Ty}
use Rattle.hb_types.specs.declared.types.Ty.TheVariants as ty
use Rattle.hb_types.specs.Types.{is_below, join_of}
use Rattle.hb_types.specs.Variables.{Variables, set, join, keeps}
use Rattle.hb_tree.specs.declared.{limits.TheConstants.TEXT_BYTES_MAX, node.Op.Op}
use Rattle.hb_tree.specs.declared.node.Op.TheVariants as op
use Rattle.hb_tree.specs.{Table.Table, Canon.bytes_at, Tree.Tree, Tree.Forest}
use Rattle.hb_deriv.specs.Judge.{Key, Types, Verdict, object as object_type, operand_limit, operator_type, declaration_type}
use Rattle.hb_deriv.specs.Judgement.{Judged, JudgedItems, JudgedArgs, JudgedNil, JudgedTrue, JudgedFalse, JudgedSelf, JudgedInt, JudgedText, JudgedVar, JudgedNew, JudgedAssign}
use Rattle.hb_deriv.specs.Judgement.{JudgedPrint, JudgedToStr, JudgedNot, JudgedBinary, JudgedIf, JudgedWhile, JudgedCall, JudgedDef, JudgedDefComputed, JudgedDeclare}
use Rattle.hb_deriv.specs.Judgement.{JudgedDeclareComputed, JudgedBlock, JudgedNoItem, JudgedItem, JudgedNoArg, JudgedArg}
use Rattle.hb_deriv.specs.Events.{Events, Look, Done as Finished, behind, events, events_items, events_args}
use Rattle.hb_deriv.proofs.JudgementLemmas.{judge_of, args_of}
use Rattle.hb_names.specs.declared.names.TheConstants.{NAMES_MAX}
use Rattle.hb_names.specs.Names.{Name, place}
use Rattle.hb_tables.specs.declared.{entry.Act.Act, entry.Act.TheVariants.Hold, entry.Act.TheVariants.Free, entry.Act.TheVariants.Retype, entry.Act.TheVariants.Busy}
use Rattle.hb_tables.specs.declared.{entry.Act.TheVariants.WornType, entry.Act.TheVariants.Define, entry.Act.TheVariants.WornDef, entry.Act.TheVariants.Call}
use Rattle.hb_tables.specs.Frames.{frees}
use Rattle.hb_eval.specs.declared.{printed.TheConstants.OUTPUT_MAX, value.Value.Value, stop.Stop.Stop}
use Rattle.hb_eval.specs.declared.value.Value.TheVariants as value
use Rattle.hb_eval.specs.declared.stop.Stop.TheVariants as stop
use Rattle.hb_eval.specs.{Values.is_false, Printing.shown, Printing.print_line}
use Rattle.hb_eval.specs.Operators.{is_int, int_of, text_of, operate}
use Rattle.hb_eval.specs.State.{Bindings, St, Answer, Lost, Done, Halt, then_do, gives, begin, value_at, read_act, meant, next_act, reads}
use Rattle.hb_eval.specs.Methods.{is_name, named, with_key, define_meaning, declare_meaning, define, declare}
use Rattle.hb_eval.specs.Meaning.{Calls, variable, self_value, printed, turns, loop, ev, ev_items, ev_arguments}
use Rattle.hb_sound.specs.Sound.{Conforms, Fits, AllConform, IsNamed, Rest, Stands, Sound, LooksIn, AreSound}
use Rattle.hb_sound.proofs.ValueLemmas.{widen, join_first, join_second, some_same, fits_bind, fits_join_first, fits_join_second, fits_keeps, conform_more}

-- a value of the type, or a named cause
pub Fair : Ty → Result Value Stop → Type 0
Fair t (Ok v) = Conforms v t
Fair t (Err e) = IsNamed e

-- what an act may mean that is read where nothing is given back
unfoldable pub FairAct : Ty → Act → Option (Result Value Stop) → Type 0
FairAct t a None = Unit {0}
FairAct t a (Some r) = ((q : ℕ) → frees q a ≡ false) × Fair t r

int_fair : (z : ℤ) → Fair ty.Int (int_of z)
unfolding Fair
int_fair z = go (is_int z)
  where
    go : (b : Bool) → Fair ty.Int (if b then Ok (value.Int z) else Err stop.Overflow)
    go true = refl
    go false = tt

text_fair : (bytes : List ℕ) → Fair ty.Str (text_of bytes)
unfolding Fair
text_fair bytes = go (nat_le (length bytes) TEXT_BYTES_MAX)
  where
    go : (b : Bool) → Fair ty.Str (if b then Ok (value.Str bytes) else Err stop.LongText)
    go true = refl
    go false = tt

-- an operator on operands that are within its limit
operate_fair : (o : Op) (v w : Value) → Conforms v (operand_limit o) → Conforms w (operand_limit o) → Fair (operator_type o) (operate o v w)
unfolding Fair
operate_fair op.Add value.Nil w h k = tt
operate_fair op.Add (value.Int x) value.Nil h k = tt
operate_fair op.Add (value.Int x) (value.Int y) h k = int_fair (x +ℤ y)
operate_fair op.Sub value.Nil w h k = tt
operate_fair op.Sub (value.Int x) value.Nil h k = tt
operate_fair op.Sub (value.Int x) (value.Int y) h k = int_fair (x -ℤ y)
operate_fair op.Mul value.Nil w h k = tt
operate_fair op.Mul (value.Int x) value.Nil h k = tt
operate_fair op.Mul (value.Int x) (value.Int y) h k = int_fair (x *ℤ y)
operate_fair op.Less value.Nil w h k = tt
operate_fair op.Less (value.Int x) value.Nil h k = tt
operate_fair op.Less (value.Int x) (value.Int y) h k = refl
operate_fair op.Concat value.Nil w h k = tt
operate_fair op.Concat (value.Str x) value.Nil h k = tt
operate_fair op.Concat (value.Str x) (value.Str y) h k = text_fair (x ++ y)
operate_fair op.Equal v w h k = refl
operate_fair _ _ w h k = absurd (cc)

-- where a test of an act lets it mean something
fair_if : (t : Ty) (a : Act) (b : Bool) (r : Result Value Stop) → ((q : ℕ) → frees q a ≡ false) → Fair t r → FairAct t a (if b then Some r else None)
unfolding FairAct
fair_if t a true r f h = (f, h)
fair_if t a false r f h = tt

pub define_fair : (key site : ℕ) (a : Act) → FairAct ty.Nil a (define_meaning key site a)
unfolding Fair FairAct
define_fair key site (Define k s) = fair_if ty.Nil (Define k s) (nat_eq k.0 key && nat_eq s.0 site) (Ok value.Nil) (λ q. refl) refl
define_fair key site (WornDef k) = fair_if ty.Nil (WornDef k) (nat_eq k.0 key) (Err stop.Worn) (λ q. refl) tt
define_fair _ _ _ = tt

pub declare_fair : (asks : Bool) (key site : ℕ) (a : Act) → FairAct (declaration_type asks) a (declare_meaning asks key site a)
unfolding Fair FairAct
declare_fair true key site (Retype k s) = fair_if ty.Bool (Retype k s) (nat_eq k.0 key && nat_eq s.0 site) (Ok (value.Bool true)) (λ q. refl) refl
declare_fair false key site (Retype k s) = fair_if ty.Nil (Retype k s) (nat_eq k.0 key && nat_eq s.0 site) (Ok value.Nil) (λ q. refl) refl
declare_fair true key site (Busy k pins) = fair_if ty.Bool (Busy k pins) (nat_eq k.0 key) (Ok (value.Bool false)) (λ q. refl) refl
declare_fair false key site (Busy k pins) = fair_if ty.Nil (Busy k pins) (nat_eq k.0 key) (Err stop.Busy) (λ q. refl) tt
declare_fair asks key site (WornType k) = fair_if (declaration_type asks) (WornType k) (nat_eq k.0 key) (Err stop.Worn) (λ q. refl) tt
declare_fair _ _ _ _ = tt

-- the looks of a first part, and of those behind it
pub looks_first : (Uses : Key → Type 0) (es fs : Events) → LooksIn Uses (es ++ fs) → LooksIn Uses es
unfolding LooksIn
looks_first Uses [] fs h = tt
looks_first Uses (Look id k ∷ es) fs h = (h.0, looks_first Uses es fs h.1)
looks_first Uses (Finished id t ∷ es) fs h = looks_first Uses es fs h

looks_second : (Uses : Key → Type 0) (es fs : Events) → LooksIn Uses (es ++ fs) → LooksIn Uses fs
unfolding LooksIn
looks_second Uses [] fs h = h
looks_second Uses (Look id k ∷ es) fs h = looks_second Uses es fs h.1
looks_second Uses (Finished id t ∷ es) fs h = looks_second Uses es fs h

pub looks_then : {A : Type 0} (Uses : Key → Type 0) (v : Verdict A) (r : A) (es : Events) (k : A → Events) → v ≡ Ok r → LooksIn Uses (es ++ behind v k) → LooksIn Uses (k r)
unfolding behind
looks_then Uses v r es k e h = subst (λ x. LooksIn Uses (behind x k)) e (looks_second Uses es (behind v k) h)

looks_head : (Uses : Key → Type 0) (id : ℕ) (k : Key) (es : Events) → LooksIn Uses (Look id k ∷ es) → Uses k
unfolding LooksIn
looks_head Uses id k es h = h.0

module _ (Inv : Rest) (me : ℕ) where
  stands_as : (G H : Variables) (s : St) → ((vars : Bindings) → Fits G vars → Fits H vars) → Stands Inv me G s → Stands Inv me H s
  stands_as G H s w h = record { vars = w s.vars h.vars; self = h.self; inv = h.inv }

  self_sound : (G : Variables) (id : ℕ) (o : Option ClassId) (s : St) → o ≡ Some (record { 0 = me }) → Stands Inv me G s → Sound Inv me G (object_type me) (self_value id o s)
  self_sound G id None s e f = absurd (cc)
  self_sound G id (Some c) s e f = (let h : c ≡ record { 0 = me } = some_same c (record { 0 = me }) e in eq-eqb c.0 me (λ i. (h i).0), f)

  sound_then : (G G' : Variables) (t t' : Ty) (a : Answer) (go : Value → St → Answer) → Sound Inv me G t a
      → ((v : Value) (s : St) → Conforms v t → Stands Inv me G s → Sound Inv me G' t' (go v s)) → Sound Inv me G' t' (then_do a go)
  unfolding then_do
  sound_then G G' t t' Lost go h k = tt
  sound_then G G' t t' (Done v s) go h k = k v s h.0 h.1
  sound_then G G' t t' (Halt e id s) go h k = h

  sound_if : (G : Variables) (t : Ty) (b : Bool) (x y : Answer) → Sound Inv me G t x → Sound Inv me G t y → Sound Inv me G t (if b then x else y)
  sound_if G t true x y h k = h
  sound_if G t false x y h k = k

  sound_begin : (G G' : Variables) (t : Ty) (id : ℕ) (s : St) (go : St → Answer) → Stands Inv me G s → ((s : St) → Stands Inv me G s → Sound Inv me G' t (go s)) → Sound Inv me G' t (begin id s go)
  unfolding begin
  sound_begin G G' t id s go f k = sound_if G' t (nat_eq s.fuel 0) _ _ tt (k _ (record { vars = f.vars; self = f.self; inv = f.inv }))

  variable_sound : (G : Variables) (t : Ty) (id : ℕ) (o : Option Value) (v : Value) (s : St) → o ≡ Some v → Conforms v t → Stands Inv me G s → Sound Inv me G t (variable id o s)
  variable_sound G t id None v s e h f = absurd (cc)
  variable_sound G t id (Some w) v s e h f = (subst (λ (u : Value). Conforms u t) (sym (some_same w v e)) h, f)

  printed_sound : (G : Variables) (id : ℕ) (text : List ℕ) (s : St) → Stands Inv me G s → Sound Inv me G ty.Nil (printed id text s)
  printed_sound G id text s f = sound_if G ty.Nil (nat_le (length (s.output ++ print_line text)) OUTPUT_MAX) _ _ (refl, record { vars = f.vars; self = f.self; inv = f.inv }) tt

  gives_sound : (G : Variables) (t : Ty) (id : ℕ) (r : Result Value Stop) (s : St) → Fair t r → Stands Inv me G s → Sound Inv me G t (gives id r s)
  unfolding Fair
  gives_sound G t id (Ok v) s h f = (h, f)
  gives_sound G t id (Err e) s h f = h

  operate_sound : (G : Variables) (id : ℕ) (o : Op) (v w : Value) (a b : Ty) (s : St) → Conforms v a → Conforms w b → is_below a (operand_limit o) ≡ true → is_below b (operand_limit o) ≡ true
      → Stands Inv me G s → Sound Inv me G (operator_type o) (gives id (operate o v w) s)
  operate_sound G id o v w a b s hv hw ha hb f = gives_sound G (operator_type o) id (operate o v w) s (operate_fair o v w (widen v a (operand_limit o) hv ha) (widen w b (operand_limit o) hw hb)) f

  turns_sound : (G G1 G2 : Variables) (r t : Ty) (test body : St → Answer) → ((s : St) → Stands Inv me G s → Sound Inv me G1 r (test s)) → ((s : St) → Stands Inv me G1 s → Sound Inv me G2 t (body s)) → keeps G G2 ≡ true
      → (n : ℕ) (s : St) → Stands Inv me G s → Sound Inv me G1 ty.Nil (turns n test body s)
  unfolding turns
  turns_sound G G1 G2 r t test body ht hb k zero s f = tt
  turns_sound G G1 G2 r t test body ht hb k (suc n) s f =
      sound_then G1 G1 r ty.Nil (test s) _ (ht s f) (λ v s h f.
      sound_if G1 ty.Nil (is_false v) _ _ (refl, f)
      (sound_then G2 G1 t ty.Nil (body s) _ (hb s f) (λ w s h f. turns_sound G G1 G2 r t test body ht hb k n s (stands_as G2 G s (λ vars. fits_keeps G G2 vars k) f))))

  loop_sound : (G G1 G2 : Variables) (r t : Ty) (test body : St → Answer) → ((s : St) → Stands Inv me G s → Sound Inv me G1 r (test s)) → ((s : St) → Stands Inv me G1 s → Sound Inv me G2 t (body s)) → keeps G G2 ≡ true
      → (s : St) → Stands Inv me G s → Sound Inv me G1 ty.Nil (loop test body s)
  unfolding loop
  loop_sound G G1 G2 r t test body ht hb k s f = turns_sound G G1 G2 r t test body ht hb k (suc s.fuel) s f

  pub weaker : (G H : Variables) (s t : Ty) (a : Answer) → is_below s t ≡ true → ((vars : Bindings) → Fits G vars → Fits H vars) → Sound Inv me G s a → Sound Inv me H t a
  weaker G H s t Lost le w h = tt
  weaker G H s t (Done v u) le w h = (widen v s t h.0 le, stands_as G H u w h.1)
  weaker G H s t (Halt e id u) le w h = h

  -- what is true of the acts stays so behind one that gives no key back
  Quiet : Type 0
  Quiet = (a : Act) (next : ℕ) (rest : List Act) → ((q : ℕ) → frees q a ≡ false) → Inv next (a ∷ rest) → Inv next rest

  reads_sound : Quiet → (G : Variables) (t : Ty) (m : Act → Option (Result Value Stop)) → ((a : Act) → FairAct t a (m a)) → (id : ℕ) (s : St) → Stands Inv me G s → Sound Inv me G t (reads m id s)
  unfolding reads FairAct Quiet
  reads_sound quiet G t m fair id s f = go s.journal refl
    where
      one : (a : Act) (l : List Act) → s.journal ≡ a ∷ l → (o : Option (Result Value Stop)) → FairAct t a o → Sound Inv me G t (meant id o (read_act a l s))
      one a l e None h = tt
      one a l e (Some r) h = gives_sound G t id r (read_act a l s) h.1 (record { vars = f.vars; self = f.self; inv = quiet a s.next l h.0 (subst (Inv s.next) e f.inv) })

      go : (l : List Act) → s.journal ≡ l → Sound Inv me G t (next_act m id s l)
      go [] e = tt
      go (a ∷ l) e = one a l e (m a) (fair a)

  keyed_sound : (G : Variables) (t : Ty) (names : List Name) (id : ℕ) (o : Option ℕ) (s : St) (go : ℕ → Answer) → ((key : ℕ) → Sound Inv me G t (go key)) → Sound Inv me G t (with_key names id o s go)
  keyed_sound G t names id None s go h = sound_if G t (nat_eq (length names) NAMES_MAX) _ _ tt tt
  keyed_sound G t names id (Some key) s go h = h key

  define_sound : Quiet → (G : Variables) (names : List Name) (id : ℕ) (name : Name) (site : ℕ) (s : St) → Stands Inv me G s → Sound Inv me G ty.Nil (define names id name site s)
  define_sound quiet G names id name site s f = keyed_sound G ty.Nil names id (place names name) s _ (λ key. reads_sound quiet G ty.Nil (define_meaning key site) (define_fair key site) id s f)

  declare_sound : Quiet → (G : Variables) (names : List Name) (id : ℕ) (asks : Bool) (name : Name) (site : ℕ) (s : St) → Stands Inv me G s → Sound Inv me G (declaration_type asks) (declare names id asks name site s)
  declare_sound quiet G names id asks name site s f = keyed_sound G (declaration_type asks) names id (place names name) s _
      (λ key. reads_sound quiet G (declaration_type asks) (declare_meaning asks key site) (declare_fair asks key site) id s f)

  -- a text, or nil, as a computed name
  named_sound : (G : Variables) (a t : Ty) (id : ℕ) (v : Value) (s : St) (go : List ℕ → Answer) → Conforms v a → is_below a ty.Str ≡ true → ((bytes : List ℕ) → Sound Inv me G t (go bytes))
      → Sound Inv me G t (named id v s go)
  named_sound G a t id v s go h le k = by v (widen v a ty.Str h le)
    where
      by : (v : Value) → Conforms v ty.Str → Sound Inv me G t (named id v s go)
      by value.Nil h = tt
      by (value.Bool b) h = absurd (cc)
      by (value.Int n) h = absurd (cc)
      by (value.Object c) h = absurd (cc)
      by (value.Str bytes) h = sound_if G t (is_name bytes) _ _ (k bytes) tt

  module _ (p : Table) (names : List Name) (call : Calls) where
    mutual
      unfolding Quiet

      pub sound : {Uses : Key → Type 0} {types : Types} {G G2 : Variables} {e : Tree} {t : Ty} → Judged types me G e G2 t → AreSound Inv me Uses types call → LooksIn Uses (events types me e G)
          → (s : St) → Stands Inv me G s → Sound Inv me G2 t (ev p names call e s)
      sound (JudgedNil {G = G} {id = id}) ok u s f = sound_begin G G ty.Nil id s _ f (λ s f. (refl, f))
      sound (JudgedTrue {G = G} {id = id}) ok u s f = sound_begin G G ty.Bool id s _ f (λ s f. (refl, f))
      sound (JudgedFalse {G = G} {id = id}) ok u s f = sound_begin G G ty.Bool id s _ f (λ s f. (refl, f))
      sound (JudgedSelf {G = G} {id = id}) ok u s f = sound_begin G G (object_type me) id s _ f (λ s f. self_sound G id s.self s f.self f)
      sound (JudgedInt {G = G} {id = id}) ok u s f = sound_begin G G ty.Int id s _ f (λ s f. (refl, f))
      sound (JudgedText {G = G} {id = id}) ok u s f = sound_begin G G ty.Str id s _ f (λ s f. (refl, f))
      sound (JudgedVar {G = G} {id = id} {x = x} {t = t} h) ok u s f = sound_begin G G t id s _ f (λ s f. let v = f.vars x t h in variable_sound G t id (value_at s.vars x) v.0 s v.1 v.2 f)
      sound (JudgedNew {G = G} {id = id} {c = c}) ok u s f = sound_begin G G (object_type c) id s _ f (λ s f. (eq-eqb c c refl, f))
      sound (JudgedAssign {G = G} {G1 = H} {id = id} {x = x} {t = t} h) ok u s f =
          sound_begin G (set H x t) t id s _ f (λ s f. sound_then H (set H x t) t t _ _ (sound h ok (looks_first _ _ _ u) s f)
          (λ v s c f. (c, record { vars = fits_bind H s.vars x t v f.vars c; self = f.self; inv = f.inv })))
      sound (JudgedPrint {G = G} {G1 = H} {id = id} {t = t} h) ok u s f =
          sound_begin G H ty.Nil id s _ f (λ s f. sound_then H H t ty.Nil _ _ (sound h ok (looks_first _ _ _ u) s f) (λ v s c f. printed_sound H id (shown p v) s f))
      sound (JudgedToStr {G = G} {G1 = H} {id = id} {t = t} h) ok u s f =
          sound_begin G H ty.Str id s _ f (λ s f. sound_then H H t ty.Str _ _ (sound h ok (looks_first _ _ _ u) s f) (λ v s c f. (refl, f)))
      sound (JudgedNot {G = G} {G1 = H} {id = id} {t = t} h) ok u s f =
          sound_begin G H ty.Bool id s _ f (λ s f. sound_then H H t ty.Bool _ _ (sound h ok (looks_first _ _ _ u) s f) (λ v s c f. (refl, f)))
      sound (JudgedBinary {G = G} {G1 = G1} {G2 = H} {id = id} {o = o} {s = a} {t = b} h k p q) ok u s f =
          sound_begin G H (operator_type o) id s _ f (λ s f. sound_then G1 H a (operator_type o) _ _ (sound h ok (looks_first _ _ _ u) s f)
          (λ v s c f. sound_then H H b (operator_type o) _ _ (sound k ok (looks_first _ _ _ (looks_then _ _ _ _ _ (judge_of h) u)) s f) (λ w s d f. operate_sound H id o v w a b s c d p q f)))
      sound (JudgedIf {G = G} {G1 = G1} {Ga = Ga} {Gb = Gb} {id = id} {r = r} {s = a} {t = b} h k l) ok u s f =
          sound_begin G (join Ga Gb) (join_of a b) id s _ f (λ s f. sound_then G1 (join Ga Gb) r (join_of a b) _ _ (sound h ok (looks_first _ _ _ u) s f) (λ v s c f.
          sound_if (join Ga Gb) (join_of a b) (is_false v) _ _
          (weaker Gb (join Ga Gb) b (join_of a b) _ (join_second a b) (fits_join_second Ga Gb) (sound l ok (looks_first _ _ _ (looks_then _ _ _ _ _ (judge_of k) (looks_then _ _ _ _ _ (judge_of h) u))) s f))
          (weaker Ga (join Ga Gb) a (join_of a b) _ (join_first a b) (fits_join_first Ga Gb) (sound k ok (looks_first _ _ _ (looks_then _ _ _ _ _ (judge_of h) u)) s f))))
      sound (JudgedWhile {G = G} {G1 = G1} {G2 = H} {id = id} {r = r} {s = t} h k p) ok u s f =
          sound_begin G G1 ty.Nil id s _ f (λ s f. loop_sound G G1 H r t _ _ (λ s f. sound h ok (looks_first _ _ _ u) s f) (λ s f. sound k ok (looks_first _ _ _ (looks_then _ _ _ _ _ (judge_of h) u)) s f) p s f)
      sound (JudgedCall {G = G} {G1 = G1} {G2 = H} {id = id} {m = m} {c = c} {ts = ts} {s = declared} h k p n q) ok u s f =
          sound_begin G H declared.result id s _ f (λ s f. sound_then G1 H (ty.Class c) declared.result _ _ (sound h ok (looks_first _ _ _ u) s f) (λ r s d f.
          sound_args k ok (looks_first _ _ _ (looks_then _ _ _ _ _ (judge_of h) u)) H declared.result [] _
          (λ us s e f. ok.calls H id m c r us ts declared s (looks_head _ _ _ _ (looks_then _ _ _ _ _ (args_of k) (looks_then _ _ _ _ _ (judge_of h) u))) p d e n q f) s tt f))
      sound (JudgedDef {G = G} {id = id} {c = c} {m = m} {s = site}) ok u s f = sound_begin G G ty.Nil id s _ f (λ s f. define_sound ok.reads G names id (c, bytes_at p.names m) site s f)
      sound (JudgedDefComputed {G = G} {G1 = H} {id = id} {c = c} {s = site} {t = a} h le) ok u s f =
          sound_begin G H ty.Nil id s _ f (λ s f. sound_then H H a ty.Nil _ _ (sound h ok (looks_first _ _ _ u) s f)
          (λ v s d f. named_sound H a ty.Nil id v s _ d le (λ bytes. define_sound ok.reads H names id (c, bytes) site s f)))
      sound (JudgedDeclare {G = G} {id = id} {c = c} {m = m} {s = site} {asks = asks}) ok u s f = sound_begin G G (declaration_type asks) id s _ f
          (λ s f. declare_sound ok.reads G names id asks (c, bytes_at p.names m) site s f)
      sound (JudgedDeclareComputed {G = G} {G1 = H} {id = id} {c = c} {s = site} {asks = asks} {t = a} h le) ok u s f =
          sound_begin G H (declaration_type asks) id s _ f (λ s f. sound_then H H a (declaration_type asks) _ _ (sound h ok (looks_first _ _ _ u) s f)
          (λ v s d f. named_sound H a (declaration_type asks) id v s _ d le (λ bytes. declare_sound ok.reads H names id asks (c, bytes) site s f)))
      sound (JudgedBlock h) ok u s f = sound_items h ok u value.Nil s refl f

      sound_items : {Uses : Key → Type 0} {types : Types} {G G2 : Variables} {es : Forest} {r t : Ty} → JudgedItems types me G es r G2 t → AreSound Inv me Uses types call
          → LooksIn Uses (events_items types me es G r) → (v : Value) (s : St) → Conforms v r → Stands Inv me G s → Sound Inv me G2 t (ev_items p names call es v s)
      sound_items JudgedNoItem ok u v s c f = (c, f)
      sound_items (JudgedItem {G1 = G1} {G2 = H} {s = a} {t = t} h k) ok u v s c f = sound_then G1 H a t _ _ (sound h ok (looks_first _ _ _ u) s f)
          (λ w s d f. sound_items k ok (looks_then _ _ _ _ _ (judge_of h) u) w s d f)

      sound_args : {Uses : Key → Type 0} {types : Types} {G G2 : Variables} {es : Forest} {ss ts : List Ty} → JudgedArgs types me G es ss G2 ts → AreSound Inv me Uses types call
          → LooksIn Uses (events_args types me es G ss)
          → (H : Variables) (t : Ty) (vs : List Value) (go : List Value → St → Answer) → ((us : List Value) (s : St) → AllConform us ts → Stands Inv me G2 s → Sound Inv me H t (go us s))
          → (s : St) → AllConform vs ss → Stands Inv me G s → Sound Inv me H t (ev_arguments p names call es vs go s)
      sound_args JudgedNoArg ok u H t vs go g s c f = g vs s c f
      sound_args (JudgedArg {G1 = G1} {s = a} {ss = ss} h k) ok u H t vs go g s c f =
          sound_then G1 H a t _ _ (sound h ok (looks_first _ _ _ u) s f) (λ v s d f. sound_args k ok (looks_then _ _ _ _ _ (judge_of h) u) H t (vs ++ v ∷ []) go g s (conform_more vs ss v a c d) f)
