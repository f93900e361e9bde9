-- A run under other keys: it reads the acts under these, and comes to the same.
use Rattle.std.proofs.Common.{◌≡◌, ℕ, zero, suc, ◌+◌, ◌-◌, Bool, true, false, List, [], ◌∷◌, ◌++◌, length, map, take, cond, Option, Some, None, refl, sym, ap, ◌∙◌, nat_eq, nat_le}
use Rattle.std.proofs.lemmas.List.{length-map, map-append, take-map}
use Rattle.std.specs.Prelude.{Result, Ok, Err, if◌then◌else◌, ◌&&◌}
use Rattle.std.specs.List.{count_by, fold}
use Rattle.std.specs.Option.{option_map}
use Rattle.hb_types.specs.declared.ids.BodySite.{BodySite}
use Rattle.hb_types.specs.declared.ids.ClassId.{ClassId}
use Rattle.hb_types.specs.declared.types.Ty.{Ty}
use Rattle.hb_tree.specs.declared.parts.Body.{Body}
use Rattle.hb_tree.specs.Canon.{bytes_at}
use Rattle.hb_tree.specs.Nodes.{params_of}
use Rattle.hb_tree.specs.Table.{Table}
use Rattle.hb_tree.specs.Tree.{Tree, TNil, TTrue, TFalse, TSelf, TInt, TText, TVar, TNew, TAssign, TPrint, TToStr, TNot, TBinary, TIf, TWhile, TCall, TDef, TDefComputed}
use Rattle.hb_tree.specs.Tree.{TDeclare, TDeclareComputed, TBlock, Forest, NoTree, Trees}
use Rattle.hb_tree.specs.TreeAt.{tree_at}
use Rattle.hb_names.specs.declared.names.TheConstants.{NAMES_MAX}
use Rattle.hb_names.specs.Names.{Name, place}
use Rattle.hb_tables.specs.declared.entry.Act.{Act}
use Rattle.hb_tables.specs.declared.entry.Act.TheVariants.{Hold, Free, Retype, Busy, WornType, Define, WornDef, Call}
use Rattle.hb_tables.specs.declared.entry.By.{By}
use Rattle.hb_tables.specs.declared.entry.By.TheVariants as by
use Rattle.hb_tables.specs.declared.entry.Verdict.{Verdict}
use Rattle.hb_tables.specs.declared.entry.Verdict.TheVariants as verdict
use Rattle.hb_tables.specs.Rows.{body_at, kinds_of}
use Rattle.hb_tables.specs.Standing.{Stand, all_but}
use Rattle.hb_call.specs.Reading.{Read, Called, FullAt, Lost as NoCall, call_of, called as called_by, decision, freed, full_at, refused_at, same_kinds, takes_at}
use Rattle.hb_eval.specs.declared.printed.TheConstants.{OUTPUT_MAX}
use Rattle.hb_eval.specs.declared.stop.Outcome.{Outcome}
use Rattle.hb_eval.specs.declared.stop.Outcome.TheVariants as outcome
use Rattle.hb_eval.specs.declared.stop.Stop.{Stop}
use Rattle.hb_eval.specs.declared.stop.Stop.TheVariants as stop
use Rattle.hb_eval.specs.declared.value.Value.{Value}
use Rattle.hb_eval.specs.declared.value.Value.TheVariants as value
use Rattle.hb_eval.specs.Calls.{acts_before, bindings, call_in, called, decided, leave, numbered, read_frees, read_to, receiver, received, run_body}
use Rattle.hb_eval.specs.Meaning.{Calls, variable, self_value, printed, turns, loop, ev, ev_items, ev_arguments}
use Rattle.hb_eval.specs.Methods.{changed, unchanged, define, define_meaning, declare, declare_meaning, is_name, keyed, named, with_key}
use Rattle.hb_eval.specs.Operators.{operate}
use Rattle.hb_eval.specs.Printing.{print_line, shown}
use Rattle.hb_eval.specs.Runs.{Run, ended, is_call, is_entered, run_of, script_run, start}
use Rattle.hb_eval.specs.State.{Answer, Bindings, Done, Halt, Lost, St, begin, gives, meant, next_act, read_act, reads, tagged, then_do, value_at}
use Rattle.hb_eval.specs.Told.{told}
use Rattle.hb_eval.specs.Values.{is_false, kind_of}
use Rattle.hb_renamed.specs.Renaming.{rename}
use Rattle.hb_renamed.proofs.ActLemmas.{all_but_renamed, eqb_renamed, stand}

-- ── what is under other keys ──

-- an act that was read, a state, an answer, what a call read, and a run
abbrev pub read_under : (ℕ → ℕ) → ℕ × Act → ℕ × Act
read_under r e = (e.0, rename r e.1)

abbrev pub state_under : (ℕ → ℕ) → St → St
state_under r s = record s { read = map (read_under r) s.read; journal = map (rename r) s.journal }

abbrev pub answer_under : (ℕ → ℕ) → Answer → Answer
answer_under r Lost = Lost
answer_under r (Done v s) = Done v (state_under r s)
answer_under r (Halt e id s) = Halt e id (state_under r s)

abbrev call_under : (ℕ → ℕ) → Read → Read
call_under r NoCall = NoCall
call_under r (FullAt rest) = FullAt (map (rename r) rest)
call_under r (Called site v held rest) = Called site v (map (stand r) held) (map (rename r) rest)

abbrev pub run_under : (ℕ → ℕ) → Run → Run
run_under r run = record run { acts = map (read_under r) run.acts }

module _ (r s : ℕ → ℕ) (there : (k : ℕ) → s (r k) ≡ k) (here : (k : ℕ) → r (s k) ≡ k) where
  same_key : (j k : ℕ) → nat_eq (r j) (r k) ≡ nat_eq j k
  same_key j k = eqb_renamed r s there here j k

  -- what goes on from a state, by both
  unfoldable Follows : (f g : St → Answer) → Type 0
  Follows f g = (x : St) → g (state_under r x) ≡ answer_under r (f x)

  -- ── steps ──

  under_then : (a : Answer) (f g : Value → St → Answer) → ((v : Value) → Follows (f v) (g v)) → then_do (answer_under r a) g ≡ answer_under r (then_do a f)
  unfolding then_do Follows
  under_then Lost f g h = refl
  under_then (Done v x) f g h = h v x
  under_then (Halt e id x) f g h = refl

  -- of an answer that is one by both
  under_next : (a b : Answer) (f g : Value → St → Answer) → b ≡ answer_under r a → ((v : Value) → Follows (f v) (g v)) → then_do b g ≡ answer_under r (then_do a f)
  under_next a b f g e h = ap (λ z. then_do z g) e ∙ under_then a f g h

  under_if : (b : Bool) (w x y z : Answer) → y ≡ answer_under r w → z ≡ answer_under r x → (if b then y else z) ≡ answer_under r (if b then w else x)
  under_if true w x y z e f = e
  under_if false w x y z e f = f

  under_begin : (id : ℕ) (f g : St → Answer) → Follows f g → Follows (λ x. begin id x f) (λ x. begin id x g)
  unfolding begin Follows
  under_begin id f g h x = under_if (nat_eq x.fuel 0) _ _ _ _ refl (h (record x { begun = x.begun + 1; fuel = x.fuel - 1 }))

  under_gives : (id : ℕ) (o : Result Value Stop) → Follows (gives id o) (gives id o)
  unfolding Follows
  under_gives id (Ok v) x = refl
  under_gives id (Err e) x = refl

  under_variable : (id : ℕ) (o : Option Value) → Follows (variable id o) (variable id o)
  unfolding Follows
  under_variable id None x = refl
  under_variable id (Some v) x = refl

  under_self : (id : ℕ) (o : Option ClassId) → Follows (self_value id o) (self_value id o)
  unfolding Follows
  under_self id None x = refl
  under_self id (Some c) x = refl

  under_printed : (id : ℕ) (text : List ℕ) → Follows (printed id text) (printed id text)
  unfolding Follows
  under_printed id text x = under_if (nat_le (length (x.output ++ print_line text)) OUTPUT_MAX) _ _ _ _ refl refl

  under_turns : (n : ℕ) (test test' body body' : St → Answer) → Follows test test' → Follows body body' → Follows (turns n test body) (turns n test' body')
  unfolding turns Follows
  under_turns zero test test' body body' h k x = refl
  under_turns (suc n) test test' body body' h k x = under_next (test x) (test' (state_under r x)) _ _ (h x)
      (λ v x. under_if (is_false v) _ _ _ _ refl (under_next (body x) (body' (state_under r x)) _ _ (k x) (λ w x. under_turns n test test' body body' h k x)))

  under_loop : (test test' body body' : St → Answer) → Follows test test' → Follows body body' → Follows (loop test body) (loop test' body')
  unfolding loop Follows
  under_loop test test' body body' h k x = under_turns (suc x.fuel) test test' body body' h k x

  under_read : (a : Act) (l : List Act) (x : St) → read_act (rename r a) (map (rename r) l) (state_under r x) ≡ state_under r (read_act a l x)
  under_read a l x i = record x { read = sym (map-append (read_under r) x.read ((x.begun, a) ∷ [])) i; journal = map (rename r) l }

  under_reads : (m n : Act → Option (Result Value Stop)) (id : ℕ) → ((a : Act) → n (rename r a) ≡ m a) → Follows (reads m id) (reads n id)
  unfolding reads Follows
  under_reads m n id same x = go x.journal
    where
      one : (a : Act) (l : List Act) (o : Option (Result Value Stop)) → meant id o (read_act (rename r a) (map (rename r) l) (state_under r x)) ≡ answer_under r (meant id o (read_act a l x))
      one a l None = refl
      one a l (Some res) = ap (gives id res) (under_read a l x) ∙ under_gives id res (read_act a l x)

      go : (l : List Act) → next_act n id (state_under r x) (map (rename r) l) ≡ answer_under r (next_act m id x l)
      go [] = refl
      go (a ∷ l) = ap (λ o. meant id o (read_act (rename r a) (map (rename r) l) (state_under r x))) (same a) ∙ one a l (m a)

  under_named : (id : ℕ) (v : Value) (f g : List ℕ → St → Answer) → ((bytes : List ℕ) → Follows (f bytes) (g bytes))
      → Follows (λ x. named id v x (λ bytes. f bytes x)) (λ x. named id v x (λ bytes. g bytes x))
  unfolding Follows
  under_named id (value.Str bytes) f g h x = under_if (is_name bytes) _ _ _ _ (h bytes x) refl
  under_named id _ f g h x = refl

  -- ── what the acts mean ──

  define_same : (k site : ℕ) (a : Act) → define_meaning (r k) site (rename r a) ≡ define_meaning k site a
  define_same k site (Define key x) = ap (λ b. if b && nat_eq x.0 site then Some (Ok value.Nil) else None) (same_key key.0 k)
  define_same k site (WornDef key) = ap (λ b. if b then Some (Err stop.Worn) else None) (same_key key.0 k)
  define_same k site _ = refl

  declare_same : (asks : Bool) (k site : ℕ) (a : Act) → declare_meaning asks (r k) site (rename r a) ≡ declare_meaning asks k site a
  declare_same asks k site (Retype key x) = λ i. if same_key key.0 k i && nat_eq x.0 site then Some (changed asks) else None
  declare_same asks k site (Busy key pins) = λ i. if same_key key.0 k i then Some (unchanged asks) else None
  declare_same asks k site (WornType key) = λ i. if same_key key.0 k i then Some (Err stop.Worn) else None
  declare_same asks k site _ = refl

  module _ (names others : List Name) (many : length names ≡ length others) (moves : (p : Name) → place others p ≡ option_map r (place names p)) where
    under_with : (id : ℕ) (o : Option ℕ) (f g : ℕ → St → Answer) → ((k : ℕ) → Follows (f k) (g (r k)))
        → Follows (λ x. with_key names id o x (λ k. f k x)) (λ x. with_key others id (option_map r o) x (λ k. g k x))
    unfolding Follows
    under_with id (Some k) f g h x = h k x
    under_with id None f g h x = ap (λ n. if nat_eq n NAMES_MAX then Halt stop.Full id (state_under r x) else Lost) (sym many)
        ∙ under_if (nat_eq (length names) NAMES_MAX) (Halt stop.Full id x) Lost _ _ refl refl

    under_keyed : (id : ℕ) (name : Name) (f g : ℕ → St → Answer) → ((k : ℕ) → Follows (f k) (g (r k))) → Follows (λ x. keyed names id name x (λ k. f k x)) (λ x. keyed others id name x (λ k. g k x))
    unfolding Follows
    under_keyed id name f g h x = ap (λ o. with_key others id o (state_under r x) (λ k. g k (state_under r x))) (moves name) ∙ under_with id (place names name) f g h x

    under_define : (id : ℕ) (name : Name) (site : ℕ) → Follows (define names id name site) (define others id name site)
    unfolding Follows
    under_define id name site x = under_keyed id name (λ k. reads (define_meaning k site) id) (λ k. reads (define_meaning k site) id)
        (λ k. under_reads (define_meaning k site) (define_meaning (r k) site) id (define_same k site)) x

    under_declare : (id : ℕ) (asks : Bool) (name : Name) (site : ℕ) → Follows (declare names id asks name site) (declare others id asks name site)
    unfolding Follows
    under_declare id asks name site x = under_keyed id name (λ k. reads (declare_meaning asks k site) id) (λ k. reads (declare_meaning asks k site) id)
        (λ k. under_reads (declare_meaning asks k site) (declare_meaning asks (r k) site) id (declare_same asks k site)) x

    -- ── expressions ──

    unfoldable CallsFollow : Calls → Calls → Type 0
    CallsFollow call call' = (id : ℕ) (v : Value) (m : ℕ) (vs : List Value) → Follows (call id v m vs) (call' id v m vs)

    module _ (t : Table) (call call' : Calls) (ok : CallsFollow call call') where
      mutual
        unfolding Follows CallsFollow

        under_ev : (e : Tree) → Follows (ev t names call e) (ev t others call' e)
        under_ev (TNil id) x = under_begin id _ _ (λ x. refl) x
        under_ev (TTrue id) x = under_begin id _ _ (λ x. refl) x
        under_ev (TFalse id) x = under_begin id _ _ (λ x. refl) x
        under_ev (TSelf id) x = under_begin id _ _ (λ x. under_self id x.self x) x
        under_ev (TInt id n) x = under_begin id _ _ (λ x. refl) x
        under_ev (TText id y) x = under_begin id _ _ (λ x. refl) x
        under_ev (TVar id y) x = under_begin id _ _ (λ x. under_variable id (value_at x.vars y) x) x
        under_ev (TNew id c) x = under_begin id _ _ (λ x. refl) x
        under_ev (TAssign id y e) x = under_begin id _ _ (λ x. under_next (ev t names call e x) _ _ _ (under_ev e x) (λ v x. refl)) x
        under_ev (TPrint id e) x = under_begin id _ _ (λ x. under_next (ev t names call e x) _ _ _ (under_ev e x) (λ v x. under_printed id (shown t v) x)) x
        under_ev (TToStr id e) x = under_begin id _ _ (λ x. under_next (ev t names call e x) _ _ _ (under_ev e x) (λ v x. refl)) x
        under_ev (TNot id e) x = under_begin id _ _ (λ x. under_next (ev t names call e x) _ _ _ (under_ev e x) (λ v x. refl)) x
        under_ev (TBinary id o a b) x = under_begin id _ _ (λ x. under_next (ev t names call a x) _ _ _ (under_ev a x)
            (λ v x. under_next (ev t names call b x) _ _ _ (under_ev b x) (λ w x. under_gives id (operate o v w) x))) x
        under_ev (TIf id c a b) x = under_begin id _ _ (λ x. under_next (ev t names call c x) _ _ _ (under_ev c x) (λ v x. under_if (is_false v) _ _ _ _ (under_ev b x) (under_ev a x))) x
        under_ev (TWhile id c b) x = under_begin id _ _ (λ x. under_loop (ev t names call c) (ev t others call' c) (ev t names call b) (ev t others call' b) (λ x. under_ev c x)
            (λ x. under_ev b x) x) x
        under_ev (TCall id e m args) x = under_begin id _ _ (λ x. under_next (ev t names call e x) _ _ _ (under_ev e x)
            (λ v x. under_args args [] (λ vs x. call id v m vs x) (λ vs x. call' id v m vs x) (λ vs x. ok id v m vs x) x)) x
        under_ev (TDef id c m site b) x = under_begin id _ _ (λ x. under_define id (c, bytes_at t.names m) site x) x
        under_ev (TDefComputed id c e site b) x = under_begin id _ _ (λ x. under_next (ev t names call e x) _ _ _ (under_ev e x)
            (λ v x. under_named id v (λ bytes x. define names id (c, bytes) site x) (λ bytes x. define others id (c, bytes) site x) (λ bytes x. under_define id (c, bytes) site x) x)) x
        under_ev (TDeclare id c m site asks) x = under_begin id _ _ (λ x. under_declare id asks (c, bytes_at t.names m) site x) x
        under_ev (TDeclareComputed id c e site asks) x = under_begin id _ _ (λ x. under_next (ev t names call e x) _ _ _ (under_ev e x)
            (λ v x. under_named id v (λ bytes x. declare names id asks (c, bytes) site x) (λ bytes x. declare others id asks (c, bytes) site x)
            (λ bytes x. under_declare id asks (c, bytes) site x) x)) x
        under_ev (TBlock id es) x = under_items es value.Nil x

        under_items : (es : Forest) (v : Value) → Follows (ev_items t names call es v) (ev_items t others call' es v)
        under_items NoTree v x = refl
        under_items (Trees e es) v x = under_next (ev t names call e x) _ _ _ (under_ev e x) (λ w x. under_items es w x)

        under_args : (es : Forest) (vs : List Value) (f g : List Value → St → Answer) → ((us : List Value) → Follows (f us) (g us))
            → Follows (ev_arguments t names call es vs f) (ev_arguments t others call' es vs g)
        under_args NoTree vs f g h x = h vs x
        under_args (Trees e es) vs f g h x = under_next (ev t names call e x) _ _ _ (under_ev e x) (λ v x. under_args es (vs ++ v ∷ []) f g h x)

  -- ── what a call reads ──

  freed_under : (q : ℕ) (hs : List Stand) (l : List Act) → freed q (map (stand r) hs) (map (rename r) l) ≡ option_map (map (rename r)) (freed q hs l)
  freed_under q [] l = refl
  freed_under q (h ∷ hs) (Free key p ∷ l) = ap (λ b. if nat_eq p.0 q && b then freed q (map (stand r) hs) (map (rename r) l) else None) (same_key key.0 h.key)
      ∙ go (nat_eq p.0 q && nat_eq key.0 h.key) (freed_under q hs l)
    where
      go : (b : Bool) → freed q (map (stand r) hs) (map (rename r) l) ≡ option_map (map (rename r)) (freed q hs l)
          → (if b then freed q (map (stand r) hs) (map (rename r) l) else None) ≡ option_map (map (rename r)) (if b then freed q hs l else None)
      go true e = e
      go false e = refl
  freed_under q (h ∷ hs) _ = refl

  refused_under : (site : Option BodySite) (v : Verdict) (o : Option (List Act)) → refused_at site v (option_map (map (rename r)) o) ≡ call_under r (refused_at site v o)
  refused_under site v None = refl
  refused_under site v (Some l) = refl

  full_under : (o : Option (List Act)) → full_at (option_map (map (rename r)) o) ≡ call_under r (full_at o)
  full_under None = refl
  full_under (Some l) = refl

  called_under : (q : ℕ) (site : Option BodySite) (v : Verdict) (hs : List Stand) (l : List Act) → called_by q site v (map (stand r) hs) (map (rename r) l) ≡ call_under r (called_by q site v hs l)
  called_under q site (verdict.Enter w) hs l = refl
  called_under q site verdict.NoBody hs l = ap (refused_at site verdict.NoBody) (freed_under q hs l) ∙ refused_under site verdict.NoBody (freed q hs l)
  called_under q site verdict.NoType hs l = ap (refused_at site verdict.NoType) (freed_under q hs l) ∙ refused_under site verdict.NoType (freed q hs l)
  called_under q site verdict.BadArgs hs l = ap (refused_at site verdict.BadArgs) (freed_under q hs l) ∙ refused_under site verdict.BadArgs (freed q hs l)
  called_under q site (verdict.IllTyped f) hs l = ap (refused_at site (verdict.IllTyped f)) (freed_under q hs l) ∙ refused_under site (verdict.IllTyped f) (freed q hs l)

  lost_or : (b : Bool) (x y : Read) → y ≡ call_under r x → (if b then y else NoCall) ≡ call_under r (if b then x else NoCall)
  lost_or true x y e = e
  lost_or false x y e = refl

  either : (b : Bool) (w x y z : Read) → y ≡ call_under r w → z ≡ call_under r x → (if b then y else z) ≡ call_under r (if b then w else x)
  either true w x y z e f = e
  either false w x y z e f = f

  decision_under : (fits : Bool) (q k : ℕ) (kinds : List Ty) (hs : List Stand) (l : List Act) → decision fits q (r k) kinds (map (stand r) hs) (map (rename r) l)
      ≡ call_under r (decision fits q k kinds hs l)
  decision_under fits q k kinds hs (Hold key p ty n ∷ l) =
      let new : Stand = record { key = key.0; ty = ty; changes = n } in
      lost_or (fits && nat_eq p.0 q) (decision fits q k kinds (hs ++ new ∷ []) l) _
      (ap (λ z. decision fits q (r k) kinds z (map (rename r) l)) (sym (map-append (stand r) hs (new ∷ []))) ∙ decision_under fits q k kinds (hs ++ new ∷ []) l)
  decision_under fits q k kinds hs (Free key p ∷ l) = lost_or (fits && nat_eq p.0 q) (if nat_eq key.0 k then full_at (freed q hs (Free key p ∷ l)) else decision fits q k kinds (all_but key.0 hs) l) _
      (ap (λ b. if b then full_at (freed q (map (stand r) hs) (map (rename r) (Free key p ∷ l))) else decision fits q (r k) kinds (all_but (r key.0) (map (stand r) hs)) (map (rename r) l))
      (same_key key.0 k)
      ∙ either (nat_eq key.0 k) (full_at (freed q hs (Free key p ∷ l))) (decision fits q k kinds (all_but key.0 hs) l) _ _
      (ap full_at (freed_under q hs (Free key p ∷ l)) ∙ full_under (freed q hs (Free key p ∷ l)))
      (ap (λ z. decision fits q (r k) kinds z (map (rename r) l)) (all_but_renamed r s there here key.0 hs) ∙ decision_under fits q k kinds (all_but key.0 hs) l))
  decision_under fits q k kinds hs (Call key p site args v ∷ l) = ap
      (λ b. if nat_eq p.0 q && b && same_kinds kinds (kinds_of args) then called_by q site v (map (stand r) hs) (map (rename r) l) else NoCall) (same_key key.0 k)
      ∙ lost_or (nat_eq p.0 q && nat_eq key.0 k && same_kinds kinds (kinds_of args)) (called_by q site v hs l) _ (called_under q site v hs l)
  decision_under fits q k kinds hs _ = refl

  call_of_under : (t : Table) (q k : ℕ) (kinds : List Ty) (l : List Act) → call_of t q (r k) kinds (map (rename r) l) ≡ call_under r (call_of t q k kinds l)
  call_of_under t q k kinds (Hold key p ty n ∷ l) =
      let new : Stand = record { key = key.0; ty = ty; changes = n } in
      ap (λ b. if nat_eq p.0 q && b then decision (takes_at t ty kinds) q (r k) kinds (stand r new ∷ []) (map (rename r) l) else NoCall) (same_key key.0 k)
      ∙ lost_or (nat_eq p.0 q && nat_eq key.0 k) (decision (takes_at t ty kinds) q k kinds (new ∷ []) l) _ (decision_under (takes_at t ty kinds) q k kinds (new ∷ []) l)
  call_of_under t q k kinds _ = refl

  -- ── calls ──

  before_under : (rest l : List Act) → acts_before (map (rename r) rest) (map (rename r) l) ≡ map (rename r) (acts_before rest l)
  before_under rest l = (λ i. take (length-map l (rename r) i - length-map rest (rename r) i) (map (rename r) l)) ∙ take-map (rename r) (length l - length rest) l

  tagged_under : (n : ℕ) (l : List Act) → tagged n (map (rename r) l) ≡ map (read_under r) (tagged n l)
  tagged_under n [] = refl
  tagged_under n (a ∷ l) = ap (λ z. (n, rename r a) ∷ z) (tagged_under n l)

  read_to_under : (rest : List Act) (x : St) → read_to (map (rename r) rest) (state_under r x) ≡ state_under r (read_to rest x)
  read_to_under rest x =
      let more : map (read_under r) x.read ++ tagged x.begun (acts_before (map (rename r) rest) (map (rename r) x.journal))
      ≡ map (read_under r) (x.read ++ tagged x.begun (acts_before rest x.journal)) =
      ap (λ l. map (read_under r) x.read ++ l) (ap (tagged x.begun) (before_under rest x.journal) ∙ tagged_under x.begun (acts_before rest x.journal))
      ∙ sym (map-append (read_under r) x.read (tagged x.begun (acts_before rest x.journal))) in
      λ i. record x { read = more i; journal = map (rename r) rest }

  under_frees : (o : Option (List Act)) (f g : St → Answer) → Follows f g → Follows (λ x. read_frees o x f) (λ x. read_frees (option_map (map (rename r)) o) x g)
  unfolding Follows
  under_frees None f g h x = refl
  under_frees (Some rest) f g h x = ap g (read_to_under rest x) ∙ h (read_to rest x)

  under_leave : (q : ℕ) (hs : List Stand) (vars : Bindings) (self : Option ClassId) (a : Answer) → leave q (map (stand r) hs) vars self (answer_under r a) ≡ answer_under r (leave q hs vars self a)
  unfolding Follows
  under_leave q hs vars self Lost = refl
  under_leave q hs vars self (Done v x) = ap (λ o. read_frees o (state_under r x) (λ x. Done v (record x { vars = vars; self = self }))) (freed_under q hs x.journal)
      ∙ under_frees (freed q hs x.journal) (λ x. Done v (record x { vars = vars; self = self })) (λ x. Done v (record x { vars = vars; self = self })) (λ x. refl) x
  under_leave q hs vars self (Halt e id x) = ap (λ o. read_frees o (state_under r x) (λ x. Halt e id (record x { vars = vars; self = self }))) (freed_under q hs x.journal)
      ∙ under_frees (freed q hs x.journal) (λ x. Halt e id (record x { vars = vars; self = self })) (λ x. Halt e id (record x { vars = vars; self = self })) (λ x. refl) x

  under_decided : (id : ℕ) (f g : St → Answer) → Follows f g → (v : Verdict) → Follows (decided id f v) (decided id g v)
  unfolding Follows
  under_decided id f g h (verdict.Enter way) x = h x
  under_decided id f g h _ x = refl

  module _ (run run' : ℕ → St → Answer) (same : (block : ℕ) → Follows (run block) (run' block)) where
    under_body : (q : ℕ) (c : ClassId) (vs : List Value) (hs : List Stand) (b : Option Body) → Follows (run_body run q c vs hs b) (run_body run' q c vs (map (stand r) hs) b)
    unfolding Follows
    under_body q c vs hs None x = refl
    under_body q c vs hs (Some b) x =
        let inner : St = record x { vars = bindings (params_of b) vs; self = Some c } in
        ap (leave q (map (stand r) hs) x.vars x.self) (same b.block.0 inner) ∙ under_leave q hs x.vars x.self (run b.block.0 inner)

    under_called : (t : Table) (id : ℕ) (c : ClassId) (vs : List Value) (z : Read) → Follows (called t run id c vs z) (called t run' id c vs (call_under r z))
    unfolding Follows
    under_called t id c vs NoCall x = refl
    under_called t id c vs (FullAt rest) x = ap (λ y. Halt stop.Full id (numbered y)) (read_to_under rest x)
    under_called t id c vs (Called site v hs rest) x = ap (λ y. decided id (run_body run' x.next c vs (map (stand r) hs) (body_at t site)) v (numbered y)) (read_to_under rest x)
        ∙ under_decided id (run_body run x.next c vs hs (body_at t site)) (run_body run' x.next c vs (map (stand r) hs) (body_at t site)) (under_body x.next c vs hs (body_at t site)) v
        (numbered (read_to rest x))

  under_received : (id : ℕ) (o : Result ClassId Stop) (f g : ClassId → St → Answer) → ((c : ClassId) → Follows (f c) (g c))
      → Follows (λ x. received id o x (λ c. f c x)) (λ x. received id o x (λ c. g c x))
  unfolding Follows
  under_received id (Err e) f g h x = refl
  under_received id (Ok c) f g h x = h c x

  module _ (t : Table) (names others : List Name) (many : length names ≡ length others) (moves : (p : Name) → place others p ≡ option_map r (place names p)) where
    under_calls : (room : ℕ) → CallsFollow names others many moves (call_in t names room) (call_in t others room)
    unfolding call_in Follows CallsFollow
    under_calls zero id v m vs x = under_received id (receiver v) (λ c x. Halt stop.Deep id x) (λ c x. Halt stop.Deep id x) (λ c x. refl) x
    under_calls (suc room) id v m vs x = under_received id (receiver v)
        (λ c x. keyed names id (c.0, bytes_at t.names m) x (λ k. called t (λ block x. ev t names (call_in t names room) (tree_at t block) x) id c vs (call_of t x.next k (map kind_of vs) x.journal) x))
        (λ c x. keyed others id (c.0, bytes_at t.names m) x (λ k. called t (λ block x. ev t others (call_in t others room) (tree_at t block) x) id c vs
        (call_of t x.next k (map kind_of vs) x.journal) x))
        (λ c x. under_keyed names others many moves id (c.0, bytes_at t.names m)
        (λ k x. called t (λ block x. ev t names (call_in t names room) (tree_at t block) x) id c vs (call_of t x.next k (map kind_of vs) x.journal) x)
        (λ k x. called t (λ block x. ev t others (call_in t others room) (tree_at t block) x) id c vs (call_of t x.next k (map kind_of vs) x.journal) x)
        (λ k x. ap (λ z. called t (λ block x. ev t others (call_in t others room) (tree_at t block) x) id c vs z (state_under r x)) (call_of_under t x.next k (map kind_of vs) x.journal)
        ∙ under_called (λ block x. ev t names (call_in t names room) (tree_at t block) x) (λ block x. ev t others (call_in t others room) (tree_at t block) x)
        (λ block x. under_ev names others many moves t (call_in t names room) (call_in t others room) (under_calls room) (tree_at t block) x) t id c vs
        (call_of t x.next k (map kind_of vs) x.journal) x) x) x

    -- ── a run ──

    ended_under : (o : Outcome) (x : St) (l : List Act) → ended o (state_under r x) (map (rename r) l) ≡ option_map (run_under r) (ended o x l)
    ended_under o x [] = refl
    ended_under o x (a ∷ l) = refl

    run_of_under : (a : Answer) → run_of (answer_under r a) ≡ option_map (run_under r) (run_of a)
    run_of_under Lost = refl
    run_of_under (Done v x) = ended_under (outcome.Done v) x x.journal
    run_of_under (Halt e id x) = ended_under (outcome.Stopped e (record { 0 = id })) x x.journal

    pub script_under : (room block steps : ℕ) (l : List Act) → script_run t others (call_in t others room) block steps (map (rename r) l)
        ≡ option_map (run_under r) (script_run t names (call_in t names room) block steps l)
    unfolding Follows
    script_under room block steps l = ap run_of (under_ev names others many moves t (call_in t names room) (call_in t others room) (under_calls room) (tree_at t block) (start steps l))
        ∙ run_of_under (ev t names (call_in t names room) (tree_at t block) (start steps l))

  -- ── what is told ──

  is_call_same : (a : Act) → is_call (rename r a) ≡ is_call a
  is_call_same (Hold key q ty n) = refl
  is_call_same _ = refl

  is_entered_same : (way : By) (a : Act) → is_entered way (rename r a) ≡ is_entered way a
  is_entered_same way (Hold key q ty n) = refl
  is_entered_same way _ = refl

  module _ (p : Act → Bool) (same : (a : Act) → p (rename r a) ≡ p a) where
    count_from : (n : ℕ) (l : List (ℕ × Act)) → fold (λ a (e : ℕ × Act). a + cond (p e.1) 1 0) n (map (read_under r) l) ≡ fold (λ a (e : ℕ × Act). a + cond (p e.1) 1 0) n l
    count_from n [] = refl
    count_from n (e ∷ l) = ap (λ b. fold (λ a (e : ℕ × Act). a + cond (p e.1) 1 0) (n + cond b 1 0) (map (read_under r) l)) (same e.1) ∙ count_from (n + cond (p e.1) 1 0) l

    count_same : (l : List (ℕ × Act)) → count_by (λ e. p e.1) (map (read_under r) l) ≡ count_by (λ e. p e.1) l
    count_same l = count_from 0 l

  pub told_same : (c : ℕ) (run : Run) → told c (run_under r run) ≡ told c run
  told_same c run = λ i. record {
    caller = c;
    outcome = run.outcome;
    output = run.output;
    calls = count_same is_call is_call_same run.acts i;
    own = count_same (is_entered by.Own) (is_entered_same by.Own) run.acts i;
    shared = count_same (is_entered by.Shared) (is_entered_same by.Shared) run.acts i;
    fresh = count_same (is_entered by.Fresh) (is_entered_same by.Fresh) run.acts i;
  }
