-- A longer list of names changes no answer.
use Rattle.std.proofs.Common.{◌≡◌, ℕ, zero, suc, ◌+◌, ◌≤◌, Bool, true, false, List, [], ◌∷◌, ◌++◌, length, Option, Some, None, refl, sym, ap, ◌∙◌, subst, arith, append-nil, length-append, nat_eq}
use Rattle.std.specs.Prelude.{Result, Ok, Err, if◌then◌else◌}
use Rattle.std.proofs.lemmas.Bool.{eqb-true}
use mathlib.Core.List.{IsPrefix}
use Rattle.hb_types.specs.declared.ids.ClassId.{ClassId}
use Rattle.hb_tree.specs.declared.parts.Body.{Body}
use Rattle.hb_tree.specs.Table.{Table}
use Rattle.hb_tree.specs.TreeAt.{tree_at}
use Rattle.hb_tree.specs.Nodes.{params_of}
use Rattle.hb_tree.specs.Canon.{bytes_at}
use Rattle.hb_tree.specs.Tree.{Tree, TAssign, TPrint, TToStr, TNot, TBinary, TIf, TWhile, TCall, TDef, TDefComputed, TDeclare, TDeclareComputed, TBlock, Forest, NoTree, Trees}
use Rattle.hb_names.specs.declared.names.TheConstants.{NAMES_MAX}
use Rattle.hb_names.specs.Names.{Name, place}
use Rattle.hb_names.proofs.NameLemmas.{place-longer}
use Rattle.hb_tables.specs.declared.entry.Act.{Act}
use Rattle.hb_tables.specs.declared.entry.Verdict.{Verdict}
use Rattle.hb_tables.specs.declared.entry.Verdict.TheVariants as verdict
use Rattle.hb_tables.specs.Standing.{Stand}
use Rattle.hb_tables.specs.Rows.{body_at}
use Rattle.hb_call.specs.Reading.{Read, Called, FullAt, Lost as NoCall}
use Rattle.hb_eval.specs.declared.value.Value.{Value}
use Rattle.hb_eval.specs.declared.value.Value.TheVariants as value
use Rattle.hb_eval.specs.declared.stop.Stop.{Stop}
use Rattle.hb_eval.specs.declared.stop.Stop.TheVariants as stop
use Rattle.hb_eval.specs.Values.{is_false}
use Rattle.hb_eval.specs.State.{Bindings, St, Answer, Lost, Done, Halt, then_do, begin}
use Rattle.hb_eval.specs.Methods.{is_name, named, with_key, keyed, define, declare}
use Rattle.hb_eval.specs.Meaning.{Calls, turns, loop, ev, ev_items, ev_arguments}
use Rattle.hb_eval.specs.Calls.{bindings, call_in, called, decided, leave, numbered, read_to, receiver, received, run_body}
use Rattle.hb_eval.specs.Runs.{Run, run_of, script_run, start}

-- the second is the first, where that is an answer
unfoldable Stays : Answer → Answer → Type 0
Stays Lost b = Unit {0}
Stays (Done v s) b = b ≡ Done v s
Stays (Halt e id s) b = b ≡ Halt e id s

same : (a : Answer) → Stays a a
unfolding Stays
same Lost = tt
same (Done v s) = refl
same (Halt e id s) = refl

stays_then : (a b : Answer) (f g : Value → St → Answer) → Stays a b → ((v : Value) (s : St) → Stays (f v s) (g v s)) → Stays (then_do a f) (then_do b g)
unfolding then_do Stays
stays_then Lost b f g h k = tt
stays_then (Done v s) b f g h k = subst (λ x. Stays (f v s) (then_do x g)) (sym h) (k v s)
stays_then (Halt e id s) b f g h k = ap (λ x. then_do x g) h

stays_if : (c : Bool) (a b x y : Answer) → Stays a x → Stays b y → Stays (if c then a else b) (if c then x else y)
stays_if true a b x y h k = h
stays_if false a b x y h k = k

stays_begin : (id : ℕ) (s : St) (f g : St → Answer) → ((s : St) → Stays (f s) (g s)) → Stays (begin id s f) (begin id s g)
unfolding begin
stays_begin id s f g k = stays_if (nat_eq s.fuel 0) _ _ _ _ (same _) (k _)

stays_turns : (n : ℕ) (test body test' body' : St → Answer) → ((s : St) → Stays (test s) (test' s)) → ((s : St) → Stays (body s) (body' s)) → (s : St) → Stays (turns n test body s) (turns n test' body' s)
unfolding turns Stays
stays_turns zero test body test' body' h k s = tt
stays_turns (suc n) test body test' body' h k s =
    stays_then (test s) (test' s) _ _ (h s) (λ v s. stays_if (is_false v) _ _ _ _ (same (Done value.Nil s)) (stays_then (body s) (body' s) _ _ (k s) (λ w s. stays_turns n test body test' body' h k s)))

stays_loop : (test body test' body' : St → Answer) → ((s : St) → Stays (test s) (test' s)) → ((s : St) → Stays (body s) (body' s)) → (s : St) → Stays (loop test body s) (loop test' body' s)
unfolding loop
stays_loop test body test' body' h k s = stays_turns (suc s.fuel) test body test' body' h k s

stays_named : (id : ℕ) (v : Value) (s : St) (f g : List ℕ → Answer) → ((bytes : List ℕ) → Stays (f bytes) (g bytes)) → Stays (named id v s f) (named id v s g)
stays_named id (value.Str bytes) s f g k = stays_if (is_name bytes) _ _ _ _ (k bytes) (same _)
stays_named _ _ _ _ _ _ = same _

-- behind a full list there is no other
no_longer : (names longer : List Name) → IsPrefix names longer → length names ≡ NAMES_MAX → length longer ≤ NAMES_MAX → longer ≡ names
no_longer names longer p full few = sym p.1 ∙ ap (λ l. names ++ l) (none p.0 (let n : length names + length p.0 ≡ length longer = sym (length-append names p.0) ∙ ap length p.1 in omega (arith, n, full, few))) ∙ append-nil names
  where
    none : (l : List Name) → length l ≡ 0 → l ≡ []
    none [] e = refl
    none (x ∷ l) e = absurd (omega (arith, e))

module _ (names longer : List Name) (p : IsPrefix names longer) (few : length longer ≤ NAMES_MAX) where
  stays_keyed : (id : ℕ) (name : Name) (s : St) (f g : ℕ → Answer) → ((key : ℕ) → Stays (f key) (g key)) → Stays (keyed names id name s f) (keyed longer id name s g)
  unfolding Stays
  stays_keyed id name s f g k = go (place names name) refl
    where
      full : (b : Bool) → nat_eq (length names) NAMES_MAX ≡ b → place names name ≡ None → Stays (if b then Halt stop.Full id s else Lost) (keyed longer id name s g)
      full false e none = tt
      full true e none =
          let there : keyed names id name s g ≡ Halt stop.Full id s =
          ap (λ o. with_key names id o s g) none ∙ ap (λ b. if b then Halt stop.Full id s else Lost) e in
          ap (λ l. keyed l id name s g) (no_longer names longer p (eqb-true (length names) NAMES_MAX e) few) ∙ there

      go : (o : Option ℕ) → place names name ≡ o → Stays (with_key names id o s f) (keyed longer id name s g)
      go None e = full (nat_eq (length names) NAMES_MAX) refl e
      go (Some key) e = subst (λ o. Stays (f key) (with_key longer id o s g)) (sym (place-longer names longer name key p e)) (k key)

  stays_define : (id : ℕ) (name : Name) (site : ℕ) (s : St) → Stays (define names id name site s) (define longer id name site s)
  stays_define id name site s = stays_keyed id name s _ _ (λ key. same _)

  stays_declare : (id : ℕ) (asks : Bool) (name : Name) (site : ℕ) (s : St) → Stays (declare names id asks name site s) (declare longer id asks name site s)
  stays_declare id asks name site s = stays_keyed id name s _ _ (λ key. same _)

  module _ (t : Table) (call more : Calls) (ok : (id : ℕ) (r : Value) (m : ℕ) (vs : List Value) (s : St) → Stays (call id r m vs s) (more id r m vs s)) where
    mutual
      stays_ev : (e : Tree) (s : St) → Stays (ev t names call e s) (ev t longer more e s)
      stays_ev (TAssign id x e) s = stays_begin id s _ _ (λ s. stays_then (ev t names call e s) (ev t longer more e s) _ _ (stays_ev e s) (λ v s. same _))
      stays_ev (TPrint id e) s = stays_begin id s _ _ (λ s. stays_then (ev t names call e s) (ev t longer more e s) _ _ (stays_ev e s) (λ v s. same _))
      stays_ev (TToStr id e) s = stays_begin id s _ _ (λ s. stays_then (ev t names call e s) (ev t longer more e s) _ _ (stays_ev e s) (λ v s. same _))
      stays_ev (TNot id e) s = stays_begin id s _ _ (λ s. stays_then (ev t names call e s) (ev t longer more e s) _ _ (stays_ev e s) (λ v s. same _))
      stays_ev (TBinary id o a b) s = stays_begin id s _ _ (λ s. stays_then (ev t names call a s) (ev t longer more a s) _ _ (stays_ev a s) (λ v s. stays_then (ev t names call b s) (ev t longer more b s) _ _ (stays_ev b s) (λ w s. same _)))
      stays_ev (TIf id c a b) s = stays_begin id s _ _ (λ s. stays_then (ev t names call c s) (ev t longer more c s) _ _ (stays_ev c s) (λ v s. stays_if (is_false v) _ _ _ _ (stays_ev b s) (stays_ev a s)))
      stays_ev (TWhile id c b) s = stays_begin id s _ _ (λ s. stays_loop (ev t names call c) (ev t names call b) (ev t longer more c) (ev t longer more b) (λ s. stays_ev c s) (λ s. stays_ev b s) s)
      stays_ev (TCall id r m args) s = stays_begin id s _ _ (λ s. stays_then (ev t names call r s) (ev t longer more r s) _ _ (stays_ev r s) (λ v s. stays_args args [] (λ vs s. call id v m vs s) (λ vs s. more id v m vs s) (λ vs s. ok id v m vs s) s))
      stays_ev (TDef id c m site b) s = stays_begin id s _ _ (λ s. stays_define id (c, bytes_at t.names m) site s)
      stays_ev (TDefComputed id c e site b) s = stays_begin id s _ _ (λ s. stays_then (ev t names call e s) (ev t longer more e s) _ _ (stays_ev e s) (λ v s. stays_named id v s _ _ (λ bytes. stays_define id (c, bytes) site s)))
      stays_ev (TDeclare id c m site asks) s = stays_begin id s _ _ (λ s. stays_declare id asks (c, bytes_at t.names m) site s)
      stays_ev (TDeclareComputed id c e site asks) s = stays_begin id s _ _ (λ s. stays_then (ev t names call e s) (ev t longer more e s) _ _ (stays_ev e s) (λ v s. stays_named id v s _ _ (λ bytes. stays_declare id asks (c, bytes) site s)))
      stays_ev (TBlock id es) s = stays_items es value.Nil s
      stays_ev _ _ = same _

      stays_items : (es : Forest) (v : Value) (s : St) → Stays (ev_items t names call es v s) (ev_items t longer more es v s)
      stays_items NoTree v s = same _
      stays_items (Trees e es) v s = stays_then (ev t names call e s) (ev t longer more e s) _ _ (stays_ev e s) (λ w s. stays_items es w s)

      stays_args : (es : Forest) (vs : List Value) (f g : List Value → St → Answer) → ((us : List Value) (s : St) → Stays (f us s) (g us s)) → (s : St) → Stays (ev_arguments t names call es vs f s) (ev_arguments t longer more es vs g s)
      stays_args NoTree vs f g k s = k vs s
      stays_args (Trees e es) vs f g k s = stays_then (ev t names call e s) (ev t longer more e s) _ _ (stays_ev e s) (λ v s. stays_args es (vs ++ v ∷ []) f g k s)

  -- ── calls ──

  stays_leave : (q : ℕ) (held : List Stand) (vars : Bindings) (self : Option ClassId) (a b : Answer) → Stays a b → Stays (leave q held vars self a) (leave q held vars self b)
  unfolding Stays
  stays_leave q held vars self Lost b h = tt
  stays_leave q held vars self (Done v s) b h = subst (λ x. Stays (leave q held vars self (Done v s)) (leave q held vars self x)) (sym h) (same _)
  stays_leave q held vars self (Halt e id s) b h = subst (λ x. Stays (leave q held vars self (Halt e id s)) (leave q held vars self x)) (sym h) (same _)

  stays_body : (run go : ℕ → St → Answer) → ((block : ℕ) (s : St) → Stays (run block s) (go block s)) → (q : ℕ) (c : ClassId) (args : List Value) (held : List Stand) (b : Option Body) (s : St) → Stays (run_body run q c args held b s) (run_body go q c args held b s)
  stays_body run go k q c args held None s = same _
  stays_body run go k q c args held (Some b) s = stays_leave q held s.vars s.self _ _ (k b.block.0 (record s { vars = bindings (params_of b) args; self = Some c }))

  stays_decided : (id : ℕ) (f g : St → Answer) → ((s : St) → Stays (f s) (g s)) → (v : Verdict) (s : St) → Stays (decided id f v s) (decided id g v s)
  stays_decided id f g k (verdict.Enter way) s = k s
  stays_decided _ _ _ _ _ _ = same _

  stays_called : (t : Table) (run go : ℕ → St → Answer) → ((block : ℕ) (s : St) → Stays (run block s) (go block s)) → (id : ℕ) (c : ClassId) (args : List Value) (r : Read) (s : St) → Stays (called t run id c args r s) (called t go id c args r s)
  stays_called t run go k id c args NoCall s = same _
  stays_called t run go k id c args (FullAt rest) s = same _
  stays_called t run go k id c args (Called site v held rest) s =
      stays_decided id (run_body run s.next c args held (body_at t site)) (run_body go s.next c args held (body_at t site)) (λ x. stays_body run go k s.next c args held (body_at t site) x) v (numbered (read_to rest s))

  stays_received : (id : ℕ) (r : Result ClassId Stop) (s : St) (f g : ClassId → Answer) → ((c : ClassId) → Stays (f c) (g c)) → Stays (received id r s f) (received id r s g)
  stays_received id (Err e) s f g k = same _
  stays_received id (Ok c) s f g k = k c

  stays_call : (t : Table) (room id : ℕ) (r : Value) (m : ℕ) (vs : List Value) (s : St) → Stays (call_in t names room id r m vs s) (call_in t longer room id r m vs s)
  unfolding call_in
  stays_call t zero id r m vs s = same _
  stays_call t (suc room) id r m vs s =
      stays_received id (receiver r) s _ _ (λ c.
      stays_keyed id (c.0, bytes_at t.names m) s _ _ (λ key.
      stays_called t (λ block s. ev t names (call_in t names room) (tree_at t block) s) (λ block s. ev t longer (call_in t longer room) (tree_at t block) s)
      (λ block s. stays_ev t (call_in t names room) (call_in t longer room) (stays_call t room) (tree_at t block) s) id c vs _ s))

-- an answer that is a run is this run
run_stays : (a b : Answer) (run : Run) → Stays a b → run_of a ≡ Some run → run_of b ≡ Some run
unfolding Stays
run_stays Lost b run h e = absurd (cc e)
run_stays (Done v s) b run h e = ap run_of h ∙ e
run_stays (Halt stop id s) b run h e = ap run_of h ∙ e

pub runs_stay : (t : Table) (names longer : List Name) (block steps : ℕ) (journal : List Act) (run : Run) → IsPrefix names longer → length longer ≤ NAMES_MAX
    → script_run t names (call_in t names 4096) block steps journal ≡ Some run → script_run t longer (call_in t longer 4096) block steps journal ≡ Some run
runs_stay t names longer block steps journal run p few is =
    run_stays (ev t names (call_in t names 4096) (tree_at t block) (start steps journal)) (ev t longer (call_in t longer 4096) (tree_at t block) (start steps journal)) run
    (stays_ev names longer p few t (call_in t names 4096) (call_in t longer 4096) (stays_call names longer p few t 4096) (tree_at t block) (start steps journal)) is
