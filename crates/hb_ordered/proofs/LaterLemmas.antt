-- What was read stays read.
use Rattle.std.proofs.Common.{ℕ, zero, suc, Bool, true, false, List, [], ◌∷◌, ◌++◌, length, map, Option, Some, None, sym, ap, ◌∙◌, append_assoc, nat_eq, nat_le}
use Rattle.std.specs.Prelude.{Result, Ok, Err, if◌then◌else◌}
use mathlib.Core.List.{IsPrefix}
use Rattle.hb_types.specs.declared.ids.ClassId.{ClassId}
use Rattle.hb_tree.specs.declared.parts.Body.{Body}
use Rattle.hb_tree.specs.Table.{Table}
use Rattle.hb_tree.specs.TreeAt.{tree_at}
use Rattle.hb_tree.specs.Nodes.{params_of}
use Rattle.hb_tree.specs.Canon.{bytes_at}
use Rattle.hb_tree.specs.Tree.{Tree, TNil, TTrue, TFalse, TSelf, TInt, TText, TVar, TNew, TAssign, TPrint, TToStr, TNot, TBinary, TIf, TWhile, TCall, TDef, TDefComputed}
use Rattle.hb_tree.specs.Tree.{TDeclare, TDeclareComputed, TBlock, Forest, NoTree, Trees}
use Rattle.hb_names.specs.declared.names.TheConstants.{NAMES_MAX}
use Rattle.hb_names.specs.Names.{Name, place}
use Rattle.hb_tables.specs.declared.entry.Act.{Act}
use Rattle.hb_tables.specs.declared.entry.Verdict.{Verdict}
use Rattle.hb_tables.specs.declared.entry.Verdict.TheVariants as verdict
use Rattle.hb_tables.specs.Standing.{Stand}
use Rattle.hb_tables.specs.Rows.{body_at}
use Rattle.hb_call.specs.Reading.{Read, Called, FullAt, Lost as NoCall, call_of, freed}
use Rattle.hb_eval.specs.declared.printed.TheConstants.{OUTPUT_MAX}
use Rattle.hb_eval.specs.declared.value.Value.{Value}
use Rattle.hb_eval.specs.declared.value.Value.TheVariants as value
use Rattle.hb_eval.specs.declared.stop.Stop.{Stop}
use Rattle.hb_eval.specs.declared.stop.Stop.TheVariants as stop
use Rattle.hb_eval.specs.Values.{kind_of, is_false}
use Rattle.hb_eval.specs.Operators.{operate}
use Rattle.hb_eval.specs.Printing.{shown, print_line}
use Rattle.hb_eval.specs.State.{Bindings, St, Answer, Lost, Done, Halt, then_do, gives, begin, value_at, read_act, meant, next_act, reads, tagged}
use Rattle.hb_eval.specs.Methods.{is_name, named, with_key, define_meaning, declare_meaning, define, declare}
use Rattle.hb_eval.specs.Meaning.{Calls, variable, self_value, printed, turns, loop, ev, ev_items, ev_arguments}
use Rattle.hb_eval.specs.Calls.{acts_before, bindings, call_in, called, decided, leave, numbered, read_frees, read_to, receiver, received, run_body}

-- the answer's state has read these acts first
unfoldable pub Later : List (ℕ × Act) → Answer → Type 0
Later rd Lost = Unit {0}
Later rd (Done v s) = IsPrefix rd s.read
Later rd (Halt e id s) = IsPrefix rd s.read

pub prefix_more : {X : Type 0} (rd xs more : List X) → IsPrefix rd xs → IsPrefix rd (xs ++ more)
prefix_more rd xs more p = (p.0 ++ more, sym (append_assoc rd p.0 more) ∙ ap (λ l. l ++ more) p.1)

module _ (rd : List (ℕ × Act)) where
  -- what goes on keeps what was read
  unfoldable pub Keeps : (St → Answer) → Type 0
  Keeps f = (s : St) → IsPrefix rd s.read → Later rd (f s)

  pub later_then : (a : Answer) (go : Value → St → Answer) → Later rd a → ((v : Value) → Keeps (go v)) → Later rd (then_do a go)
  unfolding then_do Later Keeps
  later_then Lost go h k = tt
  later_then (Done v s) go h k = k v s h
  later_then (Halt e id s) go h k = h

  pub later_if : (b : Bool) (x y : Answer) → Later rd x → Later rd y → Later rd (if b then x else y)
  later_if true x y h k = h
  later_if false x y h k = k

  pub later_begin : (id : ℕ) (go : St → Answer) → Keeps go → Keeps (λ s. begin id s go)
  unfolding begin Keeps Later
  later_begin id go k s p = later_if (nat_eq s.fuel 0) _ _ p (k _ p)

  pub later_gives : (id : ℕ) (r : Result Value Stop) → Keeps (gives id r)
  unfolding Keeps Later
  later_gives id (Ok v) s p = p
  later_gives id (Err e) s p = p

  pub later_variable : (id : ℕ) (o : Option Value) → Keeps (variable id o)
  unfolding Keeps Later
  later_variable id None s p = p
  later_variable id (Some v) s p = p

  pub later_self : (id : ℕ) (o : Option ClassId) → Keeps (self_value id o)
  unfolding Keeps Later
  later_self id None s p = p
  later_self id (Some c) s p = p

  pub later_printed : (id : ℕ) (text : List ℕ) → Keeps (printed id text)
  unfolding Keeps Later
  later_printed id text s p = later_if (nat_le (length (s.output ++ print_line text)) OUTPUT_MAX) _ _ p p

  pub later_turns : (n : ℕ) (test body : St → Answer) → Keeps test → Keeps body → Keeps (turns n test body)
  unfolding turns Keeps Later
  later_turns zero test body h k s p = tt
  later_turns (suc n) test body h k s p =
      later_then (test s) _ (h s p) (λ v s p. later_if (is_false v) _ _ p (later_then (body s) _ (k s p) (λ w s p. later_turns n test body h k s p)))

  pub later_loop : (test body : St → Answer) → Keeps test → Keeps body → Keeps (loop test body)
  unfolding loop Keeps
  later_loop test body h k s p = later_turns (suc s.fuel) test body h k s p

  pub later_reads : (m : Act → Option (Result Value Stop)) (id : ℕ) → Keeps (reads m id)
  unfolding reads Keeps Later
  later_reads m id s p = go s.journal
    where
      one : (a : Act) (l : List Act) (o : Option (Result Value Stop)) → Later rd (meant id o (read_act a l s))
      one a l None = tt
      one a l (Some r) = later_gives id r (read_act a l s) (prefix_more rd s.read ((s.begun, a) ∷ []) p)

      go : (l : List Act) → Later rd (next_act m id s l)
      go [] = tt
      go (a ∷ l) = one a l (m a)

  pub later_key : (names : List Name) (id : ℕ) (o : Option ℕ) (go : ℕ → St → Answer) → ((key : ℕ) → Keeps (go key)) → Keeps (λ s. with_key names id o s (λ key. go key s))
  unfolding Keeps Later
  later_key names id None go k s p = later_if (nat_eq (length names) NAMES_MAX) _ _ p tt
  later_key names id (Some key) go k s p = k key s p

  pub later_define : (names : List Name) (id : ℕ) (name : Name) (site : ℕ) → Keeps (define names id name site)
  unfolding Keeps
  later_define names id name site s p = later_key names id (place names name) (λ key. reads (define_meaning key site) id) (λ key. later_reads (define_meaning key site) id) s p

  pub later_declare : (names : List Name) (id : ℕ) (asks : Bool) (name : Name) (site : ℕ) → Keeps (declare names id asks name site)
  unfolding Keeps
  later_declare names id asks name site s p = later_key names id (place names name) (λ key. reads (declare_meaning asks key site) id) (λ key. later_reads (declare_meaning asks key site) id) s p

  pub later_named : (id : ℕ) (v : Value) (go : List ℕ → St → Answer) → ((bytes : List ℕ) → Keeps (go bytes)) → Keeps (λ s. named id v s (λ bytes. go bytes s))
  unfolding Keeps Later
  later_named id (value.Str bytes) go k s p = later_if (is_name bytes) _ _ (k bytes s p) p
  later_named _ _ _ _ _ p = p

  -- each call keeps what was read
  unfoldable pub KeepCalls : Calls → Type 0
  KeepCalls call = (id : ℕ) (r : Value) (m : ℕ) (vs : List Value) → Keeps (call id r m vs)

  module _ (t : Table) (names : List Name) (call : Calls) (ok : KeepCalls call) where
    mutual
      unfolding Keeps Later KeepCalls

      pub later_ev : (e : Tree) → Keeps (ev t names call e)
      later_ev (TNil id) s p = later_begin id _ (λ s p. p) s p
      later_ev (TTrue id) s p = later_begin id _ (λ s p. p) s p
      later_ev (TFalse id) s p = later_begin id _ (λ s p. p) s p
      later_ev (TSelf id) s p = later_begin id _ (λ s p. later_self id s.self s p) s p
      later_ev (TInt id n) s p = later_begin id _ (λ s p. p) s p
      later_ev (TText id x) s p = later_begin id _ (λ s p. p) s p
      later_ev (TVar id x) s p = later_begin id _ (λ s p. later_variable id (value_at s.vars x) s p) s p
      later_ev (TNew id c) s p = later_begin id _ (λ s p. p) s p
      later_ev (TAssign id x e) s p = later_begin id _ (λ s p. later_then (ev t names call e s) _ (later_ev e s p) (λ v s p. p)) s p
      later_ev (TPrint id e) s p = later_begin id _ (λ s p. later_then (ev t names call e s) _ (later_ev e s p) (λ v s p. later_printed id (shown t v) s p)) s p
      later_ev (TToStr id e) s p = later_begin id _ (λ s p. later_then (ev t names call e s) _ (later_ev e s p) (λ v s p. p)) s p
      later_ev (TNot id e) s p = later_begin id _ (λ s p. later_then (ev t names call e s) _ (later_ev e s p) (λ v s p. p)) s p
      later_ev (TBinary id o a b) s p = later_begin id _ (λ s p. later_then (ev t names call a s) _ (later_ev a s p)
          (λ v s p. later_then (ev t names call b s) _ (later_ev b s p) (λ w s p. later_gives id (operate o v w) s p))) s p
      later_ev (TIf id c a b) s p = later_begin id _ (λ s p. later_then (ev t names call c s) _ (later_ev c s p) (λ v s p. later_if (is_false v) _ _ (later_ev b s p) (later_ev a s p))) s p
      later_ev (TWhile id c b) s p = later_begin id _ (λ s p. later_loop (ev t names call c) (ev t names call b) (λ s p. later_ev c s p) (λ s p. later_ev b s p) s p) s p
      later_ev (TCall id r m args) s p = later_begin id _ (λ s p. later_then (ev t names call r s) _ (later_ev r s p) (λ v s p. later_args args [] (λ vs s. call id v m vs s) (λ vs s p. ok id v m vs s p) s p)) s p
      later_ev (TDef id c m site b) s p = later_begin id _ (λ s p. later_define names id (c, bytes_at t.names m) site s p) s p
      later_ev (TDefComputed id c e site b) s p = later_begin id _
          (λ s p. later_then (ev t names call e s) _ (later_ev e s p) (λ v s p. later_named id v _ (λ bytes s p. later_define names id (c, bytes) site s p) s p)) s p
      later_ev (TDeclare id c m site asks) s p = later_begin id _ (λ s p. later_declare names id asks (c, bytes_at t.names m) site s p) s p
      later_ev (TDeclareComputed id c e site asks) s p = later_begin id _
          (λ s p. later_then (ev t names call e s) _ (later_ev e s p) (λ v s p. later_named id v _ (λ bytes s p. later_declare names id asks (c, bytes) site s p) s p)) s p
      later_ev (TBlock id es) s p = later_items es value.Nil s p

      pub later_items : (es : Forest) (v : Value) → Keeps (ev_items t names call es v)
      later_items NoTree v s p = p
      later_items (Trees e es) v s p = later_then (ev t names call e s) _ (later_ev e s p) (λ w s p. later_items es w s p)

      pub later_args : (es : Forest) (vs : List Value) (go : List Value → St → Answer) → ((us : List Value) → Keeps (go us)) → Keeps (ev_arguments t names call es vs go)
      later_args NoTree vs go k s p = k vs s p
      later_args (Trees e es) vs go k s p = later_then (ev t names call e s) _ (later_ev e s p) (λ v s p. later_args es (vs ++ v ∷ []) go k s p)

  -- ── calls ──

  pub later_frees : (o : Option (List Act)) (go : St → Answer) → Keeps go → Keeps (λ s. read_frees o s go)
  unfolding Keeps Later
  later_frees None go k s p = tt
  later_frees (Some rest) go k s p = k (read_to rest s) (prefix_more rd s.read (tagged s.begun (acts_before rest s.journal)) p)

  pub later_leave : (q : ℕ) (held : List Stand) (vars : Bindings) (self : Option ClassId) (a : Answer) → Later rd a → Later rd (leave q held vars self a)
  unfolding Later Keeps
  later_leave q held vars self Lost h = tt
  later_leave q held vars self (Done v s) h = later_frees (freed q held s.journal) _ (λ s p. p) s h
  later_leave q held vars self (Halt e id s) h = later_frees (freed q held s.journal) _ (λ s p. p) s h

  pub later_body : (run : ℕ → St → Answer) → ((block : ℕ) → Keeps (run block)) → (q : ℕ) (c : ClassId) (args : List Value) (held : List Stand) (b : Option Body) → Keeps (run_body run q c args held b)
  unfolding Keeps Later
  later_body run k q c args held None s p = tt
  later_body run k q c args held (Some b) s p = later_leave q held s.vars s.self (run b.block.0 (record s { vars = bindings (params_of b) args; self = Some c })) (k b.block.0 _ p)

  pub later_decided : (id : ℕ) (body : St → Answer) → Keeps body → (v : Verdict) → Keeps (decided id body v)
  unfolding Keeps Later
  later_decided id body k (verdict.Enter way) s p = k s p
  later_decided _ _ _ _ _ p = p

  pub later_called : (t : Table) (run : ℕ → St → Answer) → ((block : ℕ) → Keeps (run block)) → (id : ℕ) (c : ClassId) (args : List Value) (r : Read) → Keeps (called t run id c args r)
  unfolding Keeps Later
  later_called t run k id c args NoCall s p = tt
  later_called t run k id c args (FullAt rest) s p = prefix_more rd s.read (tagged s.begun (acts_before rest s.journal)) p
  later_called t run k id c args (Called site v held rest) s p =
      later_decided id (run_body run s.next c args held (body_at t site)) (λ s p. later_body run k _ c args held (body_at t site) s p) v (numbered (read_to rest s))
      (prefix_more rd s.read (tagged s.begun (acts_before rest s.journal)) p)

  pub later_received : (id : ℕ) (r : Result ClassId Stop) (go : ClassId → St → Answer) → ((c : ClassId) → Keeps (go c)) → Keeps (λ s. received id r s (λ c. go c s))
  unfolding Keeps Later
  later_received id (Err e) go k s p = p
  later_received id (Ok c) go k s p = k c s p

  pub later_calls : (t : Table) (names : List Name) (room : ℕ) → KeepCalls (call_in t names room)
  unfolding call_in Keeps KeepCalls Later
  later_calls t names zero id r m vs s p = later_received id (receiver r) (λ c s. Halt stop.Deep id s) (λ c s p. p) s p
  later_calls t names (suc room) id r m vs s p = later_received id (receiver r) _ (λ c s p.
      later_key names id (place names (c.0, bytes_at t.names m)) _ (λ key s p.
      later_called t (λ block s. ev t names (call_in t names room) (tree_at t block) s)
      (λ block s p. later_ev t names (call_in t names room) (later_calls t names room) (tree_at t block) s p) id c vs (call_of t s.next key (map kind_of vs) s.journal) s p) s p) s p
