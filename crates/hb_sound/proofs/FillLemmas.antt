-- A run stops with Full only where the list of names is full.
use Rattle.std.proofs.Common.{◌≡◌, ℕ, zero, suc, ◌+◌, ◌≤◌, Bool, true, false, List, [], ◌∷◌, ◌++◌, length, map, Option, Some, None}
use Rattle.std.proofs.Common.{refl, sym, ap, ◌∙◌, subst, append_assoc, nat_eq, nat_le, arith}
use Rattle.std.proofs.lemmas.Bool.{eqb-true}
use Rattle.std.specs.Prelude.{Result, Ok, Err, ℤ, ◌&&◌, ◌||◌, ◌+ℤ◌, ◌-ℤ◌, ◌*ℤ◌, if◌then◌else◌}
use Rattle.std.specs.List.{AllByRecursion}
use Rattle.hb_types.specs.declared.ids.ClassId.{ClassId}
use Rattle.hb_types.specs.declared.ids.NodeId.{NodeId}
use Rattle.hb_tree.specs.declared.parts.Body.{Body}
use Rattle.hb_tree.specs.declared.{limits.TheConstants.TEXT_BYTES_MAX, node.Op.Op}
use Rattle.hb_tree.specs.declared.node.Op.TheVariants as op
use Rattle.hb_tree.specs.Table.{Table}
use Rattle.hb_tree.specs.TreeAt.{tree_at}
use Rattle.hb_tree.specs.Nodes.{params_of}
use Rattle.hb_tree.specs.Canon.{bytes_at}
use Rattle.hb_tree.specs.Tree.{Tree, TNil, TTrue, TFalse, TSelf, TInt, TText, TVar, TNew, TAssign, TPrint, TToStr, TNot, TBinary, TIf, TWhile, TCall, TDef, TDefComputed}
use Rattle.hb_tree.specs.Tree.{TDeclare, TDeclareComputed, TBlock, Forest, NoTree, Trees}
use Rattle.hb_tree.proofs.Lists.{each_append}
use Rattle.hb_names.specs.declared.names.TheConstants.{NAMES_MAX}
use Rattle.hb_names.specs.Names.{Name, place}
use Rattle.hb_tables.specs.declared.entry.Act.{Act}
use Rattle.hb_tables.specs.declared.entry.Act.TheVariants.{Hold, Free, Retype, Busy, WornType, Define, WornDef, Call}
use Rattle.hb_tables.specs.declared.entry.Entry.{Entry}
use Rattle.hb_tables.specs.declared.entry.Verdict.{Verdict}
use Rattle.hb_tables.specs.declared.entry.Verdict.TheVariants as verdict
use Rattle.hb_tables.specs.Frames.{acts}
use Rattle.hb_tables.specs.History.{Every, IsLegal}
use Rattle.hb_tables.specs.Standing.{Stand}
use Rattle.hb_tables.specs.Rows.{body_at}
use Rattle.hb_call.specs.Reading.{Read, Called, FullAt, Lost as NoCall, call_of, freed}
use Rattle.hb_call.specs.Rules.{FitsRules}
use Rattle.hb_eval.specs.declared.printed.TheConstants.{OUTPUT_MAX}
use Rattle.hb_eval.specs.declared.value.Value.{Value}
use Rattle.hb_eval.specs.declared.value.Value.TheVariants as value
use Rattle.hb_eval.specs.declared.stop.Stop.{Stop}
use Rattle.hb_eval.specs.declared.stop.Stop.TheVariants as stop
use Rattle.hb_eval.specs.declared.stop.Outcome.{Outcome}
use Rattle.hb_eval.specs.declared.stop.Outcome.TheVariants as outcome
use Rattle.hb_eval.specs.Values.{is_false, is_nil, kind_of}
use Rattle.hb_eval.specs.Operators.{int_of, is_int, misfit, of_ints, of_texts, operate, text_of}
use Rattle.hb_eval.specs.Printing.{shown, print_line}
use Rattle.hb_eval.specs.Runs.{Run, ended, run_of, script_run, start}
use Rattle.hb_eval.specs.State.{Bindings, St, Answer, Lost, Done, Halt, then_do, gives, begin, value_at, read_act, meant, next_act, reads}
use Rattle.hb_eval.specs.Methods.{is_name, named, with_key, define_meaning, declare_meaning, changed, unchanged, define, declare}
use Rattle.hb_eval.specs.Meaning.{Calls, variable, self_value, printed, turns, loop, ev, ev_items, ev_arguments}
use Rattle.hb_eval.specs.Calls.{bindings, call_in, called, decided, leave, numbered, read_frees, read_to, receiver, received, run_body}
use Rattle.hb_sound.proofs.FullLemmas.{HasGone, IsBefore, call_gone, freed_taken, full_here}

-- a stop with Full has this
abbrev pub Fills : Type 0 → Stop → Type 0
Fills Full stop.Full = Full
Fills Full _ = Unit {0}

-- so has what may be one
abbrev FillsBy : Type 0 → Result Value Stop → Type 0
FillsBy Full (Ok v) = Unit {0}
FillsBy Full (Err e) = Fills Full e

-- and an act that may mean one is no Hold and no Call
unfoldable FillsAct : Type 0 → Act → Option (Result Value Stop) → Type 0
FillsAct Full a None = Unit {0}
FillsAct Full a (Some r) = ((n : ℕ) → IsBefore n a) × FillsBy Full r

module _ (Full : Type 0) where
  misfit_fills : (v w : Value) → Fills Full (misfit v w)
  misfit_fills v w = go (is_nil v || is_nil w)
    where
      go : (b : Bool) → Fills Full (if b then stop.NilValue else stop.BadOperand)
      go true = tt
      go false = tt

  int_fills : (z : ℤ) → FillsBy Full (int_of z)
  int_fills z = go (is_int z)
    where
      go : (b : Bool) → FillsBy Full (if b then Ok (value.Int z) else Err stop.Overflow)
      go true = tt
      go false = tt

  text_fills : (bytes : List ℕ) → FillsBy Full (text_of bytes)
  text_fills bytes = go (nat_le (length bytes) TEXT_BYTES_MAX)
    where
      go : (b : Bool) → FillsBy Full (if b then Ok (value.Str bytes) else Err stop.LongText)
      go true = tt
      go false = tt

  ints_fill : (f : ℤ → ℤ → Result Value Stop) → ((x y : ℤ) → FillsBy Full (f x y)) → (v w : Value) → FillsBy Full (of_ints f v w)
  ints_fill f h (value.Int x) (value.Int y) = h x y
  ints_fill f h v w = misfit_fills v w

  texts_fill : (f : List ℕ → List ℕ → Result Value Stop) → ((x y : List ℕ) → FillsBy Full (f x y)) → (v w : Value) → FillsBy Full (of_texts f v w)
  texts_fill f h (value.Str x) (value.Str y) = h x y
  texts_fill f h v w = misfit_fills v w

  operate_fills : (o : Op) (v w : Value) → FillsBy Full (operate o v w)
  operate_fills op.Add v w = ints_fill (λ x y. int_of (x +ℤ y)) (λ x y. int_fills (x +ℤ y)) v w
  operate_fills op.Sub v w = ints_fill (λ x y. int_of (x -ℤ y)) (λ x y. int_fills (x -ℤ y)) v w
  operate_fills op.Mul v w = ints_fill (λ x y. int_of (x *ℤ y)) (λ x y. int_fills (x *ℤ y)) v w
  operate_fills op.Less v w = ints_fill _ (λ x y. tt) v w
  operate_fills op.Concat v w = texts_fill (λ x y. text_of (x ++ y)) (λ x y. text_fills (x ++ y)) v w
  operate_fills op.Equal v w = tt

  fills_if : (a : Act) (b : Bool) (r : Result Value Stop) → ((n : ℕ) → IsBefore n a) → FillsBy Full r → FillsAct Full a (if b then Some r else None)
  unfolding FillsAct
  fills_if a true r f h = (f, h)
  fills_if a false r f h = tt

  changed_fills : (asks : Bool) → FillsBy Full (changed asks)
  changed_fills true = tt
  changed_fills false = tt

  unchanged_fills : (asks : Bool) → FillsBy Full (unchanged asks)
  unchanged_fills true = tt
  unchanged_fills false = tt

  define_fills : (key site : ℕ) (a : Act) → FillsAct Full a (define_meaning key site a)
  unfolding FillsAct
  define_fills key site (Define k s) = fills_if (Define k s) (nat_eq k.0 key && nat_eq s.0 site) (Ok value.Nil) (λ n. tt) tt
  define_fills key site (WornDef k) = fills_if (WornDef k) (nat_eq k.0 key) (Err stop.Worn) (λ n. tt) tt
  define_fills _ _ _ = tt

  declare_fills : (asks : Bool) (key site : ℕ) (a : Act) → FillsAct Full a (declare_meaning asks key site a)
  unfolding FillsAct
  declare_fills asks key site (Retype k s) = fills_if (Retype k s) (nat_eq k.0 key && nat_eq s.0 site) (changed asks) (λ n. tt) (changed_fills asks)
  declare_fills asks key site (Busy k pins) = fills_if (Busy k pins) (nat_eq k.0 key) (unchanged asks) (λ n. tt) (unchanged_fills asks)
  declare_fills asks key site (WornType k) = fills_if (WornType k) (nat_eq k.0 key) (Err stop.Worn) (λ n. tt) tt
  declare_fills _ _ _ _ = tt

-- Behind acts of the caller's, of calls before this one, these are left.
pub record IsLeft (log : List Entry) (c next : ℕ) (left : List Act) : Type 0 where
  pub front : List Act
  pub is : acts c log ≡ front ++ left
  pub before : AllByRecursion (IsBefore next) front

-- the same, or a stop with Full, where the list of names is full
unfoldable pub IsFilled : List Name → List Entry → ℕ → Answer → Type 0
IsFilled names log c Lost = Unit {0}
IsFilled names log c (Done v s) = IsLeft log c s.next s.journal
IsFilled names log c (Halt e id s) = Fills (length names ≡ NAMES_MAX) e

before_more : (n m : ℕ) (l : List Act) → n ≤ m → AllByRecursion (IsBefore n) l → AllByRecursion (IsBefore m) l
before_more n m [] le h = tt
before_more n m (Hold key p ty changes ∷ l) le h = (let low = h.0 in omega (arith, low, le), before_more n m l le h.1)
before_more n m (Call key p site args v ∷ l) le h = (let low = h.0 in omega (arith, low, le), before_more n m l le h.1)
before_more n m (Free key p ∷ l) le h = (tt, before_more n m l le h.1)
before_more n m (Retype key site ∷ l) le h = (tt, before_more n m l le h.1)
before_more n m (Busy key pins ∷ l) le h = (tt, before_more n m l le h.1)
before_more n m (WornType key ∷ l) le h = (tt, before_more n m l le h.1)
before_more n m (Define key site ∷ l) le h = (tt, before_more n m l le h.1)
before_more n m (WornDef key ∷ l) le h = (tt, before_more n m l le h.1)

left_past : (log : List Entry) (c n m : ℕ) (l front rest : List Act) → n ≤ m → l ≡ front ++ rest → AllByRecursion (IsBefore m) front → IsLeft log c n l → IsLeft log c m rest
left_past log c n m l front rest le is before h = record {
  front = h.front ++ front;
  is = h.is ∙ ap (λ x. h.front ++ x) is ∙ sym (append_assoc h.front front rest);
  before = each_append (IsBefore m) h.front front (before_more n m h.front le h.before) before;
}

module _ (t : Table) (names : List Name) (limit : ℕ) (log : List Entry) (c : ℕ) where
  -- what is left stays what is left
  unfoldable pub Keeps : (St → Answer) → Type 0
  Keeps f = (s : St) → IsLeft log c s.next s.journal → IsFilled names log c (f s)

  filled_then : (a : Answer) (go : Value → St → Answer) → IsFilled names log c a → ((v : Value) → Keeps (go v)) → IsFilled names log c (then_do a go)
  unfolding then_do IsFilled Keeps
  filled_then Lost go h k = tt
  filled_then (Done v s) go h k = k v s h
  filled_then (Halt e id s) go h k = h

  filled_if : (b : Bool) (x y : Answer) → IsFilled names log c x → IsFilled names log c y → IsFilled names log c (if b then x else y)
  filled_if true x y h k = h
  filled_if false x y h k = k

  filled_begin : (id : ℕ) (go : St → Answer) → Keeps go → Keeps (λ s. begin id s go)
  unfolding begin Keeps IsFilled
  filled_begin id go k s p = filled_if (nat_eq s.fuel 0) _ _ tt (k _ p)

  filled_gives : (id : ℕ) (r : Result Value Stop) → FillsBy (length names ≡ NAMES_MAX) r → Keeps (gives id r)
  unfolding Keeps IsFilled
  filled_gives id (Ok v) h s p = p
  filled_gives id (Err e) h s p = h

  filled_variable : (id : ℕ) (o : Option Value) → Keeps (variable id o)
  unfolding Keeps IsFilled
  filled_variable id None s p = tt
  filled_variable id (Some v) s p = p

  filled_self : (id : ℕ) (o : Option ClassId) → Keeps (self_value id o)
  unfolding Keeps IsFilled
  filled_self id None s p = tt
  filled_self id (Some d) s p = p

  filled_printed : (id : ℕ) (text : List ℕ) → Keeps (printed id text)
  unfolding Keeps IsFilled
  filled_printed id text s p = filled_if (nat_le (length (s.output ++ print_line text)) OUTPUT_MAX) _ _ p tt

  filled_turns : (n : ℕ) (test body : St → Answer) → Keeps test → Keeps body → Keeps (turns n test body)
  unfolding turns Keeps IsFilled
  filled_turns zero test body h k s p = tt
  filled_turns (suc n) test body h k s p =
      filled_then (test s) _ (h s p) (λ v s p. filled_if (is_false v) _ _ p (filled_then (body s) _ (k s p) (λ w s p. filled_turns n test body h k s p)))

  filled_loop : (test body : St → Answer) → Keeps test → Keeps body → Keeps (loop test body)
  unfolding loop Keeps
  filled_loop test body h k s p = filled_turns (suc s.fuel) test body h k s p

  filled_reads : (m : Act → Option (Result Value Stop)) → ((a : Act) → FillsAct (length names ≡ NAMES_MAX) a (m a)) → (id : ℕ) → Keeps (reads m id)
  unfolding reads Keeps IsFilled FillsAct
  filled_reads m ok id s p = go s.journal refl
    where
      one : (a : Act) (l : List Act) → s.journal ≡ a ∷ l → (o : Option (Result Value Stop)) → FillsAct (length names ≡ NAMES_MAX) a o → IsFilled names log c (meant id o (read_act a l s))
      one a l e None h = tt
      one a l e (Some r) h = filled_gives id r h.1 (read_act a l s) (left_past log c s.next s.next s.journal (a ∷ []) l (omega arith) e (h.0 s.next, tt) p)

      go : (l : List Act) → s.journal ≡ l → IsFilled names log c (next_act m id s l)
      go [] e = tt
      go (a ∷ l) e = one a l e (m a) (ok a)

  filled_key : (id : ℕ) (o : Option ℕ) (go : ℕ → St → Answer) → ((key : ℕ) → Keeps (go key)) → Keeps (λ s. with_key names id o s (λ key. go key s))
  unfolding Keeps IsFilled
  filled_key id None go k s p = full (nat_eq (length names) NAMES_MAX) refl
    where
      full : (b : Bool) → nat_eq (length names) NAMES_MAX ≡ b → IsFilled names log c (if b then Halt stop.Full id s else Lost)
      full true e = eqb-true (length names) NAMES_MAX e
      full false e = tt
  filled_key id (Some key) go k s p = k key s p

  filled_define : (id : ℕ) (name : Name) (site : ℕ) → Keeps (define names id name site)
  unfolding Keeps
  filled_define id name site s p =
      filled_key id (place names name) (λ key. reads (define_meaning key site) id) (λ key. filled_reads (define_meaning key site) (define_fills (length names ≡ NAMES_MAX) key site) id) s p

  filled_declare : (id : ℕ) (asks : Bool) (name : Name) (site : ℕ) → Keeps (declare names id asks name site)
  unfolding Keeps
  filled_declare id asks name site s p =
      filled_key id (place names name) (λ key. reads (declare_meaning asks key site) id)
      (λ key. filled_reads (declare_meaning asks key site) (declare_fills (length names ≡ NAMES_MAX) asks key site) id) s p

  filled_named : (id : ℕ) (v : Value) (go : List ℕ → St → Answer) → ((bytes : List ℕ) → Keeps (go bytes)) → Keeps (λ s. named id v s (λ bytes. go bytes s))
  unfolding Keeps IsFilled
  filled_named id (value.Str bytes) go k s p = filled_if (is_name bytes) _ _ (k bytes s p) tt
  filled_named _ _ _ _ _ _ = tt

  unfoldable pub KeepCalls : Calls → Type 0
  KeepCalls call = (id : ℕ) (r : Value) (m : ℕ) (vs : List Value) → Keeps (call id r m vs)

  module _ (call : Calls) (ok : KeepCalls call) where
    mutual
      unfolding Keeps IsFilled KeepCalls

      pub filled_ev : (e : Tree) → Keeps (ev t names call e)
      filled_ev (TNil id) s p = filled_begin id _ (λ s p. p) s p
      filled_ev (TTrue id) s p = filled_begin id _ (λ s p. p) s p
      filled_ev (TFalse id) s p = filled_begin id _ (λ s p. p) s p
      filled_ev (TSelf id) s p = filled_begin id _ (λ s p. filled_self id s.self s p) s p
      filled_ev (TInt id n) s p = filled_begin id _ (λ s p. p) s p
      filled_ev (TText id x) s p = filled_begin id _ (λ s p. p) s p
      filled_ev (TVar id x) s p = filled_begin id _ (λ s p. filled_variable id (value_at s.vars x) s p) s p
      filled_ev (TNew id c) s p = filled_begin id _ (λ s p. p) s p
      filled_ev (TAssign id x e) s p = filled_begin id _ (λ s p. filled_then (ev t names call e s) _ (filled_ev e s p) (λ v s p. p)) s p
      filled_ev (TPrint id e) s p = filled_begin id _ (λ s p. filled_then (ev t names call e s) _ (filled_ev e s p) (λ v s p. filled_printed id (shown t v) s p)) s p
      filled_ev (TToStr id e) s p = filled_begin id _ (λ s p. filled_then (ev t names call e s) _ (filled_ev e s p) (λ v s p. p)) s p
      filled_ev (TNot id e) s p = filled_begin id _ (λ s p. filled_then (ev t names call e s) _ (filled_ev e s p) (λ v s p. p)) s p
      filled_ev (TBinary id o a b) s p = filled_begin id _ (λ s p. filled_then (ev t names call a s) _ (filled_ev a s p)
          (λ v s p. filled_then (ev t names call b s) _ (filled_ev b s p) (λ w s p. filled_gives id (operate o v w) (operate_fills (length names ≡ NAMES_MAX) o v w) s p))) s p
      filled_ev (TIf id c a b) s p = filled_begin id _ (λ s p. filled_then (ev t names call c s) _ (filled_ev c s p) (λ v s p. filled_if (is_false v) _ _ (filled_ev b s p) (filled_ev a s p))) s p
      filled_ev (TWhile id c b) s p = filled_begin id _ (λ s p. filled_loop (ev t names call c) (ev t names call b) (λ s p. filled_ev c s p) (λ s p. filled_ev b s p) s p) s p
      filled_ev (TCall id r m args) s p = filled_begin id _ (λ s p. filled_then (ev t names call r s) _ (filled_ev r s p)
          (λ v s p. filled_args args [] (λ vs s. call id v m vs s) (λ vs s p. ok id v m vs s p) s p)) s p
      filled_ev (TDef id c m site b) s p = filled_begin id _ (λ s p. filled_define id (c, bytes_at t.names m) site s p) s p
      filled_ev (TDefComputed id c e site b) s p = filled_begin id _
          (λ s p. filled_then (ev t names call e s) _ (filled_ev e s p) (λ v s p. filled_named id v _ (λ bytes s p. filled_define id (c, bytes) site s p) s p)) s p
      filled_ev (TDeclare id c m site asks) s p = filled_begin id _ (λ s p. filled_declare id asks (c, bytes_at t.names m) site s p) s p
      filled_ev (TDeclareComputed id c e site asks) s p = filled_begin id _
          (λ s p. filled_then (ev t names call e s) _ (filled_ev e s p) (λ v s p. filled_named id v _ (λ bytes s p. filled_declare id asks (c, bytes) site s p) s p)) s p
      filled_ev (TBlock id es) s p = filled_items es value.Nil s p

      pub filled_items : (es : Forest) (v : Value) → Keeps (ev_items t names call es v)
      filled_items NoTree v s p = p
      filled_items (Trees e es) v s p = filled_then (ev t names call e s) _ (filled_ev e s p) (λ w s p. filled_items es w s p)

      pub filled_args : (es : Forest) (vs : List Value) (go : List Value → St → Answer) → ((us : List Value) → Keeps (go us)) → Keeps (ev_arguments t names call es vs go)
      filled_args NoTree vs go k s p = k vs s p
      filled_args (Trees e es) vs go k s p = filled_then (ev t names call e s) _ (filled_ev e s p) (λ v s p. filled_args es (vs ++ v ∷ []) go k s p)

  -- ── calls ──

  filled_frees : (q : ℕ) (held : List Stand) (go : St → Answer) → Keeps go → Keeps (λ s. read_frees (freed q held s.journal) s go)
  unfolding Keeps IsFilled
  filled_frees q held go k s p = by (freed q held s.journal) refl
    where
      by : (o : Option (List Act)) → freed q held s.journal ≡ o → IsFilled names log c (read_frees o s go)
      by None e = tt
      by (Some rest) e = let f = freed_taken q s.next held s.journal rest e in k (read_to rest s) (left_past log c s.next s.next s.journal f.0 rest (omega arith) f.1 f.2 p)

  filled_leave : (q : ℕ) (held : List Stand) (vars : Bindings) (self : Option ClassId) (a : Answer) → IsFilled names log c a → IsFilled names log c (leave q held vars self a)
  unfolding IsFilled Keeps
  filled_leave q held vars self Lost h = tt
  filled_leave q held vars self (Done v s) h = filled_frees q held _ (λ s p. p) s h
  filled_leave q held vars self (Halt e id s) h = by (freed q held s.journal)
    where
      by : (o : Option (List Act)) → IsFilled names log c (read_frees o s (λ s. Halt e id (record s { vars = vars; self = self })))
      by None = tt
      by (Some rest) = h

  filled_body : (run : ℕ → St → Answer) → ((block : ℕ) → Keeps (run block)) → (q : ℕ) (d : ClassId) (args : List Value) (held : List Stand) (b : Option Body) → Keeps (run_body run q d args held b)
  unfolding Keeps IsFilled
  filled_body run k q d args held None s p = tt
  filled_body run k q d args held (Some b) s p = filled_leave q held s.vars s.self (run b.block.0 (record s { vars = bindings (params_of b) args; self = Some d })) (k b.block.0 _ p)

  filled_decided : (id : ℕ) (body : St → Answer) → Keeps body → (v : Verdict) → Keeps (decided id body v)
  unfolding Keeps IsFilled
  filled_decided id body k (verdict.Enter way) s p = k s p
  filled_decided _ _ _ _ _ _ = tt

  filled_received : (id : ℕ) (v : Value) (go : ClassId → St → Answer) → ((d : ClassId) → Keeps (go d)) → Keeps (λ s. received id (receiver v) s (λ d. go d s))
  unfolding Keeps IsFilled
  filled_received id (value.Object d) go k s p = k d s p
  filled_received _ _ _ _ _ _ = tt

  module _ (legal : IsLegal limit log) (rules : Every (λ before e. FitsRules t names e.caller.0 before e.act) log) (few : length names ≤ NAMES_MAX) where
    filled_called : (run : ℕ → St → Answer) → ((block : ℕ) → Keeps (run block)) → (id key : ℕ) (d : ClassId) (args : List Value) (r : Read) (s : St)
        → IsLeft log c s.next s.journal → HasGone s.next key s.journal r → IsFilled names log c (called t run id d args r s)
    unfolding Keeps IsFilled HasGone
    filled_called run k id key d args NoCall s p h = tt
    filled_called run k id key d args (FullAt rest) s p h = full_here t names limit log c legal rules few s.next key p.front s.journal p.is p.before h
    filled_called run k id key d args (Called site v held rest) s p h =
        filled_decided id (run_body run s.next d args held (body_at t site)) (λ s p. filled_body run k _ d args held (body_at t site) s p) v (numbered (read_to rest s))
        (left_past log c s.next (s.next + 1) s.journal h.0 rest (omega arith) h.1 h.2 p)

    pub filled_calls : (room : ℕ) → KeepCalls (call_in t names room)
    unfolding call_in Keeps KeepCalls IsFilled
    filled_calls zero id r m vs s p = filled_received id r (λ d s. Halt stop.Deep id s) (λ d s p. tt) s p
    filled_calls (suc room) id r m vs s p = filled_received id r _ (λ d s p.
        filled_key id (place names (d.0, bytes_at t.names m)) _ (λ key s p.
        filled_called (λ block s. ev t names (call_in t names room) (tree_at t block) s)
        (λ block s p. filled_ev (call_in t names room) (filled_calls room) (tree_at t block) s p) id key d vs (call_of t s.next key (map kind_of vs) s.journal) s p
        (call_gone t s.next key (map kind_of vs) s.journal)) s p) s p

    pub full_stop : (room block steps : ℕ) (run : Run) (id : NodeId) → script_run t names (call_in t names room) block steps (acts c log) ≡ Some run → run.outcome ≡ outcome.Stopped stop.Full id
        → length names ≡ NAMES_MAX
    unfolding IsFilled Keeps
    full_stop room block steps run id reads stops =
        go (ev t names (call_in t names room) (tree_at t block) (start steps (acts c log)))
        (filled_ev (call_in t names room) (filled_calls room) (tree_at t block) (start steps (acts c log)) (record { front = []; is = refl; before = tt })) reads
      where
        stopped : (e : Stop) (i : NodeId) → Fills (length names ≡ NAMES_MAX) e → outcome.Stopped e i ≡ outcome.Stopped stop.Full id → length names ≡ NAMES_MAX
        stopped e i h same = (let is : e ≡ stop.Full = cc same in subst (Fills (length names ≡ NAMES_MAX)) is h)

        outcome_is : (o : Outcome) (s : St) (l : List Act) → ended o s l ≡ Some run → o ≡ run.outcome
        outcome_is o s [] e = (let same : record { outcome = o; output = s.output; acts = s.read; begun = s.begun } ≡ run = cc e in ap (λ (r : Run). r.outcome) same)
        outcome_is o s (a ∷ l) e = absurd (cc e)

        go : (a : Answer) → IsFilled names log c a → run_of a ≡ Some run → length names ≡ NAMES_MAX
        go Lost h e = absurd (cc e)
        go (Done v s) h e = absurd (let o = outcome_is (outcome.Done v) s s.journal e ∙ stops in cc o)
        go (Halt e i s) h is = stopped e (record { 0 = i }) h (outcome_is (outcome.Stopped e (record { 0 = i })) s s.journal is ∙ stops)
