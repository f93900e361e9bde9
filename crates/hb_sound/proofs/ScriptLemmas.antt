-- What is not judged stops at its own nodes, or for a named cause.
use Rattle.std.proofs.Common.{◌≡◌, inl, inr, ℕ, zero, suc, Bool, true, false, List, [], ◌∷◌, ◌++◌, length, Option, Some, None, refl, subst, nat_eq, nat_le}
use Rattle.std.specs.Prelude.{Result, Ok, Err, if◌then◌else◌}
use Rattle.hb_types.specs.declared.{ids.ClassId.ClassId, types.Ty.Ty}
use Rattle.hb_types.specs.declared.types.Ty.TheVariants as ty
use Rattle.hb_tree.specs.{Table.Table, Canon.bytes_at}
use Rattle.hb_tree.specs.Tree.{Tree, TNil, TTrue, TFalse, TSelf, TInt, TText, TVar, TNew, TAssign, TPrint, TToStr, TNot, TBinary, TIf, TWhile, TCall, TDef, TDefComputed}
use Rattle.hb_tree.specs.Tree.{TDeclare, TDeclareComputed, TBlock, Forest, NoTree, Trees}
use Rattle.hb_deriv.specs.Judge.{declaration_type}
use Rattle.hb_names.specs.declared.names.TheConstants.{NAMES_MAX}
use Rattle.hb_names.specs.Names.{Name, place}
use Rattle.hb_tables.specs.declared.{entry.Act.Act, entry.Entry.Entry}
use Rattle.hb_tables.specs.{History.IsLegal, Frames.frees, Rows.HasCallRows}
use Rattle.hb_eval.specs.declared.{printed.TheConstants.OUTPUT_MAX, value.Value.Value, stop.Stop.Stop}
use Rattle.hb_eval.specs.declared.value.Value.TheVariants as value
use Rattle.hb_eval.specs.{Values.is_false, Operators.operate, Printing.shown, Printing.print_line, Calls.call_in}
use Rattle.hb_eval.specs.State.{Bindings, St, Answer, Lost, Done, Halt, then_do, gives, begin, value_at, read_act, meant, next_act, reads}
use Rattle.hb_eval.specs.Methods.{is_name, named, with_key, define_meaning, declare_meaning, define, declare}
use Rattle.hb_eval.specs.Meaning.{Calls, variable, self_value, printed, turns, loop, ev, ev_items, ev_arguments}
use Rattle.hb_sound.specs.{Sound.Rest, Frames.AreLive, Frames.Ends}
use Rattle.hb_sound.specs.Scripts.{IsNodeIn, IsNodeAmong, Tame}
use Rattle.hb_sound.proofs.SoundLemmas.{FairAct, define_fair, declare_fair}
use Rattle.hb_sound.proofs.{LiveLemmas.live_quiet, CallLemmas.call_ends, CallLemmas.within}

-- A call stops at its node or for a named cause. What is true of the acts stays so behind one that gives no key back.
pub record AreTame (Inv : Rest) (Node : ℕ → Type 0) (call : Calls) : Type 0 where
  pub calls : (id : ℕ) (r : Value) (m : ℕ) (vs : List Value) (s : St) → Node id → Inv s.next s.journal → Tame Inv Node (call id r m vs s)
  pub reads : (a : Act) (next : ℕ) (rest : List Act) → ((q : ℕ) → frees q a ≡ false) → Inv next (a ∷ rest) → Inv next rest

module _ (Inv : Rest) (Node : ℕ → Type 0) (t : Table) (names : List Name) (call : Calls) (ok : AreTame Inv Node call) where
  tame_then : (a : Answer) (go : Value → St → Answer) → Tame Inv Node a → ((v : Value) (s : St) → Inv s.next s.journal → Tame Inv Node (go v s)) → Tame Inv Node (then_do a go)
  unfolding then_do
  tame_then Lost go h k = tt
  tame_then (Done v s) go h k = k v s h
  tame_then (Halt e id s) go h k = h

  tame_if : (b : Bool) (x y : Answer) → Tame Inv Node x → Tame Inv Node y → Tame Inv Node (if b then x else y)
  tame_if true x y h k = h
  tame_if false x y h k = k

  tame_begin : (id : ℕ) (s : St) (go : St → Answer) → Inv s.next s.journal → ((s : St) → Inv s.next s.journal → Tame Inv Node (go s)) → Tame Inv Node (begin id s go)
  unfolding begin
  tame_begin id s go f k = tame_if (nat_eq s.fuel 0) _ _ (inl tt) (k _ f)

  tame_gives : (id : ℕ) (r : Result Value Stop) (s : St) → Node id → Inv s.next s.journal → Tame Inv Node (gives id r s)
  tame_gives id (Ok v) s n f = f
  tame_gives id (Err e) s n f = inr n

  tame_variable : (id : ℕ) (o : Option Value) (s : St) → Node id → Inv s.next s.journal → Tame Inv Node (variable id o s)
  tame_variable id None s n f = inr n
  tame_variable id (Some v) s n f = f

  tame_self : (id : ℕ) (o : Option ClassId) (s : St) → Node id → Inv s.next s.journal → Tame Inv Node (self_value id o s)
  tame_self id None s n f = inr n
  tame_self id (Some c) s n f = f

  tame_printed : (id : ℕ) (text : List ℕ) (s : St) → Inv s.next s.journal → Tame Inv Node (printed id text s)
  tame_printed id text s f = tame_if (nat_le (length (s.output ++ print_line text)) OUTPUT_MAX) _ _ f (inl tt)

  tame_turns : (test body : St → Answer) → ((s : St) → Inv s.next s.journal → Tame Inv Node (test s)) → ((s : St) → Inv s.next s.journal → Tame Inv Node (body s)) → (n : ℕ) (s : St)
      → Inv s.next s.journal → Tame Inv Node (turns n test body s)
  unfolding turns
  tame_turns test body ht hb zero s f = tt
  tame_turns test body ht hb (suc n) s f = tame_then (test s) _ (ht s f) (λ v s f. tame_if (is_false v) _ _ f (tame_then (body s) _ (hb s f) (λ w s f. tame_turns test body ht hb n s f)))

  tame_loop : (test body : St → Answer) → ((s : St) → Inv s.next s.journal → Tame Inv Node (test s)) → ((s : St) → Inv s.next s.journal → Tame Inv Node (body s)) → (s : St) → Inv s.next s.journal
      → Tame Inv Node (loop test body s)
  unfolding loop
  tame_loop test body ht hb s f = tame_turns test body ht hb (suc s.fuel) s f

  tame_reads : (r : Ty) (m : Act → Option (Result Value Stop)) → ((a : Act) → FairAct r a (m a)) → (id : ℕ) (s : St) → Node id → Inv s.next s.journal → Tame Inv Node (reads m id s)
  unfolding reads FairAct
  tame_reads r m fair id s n f = go s.journal refl
    where
      one : (a : Act) (l : List Act) → s.journal ≡ a ∷ l → (o : Option (Result Value Stop)) → FairAct r a o → Tame Inv Node (meant id o (read_act a l s))
      one a l e None h = tt
      one a l e (Some x) h = tame_gives id x (read_act a l s) n (ok.reads a s.next l h.0 (subst (Inv s.next) e f))

      go : (l : List Act) → s.journal ≡ l → Tame Inv Node (next_act m id s l)
      go [] e = tt
      go (a ∷ l) e = one a l e (m a) (fair a)

  tame_keyed : (id : ℕ) (o : Option ℕ) (s : St) (go : ℕ → Answer) → ((key : ℕ) → Tame Inv Node (go key)) → Tame Inv Node (with_key names id o s go)
  tame_keyed id None s go h = tame_if (nat_eq (length names) NAMES_MAX) _ _ (inl tt) tt
  tame_keyed id (Some key) s go h = h key

  tame_define : (id : ℕ) (name : Name) (site : ℕ) (s : St) → Node id → Inv s.next s.journal → Tame Inv Node (define names id name site s)
  tame_define id name site s n f = tame_keyed id (place names name) s _ (λ key. tame_reads ty.Nil (define_meaning key site) (define_fair key site) id s n f)

  tame_declare : (id : ℕ) (asks : Bool) (name : Name) (site : ℕ) (s : St) → Node id → Inv s.next s.journal → Tame Inv Node (declare names id asks name site s)
  tame_declare id asks name site s n f = tame_keyed id (place names name) s _ (λ key. tame_reads (declaration_type asks) (declare_meaning asks key site) (declare_fair asks key site) id s n f)

  tame_named : (id : ℕ) (v : Value) (s : St) (go : List ℕ → Answer) → Node id → ((bytes : List ℕ) → Tame Inv Node (go bytes)) → Tame Inv Node (named id v s go)
  tame_named id (value.Str bytes) s go n k = tame_if (is_name bytes) _ _ (k bytes) (inr n)
  tame_named _ _ _ _ n _ = inr n

  mutual
    pub tame : (e : Tree) → ((n : ℕ) → IsNodeIn e n → Node n) → (s : St) → Inv s.next s.journal → Tame Inv Node (ev t names call e s)
    tame (TNil id) has s f = tame_begin id s _ f (λ s f. f)
    tame (TTrue id) has s f = tame_begin id s _ f (λ s f. f)
    tame (TFalse id) has s f = tame_begin id s _ f (λ s f. f)
    tame (TSelf id) has s f = tame_begin id s _ f (λ s f. tame_self id s.self s (has id refl) f)
    tame (TInt id i) has s f = tame_begin id s _ f (λ s f. f)
    tame (TText id x) has s f = tame_begin id s _ f (λ s f. f)
    tame (TVar id x) has s f = tame_begin id s _ f (λ s f. tame_variable id (value_at s.vars x) s (has id refl) f)
    tame (TNew id c) has s f = tame_begin id s _ f (λ s f. f)
    tame (TAssign id x e) has s f = tame_begin id s _ f (λ s f. tame_then _ _ (tame e (λ n h. has n (inr h)) s f) (λ v s f. f))
    tame (TPrint id e) has s f = tame_begin id s _ f (λ s f. tame_then _ _ (tame e (λ n h. has n (inr h)) s f) (λ v s f. tame_printed id (shown t v) s f))
    tame (TToStr id e) has s f = tame_begin id s _ f (λ s f. tame_then _ _ (tame e (λ n h. has n (inr h)) s f) (λ v s f. f))
    tame (TNot id e) has s f = tame_begin id s _ f (λ s f. tame_then _ _ (tame e (λ n h. has n (inr h)) s f) (λ v s f. f))
    tame (TBinary id o a b) has s f = tame_begin id s _ f (λ s f. tame_then _ _ (tame a (λ n h. has n (inr (inl h))) s f)
        (λ v s f. tame_then _ _ (tame b (λ n h. has n (inr (inr h))) s f) (λ w s f. tame_gives id (operate o v w) s (has id (inl refl)) f)))
    tame (TIf id c a b) has s f = tame_begin id s _ f (λ s f. tame_then _ _ (tame c (λ n h. has n (inr (inl h))) s f)
        (λ v s f. tame_if (is_false v) _ _ (tame b (λ n h. has n (inr (inr (inr h)))) s f) (tame a (λ n h. has n (inr (inr (inl h)))) s f)))
    tame (TWhile id c b) has s f = tame_begin id s _ f (λ s f. tame_loop _ _ (tame c (λ n h. has n (inr (inl h)))) (tame b (λ n h. has n (inr (inr h)))) s f)
    tame (TCall id r m args) has s f = tame_begin id s _ f (λ s f. tame_then _ _ (tame r (λ n h. has n (inr (inl h))) s f)
        (λ v s f. tame_args args (λ n h. has n (inr (inr h))) [] _ (λ us s f. ok.calls id v m us s (has id (inl refl)) f) s f))
    tame (TDef id c m site b) has s f = tame_begin id s _ f (λ s f. tame_define id (c, bytes_at t.names m) site s (has id refl) f)
    tame (TDefComputed id c e site b) has s f = tame_begin id s _ f
        (λ s f. tame_then _ _ (tame e (λ n h. has n (inr h)) s f) (λ v s f. tame_named id v s _ (has id (inl refl)) (λ bytes. tame_define id (c, bytes) site s (has id (inl refl)) f)))
    tame (TDeclare id c m site asks) has s f = tame_begin id s _ f (λ s f. tame_declare id asks (c, bytes_at t.names m) site s (has id refl) f)
    tame (TDeclareComputed id c e site asks) has s f = tame_begin id s _ f
        (λ s f. tame_then _ _ (tame e (λ n h. has n (inr h)) s f) (λ v s f. tame_named id v s _ (has id (inl refl)) (λ bytes. tame_declare id asks (c, bytes) site s (has id (inl refl)) f)))
    tame (TBlock id es) has s f = tame_items es has value.Nil s f

    tame_items : (es : Forest) → ((n : ℕ) → IsNodeAmong es n → Node n) → (v : Value) (s : St) → Inv s.next s.journal → Tame Inv Node (ev_items t names call es v s)
    tame_items NoTree has v s f = f
    tame_items (Trees e es) has v s f = tame_then _ _ (tame e (λ n h. has n (inl h)) s f) (λ w s f. tame_items es (λ n h. has n (inr h)) w s f)

    tame_args : (es : Forest) → ((n : ℕ) → IsNodeAmong es n → Node n) → (vs : List Value) (go : List Value → St → Answer)
        → ((us : List Value) (s : St) → Inv s.next s.journal → Tame Inv Node (go us s)) → (s : St) → Inv s.next s.journal → Tame Inv Node (ev_arguments t names call es vs go s)
    tame_args NoTree has vs go g s f = g vs s f
    tame_args (Trees e es) has vs go g s f = tame_then _ _ (tame e (λ n h. has n (inl h)) s f) (λ v s f. tame_args es (λ n h. has n (inr h)) (vs ++ v ∷ []) go g s f)

ends_tame : (Inv : Rest) (Node : ℕ → Type 0) (r : Ty) (vars : Bindings) (self : Option ClassId) (a : Answer) → Ends Inv r vars self a → Tame Inv Node a
ends_tame Inv Node r vars self Lost h = tt
ends_tame Inv Node r vars self (Done v s) h = h.3
ends_tame Inv Node r vars self (Halt e id s) h = inl h

module _ (t : Table) (names : List Name) (limit : ℕ) (log : List Entry) (c : ℕ) (legal : IsLegal limit log) (rows : HasCallRows t names log) (Node : ℕ → Type 0) where
  tame_call : (room id : ℕ) (r : Value) (m : ℕ) (vs : List Value) (s : St) → Node id → AreLive log c [] s.next s.journal → Tame (AreLive log c []) Node (call_in t names room id r m vs s)
  unfolding call_in
  tame_call zero id value.Nil m vs s n f = inr n
  tame_call (suc room) id (value.Object d) m vs s n f = call_ends t names limit log c legal rows room (within t names limit log c legal rows room) [] [] log f.0 id d m vs s refl f.1 f (Tame (AreLive log c []) Node)
      (record {
        lost = tt;
        halts = λ e u a. inl a;
        untyped = λ before at none u. inr n;
        refused = λ before at declared has none u. inr n;
        done = λ before at declared has a ends. ends_tame (AreLive log c []) Node declared.result s.vars s.self a ends;
      })
  tame_call _ _ _ _ _ _ n _ = inr n

  pub script_tame : (room : ℕ) (block : Tree) → ((n : ℕ) → IsNodeIn block n → Node n) → (s : St) → AreLive log c [] s.next s.journal → Tame (AreLive log c []) Node (ev t names (call_in t names room) block s)
  script_tame room block has s f = tame (AreLive log c []) Node t names (call_in t names room) (record { calls = tame_call room; reads = λ a next left. live_quiet log c [] a next left }) block has s f
