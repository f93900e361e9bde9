-- Fuel falls at each expression, so a loop has turns enough.
use Rattle.std.proofs.Common.{◌≡◌, ℕ, zero, suc, ◌+◌, ◌-◌, ◌<◌, ◌≤◌, ◌≢◌, List, [], ◌∷◌, ◌++◌, length, Option, Some, None, Bool, true, false, refl, ap, arith, nat_eq, nat_le, ⊎_elim}
use Rattle.std.specs.Prelude.{if◌then◌else◌, Result, Ok, Err}
use Rattle.std.proofs.{lemmas.Bool.eqb-false, lemmas.Bool.Decides.eqb_tells}
use Rattle.hb_types.specs.declared.ids.ClassId.{ClassId}
use Rattle.hb_tree.specs.{Table.Table, Canon.bytes_at}
use Rattle.hb_tree.specs.Tree.{Tree, TNil, TTrue, TFalse, TSelf, TInt, TText, TVar, TNew, TAssign, TPrint, TToStr, TNot, TBinary, TIf, TWhile, TCall, TDef, TDefComputed}
use Rattle.hb_tree.specs.Tree.{TDeclare, TDeclareComputed, TBlock, Forest, NoTree, Trees, IsExpr, id_of}
use Rattle.hb_names.specs.declared.names.TheConstants.{NAMES_MAX}
use Rattle.hb_names.specs.Names.{Name, place}
use Rattle.hb_tables.specs.declared.entry.Act.{Act}
use Rattle.hb_eval.specs.declared.{printed.TheConstants.OUTPUT_MAX, value.Value.Value, stop.Stop.Stop}
use Rattle.hb_eval.specs.declared.value.Value.TheVariants as value
use Rattle.hb_eval.specs.declared.stop.Stop.TheVariants as stop
use Rattle.hb_eval.specs.{Values.is_false, Printing.print_line, Printing.shown, Operators.operate, Fuel.LeavesBelow, Fuel.KeepsFuel}
use Rattle.hb_eval.specs.State.{St, Answer, Lost, Done, Halt, then_do, gives, begin, value_at, meant, next_act, read_act, reads}
use Rattle.hb_eval.specs.Methods.{named, is_name, with_key, define_meaning, declare_meaning, define, declare}
use Rattle.hb_eval.specs.Meaning.{Calls, variable, self_value, printed, choose, turns, loop, ev, ev_items, ev_arguments}

leaves_then : (m n : ℕ) (a : Answer) (go : Value → St → Answer) → LeavesBelow m a → ((v : Value) (s : St) → s.fuel < m → LeavesBelow n (go v s)) → LeavesBelow n (then_do a go)
unfolding then_do
leaves_then m n Lost go h k = tt
leaves_then m n (Done v s) go h k = k v s h
leaves_then m n (Halt e id s) go h k = tt

-- two ways on that are alike where less fuel is left
then_alike : (m : ℕ) (a : Answer) (f g : Value → St → Answer) → LeavesBelow m a → ((v : Value) (s : St) → s.fuel < m → f v s ≡ g v s) → then_do a f ≡ then_do a g
unfolding then_do
then_alike m Lost f g h k = refl
then_alike m (Done v s) f g h k = k v s h
then_alike m (Halt e id s) f g h k = refl

leaves_if : (n : ℕ) (b : Bool) (x y : Answer) → LeavesBelow n x → LeavesBelow n y → LeavesBelow n (if b then x else y)
leaves_if n true x y h k = h
leaves_if n false x y h k = k

leaves_begin : (n id : ℕ) (s : St) (go : St → Answer) → s.fuel ≤ n → ((s : St) → s.fuel < n → LeavesBelow n (go s)) → LeavesBelow n (begin id s go)
unfolding begin
leaves_begin n id s go h k = cases (nat_eq s.fuel 0) refl
  where
    cases : (b : Bool) → nat_eq s.fuel 0 ≡ b → LeavesBelow n (if b then Halt stop.Steps id (record s { begun = s.begun + 1 }) else go (record s { begun = s.begun + 1; fuel = s.fuel - 1 }))
    cases true e = tt
    cases false e = k _ (let ne : s.fuel ≢ 0 = eqb-false s.fuel 0 e in omega arith)

-- the ways of a choice are alike
chosen_alike : (v : Value) (x y z : Answer) → x ≡ y → choose v x z ≡ choose v y z
chosen_alike v x y z e = ap (λ a. choose v a z) e

-- where a test takes fuel and a body gives none back, the number of turns does not count once it is enough
turns_enough : (test body : St → Answer) → ((n : ℕ) (s : St) → s.fuel ≤ n → LeavesBelow n (test s)) → ((n : ℕ) (s : St) → s.fuel < n → LeavesBelow n (body s)) → (m n : ℕ) (s : St) → s.fuel < m
    → s.fuel < n → turns m test body s ≡ turns n test body s
unfolding turns
turns_enough test body ht hb zero n s h k = absurd (omega arith)
turns_enough test body ht hb (suc m) zero s h k = absurd (omega arith)
turns_enough test body ht hb (suc m) (suc n) s h k =
    then_alike s.fuel (test s) _ _ (ht s.fuel s (omega arith)) (λ v u l.
    chosen_alike v _ _ _ (then_alike s.fuel (body u) _ _ (hb s.fuel u l) (λ w x p. turns_enough test body ht hb m n x (omega arith) (omega arith))))

-- one turn of a loop, and the loop again
pub loop_step : (test body : St → Answer) → ((n : ℕ) (s : St) → s.fuel ≤ n → LeavesBelow n (test s)) → ((n : ℕ) (s : St) → s.fuel < n → LeavesBelow n (body s)) → (s : St)
    → loop test body s ≡ then_do (test s) (λ v u. choose v (then_do (body u) (λ w x. loop test body x)) (Done value.Nil u))
unfolding turns loop
loop_step test body ht hb s =
    then_alike s.fuel (test s) _ _ (ht s.fuel s (omega arith)) (λ v u l.
    chosen_alike v _ _ _ (then_alike s.fuel (body u) _ _ (hb s.fuel u l) (λ w x p. turns_enough test body ht hb s.fuel (suc x.fuel) x p (omega arith))))

-- a loop gives no fuel back
leaves_turns : (test body : St → Answer) → ((n : ℕ) (s : St) → s.fuel < n → LeavesBelow n (test s)) → ((n : ℕ) (s : St) → s.fuel < n → LeavesBelow n (body s)) → (m n : ℕ) (s : St) → s.fuel < n
    → LeavesBelow n (turns m test body s)
unfolding turns
leaves_turns test body ht hb zero n s h = tt
leaves_turns test body ht hb (suc m) n s h =
    leaves_then n n (test s) _ (ht n s h) (λ v u l.
    leaves_if n (is_false v) _ _ l (leaves_then n n (body u) _ (hb n u l) (λ w x p. leaves_turns test body ht hb m n x p)))

leaves_loop : (test body : St → Answer) → ((n : ℕ) (s : St) → s.fuel < n → LeavesBelow n (test s)) → ((n : ℕ) (s : St) → s.fuel < n → LeavesBelow n (body s)) → (n : ℕ) (s : St) → s.fuel < n
    → LeavesBelow n (loop test body s)
unfolding loop
leaves_loop test body ht hb n s h = leaves_turns test body ht hb (suc s.fuel) n s h

leaves_gives : (n id : ℕ) (r : Result Value Stop) (s : St) → s.fuel < n → LeavesBelow n (gives id r s)
leaves_gives n id (Ok v) s h = h
leaves_gives n id (Err e) s h = tt

leaves_variable : (n id : ℕ) (o : Option Value) (s : St) → s.fuel < n → LeavesBelow n (variable id o s)
leaves_variable n id None s h = tt
leaves_variable n id (Some v) s h = h

leaves_self : (n id : ℕ) (o : Option ClassId) (s : St) → s.fuel < n → LeavesBelow n (self_value id o s)
leaves_self n id None s h = tt
leaves_self n id (Some c) s h = h

leaves_printed : (n id : ℕ) (text : List ℕ) (s : St) → s.fuel < n → LeavesBelow n (printed id text s)
leaves_printed n id text s h = leaves_if n (nat_le (length (s.output ++ print_line text)) OUTPUT_MAX) _ _ h tt

leaves_meant : (n id : ℕ) (o : Option (Result Value Stop)) (s : St) → s.fuel < n → LeavesBelow n (meant id o s)
leaves_meant n id None s h = tt
leaves_meant n id (Some r) s h = leaves_gives n id r s h

-- reading an act takes nothing
leaves_next : (n id : ℕ) (m : Act → Option (Result Value Stop)) (s : St) (es : List Act) → s.fuel < n → LeavesBelow n (next_act m id s es)
leaves_next n id m s [] h = tt
leaves_next n id m s (e ∷ es) h = leaves_meant n id (m e) (read_act e es s) h

leaves_reads : (n id : ℕ) (m : Act → Option (Result Value Stop)) (s : St) → s.fuel < n → LeavesBelow n (reads m id s)
unfolding reads
leaves_reads n id m s h = leaves_next n id m s s.journal h

pub leaves_keyed : (n id : ℕ) (names : List Name) (o : Option ℕ) (s : St) (go : ℕ → Answer) → ((key : ℕ) → LeavesBelow n (go key)) → LeavesBelow n (with_key names id o s go)
leaves_keyed n id names None s go k = leaves_if n (nat_eq (length names) NAMES_MAX) _ _ tt tt
leaves_keyed n id names (Some key) s go k = k key

leaves_define : (n id : ℕ) (names : List Name) (name : Name) (site : ℕ) (s : St) → s.fuel < n → LeavesBelow n (define names id name site s)
leaves_define n id names name site s h = leaves_keyed n id names (place names name) s _ (λ key. leaves_reads n id (define_meaning key site) s h)

leaves_declare : (n id : ℕ) (names : List Name) (asks : Bool) (name : Name) (site : ℕ) (s : St) → s.fuel < n → LeavesBelow n (declare names id asks name site s)
leaves_declare n id names asks name site s h = leaves_keyed n id names (place names name) s _ (λ key. leaves_reads n id (declare_meaning asks key site) s h)

leaves_named : (n id : ℕ) (v : Value) (s : St) (go : List ℕ → Answer) → ((bytes : List ℕ) → LeavesBelow n (go bytes)) → LeavesBelow n (named id v s go)
leaves_named n id (value.Str bytes) s go k = leaves_if n (is_name bytes) _ _ (k bytes) tt
leaves_named _ _ _ _ _ _ = tt

-- an expression takes fuel, and a block gives none back
abbrev Spare : Tree → ℕ → ℕ → Type 0
Spare (TBlock id es) f n = f < n
Spare _ f n = f ≤ n

spare_less : (e : Tree) (f n : ℕ) → f < n → Spare e f n
spare_less (TBlock id es) f n h = h
spare_less _ f n h = omega arith

spare_expr : (e : Tree) → IsExpr e → (f n : ℕ) → f ≤ n → Spare e f n
spare_expr (TBlock id es) x f n h = absurd x
spare_expr _ x f n h = h

mutual
  leaves_ev : (t : Table) (names : List Name) (call : Calls) → KeepsFuel call → (e : Tree) (n : ℕ) (s : St) → Spare e s.fuel n → LeavesBelow n (ev t names call e s)
  leaves_ev t ns call ok (TNil id) n s h = leaves_begin n id s _ h (λ s l. l)
  leaves_ev t ns call ok (TTrue id) n s h = leaves_begin n id s _ h (λ s l. l)
  leaves_ev t ns call ok (TFalse id) n s h = leaves_begin n id s _ h (λ s l. l)
  leaves_ev t ns call ok (TSelf id) n s h = leaves_begin n id s _ h (λ s l. leaves_self n id s.self s l)
  leaves_ev t ns call ok (TInt id k) n s h = leaves_begin n id s _ h (λ s l. l)
  leaves_ev t ns call ok (TText id x) n s h = leaves_begin n id s _ h (λ s l. l)
  leaves_ev t ns call ok (TVar id y) n s h = leaves_begin n id s _ h (λ s l. leaves_variable n id (value_at s.vars y) s l)
  leaves_ev t ns call ok (TNew id c) n s h = leaves_begin n id s _ h (λ s l. l)
  leaves_ev t ns call ok (TAssign id y e) n s h = leaves_begin n id s _ h (λ s l. leaves_then n n _ _ (leaves_ev t ns call ok e n s (spare_less e _ _ l)) (λ v s l. l))
  leaves_ev t ns call ok (TPrint id e) n s h = leaves_begin n id s _ h (λ s l. leaves_then n n _ _ (leaves_ev t ns call ok e n s (spare_less e _ _ l)) (λ v s l. leaves_printed n id (shown t v) s l))
  leaves_ev t ns call ok (TToStr id e) n s h = leaves_begin n id s _ h (λ s l. leaves_then n n _ _ (leaves_ev t ns call ok e n s (spare_less e _ _ l)) (λ v s l. l))
  leaves_ev t ns call ok (TNot id e) n s h = leaves_begin n id s _ h (λ s l. leaves_then n n _ _ (leaves_ev t ns call ok e n s (spare_less e _ _ l)) (λ v s l. l))
  leaves_ev t ns call ok (TBinary id o a b) n s h = leaves_begin n id s _ h
      (λ s l. leaves_then n n _ _ (leaves_ev t ns call ok a n s (spare_less a _ _ l))
      (λ v s l. leaves_then n n _ _ (leaves_ev t ns call ok b n s (spare_less b _ _ l)) (λ w s l. leaves_gives n id (operate o v w) s l)))
  leaves_ev t ns call ok (TIf id c a b) n s h = leaves_begin n id s _ h
      (λ s l. leaves_then n n _ _ (leaves_ev t ns call ok c n s (spare_less c _ _ l))
      (λ v s l. leaves_if n (is_false v) _ _ (leaves_ev t ns call ok b n s (spare_less b _ _ l)) (leaves_ev t ns call ok a n s (spare_less a _ _ l))))
  leaves_ev t ns call ok (TWhile id c b) n s h = leaves_begin n id s _ h
      (λ s l. leaves_loop (ev t ns call c) (ev t ns call b) (λ n s l. leaves_ev t ns call ok c n s (spare_less c _ _ l)) (λ n s l. leaves_ev t ns call ok b n s (spare_less b _ _ l)) n s l)
  leaves_ev t ns call ok (TCall id r m args) n s h = leaves_begin n id s _ h
      (λ s l. leaves_then n n _ _ (leaves_ev t ns call ok r n s (spare_less r _ _ l)) (λ v s l. leaves_arguments t ns call ok args [] _ (λ vs s n l. ok id v m vs n s l) n s l))
  leaves_ev t ns call ok (TDef id c m site b) n s h = leaves_begin n id s _ h (λ s l. leaves_define n id ns (c, bytes_at t.names m) site s l)
  leaves_ev t ns call ok (TDefComputed id c e site b) n s h = leaves_begin n id s _ h
      (λ s l. leaves_then n n _ _ (leaves_ev t ns call ok e n s (spare_less e _ _ l)) (λ v s l. leaves_named n id v s _ (λ bytes. leaves_define n id ns (c, bytes) site s l)))
  leaves_ev t ns call ok (TDeclare id c m site asks) n s h = leaves_begin n id s _ h (λ s l. leaves_declare n id ns asks (c, bytes_at t.names m) site s l)
  leaves_ev t ns call ok (TDeclareComputed id c e site asks) n s h = leaves_begin n id s _ h
      (λ s l. leaves_then n n _ _ (leaves_ev t ns call ok e n s (spare_less e _ _ l)) (λ v s l. leaves_named n id v s _ (λ bytes. leaves_declare n id ns asks (c, bytes) site s l)))
  leaves_ev t ns call ok (TBlock id es) n s h = leaves_items t ns call ok es value.Nil n s h

  leaves_items : (t : Table) (names : List Name) (call : Calls) → KeepsFuel call → (es : Forest) (v : Value) (n : ℕ) (s : St) → s.fuel < n → LeavesBelow n (ev_items t names call es v s)
  leaves_items t ns call ok NoTree v n s h = h
  leaves_items t ns call ok (Trees e es) v n s h = leaves_then n n _ _ (leaves_ev t ns call ok e n s (spare_less e _ _ h)) (λ w s l. leaves_items t ns call ok es w n s l)

  leaves_arguments : (t : Table) (names : List Name) (call : Calls) → KeepsFuel call → (es : Forest) (vs : List Value) (go : List Value → St → Answer)
      → ((vs : List Value) (s : St) (n : ℕ) → s.fuel < n → LeavesBelow n (go vs s)) → (n : ℕ) (s : St) → s.fuel < n → LeavesBelow n (ev_arguments t names call es vs go s)
  leaves_arguments t ns call ok NoTree vs go k n s h = k vs s n h
  leaves_arguments t ns call ok (Trees e es) vs go k n s h = leaves_then n n _ _ (leaves_ev t ns call ok e n s (spare_less e _ _ h)) (λ v s l. leaves_arguments t ns call ok es _ go k n s l)

-- an expression takes fuel
pub leaves_expr : (t : Table) (names : List Name) (call : Calls) → KeepsFuel call → (e : Tree) → IsExpr e → (n : ℕ) (s : St) → s.fuel ≤ n → LeavesBelow n (ev t names call e s)
leaves_expr t names call ok e x n s h = leaves_ev t names call ok e n s (spare_expr e x _ _ h)

-- and nothing gives any back
pub leaves_tree : (t : Table) (names : List Name) (call : Calls) → KeepsFuel call → (e : Tree) (n : ℕ) (s : St) → s.fuel < n → LeavesBelow n (ev t names call e s)
leaves_tree t names call ok e n s h = leaves_ev t names call ok e n s (spare_less e _ _ h)

-- where no fuel is left, an expression stops at once
pub starved : (t : Table) (names : List Name) (call : Calls) (e : Tree) (s : St) → IsExpr e → nat_eq s.fuel 0 ≡ true → ev t names call e s ≡ Halt stop.Steps (id_of e) (record s { begun = s.begun + 1 })
unfolding begin
starved t ns call (TBlock id es) s x h = absurd x
starved _ _ _ _ _ _ h = rw h refl

differ : (a b : ℕ) → (a ≡ b → ⊥) → nat_eq a b ≡ false
differ a b h = ⊎_elim (λ p. absurd (h p.1)) (λ p. p.0) (eqb_tells a b)

-- an expression that has fuel goes on
pub begin_goes : (id : ℕ) (s : St) (go : St → Answer) → s.fuel ≢ 0 → begin id s go ≡ go (record s { begun = s.begun + 1; fuel = s.fuel - 1 })
unfolding begin
begin_goes id s go h = rw (differ s.fuel 0 h) refl
