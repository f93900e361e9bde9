-- A call gives no fuel back.
use Rattle.std.proofs.Common.{ℕ, zero, suc, ◌<◌, List, Option, Some, None, map}
use Rattle.std.specs.Prelude.{Result, Ok, Err}
use Rattle.hb_types.specs.declared.ids.ClassId.{ClassId}
use Rattle.hb_tree.specs.declared.parts.Body.{Body}
use Rattle.hb_tree.specs.Table.{Table}
use Rattle.hb_tree.specs.TreeAt.{tree_at}
use Rattle.hb_tree.specs.Canon.{bytes_at}
use Rattle.hb_tree.specs.Nodes.{params_of}
use Rattle.hb_names.specs.Names.{Name, place}
use Rattle.hb_tables.specs.declared.entry.Act.{Act}
use Rattle.hb_tables.specs.declared.entry.Verdict.{Verdict}
use Rattle.hb_tables.specs.declared.entry.Verdict.TheVariants as verdict
use Rattle.hb_tables.specs.Standing.{Stand}
use Rattle.hb_tables.specs.Rows.{body_at}
use Rattle.hb_call.specs.Reading.{Read, Called, FullAt, Lost as NoCall, call_of, freed}
use Rattle.hb_eval.specs.declared.value.Value.{Value}
use Rattle.hb_eval.specs.declared.stop.Stop.{Stop}
use Rattle.hb_eval.specs.Values.{kind_of}
use Rattle.hb_eval.specs.State.{Bindings, St, Answer, Lost, Done, Halt}
use Rattle.hb_eval.specs.Meaning.{ev}
use Rattle.hb_eval.specs.Calls.{receiver, received, bindings, read_to, numbered, read_frees, leave, run_body, decided, called, call_in}
use Rattle.hb_eval.specs.Fuel.{LeavesBelow, KeepsFuel}
use Rattle.hb_eval.proofs.FuelLemmas.{leaves_keyed, leaves_tree}

leaves_received : (n id : ℕ) (r : Result ClassId Stop) (s : St) (go : ClassId → Answer) → ((c : ClassId) → LeavesBelow n (go c)) → LeavesBelow n (received id r s go)
leaves_received n id (Err e) s go k = tt
leaves_received n id (Ok c) s go k = k c

leaves_frees : (n : ℕ) (o : Option (List Act)) (s : St) (go : St → Answer) → ((rest : List Act) → LeavesBelow n (go (read_to rest s))) → LeavesBelow n (read_frees o s go)
leaves_frees n None s go k = tt
leaves_frees n (Some rest) s go k = k rest

leaves_leave : (n q : ℕ) (held : List Stand) (vars : Bindings) (self : Option ClassId) (a : Answer) → LeavesBelow n a → LeavesBelow n (leave q held vars self a)
leaves_leave n q held vars self Lost h = tt
leaves_leave n q held vars self (Done v s) h = leaves_frees n (freed q held s.journal) s _ (λ rest. h)
leaves_leave n q held vars self (Halt e id s) h = leaves_frees n (freed q held s.journal) s _ (λ rest. tt)

leaves_body : (n : ℕ) (run : ℕ → St → Answer) → ((block : ℕ) (s : St) → s.fuel < n → LeavesBelow n (run block s)) → (q : ℕ) (c : ClassId) (args : List Value) (held : List Stand) (b : Option Body) (s : St) → s.fuel < n → LeavesBelow n (run_body run q c args held b s)
leaves_body n run k q c args held None s h = tt
leaves_body n run k q c args held (Some b) s h = leaves_leave n q held s.vars s.self _ (k b.block.0 (record s { vars = bindings (params_of b) args; self = Some c }) h)

leaves_decided : (n id : ℕ) (body : St → Answer) (v : Verdict) (s : St) → LeavesBelow n (body s) → LeavesBelow n (decided id body v s)
leaves_decided n id body (verdict.Enter way) s h = h
leaves_decided _ _ _ _ _ _ = tt

leaves_called : (n : ℕ) (t : Table) (run : ℕ → St → Answer) → ((block : ℕ) (s : St) → s.fuel < n → LeavesBelow n (run block s)) → (id : ℕ) (c : ClassId) (args : List Value) (r : Read) (s : St) → s.fuel < n → LeavesBelow n (called t run id c args r s)
leaves_called n t run k id c args NoCall s h = tt
leaves_called n t run k id c args (FullAt rest) s h = tt
leaves_called n t run k id c args (Called site v held rest) s h =
    leaves_decided n id (run_body run s.next c args held (body_at t site)) v (numbered (read_to rest s))
    (leaves_body n run k s.next c args held (body_at t site) (numbered (read_to rest s)) h)

-- whatever room for frames there is
pub calls_keep : (t : Table) (names : List Name) (room : ℕ) → KeepsFuel (call_in t names room)
unfolding call_in
calls_keep t names zero id r m vs n s h = leaves_received n id (receiver r) s _ (λ c. tt)
calls_keep t names (suc room) id r m vs n s h =
    leaves_received n id (receiver r) s _ (λ c.
    leaves_keyed n id names (place names (c.0, bytes_at t.names m)) s _ (λ key.
    leaves_called n t (λ block s. ev t names (call_in t names room) (tree_at t block) s) (λ block s l. leaves_tree t names (call_in t names room) (calls_keep t names room) (tree_at t block) n s l) id c vs (call_of t s.next key (map kind_of vs) s.journal) s h))
