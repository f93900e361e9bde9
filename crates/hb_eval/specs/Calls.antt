-- What a call comes to, where its receiver and its arguments are there.
use Rattle.std.specs.Prelude.{ℕ, zero, suc, ◌+◌, ◌-◌, List, [], ◌∷◌, ◌++◌, length, map, take, Option, Some, None, Result, Ok, Err}
use Rattle.hb_types.specs.declared.ids.ClassId.{ClassId}
use Rattle.hb_tree.specs.declared.parts.Body.{Body}
use Rattle.hb_tree.specs.Table.{Table}
use Rattle.hb_tree.specs.TreeAt.{tree_at}
use Rattle.hb_tree.specs.Canon.{bytes_at}
use Rattle.hb_tree.specs.Nodes.{params_of}
use Rattle.hb_names.specs.Names.{Name}
use Rattle.hb_tables.specs.declared.entry.Act.{Act}
use Rattle.hb_tables.specs.declared.entry.Verdict.{Verdict}
use Rattle.hb_tables.specs.declared.entry.Verdict.TheVariants as verdict
use Rattle.hb_tables.specs.Standing.{Stand}
use Rattle.hb_tables.specs.Rows.{body_at}
use Rattle.hb_call.specs.Reading.{Read, Called, FullAt, Lost as NoCall, call_of, freed}
use Rattle.hb_eval.specs.declared.value.Value.{Value}
use Rattle.hb_eval.specs.declared.value.Value.TheVariants as value
use Rattle.hb_eval.specs.declared.stop.Stop.{Stop}
use Rattle.hb_eval.specs.declared.stop.Stop.TheVariants as stop
use Rattle.hb_eval.specs.Values.{kind_of}
use Rattle.hb_eval.specs.State.{Bindings, St, Answer, Lost, Done, Halt, tagged}
use Rattle.hb_eval.specs.Methods.{keyed}
use Rattle.hb_eval.specs.Meaning.{Calls, ev}

-- the class of the object on which a method is called
abbrev pub receiver : Value → Result ClassId Stop
receiver value.Nil = Err stop.NilValue
receiver (value.Object c) = Ok c
receiver _ = Err stop.BadOperand

abbrev pub received : ℕ → Result ClassId Stop → St → (ClassId → Answer) → Answer
received id (Err e) s go = Halt e id s
received id (Ok c) s go = go c

-- the acts of a journal that come before the rest of it
abbrev pub acts_before : List Act → List Act → List Act
acts_before rest journal = take (length journal - length rest) journal

-- the journal is read up to this rest
abbrev pub read_to : List Act → St → St
read_to rest s = record s { read = s.read ++ tagged s.begun (acts_before rest s.journal); journal = rest }

-- the next call has the next number
abbrev pub numbered : St → St
numbered s = record s { next = s.next + 1 }

-- the parameters at the arguments
abbrev pub bindings : List ℕ → List Value → Bindings
bindings [] vs = []
bindings (x ∷ xs) [] = []
bindings (x ∷ xs) (v ∷ vs) = (record { 0 = x }, v) ∷ bindings xs vs

abbrev pub read_frees : Option (List Act) → St → (St → Answer) → Answer
read_frees None s go = Lost
read_frees (Some rest) s go = go (read_to rest s)

-- A frame ends, with a value or a stop: the Frees of what its call holds are read, and the caller's variables and class are there again.
abbrev pub leave : (q : ℕ) → List Stand → Bindings → Option ClassId → Answer → Answer
leave q held vars self Lost = Lost
leave q held vars self (Done v s) = read_frees (freed q held s.journal) s (λ s. Done v (record s { vars = vars; self = self }))
leave q held vars self (Halt e id s) = read_frees (freed q held s.journal) s (λ s. Halt e id (record s { vars = vars; self = self }))

-- A body runs in a frame of its own: with self, its parameters, and no other variable.
abbrev pub run_body : (run : ℕ → St → Answer) → (q : ℕ) → ClassId → List Value → List Stand → Option Body → St → Answer
run_body run q c args held None s = Lost
run_body run q c args held (Some b) s = leave q held s.vars s.self (run b.block.0 (record s { vars = bindings (params_of b) args; self = Some c }))

-- what follows a verdict: the body, or a stop at the call
abbrev pub decided : ℕ → (body : St → Answer) → Verdict → St → Answer
decided id body (verdict.Enter way) s = body s
decided id body verdict.NoBody s = Halt stop.NoBody id s
decided id body verdict.NoType s = Halt stop.NoType id s
decided id body verdict.BadArgs s = Halt stop.BadArgs id s
decided id body (verdict.IllTyped ill) s = Halt (stop.IllTyped ill) id s

-- what follows the acts of a call
abbrev pub called : Table → (run : ℕ → St → Answer) → ℕ → ClassId → List Value → Read → St → Answer
called t run id c args NoCall s = Lost
called t run id c args (FullAt rest) s = Halt stop.Full id (numbered (read_to rest s))
called t run id c args (Called site v held rest) s =
    decided id (run_body run s.next c args held (body_at t site)) v (numbered (read_to rest s))

-- what a call does where there is room for so many more frames
unfoldable pub call_in : Table → List Name → (room : ℕ) → Calls
call_in t names zero id r m args s = received id (receiver r) s (λ c. Halt stop.Deep id s)
call_in t names (suc room) id r m args s = received id (receiver r) s (λ c.
    keyed names id (c.0, bytes_at t.names m) s (λ key.
    called t (λ block s. ev t names (call_in t names room) (tree_at t block) s) id c args (call_of t s.next key (map kind_of args) s.journal) s))
