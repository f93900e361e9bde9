-- The receiver and the arguments of a call.
use Rattle.std.proofs.Common.{◌≡◌, ℕ, suc, ◌+◌, ◌<◌, ◌≤◌, List, [], ◌∷◌, ◌++◌, length, get_or, take, drop, Some, None, refl, sym, ap, ◌∙◌, arith, Vec, Global}
use Rattle.std.specs.{Prelude.reverse, Prelude.map, List.AllByRecursion}
use Rattle.std.proofs.{Common.zero, Math.Seq.drop-append_seam, Math.Seq.take-append_seam}
use Rattle.std.proofs.lemmas.List.{take-append-le, drop-append-le, length-drop}
use Rattle.hb_types.specs.declared.ids.NodeId.{NodeId}
use Rattle.hb_tree.specs.Table.{Table}
use Rattle.hb_tree.specs.TreeAt.{tree_at, forest_at, IsExprAt}
use Rattle.hb_tree.specs.Tree.{Tree, TCall, Forest, NoTree, Trees}
use Rattle.hb_names.specs.Names.{Name}
use Rattle.hb_tables.specs.declared.{entry.Entry.Entry, entry.Act.Act}
use Rattle.hb_eval.specs.declared.{state.Hand.Hand, value.Value.Value, cont.Cont.Cont, framed.Framed.Framed, state.State.State, state.Move.Move}
use Rattle.hb_eval.specs.declared.state.Hand.TheVariants as hands
use Rattle.hb_eval.specs.declared.cont.Cont.TheVariants as cont
use Rattle.hb_eval.specs.{State.St, State.then_do, Meaning.ev, Meaning.ev_arguments, Steps.arguments_in, Steps.forest_size, Stacks.frames_at, Entries.calling}
use Rattle.hb_eval.specs.Machine.{World, Frames, meaning, room, resume, st_of, trees_from, arguments_from}
use Rattle.hb_eval.specs.Turns.{Telling, world, with_value, with_operands, after, Goes, Reads, Turned}
use Rattle.hb_eval.proofs.{BlockLemmas.from_place, BlockLemmas.from_end, StackLemmas.reverse_drop, StackLemmas.reverse_take, TurnLemmas.reads_none}

-- a receiver that came is an operand
pub receiver_came : (t : Table) (id : NodeId) (frames : List Framed) (old mid : State) (ops : Vec Value Global) (a : Value) → ops.items ≡ old.operands.items ++ old.acc ∷ [] → mid ≡ record old { operands = ops; acc = a }
    → (names : List Name) (ks : List Cont) (read : List (ℕ × Act)) (journal : List Act)
    → with_value t (cont.Receiver id) frames old names ks read journal ≡ with_operands t (length old.operands.items) (λ w room vs s. arguments_from w room (tree_at t id.0) 0 vs s) frames mid names ks read journal
unfolding then_do
receiver_came t id frames old mid ops a pushed is names ks read journal =
    rw is (
    let n = length old.operands.items in
    let w : World = world t names in
    let fs : Frames = frames_at frames old in
    let s : St = st_of old read journal in
    let low : take n ops.items ≡ old.operands.items = ap (take n) pushed ∙ take-append_seam old.operands.items (old.acc ∷ []) in
    let high : drop n ops.items ≡ old.acc ∷ [] = ap (drop n) pushed ∙ drop-append_seam old.operands.items (old.acc ∷ []) in
    ap (λ l. resume w ks (reverse l) fs (arguments_from w (room fs) (tree_at t id.0) 0 (old.acc ∷ []) s)) (sym low)
    ∙ ap (λ l. resume w ks (reverse (take n ops.items)) fs (arguments_from w (room fs) (tree_at t id.0) 0 l s)) (sym high))

-- an argument that came is an operand behind those before
pub argument_came : (t : Table) (id : NodeId) (n at : ℕ) (frames : List Framed) (old mid : State) (ops : Vec Value Global) (a : Value) → at + suc n ≡ length old.operands.items
    → ops.items ≡ old.operands.items ++ old.acc ∷ [] → mid ≡ record old { operands = ops; acc = a }
    → (names : List Name) (ks : List Cont) (read : List (ℕ × Act)) (journal : List Act)
    → with_value t (cont.Arguments id n) frames old names ks read journal ≡ with_operands t at (λ w room vs s. arguments_from w room (tree_at t id.0) (suc n) vs s) frames mid names ks read journal
unfolding then_do
argument_came t id n at frames old mid ops a size pushed is names ks read journal =
    rw is (
    let old_ops = old.operands.items in
    let w : World = world t names in
    let fs : Frames = frames_at frames old in
    let s : St = st_of old read journal in
    let le : at ≤ length old_ops = omega (arith, size) in
    let low : take at ops.items ≡ take at old_ops = ap (take at) pushed ∙ take-append-le at old_ops (old.acc ∷ []) le in
    let high : drop at ops.items ≡ drop at old_ops ++ old.acc ∷ [] = ap (drop at) pushed ∙ drop-append-le at old_ops (old.acc ∷ []) le in
    ap (λ l. resume w ks l fs (arguments_from w (room fs) (tree_at t id.0) (suc n) (reverse (take (suc n) (reverse old_ops)) ++ old.acc ∷ []) s)) (sym (reverse_drop old_ops at (suc n) size) ∙ ap reverse (sym low))
    ∙ ap (λ l. resume w ks (reverse (take at ops.items)) fs (arguments_from w (room fs) (tree_at t id.0) (suc n) (l ++ old.acc ∷ []) s)) (reverse_take old_ops at (suc n) size)
    ∙ ap (λ l. resume w ks (reverse (take at ops.items)) fs (arguments_from w (room fs) (tree_at t id.0) (suc n) l s)) (sym high))

argument_next : (w : World) (room n id r m : ℕ) (e a : Tree) (args : Forest) (vs : List Value) (s : St) → e ≡ TCall id (tree_at w.program r) m args
    → trees_from n args ≡ Trees a (trees_from (suc n) args) → length vs ≡ suc n
    → arguments_from w room e n vs s ≡ then_do (ev w.program w.names (w.calls room) a s) (λ v s. arguments_from w room e (suc n) (vs ++ v ∷ []) s)
argument_next w room n id r m e a args [] s is here len = absurd (omega arith)
argument_next w room n id r m e a args (v ∷ vs) s is here len =
    rw is (ap (λ f. ev_arguments w.program w.names (w.calls room) f vs (λ us s. w.calls room id v m us s) s) here)

all_there : (w : World) (room n id r m : ℕ) (e : Tree) (args : Forest) (vs : List Value) (s : St) → e ≡ TCall id (tree_at w.program r) m args → trees_from n args ≡ NoTree → length vs ≡ suc n
    → arguments_from w room e n vs s ≡ calling w room id m vs s
all_there w room n id r m e args [] s is here len = absurd (omega arith)
all_there w room n id r m e args (v ∷ vs) s is here len =
    rw is (ap (λ f. ev_arguments w.program w.names (w.calls room) f vs (λ us s. w.calls room id v m us s) s) here)

size_at : (p : ℕ → Tree) (is : List NodeId) → forest_size (forest_at p is) ≡ length is
size_at p [] = refl
size_at p (i ∷ is) = ap suc (size_at p is)

pub argument_count : (t : Table) (id r m : ℕ) (ids : List NodeId) → tree_at t id ≡ TCall id (tree_at t r) m (forest_at (tree_at t) ids) → arguments_in (tree_at t id) ≡ length ids
argument_count t id r m ids tree = ap arguments_in tree ∙ size_at (tree_at t) ids

-- the next argument begins
pub argument_starts : (known : List Name) (t : Table) (c : ℕ) (log : List Entry) (id : NodeId) (n at r m : ℕ) (ids : List NodeId) (d a : NodeId) (frames : List Framed) (old new : State) (move : Move)
    → new ≡ record old { at = a } → move ≡ record { under = None; push = Some (cont.Arguments id n); hand = hands.Begins }
    → tree_at t id.0 ≡ TCall id.0 (tree_at t r) m (forest_at (tree_at t) ids) → n < length ids → a ≡ get_or ids n d → at + suc n ≡ length old.operands.items
    → Reads known c log log old new (with_operands t at (λ w room vs s. arguments_from w room (tree_at t id.0) n vs s) frames old) (after t move frames new)
argument_starts known t c log id n at r m ids d a frames old new move is mv tree lt read size =
    let F : Forest = forest_at (tree_at t) ids in
    let ops = old.operands.items in
    let here : trees_from n F ≡ Trees (tree_at t a.0) (trees_from (suc n) F) = from_place (tree_at t) ids n d lt ∙ ap (λ (i : NodeId). Trees (tree_at t i.0) (trees_from (suc n) F)) (sym read) in
    let len : length (drop at ops) ≡ suc n = omega (arith, length-drop at ops, size) in
    rw (is, mv) (reads_none known c log log old (record old { at = a }) _ _ refl (record { made = refl; decided = refl; own = refl; fresh = refl }) (λ names ks rd journal.
    let w : World = world t names in
    let fs : Frames = frames_at frames old in
    let s : St = st_of old rd journal in
    ap (resume w ks (reverse (take at ops)) fs) (argument_next w (room fs) n id.0 r m (tree_at t id.0) (tree_at t a.0) F (drop at ops) s tree here len)
    ∙ ap (λ l. resume w ks l fs (then_do (meaning w (room fs) a.0 s) (λ v s. arguments_from w (room fs) (tree_at t id.0) (suc n) (drop at ops ++ v ∷ []) s))) (reverse_drop ops at (suc n) size)
    ∙ ap (λ l. resume w ks (drop (suc n) (reverse ops)) fs (then_do (meaning w (room fs) a.0 s) (λ v s. arguments_from w (room fs) (tree_at t id.0) (suc n) (l ++ v ∷ []) s))) (sym (reverse_take ops at (suc n) size))))

-- all arguments are there
pub arguments_there : (t : Table) (id : NodeId) (n at r m : ℕ) (ids : List NodeId) (frames : List Framed) (old : State)
    → tree_at t id.0 ≡ TCall id.0 (tree_at t r) m (forest_at (tree_at t) ids) → length ids ≤ n → at + suc n ≡ length old.operands.items
    → (names : List Name) (ks : List Cont) (read : List (ℕ × Act)) (journal : List Act)
    → with_operands t at (λ w room vs s. arguments_from w room (tree_at t id.0) n vs s) frames old names ks read journal ≡ with_operands t at (λ w room vs s. calling w room id.0 m vs s) frames old names ks read journal
arguments_there t id n at r m ids frames old tree end size names ks read journal =
    let w : World = world t names in
    let fs : Frames = frames_at frames old in
    let ops = old.operands.items in
    let len : length (drop at ops) ≡ suc n = omega (arith, length-drop at ops, size) in
    ap (resume w ks (reverse (take at ops)) fs) (all_there w (room fs) n id.0 r m (tree_at t id.0) (forest_at (tree_at t) ids) (drop at ops) (st_of old read journal) tree (from_end (tree_at t) ids n end) len)

-- each argument is an expression
pub argument_expr : (t : Table) (ids : List NodeId) (n : ℕ) (d : NodeId) → AllByRecursion (IsExprAt t) (map (λ (i : NodeId). i.0) ids) → n < length ids → IsExprAt t (get_or ids n d).0
argument_expr t [] n d all lt = absurd (omega (arith, lt))
argument_expr t (i ∷ ids) zero d all lt = all.0
argument_expr t (i ∷ ids) (suc n) d all lt = argument_expr t ids n d all.1 (omega (arith, lt))

-- the same turn, as it is seen from a state before
pub turned_before : (t : Table) (known : List Name) (c : ℕ) (past now : List Entry) (taken more ended pending weight : ℕ) (frames : List Framed) (old mid : State) (new_frames : List Framed)
    (new : State) (first second : Telling) (was conts : List Cont) (result : Hand)
    → ((m : Move) → Reads known c past now mid new second (after t m new_frames new) → Reads known c past now old new first (after t m new_frames new))
    → ((m : Move) → Goes t taken ended pending frames mid new_frames new m → Goes t more ended pending frames old new_frames new m)
    → Turned t known c past now taken ended pending weight frames mid new_frames new second was conts result → Turned t known c past now more ended pending weight frames old new_frames new first was conts result
turned_before t known c past now taken more ended pending weight frames old mid new_frames new first second was conts result reads goes x =
    record { move = x.move; took = x.took; reads = reads x.move x.reads; goes = goes x.move x.goes; light = x.light }
