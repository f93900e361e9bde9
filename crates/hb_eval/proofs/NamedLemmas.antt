-- A `def` or a `type` that goes on.
use Rattle.std.proofs.Common.{◌≡◌, ◌<◌, ℕ, List, [], length, Option, Some, None, refl, sym, ap, ◌∙◌, ◌++◌, append-nil}
use Rattle.std.specs.Prelude.{reverse, slice_get, IsSomeAnd, Bool, Result, IfOk}
use Rattle.std.specs.declared.alloc.AllocError.{AllocError}
use Rattle.std.proofs.{lemmas.Result.IfOk-weaker, lemmas.Option.slice_get_within}
use Rattle.hb_types.specs.declared.{ids.NodeId.NodeId, ids.ClassId.ClassId, ids.NameId.NameId, ids.BodySite.BodySite, ids.TypeSite.TypeSite}
use Rattle.hb_tree.specs.declared.node.Node.TheVariants as node
use Rattle.hb_tree.specs.declared.node.Method.{Method}
use Rattle.hb_tree.specs.declared.node.Method.TheVariants as method
use Rattle.hb_tree.specs.{Canon.bytes_at, TreeAt.tree_at, TreeAt.tree_of, Table.Table}
use Rattle.hb_tree.specs.Tree.{Tree, TDefComputed, TDeclareComputed, id_of}
use Rattle.hb_names.specs.Names.{Name}
use Rattle.hb_tables.specs.declared.entry.Entry.{Entry}
use Rattle.hb_tables.specs.Frames.{acts}
use Rattle.hb_eval.specs.declared.state.Hand.TheVariants as hands
use Rattle.hb_eval.specs.declared.{value.Value.Value, stop.Stop.Stop, state.State.State, state.Move.Move}
use Rattle.hb_eval.specs.State.{St, Answer, Halt}
use Rattle.hb_eval.specs.{Methods.define, Methods.declare, Steps.IsComputed, Steps.Keeps, Tables.ActsOn, Naming.StopsNamed}
use Rattle.hb_eval.specs.Machine.{World, resume, st_of, method_named}

-- what keeps does so from a state with the same operands and variables
pub keeps_from : (t : Table) (old mid new : State) (move : Move) → mid.operands ≡ old.operands → mid.vars ≡ old.vars → mid.base ≡ old.base → Keeps t None mid new move → Keeps t None old new move
keeps_from t old mid new move operands vars base k = record {
  under = k.under;
  push = k.push;
  step = k.step;
  light = k.light;
  operands = rw (sym operands) k.operands;
  base = k.base ∙ base;
  below = rw (sym vars, sym base) k.below;
  size = rw (sym vars) k.size;
}

-- what acts on a run acts on what has the same meaning
acts_same : (known : List Name) (c : ℕ) (was now : List Entry) (told telling : World → St → Answer) (old new : State) (move : Move)
    → ((w : World) (s : St) → told w s ≡ telling w s) → ActsOn known c was now telling old new move → ActsOn known c was now told old new move
acts_same known c was now told telling old new move is a = record {
  more = a.more;
  grows = a.grows;
  apart = a.apart;
  same = λ w prefix few ks fs read journal.
      ap (resume w ks (reverse old.operands.items) fs) (is w (st_of old read (a.more ++ journal)))
      ∙ a.same w prefix few ks fs read journal;
}

-- a `def` with a plain name
pub defined_on : (known : List Name) (c : ℕ) (was now : List Entry) (t : Table) (id : ℕ) (m : Method) (class : ClassId) (name : NameId) (site at : BodySite) (bytes : List ℕ) (v : Value)
    (old new : State) (r : Result Move AllocError)
    → tree_at t id ≡ tree_of t (tree_at t) id (node.Def m site) → m ≡ method.Named class name → bytes_at t.names name.0 ≡ bytes → at ≡ site
    → IfOk r (ActsOn known c was now (λ w s. define w.names id (class.0, bytes) at.0 s) old new) → IfOk r (ActsOn known c was now (λ w s. method_named (record w { program = t }) (tree_at t id) v s) old new)
defined_on known c was now t id m class name site at bytes v old new r tree plain named same acts =
    IfOk-weaker r _ _ (λ move a. acts_same known c was now _ _ old new move (λ w s.
    ap (λ e. method_named (record w { program = t }) e v s) (tree ∙ ap (λ m. tree_of t (tree_at t) id (node.Def m site)) plain)
    ∙ ap (λ b. define w.names id (class.0, b) site.0 s) named
    ∙ ap (λ n. define w.names id (class.0, bytes) n.0 s) (sym same)) a) acts

-- a `type` with a plain name
pub declared_on : (known : List Name) (c : ℕ) (was now : List Entry) (t : Table) (id : ℕ) (m : Method) (class : ClassId) (name : NameId) (site at : TypeSite) (asks : Bool) (bytes : List ℕ)
    (v : Value) (old new : State) (r : Result Move AllocError)
    → tree_at t id ≡ tree_of t (tree_at t) id (node.Declare m site asks) → m ≡ method.Named class name → bytes_at t.names name.0 ≡ bytes → at ≡ site
    → IfOk r (ActsOn known c was now (λ w s. declare w.names id asks (class.0, bytes) at.0 s) old new) → IfOk r (ActsOn known c was now (λ w s. method_named (record w { program = t }) (tree_at t id) v s) old new)
declared_on known c was now t id m class name site at asks bytes v old new r tree plain named same acts =
    IfOk-weaker r _ _ (λ move a. acts_same known c was now _ _ old new move (λ w s.
    ap (λ e. method_named (record w { program = t }) e v s) (tree ∙ ap (λ m. tree_of t (tree_at t) id (node.Declare m site asks)) plain)
    ∙ ap (λ b. declare w.names id asks (class.0, b) site.0 s) named
    ∙ ap (λ n. declare w.names id asks (class.0, bytes) n.0 s) (sym same)) a) acts

stop_named : (w : World) (e : Tree) (id : ℕ) (v : Value) (halt : Stop) (s : St) → IsComputed e → id_of e ≡ id → StopsNamed v halt → method_named w e v s ≡ Halt halt id s
stop_named w (TDefComputed i c e site b) id v halt s is at stops = stops i s _ ∙ ap (λ n. Halt halt n s) at
stop_named w (TDeclareComputed i c e site asks) id v halt s is at stops = stops i s _ ∙ ap (λ n. Halt halt n s) at
stop_named w _ id v halt s is at stops = absurd is

-- a computed name that is none
pub unnamed_on : (known : List Name) (c : ℕ) (log : List Entry) (t : Table) (id : NodeId) (e : Tree) (v : Value) (halt : Stop) (old mid new : State) (move : Move)
    → IsComputed e → id_of e ≡ id.0 → StopsNamed v halt → old.acc ≡ v → mid ≡ record old { acc = mid.acc } → new ≡ record mid { stop = halt; at = id } → move ≡ record { under = None; push = None; hand = hands.Stops }
    → ActsOn known c log log (λ w s. method_named (record w { program = t }) e old.acc s) old new move
unnamed_on known c log t id e v halt old mid new move is at stops value first after mv =
    go mid.acc (after ∙ ap (λ (x : State). record x { stop = halt; at = id }) first)
  where
    go : (a : Value) → new ≡ record old { acc = a; stop = halt; at = id } → ActsOn known c log log (λ w s. method_named (record w { program = t }) e old.acc s) old new move
    go a after =
        rw (after, mv) (record {
          more = [];
          grows = sym (append-nil (acts c log));
          apart = tt;
          same = λ w prefix few ks fs read journal.
              ap (resume w ks (reverse old.operands.items) fs)
              (ap (λ x. method_named (record w { program = t }) e x (st_of old read journal)) value ∙ stop_named (record w { program = t }) e id.0 v halt (st_of old read journal) is at stops)
              ∙ ap (λ q. resume w ks (reverse old.operands.items) fs (Halt halt id.0 (st_of old q journal))) (sym (append-nil read));
        })

pub there : {A : Type 0} (P : A → Type 0) (xs : List A) (i : ℕ) → IsSomeAnd (slice_get xs i) P → i < length xs
there {A} P xs i h = go (slice_get xs i) refl h
  where
    go : (o : Option A) → slice_get xs i ≡ o → IsSomeAnd o P → i < length xs
    go None e h = absurd h
    go (Some x) e h = slice_get_within xs i x e
