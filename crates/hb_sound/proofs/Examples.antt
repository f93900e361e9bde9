-- A body that tries to change the type of its own method, worked out by hand: the history is legal, its Call is decided as its row says, and the run stops in the body, for a named cause.
use Rattle.std.proofs.Common.{◌≡◌, inl, inr, ℕ, zero, suc, ◌<◌, Bool, true, false, List, [], ◌∷◌, pos, Some, None, refl, sym, ap, subst, arith, eqb, get_or}
use Rattle.std.specs.Prelude.{codes}
use Rattle.std.proofs.lemmas.Bool.{eqb-true}
use Rattle.hb_types.specs.declared.types.MethodTy.{MethodTy}
use Rattle.hb_types.specs.declared.types.Ty.TheVariants as ty
use Rattle.hb_tree.specs.Table.{Table}
use Rattle.hb_tree.specs.TreeAt.{tree_at, tree_down}
use Rattle.hb_tree.specs.declared.node.Method.TheVariants as method
use Rattle.hb_tree.specs.declared.node.Node.{Node}
use Rattle.hb_tree.specs.declared.node.Node.TheVariants as node
use Rattle.hb_tree.specs.declared.node.Placed.{Placed}
use Rattle.hb_deriv.specs.Events.{behind}
use Rattle.hb_deriv.specs.Judge.{◌>>=◌}
use Rattle.hb_names.specs.Names.{Name, place}
use Rattle.hb_tables.specs.declared.entry.Act.TheVariants.{Hold, Free, Retype, Busy, Define, Call}
use Rattle.hb_tables.specs.declared.entry.By.TheVariants as by
use Rattle.hb_tables.specs.declared.entry.Entry.{Entry}
use Rattle.hb_tables.specs.declared.entry.Verdict.TheVariants as verdict
use Rattle.hb_tables.specs.Frames.{acts}
use Rattle.hb_tables.specs.History.{spot, times, entry, IsLegal}
use Rattle.hb_tables.specs.Rows.{FitsCall, HasCallRows}
use Rattle.hb_tables.proofs.HistoryLemmas.{legal_none, legal_more, every_none, every_more}
use Rattle.hb_eval.specs.declared.stop.Outcome.TheVariants as outcome
use Rattle.hb_eval.specs.declared.stop.Stop.TheVariants as stop
use Rattle.hb_eval.specs.Calls.{call_in}
use Rattle.hb_eval.specs.Runs.{Run, script_run}
use Rattle.hb_eval.specs.State.{then_do, begin, reads}
use Rattle.hb_sound.specs.Scripts.{IsNodeIn}

at_place : Node → Placed
at_place n = record { node = n; line = 1; column = 1 }

int_method : MethodTy
int_method = record { count = 0; params = ty.Nil ∷ ty.Nil ∷ ty.Nil ∷ ty.Nil ∷ []; result = ty.Int }

-- the body is `type A.f : () -> Int` and `5`, and the script is `A.new.f`
program : Table
program = record {
  classes = codes "A" ∷ [];
  names = codes "f" ∷ [];
  texts = [];
  nodes = at_place (node.Declare (method.Named (record { 0 = 0 }) (record { 0 = 0 })) (record { 0 = 0 }) false) ∷ at_place (node.Int (pos 5)) ∷ at_place (node.Block 0 2)
      ∷ at_place (node.New (record { 0 = 0 })) ∷ at_place (node.Call (record { 0 = 3 }) (record { 0 = 0 }) (record { count = 0; ids = [] })) ∷ at_place (node.Block 2 1) ∷ [];
  items = record { 0 = 0 } ∷ record { 0 = 1 } ∷ record { 0 = 4 } ∷ [];
  bodies = record { def = record { 0 = 9 }; block = record { 0 = 2 }; count = 0; params = [] } ∷ [];
  types = (int_method, record { 0 = 0 }) ∷ [];
  setup = None;
  scripts = [];
}

names : List Name
names = (0, codes "f") ∷ []

typed : Entry
typed = entry 0 (Retype (record { 0 = 0 }) (record { 0 = 0 }))

defined : Entry
defined = entry 0 (Define (record { 0 = 0 }) (record { 0 = 0 }))

held : Entry
held = entry 1 (Hold (record { 0 = 0 }) (record { 0 = 1 }) (Some (record { 0 = 0 })) 1)

entered : Entry
entered = entry 1 (Call (record { 0 = 0 }) (record { 0 = 1 }) (Some (record { 0 = 0 })) (record { count = 0; kinds = ty.Nil ∷ ty.Nil ∷ ty.Nil ∷ ty.Nil ∷ [] }) (verdict.Enter by.Fresh))

busy : ℕ → Entry
busy c = entry c (Busy (record { 0 = 0 }) 1)

freed : Entry
freed = entry 1 (Free (record { 0 = 0 }) (record { 0 = 1 }))

front : List Entry
front = typed ∷ defined ∷ held ∷ []

log : List Entry
log = typed ∷ defined ∷ held ∷ entered ∷ busy 0 ∷ busy 1 ∷ freed ∷ []

is_legal : IsLegal 100 log
unfolding typed defined held entered busy freed front log
is_legal =
    let l1 = legal_more 100 [] typed (legal_none 100) (refl, omega arith, omega arith) in
    let l2 = legal_more 100 (typed ∷ []) defined l1 (omega arith, omega arith) in
    let l3 = legal_more 100 (typed ∷ defined ∷ []) held l2 (refl, refl, refl, omega arith) in
    let l4 = legal_more 100 front entered l3 tt in
    let l5 = legal_more 100 (typed ∷ defined ∷ held ∷ entered ∷ []) (busy 0) l4 (refl, omega arith) in
    let l6 = legal_more 100 (typed ∷ defined ∷ held ∷ entered ∷ busy 0 ∷ []) (busy 1) l5 (refl, omega arith) in
    legal_more 100 (typed ∷ defined ∷ held ∷ entered ∷ busy 0 ∷ busy 1 ∷ []) freed l6 refl

the_call : FitsCall program names 1 front entered.act
unfolding at_place int_method program names typed defined held entered front ◌>>=◌ behind tree_at tree_down
the_call = (
  record {
    name = (0, codes "f");
    is = refl;
    defined = refl;
    rules = refl;
    held = λ p i. (0, (let e : (0, codes "f") ≡ p = one p i.0 i.1 i.2 in subst (λ r. place names r ≡ Some 0) e refl), refl);
    only = λ j h. ((0, codes "f"), (0, omega arith, refl), here j (eqb j 0) refl h);
  },
  refl,
)
  where
    one : (p : Name) (k : ℕ) → k < 1 → get_or ((0, codes "f") ∷ []) k p ≡ p → (0, codes "f") ≡ p
    one p zero l e = e
    one p (suc k) l e = absurd (omega arith)

    here : (j : ℕ) (b : Bool) → eqb j 0 ≡ b → times (1, 1) (spot j front).calls ≡ 1 → Some 0 ≡ Some j
    here j true e h = ap Some (sym (eqb-true j 0 e))
    here j false e h = absurd (let z : times (1, 1) (spot j front).calls ≡ 0 = rw e refl in cc)

has_rows : HasCallRows program names log
unfolding typed defined held entered busy freed front log
has_rows =
    let F : List Entry → Entry → Type 0 = λ before e. FitsCall program names e.caller.0 before e.act in
    let l1 = every_more F [] typed (every_none F) tt in
    let l2 = every_more F (typed ∷ []) defined l1 tt in
    let l3 = every_more F (typed ∷ defined ∷ []) held l2 tt in
    let l4 = every_more F front entered l3 the_call in
    let l5 = every_more F (typed ∷ defined ∷ held ∷ entered ∷ []) (busy 0) l4 tt in
    let l6 = every_more F (typed ∷ defined ∷ held ∷ entered ∷ busy 0 ∷ []) (busy 1) l5 tt in
    every_more F (typed ∷ defined ∷ held ∷ entered ∷ busy 0 ∷ busy 1 ∷ []) freed l6 tt

-- it stops at the first node of the body
stops : (run : Run) × (script_run program names (call_in program names 4096) 5 10 (acts 1 log) ≡ Some run) × (run.outcome ≡ outcome.Stopped stop.Busy (record { 0 = 0 }))
unfolding at_place int_method program names typed defined held entered busy freed log begin then_do reads call_in tree_at tree_down
stops = (_, refl, refl)

-- which is none of the script's block
not_its_own : IsNodeIn (tree_at program 5) 0 → ⊥
unfolding at_place program tree_at tree_down
not_its_own (inl (inl e)) = cc
not_its_own (inl (inr (inl e))) = cc
not_its_own (inl (inr (inr h))) = h
not_its_own (inr h) = h
