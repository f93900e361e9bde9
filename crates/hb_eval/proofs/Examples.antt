-- What small programs do, worked out by hand and computed here.
use Rattle.std.proofs.Common.{◌≡◌, ℕ, ◌∷◌, List, [], pos, negsuc, Option, Some, None, true, false, refl}
use Rattle.std.specs.Prelude.{Ok, Err, codes, replicate}
use Rattle.hb_tree.specs.Table.{Table}
use Rattle.hb_tree.specs.declared.node.Op.TheVariants as op
use Rattle.hb_tree.specs.Spelling.{keywords}
use Rattle.hb_tree.specs.Tree.{Tree, TNil, TTrue, TSelf, TInt, TText, TVar, TNew, TAssign, TPrint, TToStr, TBinary, TWhile, TDef, TDefComputed, TDeclare, TDeclareComputed, TBlock, Forest, NoTree, Trees}
use Rattle.hb_names.specs.Names.{Name}
use Rattle.hb_tables.specs.declared.entry.Act.{Act}
use Rattle.hb_tables.specs.declared.entry.Act.TheVariants as act
use Rattle.hb_eval.specs.declared.value.Value.TheVariants as value
use Rattle.hb_eval.specs.declared.stop.Stop.{Stop}
use Rattle.hb_eval.specs.declared.stop.Stop.TheVariants as stop
use Rattle.hb_eval.specs.declared.stop.Outcome.TheVariants as outcome
use Rattle.hb_eval.specs.Printing.{print_line}
use Rattle.hb_eval.specs.Operators.{operate}
use Rattle.hb_eval.specs.State.{Lost, then_do, begin, reads}
use Rattle.hb_eval.specs.Meaning.{Calls, ev, turns, loop}
use Rattle.hb_eval.specs.Runs.{Run, start, run_of}

program : Table
program = record {
  classes = codes "A" ∷ [];
  names = codes "g" ∷ codes "m0" ∷ codes "i" ∷ [];
  texts = codes "" ∷ codes "9x" ∷ codes "end" ∷ codes "get_" ∷ [];
  nodes = [];
  items = [];
  bodies = [];
  types = [];
  setup = None;
  scripts = [];
}

no_calls : Calls
no_calls id r m args s = Lost

-- the items of a script, run with so many steps against this journal
run : List Name → (steps : ℕ) → List Act → Forest → Option Run
run names steps journal items = run_of (ev program names no_calls (TBlock 99 items) (start steps journal))

stopped : Stop → ℕ → (begun : ℕ) → List (ℕ × Act) → Option Run
stopped e id begun acts = Some (record { outcome = outcome.Stopped e (record { 0 = id }); output = []; acts = acts; begun = begun })

one : Tree → Forest
one e = Trees e NoTree

two : Tree → Tree → Forest
two a b = Trees a (one b)

printed : List ℕ → (begun : ℕ) → List (ℕ × Act) → Option Run
printed output begun acts = Some (record { outcome = outcome.Done value.Nil; output = output; acts = acts; begun = begun })

-- a script without an item
nothing : run [] 100 [] NoTree ≡ printed [] 0 []
unfolding run printed then_do begin
nothing = refl

-- `type A.("") : () -> Int`, and the same with "9x" and with "end"
bad_name : run [] 100 [] (one (TDeclareComputed 1 0 (TText 0 0) 0 false)) ≡ stopped stop.BadName 1 2 []
unfolding run stopped one program then_do begin
bad_name = refl

begins_with_a_digit : run [] 100 [] (one (TDeclareComputed 1 0 (TText 0 1) 0 false)) ≡ stopped stop.BadName 1 2 []
unfolding run stopped one program then_do begin
begins_with_a_digit = refl

a_keyword : run [] 100 [] (one (TDeclareComputed 1 0 (TText 0 2) 0 false)) ≡ stopped stop.BadName 1 2 []
unfolding run stopped one program keywords then_do begin
a_keyword = refl

-- a computed name that is nil, or a number
nil_for_a_name : run [] 100 [] (one (TDeclareComputed 1 0 (TNil 0) 0 false)) ≡ stopped stop.NilValue 1 2 []
unfolding run stopped one then_do begin
nil_for_a_name = refl

number_for_a_name : run [] 100 [] (one (TDefComputed 1 0 (TInt 0 (pos 1)) 0 (TBlock 2 NoTree))) ≡ stopped stop.BadOperand 1 2 []
unfolding run stopped one then_do begin
number_for_a_name = refl

retype : ℕ → ℕ → Act
retype key site = act.Retype (record { 0 = key }) (record { 0 = site })

define : ℕ → ℕ → Act
define key site = act.Define (record { 0 = key }) (record { 0 = site })

-- `def A.("get_" ++ str(true))() 7 end`
accessor : Tree
accessor = TDefComputed 8 0 (TBinary 5 op.Concat (TText 2 3) (TToStr 4 (TTrue 3))) 0 (TBlock 7 (one (TInt 6 (pos 7))))

accessor_made : run ((0, codes "get_true") ∷ []) 100 (define 0 0 ∷ []) (one accessor) ≡ printed [] 5 ((5, define 0 0) ∷ [])
unfolding run printed one program keywords accessor define then_do begin reads
accessor_made = refl

-- i = 1
-- while i < 3 do
-- i = i + 1
-- end
-- i
counting : Forest
counting = Trees
    (TAssign 1 2 (TInt 0 (pos 1)))
    (two (TWhile 20 (TBinary 3 op.Less (TVar 2 2) (TInt 8 (pos 3))) (TBlock 19 (one
    (TAssign 18 2 (TBinary 17 op.Add (TVar 15 2) (TInt 16 (pos 1)))))))
    (TVar 21 2))

counted : run [] 30 [] counting ≡ Some (record { outcome = outcome.Done (value.Int (pos 3)); output = []; acts = []; begun = 21 })
unfolding run one two counting then_do begin turns loop
counted = refl

-- a script reads all of its journal, and nothing else
left_over : run ((0, codes "g") ∷ []) 100 (define 0 0 ∷ define 0 0 ∷ []) (one (TDef 1 0 0 0 (TBlock 0 NoTree))) ≡ None
unfolding run one program define then_do begin reads
left_over = refl

other_site : run ((0, codes "g") ∷ []) 100 (define 0 1 ∷ []) (one (TDef 1 0 0 0 (TBlock 0 NoTree))) ≡ None
unfolding run one program define then_do begin reads
other_site = refl

-- a 1,025th name
full : run (replicate 1024 (0, codes "m0")) 100 [] (one (TDef 1 0 0 0 (TBlock 0 NoTree))) ≡ stopped stop.Full 1 1 []
unfolding run stopped one program then_do begin reads
full = refl

worn : Act
worn = act.WornType (record { 0 = 0 })

busy : Act
busy = act.Busy (record { 0 = 0 }) 1

-- a second `type` where a type may change once
worn_type : run ((0, codes "g") ∷ []) 100 (retype 0 0 ∷ worn ∷ []) (two (TDeclare 1 0 0 0 false) (TDeclare 2 0 0 1 false))
    ≡ stopped stop.Worn 2 2 ((1, retype 0 0) ∷ (2, worn) ∷ [])
unfolding run stopped one two program retype worn then_do begin reads
worn_type = refl

-- `print type? A.g : () -> Int`, where a call holds the method, and where none does
busy_type : run ((0, codes "g") ∷ []) 100 (busy ∷ []) (one (TPrint 2 (TDeclare 1 0 0 0 true))) ≡ printed (codes "> false\n") 2 ((2, busy) ∷ [])
unfolding run printed one program busy then_do begin reads
busy_type = refl

changed_type : run ((0, codes "g") ∷ []) 100 (retype 0 0 ∷ []) (one (TPrint 2 (TDeclare 1 0 0 0 true))) ≡ printed (codes "> true\n") 2 ((2, retype 0 0) ∷ [])
unfolding run printed one program retype then_do begin reads
changed_type = refl

-- `print A.new`
an_object : run [] 100 [] (one (TPrint 2 (TNew 1 0))) ≡ printed (codes "> #<A>\n") 2 []
unfolding run printed one program then_do begin
an_object = refl

escaped : print_line (codes "a\\b\n\tc") ≡ codes "> a\\\\b\\n\\tc\n"
escaped = refl

-- `1 + 2` with two steps stops at its right operand, and with three it does not
no_step_left : run [] 2 [] (one (TBinary 3 op.Add (TInt 1 (pos 1)) (TInt 2 (pos 2)))) ≡ stopped stop.Steps 2 3 []
unfolding run stopped one then_do begin
no_step_left = refl

steps_enough : run [] 3 [] (one (TBinary 3 op.Add (TInt 1 (pos 1)) (TInt 2 (pos 2))))
    ≡ Some (record { outcome = outcome.Done (value.Int (pos 3)); output = []; acts = []; begun = 3 })
unfolding run one then_do begin
steps_enough = refl

-- at script level
unbound : run [] 100 [] (one (TVar 1 0)) ≡ stopped stop.Unbound 1 1 []
unfolding run stopped one then_do begin
unbound = refl

no_self : run [] 100 [] (one (TSelf 1)) ≡ stopped stop.NoSelf 1 1 []
unfolding run stopped one then_do begin
no_self = refl

overflow : operate op.Add (value.Int (pos 9223372036854775807)) (value.Int (pos 1)) ≡ Err stop.Overflow
overflow = refl

least : operate op.Sub (value.Int (negsuc 9223372036854775806)) (value.Int (pos 1)) ≡ Ok (value.Int (negsuc 9223372036854775807))
least = refl

-- nil comes before an operand of another kind
nil_behind : operate op.Mul (value.Bool true) value.Nil ≡ Err stop.NilValue
nil_behind = refl

no_number : operate op.Less (value.Int (pos 1)) (value.Str (codes "a")) ≡ Err stop.BadOperand
no_number = refl

long : operate op.Concat (value.Str (replicate 1000 97)) (value.Str (replicate 25 97)) ≡ Err stop.LongText
long = refl

equal_nils : operate op.Equal value.Nil value.Nil ≡ Ok (value.Bool true)
equal_nils = refl
