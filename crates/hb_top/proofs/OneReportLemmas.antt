-- What is due for a program whose turns are fixed is one.
use Rattle.std.proofs.Common.{◌≡◌, ℕ, List, sym, ap, ◌∙◌}
use Rattle.hb_tree.specs.Table.{Table}
use Rattle.hb_names.specs.Names.{Name}
use Rattle.hb_tables.specs.declared.entry.Entry.{Entry}
use Rattle.hb_eval.specs.Told.{Told}
use Rattle.hb_turns.specs.Players.{IsOrdered}
use Rattle.hb_jobs.specs.Jobs.{Options}
use Rattle.hb_top.specs.Outcomes.{Outcome}
use Rattle.hb_top.specs.Reports.{AreFixed, IsReported, order_or_none, reported}

-- an order has one history
abbrev pub HaveOneHistory : Type 0
HaveOneHistory = (t : Table) (limit steps : ℕ) (order : List ℕ) (names others : List Name) (log log' : List Entry) (runs runs' : List Told)
    → IsOrdered t limit steps order names log runs → IsOrdered t limit steps order others log' runs' → (names ≡ others) × (log ≡ log') × (runs ≡ runs')

pub one-report : HaveOneHistory → (t : Table) (options : Options) (len : ℕ) (a b : Outcome) → AreFixed t options.order
    → IsReported t options len a → IsReported t options len b → a ≡ b
one-report one t options len a b fixed x y =
    let same = one t options.changes options.steps (order_or_none options) x.names y.names x.log y.log x.runs y.runs (x.ran.in_order fixed) (y.ran.in_order fixed) in
    x.same
    ∙ ap (λ (names : List Name). reported t options names x.log x.runs len) same.0
    ∙ ap (λ (log : List Entry). reported t options y.names log x.runs len) same.1
    ∙ ap (λ (runs : List Told). reported t options y.names y.log runs len) same.2
    ∙ sym y.same
