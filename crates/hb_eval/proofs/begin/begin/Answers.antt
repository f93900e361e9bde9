use Rattle.std.proofs.Common.{ap, refl, sym, subst, ◌∙◌, ◌-◌, length, take, drop}
use Rattle.std.specs.List.{AllByRecursion}
use Rattle.std.proofs.lemmas.Result.{IfOk-weaker}
use Rattle.hb_eval.specs.{Values.IsKnown, State.IsFetched, State.value_at, Meaning.ev, Steps.IsCall, Steps.IsOfMethod}
use Rattle.hb_eval.proofs.KnownLemmas.{found_known, dropped_known, taken_known}
use Rattle.hb_eval.proofs.FuelLemmas.{begin_goes}
use Rattle.hb_eval.proofs.BeginLemmas.{starved_starts, first_starts, while_begins, call_begins, define_begins, declare_begins}
use Rattle.hb_eval.proofs.begin.begin.Goals as goal

pub returns-then-state-eq0-clause-started : goal.returns-then-state-eq0-clause-started
returns-then-state-eq0-clause-started c =
    let took = rw c.halt.ensures.value at c.take.ensures.took in
    rw c.halt.ensures.state (starved_starts _ c.args.state.now _ _ c.take.result took c.requires.expr c.if-state-eq0.true)

pub returns-in-Assign-clause-started : goal.returns-in-Assign-clause-started
returns-in-Assign-clause-started c =
    let took = rw c.first.ensures.value at c.take-in-Assign.ensures.took in
    rw c.first.ensures.state (first_starts _ _ c.in-Assign.e c.args.state.now _ _ c.take-in-Assign.result took
    (λ names calls keeps room s us fs h. ap (λ a. ev c.args.prog.now names (calls room) a s) c.in-Assign.ensures.tree ∙ begin_goes _ s _ h)
    c.if-state-eq0.false tt c.in-Assign.ensures.kinds.0.0 (refl, refl) tt)

pub returns-in-Print-clause-started : goal.returns-in-Print-clause-started
returns-in-Print-clause-started c =
    let took = rw c.first-in-Print.ensures.value at c.take-in-Print.ensures.took in
    rw c.first-in-Print.ensures.state (first_starts _ _ c.in-Print.e c.args.state.now _ _ c.take-in-Print.result took
    (λ names calls keeps room s us fs h. ap (λ a. ev c.args.prog.now names (calls room) a s) c.in-Print.ensures.tree ∙ begin_goes _ s _ h)
    c.if-state-eq0.false tt c.in-Print.ensures.kinds.0.0 (refl, refl) tt)

pub returns-in-ToStr-clause-started : goal.returns-in-ToStr-clause-started
returns-in-ToStr-clause-started c =
    let took = rw c.first-in-ToStr.ensures.value at c.take-in-ToStr.ensures.took in
    rw c.first-in-ToStr.ensures.state (first_starts _ _ c.in-ToStr.e c.args.state.now _ _ c.take-in-ToStr.result took
    (λ names calls keeps room s us fs h. ap (λ a. ev c.args.prog.now names (calls room) a s) c.in-ToStr.ensures.tree ∙ begin_goes _ s _ h)
    c.if-state-eq0.false tt c.in-ToStr.ensures.kinds.0.0 (refl, refl) tt)

pub returns-in-Binary-clause-started : goal.returns-in-Binary-clause-started
returns-in-Binary-clause-started c =
    let took = rw c.first-in-Binary.ensures.value at c.take-in-Binary.ensures.took in
    rw c.first-in-Binary.ensures.state (first_starts _ _ c.in-Binary.a c.args.state.now _ _ c.take-in-Binary.result took
    (λ names calls keeps room s us fs h. ap (λ a. ev c.args.prog.now names (calls room) a s) c.in-Binary.ensures.tree ∙ begin_goes _ s _ h)
    c.if-state-eq0.false c.in-Binary.ensures.kinds.0.1.0 c.in-Binary.ensures.kinds.0.0 (refl, refl) tt)

pub returns-in-If-clause-started : goal.returns-in-If-clause-started
returns-in-If-clause-started c =
    let took = rw c.first-in-If.ensures.value at c.take-in-If.ensures.took in
    rw c.first-in-If.ensures.state (first_starts _ _ c.in-If.c c.args.state.now _ _ c.take-in-If.result took
    (λ names calls keeps room s us fs h. ap (λ a. ev c.args.prog.now names (calls room) a s) c.in-If.ensures.tree ∙ begin_goes _ s _ h)
    c.if-state-eq0.false (c.in-If.ensures.kinds.1.0, c.in-If.ensures.kinds.1.1.0) c.in-If.ensures.kinds.0.0 (refl, refl) tt)

pub returns-in-While-clause-started : goal.returns-in-While-clause-started
returns-in-While-clause-started c =
    let took = rw c.first-in-While.ensures.value at c.take-in-While.ensures.took in
    rw c.first-in-While.ensures.state (first_starts _ _ c.in-While.c c.args.state.now _ _ c.take-in-While.result took
    (λ names calls keeps room s us fs h. while_begins (record { program = c.args.prog.now; names = names; calls = calls }) keeps room c.args.state.now.at.0 c.in-While.c.0 c.in-While.b.0 s
    c.in-While.ensures.kinds.0.0 h c.in-While.ensures.tree)
    c.if-state-eq0.false (c.in-While.ensures.kinds.0.0, c.in-While.ensures.kinds.1.0) c.in-While.ensures.kinds.0.0 (refl, refl) tt)

pub returns-in-Call-clause-started : goal.returns-in-Call-clause-started
returns-in-Call-clause-started c =
    let took = rw c.first-in-Call.ensures.value at c.take-in-Call.ensures.took in
    rw c.first-in-Call.ensures.state (first_starts _ _ c.in-Call.receiver c.args.state.now _ _ c.take-in-Call.result took
    (λ names calls keeps room s us fs h. call_begins (record { program = c.args.prog.now; names = names; calls = calls }) room c.args.state.now.at.0 c.in-Call.receiver.0 _ _ s h c.in-Call.ensures.tree)
    c.if-state-eq0.false (c.requires.expr, subst IsCall (sym c.in-Call.ensures.tree) tt) c.in-Call.ensures.kinds.0.0 (refl, refl) tt)

pub returns-in-Def-Computed-default-clause-started : goal.returns-in-Def-Computed-default-clause-started
returns-in-Def-Computed-default-clause-started c =
    let tree = rw c.in-Def-Computed-default.field-0-is at c.in-Def-Computed-default.ensures.tree in
    let kinds = rw c.in-Def-Computed-default.field-0-is at c.in-Def-Computed-default.ensures.kinds in
    let took = rw c.first-in-Def-Computed-default.ensures.value at c.take-in-Def-Computed-default.ensures.took in
    rw (c.first-in-Def-Computed-default.ensures.state, c.in-Def-Computed-default.field-0-is) (first_starts _ _ c.in-Def-Computed-default.e c.args.state.now _ _ c.take-in-Def-Computed-default.result took
    (λ names calls keeps room s us fs h. define_begins (record { program = c.args.prog.now; names = names; calls = calls }) room c.args.state.now.at.0 _ c.in-Def-Computed-default.e.0 _ _ s h tree)
    c.if-state-eq0.false (c.requires.expr, subst IsOfMethod (sym tree) tt) kinds.0.0 (refl, refl) tt)

pub returns-in-Declare-Computed-default-default-clause-started : goal.returns-in-Declare-Computed-default-default-clause-started
returns-in-Declare-Computed-default-default-clause-started c =
    let tree = rw c.in-Declare-Computed-default-default.field-0-is at c.in-Declare-Computed-default-default.ensures.tree in
    let kinds = rw c.in-Declare-Computed-default-default.field-0-is at c.in-Declare-Computed-default-default.ensures.kinds in
    let took = rw c.first-in-Declare-Computed-default-default.ensures.value at c.take-in-Declare-Computed-default-default.ensures.took in
    rw (c.first-in-Declare-Computed-default-default.ensures.state, c.in-Declare-Computed-default-default.field-0-is)
    (first_starts _ _ c.in-Declare-Computed-default-default.e c.args.state.now _ _ c.take-in-Declare-Computed-default-default.result took
    (λ names calls keeps room s us fs h. declare_begins (record { program = c.args.prog.now; names = names; calls = calls }) room c.args.state.now.at.0 _ c.in-Declare-Computed-default-default.e.0 _ _ s h tree)
    c.if-state-eq0.false (c.requires.expr, subst IsOfMethod (sym tree) tt) kinds.0.0 (refl, refl) tt)

pub returns-then-branch-clause-known : goal.returns-then-branch-clause-known
returns-then-branch-clause-known c known =
    let t = c.args.prog.now in
    let base = c.args.state.now.base in
    let all = c.deref.result.now in
    let name = c.in-Var.name.0 in
    let each = subst (AllByRecursion (λ b. IsKnown t b.1)) (sym c.deref.ensures.value) known.vars in
    let frame = take (length all - base) (drop base all) in
    let fetched = subst (λ there. IsFetched there (value_at frame name) c.args.state.now.acc c.fetch.new.acc) c.if-branch.true c.in_ok-fetch-in-Var.ensures in
    let acc = found_known t frame name c.fetch.new.acc (taken_known t (length all - base) (drop base all) (dropped_known t base all each)) (sym fetched) in
    IfOk-weaker c.take-then-branch.result _ _ (λ hand took. record { acc = acc; operands = known.operands; vars = known.vars; class = known.class }) c.take-then-branch.ensures.took
