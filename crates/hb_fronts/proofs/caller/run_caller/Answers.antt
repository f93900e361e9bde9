use Rattle.std.proofs.Common.{ℕ, List, Some, ◌∙◌, ap, sym, subst}
use Rattle.hb_types.specs.declared.ids.CallerId.{CallerId}
use Rattle.hb_tables.specs.Frames.{acts}
use Rattle.hb_call.specs.OwnCache.{IsOwnCache}
use Rattle.hb_call.specs.OwnLaws.{own_true}
use Rattle.hb_eval.specs.Told.{told_by}
use Rattle.hb_run.specs.History.{block_of}
use Rattle.hb_fronts.specs.Exits.{IsExit}
use Rattle.hb_fronts.proofs.ExitLemmas.{exit_of, journal_of_exit}
use Rattle.hb_fronts.proofs.caller.run_caller.Goals as goal

pub run_to_end-requires-clause-cache : goal.run_to_end-requires-clause-cache
run_to_end-requires-clause-cache g c =
    own_true _ _ _ _ _ _ _
    (subst (λ (x : ℕ). IsOwnCache c.args.prog.now (g.N.Names.known c.args.names.now) (g.N.Names.asked c.args.names.now) x (Some (acts x (g.D.Desk.front c.args.desk.now))) (g.D.Desk.front c.args.desk.now) c.in_ok-machine.machine.state.cache)
    (sym c.requires.caller)
    (c.in_ok-machine.ensures.own c.args.prog.now (g.N.Names.known c.args.names.now) (g.N.Names.asked c.args.names.now) (g.D.Desk.front c.args.desk.now)))

pub returns-clause-exit : goal.returns-clause-exit
returns-clause-exit g c =
    let came = c.in_ok-run_to_end.ensures in
    let front = g.D.Desk.front c.args.desk.now in
    let names = g.N.Names.known c.args.names.now in
    let asked = g.N.Names.asked c.args.names.now in
    subst (λ (x : ℕ). IsExit c.args.prog.now c.args.options.steps x (record { front = g.D.Desk.front c.run_to_end.new.desk; known = g.N.Names.known c.run_to_end.new.names; asked = g.N.Names.asked c.run_to_end.new.names }) (told_by c.finish.result))
    c.requires.caller
    (exit_of c.args.prog.now (g.D.Desk.fixed c.args.desk.now) (g.D.Desk.fixed c.run_to_end.new.desk) c.args.options.steps names (g.N.Names.known c.run_to_end.new.names) asked
    (g.N.Names.asked c.run_to_end.new.names) front (g.D.Desk.front c.run_to_end.new.desk) c.in_ok-machine.machine c.run_to_end.new.machine c.args.block c.finish.result
    (ap (block_of c.args.prog.now) c.requires.caller ∙ c.requires.runs)
    (ap (λ (x : ℕ). acts x front) c.requires.caller ∙ c.requires.idle)
    c.requires.unasked came.went
    (c.in_ok-machine.ensures.stands c.args.prog.now names c.requires.block)
    (ap (λ (x : CallerId). x.0) (came.went.caller ∙ c.in_ok-machine.ensures.fresh.2) ∙ sym c.requires.caller)
    (subst (λ (x : ℕ). IsOwnCache c.args.prog.now names asked x (Some (acts x front)) front c.in_ok-machine.machine.state.cache) (sym c.requires.caller)
    (c.in_ok-machine.ensures.own c.args.prog.now names asked front))
    (λ longer done stands more few. c.finish.ensures.run c.args.prog.now (g.N.Names.known c.run_to_end.new.names) longer c.args.block.0 c.args.options.steps done stands more few))

pub returns-clause-journal : goal.returns-clause-journal
returns-clause-journal g c =
    let came = c.in_ok-run_to_end.ensures in
    let front = g.D.Desk.front c.args.desk.now in
    let names = g.N.Names.known c.args.names.now in
    journal_of_exit c.args.prog.now (g.D.Desk.fixed c.args.desk.now) (g.D.Desk.fixed c.run_to_end.new.desk) c.args.options.steps names (g.N.Names.known c.run_to_end.new.names) (g.N.Names.asked c.args.names.now)
    (g.N.Names.asked c.run_to_end.new.names) front (g.D.Desk.front c.run_to_end.new.desk) c.in_ok-machine.machine c.run_to_end.new.machine c.args.block c.finish.result c.args.options.keep_journal
    (ap (λ (x : ℕ). acts x front) c.requires.caller ∙ c.requires.idle)
    came.went
    (c.in_ok-machine.ensures.stands c.args.prog.now names c.requires.block)
    (ap (λ (x : CallerId). x.0) (came.went.caller ∙ c.in_ok-machine.ensures.fresh.2) ∙ sym c.requires.caller)
    c.in_ok-machine.ensures.keeps
    (came.went.stays.few c.requires.few)
    (λ longer done stands more few. c.finish.ensures.run c.args.prog.now (g.N.Names.known c.run_to_end.new.names) longer c.args.block.0 c.args.options.steps done stands more few)
