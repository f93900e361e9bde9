use Rattle.std.proofs.Common.{◌≡◌, ℕ, List, Some, [], refl, sym, ap, subst, ◌∙◌}
use Rattle.hb_tables.specs.declared.entry.Entry.{Entry}
use Rattle.hb_tables.specs.Plain.{Tables}
use Rattle.hb_call.specs.{OwnCache.IsTrueCache, OwnLaws.own_true}
use Rattle.hb_trials.proofs.journals.kept.Goals as goal

pub run_to_end-requires-clause-cache : goal.run_to_end-requires-clause-cache
run_to_end-requires-clause-cache g c =
    let none : c.desk-desk.result.tables.now.log ≡ [] = ap (λ (t : Tables). t.log) c.desk-desk.ensures.tables ∙ c.in_ok-tables.ensures.0 in
    let caller : c.desk-desk.result.tables.now.caller ≡ 1 = ap (λ (t : Tables). t.caller) c.desk-desk.ensures.tables in
    let names = c.new-names.result in
    let cache = c.in_ok-machine.machine.state.cache in
    subst (λ (l : List Entry). IsTrueCache c.read-prog.result names names c.desk-desk.result.tables.now.caller l cache) (sym none)
    (subst (λ (x : ℕ). IsTrueCache c.read-prog.result names names x [] cache) (sym caller) (own_true c.read-prog.result names names 1 (Some []) [] cache (c.in_ok-machine.ensures.own c.read-prog.result names names [])))
