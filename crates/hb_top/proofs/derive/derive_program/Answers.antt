use Rattle.std.proofs.Common.{◌≡◌, [], List, Option, Some, map, refl, rules, subst}
use Rattle.hb_call.specs.Sharing.{collected}
use Rattle.hb_deriv.specs.declared.raw.Derivation.{Derivation}
use Rattle.hb_eval.specs.Told.{told_by}
use Rattle.hb_jobs.specs.Jobs.{Options}
use Rattle.hb_turns.specs.Collecting.{Collects}
use Rattle.hb_top.specs.Derived.{derived}
use Rattle.hb_top.specs.Reports.{Ran}
use Rattle.hb_top.proofs.DeriveLemmas.{collects_made}
use Rattle.hb_top.proofs.derive.derive_program.Goals as goal

pub returns-clause-due : goal.returns-clause-due
returns-clause-due c =
    let t = c.args.program.now in
    let ran = c.in_ok-ran.ran in
    let runs = map told_by ran.runs.items in
    let log = ran.history.items in
    let share = collected c.run_by_turns.new.share in
    let empty : c.new.result.items ≡ [] = search rules in
    let collects = subst (λ (old : List Derivation). Collects t ran.names [] log (Some old) share) empty c.in_ok-ran.ensures.collects in
    let made = collects_made t ran.names [] log [] share collects in (
      derived t c.args.text.now runs made.0,
      record {
        names = ran.names;
        log = log;
        runs = runs;
        ran = subst (λ (options : Options). Ran t options ran.names log runs) c.in_ok-options.ensures c.in_ok-ran.ensures.ran;
        made = made.0;
        collects = subst (λ (new : Option (List Derivation)). Collects t ran.names [] log (Some []) new) made.1 collects;
        same = refl;
      },
      search rules,
      refl,
    )
