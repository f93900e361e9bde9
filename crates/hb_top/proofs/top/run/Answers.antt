use Rattle.std.proofs.Common.{ℕ, Option, option_map, subst}
use Rattle.std.specs.Global.{Vec}
use Rattle.hb_jobs.specs.Jobs.{options_told}
use Rattle.hb_top.specs.Answers.{IsReport}
use Rattle.hb_top.specs.Outcomes.{IsTaken}
use Rattle.hb_top.specs.declared.top.TheConstants.{LIMIT}
use Rattle.hb_top.proofs.RunLemmas.{due-past, due-within, report-no_refusal}
use Rattle.hb_top.proofs.top.run.Goals as goal

pub returns-in-Some-clause-due : goal.returns-in-Some-clause-due
returns-in-Some-clause-due g c =
    let options = options_told c.args.options.now in
    let left = g.S.Source.left c.args.source.now in
    let rest = g.S.Source.left c.bytes_of.new.source in
    let taken = subst (λ (bytes : Option (Vec ℕ)). IsTaken LIMIT left rest (option_map (λ v. v.items) bytes)) c.in-Some.is c.in_ok-text.ensures.taken in
    due-within LIMIT (IsReport options) (report-no_refusal options) left rest _ _ c.run_text.result c.as_slice.ensures.value taken c.run_text.ensures.due

pub returns-in-None-clause-due : goal.returns-in-None-clause-due
returns-in-None-clause-due g c =
    let left = g.S.Source.left c.args.source.now in
    let rest = g.S.Source.left c.bytes_of.new.source in
    let taken = subst (λ (bytes : Option (Vec ℕ)). IsTaken LIMIT left rest (option_map (λ v. v.items) bytes)) c.in-None.is c.in_ok-text.ensures.taken in
    due-past LIMIT (IsReport (options_told c.args.options.now)) left rest c.too_long.result taken c.too_long.ensures.due
