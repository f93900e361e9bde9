use Rattle.std.proofs.Common.{ℕ, Option, option_map, subst}
use Rattle.std.specs.Global.{Vec}
use Rattle.hb_top.specs.Answers.{AreVerdicts}
use Rattle.hb_top.specs.Outcomes.{IsTaken}
use Rattle.hb_top.specs.declared.verify.TheConstants.{BUNDLE_LIMIT}
use Rattle.hb_top.proofs.RunLemmas.{due-past, due-within, verdicts-no_refusal}
use Rattle.hb_top.proofs.verify.verify.Goals as goal

pub returns-in-Some-clause-due : goal.returns-in-Some-clause-due
returns-in-Some-clause-due g c =
    let left = g.S.Source.left c.args.source.now in
    let rest = g.S.Source.left c.bytes_of.new.source in
    let taken = subst (λ (bytes : Option (Vec ℕ)). IsTaken BUNDLE_LIMIT left rest (option_map (λ v. v.items) bytes)) c.in-Some.is c.in_ok-bytes.ensures.taken in
    due-within BUNDLE_LIMIT AreVerdicts verdicts-no_refusal left rest _ _ c.verify_bundle.result c.as_slice.ensures.value taken c.verify_bundle.ensures.due

pub returns-in-None-clause-due : goal.returns-in-None-clause-due
returns-in-None-clause-due g c =
    let left = g.S.Source.left c.args.source.now in
    let rest = g.S.Source.left c.bytes_of.new.source in
    let taken = subst (λ (bytes : Option (Vec ℕ)). IsTaken BUNDLE_LIMIT left rest (option_map (λ v. v.items) bytes)) c.in-None.is c.in_ok-bytes.ensures.taken in
    due-past BUNDLE_LIMIT AreVerdicts left rest c.too_long.result taken c.too_long.ensures.due
