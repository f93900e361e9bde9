use Rattle.std.proofs.Common.{ℕ, Option, option_map, subst}
use Rattle.std.specs.Global.{Vec}
use Rattle.hb_top.specs.Answers.{IsBundle}
use Rattle.hb_top.specs.Outcomes.{IsTaken}
use Rattle.hb_top.specs.declared.top.TheConstants.{LIMIT}
use Rattle.hb_top.proofs.RunLemmas.{bundle-no_refusal, due-past, due-within}
use Rattle.hb_top.proofs.derive.derive.Goals as goal

pub returns-in-Some-clause-due : goal.returns-in-Some-clause-due
returns-in-Some-clause-due g c =
    let left = g.S.Source.left c.args.source.now in
    let rest = g.S.Source.left c.bytes_of.new.source in
    let taken = subst (λ (bytes : Option (Vec ℕ)). IsTaken LIMIT left rest (option_map (λ v. v.items) bytes)) c.in-Some.is c.in_ok-text.ensures.taken in
    due-within LIMIT IsBundle bundle-no_refusal left rest _ _ c.derive_text.result c.as_slice.ensures.value taken c.derive_text.ensures.due

pub returns-in-None-clause-due : goal.returns-in-None-clause-due
returns-in-None-clause-due g c =
    let left = g.S.Source.left c.args.source.now in
    let rest = g.S.Source.left c.bytes_of.new.source in
    let taken = subst (λ (bytes : Option (Vec ℕ)). IsTaken LIMIT left rest (option_map (λ v. v.items) bytes)) c.in-None.is c.in_ok-text.ensures.taken in
    due-past LIMIT IsBundle left rest c.too_long.result taken c.too_long.ensures.due
