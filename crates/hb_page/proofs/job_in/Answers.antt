use Rattle.std.proofs.Common.{◌≡◌, ◌∙◌, ℕ, List, IfOk, ap, option_map, subst}
use Rattle.std.specs.Str.Lines.{lines}
use Rattle.std.specs.declared.option.Option.{Option}
use Rattle.std.specs.Borrow.{Bor}
use Rattle.hb_jobs.specs.Given.{texts}
use Rattle.hb_jobs.specs.Jobs.{Wanted, job_of, told}
use Rattle.hb_page.proofs.WordLemmas.{no_text, text}
use Rattle.hb_page.proofs.job_in.Goals as goal

pub returns-in_default : goal.returns-in_default
returns-in_default c = no_text c.args.words.now c.in_default.ensures.cases.0

pub returns : goal.returns
returns c =
    let same = ap (λ (words : List (Bor (List ℕ))). job_of (texts words)) c.deref.ensures.value ∙ ap job_of (c.in_ok-lines.ensures ∙ ap lines c.in-Ok.ensures.cases.0)
    ∙ text c.args.words.now c.in-Ok.ensures.cases.1 in
    subst (λ (w : Option Wanted). IfOk c.job_asked.result (λ job. option_map told job ≡ w)) same c.job_asked.ensures
