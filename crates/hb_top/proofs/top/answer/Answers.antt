use Rattle.std.proofs.Common.{ℕ, List, ◌∙◌, option_map, rules, subst}
use Rattle.std.specs.Io.KnownBytes.{Appends}
use Rattle.hb_jobs.specs.Jobs.{told}
use Rattle.hb_top.proofs.RunLemmas.{answers-came}
use Rattle.hb_top.proofs.top.answer.Goals as goal

pub returns-in-Ok-write_all_of : goal.returns-in-Ok-write_all_of
returns-in-Ok-write_all_of g c =
    let due = c.in-Ok-due_for.ensures.due in
    answers-came (option_map told c.in-Ok.job) _ _ _ _ _ c.in-Ok.ensures due.1
    (record {
      status = search rules;
      written = subst (λ (text : List ℕ). Appends (g.K.Sink.held c.args.out.now) (g.K.Sink.held c.write_all_of.new.k) text) (c.as_slice.ensures.value ∙ due.2.text) c.in-Ok-write_all_of.ensures.all;
      taken = due.3;
    })
    c.in-Ok-due_for.ensures.unread c.in-Ok-due_for.ensures.later c.in-Ok-write_all_of.ensures.cause.later
