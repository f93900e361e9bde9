use Rattle.std.proofs.Common.{ap, codes, ◌∙◌}
use Rattle.clap.specs.Words.{Text, first_of, found_of}
use Rattle.clap.proofs.WalkLemmas.{first_value-rows}
use Rattle.hb_jobs.specs.Given.{is_true_text}
use Rattle.hb_jobs.proofs.given.given_words.Goals as goal

pub returns-clause-given : goal.returns-clause-given
returns-clause-given c =
    let m = c.in_ok-matches.matches in
    let reads = λ (id : Text). first_value-rows (found_of m) id ∙ ap (first_of id) c.in_ok-matches.ensures.rows in
    record {
      command = c.get_str.ensures ∙ reads (codes "command");
      number = c.get_str-2.ensures ∙ reads (codes "n");
      steps = c.get_str-3.ensures ∙ reads (codes "steps");
      versions = c.get_str-4.ensures ∙ reads (codes "versions");
      order = c.get_str-5.ensures ∙ reads (codes "order");
      trace = c.is_true.ensures ∙ ap is_true_text (c.get_str-6.ensures ∙ reads (codes "trace"));
    }
