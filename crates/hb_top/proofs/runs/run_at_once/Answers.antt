use Rattle.std.proofs.Common.{subst, arith}
use Rattle.hb_jobs.specs.Jobs.{options_told}
use Rattle.hb_words.specs.Seats.{history}
use Rattle.hb_top.specs.Reports.{AreFixed}
use Rattle.hb_top.proofs.JournalLemmas.{traced-by_callers}
use Rattle.hb_top.proofs.runs.run_at_once.Goals as goal

pub returns-clause-ran : goal.returns-clause-ran
returns-clause-ran g c =
    let came = c.in_ok-ran.ensures in record {
      history = came.history;
      in_order = λ fixed. absurd (let few = subst (AreFixed c.args.program.now) c.requires.unordered fixed in let many = c.requires.many in omega (arith, few, many));
      promise = c.histories_keep_the_promise.ensures.promise _ _ _ _ _ _ came.history;
      bodies = c.histories_keep_the_promise.ensures.bodies _ _ _ _ _ _ c.requires.is c.requires.once came.history;
      free = came.free;
    }

pub returns-clause-kept : goal.returns-clause-kept
returns-clause-kept g c =
    let options = options_told c.args.options.now in let ran = c.in_ok-ran.ran in let came = c.in_ok-ran.ensures in
    traced-by_callers c.args.program.now options options.changes options.steps ran.names (history ran.closed) ran.runs.items c.requires.unordered came.history came.journals
