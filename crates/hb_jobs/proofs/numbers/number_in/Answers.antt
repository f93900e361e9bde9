use Rattle.std.proofs.Common.{rules}
use Rattle.hb_jobs.proofs.NumberLemmas.{number_of-Err}
use Rattle.hb_jobs.proofs.numbers.number_in.Goals as goal

pub returns-in-Err-clause-value : goal.returns-in-Err-clause-value
returns-in-Err-clause-value c =
    number_of-Err c.args.least c.args.most c.args.text.now c.in-Err.field-0 (search rules) (search rules) c.in-Err.ensures.value.0
