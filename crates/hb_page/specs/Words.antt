-- The job that words ask for which come as one text.
use Rattle.std.specs.Prelude.{ℕ, List, Option, None, if◌then◌else◌}
use Rattle.std.specs.Str.{is_utf8}
use Rattle.std.specs.Str.Lines.{lines}
use Rattle.hb_jobs.specs.Jobs.{Wanted, job_of}

-- each line is a word; bytes that are no text ask for none
abbrev pub job_in : List ℕ → Option Wanted
job_in bytes = if is_utf8 bytes then job_of (lines bytes) else None
