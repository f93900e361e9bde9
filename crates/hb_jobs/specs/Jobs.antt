-- The job that the words ask for, or none.
use Rattle.std.specs.Prelude.{ℕ, Bool, true, false, List, codes, bytes_eq, is_none, is_some, map, option_map, not, ◌&&◌, ◌||◌, Some, None, if◌then◌else◌}
use Rattle.std.specs.declared.option.Option.{Option}
use Rattle.std.specs.Option.{option_map_or}
use Rattle.clap.specs.Words.{Text}
use Rattle.hb_gen.specs.declared.texts.TheConstants.{NUMBER_MAX}
use Rattle.hb_jobs.specs.CommandLine.{has_matches}
use Rattle.hb_jobs.specs.Given.{is_traced, value_of}
use Rattle.hb_jobs.specs.Numbers.{number_of}
use Rattle.hb_jobs.specs.Orders.{order_of}
use Rattle.hb_jobs.specs.declared.options.Job.{Job}
use Rattle.hb_jobs.specs.declared.options.Job.TheVariants as job
use Rattle.hb_jobs.specs.declared.options.RunOptions.{RunOptions}
use Rattle.hb_jobs.specs.declared.options.TheConstants.{STEPS_MAX, STEPS_SEEN_MAX, STEPS_USUAL, CHANGES_MAX}

-- How a text is to run: the scripts whose turns come first, where an order was given, whether the trace is wanted, the steps of a script, and how often a type and a definition may change.
pub record Options : Type 0 where
  pub order : Option (List ℕ)
  pub trace : Bool
  pub steps : ℕ
  pub changes : ℕ

-- what may be wanted: that a text is run, that the derivations of its checks are written, or that written ones are verified; that the generated text of a size is written, or that it is run
pub data Wanted : Type 0 where
  Run : (options : Options) → Wanted
  Derive : Wanted
  Verify : Wanted
  Gen : (size : ℕ) → Wanted
  Work : (size : ℕ) → Wanted

-- a value that was left out is the usual one, and another one is a number in its range
abbrev pub number_or : (usual least most : ℕ) → Option Text → Option ℕ
number_or usual least most None = Some usual
number_or usual least most (Some text) = number_of least most text

-- a script may take fewer steps where its acts are to be seen, or its turns are ordered
abbrev pub steps_in : (seen : Bool) → Option Text → Option ℕ
steps_in true text = number_or STEPS_SEEN_MAX 1 STEPS_SEEN_MAX text
steps_in false text = number_or STEPS_USUAL 1 STEPS_MAX text

-- an order that was left out is none
abbrev pub order_in : Option Text → Option (Option (List ℕ))
order_in None = Some None
order_in (Some text) = option_map {U = Option (List ℕ)} (λ order. Some order) (order_of text)

abbrev pub options_by : (order : Option (List ℕ)) (trace : Bool) → (steps changes : Option ℕ) → Option Options
options_by order trace None changes = None
options_by order trace (Some steps) None = None
options_by order trace (Some steps) (Some changes) = Some (record { order = order; trace = trace; steps = steps; changes = changes })

abbrev pub options_in : Option (Option (List ℕ)) → (trace : Bool) → (steps changes : Option Text) → Option Options
options_in None trace steps changes = None
options_in (Some order) trace steps changes = options_by order trace (steps_in (trace || is_some order) steps) (number_or CHANGES_MAX 1 CHANGES_MAX changes)

-- how the words say that a text is to run, where each value that they have is good
abbrev pub options_of : List Text → Option Options
options_of words = options_in (order_in (value_of words (codes "order"))) (is_traced words) (value_of words (codes "steps")) (value_of words (codes "versions"))

-- the command has this name
abbrev pub is_named : Text → Option Text → Bool
is_named name command = option_map_or (λ text. bytes_eq text name) command false

-- a run has no number
abbrev pub run_in : (number : Option Text) → Option Options → Option Wanted
run_in None options = option_map Run options
run_in (Some number) options = None

-- the words have no option
abbrev pub is_plain : (order steps versions : Option Text) → (trace : Bool) → Bool
is_plain order steps versions trace = is_none order && is_none steps && is_none versions && not trace

abbrev pub is_plain_in : List Text → Bool
is_plain_in words = is_plain (value_of words (codes "order")) (value_of words (codes "steps")) (value_of words (codes "versions")) (is_traced words)

-- a command that stands alone has no option and no number
abbrev pub alone_in : (plain : Bool) → (number : Option Text) → Wanted → Option Wanted
alone_in plain number wanted = if plain && is_none number then Some wanted else None

-- a size, where there is no option
abbrev pub size_in : (plain : Bool) → (number : Option Text) → Option ℕ
size_in true (Some text) = number_of 1 NUMBER_MAX text
size_in _ _ = None

-- what the named command does, where the words give it what it takes, and nothing else
abbrev pub job_by : (command number : Option Text) → Option Options → (plain : Bool) → Option Wanted
job_by command number options plain = if is_named (codes "run") command then run_in number options else
    (if is_named (codes "derive") command then alone_in plain number Derive else
    (if is_named (codes "verify") command then alone_in plain number Verify else
    (if is_named (codes "gen") command then option_map Gen (size_in plain number) else
    (if is_named (codes "work") command then option_map Work (size_in plain number) else None))))

-- the words have a meaning as a command line, name a command, and give it what it takes
abbrev pub job_of : List Text → Option Wanted
job_of words = if has_matches words then job_by (value_of words (codes "command")) (value_of words (codes "n")) (options_of words) (is_plain_in words) else None

-- what the code's values tell
abbrev pub options_told : RunOptions → Options
options_told o = record { order = option_map (λ order. map (λ c. c.0) order.items) o.order; trace = o.trace; steps = o.steps; changes = o.changes }

abbrev pub told : Job → Wanted
told (job.Run options) = Run (options_told options)
told job.Derive = Derive
told job.Verify = Verify
told (job.Gen size) = Gen size.number
told (job.Work size) = Work size.number
