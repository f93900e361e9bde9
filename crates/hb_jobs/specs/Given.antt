-- What the words give, by the matches of the command.
use Rattle.std.specs.Prelude.{◌≡◌, Bool, List, codes, option_map}
use Rattle.std.specs.declared.option.Option.{Option}
use Rattle.std.specs.Option.{option_map_or}
use Rattle.std.specs.Str.{bytes_eq}
use Rattle.std.specs.Prelude.{false, map}
use Rattle.std.specs.Borrow.{Bor}
use Rattle.clap.specs.Words.{Row, Text, first_of, matches_of}
use Rattle.hb_jobs.specs.CommandLine.{hbird_app}
use Rattle.hb_jobs.specs.declared.given.GivenWords.{GivenWords}

-- the texts of the words
abbrev pub texts : List (Bor Text) → List Text
texts = map (λ s. s.now)

abbrev pub rows_for : List Text → List Row
rows_for words = matches_of hbird_app words

-- the value of an argument, by its id
abbrev pub value_of : List Text → Text → Option Text
value_of words id = first_of id (rows_for words)

-- the text of a flag that was given
abbrev pub is_true_text : Option Text → Bool
is_true_text text = option_map_or (λ bytes. bytes_eq bytes (codes "true")) text false

abbrev pub is_traced : List Text → Bool
is_traced words = is_true_text (value_of words (codes "trace"))

-- the fields are what the matches have
pub record Gives (words : List Text) (given : GivenWords) : Type 0 where
  pub command : option_map (λ s. s.now) given.command ≡ value_of words (codes "command")
  pub number : option_map (λ s. s.now) given.number ≡ value_of words (codes "n")
  pub steps : option_map (λ s. s.now) given.steps ≡ value_of words (codes "steps")
  pub versions : option_map (λ s. s.now) given.versions ≡ value_of words (codes "versions")
  pub order : option_map (λ s. s.now) given.order ≡ value_of words (codes "order")
  pub trace : given.trace ≡ is_traced words
