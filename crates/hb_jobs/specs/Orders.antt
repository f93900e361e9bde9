-- The order of turns among the words: a character for each turn, 1 to 9 for the first nine scripts and a to g for the others.
use Rattle.std.specs.Prelude.{ℕ, ◌-◌, List, [], ◌∷◌, length, if◌then◌else◌}
use Rattle.std.specs.declared.option.Option.{Option}
use Rattle.std.specs.Prelude.{Some, None, option_map}
use Rattle.hb_jobs.specs.Numbers.{in_range}
use Rattle.hb_jobs.specs.declared.orders.TheConstants.{TURNS_MAX}

-- the script that a character names, by its place in the text from 1
abbrev pub script_of : ℕ → Option ℕ
script_of b = if in_range 49 57 b then Some (b - 48) else (if in_range 97 103 b then Some (b - 87) else None)

abbrev pub put_first : Option ℕ → Option (List ℕ) → Option (List ℕ)
put_first None rest = None
put_first (Some script) rest = option_map (λ scripts. script ∷ scripts) rest

-- the scripts that characters name, where each names one
abbrev pub scripts_of : List ℕ → Option (List ℕ)
scripts_of [] = Some []
scripts_of (b ∷ text) = put_first (script_of b) (scripts_of text)

-- the turns that a text orders: one at least, and so many at most
abbrev pub order_of : List ℕ → Option (List ℕ)
order_of text = if in_range 1 TURNS_MAX (length text) then scripts_of text else None
