-- What is told of a derivation, by the walk over the body that it names.
use Rattle.std.specs.Prelude.{ℕ, List, [], ◌++◌, Option, Some, None, Ok, Err, Bool, true, false, codes, decimal}
use Rattle.std.specs.Option.{option_map}
use Rattle.hb_tree.specs.Table.{Table}
use Rattle.hb_deriv.specs.Derivation.{Content}
use Rattle.hb_deriv.specs.Programs.{sites_of, subject_of}
use Rattle.hb_deriv.specs.Walk.{State, Walked, AtUses, AtStep, walk_body}

-- the walk, where the derivation names a body and a type of the program, as each does that the format can say
abbrev pub walk_of : Table → Content → Option (Walked State)
walk_of t d = option_map (λ s. walk_body (sites_of t) s d) (subject_of t d.class d.body d.declared)

abbrev pub no_step : ℕ → List ℕ
no_step n = codes "no step " ++ decimal n ++ codes "\n"

abbrev pub no_uses : ℕ → List ℕ
no_uses n = codes "no uses " ++ decimal n ++ codes "\n"

abbrev pub line_of : Option (Walked State) → List ℕ
line_of None = []
line_of (Some (Ok last)) = codes "ok\n"
line_of (Some (Err (AtStep n))) = no_step n
line_of (Some (Err (AtUses n))) = no_uses n

abbrev pub goes_through : Option (Walked State) → Bool
goes_through None = false
goes_through (Some (Ok last)) = true
goes_through (Some (Err fault)) = false

-- the line of a derivation, and whether it is good
abbrev pub verdict_line : Table → Content → List ℕ
verdict_line t d = line_of (walk_of t d)

abbrev pub is_good : Table → Content → Bool
is_good t d = goes_through (walk_of t d)
