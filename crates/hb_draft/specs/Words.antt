-- Words that are numbered by their first occurrence.
use Rattle.std.specs.Prelude.{ℕ, List, [], ◌∷◌, ◌++◌, if◌then◌else◌, bytes_eq}
use Rattle.std.specs.List.{list_any}

-- the words once this one was met: it goes last where it is new
abbrev pub with_word : List (List ℕ) → List ℕ → List (List ℕ)
with_word words word = if list_any (bytes_eq word) words then words else words ++ word ∷ []
