-- The program at the front of a bundle, piece by piece.
use Rattle.std.specs.Prelude.{ℕ, List, length, take, drop, Option, Some, None, codes, nat_lt, if◌then◌else◌}
use Rattle.hb_deriv_text.specs.Reading.{◌>>?◌, behind, split, number}
use Rattle.hb_bundle.specs.Bundle.{closing}

-- a text, and what stands behind its line feed
abbrev pub closed : List ℕ → List ℕ → Option (List ℕ × List ℕ)
closed text bytes = behind (closing text) bytes >>? (λ rest. Some (text, rest))

-- a text of so many bytes
abbrev pub text_in : List ℕ → ℕ → Option (List ℕ × List ℕ)
text_in bytes n = if nat_lt 1048576 n then None else (if nat_lt (length bytes) n then None else closed (take n bytes) (drop n bytes))

abbrev pub counted_in : List ℕ × List ℕ → Option (List ℕ × List ℕ)
counted_in line = number line.0 >>? text_in line.1

abbrev pub line_in : List ℕ → Option (List ℕ × List ℕ)
line_in bytes = split 10 bytes >>? counted_in

-- the text of the program that begins the bytes, and what stands behind it
abbrev pub opened_in : List ℕ → Option (List ℕ × List ℕ)
opened_in bytes = behind (codes "program ") bytes >>? line_in
