-- How long a token may be, and how great its number.
use Rattle.std.specs.Prelude.{ℕ}

-- the bytes of a name or class name
abbrev pub longest_name : ℕ
longest_name = 64

-- the bytes of a text's value
abbrev pub longest_text : ℕ
longest_text = 1024

-- the greatest number that a literal says
abbrev pub greatest_number : ℕ
greatest_number = 9223372036854775807
