-- Kinds of bytes.
use Rattle.std.specs.Prelude.{ℕ, Bool, ◌||◌, ◌&&◌, nat_le, nat_eq, not}

-- the space, the tab and the carriage return
abbrev pub is_blank : ℕ → Bool
is_blank b = nat_eq b 32 || nat_eq b 9 || nat_eq b 13

abbrev pub is_hash : ℕ → Bool
is_hash b = nat_eq b 35

abbrev pub is_line_feed : ℕ → Bool
is_line_feed b = nat_eq b 10

abbrev pub is_quote : ℕ → Bool
is_quote b = nat_eq b 34

abbrev pub is_backslash : ℕ → Bool
is_backslash b = nat_eq b 92

abbrev pub is_digit : ℕ → Bool
is_digit b = nat_le 48 b && nat_le b 57

abbrev pub is_capital : ℕ → Bool
is_capital b = nat_le 65 b && nat_le b 90

-- a small letter or `_`
abbrev pub is_small : ℕ → Bool
is_small b = (nat_le 97 b && nat_le b 122) || nat_eq b 95

-- a byte that a word may go on with
abbrev pub is_word_byte : ℕ → Bool
is_word_byte b = is_small b || is_capital b || is_digit b

-- a byte that stands for itself in a text
abbrev pub is_plain : ℕ → Bool
is_plain b = nat_le 32 b && nat_le b 126 && not (is_quote b) && not (is_backslash b)

-- `"`, `\`, `n` or `t`, which make an escape behind a `\`
abbrev pub is_escape : ℕ → Bool
is_escape b = is_quote b || is_backslash b || nat_eq b 110 || nat_eq b 116
