-- Numbers and texts: their form, their value, and where a text goes wrong.
use Rattle.std.specs.Prelude.{ℕ, ◌+◌, ◌-◌, ◌*◌, List, [], ◌∷◌, Bool, true, false, ◌&&◌, nat_eq, if◌then◌else◌, Option, Some, None, fold}
use Rattle.std.specs.List.{list_all}
use Rattle.hb_lex.specs.declared.faults.LexFail.{LexFail}
use Rattle.hb_lex.specs.declared.faults.LexFail.TheVariants as fail
use Rattle.hb_lex.specs.Bytes.{is_line_feed, is_quote, is_backslash, is_digit, is_plain, is_escape}

-- one or more digits
abbrev pub is_number : List ℕ → Bool
is_number [] = false
is_number (b ∷ bytes) = is_digit b && list_all is_digit bytes

-- a number with one more digit behind it
abbrev pub with_digit : ℕ → ℕ → ℕ
with_digit value digit = 10 * value + (digit - 48)

-- digits read as decimal
abbrev pub value_of_number : List ℕ → ℕ
value_of_number digits = fold with_digit 0 digits

abbrev pub is_empty : List ℕ → Bool
is_empty [] = true
is_empty (b ∷ bytes) = false

-- The bytes behind an opening `"` are plain bytes and escapes, and then one `"`.
-- Here and below, `escaped` says that the byte before was the `\` of an escape.
abbrev pub is_closed : Bool → List ℕ → Bool
is_closed escaped [] = false
is_closed true (b ∷ bytes) = is_escape b && is_closed false bytes
is_closed false (b ∷ bytes) =
    if is_quote b then is_empty bytes
    else if is_backslash b then is_closed true bytes
    else (is_plain b && is_closed false bytes)

abbrev pub is_text : List ℕ → Bool
is_text [] = false
is_text (b ∷ bytes) = is_quote b && is_closed false bytes

-- what an escape stands for, by the byte behind its `\`
abbrev pub escape_value : ℕ → ℕ
escape_value b = if nat_eq b 110 then 10 else if nat_eq b 116 then 9 else b

-- the value of the bytes behind an opening `"`
abbrev pub value_behind : Bool → List ℕ → List ℕ
value_behind escaped [] = []
value_behind true (b ∷ bytes) = escape_value b ∷ value_behind false bytes
value_behind false (b ∷ bytes) =
    if is_quote b then []
    else if is_backslash b then value_behind true bytes
    else (b ∷ value_behind false bytes)

abbrev pub value_of_text : List ℕ → List ℕ
value_of_text [] = []
value_of_text (b ∷ bytes) = value_behind false bytes

-- Where the bytes behind the opening `"` at `quote` first go wrong. The next of them stands at `at`.
abbrev pub text_fault : ℕ → Bool → ℕ → List ℕ → Option LexFail
text_fault quote escaped at [] = Some (fail.OpenText quote)
text_fault quote true at (b ∷ bytes) =
    if is_line_feed b then Some (fail.OpenText quote)
    else if is_escape b then text_fault quote false (at + 1) bytes
    else Some (fail.BadEscape (at - 1))
text_fault quote false at (b ∷ bytes) =
    if is_quote b then None
    else if is_backslash b then text_fault quote true (at + 1) bytes
    else if is_line_feed b then Some (fail.OpenText quote)
    else if is_plain b then text_fault quote false (at + 1) bytes
    else Some (fail.BadByte at)
