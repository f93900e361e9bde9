-- A value as a text, and the line that prints it.
use Rattle.std.specs.Prelude.{ℕ, ℤ, List, [], ◌∷◌, ◌++◌, true, false, nat_eq, codes, flat_map, if◌then◌else◌}
use Rattle.std.specs.Fmt.{signed_decimal}
use Rattle.hb_types.specs.declared.ids.ClassId.{ClassId}
use Rattle.hb_tree.specs.{Table.Table, Canon.bytes_at}
use Rattle.hb_eval.specs.declared.value.Value.{Value}
use Rattle.hb_eval.specs.declared.value.Value.TheVariants as value

abbrev pub shown_int : ℤ → List ℕ
shown_int n = signed_decimal n

abbrev pub shown_object : Table → ClassId → List ℕ
shown_object t c = codes "#<" ++ bytes_at t.classes c.0 ++ codes ">"

-- the text of a value; that of an object names its class
abbrev pub shown : Table → Value → List ℕ
shown t value.Nil = codes "nil"
shown t (value.Bool true) = codes "true"
shown t (value.Bool false) = codes "false"
shown t (value.Int n) = shown_int n
shown t (value.Str x) = x
shown t (value.Object c) = shown_object t c

-- the backslash, the line feed and the tab are written by two bytes
abbrev pub escape : ℕ → List ℕ
escape b =
    if nat_eq b 92 then codes "\\\\"
    else (if nat_eq b 10 then codes "\\n" else (if nat_eq b 9 then codes "\\t" else b ∷ []))

abbrev pub print_line : List ℕ → List ℕ
print_line text = codes "> " ++ flat_map escape text ++ codes "\n"
