-- Where a fault is.
use Rattle.std.specs.Prelude.{ℕ, ◌≤◌, List, length, Option, Some, None, IfSome}
use Rattle.hb_lex.specs.declared.faults.LexFail.{LexFail}
use Rattle.hb_lex.specs.declared.faults.LexFail.TheVariants as fail

-- the number of the byte that a fault is at
abbrev pub byte_of : LexFail → Option ℕ
byte_of (fail.BadByte at) = Some at
byte_of (fail.OpenText at) = Some at
byte_of (fail.BadEscape at) = Some at
byte_of (fail.BigNumber at) = Some at
byte_of (fail.LongName at) = Some at
byte_of (fail.LongLiteral at) = Some at
byte_of fail.NoMemory = None

-- that byte is one of the text, or the end
abbrev pub IsFaultOf : List ℕ → LexFail → Type 0
IsFaultOf text fault = IfSome (byte_of fault) (λ at. at ≤ length text)
