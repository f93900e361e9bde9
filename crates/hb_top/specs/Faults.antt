-- The first fault of a text, and its line.
use Rattle.std.specs.Prelude.{◌≡◌, ◌⊎◌, ℕ, List, ◌++◌, Option, Some, None, codes, decimal}
use Rattle.hb_lex.specs.declared.faults.LexFail.{LexFail}
use Rattle.hb_lex.specs.declared.faults.LexFail.TheVariants as lex
use Rattle.hb_lex.specs.declared.spans.Token.{Token}
use Rattle.hb_lex.specs.Place.{column_at, line_at}
use Rattle.hb_lex.specs.Text.{HasFault, HasTokens}
use Rattle.hb_grammar.specs.declared.wanted.Wanted.{Wanted}
use Rattle.hb_grammar.specs.declared.wanted.Wanted.TheVariants as want
use Rattle.hb_build.specs.declared.faults.Limit.{Limit}
use Rattle.hb_build.specs.declared.faults.Limit.TheVariants as limit
use Rattle.hb_build.specs.declared.faults.ParseFail.{ParseFail}
use Rattle.hb_build.specs.declared.faults.ParseFail.TheVariants as parse
use Rattle.hb_parse.specs.Text.{IsFault}

-- a fault as it is told: the words of its kind, and its byte
pub record Fault : Type 0 where
  pub words : List ℕ
  pub at : ℕ

abbrev pub told : List ℕ → ℕ → Option Fault
told words at = Some (record { words = words; at = at })

abbrev pub wanted_words : Wanted → List ℕ
wanted_words want.End = codes "Expected end"
wanted_words want.Then = codes "Expected then"
wanted_words want.Do = codes "Expected do"
wanted_words want.Close = codes "Expected )"
wanted_words want.Expression = codes "Expected expression"
wanted_words want.Name = codes "Expected name"
wanted_words want.TypeWord = codes "Expected type"
wanted_words want.ClassName = codes "Expected classname"
wanted_words want.Open = codes "Expected ("
wanted_words want.Dot = codes "Expected ."
wanted_words want.Colon = codes "Expected :"
wanted_words want.Arrow = codes "Expected ->"
wanted_words want.New = codes "Expected new"
wanted_words want.Item = codes "Expected item"

abbrev pub limit_words : Limit → List ℕ
limit_words limit.Classes = codes "TooMany classes"
limit_words limit.Scripts = codes "TooMany scripts"
limit_words limit.Nodes = codes "TooMany nodes"
limit_words limit.Types = codes "TooMany types"
limit_words limit.Body = codes "TooMany body"
limit_words limit.Calls = codes "TooMany calls"
limit_words limit.Variables = codes "TooMany variables"
limit_words limit.Parameters = codes "TooMany parameters"
limit_words limit.Arguments = codes "TooMany arguments"

-- a fault of the bytes; want of memory is none
abbrev pub lex_fault : LexFail → Option Fault
lex_fault (lex.BadByte at) = told (codes "BadByte") at
lex_fault (lex.OpenText at) = told (codes "OpenText") at
lex_fault (lex.BadEscape at) = told (codes "BadEscape") at
lex_fault (lex.BigNumber at) = told (codes "BigNumber") at
lex_fault (lex.LongName at) = told (codes "LongName") at
lex_fault (lex.LongLiteral at) = told (codes "LongLiteral") at
lex_fault lex.NoMemory = None

-- a fault of the tokens; want of memory is none
abbrev pub parse_fault : ParseFail → Option Fault
parse_fault (parse.Expected wanted at) = told (wanted_words wanted) at
parse_fault (parse.UnknownClass at) = told (codes "UnknownClass") at
parse_fault (parse.TwiceClass at) = told (codes "TwiceClass") at
parse_fault (parse.TwiceScript at) = told (codes "TwiceScript") at
parse_fault (parse.TwiceParam at) = told (codes "TwiceParam") at
parse_fault (parse.TooDeep at) = told (codes "TooDeep") at
parse_fault (parse.TooMany limit at) = told (limit_words limit) at
parse_fault parse.NoMemory = None

-- its line, with the place of its byte in the text
abbrev pub fault_line : List ℕ → Fault → List ℕ
fault_line text fault =
    codes "text " ++ fault.words ++ codes " " ++ decimal (line_at text fault.at) ++ codes ":" ++ decimal (column_at text fault.at) ++ codes "\n"

-- the bytes of the text are no tokens, and this is their first fault
pub record IsLexFault (text : List ℕ) (fault : Fault) : Type 0 where
  pub cause : LexFail
  pub first : HasFault text cause
  pub is_told : lex_fault cause ≡ Some fault

-- its tokens are no program, and this is their first fault
pub record IsParseFault (text : List ℕ) (fault : Fault) : Type 0 where
  pub tokens : List Token
  pub read : HasTokens text tokens
  pub cause : ParseFail
  pub first : IsFault text tokens cause
  pub is_told : parse_fault cause ≡ Some fault

-- the first fault of the text
abbrev pub IsFirstFault : List ℕ → Fault → Type 0
IsFirstFault text fault = IsLexFault text fault ⊎ IsParseFault text fault
