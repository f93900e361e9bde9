-- What the actions of a text build, one after another.
use Rattle.std.specs.Prelude.{ℕ, zero, suc, List, [], ◌∷◌, Option, Some, None, slice_get}
use Rattle.hb_lex.specs.{Place.column_at, Place.line_at, Tokens.bytes_of}
use Rattle.hb_lex.specs.declared.spans.Token.{Token}
use Rattle.hb_grammar.specs.Language.{Act}
use Rattle.hb_build.specs.declared.held.Spot.{Spot}
use Rattle.hb_build.specs.Acts.{Answer, Goes, Fails, Lost, Work, act}

-- the byte with this number, with its line and column
abbrev pub spot_at : List ℕ → ℕ → Spot
spot_at text at = record { at = at; line = line_at text at; column = column_at text at }

-- the last of so many tokens
abbrev pub last_of : List Token → ℕ → Option Token
last_of tokens zero = None
last_of tokens (suc n) = slice_get tokens n

-- the first byte of a token, and its bytes; the front of the text, and none, where there is no token
abbrev pub first_byte : Option Token → ℕ
first_byte None = 0
first_byte (Some token) = token.from

abbrev pub bytes_in : List ℕ → Option Token → List ℕ
bytes_in text None = []
bytes_in text (Some token) = bytes_of text token

-- where it stands
abbrev pub spot_of : List ℕ → Option Token → Spot
spot_of text token = spot_at text (first_byte token)

-- an action behind the last token that was read
abbrev pub act_in : List ℕ → List Token → Act → Work → Answer
act_in text tokens x w = act x.action (spot_of text (last_of tokens x.at)) (bytes_in text (last_of tokens x.at)) w

abbrev pub and_then : Answer → (Work → Answer) → Answer
and_then (Goes w) go = go w
and_then (Fails fault) go = Fails fault
and_then Lost go = Lost

-- all of them, up to the first fault
abbrev pub follow : List ℕ → List Token → List Act → Work → Answer
follow text tokens [] w = Goes w
follow text tokens (x ∷ later) w = and_then (act_in text tokens x w) (follow text tokens later)
