-- What holds all the way through a text: what is left of the grammar fits what was built so far.
use Rattle.std.specs.Prelude.{ℕ, ◌+◌, ◌≤◌, List, Option, Some, length}
use Rattle.hb_lex.specs.declared.kinds.TokenKind.{TokenKind}
use Rattle.hb_lex.specs.declared.kinds.TokenKind.TheVariants as k
use Rattle.hb_grammar.specs.declared.symbols.Symbol.{Symbol}
use Rattle.hb_build.specs.{Needs.HasToken, Acts.Work}
use Rattle.hb_build.specs.Fits.{State, Fits, Stands}

-- the names that the token just read may still bring
abbrev pub to_come : Option TokenKind → ℕ
to_come (Some k.Name) = 1
to_come _ = 0

-- So many tokens were read, the last of them has these bytes, and the symbols are to come. There are no more names than
-- tokens.
pub record Ready (stack : List Symbol) (bytes : List ℕ) (read : ℕ) (w : Work) : Type 0 where
  pub state : State
  pub fits : Fits stack state
  pub stands : Stands state.tags w.pile
  pub has_token : HasToken state.last bytes
  pub few_names : length w.said.names + to_come state.last ≤ read
