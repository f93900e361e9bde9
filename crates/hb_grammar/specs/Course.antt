-- The way of a text through the grammar, from one action to the next.
use Rattle.std.specs.Prelude.{◌≡◌, ℕ, zero, suc, ◌+◌, ◌≤◌, List, [], ◌∷◌, ◌++◌, drop, length}
use Rattle.hb_lex.specs.declared.{kinds.TokenKind.TokenKind, spans.Token.Token}
use Rattle.hb_grammar.specs.{Grammar.alternatives, Language.kinds_of, Language.program}
use Rattle.hb_grammar.specs.declared.{actions.Action.Action, symbols.Symbol.Symbol, symbols.Symbol.TheVariants.Token as T, symbols.Symbol.TheVariants.Phrase as N}
use Rattle.hb_grammar.specs.declared.{symbols.Symbol.TheVariants.Action as A, wanted.Wanted.Wanted}
use Rattle.hb_grammar.specs.Sight.{choice, front, Does, Missed}

-- the symbols that are ahead, the next one first, and how many of the tokens were read
pub record Course : Type 0 where
  pub tokens : List Token
  pub ahead : List Symbol
  pub read : ℕ

-- the kinds of the tokens that are left
abbrev pub left : Course → List TokenKind
left c = drop c.read (kinds_of c.tokens)

-- before the first token
abbrev pub start_of : List Token → Course
start_of tokens = record { tokens = tokens; ahead = program; read = 0 }

-- in so many turns one comes from the first symbols and tokens to the others: each turn reads a token or replaces a phrase
abbrev pub Turns : ℕ → List Symbol → List TokenKind → List Symbol → List TokenKind → Type 0
Turns zero ahead tokens ahead' tokens' = (ahead ≡ ahead') × (tokens ≡ tokens')
Turns (suc n) [] tokens ahead' tokens' = ⊥
Turns (suc n) (T j ∷ ahead) [] ahead' tokens' = ⊥
Turns (suc n) (T j ∷ ahead) (t ∷ ts) ahead' tokens' = (t ≡ j) × Turns n ahead ts ahead' tokens'
Turns (suc n) (A a ∷ ahead) tokens ahead' tokens' = ⊥
Turns (suc n) (N s ∷ ahead) tokens ahead' tokens' = Turns n (choice (alternatives s) (front tokens) ++ ahead) tokens ahead' tokens'

-- without an action one comes from the first symbols and tokens to the others
pub record Leads (ahead : List Symbol) (tokens : List TokenKind) (ahead' : List Symbol) (tokens' : List TokenKind) : Type 0 where
  pub turns : ℕ
  pub way : Turns turns ahead tokens ahead' tokens'

-- the next action is this, and behind it these symbols and tokens are left
abbrev pub Reaches : List Symbol → List TokenKind → Action → List Symbol → List TokenKind → Type 0
Reaches ahead tokens a ahead' tokens' = Leads ahead tokens (A a ∷ ahead') tokens'

-- from the old place the next action is this, and the new place is behind it
pub record ComesTo (old : Course) (a : Action) (new : Course) : Type 0 where
  pub tokens : new.tokens ≡ old.tokens
  pub within : new.read ≤ length new.tokens
  pub reached : Reaches old.ahead (left old) a new.ahead (left new)
  pub read : new.read + length (left new) ≡ old.read + length (left old)

-- from the old place no action comes, and the tokens stop to begin a program at the new place, where this is wanted
pub record StopsAt (old : Course) (w : Wanted) (new : Course) : Type 0 where
  pub tokens : new.tokens ≡ old.tokens
  pub within : new.read ≤ length new.tokens
  pub does : Does old.ahead old.read (left old) [] (Missed w (length (left new)))
