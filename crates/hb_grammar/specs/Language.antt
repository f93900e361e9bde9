-- What the grammar means: which lists of tokens are programs, and where a list stops to begin one.
use Rattle.std.specs.Prelude.{◌≡◌, ℕ, zero, suc, ◌⊎◌, ◌+◌, ◌<◌, ◌≤◌, List, [], ◌∷◌, ◌++◌, length, map, take, Option, Some, None}
use Rattle.std.specs.List.{AllByRecursion}
use Rattle.hb_lex.specs.declared.{kinds.TokenKind.TokenKind, spans.Token.Token}
use Rattle.hb_lex.specs.declared.kinds.TokenKind.TheVariants as k
use Rattle.hb_grammar.specs.declared.{actions.Action.Action, symbols.Symbol.Symbol, symbols.Symbol.TheVariants.Token as T, symbols.Symbol.TheVariants.Phrase as N}
use Rattle.hb_grammar.specs.declared.{symbols.Symbol.TheVariants.Action as A, wanted.Wanted.Wanted}
use Rattle.hb_grammar.specs.declared.symbols.Sort.TheVariants as g
use Rattle.hb_grammar.specs.declared.wanted.Wanted.TheVariants as want
use Rattle.hb_grammar.specs.Grammar.{alternatives}

abbrev pub kinds_of : List Token → List TokenKind
kinds_of tokens = map (λ token. token.kind) tokens

abbrev pub IsOneOf : {X : Type 0} → List X → X → Type 0
IsOneOf [] x = ⊥
IsOneOf (y ∷ ys) x = (x ≡ y) ⊎ IsOneOf ys x

-- the symbols derive the tokens, in at most n steps; actions stand for no tokens
abbrev pub Derives : ℕ → List Symbol → List TokenKind → Type 0
Derives zero stack tokens = ⊥
Derives (suc n) [] tokens = tokens ≡ []
Derives (suc n) (T j ∷ stack) tokens = (rest : List TokenKind) × (tokens ≡ j ∷ rest) × Derives n stack rest
Derives (suc n) (A a ∷ stack) tokens = Derives n stack tokens
Derives (suc n) (N s ∷ stack) tokens = (phrase : List Symbol) × IsOneOf (alternatives s) phrase × Derives n (phrase ++ stack) tokens

-- the tokens are a sentence of the symbols
abbrev pub IsSentence : List Symbol → List TokenKind → Type 0
IsSentence stack tokens = (n : ℕ) × Derives n stack tokens

-- the tokens begin a sentence
abbrev pub Begins : List Symbol → List TokenKind → Type 0
Begins stack tokens = (more : List TokenKind) × IsSentence stack (tokens ++ more)

-- the token at this place, or the end, is the first with which the tokens begin no sentence
pub record IsFirstMissed (stack : List Symbol) (tokens : List TokenKind) (at : ℕ) : Type 0 where
  pub within : at ≤ length tokens
  pub begins : Begins stack (take at tokens)
  pub no_more : at < length tokens → Begins stack (take (at + 1) tokens) → ⊥
  pub not_whole : at ≡ length tokens → IsSentence stack tokens → ⊥

-- the token that stands for what is wanted; the end of the text stands for the last, and a script may come where it may
abbrev pub sign : Wanted → Option TokenKind
sign want.End = Some k.KwEnd
sign want.Then = Some k.KwThen
sign want.Do = Some k.KwDo
sign want.Close = Some k.CloseParen
sign want.Expression = Some k.Number
sign want.Name = Some k.Name
sign want.TypeWord = Some k.TyNil
sign want.ClassName = Some k.ClassName
sign want.Open = Some k.OpenParen
sign want.Dot = Some k.Dot
sign want.Colon = Some k.Colon
sign want.Arrow = Some k.Arrow
sign want.New = Some k.KwNew
sign want.Item = None

-- the order in which they are tried
abbrev pub rank : Wanted → ℕ
rank want.End = 0
rank want.Then = 1
rank want.Do = 2
rank want.Close = 3
rank want.Expression = 4
rank want.Name = 5
rank want.TypeWord = 6
rank want.ClassName = 7
rank want.Open = 8
rank want.Dot = 9
rank want.Colon = 10
rank want.Arrow = 11
rank want.New = 12
rank want.Item = 13

abbrev pub with_sign : Option TokenKind → List TokenKind → List TokenKind
with_sign None more = []
with_sign (Some t) more = t ∷ more

-- what is wanted may stand behind these tokens
abbrev pub MayFollow : List Symbol → List TokenKind → Wanted → Type 0
MayFollow stack before w = (more : List TokenKind) × IsSentence stack (before ++ with_sign (sign w) more)

-- it is the first that may
pub record IsFirstWanted (stack : List Symbol) (before : List TokenKind) (w : Wanted) : Type 0 where
  pub may : MayFollow stack before w
  pub first : (other : Wanted) → MayFollow stack before other → rank w ≤ rank other

-- a whole text
abbrev pub program : List Symbol
program = N g.Program ∷ []

-- the tokens are a program's
abbrev pub IsProgramText : List TokenKind → Type 0
IsProgramText tokens = IsSentence program tokens

-- here the tokens stop to begin a program, where this is wanted
pub record Misses (tokens : List TokenKind) (at : ℕ) (w : Wanted) : Type 0 where
  pub missed : IsFirstMissed program tokens at
  pub wanted : IsFirstWanted program (take at tokens) w

-- ── actions ──

-- an action, and how many tokens were read before it
pub record Act : Type 0 where
  pub action : Action
  pub at : ℕ

abbrev pub act : Action → ℕ → Act
act a at = record { action = a; at = at }

-- the symbols derive the tokens, of which `at` were read before, and these are the actions on the way
abbrev pub Translates : ℕ → List Symbol → ℕ → List TokenKind → List Act → Type 0
Translates zero stack at tokens done = ⊥
Translates (suc n) [] at tokens done = (tokens ≡ []) × (done ≡ [])
Translates (suc n) (T j ∷ stack) at tokens done = (rest : List TokenKind) × (tokens ≡ j ∷ rest) × Translates n stack (at + 1) rest done
Translates (suc n) (A a ∷ stack) at tokens done = (later : List Act) × (done ≡ act a at ∷ later) × Translates n stack at tokens later
Translates (suc n) (N s ∷ stack) at tokens done = (phrase : List Symbol) × IsOneOf (alternatives s) phrase × Translates n (phrase ++ stack) at tokens done

-- the actions of a program's tokens
abbrev pub HasActions : List TokenKind → List Act → Type 0
HasActions tokens done = (n : ℕ) × Translates n program 0 tokens done

-- The actions of tokens that begin no program: those that are known where the tokens stop to begin one. They come, in a
-- program that begins with the tokens before and there has what is wanted, before that is read.
pub record HasFirstActions (tokens : List TokenKind) (at : ℕ) (w : Wanted) (done : List Act) : Type 0 where
  pub missed : Misses tokens at w
  pub more : List TokenKind
  pub later : List Act
  pub program : HasActions (take at tokens ++ with_sign (sign w) more) (done ++ later)
  pub before : AllByRecursion (λ x. x.at ≤ at) done
  pub behind : AllByRecursion (λ x. at < x.at) later
