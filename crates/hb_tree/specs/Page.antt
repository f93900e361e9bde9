-- What is written so far.
use Rattle.std.specs.Prelude.{ℕ, List, [], ◌∷◌, ◌++◌, Bool, false}
use Rattle.hb_tree.specs.Pieces.{Piece, spell_behind}

-- the bytes so far, and whether a space may stand behind them
pub record Page : Type 0 where
  pub text : List ℕ
  pub spaced : Bool

abbrev pub blank : Page
blank = record { text = []; spaced = false }

abbrev pub spaced_behind : Bool → List Piece → Bool
spaced_behind spaced [] = spaced
spaced_behind spaced (p ∷ ps) = spaced_behind p.behind ps

-- the page with more pieces behind
unfoldable pub written : Page → List Piece → Page
written page ps = record { text = page.text ++ spell_behind page.spaced ps; spaced = spaced_behind page.spaced ps }
