-- What deeds build, one after another, with no sight of the text.
use Rattle.std.specs.Prelude.{ℕ, zero, suc, List, [], ◌∷◌}
use Rattle.hb_lex.specs.declared.spans.Token.{Token}
use Rattle.hb_grammar.specs.Language.{Act}
use Rattle.hb_build.specs.declared.held.Spot.{Spot}
use Rattle.hb_build.specs.Acts.{Answer, Goes, Work, act}
use Rattle.hb_build.specs.Follow.{and_then, last_of, spot_at, spot_of}
use Rattle.hb_canonical.specs.Deeds.{Deed}

-- all of them, up to the first fault, where each stands at the spot of its place in the list
abbrev pub perform : (ℕ → Spot) → List Deed → Work → Answer
perform spot [] w = Goes w
perform spot (d ∷ later) w = and_then (act d.action (spot zero) d.bytes w) (perform (λ n. spot (suc n)) later)

-- where the actions of a text stand
abbrev pub spots_in : List ℕ → List Token → List Act → ℕ → Spot
spots_in text tokens [] n = spot_at text 0
spots_in text tokens (x ∷ later) zero = spot_of text (last_of tokens x.at)
spots_in text tokens (x ∷ later) (suc n) = spots_in text tokens later n
