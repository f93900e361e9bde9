-- The canonical text of a program that a text says reads back as the same program but for places.
use Rattle.std.proofs.Common.{◌≡◌, ◌≤◌, ℕ, List, refl, sym, ◌∙◌, ap, subst}
use Rattle.hb_lex.specs.declared.spans.Token.{Token}
use Rattle.hb_lex.specs.Text.{HasTokens}
use Rattle.hb_tree.specs.{Canon.canon, Program.IsProgram, Table.Table}
use Rattle.hb_tree.specs.declared.limits.TheConstants.{CONSTRUCTS_MAX}
use Rattle.hb_parse.specs.Text.{Says}
use Rattle.hb_canonical.proofs.{CalmLemmas.deeds-calm, PerformLemmas.deeds-build, ProgramTextLemmas.canonical_deeds, SimulationLemmas.simulated, SourceLemmas.source-depth}
use Rattle.hb_canonical.proofs.{SourceLemmas.source-words}
use Rattle.hb_canonical.specs.{Perform.perform, Perform.spots_in, Same.IsSameButPlaces}
use Rattle.hb_canonical.specs.Deeds.{Deed, bare, deepest, deeds_in, deeds_of}
use Rattle.hb_build.specs.{Said.Said, Said.said_in, Acts.Goes, Acts.nothing}

pub reads-back : (text : List ℕ) (tokens : List Token) (t : Table) → HasTokens text tokens → IsProgram t → Says text tokens (said_in t)
    → (others : List Token) → HasTokens (canon t) others → (again : Said) × Says (canon t) others again × IsSameButPlaces (said_in t) again
reads-back text tokens t lexed ok says others relexed =
    let c = canonical_deeds t ok others relexed in
    let ds : List Deed = deeds_in text tokens says.done in
    let es : List Deed = deeds_of (said_in t) in
    let built : perform (spots_in text tokens says.done) ds nothing ≡ Goes says.work = sym (deeds-build text tokens says.done nothing lexed says.actions) ∙ says.built in
    let words : bare ds ≡ bare es = source-words text tokens says.done says.work says.actions says.built ∙ ap (λ s. bare (deeds_of s)) says.said_is in
    let depth : deepest es 0 ≤ CONSTRUCTS_MAX = subst (λ (s : Said). deepest (deeds_of s) 0 ≤ CONSTRUCTS_MAX) says.said_is (source-depth text tokens says.done says.work says.actions says.built) in
    let far = simulated (spots_in text tokens says.done) (spots_in (canon t) others c.0) ds es says.work words (deeds-calm t ok) depth built in (
      far.0.said,
      record {
        done = c.0;
        actions = c.1;
        work = far.0;
        built = deeds-build (canon t) others c.0 nothing relexed c.1 ∙ ap (λ l. perform (spots_in (canon t) others c.0) l nothing) c.2 ∙ far.1;
        said_is = refl;
      },
      subst (λ (s : Said). IsSameButPlaces s far.0.said) says.said_is far.2,
    )
