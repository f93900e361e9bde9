-- A text has one program.
use Rattle.std.proofs.Common.{◌≡◌, ℕ, List, length, ap, subst}
use Rattle.std.proofs.lemmas.List.{length-map}
use Rattle.hb_lex.specs.Text.{HasTokens}
use Rattle.hb_lex.specs.declared.spans.Token.{Token}
use Rattle.hb_tree.specs.{Program.IsProgram, Table.Table}
use Rattle.hb_draft.specs.{Laid.IsLaid, Made.place_of, Unfinished.setup_in, Unfinished.scripts_in, Whole.IsWhole}
use Rattle.hb_draft.proofs.OneTable.{one-table}
use Rattle.hb_build.specs.Said.{Said, said_in}
use Rattle.hb_parse.specs.Text.{IsProgramOf}
use Rattle.hb_parse.proofs.{DifferentLemmas.whole, OneLemmas.one-said}

pub one-program : (text : List ℕ) (tokens : List Token) (a b : Table) → HasTokens text tokens → IsProgram a → IsProgram b → IsLaid a → IsLaid b
    → IsProgramOf text tokens a → IsProgramOf text tokens b → a ≡ b
one-program text tokens a b lexed ok fine laid likewise one other =
    let same : said_in a ≡ said_in b = one-said text tokens (said_in a) (said_in b) one other in
    let reached : IsWhole (length (said_in a).places) (setup_in a) (scripts_in a) = whole text tokens lexed (said_in a) one in
    one-table a b ok fine laid likewise (ap (λ (s : Said). s.classes) same) (ap (λ (s : Said). s.names) same) (ap (λ (s : Said). s.texts) same)
    (ap (λ (s : Said). s.places) same) (ap (λ (s : Said). s.bodies) same) (ap (λ (s : Said). s.types) same) (ap (λ (s : Said). s.setup) same) (ap (λ (s : Said). s.scripts) same)
    (subst (λ n. IsWhole n (setup_in a) (scripts_in a)) (length-map a.nodes place_of) reached)
