-- What is due for a program whose derivations are wanted is one.
use Rattle.std.proofs.Common.{◌≡◌, ℕ, List, [], ◌∷◌, Some, length, map, refl, sym, ap, ◌∙◌, subst}
use Rattle.hb_tree.specs.Table.{Table}
use Rattle.hb_deriv.specs.Derivation.{Content, content_of}
use Rattle.hb_names.specs.Names.{Name}
use Rattle.hb_tables.specs.declared.entry.Entry.{Entry}
use Rattle.hb_eval.specs.Told.{Told}
use Rattle.hb_turns.specs.Collecting.{Collects}
use Rattle.hb_bundle.specs.Bundle.{bundle_of}
use Rattle.hb_top.specs.Derived.{IsDerived, derive_options, derived}
use Rattle.hb_top.specs.Outcomes.{Outcome}
use Rattle.hb_top.specs.Reports.{ending_of}
use Rattle.hb_top.proofs.CollectedLemmas.{Derive, contents}
use Rattle.hb_top.proofs.DeriveLemmas.{one_collected}
use Rattle.hb_top.proofs.OneReportLemmas.{HaveOneHistory}

pub one-derived : HaveOneHistory → Derive → (t : Table) (text : List ℕ) (a b : Outcome) → IsDerived t text a → IsDerived t text b → a ≡ b
one-derived one derive t text a b x y =
    let same = one t derive_options.changes derive_options.steps (1 ∷ []) x.names y.names x.log y.log x.runs y.runs (x.ran.in_order tt) (y.ran.in_order tt) in
    let named : Collects t y.names [] x.log (Some []) (Some x.made) = subst (λ (names : List Name). Collects t names [] x.log (Some []) (Some x.made)) same.0 x.collects in
    let there : Collects t y.names [] y.log (Some []) (Some x.made) = subst (λ (log : List Entry). Collects t y.names [] log (Some []) (Some x.made)) same.1 named in
    let made : contents (Some x.made) ≡ contents (Some y.made) =
    one_collected derive t y.names derive_options.changes [] y.log y.ran.history.legal [] [] (Some x.made) (Some y.made) refl there y.collects in
    let list : map content_of x.made ≡ map content_of y.made = cc made in
    x.same
    ∙ ap (λ (runs : List Told). derived t text runs x.made) same.2
    ∙ ap (λ (ds : List Content). (let o : Outcome = record { ending = ending_of y.runs; text = bundle_of text t ds; takes = length text } in o)) list
    ∙ sym y.same
