use Rattle.std.proofs.Common.{◌≡◌, ◌∷◌, [], ◌++◌, Some, sym, ap, ◌∙◌, List, ℕ}
use Rattle.std.proofs.lemmas.List.{get_or_push}
use Rattle.hb_names.specs.Names.{Name, place, with_name}
use Rattle.hb_names.proofs.NameLemmas.{same-is, place-last}
use Rattle.hb_row.specs.Spelling.{said}
use Rattle.hb_row.specs.Known.{name_at}
use Rattle.hb_row.proofs.ListLemmas.{nowhere_more}
use Rattle.hb_row.proofs.row.learn.Goals as goal

pub returns-then-is-clause-found : goal.returns-then-is-clause-found
returns-then-is-clause-found c =
    let name : Name = (c.args.class.0, c.args.name.now) in let read : Name = said c.args.spelled.now in let names = c.args.names.now.known in
    let it : read ≡ name = same-is read name (sym c.if-is.ensures) in
    let known : c.push-key.new.self.known ≡ names ++ name ∷ [] = c.push-key.ensures.known
    ∙ ap (λ (bs : List ℕ). names ++ (c.args.spelled.now.class.0, bs) ∷ []) c.as_slice.ensures.value ∙ ap (λ (z : Name). names ++ z ∷ []) it in
    let key = c.push-key.ensures.key in (
      ap (λ (ns : List Name). place ns name) (c.mark.ensures.known ∙ known) ∙ place-last names name c.requires.unknown ∙ ap Some (sym key),
      c.mark.ensures.asked ∙ (λ i. with_name (c.push-key.ensures.asked i) (name_at (known i) c.push-key.result.0))
          ∙ ap (with_name c.args.names.now.asked) (get_or_push names name (0, []) c.push-key.result.0 (sym key)),
    )

pub returns-clause-other : goal.returns-clause-other
returns-clause-other c =
    let name : Name = (c.args.class.0, c.args.name.now) in let read : Name = said c.args.spelled.now in let names = c.args.names.now.known in (
      ap (λ (ns : List Name). place ns name) (c.push-key.ensures.known ∙ ap (λ (bs : List ℕ). names ++ (c.args.spelled.now.class.0, bs) ∷ []) c.as_slice.ensures.value)
          ∙ nowhere_more names read name c.requires.unknown (sym c.if-is.ensures),
      c.push-key.ensures.asked,
    )
