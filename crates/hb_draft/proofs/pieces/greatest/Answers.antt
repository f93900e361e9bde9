use Rattle.std.proofs.Common.{refl, arith, rules}
use Rattle.std.proofs.{lemmas.Grind.common_steps, lemmas.List.Recursion.max_bounds, lemmas.List.Recursion.max_least}
use Rattle.hb_draft.specs.Kept.{greatest}
use Rattle.hb_draft.proofs.pieces.greatest.Goals as goal

pub returns : goal.returns
returns c =
    let bounds = max_bounds greatest (λ x. x) refl (λ _ _. refl) c.args.numbers.now in
    let least = max_least greatest (λ x. x) refl (λ _ _. refl) c.args.numbers.now 0 c.unwrap_or.result (search rules) in
    grind (arith, common_steps, bounds, least)
