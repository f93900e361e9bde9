use Rattle.std.proofs.Common.{[], ◌∷◌, ◌<◌, length, sym, ◌∙◌, arith, rules}
use Rattle.hb_deriv_text.proofs.MarkLemmas.{if_true, if_false}
use Rattle.hb_deriv_text.proofs.TextLemmas.{same_number, other_number}
use Rattle.hb_bundle.proofs.OpeningLemmas.{closing_by_last}
use Rattle.hb_bundle.proofs.opening.closing.Goals as goal

pub returns-then-text-eq10 : goal.returns-then-text-eq10
returns-then-text-eq10 c =
    let some : 0 < length c.args.text.now = search rules in
    sym (closing_by_last c.args.text.now _ _ (omega (arith, some)) ∙ if_true _ [] (10 ∷ []) (same_number _ _ c.if-text-eq10.true))

pub returns : goal.returns
returns c =
    let some : 0 < length c.args.text.now = search rules in
    sym (closing_by_last c.args.text.now _ _ (omega (arith, some)) ∙ if_false _ [] (10 ∷ []) (other_number _ _ c.if-text-eq10.false))
