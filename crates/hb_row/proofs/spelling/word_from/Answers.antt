use Rattle.std.proofs.Common.{◌≡◌, ◌-◌, ◌*◌, ◌/◌, ◌%◌, ◌+◌, ℕ, ap, ◌∙◌, drop, arith}
use Rattle.hb_row.specs.Row.{packed}
use Rattle.hb_row.proofs.PackingLemmas.{spelt_next}
use Rattle.hb_row.proofs.spelling.word_from.Goals as goal

pub returns-then-at-eq0 : goal.returns-then-at-eq0
returns-then-at-eq0 c name is _ =
    let at : ℕ = c.args.at in let zero_is : at % 8 ≡ 0 = c.if-at-eq0.true in let low = c.requires in
    let here : 8 * (at / 8) ≡ at = omega arith in let all : 8 ≡ 8 - at % 8 = omega arith in
    is (1 + at / 8) (omega arith) ∙ spelt_next name (1 + at / 8) (at / 8) (omega arith) ∙ ap (λ z. packed 8 (drop z name.1)) here ∙ ap (λ z. packed z (drop at name.1)) all
