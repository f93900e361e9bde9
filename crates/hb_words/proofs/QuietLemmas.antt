-- A look of caller 0's seat, before it makes a new seat.
use Rattle.std.proofs.Common.{◌≡◌, ℕ, true, refl, arith}
use mathlib.Core.Option.{none}
use Rattle.atomic_table.specs.Table.{step, Allows}
use Rattle.hb_words.specs.Words.{Kept}
use Rattle.hb_words.specs.Steps.{Seated, quieted}
use Rattle.hb_words.proofs.RuleLemmas.{sees}

pub quiets : (limit slots id : ℕ) (me : Seated) → me.0.live ≡ true → me.0.caller ≡ 0 → Allows (Kept limit) slots id me 0 (λ n. n) (quieted (step slots 0 0 0 none) me)
quiets limit slots id me live zero_is s r _ at _ =
    let made_is = (r.seats id me.0 at live).first zero_is in
    sees limit s r id me at live 0 (quieted (step slots 0 0 0 none) me) (λ looked. (refl, looked, λ c late. r.unmade c (omega arith)))
