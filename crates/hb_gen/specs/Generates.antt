-- What is answered for a number.
use Rattle.std.specs.Prelude.{◌≡◌, ◌≤◌, ℕ, Result, Ok, Err}
use Rattle.std.specs.Global.{Vec}
use Rattle.hb_gen.specs.declared.texts.GenFail.{GenFail}
use Rattle.hb_gen.specs.declared.texts.GenFail.TheVariants as fail
use Rattle.hb_gen.specs.declared.texts.TheConstants.{NUMBER_MAX}
use Rattle.hb_gen.specs.Generated.{generated}

-- a program is made of this number
abbrev pub IsInRange : ℕ → Type 0
IsInRange n = (1 ≤ n) × (n ≤ NUMBER_MAX)

-- the text of a number in range, and a refusal for each other one
abbrev pub Generates : ℕ → Result (Vec ℕ) GenFail → Type 0
Generates n (Ok text) = IsInRange n × (text.items ≡ generated n)
Generates n (Err fail.Range) = ¬ IsInRange n
Generates n (Err fail.NoMemory) = IsInRange n
