-- A value as the name of a method.
use Rattle.std.specs.Prelude.{◌≡◌, ℕ, List, true}
use Rattle.hb_eval.specs.declared.{value.Value.Value, stop.Stop.Stop}
use Rattle.hb_eval.specs.declared.value.Value.TheVariants as value
use Rattle.hb_eval.specs.State.{St, Answer, Halt}
use Rattle.hb_eval.specs.Methods.{is_name, named}

-- it is this name
pub record IsNamed (v : Value) (bytes : List ℕ) : Type 0 where
  pub text : v ≡ value.Str bytes
  pub name : is_name bytes ≡ true

-- it is none, and the script stops
abbrev pub StopsNamed : Value → Stop → Type 0
StopsNamed v e = (id : ℕ) (s : St) (go : List ℕ → Answer) → named id v s go ≡ Halt e id s
