-- What is rare to do with a value.
use Rattle.hb_eval.specs.declared.cont.Cont.{Cont}
use Rattle.hb_eval.specs.declared.cont.Cont.TheVariants as cont

-- it prints, makes a text, or gives a method a definition or a type
abbrev pub IsRare : Cont → Type 0
IsRare (cont.Print id) = Unit {0}
IsRare cont.ToStr = Unit {0}
IsRare (cont.Method id) = Unit {0}
IsRare _ = ⊥
