-- Which acts answer a `def`, a `type` and a `type?`.
use Rattle.std.proofs.Common.{◌≡◌, ℕ, Bool, true, false, Some, None, refl, subst, nat_eq}
use Rattle.std.specs.Prelude.{Result, Ok, Err, if◌then◌else◌, ◌&&◌}
use Rattle.std.proofs.lemmas.Bool.{eqb-true}
use Rattle.std.proofs.lemmas.Option.{none-some}
use Rattle.hb_deriv.proofs.JudgementLemmas.{and_both}
use Rattle.hb_tables.specs.declared.entry.Act.{Act}
use Rattle.hb_tables.specs.declared.entry.Act.TheVariants.{Hold, Free, Retype, Busy, WornType, Define, WornDef, Call}
use Rattle.hb_eval.specs.declared.value.Value.{Value}
use Rattle.hb_eval.specs.declared.value.Value.TheVariants as value
use Rattle.hb_eval.specs.declared.stop.Stop.{Stop}
use Rattle.hb_eval.specs.declared.stop.Stop.TheVariants as stop
use Rattle.hb_eval.specs.Methods.{changed, unchanged, define_meaning, declare_meaning}
use Rattle.hb_ordered.specs.Asking.{Defines, Declares, Answers, Defined, Undefined, Retyped, Held, Worn}
use Rattle.hb_ordered.specs.Parting.{IsBelow}

pub define_answers : (key site : ℕ) (a : Act) (r : Result Value Stop) → define_meaning key site a ≡ Some r → Answers (Defines key site) a
define_answers key site (Define k s) r e = go (nat_eq k.0 key && nat_eq s.0 site) refl e
  where
    go : (b : Bool) → (nat_eq k.0 key && nat_eq s.0 site) ≡ b → (if b then Some (Ok value.Nil) else None) ≡ Some r → Answers (Defines key site) (Define k s)
    go true t e = let x = and_both _ _ t in subst (λ n. Answers (Defines n site) (Define k s)) (eqb-true k.0 key x.0)
        (subst (λ n. Answers (Defines k.0 n) (Define k s)) (eqb-true s.0 site x.1) (Defined k s))
    go false t e = absurd (none-some r e)
define_answers key site (WornDef k) r e = go (nat_eq k.0 key) refl e
  where
    go : (b : Bool) → nat_eq k.0 key ≡ b → (if b then Some (Err stop.Worn) else None) ≡ Some r → Answers (Defines key site) (WornDef k)
    go true t e = subst (λ n. Answers (Defines n site) (WornDef k)) (eqb-true k.0 key t) (Undefined site k)
    go false t e = absurd (none-some r e)
define_answers key site (Hold k p ty n) r e = absurd (none-some r e)
define_answers key site (Free k p) r e = absurd (none-some r e)
define_answers key site (Retype k s) r e = absurd (none-some r e)
define_answers key site (Busy k pins) r e = absurd (none-some r e)
define_answers key site (WornType k) r e = absurd (none-some r e)
define_answers key site (Call k p s args v) r e = absurd (none-some r e)

pub declare_answers : (asks : Bool) (key site : ℕ) (a : Act) (r : Result Value Stop) → declare_meaning asks key site a ≡ Some r → Answers (Declares key site) a
declare_answers asks key site (Retype k s) r e = go (nat_eq k.0 key && nat_eq s.0 site) refl e
  where
    go : (b : Bool) → (nat_eq k.0 key && nat_eq s.0 site) ≡ b → (if b then Some (changed asks) else None) ≡ Some r → Answers (Declares key site) (Retype k s)
    go true t e = let x = and_both _ _ t in subst (λ n. Answers (Declares n site) (Retype k s)) (eqb-true k.0 key x.0)
        (subst (λ n. Answers (Declares k.0 n) (Retype k s)) (eqb-true s.0 site x.1) (Retyped k s))
    go false t e = absurd (none-some r e)
declare_answers asks key site (Busy k pins) r e = go (nat_eq k.0 key) refl e
  where
    go : (b : Bool) → nat_eq k.0 key ≡ b → (if b then Some (unchanged asks) else None) ≡ Some r → Answers (Declares key site) (Busy k pins)
    go true t e = subst (λ n. Answers (Declares n site) (Busy k pins)) (eqb-true k.0 key t) (Held site k pins)
    go false t e = absurd (none-some r e)
declare_answers asks key site (WornType k) r e = go (nat_eq k.0 key) refl e
  where
    go : (b : Bool) → nat_eq k.0 key ≡ b → (if b then Some (Err stop.Worn) else None) ≡ Some r → Answers (Declares key site) (WornType k)
    go true t e = subst (λ n. Answers (Declares n site) (WornType k)) (eqb-true k.0 key t) (Worn site k)
    go false t e = absurd (none-some r e)
declare_answers asks key site (Hold k p ty n) r e = absurd (none-some r e)
declare_answers asks key site (Free k p) r e = absurd (none-some r e)
declare_answers asks key site (Define k s) r e = absurd (none-some r e)
declare_answers asks key site (WornDef k) r e = absurd (none-some r e)
declare_answers asks key site (Call k p s args v) r e = absurd (none-some r e)

pub define_quiet : (k s n : ℕ) (a : Act) → Answers (Defines k s) a → IsBelow n a
define_quiet _ _ n _ (Defined key site) = tt
define_quiet _ _ n _ (Undefined s key) = tt

pub declare_quiet : (k s n : ℕ) (a : Act) → Answers (Declares k s) a → IsBelow n a
declare_quiet _ _ n _ (Retyped key site) = tt
declare_quiet _ _ n _ (Held s key pins) = tt
declare_quiet _ _ n _ (Worn s key) = tt
