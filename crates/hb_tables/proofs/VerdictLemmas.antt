-- A verdict is the judgement's, and rests on the types at which its check looks.
use Rattle.std.proofs.Common.{◌≡◌, ℕ, Bool, true, false, List, [], Option, Some, None, Ok, Err, refl, ap, ◌∙◌}
use Rattle.std.specs.Prelude.{if◌then◌else◌}
use Rattle.hb_types.specs.declared.{types.Ty.Ty, types.MethodTy.MethodTy}
use Rattle.hb_tree.specs.declared.parts.Body.{Body}
use Rattle.hb_tree.specs.Table.{Table}
use Rattle.hb_deriv.proofs.{LookLemmas.looks_alike, JudgementLemmas.body_judged, JudgementLemmas.judge_body_of, FaultLemmas.body_fails_of, FaultLemmas.body_fails_from}
use Rattle.hb_deriv.specs.{Judgement.IsJudged, Faults.BodyFails}
use Rattle.hb_deriv.specs.declared.ill.Ill.{Ill}
use Rattle.hb_deriv.specs.Judge as judgement
use Rattle.hb_deriv.specs.Judge.{Key, Types, Typed, Subject, judge_body}
use Rattle.hb_deriv.specs.Events.{Events, SameAt, looks, fresh}
use Rattle.hb_tables.specs.declared.entry.Verdict.{Verdict}
use Rattle.hb_tables.specs.declared.entry.Verdict.TheVariants as verdict
use Rattle.hb_tables.specs.declared.entry.By.TheVariants as by
use Rattle.hb_tables.specs.Verdicts.{takes, subject, checked_verdict, verdict_of, looks_of, Reaches}

-- two verdicts with their looks
pub record SameVerdict (v w : Verdict) (ks js : List Key) : Type 0 where
  pub verdict : v ≡ w
  pub keys : ks ≡ js

if_takes : (t : Table) (T U : Types) (class : ℕ) (b : Body) (m : MethodTy) (a : Bool) → SameAt T U (if a then looks T (subject t class b m) else [])
    → SameVerdict (if a then checked_verdict (judge_body T (subject t class b m)) else verdict.BadArgs) (if a then checked_verdict (judge_body U (subject t class b m)) else verdict.BadArgs)
    (if a then looks T (subject t class b m) else []) (if a then looks U (subject t class b m) else [])
if_takes t T U class b m true h = let r = looks_alike T U (subject t class b m) h in record { verdict = ap checked_verdict r.verdict; keys = ap (λ (es : Events). fresh [] es) r.events }
if_takes t T U class b m false h = record { verdict = refl; keys = refl }

-- a verdict depends on the types of the keys at which its check looks, and on no others
pub verdict_same : (t : Table) (T U : Types) (class : ℕ) (b : Option Body) (m : Option MethodTy) (kinds : List Ty) → SameAt T U (looks_of t T class b m kinds)
    → SameVerdict (verdict_of t T class b m kinds) (verdict_of t U class b m kinds) (looks_of t T class b m kinds) (looks_of t U class b m kinds)
verdict_same t T U class None m kinds h = record { verdict = refl; keys = refl }
verdict_same t T U class (Some b) None kinds h = record { verdict = refl; keys = refl }
verdict_same t T U class (Some b) (Some m) kinds h = if_takes t T U class b m (takes m kinds) h

entered : (types : Types) (s : Subject) (r : judgement.Verdict Typed) → judge_body types s ≡ r → checked_verdict r ≡ verdict.Enter by.Fresh → IsJudged types s
entered types s (Ok x) e h = body_judged types s x e
entered types s (Err f) e h = absurd (cc h)

failed : (types : Types) (s : Subject) (f : Ill) (r : judgement.Verdict Typed) → judge_body types s ≡ r → checked_verdict r ≡ verdict.IllTyped f → BodyFails types s f
failed types s f (Ok x) e h = absurd (cc h)
failed types s f (Err g) e h = body_fails_from types s f (e ∙ ap Err (cc h))

-- a verdict enters a body exactly where it is judged
pub enters_from : (t : Table) (types : Types) (class : ℕ) (b : Option Body) (m : Option MethodTy) (kinds : List Ty) → verdict_of t types class b m kinds ≡ verdict.Enter by.Fresh
    → Reaches (IsJudged types) t class b m kinds
enters_from t types class None m kinds h = absurd (cc h)
enters_from t types class (Some b) None kinds h = absurd (cc h)
enters_from t types class (Some b) (Some m) kinds h = go (takes m kinds) refl h
  where
    go : (a : Bool) → takes m kinds ≡ a → (if a then checked_verdict (judge_body types (subject t class b m)) else verdict.BadArgs) ≡ verdict.Enter by.Fresh → Reaches (IsJudged types) t class (Some b) (Some m) kinds
    go true e h = record { body = b; declared = m; has_body = refl; has_type = refl; fits = e; holds = entered types (subject t class b m) (judge_body types (subject t class b m)) refl h }
    go false e h = absurd (cc h)

pub enters_of : (t : Table) (types : Types) (class : ℕ) (b : Option Body) (m : Option MethodTy) (kinds : List Ty) → Reaches (IsJudged types) t class b m kinds → verdict_of t types class b m kinds ≡ verdict.Enter by.Fresh
enters_of t types class b m kinds r = rw (r.has_body, r.has_type) (rw r.fits (ap checked_verdict (judge_body_of types (subject t class r.body r.declared) r.holds)))

-- and tells a fault exactly where the body has it
pub ill_from : (t : Table) (types : Types) (class : ℕ) (b : Option Body) (m : Option MethodTy) (kinds : List Ty) (f : Ill) → verdict_of t types class b m kinds ≡ verdict.IllTyped f
    → Reaches (λ s. BodyFails types s f) t class b m kinds
ill_from t types class None m kinds f h = absurd (cc h)
ill_from t types class (Some b) None kinds f h = absurd (cc h)
ill_from t types class (Some b) (Some m) kinds f h = go (takes m kinds) refl h
  where
    go : (a : Bool) → takes m kinds ≡ a → (if a then checked_verdict (judge_body types (subject t class b m)) else verdict.BadArgs) ≡ verdict.IllTyped f
        → Reaches (λ s. BodyFails types s f) t class (Some b) (Some m) kinds
    go true e h = record { body = b; declared = m; has_body = refl; has_type = refl; fits = e; holds = failed types (subject t class b m) f (judge_body types (subject t class b m)) refl h }
    go false e h = absurd (cc h)

pub ill_of : (t : Table) (types : Types) (class : ℕ) (b : Option Body) (m : Option MethodTy) (kinds : List Ty) (f : Ill) → Reaches (λ s. BodyFails types s f) t class b m kinds
    → verdict_of t types class b m kinds ≡ verdict.IllTyped f
ill_of t types class b m kinds f r = rw (r.has_body, r.has_type) (rw r.fits (ap checked_verdict (body_fails_of types (subject t class r.body r.declared) f r.holds)))
