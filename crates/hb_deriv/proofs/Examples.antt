-- The judgement and the walk, tried on two bodies: `self.g`, and `x = if c then 1 else "a" end; x + 1`.
use Rattle.std.proofs.Common.{◌≡◌, ℕ, List, [], ◌∷◌, replicate, refl}
use Rattle.std.specs.Prelude.{Some, None, Ok, Err, pos, nat_eq, if◌then◌else◌}
use Rattle.hb_types.specs.declared.{types.Ty.Ty, types.MethodTy.MethodTy}
use Rattle.hb_types.specs.declared.types.Ty.TheVariants as ty
use Rattle.hb_tree.specs.declared.node.Op.TheVariants as op
use Rattle.hb_tree.specs.Tree.{TSelf, TInt, TText, TVar, TAssign, TBinary, TIf, TCall, TBlock, NoTree, Trees}
use Rattle.hb_deriv.specs.declared.ill.Reason.TheVariants as reason
use Rattle.hb_deriv.specs.declared.{raw.Used.Used, raw.Step.Step}
use Rattle.hb_deriv.specs.Judge.{Subject, ◌>>=◌, ill_at, object, judge_body}
use Rattle.hb_deriv.specs.{Events.behind, Events.looks, Derivation.Content, Derivation.Sites, Derivation.step}
use Rattle.hb_deriv.specs.Walk.{AtUses, AtStep, ◌>>>◌, walk_body}

abbrev gives : Ty → MethodTy
gives t = record { count = 0; params = replicate 4 ty.Nil; result = t }

-- `def A.f() self.g end`, where `A.g` is name 1 of class 0
abbrev asks_g : Subject
asks_g = record { self = 0; params = []; block = TBlock 2 (Trees (TCall 1 (TSelf 0) 1 NoTree) NoTree); declared = gives ty.Int }

-- the type at site 3 is that of a method without parameters that gives a number
abbrev sites : Sites
sites n = if nat_eq n 3 then Some (gives ty.Int) else None

abbrev use_of : ℕ → Used
use_of m = record { class = record { 0 = 0 }; name = record { 0 = m }; site = record { 0 = 3 } }

abbrev derivation : List Used → List Step → Content
derivation us ss = record { class = 0; body = 0; declared = 0; uses = us; steps = ss }

abbrev all_steps : List Step
all_steps = step 0 (object 0) ∷ step 1 ty.Int ∷ []

good : walk_body sites asks_g (derivation (use_of 1 ∷ []) all_steps) ≡ Ok (record { taken = use_of 1 ∷ []; left = []; steps = []; passed = 2 })
unfolding ◌>>>◌
good = refl

no_use : walk_body sites asks_g (derivation [] all_steps) ≡ Err (AtUses 0)
unfolding ◌>>>◌
no_use = refl

other_use : walk_body sites asks_g (derivation (use_of 2 ∷ []) all_steps) ≡ Err (AtUses 0)
unfolding ◌>>>◌
other_use = refl

use_left : walk_body sites asks_g (derivation (use_of 1 ∷ use_of 2 ∷ []) all_steps) ≡ Err (AtUses 1)
unfolding ◌>>>◌
use_left = refl

other_step : walk_body sites asks_g (derivation (use_of 1 ∷ []) (step 0 (object 0) ∷ step 1 ty.Str ∷ [])) ≡ Err (AtStep 1)
unfolding ◌>>>◌
other_step = refl

step_left : walk_body sites asks_g (derivation (use_of 1 ∷ []) (step 0 (object 0) ∷ step 1 ty.Int ∷ step 1 ty.Int ∷ [])) ≡ Err (AtStep 2)
unfolding ◌>>>◌
step_left = refl

-- `def A.f(c) x = if c then 1 else "a" end; x + 1 end`, where `c` is name 1 and `x` name 2
abbrev joins : Subject
joins = record {
  self = 0;
  params = 1 ∷ [];
  block = TBlock 9 (Trees (TAssign 5 2 (TIf 4 (TVar 0 1) (TBlock 10 (Trees (TInt 1 (pos 1)) NoTree)) (TBlock 11 (Trees (TText 2 0) NoTree)))) (Trees (TBinary 8 op.Add (TVar 6 2) (TInt 7 (pos 1))) NoTree));
  declared = record { count = 1; params = ty.Bool ∷ replicate 3 ty.Nil; result = ty.Int };
}

unlike : judge_body (λ k. None) joins ≡ Err (ill_at 8 reason.Operand)
unfolding ◌>>=◌
unlike = refl

no_looks : looks (λ k. None) joins ≡ []
unfolding ◌>>=◌ behind
no_looks = refl

no_type : judge_body (λ k. None) asks_g ≡ Err (ill_at 1 reason.NoType)
unfolding ◌>>=◌
no_type = refl

one_look : looks (λ k. None) asks_g ≡ (0, 1) ∷ []
unfolding ◌>>=◌ behind
one_look = refl
