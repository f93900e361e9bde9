use Rattle.std.proofs.Common.{◌≡◌, inl, inr, rules}
use Rattle.hb_types.specs.declared.types.Ty.TheVariants as ty
use Rattle.hb_types.proofs.Below.{is_below_cases, is_below_same, is_below_nil, is_below_any}
use Rattle.hb_types.proofs.types.below.Goals as goal
use Rattle.hb_types.proofs.types.below.Goals.{then-eq, else-eq}

pub returns-then-eq-2-clause-order : goal.returns-then-eq-2-clause-order
returns-then-eq-2-clause-order c =
    (λ k. elim c.if-eq.branch [ then-eq w ↦ is_below_same _ _ (search rules) | else-eq w ↦ is_below_nil _ _ (search rules) ], λ h. search rules)

pub returns-else-eq-2-clause-order : goal.returns-else-eq-2-clause-order
returns-else-eq-2-clause-order c =
    let differ : c.args.a ≡ c.args.b → ⊥ = elim c.if-eq.branch [ then-eq w ↦ cc | else-eq w ↦ search rules ] in
    let some : c.args.a ≡ ty.Nil → ⊥ = elim c.if-eq.branch [ then-eq w ↦ cc | else-eq w ↦ search rules ] in (
      λ k. is_below_any _ _ (search rules),
      λ h. elim (is_below_cases _ _ h) [ inl e ↦ absurd (differ e) | inr r ↦ elim r [ inl e ↦ absurd (some e) | inr e ↦ search rules ] ],
    )
