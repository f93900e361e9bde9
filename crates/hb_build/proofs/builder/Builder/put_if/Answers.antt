use Rattle.std.proofs.Common.{arith, length, ◌+◌, ◌≤◌, ◌≡◌, ◌∷◌, List, refl, ◌∙◌, sym, ap, subst}
use Rattle.hb_tree.specs.Tree.{Tree, TIf}
use Rattle.hb_draft.specs.Unfinished.{HasBranches, if_over}
use Rattle.hb_build.proofs.{StepLemmas.step-fails, StepLemmas.step-goes}
use Rattle.hb_build.specs.{Acts.complete, Acts.closed, Pile.Operand, Sound.work_of}
use Rattle.hb_build.specs.declared.held.Held.{Held}
use Rattle.hb_build.specs.declared.held.Held.TheVariants as held
use Rattle.hb_build.proofs.NodeLemmas.{own-fault, put-answer, is-put, put-said, put-depth, within, is_over, IsPut}
use Rattle.hb_build.proofs.IfLemmas.{if-top, if-retop, if-good, if-high, if-step}
use Rattle.hb_build.proofs.RunLemmas.{tail}
use Rattle.hb_build.proofs.builder.Builder.put_if.Goals as goal

pub drop_top-requires : goal.drop_top-requires
drop_top-requires c =
    let t = if-top c.args.self.now (λ b2 b1 cond q pile. complete q (λ id. TIf id cond b1 b2) Operand pile (closed (work_of c.args.self.now))) c.requires.fits.1 in
    (held.Closed, held.Closed ∷ held.Operand ∷ held.Own t.spot ∷ t.rest, t.things_are)

pub drop_top-requires-2 : goal.drop_top-requires-2
drop_top-requires-2 c =
    let t = if-top c.args.self.now (λ b2 b1 cond q pile. complete q (λ id. TIf id cond b1 b2) Operand pile (closed (work_of c.args.self.now))) c.requires.fits.1 in
    (held.Closed, held.Operand ∷ held.Own t.spot ∷ t.rest, c.drop_top.ensures held.Closed (held.Closed ∷ held.Operand ∷ held.Own t.spot ∷ t.rest) t.things_are)

pub drop_top-requires-3 : goal.drop_top-requires-3
drop_top-requires-3 c =
    let t = if-top c.args.self.now (λ b2 b1 cond q pile. complete q (λ id. TIf id cond b1 b2) Operand pile (closed (work_of c.args.self.now))) c.requires.fits.1 in (
      held.Operand,
      held.Own t.spot ∷ t.rest,
      c.drop_top-2.ensures held.Closed (held.Operand ∷ held.Own t.spot ∷ t.rest)
          (c.drop_top.ensures held.Closed (held.Closed ∷ held.Operand ∷ held.Own t.spot ∷ t.rest) t.things_are),
    )

pub take_own-spot-requires : goal.take_own-spot-requires
take_own-spot-requires c =
    let t = if-top c.args.self.now (λ b2 b1 cond q pile. complete q (λ id. TIf id cond b1 b2) Operand pile (closed (work_of c.args.self.now))) c.requires.fits.1 in (
      t.spot,
      t.rest,
      c.drop_top-3.ensures held.Operand (held.Own t.spot ∷ t.rest)
          (c.drop_top-2.ensures held.Closed (held.Operand ∷ held.Own t.spot ∷ t.rest) (c.drop_top.ensures held.Closed (held.Closed ∷ held.Operand ∷ held.Own t.spot ∷ t.rest) t.things_are)),
    )

pub highest-requires : goal.highest-requires
highest-requires c =
    let t = if-top c.args.self.now (λ b2 b1 cond q pile. complete q (λ id. TIf id cond b1 b2) Operand pile (closed (work_of c.args.self.now))) c.requires.fits.1 in
    subst (λ (x : List Tree). 3 ≤ length x) (sym t.hand_is) (omega arith)

pub returns-in_err-completes : goal.returns-in_err-completes
returns-in_err-completes c =
    let t = if-top c.args.self.now (λ b2 b1 cond q pile. complete q (λ id. TIf id cond b1 b2) Operand pile (closed (work_of c.args.self.now))) c.requires.fits.1 in
    let u = if-retop c.args.self.now t _ _ (ap (λ (x : List Held). held.Closed ∷ held.Closed ∷ held.Operand ∷ x)
    (sym (c.drop_top-3.ensures held.Operand (held.Own t.spot ∷ t.rest)
    (c.drop_top-2.ensures held.Closed (held.Operand ∷ held.Own t.spot ∷ t.rest) (c.drop_top.ensures held.Closed (held.Closed ∷ held.Operand ∷ held.Own t.spot ∷ t.rest) t.things_are)))
    ∙ c.take_own-spot.ensures)) in
    own-fault _ _ _ _ c.from_residual.ensures.1
    (step-fails c.args.self.now c.requires.fits.0 _ u.spot c.highest.result (closed (work_of c.args.self.now)) _ _
    (if-step c.args.self.now c.requires.fits.0 u (closed (work_of c.args.self.now)) refl c.highest.result c.highest.ensures) c.in_err-completes.field-0.0 c.in_err-completes.ensures)

pub if_else-requires-clause-parts : goal.if_else-requires-clause-parts
if_else-requires-clause-parts c =
    let t = if-top c.args.self.now (λ b2 b1 cond q pile. complete q (λ id. TIf id cond b1 b2) Operand pile (closed (work_of c.args.self.now))) c.requires.fits.1 in
    let u = if-retop c.args.self.now t _ _ (ap (λ (x : List Held). held.Closed ∷ held.Closed ∷ held.Operand ∷ x)
    (sym (c.drop_top-3.ensures held.Operand (held.Own t.spot ∷ t.rest)
    (c.drop_top-2.ensures held.Closed (held.Operand ∷ held.Own t.spot ∷ t.rest) (c.drop_top.ensures held.Closed (held.Closed ∷ held.Operand ∷ held.Own t.spot ∷ t.rest) t.things_are)))
    ∙ c.take_own-spot.ensures)) in
    let limits = within (1 + c.highest.result) (length c.args.self.now.draft.table.nodes) (is_over c.args.self.now.scope) c.take_own-spot.result.at c.in_ok-completes.ensures in
    let low = limits.low in
    let high = if-high c.args.self.now c.requires.fits.0 u (closed (work_of c.args.self.now)) refl c.highest.result c.highest.ensures in
    let good = if-good c.args.self.now c.requires.fits.0 u (closed (work_of c.args.self.now)) refl c.highest.result c.highest.ensures in
    subst (λ (x : List Tree). HasBranches x) (sym u.hand_is)
    ((record { kind = good.1.1.0; low = omega (arith, low, high) }, record { kind = good.1.0; low = omega (arith, low, high) }, record { kind = good.0; low = omega (arith, low, high) }))

pub returns : goal.returns
returns c = put-answer _ _ c.put.result c.put.ensures.held c.put.ensures.rest c.put.ensures.memory (λ held_is rest.
    let t = if-top c.args.self.now (λ b2 b1 cond q pile. complete q (λ id. TIf id cond b1 b2) Operand pile (closed (work_of c.args.self.now))) c.requires.fits.1 in
    let u = if-retop c.args.self.now t _ _ (ap (λ (x : List Held). held.Closed ∷ held.Closed ∷ held.Operand ∷ x)
    (sym (c.drop_top-3.ensures held.Operand (held.Own t.spot ∷ t.rest)
    (c.drop_top-2.ensures held.Closed (held.Operand ∷ held.Own t.spot ∷ t.rest) (c.drop_top.ensures held.Closed (held.Closed ∷ held.Operand ∷ held.Own t.spot ∷ t.rest) t.things_are)))
    ∙ c.take_own-spot.ensures)) in
    let made = c.in_ok-if_else.ensures.made in
    let same = c.in_ok-if_else.ensures.put.table.types in
    step-goes c.args.self.now c.requires.fits.0 _ u.spot c.highest.result (closed (work_of c.args.self.now)) _ _
    (if-step c.args.self.now c.requires.fits.0 u (closed (work_of c.args.self.now)) refl c.highest.result c.highest.ensures) c.in_ok-completes.ensures c.put.new.self
    (subst (λ (x : List Tree). IsPut c.args.self.now c.put.new.self (held.Operand ∷ u.rest) (if_over (length (work_of c.args.self.now).said.places) x)) u.hand_is
    (is-put c.args.self.now c.put.new.self c.if_else.new.self c.take_own-spot.new.held.items held.Operand _ rest held_is c.place.result (if_over) made same))
    c.place.result c.place.ensures
    (put-said c.args.self.now c.put.new.self c.if_else.new.self c.take_own-spot.new.held.items held.Operand _ rest held_is c.place.result (if_over) made same)
    (put-depth c.args.self.now c.put.new.self c.if_else.new.self c.take_own-spot.new.held.items held.Operand _ rest held_is c.place.result (if_over) made same ∙ c.saturating_sub-self.ensures))
