use Rattle.std.proofs.Common.{arith, ◌≡◌, ◌+◌, ◌∙◌, sym, ap, take, max}
use Rattle.hb_draft.specs.Unfinished.{in_hand}
use Rattle.hb_build.proofs.{HighestLemmas.tallest, HighestLemmas.tallest-next, HighestLemmas.highest-tallest, builder.Builder.highest.Goals.then-height-most}
use Rattle.hb_build.proofs.{builder.Builder.highest.Goals.else-height-most}
use Rattle.hb_build.proofs.builder.Builder.highest.Goals as goal

pub loop-below-preserved : goal.loop-below-preserved
loop-below-preserved c =
    let next : tallest (take (c.loop-below.below + 1) (in_hand c.args.self.now.draft)) ≡ max (tallest (take c.loop-below.below (in_hand c.args.self.now.draft))) c.height-height.result =
    tallest-next (in_hand c.args.self.now.draft) c.loop-below.below c.height-height.result c.height-height.ensures in
    elim c.if-height-most.branch [
      | then-height-most w ↦ omega (arith, next, c.loop-below.invariant, w.most-is, w.if-height-most.true)
      | else-height-most w ↦ omega (arith, next, c.loop-below.invariant, w.most-is, w.if-height-most.false)
    ]

pub returns : goal.returns
returns c =
    let same : c.loop-below.below ≡ c.args.count = omega (arith, c.loop-below-test.false, c.loop-below.auto.below-end) in
    c.loop-below.invariant ∙ ap (λ n. tallest (take n (in_hand c.args.self.now.draft))) same ∙ sym (highest-tallest (take c.args.count (in_hand c.args.self.now.draft)))
