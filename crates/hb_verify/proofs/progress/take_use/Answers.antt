use Rattle.std.proofs.Common.{sym, refl, ◌∙◌}
use Rattle.hb_verify.proofs.FollowLemmas.{finds_taken, finds_next, finds_other, finds_no_more}
use Rattle.hb_verify.proofs.progress.take_use.Goals as goal

pub returns-in-Some-clause-finds : goal.returns-in-Some-clause-finds
returns-in-Some-clause-finds c = finds_taken _ c.args.scene.steps.now _ _ _ (sym c.site_among.ensures ∙ c.in-Some.is)

pub returns-then-is_use-clause-finds : goal.returns-then-is_use-clause-finds
returns-then-is_use-clause-finds c = finds_next _ c.args.scene.steps.now _ _ _ _ (sym c.site_among.ensures ∙ c.in_default.is) c.if-at-scene.true
    (sym c.is_use.ensures ∙ c.if-is_use.true) refl refl

pub returns-else-is_use-clause-finds : goal.returns-else-is_use-clause-finds
returns-else-is_use-clause-finds c = finds_other _ c.args.scene.steps.now _ _ _ (sym c.site_among.ensures ∙ c.in_default.is) c.if-at-scene.true
    (sym c.is_use.ensures ∙ c.if-is_use.false)

pub returns-else-at-scene-clause-finds : goal.returns-else-at-scene-clause-finds
returns-else-at-scene-clause-finds c = finds_no_more _ c.args.scene.steps.now _ _ c.requires.within.taken (sym c.site_among.ensures ∙ c.in_default.is) c.if-at-scene.false
