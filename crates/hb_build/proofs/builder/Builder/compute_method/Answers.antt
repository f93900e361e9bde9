use Rattle.std.proofs.Common.{◌≡◌, ℕ, ◌∷◌, List, reverse, refl, sym, ap, ◌∙◌}
use Rattle.hb_tree.specs.Tree.{Tree}
use Rattle.hb_build.proofs.{PushLemmas.KeepsRest, PushLemmas.things-over, MethodTopLemmas.has-computed, MethodTopLemmas.taken}
use Rattle.hb_build.specs.{Pile.Slot, Pile.Computed, Sound.work_of, Sound.things_of}
use Rattle.hb_build.specs.declared.{builder.Builder.Builder, held.Spot.Spot}
use Rattle.hb_build.specs.declared.held.Held.TheVariants as held
use Rattle.hb_build.specs.Acts.{Work, Answer, Goes, with_operand, with_class}
use Rattle.hb_build.proofs.RelaidLemmas.{pile-was, good-was, sound-becomes, work-becomes}
use Rattle.hb_build.proofs.builder.Builder.compute_method.Goals as goal

-- the action over what lies on top
abbrev go : Work → Tree → ℕ → Spot → List Slot → Answer
go w e c q pile = Goes (record w { pile = Computed c e ∷ pile })

pub drop_top-requires : goal.drop_top-requires
drop_top-requires c =
    let t = has-computed c.args.self.now (go (work_of c.args.self.now)) c.requires.fits.1 in
    (held.Operand, held.Class t.class t.spot ∷ t.rest, t.things_are)

pub take_class-requires : goal.take_class-requires
take_class-requires c =
    let t = has-computed c.args.self.now (go (work_of c.args.self.now)) c.requires.fits.1 in
    (t.class, t.spot, t.rest, c.drop_top.ensures held.Operand (held.Class t.class t.spot ∷ t.rest) t.things_are)

pub returns : goal.returns
returns c =
    let old : Builder = c.args.self.now in
    let new : Builder = record old { held = c.push.new.self } in
    let t = has-computed old (go (work_of old)) c.requires.fits.1 in
    let dropped = c.drop_top.ensures held.Operand (held.Class t.class t.spot ∷ t.rest) t.things_are in
    let class = c.take_class.result.0 in
    let rest = reverse c.take_class.new.held.items in
    let was = taken old t class c.take_class.result.1 rest _ dropped c.take_class.ensures in
    let before = held.Operand ∷ held.Class class c.take_class.result.1 ∷ rest in
    let after = held.Computed class ∷ rest in
    let hand = t.e ∷ t.others in
    let keeps : KeepsRest old new = record { draft = refl; outer = refl; declaring = refl; scripts = refl } in
    let things : things_of new ≡ after = things-over new.held.items c.take_class.new.held.items (held.Computed class) c.in_ok-push.ensures.items in
    let good = good-was old before hand was t.hand_is c.requires.fits.0 in (
      ap (λ pile. with_operand pile (λ e pile. with_class pile (go (work_of old) e))) (pile-was old before hand was t.hand_is)
          ∙ ap Goes (sym (work-becomes old new after hand keeps refl t.hand_is things)),
      sound-becomes old new before after hand keeps refl was t.hand_is things c.requires.fits.0 refl (good.1.0, good.0, good.1.1)
          (record { body = refl; nodes = refl; calls = refl; names = refl; outer = refl; scopes = refl; pending = refl }),
    )
