use Rattle.std.proofs.Common.{◌≡◌, ◌∷◌, refl, sym, ap, ◌∙◌, List, reverse, inl, arith}
use Rattle.std.proofs.lemmas.Bool.{cond-true, cond-false}
use Rattle.hb_tree.specs.Tree.{Tree}
use Rattle.hb_build.specs.declared.{builder.Builder.Builder, held.Held.Held, held.Spot.Spot}
use Rattle.hb_build.specs.declared.held.Held.TheVariants as held
use Rattle.hb_build.specs.declared.faults.ParseFail.TheVariants as fail
use Rattle.hb_build.specs.declared.faults.Limit.TheVariants as limit
use Rattle.hb_build.specs.Pile.{Slot, Argument, is_full, piled}
use Rattle.hb_build.specs.Sound.{work_of, things_of}
use Rattle.hb_build.specs.Acts.{Work, Answer, Goes, with_operand, fails_if}
use Rattle.hb_build.proofs.{PushLemmas.KeepsRest, PushLemmas.things-over, ArgumentLemmas.arguments-below, ArgumentLemmas.full-below, ArgumentLemmas.room-below}
use Rattle.hb_build.proofs.ItemLemmas.{has-operand, pile-of-operand, IsUse, sound-used, work-used, good-operand}
use Rattle.hb_build.proofs.builder.Builder.add_argument.Goals as goal

is : IsUse held.Argument Argument
is = record { lies = λ things e hand. refl; trees = λ things. refl; same = λ e pile. record { body = refl; nodes = refl; calls = refl; names = refl; outer = refl; scopes = refl; pending = refl } }

-- the action over what lies on top
abbrev go : Spot → Work → Tree → List Slot → Answer
go p w e pile = fails_if (is_full pile) (fail.TooMany limit.Arguments p.at) (Goes (record w { pile = Argument e ∷ pile }))

pub drop_top-requires : goal.drop_top-requires
drop_top-requires c = let t = has-operand c.args.self.now (go c.args.spot (work_of c.args.self.now)) c.requires.fits.1 in (held.Operand, t.rest, t.things_are)

pub returns-then-run_of-ge-ARGUMENTS_MAX : goal.returns-then-run_of-ge-ARGUMENTS_MAX
returns-then-run_of-ge-ARGUMENTS_MAX c =
    let old : Builder = c.args.self.now in
    let t = has-operand old (go c.args.spot (work_of old)) c.requires.fits.1 in
    let below : reverse c.deref.result.now ≡ t.rest = ap reverse c.deref.ensures.value ∙ c.drop_top.ensures held.Operand t.rest t.things_are in
    let count = arguments-below old t c.requires.fits.0 c.deref.result.now below c.run_of.result c.run_of.ensures.within c.run_of.ensures.same c.run_of.ensures.ends in
    inl (ap (λ pile. with_operand pile (go c.args.spot (work_of old))) (pile-of-operand old t)
    ∙ cond-true _ _ _ (full-below (piled t.rest t.others) c.run_of.result count c.if-run_of-ge-ARGUMENTS_MAX.true))

pub returns : goal.returns
returns c =
    let old : Builder = c.args.self.now in
    let new : Builder = record old { held = c.push.new.self } in
    let t = has-operand old (go c.args.spot (work_of old)) c.requires.fits.1 in
    let top = c.drop_top.ensures held.Operand t.rest t.things_are in
    let below : reverse c.deref.result.now ≡ t.rest = ap reverse c.deref.ensures.value ∙ top in
    let count = arguments-below old t c.requires.fits.0 c.deref.result.now below c.run_of.result c.run_of.ensures.within c.run_of.ensures.same c.run_of.ensures.ends in
    let keeps : KeepsRest old new = record { draft = refl; outer = refl; declaring = refl; scripts = refl } in
    let things : things_of new ≡ held.Argument ∷ t.rest =
    things-over new.held.items c.drop_top.new.held.items held.Argument c.in_ok-push.ensures.items ∙ ap (λ (r : List Held). held.Argument ∷ r) top in
    let good = good-operand old t c.requires.fits.0 in (
      ap (λ pile. with_operand pile (go c.args.spot (work_of old))) (pile-of-operand old t)
          ∙ cond-false _ _ _ (room-below (piled t.rest t.others) c.run_of.result count c.if-run_of-ge-ARGUMENTS_MAX.false)
          ∙ ap Goes (sym (work-used old new t held.Argument Argument is keeps things refl)),
      sound-used old new t held.Argument Argument is keeps things refl c.requires.fits.0 (good.0, omega (arith, count, c.if-run_of-ge-ARGUMENTS_MAX.false), good.1),
    )
