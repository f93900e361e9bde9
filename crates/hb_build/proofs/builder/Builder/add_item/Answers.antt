use Rattle.std.proofs.Common.{◌≡◌, ◌∷◌, refl, sym, ap, ◌∙◌, List}
use Rattle.hb_tree.specs.Tree.{Tree}
use Rattle.hb_build.specs.{Pile.Slot, Pile.Item, Sound.work_of, Sound.things_of}
use Rattle.hb_build.specs.declared.{builder.Builder.Builder, held.Held.Held}
use Rattle.hb_build.specs.declared.held.Held.TheVariants as held
use Rattle.hb_build.specs.Acts.{Work, Answer, Goes, with_operand}
use Rattle.hb_build.proofs.PushLemmas.{KeepsRest, things-over}
use Rattle.hb_build.proofs.ItemLemmas.{has-operand, pile-of-operand, IsUse, sound-used, work-used, good-operand}
use Rattle.hb_build.proofs.builder.Builder.add_item.Goals as goal

is : IsUse held.Item Item
is = record { lies = λ things e hand. refl; trees = λ things. refl; same = λ e pile. record { body = refl; nodes = refl; calls = refl; names = refl; outer = refl; scopes = refl; pending = refl } }

-- the action over what lies on top
abbrev go : Work → Tree → List Slot → Answer
go w e pile = Goes (record w { pile = Item e ∷ pile })

pub drop_top-requires : goal.drop_top-requires
drop_top-requires c = let t = has-operand c.args.self.now (go (work_of c.args.self.now)) c.requires.fits.1 in (held.Operand, t.rest, t.things_are)

pub returns : goal.returns
returns c =
    let old : Builder = c.args.self.now in
    let new : Builder = record old { held = c.push.new.self } in
    let t = has-operand old (go (work_of old)) c.requires.fits.1 in
    let keeps : KeepsRest old new = record { draft = refl; outer = refl; declaring = refl; scripts = refl } in
    let things : things_of new ≡ held.Item ∷ t.rest =
    things-over new.held.items c.drop_top.new.held.items held.Item c.in_ok-push.ensures.items ∙ ap (λ (r : List Held). held.Item ∷ r) (c.drop_top.ensures held.Operand t.rest t.things_are) in (
      ap (λ pile. with_operand pile (go (work_of old))) (pile-of-operand old t) ∙ ap Goes (sym (work-used old new t held.Item Item is keeps things refl)),
      sound-used old new t held.Item Item is keeps things refl c.requires.fits.0 (good-operand old t c.requires.fits.0),
    )
