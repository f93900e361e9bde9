use Rattle.std.proofs.Common.{◌≡◌, ℕ, ◌<◌, ◌∷◌, ◌++◌, [], List, Some, length, reverse, refl, sym, ap, ap₂, ◌∙◌, arith}
use Rattle.hb_tree.specs.Tree.{Tree}
use Rattle.hb_draft.specs.Unfinished.{Unfinished, in_hand, HasBlock, IsRootBlock, scripts_in}
use Rattle.hb_draft.specs.Made.{made_of, setup_from}
use Rattle.hb_build.proofs.{RelaidLemmas.pile-was, RelaidLemmas.good-was, SetupLemmas.has-setup, SetupLemmas.is-setup}
use Rattle.hb_build.specs.declared.{builder.Builder.Builder, held.Held.Held}
use Rattle.hb_build.specs.declared.held.Held.TheVariants as held
use Rattle.hb_build.specs.Said.{Said, said_of}
use Rattle.hb_build.specs.Pile.{Slot, Closed, Setup, piled}
use Rattle.hb_build.specs.Sound.{IsSound, IsGood, IsCount, work_of, things_of, pile_of}
use Rattle.hb_build.specs.Acts.{Work, Answer, Goes, with_closed, with_setup}
use Rattle.hb_build.proofs.EndedLemmas.{Ends, pile-ended, good-ended, sound-ended, root-block}
use Rattle.hb_build.proofs.builder.Builder.end_setup.Goals as goal
use Rattle.std.proofs.Common.{subst}

-- the action over what lies on top
abbrev go : Work → Tree → List Slot → Answer
go w b pile = Goes (record w { said = record w.said { setup = Some b }; pile = pile })

pub drop_top-requires : goal.drop_top-requires
drop_top-requires c = let t = has-setup c.args.self.now (go (work_of c.args.self.now)) c.requires.fits.1 in (held.Closed, held.Setup ∷ t.rest, t.things_are)

pub drop_top-requires-2 : goal.drop_top-requires-2
drop_top-requires-2 c =
    let t = has-setup c.args.self.now (go (work_of c.args.self.now)) c.requires.fits.1 in
    (held.Setup, t.rest, c.drop_top.ensures held.Closed (held.Setup ∷ t.rest) t.things_are)

pub setup-requires : goal.setup-requires
setup-requires c =
    let old : Builder = c.args.self.now in
    let t = has-setup old (go (work_of old)) c.requires.fits.1 in
    let before = held.Closed ∷ held.Setup ∷ t.rest in
    let good = good-was old before (t.block ∷ t.others) t.things_are t.hand_is c.requires.fits.0 in
    let count : IsCount old.scope (Closed t.block ∷ Setup ∷ piled t.rest t.others) = subst (IsCount old.scope) (pile-was old before (t.block ∷ t.others) t.things_are t.hand_is) c.requires.fits.0.counts.0 in
    subst (HasBlock IsRootBlock) (sym t.hand_is) (good.0, root-block old.scope Setup t.block (piled t.rest t.others) count refl)

pub returns : goal.returns
returns c =
    let old : Builder = c.args.self.now in
    let new : Builder = c.end_scope.new.self in
    let t = has-setup old (go (work_of old)) c.requires.fits.1 in
    let rest = c.end_scope.ensures.rest in
    let first = c.drop_top.ensures held.Closed (held.Setup ∷ t.rest) t.things_are in
    let second = c.drop_top-2.ensures held.Setup t.rest first in
    let adds = c.setup.ensures.setup in
    let same : t.block ∷ t.others ≡ adds.block ∷ in_hand c.setup.new.self = sym t.hand_is ∙ adds.was in
    let draft : new.draft ≡ c.setup.new.self = ap (λ b. b.draft) rest in
    let things : things_of new ≡ t.rest = ap (λ (b : Builder). things_of b) rest ∙ second in
    let ends : Ends old new held.Setup adds.block = record {
      things = t.things_are ∙ ap (λ (r : List Held). held.Closed ∷ held.Setup ∷ r) (sym things);
      hand = adds.was ∙ ap (λ (d : Unfinished). adds.block ∷ in_hand d) (sym draft);
      outer = c.end_scope.ensures.outer;
      declaring = ap (λ b. b.declaring) rest;
      names = ap (λ (d : Unfinished). d.table.names) draft ∙ ap (λ u. u.names) adds.table;
      classes = ap (λ (d : Unfinished). d.table.classes) draft ∙ ap (λ u. u.classes) adds.table;
      types = ap (λ (d : Unfinished). d.table.types) draft ∙ ap (λ u. u.types) adds.table;
    } in
    let said : said_of (made_of new.draft) ≡ record (work_of old).said { setup = Some adds.block } =
    ap (λ (d : Unfinished). said_of (made_of d)) draft ∙ ap said_of c.setup.ensures.made ∙ ap (λ hand. said_of (setup_from (made_of old.draft) hand)) adds.was in
    let work = λ (s : Said) (d : ℕ). let w : Work = record { said = s; pile = pile_of new; depth = d } in w in
    let good = good-ended old new held.Setup Setup adds.block is-setup ends c.requires.fits.0 in (
      ap (λ pile. with_closed pile (λ b pile. with_setup pile (go (work_of old) b))) (pile-ended old new held.Setup Setup adds.block is-setup ends)
          ∙ ap Goes (ap₂ work (sym said) (sym (ap (λ b. b.depth) rest))),
      sound-ended old new held.Setup Setup adds.block is-setup ends c.requires.fits.0 good.1
          (ap (λ b. Rattle.hb_build.specs.Sound.numbers b.scripts.items) rest ∙ c.requires.fits.0.named
          ∙ ap (Rattle.std.proofs.Common.map (λ s. s.0)) (sym (ap (λ (d : Unfinished). scripts_in d.table) draft ∙ adds.script_trees))),
    )
