use Rattle.std.proofs.Common.{◌≡◌, ℕ, ◌∷◌, ◌++◌, [], List, length, map, reverse, refl, sym, ap, ap₂, ◌∙◌, arith, subst, inl, true, false}
use Rattle.std.specs.Prelude.{nat_le}
use Rattle.std.proofs.{lemmas.Bool.cond-true, lemmas.Bool.cond-false, lemmas.Bool.Decides.nat_tests, lemmas.List.length-map, lemmas.List.map-append}
use Rattle.hb_tree.specs.Tree.{Tree}
use Rattle.hb_tree.specs.declared.limits.TheConstants.{SCRIPTS_MAX}
use Rattle.hb_draft.specs.Unfinished.{Unfinished, in_hand, HasBlock, IsRootBlock, scripts_in}
use Rattle.hb_draft.specs.Made.{made_of, script_from}
use Rattle.hb_build.proofs.{RelaidLemmas.pile-was, RelaidLemmas.good-was, ScopeLemmas.numbers-push, BegunLemmas.IsMark, ScriptLemmas.has-script}
use Rattle.hb_build.specs.declared.{builder.Builder.Builder, held.Held.Held, held.Spot.Spot}
use Rattle.hb_build.specs.declared.held.Held.TheVariants as held
use Rattle.hb_build.specs.declared.faults.ParseFail.TheVariants as fail
use Rattle.hb_build.specs.declared.faults.Limit.TheVariants as limit
use Rattle.hb_build.specs.Said.{Said, said_of}
use Rattle.hb_build.specs.Pile.{Slot, Closed, Script, piled}
use Rattle.hb_build.specs.Sound.{IsCount, work_of, things_of, pile_of, numbers}
use Rattle.hb_build.specs.Acts.{Work, Answer, Goes, with_closed, with_script, fails_if}
use Rattle.hb_build.proofs.EndedLemmas.{Ends, pile-ended, good-ended, sound-ended, root-block}
use Rattle.hb_build.proofs.builder.Builder.end_script.Goals as goal

-- the action over what lies on top
abbrev go : Spot → Work → Tree → ℕ → List Slot → Answer
go p w b x pile = fails_if (nat_le SCRIPTS_MAX (length w.said.scripts)) (fail.TooMany limit.Scripts p.at)
    (Goes (record w { said = record w.said { scripts = w.said.scripts ++ (x, b) ∷ [] }; pile = pile }))

pub returns-then-len-ge-SCRIPTS_MAX : goal.returns-then-len-ge-SCRIPTS_MAX
returns-then-len-ge-SCRIPTS_MAX c =
    let old : Builder = c.args.self.now in
    let t = has-script old (go c.args.spot (work_of old)) c.requires.fits.1 in
    let count : length old.scripts.items ≡ length (scripts_in old.draft.table) =
    omega (arith, length-map old.scripts.items (λ x. x.0), length-map (scripts_in old.draft.table) (λ s. s.0), ap length c.requires.fits.0.named) in
    let many = c.if-len-ge-SCRIPTS_MAX.true in
    let full : nat_le SCRIPTS_MAX (length (scripts_in old.draft.table)) ≡ true = grind (arith, nat_tests) in
    inl (ap (λ pile. with_closed pile (λ b pile. with_script pile (go c.args.spot (work_of old) b))) (pile-was old (held.Closed ∷ held.Script t.name ∷ t.rest) (t.block ∷ t.others) t.things_are t.hand_is)
    ∙ cond-true _ _ _ full)

pub drop_top-requires : goal.drop_top-requires
drop_top-requires c =
    let t = has-script c.args.self.now (go c.args.spot (work_of c.args.self.now)) c.requires.fits.1 in
    (held.Closed, held.Script t.name ∷ t.rest, t.things_are)

pub take_script-name-requires : goal.take_script-name-requires
take_script-name-requires c =
    let t = has-script c.args.self.now (go c.args.spot (work_of c.args.self.now)) c.requires.fits.1 in
    (t.name, t.rest, c.drop_top.ensures held.Closed (held.Script t.name ∷ t.rest) t.things_are)

pub script-requires-clause-name : goal.script-requires-clause-name
script-requires-clause-name c =
    let old : Builder = c.args.self.now in
    let t = has-script old (go c.args.spot (work_of old)) c.requires.fits.1 in
    let dropped = c.drop_top.ensures held.Closed (held.Script t.name ∷ t.rest) t.things_are in
    let was : things_of old ≡ held.Closed ∷ held.Script c.take_script-name.result ∷ reverse c.take_script-name.new.held.items =
    t.things_are ∙ ap (λ (r : List Held). held.Closed ∷ r) (sym dropped ∙ c.take_script-name.ensures) in
    (good-was old (held.Closed ∷ held.Script c.take_script-name.result ∷ reverse c.take_script-name.new.held.items) (t.block ∷ t.others) was t.hand_is c.requires.fits.0).1.0

pub script-requires-clause-block : goal.script-requires-clause-block
script-requires-clause-block c =
    let old : Builder = c.args.self.now in
    let t = has-script old (go c.args.spot (work_of old)) c.requires.fits.1 in
    let before = held.Closed ∷ held.Script t.name ∷ t.rest in
    let good = good-was old before (t.block ∷ t.others) t.things_are t.hand_is c.requires.fits.0 in
    let count : IsCount old.scope (Closed t.block ∷ Script t.name.0 ∷ piled t.rest t.others) =
    subst (IsCount old.scope) (pile-was old before (t.block ∷ t.others) t.things_are t.hand_is) c.requires.fits.0.counts.0 in
    subst (HasBlock IsRootBlock) (sym t.hand_is) (good.0, root-block old.scope (Script t.name.0) t.block (piled t.rest t.others) count refl)

pub returns : goal.returns
returns c =
    let old : Builder = c.args.self.now in
    let new : Builder = c.end_scope.new.self in
    let t = has-script old (go c.args.spot (work_of old)) c.requires.fits.1 in
    let name = c.take_script-name.result in
    let thing = held.Script name in
    let slot = Script name.0 in
    let rest = c.end_scope.ensures.rest in
    let dropped = c.drop_top.ensures held.Closed (held.Script t.name ∷ t.rest) t.things_are in
    let adds = c.in_ok-script.ensures.script in
    let draft : new.draft ≡ c.script.new.self = ap (λ b. b.draft) rest in
    let things : things_of new ≡ reverse c.take_script-name.new.held.items = ap (λ (b : Builder). things_of b) rest in
    let is : IsMark thing slot = record { lies = λ things hand. refl; trees = λ things. refl; scopes = λ pile. refl; marks_are = λ pile. refl; pending = λ pile. refl } in
    let ends : Ends old new thing adds.block = record {
      things = t.things_are ∙ ap (λ (r : List Held). held.Closed ∷ r) (sym dropped ∙ c.take_script-name.ensures ∙ ap (λ (r : List Held). thing ∷ r) (sym things));
      hand = adds.was ∙ ap (λ (d : Unfinished). adds.block ∷ in_hand d) (sym draft);
      outer = c.end_scope.ensures.outer;
      declaring = ap (λ b. b.declaring) rest;
      names = ap (λ (d : Unfinished). d.table.names) draft ∙ ap (λ u. u.names) adds.table;
      classes = ap (λ (d : Unfinished). d.table.classes) draft ∙ ap (λ u. u.classes) adds.table;
      types = ap (λ (d : Unfinished). d.table.types) draft ∙ ap (λ u. u.types) adds.table;
    } in
    let count : length old.scripts.items ≡ length (scripts_in old.draft.table) =
    omega (arith, length-map old.scripts.items (λ x. x.0), length-map (scripts_in old.draft.table) (λ s. s.0), ap length c.requires.fits.0.named) in
    let few = c.if-len-ge-SCRIPTS_MAX.false in
    let room : nat_le SCRIPTS_MAX (length (scripts_in old.draft.table)) ≡ false = grind (arith, nat_tests) in
    let said : said_of (made_of new.draft) ≡ record (work_of old).said { scripts = scripts_in old.draft.table ++ (name.0, adds.block) ∷ [] } =
    ap (λ (d : Unfinished). said_of (made_of d)) draft ∙ ap said_of c.in_ok-script.ensures.made ∙ ap (λ hand. said_of (script_from (made_of old.draft) name.0 hand)) adds.was in
    let work = λ (s : Said) (d : ℕ). let w : Work = record { said = s; pile = pile_of new; depth = d } in w in
    let good = good-ended old new thing slot adds.block is ends c.requires.fits.0 in
    let script_names : numbers new.scripts.items ≡ map (λ s. s.0) (scripts_in new.draft.table) =
    ap (λ b. numbers b.scripts.items) rest ∙ ap numbers c.in_ok-push.ensures.items ∙ numbers-push old.scripts.items name
    ∙ ap (λ xs. xs ++ name.0 ∷ []) c.requires.fits.0.named ∙ sym (map-append (λ s. s.0) (scripts_in old.draft.table) ((name.0, adds.block) ∷ []))
    ∙ ap (map (λ s. s.0)) (sym (ap (λ (d : Unfinished). scripts_in d.table) draft ∙ adds.script_trees)) in (
      ap (λ pile. with_closed pile (λ b pile. with_script pile (go c.args.spot (work_of old) b))) (pile-ended old new thing slot adds.block is ends)
          ∙ cond-false _ _ _ room
          ∙ ap Goes (ap₂ work (sym said) (sym (ap (λ b. b.depth) rest))),
      sound-ended old new thing slot adds.block is ends c.requires.fits.0 good.1.1 script_names,
    )
