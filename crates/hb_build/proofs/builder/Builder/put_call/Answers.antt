use Rattle.std.proofs.Common.{length, ◌+◌, ◌≡◌, ◌∷◌, List, refl, ◌∙◌, sym, ap, subst, reverse}
use Rattle.hb_tree.specs.Tree.{Tree, TCall}
use Rattle.hb_draft.specs.Unfinished.{call_over, forest_of, in_hand, last_in, receive}
use Rattle.hb_build.proofs.{StepLemmas.step-fails, StepLemmas.step-goes, BlockLemmas.run-is, BlockLemmas.cut-is}
use Rattle.hb_build.specs.{Acts.complete, Pile.Operand, Pile.arguments_on, Sound.work_of, Sound.pile_of}
use Rattle.hb_build.specs.declared.held.Held.{Held}
use Rattle.hb_build.specs.declared.held.Held.TheVariants as held
use Rattle.hb_build.proofs.NodeLemmas.{own-fault, put-answer, is-put, put-said, put-depth, within, is_over, IsPut}
use Rattle.hb_build.proofs.CallLemmas.{few-arguments, call-top, call-step, call-parts, call-good, enough-parts, retop}
use Rattle.hb_build.proofs.RunLemmas.{tail}
use Rattle.hb_build.proofs.builder.Builder.put_call.Goals as goal

pub take_called-requires : goal.take_called-requires
take_called-requires c =
    let run = run-is held.Argument c.run_of-count.result c.deref.result.now c.args.self.now.held.items c.deref.ensures.value c.run_of-count.ensures.within c.run_of-count.ensures.same c.run_of-count.ensures.ends in
    let t = call-top c.args.self.now c.requires.fits.0 c.run_of-count.result run
    (λ m q r pile. complete q (λ id. TCall id r m (forest_of (arguments_on (pile_of c.args.self.now)))) Operand pile (work_of c.args.self.now)) c.requires.fits.1 in
    let cut = cut-is c.run_of-count.result c.args.self.now.held.items c.truncate.new.self.items c.deref.result.now c.len.result c.deref.ensures.value c.run_of-count.ensures.within
    (c.len.ensures ∙ sym c.deref.ensures.len) c.truncate.ensures.items in
    (t.name, t.spot, held.Operand ∷ t.rest, cut ∙ t.mark)

pub drop_top-requires : goal.drop_top-requires
drop_top-requires c =
    let run = run-is held.Argument c.run_of-count.result c.deref.result.now c.args.self.now.held.items c.deref.ensures.value c.run_of-count.ensures.within c.run_of-count.ensures.same c.run_of-count.ensures.ends in
    let t = call-top c.args.self.now c.requires.fits.0 c.run_of-count.result run
    (λ m q r pile. complete q (λ id. TCall id r m (forest_of (arguments_on (pile_of c.args.self.now)))) Operand pile (work_of c.args.self.now)) c.requires.fits.1 in
    let cut = cut-is c.run_of-count.result c.args.self.now.held.items c.truncate.new.self.items c.deref.result.now c.len.result c.deref.ensures.value c.run_of-count.ensures.within
    (c.len.ensures ∙ sym c.deref.ensures.len) c.truncate.ensures.items in
    let was = sym (cut ∙ t.mark) ∙ c.take_called.ensures in
    (held.Operand, t.rest, sym (tail was))

pub highest-requires : goal.highest-requires
highest-requires c =
    let run = run-is held.Argument c.run_of-count.result c.deref.result.now c.args.self.now.held.items c.deref.ensures.value c.run_of-count.ensures.within c.run_of-count.ensures.same c.run_of-count.ensures.ends in
    let t = call-top c.args.self.now c.requires.fits.0 c.run_of-count.result run
    (λ m q r pile. complete q (λ id. TCall id r m (forest_of (arguments_on (pile_of c.args.self.now)))) Operand pile (work_of c.args.self.now)) c.requires.fits.1 in
    let cut = cut-is c.run_of-count.result c.args.self.now.held.items c.truncate.new.self.items c.deref.result.now c.len.result c.deref.ensures.value c.run_of-count.ensures.within
    (c.len.ensures ∙ sym c.deref.ensures.len) c.truncate.ensures.items in
    enough-parts c.args.self.now c.requires.fits.0 c.run_of-count.result run t (work_of c.args.self.now) refl _ refl

pub returns-in_err-completes : goal.returns-in_err-completes
returns-in_err-completes c =
    let run = run-is held.Argument c.run_of-count.result c.deref.result.now c.args.self.now.held.items c.deref.ensures.value c.run_of-count.ensures.within c.run_of-count.ensures.same c.run_of-count.ensures.ends in
    let t = call-top c.args.self.now c.requires.fits.0 c.run_of-count.result run
    (λ m q r pile. complete q (λ id. TCall id r m (forest_of (arguments_on (pile_of c.args.self.now)))) Operand pile (work_of c.args.self.now)) c.requires.fits.1 in
    let cut = cut-is c.run_of-count.result c.args.self.now.held.items c.truncate.new.self.items c.deref.result.now c.len.result c.deref.ensures.value c.run_of-count.ensures.within
    (c.len.ensures ∙ sym c.deref.ensures.len) c.truncate.ensures.items in
    let was = sym (cut ∙ t.mark) ∙ c.take_called.ensures in
    let off = c.drop_top.ensures held.Operand t.rest (sym (tail was)) in
    let u = retop c.args.self.now c.run_of-count.result t (reverse c.drop_top.new.held.items) c.take_called.result.0 c.take_called.result.1
    (was ∙ ap (λ (x : List Held). held.Called c.take_called.result.0 c.take_called.result.1 ∷ x) (sym (tail was) ∙ ap (λ (x : List Held). held.Operand ∷ x) (sym off))) in
    own-fault _ _ _ _ c.from_residual.ensures.1
    (step-fails c.args.self.now c.requires.fits.0 _ u.spot c.highest.result (work_of c.args.self.now) _ _
    (call-step c.args.self.now c.requires.fits.0 c.run_of-count.result run u (work_of c.args.self.now) refl c.highest.result c.highest.ensures) c.in_err-completes.field-0.0
    c.in_err-completes.ensures)

pub call-requires-clause-few : goal.call-requires-clause-few
call-requires-clause-few c =
    let run = run-is held.Argument c.run_of-count.result c.deref.result.now c.args.self.now.held.items c.deref.ensures.value c.run_of-count.ensures.within c.run_of-count.ensures.same c.run_of-count.ensures.ends in
    let t = call-top c.args.self.now c.requires.fits.0 c.run_of-count.result run
    (λ m q r pile. complete q (λ id. TCall id r m (forest_of (arguments_on (pile_of c.args.self.now)))) Operand pile (work_of c.args.self.now)) c.requires.fits.1 in
    let cut = cut-is c.run_of-count.result c.args.self.now.held.items c.truncate.new.self.items c.deref.result.now c.len.result c.deref.ensures.value c.run_of-count.ensures.within
    (c.len.ensures ∙ sym c.deref.ensures.len) c.truncate.ensures.items in
    few-arguments c.args.self.now c.requires.fits.0 c.run_of-count.result run

pub call-requires-clause-parts : goal.call-requires-clause-parts
call-requires-clause-parts c =
    let run = run-is held.Argument c.run_of-count.result c.deref.result.now c.args.self.now.held.items c.deref.ensures.value c.run_of-count.ensures.within c.run_of-count.ensures.same c.run_of-count.ensures.ends in
    let t = call-top c.args.self.now c.requires.fits.0 c.run_of-count.result run
    (λ m q r pile. complete q (λ id. TCall id r m (forest_of (arguments_on (pile_of c.args.self.now)))) Operand pile (work_of c.args.self.now)) c.requires.fits.1 in
    let cut = cut-is c.run_of-count.result c.args.self.now.held.items c.truncate.new.self.items c.deref.result.now c.len.result c.deref.ensures.value c.run_of-count.ensures.within
    (c.len.ensures ∙ sym c.deref.ensures.len) c.truncate.ensures.items in
    let limits = within (1 + c.highest.result) (length c.args.self.now.draft.table.nodes) (is_over c.args.self.now.scope) c.take_called.result.1.at c.in_ok-completes.ensures in
    let low = limits.low in
    call-parts c.args.self.now c.requires.fits.0 c.run_of-count.result run t (work_of c.args.self.now) refl c.highest.result c.highest.ensures low

pub call-requires-clause-name : goal.call-requires-clause-name
call-requires-clause-name c =
    let run = run-is held.Argument c.run_of-count.result c.deref.result.now c.args.self.now.held.items c.deref.ensures.value c.run_of-count.ensures.within c.run_of-count.ensures.same c.run_of-count.ensures.ends in
    let t = call-top c.args.self.now c.requires.fits.0 c.run_of-count.result run
    (λ m q r pile. complete q (λ id. TCall id r m (forest_of (arguments_on (pile_of c.args.self.now)))) Operand pile (work_of c.args.self.now)) c.requires.fits.1 in
    let cut = cut-is c.run_of-count.result c.args.self.now.held.items c.truncate.new.self.items c.deref.result.now c.len.result c.deref.ensures.value c.run_of-count.ensures.within
    (c.len.ensures ∙ sym c.deref.ensures.len) c.truncate.ensures.items in
    let was = sym (cut ∙ t.mark) ∙ c.take_called.ensures in
    let off = c.drop_top.ensures held.Operand t.rest (sym (tail was)) in
    let u = retop c.args.self.now c.run_of-count.result t (reverse c.drop_top.new.held.items) c.take_called.result.0 c.take_called.result.1
    (was ∙ ap (λ (x : List Held). held.Called c.take_called.result.0 c.take_called.result.1 ∷ x) (sym (tail was) ∙ ap (λ (x : List Held). held.Operand ∷ x) (sym off))) in
    (call-good c.args.self.now c.requires.fits.0 c.run_of-count.result run u (work_of c.args.self.now) refl c.highest.result c.highest.ensures).0

pub returns : goal.returns
returns c = put-answer _ _ c.put.result c.put.ensures.held c.put.ensures.rest c.put.ensures.memory (λ held_is rest.
    let run = run-is held.Argument c.run_of-count.result c.deref.result.now c.args.self.now.held.items c.deref.ensures.value c.run_of-count.ensures.within c.run_of-count.ensures.same c.run_of-count.ensures.ends in
    let t = call-top c.args.self.now c.requires.fits.0 c.run_of-count.result run
    (λ m q r pile. complete q (λ id. TCall id r m (forest_of (arguments_on (pile_of c.args.self.now)))) Operand pile (work_of c.args.self.now)) c.requires.fits.1 in
    let cut = cut-is c.run_of-count.result c.args.self.now.held.items c.truncate.new.self.items c.deref.result.now c.len.result c.deref.ensures.value c.run_of-count.ensures.within
    (c.len.ensures ∙ sym c.deref.ensures.len) c.truncate.ensures.items in
    let was = sym (cut ∙ t.mark) ∙ c.take_called.ensures in
    let off = c.drop_top.ensures held.Operand t.rest (sym (tail was)) in
    let u = retop c.args.self.now c.run_of-count.result t (reverse c.drop_top.new.held.items) c.take_called.result.0 c.take_called.result.1
    (was ∙ ap (λ (x : List Held). held.Called c.take_called.result.0 c.take_called.result.1 ∷ x) (sym (tail was) ∙ ap (λ (x : List Held). held.Operand ∷ x) (sym off))) in
    let made = c.in_ok-call.ensures.made in
    let same = c.in_ok-call.ensures.put.table.types in
    step-goes c.args.self.now c.requires.fits.0 _ u.spot c.highest.result (work_of c.args.self.now) _ _
    (call-step c.args.self.now c.requires.fits.0 c.run_of-count.result run u (work_of c.args.self.now) refl c.highest.result c.highest.ensures) c.in_ok-completes.ensures c.put.new.self
    (subst (λ (x : List Tree). IsPut c.args.self.now c.put.new.self (held.Operand ∷ u.rest)
    (receive (λ r. TCall (length (work_of c.args.self.now).said.places) r c.take_called.result.0.0 (forest_of (last_in c.run_of-count.result (in_hand c.args.self.now.draft)))) x)) u.hand_is
    (is-put c.args.self.now c.put.new.self c.call.new.self c.drop_top.new.held.items held.Operand _ rest held_is c.place.result (call_over c.take_called.result.0.0 c.run_of-count.result) made same))
    c.place.result c.place.ensures
    (put-said c.args.self.now c.put.new.self c.call.new.self c.drop_top.new.held.items held.Operand _ rest held_is c.place.result (call_over c.take_called.result.0.0 c.run_of-count.result) made same)
    (put-depth c.args.self.now c.put.new.self c.call.new.self c.drop_top.new.held.items held.Operand _ rest held_is c.place.result (call_over c.take_called.result.0.0 c.run_of-count.result) made same))
