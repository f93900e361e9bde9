use Rattle.std.proofs.Common.{◌≡◌, ◌+◌, length, ℕ, List, [], ◌∷◌, ◌++◌, false, refl, sym, ap, ◌∙◌, subst, inl, inr}
use Rattle.std.specs.Prelude.{nat_le}
use Rattle.std.proofs.lemmas.Bool.{cond-true, cond-false}
use Rattle.hb_grammar.specs.declared.actions.Action.TheVariants as a
use Rattle.hb_tree.specs.declared.limits.TheConstants.{CONSTRUCTS_MAX}
use Rattle.hb_types.specs.declared.ids.NameId.{NameId}
use Rattle.hb_draft.specs.Unfinished.{in_hand}
use Rattle.hb_build.proofs.{TakeLemmas.top-name, AnswerLemmas.answers-fault}
use Rattle.hb_build.specs.declared.{builder.Builder.Builder, held.Spot.Spot}
use Rattle.hb_build.specs.declared.faults.ParseFail.TheVariants as fail
use Rattle.hb_build.specs.declared.faults.Limit.TheVariants as limit
use Rattle.hb_build.specs.declared.held.Held.TheVariants as held
use Rattle.hb_build.specs.Pile.{Slot, Word, Target, has_too_many_variables}
use Rattle.hb_build.specs.Acts.{Answer, Work, Goes, Fails, opens, opened, fails_if, push, act, with_name}
use Rattle.hb_build.specs.Sound.{IsSound, IsCount, IsGood, things_of, pile_of, work_of}
use Rattle.hb_build.proofs.PushLemmas.{KeepsRest, pile-under, sound-under, sound-over, work-over}
use Rattle.hb_build.proofs.LightLemmas.{light-word, light-target, quiet-word, count-under}
use Rattle.hb_build.proofs.ScopeLemmas.{count-assigned, few-assigned, many-assigned}
use Rattle.hb_build.proofs.builder.Builder.open_assign.Goals as goal

-- the action once the variable's name is taken
abbrev assigning : Spot → Work → ℕ → Spot → List Slot → Answer
assigning p w x q pile = opens p w (fails_if (has_too_many_variables (Target x p ∷ pile)) (fail.TooMany limit.Variables p.at) (Goes (opened (record w { pile = Target x p ∷ pile }))))

pub take_word-requires : goal.take_word-requires
take_word-requires c =
    let old = c.args.self.now in
    let top = top-name (things_of old) (in_hand old.draft) (assigning c.args.spot (work_of old)) c.requires.fits.1 in
    (top.1, top.2, top.0, top.3)

-- what the action does where a name lies on top, and no construct too many is open
act-assign : (old taken : Builder) (spot q : Spot) (x : NameId) → KeepsRest old taken → things_of old ≡ held.Word x q ∷ things_of taken → nat_le CONSTRUCTS_MAX old.depth ≡ false
    → act a.OpenAssign spot [] (work_of old)
    ≡ fails_if (has_too_many_variables (Target x.0 spot ∷ pile_of taken)) (fail.TooMany limit.Variables spot.at) (Goes (opened (record (work_of old) { pile = Target x.0 spot ∷ pile_of taken })))
act-assign old taken spot q x keeps things deep =
    ap (λ pile. with_name pile (assigning spot (work_of old))) (pile-under old taken (held.Word x q) (Word x.0 q) keeps things (light-word x q)) ∙ cond-false _ _ _ deep

pub returns-in_err-assigns : goal.returns-in_err-assigns
returns-in_err-assigns c =
    let old = c.args.self.now in
    let taken : Builder = record old { held = c.take_word.new.held } in
    let keeps : KeepsRest old taken = record { draft = refl; outer = refl; declaring = refl; scripts = refl } in
    let x = c.take_word.result.0 in
    let does = act-assign old taken c.args.spot c.take_word.result.1 x keeps c.take_word.ensures c.in_ok-opens.ensures in
    let sound = sound-under old taken (held.Word x c.take_word.result.1) (Word x.0 c.take_word.result.1) keeps c.take_word.ensures (light-word x c.take_word.result.1) c.requires.fits.0 (λ g. g.1)
    (count-under old.scope (Word x.0 c.take_word.result.1) (pile_of taken) (quiet-word x.0 c.take_word.result.1)) in
    answers-fault _ _ _ _ c.from_residual-in_err-assigns.ensures (elim c.in_err-assigns.ensures.result [
      | inl many ↦ inl (does ∙ cond-true _ _ _ (many-assigned old.scope (pile_of taken) x c.args.spot sound.counts.0 many.1) ∙ ap Fails (sym many.0))
      | inr none ↦ inr none
    ])

pub returns : goal.returns
returns c =
    let old = c.args.self.now in
    let taken : Builder = record old { held = c.take_word.new.held } in
    let keeps : KeepsRest old taken = record { draft = refl; outer = refl; declaring = refl; scripts = refl } in
    let x = c.take_word.result.0 in
    let does = act-assign old taken c.args.spot c.take_word.result.1 x keeps c.take_word.ensures c.in_ok-opens.ensures in
    let sound : IsSound taken = sound-under old taken (held.Word x c.take_word.result.1) (Word x.0 c.take_word.result.1) keeps c.take_word.ensures (light-word x c.take_word.result.1) c.requires.fits.0 (λ g. g.1)
    (count-under old.scope (Word x.0 c.take_word.result.1) (pile_of taken) (quiet-word x.0 c.take_word.result.1)) in
    let assigned : Builder = c.assigns.new.self in
    let new : Builder = record assigned { depth = assigned.depth + 1; held = c.push.new.self } in
    let is = c.in_ok-assigns.ensures.result in
    let slot = Target x.0 c.args.spot in
    let thing = held.Target x c.args.spot in
    let stays : KeepsRest taken new = record { draft = ap (λ b. b.draft) is.0; outer = ap (λ b. b.outer) is.0; declaring = ap (λ b. b.declaring) is.0; scripts = ap (λ b. b.scripts) is.0 } in
    let items : new.held.items ≡ taken.held.items ++ thing ∷ [] = c.in_ok-push.ensures.items ∙ ap (λ b. b.held.items ++ thing ∷ []) is.0 in
    let count : IsCount new.scope (slot ∷ pile_of taken) = count-assigned taken.scope new.scope (pile_of taken) x c.args.spot sound.counts.0 (ap (λ b. b.scope) is.0) is.1 in
    let known = (subst (IsGood (length old.draft.table.names) (length old.draft.table.classes))
    (pile-under old taken (held.Word x c.take_word.result.1) (Word x.0 c.take_word.result.1) keeps c.take_word.ensures (light-word x c.take_word.result.1)) c.requires.fits.0.good).0 in
    let done : IsSound new = sound-over taken new thing slot stays items (light-target x c.args.spot) sound (known, sound.good) count in
    let before : Builder = record assigned { held = c.push.new.self } in
    let keeping : KeepsRest taken before = record { draft = stays.draft; outer = stays.outer; declaring = stays.declaring; scripts = stays.scripts } in
    let over : work_of before ≡ push slot (work_of taken) = work-over taken before thing slot keeping items (light-target x c.args.spot) (ap (λ b. b.depth) is.0) in
    (does ∙ cond-false _ _ _ (few-assigned new.scope (slot ∷ pile_of taken) count) ∙ ap (λ w. Goes (opened w)) (sym over), done)
