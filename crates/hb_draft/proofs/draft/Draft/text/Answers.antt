use Rattle.std.proofs.Common.{◌≡◌, ◌∙◌, ap}
use Rattle.std.specs.Prelude.{slice_get, Some}
use Rattle.hb_draft.specs.{Words.with_word, Unfinished.Unfinished, Made.word_number}
use Rattle.hb_draft.proofs.{WordLists.with_word-front, MadeLemmas.text-made, Heights.low-kept, Heights.length-kept}
use Rattle.hb_draft.proofs.Texts.{text_kept, text_made, text_hand}
use Rattle.hb_draft.proofs.draft.Draft.text.Goals as goal

pub invariant_of-self-in-Ok : goal.invariant_of-self-in-Ok
invariant_of-self-in-Ok c =
    let stands : slice_get (with_word c.self.inside.texts c.args.value.now) c.in_ok-i.i ≡ Some c.args.value.now = rw c.in_ok-i.ensures.words at c.in_ok-i.ensures.place in
    rw (c.in-Ok.ensures.nodes, c.in-Ok.ensures.hand, c.in-Ok.ensures.heights, c.in_ok-i.ensures.words, c.placed.ensures)
    (text_kept _ _ c.self.view_is _ c.self.invariant c.args.place c.args.value.now c.in_ok-i.i c.requires.room c.requires.value stands)

pub returns-in-Ok-clause-put : goal.returns-in-Ok-clause-put
returns-in-Ok-clause-put c =
    let stands : slice_get (with_word c.self.inside.texts c.args.value.now) c.in_ok-i.i ≡ Some c.args.value.now = rw c.in_ok-i.ensures.words at c.in_ok-i.ensures.place in
    rw (c.in-Ok.ensures.nodes, c.in-Ok.ensures.hand, c.in_ok-i.ensures.words, c.placed.ensures)
    (text_made _ _ c.self.view_is _ c.self.invariant c.args.place c.args.value.now c.in_ok-i.i c.requires.room c.requires.value stands)

pub invariant_of-self-in-Err : goal.invariant_of-self-in-Err
invariant_of-self-in-Err c =
    rw (
      c.truncate.ensures,
      c.in_ok-i.ensures.words,
      c.len-count.ensures.len,
      with_word-front c.self.inside.texts c.args.value.now,
      c.in-Err.ensures.nodes_err,
      c.in-Err.ensures.hand_err,
      c.in-Err.ensures.heights_err,
    ) c.self.invariant

pub returns-in-Ok-clause-made : goal.returns-in-Ok-clause-made
returns-in-Ok-clause-made c =
    let stands : slice_get (with_word c.self.inside.texts c.args.value.now) c.in_ok-i.i ≡ Some c.args.value.now = rw c.in_ok-i.ensures.words at c.in_ok-i.ensures.place in
    let number = c.in_ok-i.ensures.number ∙ ap (λ (d : Unfinished). word_number d.table.texts c.args.value.now) c.self.view_is in
    text-made _ _ c.args.place c.args.value.now c.in_ok-i.i number (returns-in-Ok-clause-put c)
    (rw (c.in-Ok.ensures.nodes, c.in-Ok.ensures.hand, c.in_ok-i.ensures.words, c.placed.ensures)
    (text_hand _ _ c.self.view_is _ c.self.invariant c.args.place c.args.value.now c.in_ok-i.i c.requires.room c.requires.value stands))

pub push_node-requires-clause-heights : goal.push_node-requires-clause-heights
push_node-requires-clause-heights c = length-kept _ _ _ c.self.invariant

pub push_node-requires-clause-low : goal.push_node-requires-clause-low
push_node-requires-clause-low c = low-kept _ _ _ c.self.invariant
