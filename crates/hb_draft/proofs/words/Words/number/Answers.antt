use Rattle.std.proofs.Common.{◌∙◌, sym}
use Rattle.hb_draft.proofs.WordLists.{word-any, word-found, word-number, word-inserted, with_word-there, with_word-place}
use Rattle.hb_draft.proofs.words.Words.number.Goals as goal

pub returns-in-Some-clause-words : goal.returns-in-Some-clause-words
returns-in-Some-clause-words c =
    sym (with_word-there c.args.self.now c.args.word.now (sym (word-any c.self.inside.set.keys (λ v. v.items) c.args.self.now c.self.view_is c.args.word.now) ∙ sym c.in-Some.ensures.found))

pub returns-in-Some-clause-number : goal.returns-in-Some-clause-number
returns-in-Some-clause-number c = word-found c.self.inside.set.keys (λ v. v.items) c.args.self.now c.self.view_is c.args.word.now c.in-Some.i c.in-Some.ensures.index

pub returns-in-Some-clause-place : goal.returns-in-Some-clause-place
returns-in-Some-clause-place c =
    let there = sym (word-any c.self.inside.set.keys (λ v. v.items) c.args.self.now c.self.view_is c.args.word.now) ∙ sym c.in-Some.ensures.found in
    let at = word-found c.self.inside.set.keys (λ v. v.items) c.args.self.now c.self.view_is c.args.word.now c.in-Some.i c.in-Some.ensures.index in
    rw at (rw (with_word-there c.args.self.now c.args.word.now there) at (with_word-place c.args.self.now c.args.word.now))

pub returns-in_ok-i-in-None-clause-words : goal.returns-in_ok-i-in-None-clause-words
returns-in_ok-i-in-None-clause-words c =
    word-inserted c.self.inside.set.keys (λ v. v.items) c.args.self.now c.self.view_is c.args.word.now c.in_ok-copy-in-None.copy c.in_ok-copy-in-None.ensures.items c.insert_full.new.self.keys
    c.in_ok-i-in-None.ensures.keys

pub returns-in_ok-i-in-None-clause-number : goal.returns-in_ok-i-in-None-clause-number
returns-in_ok-i-in-None-clause-number c =
    rw c.in_ok-copy-in-None.ensures.items at c.in_ok-i-in-None.ensures.index ∙ word-number c.self.inside.set.keys (λ v. v.items) c.args.self.now c.self.view_is c.args.word.now

pub returns-in_ok-i-in-None-clause-place : goal.returns-in_ok-i-in-None-clause-place
returns-in_ok-i-in-None-clause-place c =
    let words = word-inserted c.self.inside.set.keys (λ v. v.items) c.args.self.now c.self.view_is c.args.word.now c.in_ok-copy-in-None.copy c.in_ok-copy-in-None.ensures.items
    c.insert_full.new.self.keys c.in_ok-i-in-None.ensures.keys in
    let at = rw c.in_ok-copy-in-None.ensures.items at c.in_ok-i-in-None.ensures.index ∙ word-number c.self.inside.set.keys (λ v. v.items) c.args.self.now c.self.view_is c.args.word.now in
    rw (words, at) (with_word-place c.args.self.now c.args.word.now)
