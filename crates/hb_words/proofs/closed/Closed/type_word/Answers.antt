use Rattle.std.proofs.Common.{◌≡◌, ◌∙◌, ℕ, subst}
use mathlib.Core.Option.{some}
use lib.ListN.{get_elem?}
use Rattle.core.specs.Mem.Slots.{slots_items}
use Rattle.hb_words.specs.Layout.{type_at}
use Rattle.hb_words.proofs.BeginningLemmas.{read_there}
use Rattle.hb_words.proofs.closed.Closed.type_word.Goals as goal

pub returns : goal.returns
returns c =
    let words = slots_items c.args.self.now.words.words in
    let there = subst (λ (i : ℕ). get_elem? words i ≡ some c.word.result) c.type_index.ensures c.word.ensures in
    read_there words (type_at c.args.key.0) c.word.result 0 there ∙ c.args.self.now.are.types c.args.key.0 c.requires
