use Rattle.std.proofs.Common.{◌≡◌, lit≤, refl}
use Rattle.std.proofs.lemmas.Option.{slice_get_within}
use Rattle.hb_tree.specs.Spelling.{type_words, keywords}
use Rattle.hb_trials_text.proofs.drafts.hello.Goals as goal

pub class-requires-clause-word : goal.class-requires-clause-word
unfolding type_words
class-requires-clause-word c = record { spelled = refl; free = refl; short = lit≤ tt }

pub name-requires-clause-word : goal.name-requires-clause-word
unfolding keywords
name-requires-clause-word c = record { spelled = refl; free = refl; short = lit≤ tt }

pub script-requires-clause-name : goal.script-requires-clause-name
script-requires-clause-name c =
    rw (c.in_ok-block.ensures.put.table.names, c.in_ok-print.ensures.put.table.names, c.in_ok-text.ensures.put.table.names) (slice_get_within _ _ _ c.in_ok-main.ensures.number)
