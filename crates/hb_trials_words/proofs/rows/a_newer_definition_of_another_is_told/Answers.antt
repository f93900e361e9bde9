use Rattle.std.proofs.Common.{rules}
use Rattle.hb_words.specs.Seats.{view_of}
use Rattle.hb_trials_words.proofs.CallsLemmas.{forked_idle}
use Rattle.hb_trials_words.proofs.CoverLemmas.{covers_two}
use Rattle.hb_trials_words.proofs.rows.a_newer_definition_of_another_is_told.Goals as goal

pub close-closed-requires-clause-all : goal.close-closed-requires-clause-all
close-closed-requires-clause-all g c = search (rules, covers_two)

pub decide_late-requires-clause-first : goal.decide_late-requires-clause-first
decide_late-requires-clause-first g c =
    let f = c.fork-second.ensures in (f.first, forked_idle (view_of c.in_ok-words.first) f.looks.0 (view_of c.fork-second.new.first) f.looks.1 f.looks.2 (search rules))
