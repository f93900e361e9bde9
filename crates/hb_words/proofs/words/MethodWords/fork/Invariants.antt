use Rattle.hb_words.specs.Kinds.{quiets}
use Rattle.hb_words.proofs.words.MethodWords.fork.Given as goal

abbrev pub ghosts-quiet : goal.ghosts-quiet
ghosts-quiet a = record { kind = quiets }
