use Rattle.hb_words.specs.Kinds.{looks_at_def}
use Rattle.hb_words.proofs.words.MethodWords.look.Given as goal

abbrev pub ghosts-look_at_def : goal.ghosts-look_at_def
ghosts-look_at_def a = record { kind = looks_at_def a.key }
