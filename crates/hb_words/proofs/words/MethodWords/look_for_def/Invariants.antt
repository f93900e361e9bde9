use Rattle.hb_words.specs.Kinds.{tries_def}
use Rattle.hb_words.proofs.words.MethodWords.look_for_def.Given as goal

abbrev pub ghosts-try_def : goal.ghosts-try_def
ghosts-try_def a = record { kind = tries_def a.key }
