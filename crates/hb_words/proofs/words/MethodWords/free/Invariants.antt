use Rattle.hb_words.specs.Kinds.{frees}
use Rattle.hb_words.proofs.words.MethodWords.free.Given as goal

abbrev pub ghosts-free : goal.ghosts-free
ghosts-free a = record { kind = frees a.q a.key }
