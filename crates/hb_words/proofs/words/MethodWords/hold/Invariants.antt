use Rattle.hb_words.specs.Kinds.{holds}
use Rattle.hb_words.proofs.words.MethodWords.hold.Given as goal

abbrev pub ghosts-hold : goal.ghosts-hold
ghosts-hold a = record { kind = holds a.q a.key }
