use Rattle.hb_words.specs.Kinds.{redefines}
use Rattle.hb_words.proofs.words.MethodWords.try_def.Given as goal

abbrev pub ghosts-redefine : goal.ghosts-redefine
ghosts-redefine a = record { kind = redefines a.key a.site }
