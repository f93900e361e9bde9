use Rattle.hb_words.specs.Kinds.{retypes}
use Rattle.hb_words.proofs.words.MethodWords.try_type.Given as goal

abbrev pub ghosts-retype : goal.ghosts-retype
ghosts-retype a = record { kind = retypes a.key a.site }
