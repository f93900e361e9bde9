use Rattle.hb_words.specs.Kinds.{decides}
use Rattle.hb_words.proofs.words.MethodWords.decide.Given as goal

abbrev pub ghosts-decide : goal.ghosts-decide
ghosts-decide a = record { kind = decides a.q a.key a.owner a.look a.args a.verdict }
