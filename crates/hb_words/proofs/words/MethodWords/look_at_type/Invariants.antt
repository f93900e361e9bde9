use Rattle.hb_words.specs.Kinds.{looks_at_type}
use Rattle.hb_words.proofs.words.MethodWords.look_at_type.Given as goal

abbrev pub ghosts-look_at_type : goal.ghosts-look_at_type
ghosts-look_at_type a = record { kind = looks_at_type a.key }
