use Rattle.hb_sound.proofs.LawLemmas.{body_stops, script_ends_well}
use Rattle.hb_sound.proofs.laws.stops_in_bodies_are_named.Goals as goal

pub returns : goal.returns
returns c = record { ends = script_ends_well; bodies = body_stops }
