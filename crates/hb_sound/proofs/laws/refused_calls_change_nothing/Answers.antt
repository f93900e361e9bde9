use Rattle.hb_sound.proofs.RefusalLemmas.{call_refused, definition_refused, refusal_same, type_refused}
use Rattle.hb_sound.proofs.laws.refused_calls_change_nothing.Goals as goal

pub returns : goal.returns
returns c = record { entries = refusal_same; types = type_refused; definitions = definition_refused; calls = call_refused }
