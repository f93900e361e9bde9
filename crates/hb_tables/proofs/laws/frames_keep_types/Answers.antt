use Rattle.hb_tables.proofs.FrameLemmas.{no_retype, frame_keeps}
use Rattle.hb_tables.proofs.laws.frames_keep_types.Goals as goal

pub returns : goal.returns
returns c = record { none = no_retype; same = frame_keeps }
