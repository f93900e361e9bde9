-- What a sink in memory holds, and which of its calls fail.
use Rattle.std.specs.Prelude.{◌≡◌, ◌≢◌, ◌⊎◌, ◌-◌, ℕ, List, [], Result, length, min, vec_len}
use Rattle.hb_io.specs.declared.mem_sink.MemSink.{MemSink}
use Rattle.hb_io.specs.Calls.{Counts, FailsNext, IsNewCalls, faults_of}

-- the bytes that were written
abbrev pub sink_bytes : MemSink → List ℕ
sink_bytes s = s.held.items

-- how many bytes more have room
abbrev pub sink_room : MemSink → ℕ
sink_room s = s.room - vec_len s.held

-- how many bytes a call takes at most
abbrev pub sink_most : MemSink → ℕ
sink_most s = s.most

-- how many calls failed
abbrev pub sink_faults : MemSink → ℕ
sink_faults s = faults_of s.calls

-- how many bytes of the piece the next call takes, where it does not fail
abbrev pub taken_count : MemSink → List ℕ → ℕ
taken_count s piece = min (min (length piece) (sink_most s)) (sink_room s)

-- the next call is one of those that fail, or there is no room for a byte of the piece
abbrev pub SinkFailsNext : MemSink → List ℕ → Type 0
SinkFailsNext s piece = FailsNext s.calls ⊎ ((piece ≢ []) × (sink_room s ≡ 0))

-- an empty sink, of which no call was made
pub record IsNewSink (s : MemSink) (room most : ℕ) (fails : List ℕ) : Type 0 where
  pub empty : sink_bytes s ≡ []
  pub space : sink_room s ≡ room
  pub each : sink_most s ≡ most
  pub calls : IsNewCalls s.calls fails

-- the call was counted, and the rule for the next calls is as it was
pub record StaysSink {T E : Type 0} (old new : MemSink) (result : Result T E) : Type 0 where
  pub space : new.room ≡ old.room
  pub each : sink_most new ≡ sink_most old
  pub calls : Counts old.calls new.calls result
