-- What a source in memory has left, and which of its calls fail.
use Rattle.std.specs.Prelude.{◌≡◌, ℕ, List, Result, drop, length, min}
use Rattle.hb_io.specs.declared.mem_source.MemSource.{MemSource}
use Rattle.hb_io.specs.Calls.{Counts, FailsNext, IsNewCalls, faults_of}

-- the bytes that are left
abbrev pub source_bytes : MemSource → List ℕ
source_bytes s = drop s.at s.bytes.items

-- how many bytes a call gives at most
abbrev pub source_most : MemSource → ℕ
source_most s = s.most

-- how many calls failed
abbrev pub source_faults : MemSource → ℕ
source_faults s = faults_of s.calls

-- how many bytes the next call gives to a buffer with this room, where it does not fail
abbrev pub given_count : MemSource → ℕ → ℕ
given_count s room = min (min (length (source_bytes s)) (source_most s)) room

-- the next call is one of those that fail
abbrev pub SourceFailsNext : MemSource → Type 0
SourceFailsNext s = FailsNext s.calls

-- a source of these bytes, of which no call was made
pub record IsNewSource (s : MemSource) (bytes : List ℕ) (most : ℕ) (fails : List ℕ) : Type 0 where
  pub left : source_bytes s ≡ bytes
  pub each : source_most s ≡ most
  pub calls : IsNewCalls s.calls fails

-- the call was counted, and the rule for the next calls is as it was
pub record StaysSource {T E : Type 0} (old new : MemSource) (result : Result T E) : Type 0 where
  pub each : source_most new ≡ source_most old
  pub calls : Counts old.calls new.calls result
