-- What the adapters are made of.
use Rattle.std.specs.Prelude.{ℕ}
use Rattle.hb_io.specs.declared.{real.RealSource.RealSource, real.RealSink.RealSink}

-- the reader of a source
abbrev pub source_reader : {R : Type 0} → RealSource R → R
source_reader s = s.reader

-- how often a source over a reader has failed
abbrev pub reader_faults : {R : Type 0} → RealSource R → ℕ
reader_faults s = s.faults

-- the writer of a sink
abbrev pub sink_writer : {W : Type 0} → RealSink W → W
sink_writer s = s.writer

-- how often a sink over a writer has failed
abbrev pub writer_faults : {W : Type 0} → RealSink W → ℕ
writer_faults s = s.faults
