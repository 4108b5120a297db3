-- What an adapter holds.
use Rattle.std.specs.Prelude.{ℕ}
use Rattle.wk_base.specs.declared.adapters.ReadSource.{ReadSource}
use Rattle.wk_base.specs.declared.adapters.SystemClock.{SystemClock}
use Rattle.wk_base.specs.declared.adapters.WriteSink.{WriteSink}

-- the reader behind a source
abbrev pub source_reader : {R : Type 0} → ReadSource R → R
source_reader source = source.reader

-- how many of its reads have failed
abbrev pub source_faults : {R : Type 0} → ReadSource R → ℕ
source_faults source = source.faults

-- the writer behind a sink
abbrev pub sink_writer : {W : Type 0} → WriteSink W → W
sink_writer sink = sink.writer

-- how many of its writes have failed
abbrev pub sink_faults : {W : Type 0} → WriteSink W → ℕ
sink_faults sink = sink.faults

-- what a clock reads the time from
abbrev pub clock_system : {C : Type 0} → SystemClock C → C
clock_system clock = clock.system
