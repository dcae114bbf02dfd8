-- What the streams of this crate were taken from and given, by what they keep of it.
use Rattle.std.specs.Prelude.{None, Some, take}
use Rattle.pos_streams.specs.declared.memory.MemorySink.{MemorySink}
use Rattle.pos_streams.specs.declared.memory.MemorySource.{MemorySource}
use Rattle.pos_streams.specs.declared.transfers.GivenTrace.{GivenTrace}
use Rattle.pos_streams.specs.declared.transfers.TakenTrace.{TakenTrace}
use Rattle.pos_streams.specs.Streams.{Given, Taken, given_with, taken_with}

-- what a trace of reads says was taken
abbrev pub taken_by : TakenTrace → Taken
taken_by trace = taken_with trace.bytes.bytes trace.ends.count trace.faults.count None

-- what a trace of writes says was given
abbrev pub given_by : GivenTrace → Given
given_by trace = given_with trace.bytes.bytes trace.faults.count

-- what was taken from bytes in memory
abbrev pub taken_from : MemorySource → Taken
taken_from source = taken_with (take source.position source.bytes.now) source.ends.count 0 (Some source.bytes.now)

-- what a sink in memory was given
abbrev pub given_to : MemorySink → Given
given_to sink = given_with sink.bytes.items sink.faults.count
