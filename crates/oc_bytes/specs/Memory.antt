-- A source and a sink in memory: what they hold, and which of their calls fail.
use Rattle.std.specs.Prelude.{ℕ, List, drop}
use Rattle.oc_bytes.specs.declared.memory.MemSink.{MemSink}
use Rattle.oc_bytes.specs.declared.memory.MemSource.{MemSource}

abbrev pub left_of : MemSource → List ℕ
left_of s = drop s.at s.bytes.items

abbrev pub written_to : MemSink → List ℕ
written_to s = s.bytes.items

-- the numbers of the calls that fail, of the calls from the first on, which is number 0
abbrev pub failing_reads : MemSource → List ℕ
failing_reads s = s.fail_at.items

abbrev pub failing_writes : MemSink → List ℕ
failing_writes s = s.fail_at.items

-- how many calls were made
abbrev pub reads_made : MemSource → ℕ
reads_made s = s.calls

abbrev pub writes_made : MemSink → ℕ
writes_made s = s.calls

-- how many calls failed
abbrev pub reads_failed : MemSource → ℕ
reads_failed s = s.failures

abbrev pub writes_failed : MemSink → ℕ
writes_failed s = s.failures

-- the most bytes that one call moves
abbrev pub read_piece : MemSource → ℕ
read_piece s = s.piece

abbrev pub write_piece : MemSink → ℕ
write_piece s = s.piece
