use Rattle.std.proofs.Common.{length}
use Rattle.oc_bytes.specs.Cursor.{from_start}
use Rattle.biop_object.specs.Inner.Index.{view_index}
use Rattle.biop_object.specs.ObjectReading.{index_of}
use Rattle.biop_object.proofs.Indexing.{Leads, HasBegun}
use Rattle.biop_object.proofs.reading.read_index.Given as goal

abbrev pub invariant-loop-fields : goal.invariant-loop-fields
invariant-loop-fields l = Leads (view_index l.objects) l.fields (index_of l.fn.bytes) × HasBegun (from_start l.fn.bytes) l.fields

abbrev pub decreases-loop-fields : goal.decreases-loop-fields
decreases-loop-fields l = length l.fields.rest
