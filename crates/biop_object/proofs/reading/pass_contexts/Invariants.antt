use Rattle.std.proofs.Common.{◌≡◌, ◌-◌}
use Rattle.oc_bytes.specs.Cursor.{each_at, skip_reading}
use Rattle.oc_bytes.specs.Grammar.{read}
use Rattle.biop_object.specs.Objects.{context}
use Rattle.biop_object.proofs.reading.pass_contexts.Given as goal

abbrev pub invariant-loop : goal.invariant-loop
invariant-loop l = skip_reading (each_at (read context) (l.count - l.counter) l.fields) ≡ skip_reading (each_at (read context) l.count l.fn.fields)
