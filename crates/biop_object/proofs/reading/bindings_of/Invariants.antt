use Rattle.std.proofs.Common.{◌≡◌, ◌-◌, map}
use Rattle.biop_object.specs.Objects.{view_binding, binding}
use Rattle.oc_bytes.specs.Grammar.{read}
use Rattle.oc_bytes.specs.Cursor.{each_at}
use Rattle.oc_bytes.proofs.CallerLemmas.{with_front}
use Rattle.biop_object.proofs.reading.bindings_of.Given as goal

abbrev pub invariant-loop : goal.invariant-loop
invariant-loop l = with_front (map view_binding l.bindings) (each_at (read binding) (l.count - l.counter) l.fields) ≡ each_at (read binding) l.count l.fn.fields
