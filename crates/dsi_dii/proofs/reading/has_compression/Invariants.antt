use Rattle.std.proofs.Common.{◌≡◌, ◌==◌, length}
use Rattle.std.specs.List.{list_any}
use Rattle.oc_bytes.specs.Descriptors.{descriptors_in}
use Rattle.dsi_dii.proofs.reading.has_compression.Given as goal

abbrev pub invariant-loop-descriptor : goal.invariant-loop-descriptor
invariant-loop-descriptor l =
    list_any (λ d. d.0 == 0x09) l.descriptors ≡ list_any (λ d. d.0 == 0x09) (descriptors_in l.fn.user_info)

abbrev pub decreases-loop-descriptor : goal.decreases-loop-descriptor
decreases-loop-descriptor l = length l.descriptors
