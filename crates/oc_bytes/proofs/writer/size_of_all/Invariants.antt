use Rattle.std.proofs.Common.{◌≡◌, length, take}
use Rattle.std.specs.List.{flat_map}
use Rattle.oc_bytes.proofs.writer.size_of_all.Given as goal

abbrev pub invariant-loop-part : goal.invariant-loop-part
invariant-loop-part l = l.size ≡ length (flat_map (λ part. part.now) (take l.part-index l.parts))
