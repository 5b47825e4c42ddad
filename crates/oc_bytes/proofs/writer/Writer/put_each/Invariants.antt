use Rattle.std.proofs.Common.{◌≡◌, ◌+◌, ◌≤◌, ◌++◌, length, take, drop, vec_len, vec_capacity}
use Rattle.std.specs.List.{flat_map}
use Rattle.oc_bytes.proofs.writer.Writer.put_each.Given as goal

abbrev pub invariant-loop-part : goal.invariant-loop-part
invariant-loop-part l =
    let bytes = l.self-inside.bytes in
    record {
      so_far : bytes.items ≡ l.fn.self ++ flat_map (λ part. part.now) (take l.part-index l.parts);
      room : vec_len bytes + length (flat_map (λ part. part.now) (drop l.part-index l.parts)) ≤ vec_capacity bytes;
    }
