use Rattle.std.proofs.Common.{◌≡◌, ◌++◌, length}
use Rattle.std.specs.Vec.Iter.{into_iter_items, into_iter_len}
use Rattle.receiver_commands.specs.Mounts.{mounts_in}
use Rattle.receiver_commands.proofs.mounts.listed.Given as goal

abbrev pub invariant-loop-name : goal.invariant-loop-name
invariant-loop-name l = (l.yielded ++ into_iter_items l.name-iterator ≡ into_iter_items l.initial.name-iterator)
    × (l.mounts.items ≡ mounts_in l.yielded)
    × (into_iter_len l.name-iterator ≡ length (into_iter_items l.name-iterator))
