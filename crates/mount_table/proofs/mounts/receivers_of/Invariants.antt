use Rattle.mount_table.proofs.Hearing.{AreNew}
use Rattle.mount_table.proofs.mounts.receivers_of.Given as goal

abbrev pub invariant-loop-mount : goal.invariant-loop-mount
invariant-loop-mount l = AreNew l.yielded l.receivers.items
