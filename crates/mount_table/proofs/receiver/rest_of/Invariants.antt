use Rattle.std.proofs.Common.{◌≡◌, take, drop}
use Rattle.mount_table.proofs.receiver.rest_of.Given as goal

abbrev pub invariant-loop-i : goal.invariant-loop-i
invariant-loop-i l = l.rest ≡ drop 1 (take l.i l.path)
