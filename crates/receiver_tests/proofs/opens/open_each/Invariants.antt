use Rattle.std.proofs.Common.{◌≡◌, ◌+◌, length}
use Rattle.receiver_tests.proofs.opens.open_each.Given as goal

abbrev pub invariant-loop-name : goal.invariant-loop-name
invariant-loop-name l = (length l.pass.opens + l.first ≡ length l.fn.pass.opens + l.name) × (l.pass.room ≡ l.fn.pass.room)
