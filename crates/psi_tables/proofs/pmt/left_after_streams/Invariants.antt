use Rattle.std.proofs.Common.{◌≡◌, length}
use Rattle.psi_tables.specs.Pmts.{streams_run}
use Rattle.psi_tables.proofs.pmt.left_after_streams.Given as goal

abbrev pub invariant-loop-following : goal.invariant-loop-following
invariant-loop-following l = (streams_run l.rest).1 ≡ (streams_run l.bytes).1

abbrev pub decreases-loop-following : goal.decreases-loop-following
decreases-loop-following l = length l.rest
