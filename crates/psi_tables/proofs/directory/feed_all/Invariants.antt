use Rattle.psi_tables.proofs.Following.{FedUpTo}
use Rattle.psi_tables.proofs.directory.feed_all.Given as goal

abbrev pub invariant-loop-one : goal.invariant-loop-one
invariant-loop-one l = FedUpTo l.carousel l.packet l.completed l.fn.followed l.followed l.one-index
