use Rattle.std.proofs.Common.{◌≡◌}
use Rattle.bench_programs.proofs.readers.read.Given as goal

abbrev pub invariant-loop-number : goal.invariant-loop-number
invariant-loop-number l = l.pass.room ≡ 120000
