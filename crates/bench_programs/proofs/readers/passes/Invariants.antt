use Rattle.std.proofs.Common.{◌≡◌}
use Rattle.std.specs.List.{All}
use Rattle.bench_programs.proofs.readers.passes.Given as goal

abbrev pub invariant-loop-viewer : goal.invariant-loop-viewer
invariant-loop-viewer l = All (λ pass. pass.room ≡ 120000) l.passes.items
