use Rattle.std.proofs.Common.{◌≡◌, ◌≤◌, ◌++◌, drop, length}
use Rattle.generation.proofs.Words.{fill_keys}
use Rattle.generation.proofs.keys.fill.Given as goal

abbrev pub invariant-loop-key : goal.invariant-loop-key
invariant-loop-key l = (fill_keys l.kept l.free ≡ l.keys.items ++ fill_keys (drop l.key-index l.kept) (drop l.used l.free)) × (l.used ≤ length l.free)
