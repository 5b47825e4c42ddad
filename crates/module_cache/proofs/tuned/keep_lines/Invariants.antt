use Rattle.std.proofs.Common.{◌≡◌, ◌++◌, length}
use Rattle.std.specs.List.{fold}
use Rattle.std.specs.Vec.Iter.{into_iter_items, into_iter_len}
use Rattle.module_cache.specs.Inner.Keeping.{lines_keeping}
use Rattle.module_cache.proofs.tuned.keep_lines.Given as goal

abbrev pub invariant-loop-line : goal.invariant-loop-line
invariant-loop-line l = (l.yielded ++ into_iter_items l.line-iterator ≡ into_iter_items l.initial.line-iterator)
    × (l.lines ≡ fold lines_keeping l.initial.lines l.yielded)
    × (into_iter_len l.line-iterator ≡ length (into_iter_items l.line-iterator))
