use Rattle.std.proofs.Common.{◌≡◌, take}
use Rattle.std.specs.List.{sum_by}
use Rattle.oc_bytes.specs.Outcome.{cap_at_u64}
use Rattle.generation.specs.Layouts.{lines_of}
use Rattle.folder_playout.specs.Notices.{one_if_changed}
use Rattle.folder_playout.proofs.notices.modules_that_differ.Given as goal

abbrev pub invariant-loop-line : goal.invariant-loop-line
invariant-loop-line l = l.total ≡ cap_at_u64 (sum_by (one_if_changed l.before l.now) (take l.line-index (lines_of l.now)))
