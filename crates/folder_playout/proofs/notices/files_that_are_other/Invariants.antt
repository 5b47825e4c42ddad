use Rattle.std.proofs.Common.{◌≡◌, take}
use Rattle.std.specs.List.{sum_by}
use Rattle.oc_bytes.specs.Outcome.{cap_at_u64}
use Rattle.folder_playout.specs.Notices.{one_if_other}
use Rattle.folder_playout.proofs.notices.files_that_are_other.Given as goal

abbrev pub invariant-loop-entry : goal.invariant-loop-entry
invariant-loop-entry l = l.total ≡ cap_at_u64 (sum_by (one_if_other l.before) (take l.entry-index l.now))
