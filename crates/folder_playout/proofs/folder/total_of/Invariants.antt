use Rattle.std.proofs.Common.{◌≡◌, take}
use Rattle.oc_bytes.specs.Outcome.{cap_at_u64}
use Rattle.generation_catalogue.specs.History.{put_bytes}
use Rattle.folder_playout.proofs.folder.total_of.Given as goal

abbrev pub invariant-loop-edit : goal.invariant-loop-edit
invariant-loop-edit l = l.total ≡ cap_at_u64 (put_bytes (take l.edit-index l.edits))
