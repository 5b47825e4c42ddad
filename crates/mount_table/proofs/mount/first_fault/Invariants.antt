use Rattle.std.proofs.Common.{◌≡◌}
use Rattle.mount_table.specs.Mounts.{faults_of}
use Rattle.mount_table.proofs.Checking.{faults_from}
use Rattle.mount_table.proofs.mount.first_fault.Given as goal

abbrev pub invariant-loop-place : goal.invariant-loop-place
invariant-loop-place l = faults_from l.mounts l.place ≡ faults_of l.mounts
