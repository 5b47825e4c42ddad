-- What was heard of packets: what a demultiplexer of one PID, a receiver and the numbers of its candidates stand for.
use Rattle.std.specs.Prelude.{◌≡◌, ◌≤◌, ℕ, List}
use Rattle.path_tree.specs.Paths.{Bytes}
use Rattle.section_stream.specs.Cuts.{candidates}
use Rattle.tuner_core.specs.Stands as tuner
use Rattle.reception_report.specs.Outcomes.{CountsAre}
use Rattle.reception_report.specs.Report.{counts_told, sync_told}
use Rattle.reception_report.specs.declared.following.Follower.{Follower}
use Rattle.reception_report.specs.declared.reception.Reception.{Reception}

-- a receiver that heard these sections, and what became of each
pub record Follows (f : Follower) (sections : List Bytes) : Type 0 where
  pub tuner_stands : tuner.StandsFor f.tuner sections
  pub counts_are : CountsAre f.tally sections

-- the reception of these packets
pub record IsReception (pid : ℕ) (r : Reception) (packets : List Bytes) : Type 0 where
  pub counts_are : r.counts ≡ counts_told pid packets r.counts.short_tail
  pub few : r.counts.short_tail ≤ 1
  pub sync_is : r.sync ≡ sync_told packets r.counts.short_tail
  pub follows : Follows r.follower (candidates pid packets)
