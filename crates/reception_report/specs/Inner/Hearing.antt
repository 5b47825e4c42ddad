-- What was heard of packets so far.
use Rattle.std.specs.Prelude.{◌≡◌, ℕ, List}
use Rattle.path_tree.specs.Paths.{Bytes}
use Rattle.section_stream.specs.Cuts.{candidates}
use Rattle.section_stream.specs.Rules as demux
use Rattle.reception_report.specs.Inner.Sync.{IsFront}
use Rattle.reception_report.specs.declared.hearing.Ear.{Ear}
use Rattle.reception_report.specs.Hearing.{Follows}

-- these packets were heard, and no other
pub record HasHeard (pid : ℕ) (ear : Ear) (packets : List Bytes) : Type 0 where
  pub pid_is : ear.demux.pid ≡ pid
  pub demux_stands : demux.StandsFor ear.demux packets
  pub follows : Follows ear.follower (candidates pid packets)
  pub front_is : IsFront ear.front packets
