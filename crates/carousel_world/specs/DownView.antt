-- What a downlink stands for.
use Rattle.std.specs.Prelude.{◌≡◌, ℕ, Bool, false, List, [], ◌∷◌, ◌++◌, if◌then◌else◌}
use Rattle.std.specs.List.{All, fold}
use Rattle.path_tree.specs.Paths.{Bytes}
use Rattle.section_stream.specs.Cuts.{candidates}
use Rattle.section_stream.specs.Packing.{MuxState, IsSectionLike, after_finish, idle, last_of, packets_of_all, past}
use Rattle.section_stream.specs.Groups.{past_group}
use Rattle.section_stream.specs.Rules as rules
use Rattle.tuner_core.specs.Stands as tuning

pub record DownlinkState : Type 0 where
  pub mux : MuxState
  pub demux : rules.DemuxState
  pub tuner : tuning.TunerState
  pub spent : Bool

-- the packets that sections give after those before them in a group, and the one of its end where they are its last
abbrev pub packets_given : MuxState → List Bytes → Bool → List Bytes
packets_given m sections last = if last then packets_of_all m sections ++ last_of (fold past m sections) else packets_of_all m sections

abbrev pub past_given : MuxState → List Bytes → Bool → MuxState
past_given m sections last = if last then after_finish (fold past m sections) else fold past m sections

-- the groups that ended, and the sections of the one under way, when more sections of it were sent
abbrev pub ended_with : List (List Bytes) → List Bytes → Bool → List (List Bytes)
ended_with groups begun last = if last then groups ++ begun ∷ [] else groups

abbrev pub begun_with : List Bytes → Bool → List Bytes
begun_with begun last = if last then [] else begun

-- the groups of sections that were sent, the sections of the one under way, and the packets that were received of theirs: what is held is
-- that of the candidates cut from these packets
pub record DownlinkStands (d : DownlinkState) (pid : ℕ) (groups : List (List Bytes)) (begun packets : List Bytes) : Type 0 where
  pub works : d.spent ≡ false
  pub mux : d.mux ≡ fold past (fold past_group (idle pid 0) groups) begun
  pub like : All IsSectionLike begun
  pub one_pid : d.demux.pid ≡ pid
  pub demux : rules.StandsFor d.demux packets
  pub tuner : tuning.StandsFor d.tuner (candidates pid packets)
