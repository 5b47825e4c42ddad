-- What a table of mounts is seen as, and which packets it stands for.
use Rattle.std.specs.Prelude.{◌≡◌, ◌<◌, Bool, false, List, [], ◌∷◌, ◌++◌, length, map}
use Rattle.std.specs.List.{All, Contains}
use Rattle.section_stream.specs.Cuts.{Bytes, candidates}
use Rattle.section_stream.specs.Rules as streams
use Rattle.tuner_core.specs.Stands as tuners
use Rattle.mount_table.specs.Receiving.{with_header_pid}
use Rattle.mount_table.specs.declared.mount.Mount.{Mount}
use Rattle.mount_table.specs.declared.receiver.Receiver.{Receiver}
use Rattle.mount_table.specs.declared.mounts.Mounts.TheInside.{Inside}

pub record MountsState : Type 0 where
  -- each mount with what receives its carousel, in the table's order
  pub receivers : List Receiver
  -- memory was wanting once
  pub spent : Bool

abbrev pub view_mounts : Inside → MountsState
view_mounts m = record { receivers = m.receivers.items; spent = m.spent }

-- the mounts in the table's order
abbrev pub mounts_of : MountsState → List Mount
mounts_of m = map (λ r. r.mount) m.receivers

-- One mount and these packets: its demultiplexer was handed those whose header has its PID, and its receiver has heard the candidates of
-- its PID.
pub record Receives (packets : List Bytes) (r : Receiver) : Type 0 where
  pub own : r.demux.pid ≡ r.mount.pid
  pub demux : streams.StandsFor r.demux (with_header_pid r.mount.pid packets)
  pub tuner : tuners.StandsFor r.tuner (candidates r.mount.pid packets)

-- the table stands for these packets; one that found no memory stands for none
pub record StandsFor (m : MountsState) (packets : List Bytes) : Type 0 where
  pub works : m.spent ≡ false
  pub receivers : All (Receives packets) m.receivers

-- after these packets the packet completes a section on the PID of one of these mounts
pub record CompletesOne (mounts : List Mount) (packets : List Bytes) (packet : Bytes) : Type 0 where
  pub mount : Mount
  pub among : Contains mounts mount
  pub more : length (candidates mount.pid packets) < length (candidates mount.pid (packets ++ packet ∷ []))
