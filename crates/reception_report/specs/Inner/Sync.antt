-- What is kept of the first packets, in which the sync byte is sought.
use Rattle.std.specs.Prelude.{◌≡◌, min, List, length}
use Rattle.path_tree.specs.Paths.{Bytes}
use Rattle.reception_report.specs.declared.front.Front.{Front}
use Rattle.reception_report.specs.Sync.{front_of}

-- these bytes are those of the first of these packets
pub record IsFront (front : Front) (packets : List Bytes) : Type 0 where
  pub bytes_are : front.bytes.items ≡ front_of packets
  pub number : front.packets ≡ min 24 (length packets)
