-- What is told of the packets of an input, looking back over all of them.
use Rattle.std.specs.Prelude.{ℕ, ◌/◌, ◌++◌, ◌==◌, ◌&&◌, ◌||◌, Bool, List, length, Option, Some, None, nat_lt, if◌then◌else◌}
use Rattle.path_tree.specs.Paths.{Bytes}
use Rattle.section_stream.specs.Cuts.{candidates}
use Rattle.section_stream.specs.Counting.{counts_over}
use Rattle.section_stream.specs.Pieces.{rest_of}
use Rattle.section_stream.specs.declared.counts.Counts.{Counts}
use Rattle.module_cache.specs.Held.{TunedState}
use Rattle.path_resolver.specs.Shots.{Snapshot}
use Rattle.tuner_core.specs.Stands.{held_diis}
use Rattle.tuner_core.specs.Turns.{snapshot_after}
use Rattle.reception_report.specs.Listing.{listed_text}
use Rattle.reception_report.specs.Sync.{front_of, sync_of}
use Rattle.reception_report.specs.Telling.{counts_line, candidates_line, gateway_line, diis_text, label_line, modules_text}
use Rattle.reception_report.specs.declared.sync.SyncPlace.{SyncPlace}

-- ---- what was counted

-- one, where so many bytes come after the last packet, and none where there are none
abbrev pub tail_of : ℕ → ℕ
tail_of n = if n == 0 then 0 else 1

-- of an input
abbrev pub tail_count : Bytes → ℕ
tail_count input = tail_of (length (rest_of input))

-- the counts over all packets, with that of last pieces that are too short
abbrev pub counts_told : (pid : ℕ) → List Bytes → (tail : ℕ) → Counts
counts_told pid packets tail = record (counts_over pid packets) { short_tail = tail }

-- ---- the text

-- what is held, and the answers on it
abbrev pub held_text : List TunedState → Snapshot → Bytes
held_text held shot =
    gateway_line shot.held.gateway ++ diis_text held ++ label_line shot.held.label shot.epoch ++ modules_text held ++ listed_text shot.held

-- what is told of sections
abbrev pub sections_text : List Bytes → Bytes
sections_text cs = candidates_line cs ++ held_text (held_diis cs) (snapshot_after 0 0 cs)

-- the whole report on these packets and the sections of the PID in them
abbrev pub report_text : (pid : ℕ) → List Bytes → (tail : ℕ) → Bytes
report_text pid packets tail = counts_line (counts_told pid packets tail) ++ sections_text (candidates pid packets)

-- ---- whether it is an input of packets

-- more than half of the packets lack their sync byte, or what came is less than one packet
abbrev pub lacks_sync : Counts → Bool
lacks_sync c = nat_lt (c.packets / 2) c.no_sync || ((c.packets == 0) && nat_lt 0 c.short_tail)

-- where the sync byte stands, where it isn't one
abbrev pub sync_told : List Bytes → (tail : ℕ) → Option SyncPlace
sync_told packets tail = if lacks_sync (counts_told 0 packets tail) then Some (sync_of (front_of packets)) else None
