-- Where the sync byte stands in an input that isn't one of packets. The sync byte of a packet is 0x47 (ISO/IEC 13818-1, 2.4.3.2); packets of
-- 192 bytes have four bytes of time before each packet, and those of 204 have 16 bytes of error correction after it.
use Rattle.std.specs.Prelude.{ℕ, ◌+◌, ◌*◌, ◌/◌, Bool, ◌&&◌, ◌==◌, List, ◌++◌, length, slice_index, take, codes, Option, Some, None, nat_lt}
use Rattle.std.specs.Fmt.{decimal}
use Rattle.std.specs.List.{concat, find, list_all, range_with_len}
use Rattle.carousel_profile.specs.declared.TheConstants.{PACKET_LENGTH}
use Rattle.path_tree.specs.Paths.{Bytes}
use Rattle.reception_report.specs.declared.sync.SyncPlace.{SyncPlace}
use Rattle.reception_report.specs.declared.sync.SyncPlace.TheVariants as syncs

-- the sync byte stands at this place of each whole stretch of so many bytes, of which there are two at least
abbrev pub stands_at : (distance : ℕ) → Bytes → (place : ℕ) → Bool
stands_at distance front place =
    nat_lt 1 (length front / distance) && list_all (λ i. slice_index front (i * distance + place) == 0x47) (range_with_len 0 (length front / distance))

-- the least place at which it stands
abbrev pub place_at : (distance : ℕ) → Bytes → Option ℕ
place_at distance front = find (stands_at distance front) (range_with_len 0 distance)

abbrev pub sync_by : ℕ → Option ℕ → SyncPlace → SyncPlace
sync_by distance (Some place) other = syncs.At place distance
sync_by distance None other = other

-- at a place of each 188 bytes, or else of each 192, or else of each 204, or nowhere
abbrev pub sync_of : Bytes → SyncPlace
sync_of front =
    sync_by PACKET_LENGTH (place_at PACKET_LENGTH front)
    (sync_by 192 (place_at 192 front) (sync_by 204 (place_at 204 front) syncs.Nowhere))

-- the bytes at the front of an input that are looked at: those of the first 24 packets
abbrev pub front_of : List Bytes → Bytes
front_of packets = concat (take 24 packets)

-- what is said of it
abbrev pub sync_line : SyncPlace → Bytes
sync_line (syncs.At place distance) = codes "not packets: at the front 0x47 stands at byte " ++ decimal place ++ codes " of each " ++ decimal distance
sync_line syncs.Nowhere = codes "not packets: at the front 0x47 stands at no byte of each 188, 192 or 204"
