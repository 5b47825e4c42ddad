-- A mount depends on the packets of its PID alone.
use Rattle.std.specs.Prelude.{◌≡◌, ◌≢◌, ◌↔◌, ◌≤◌, ℕ, true, false, List, [], ◌∷◌, length, map, replicate, Some, None}
use Rattle.std.specs.List.{All, AllPairs}
use Rattle.carousel_profile.specs.declared.TheConstants.{MOST_PID}
use Rattle.ts_packet.specs.Packets.{packet_bytes}
use Rattle.path_tree.specs.Paths.{PathNames}
use Rattle.section_stream.specs.Cuts.{Bytes, cuts, candidates}
use Rattle.mount_table.specs.declared.mount.Mount.{Mount}
use Rattle.mount_table.specs.declared.mount.TheConstants.{MOST_MOUNTS}
use Rattle.mount_table.specs.Receiving.{of_pid}
use Rattle.mount_table.specs.Mounts.{is_mount_name, refusal_of, IsTableOf, mount_named, mounted_after}

-- what is cut, but for the packets' numbers among all that came: at which of its packet's bytes each candidate opened, and its bytes
abbrev pub unnumbered_cuts : ℕ → List Bytes → List (ℕ × Bytes)
unnumbered_cuts pid packets = map (λ c. (c.offset, c.bytes)) (cuts pid packets)

pub record SameCuts (pid : ℕ) (xs ys : List Bytes) : Type 0 where
  pub places : unnumbered_cuts pid xs ≡ unnumbered_cuts pid ys
  pub sections : candidates pid xs ≡ candidates pid ys

-- two lists whose packets that parse with a PID are equal, in order, are cut alike on it
abbrev pub OnePidDecides : Type 0
OnePidDecides = (pid : ℕ) (xs ys : List Bytes) → of_pid pid xs ≡ of_pid pid ys → SameCuts pid xs ys

-- and they give equal answers to every path under a mount of it, whatever the packets of other PIDs are
abbrev pub OneMountDecides : Type 0
OneMountDecides = (mounts : List Mount) (name : Bytes) (m : Mount) (xs ys : List Bytes) → mount_named mounts name ≡ Some m
    → of_pid m.pid xs ≡ of_pid m.pid ys → (rest : PathNames) → mounted_after mounts xs (name ∷ rest) ≡ mounted_after mounts ys (name ∷ rest)

-- ---- which lists of mounts are accepted

pub record IsSound (mounts : List Mount) : Type 0 where
  pub few : length mounts ≤ MOST_MOUNTS
  pub names : All (λ m. is_mount_name m.name ≡ true) mounts
  pub pids : All (λ m. m.pid ≤ MOST_PID) mounts
  pub apart : AllPairs (λ m n. (m.name ≢ n.name) × (m.pid ≢ n.pid)) mounts

-- those that break no rule, and no others
abbrev pub SoundIsAccepted : Type 0
SoundIsAccepted = (mounts : List Mount) → (refusal_of mounts ≡ None) ↔ IsSound mounts

-- answers don't depend on the order of such mounts
abbrev pub OrderIsFree : Type 0
OrderIsFree = (list table : List Mount) → IsSound list → IsTableOf list table → (packets : List Bytes) (path : PathNames)
    → mounted_after table packets path ≡ mounted_after list packets path

-- ---- the premises can be met

-- a packet of stuffing on this PID
abbrev pub stuffing : ℕ → Bytes
stuffing pid = packet_bytes pid false 0 (replicate 184 0xFF)

-- a list of packets, and one with a packet of another PID and bytes that are no packet among them
abbrev pub one_list : List Bytes
one_list = stuffing 256 ∷ []

abbrev pub other_list : List Bytes
other_list = stuffing 257 ∷ [] ∷ stuffing 256 ∷ []

-- two mounts, of which the names are a and b
abbrev pub two_mounts : List Mount
two_mounts = record { name = 97 ∷ []; pid = 256 } ∷ record { name = 98 ∷ []; pid = 257 } ∷ []

-- These lists agree on PID 256, and not on PID 257; the mounts break no rule, stand in a table's order, and the first has its name. Where
-- both have one PID, they break one.
pub record PremisesMet : Type 0 where
  pub agree : of_pid 256 one_list ≡ of_pid 256 other_list
  pub differ : of_pid 257 one_list ≢ of_pid 257 other_list
  pub sound : IsSound two_mounts
  pub table : IsTableOf two_mounts two_mounts
  pub named : mount_named two_mounts (97 ∷ []) ≡ Some (record { name = 97 ∷ []; pid = 256 })
  pub unsound : IsSound (record { name = 97 ∷ []; pid = 256 } ∷ record { name = 98 ∷ []; pid = 256 } ∷ []) → ⊥
