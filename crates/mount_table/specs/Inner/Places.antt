-- Which mount has a PID: the places of mounts in a table, by PID. These rules are this project's own.
use Rattle.std.specs.Prelude.{◌≡◌, ◌≢◌, ◌↔◌, ◌≤◌, ℕ, List, length, map, Option, Some, slice_get}
use Rattle.std.specs.List.{All, AllPairs}
use Rattle.carousel_profile.specs.declared.TheConstants.{MOST_PID}
use Rattle.mount_table.specs.declared.mount.Mount.{Mount}
use Rattle.mount_table.specs.declared.mount.TheConstants.{MOST_MOUNTS}

-- the PIDs of mounts, in the mounts' order
abbrev pub pids_of : List Mount → List ℕ
pids_of mounts = map (λ m. m.pid) mounts

-- few mounts, no two of them on one PID
pub record AreApart (mounts : List Mount) : Type 0 where
  pub few : length mounts ≤ MOST_MOUNTS
  pub low : All (λ m. m.pid ≤ MOST_PID) mounts
  pub apart : AllPairs (λ m n. m.pid ≢ n.pid) mounts

-- the place of this PID among these: the one place at which it stands, or none where it stands nowhere
abbrev pub IsPlaceOf : ℕ → List ℕ → Option ℕ → Type 0
IsPlaceOf pid pids place = (i : ℕ) → (place ≡ Some i) ↔ (slice_get pids i ≡ Some pid)

-- the place of each of all 8,192 PIDs among these
pub record ArePlaces (pids : List ℕ) (places : List (Option ℕ)) : Type 0 where
  pub all : length places ≡ 8192
  pub each : (pid : ℕ) (place : Option ℕ) → slice_get places pid ≡ Some place → IsPlaceOf pid pids place
