-- A receiver that seeks the PID of its carousel first.
use Rattle.std.specs.Prelude.{◌≡◌, ℕ, ◌≤◌, List, length, drop, Option, Some, None}
use Rattle.section_stream.specs.Rules as streams
use Rattle.tuner_core.specs.Stands as tuners
use Rattle.psi_tables.specs.Stands as finders
use Rattle.shell_streams.specs.Cuts.{Bytes}
use Rattle.receiver_commands.specs.OpenId.{first_found, sections_among}
use Rattle.receiver_commands.specs.declared.open_id.Seeker.{Seeker}

-- it still seeks
pub record Seeks (carousel : ℕ) (finder : finders.FinderState) (packets : List Bytes) : Type 0 where
  pub carousel_is : finder.directory.carousel ≡ carousel
  pub stands : finders.StandsFor finder packets

-- it was found after so many packets at this PID, whose packets are heard since
pub record Hears (demux : streams.DemuxState) (packets : List Bytes) (n pid : ℕ) : Type 0 where
  pub pid_is : demux.pid ≡ pid
  pub within : n ≤ length packets
  pub stands : streams.StandsFor demux (drop n packets)

abbrev pub IsAt : ℕ → finders.FinderState → List Bytes → Option streams.DemuxState → Option (ℕ × ℕ) → Type 0
IsAt carousel finder packets None None = Seeks carousel finder packets
IsAt carousel finder packets (Some demux) (Some x) = Hears demux packets x.0 x.1
IsAt carousel finder packets _ _ = ⊥

-- these packets were handed to it
pub record HasHeard (carousel : ℕ) (now : Seeker) (packets : List Bytes) : Type 0 where
  pub is_at : IsAt carousel now.finder packets now.stream (first_found carousel packets)
  pub receiver : tuners.StandsFor now.receiver.tuner (sections_among carousel packets)
