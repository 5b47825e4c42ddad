-- The finder's state and a list of packets.
use Rattle.std.specs.Prelude.{◌≡◌, ℕ, ◌≤◌, Bool, false, List, [], ◌∷◌, length, map, drop, Option, Some, None, option_and_then, ◌==◌, ◌||◌}
use Rattle.std.specs.List.{find}
use Rattle.section_stream.specs.Cuts.{Bytes}
use Rattle.section_stream.specs.Rules as streams
use Rattle.psi_tables.specs.declared.followed.Program.{Program}
use Rattle.psi_tables.specs.declared.followed.Followed.{Followed}
use Rattle.psi_tables.specs.declared.directory.Directory.{Directory}
use Rattle.psi_tables.specs.declared.finder.Find.{Find}
use Rattle.psi_tables.specs.declared.finder.Finder.TheInside.{Inside}
use Rattle.psi_tables.specs.Pats.{PatFields, view_pat}
use Rattle.psi_tables.specs.Receiving.{HeardOn, pid_of}
use Rattle.psi_tables.specs.Finding.{followed_in, is_in, pats_in, pmts_in, pmt_among, names, newest_in, section_among, is_section, listings, choose, found_in}

-- a PID that is followed, and of each program whose map table came on it the stream that the last one names
pub record FollowedState : Type 0 where
  pub pid : ℕ
  pub demux : streams.DemuxState
  pub programs : List Program

pub record DirectoryState : Type 0 where
  pub carousel : ℕ
  -- the version of the table in force
  pub newest : Option ℕ
  -- the last section of each version and number
  pub sections : List PatFields
  pub followed : List FollowedState

pub record FinderState : Type 0 where
  pub tables : streams.DemuxState
  pub directory : DirectoryState
  pub found : Find
  pub spent : Bool

abbrev pub view_followed : Followed → FollowedState
view_followed f = record { pid = f.pid; demux = f.demux; programs = f.programs.items }

abbrev pub view_directory : Directory → DirectoryState
view_directory d = record { carousel = d.carousel; newest = d.newest; sections = map view_pat d.sections.items; followed = map view_followed d.followed.items }

abbrev pub view_finder : Inside → FinderState
view_finder f = record { tables = f.tables; directory = view_directory f.directory; found = f.found; spent = f.spent }

-- ---- what is kept

-- the stream that a program's map table names
abbrev pub named_for : (program : ℕ) → List Program → Option ℕ
named_for program entries = option_and_then (λ e. e.named) (find (λ e. e.program == program) entries)

abbrev pub section_kept : List PatFields → (version number : ℕ) → Option PatFields
section_kept sections version number = find (is_section version number) sections

-- ---- what is kept, looking back

-- one followed PID, over the packets since it is followed
pub record Hears (carousel : ℕ) (f : FollowedState) (packets : List Bytes) : Type 0 where
  pub demux : HeardOn f.pid f.demux packets
  pub programs : (program : ℕ) → named_for program f.programs ≡ option_and_then (names carousel) (pmt_among program (pmts_in f.pid packets))

pub record Follows (carousel : ℕ) (packets : List Bytes) (f : FollowedState) (x : ℕ × ℕ) : Type 0 where
  pub pid : f.pid ≡ x.0
  pub since : x.1 ≤ length packets
  pub hears : Hears carousel f (drop x.1 packets)

-- the followed PIDs, each with the number of packets that are passed over on it
abbrev pub FollowsEach : (carousel : ℕ) → List Bytes → List FollowedState → List (ℕ × ℕ) → Type 0
FollowsEach carousel packets [] [] = Unit {0}
FollowsEach carousel packets (f ∷ fs) (x ∷ xs) = Follows carousel packets f x × FollowsEach carousel packets fs xs
FollowsEach carousel packets [] (x ∷ xs) = ⊥
FollowsEach carousel packets (f ∷ fs) [] = ⊥

-- the directory, after these sections of the PAT with these listings of PIDs
pub record Keeps (packets : List Bytes) (d : DirectoryState) (pats : List PatFields) (listed : List (ℕ × ℕ)) : Type 0 where
  pub newest : d.newest ≡ newest_in pats
  pub sections : (version number : ℕ) → section_kept d.sections version number ≡ section_among pats version number
  pub followed : FollowsEach d.carousel packets d.followed (choose listed)

-- what is kept is what these packets left, part by part
pub record Holds (f : FinderState) (packets : List Bytes) : Type 0 where
  pub tables : HeardOn 0 f.tables packets
  pub directory : Keeps packets f.directory (pats_in packets) (listings packets)
  pub found : f.found ≡ found_in f.directory.carousel packets

-- the packet is one of PID 0 or of a followed PID, with a payload
abbrev pub heard_on : List (ℕ × ℕ) → Option ℕ → Bool
heard_on followed None = false
heard_on followed (Some pid) = (pid == 0) || is_in pid (map (λ x. x.0) followed)

abbrev pub is_heard : List Bytes → Bytes → Bool
is_heard packets packet = heard_on (followed_in packets) (pid_of packet)

-- the state stands for these packets; a finder that found no memory stands for none
pub record StandsFor (f : FinderState) (packets : List Bytes) : Type 0 where
  pub works : f.spent ≡ false
  pub holds : Holds f packets
