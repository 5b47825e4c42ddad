-- The laws that stand beside what the commands promise: they hold of every input, of every
-- publication and of all packets, and speak of the words by which the pages say what was read,
-- written and answered.
use Rattle.std.specs.Prelude.{◌≡◌, ℕ, ◌*◌, ◌<◌, ◌≤◌, true, List, [], ◌∷◌, length, take, drop, Some}
use Rattle.std.specs.List.{All, Contains}
use Rattle.carousel_profile.specs.declared.TheConstants.{PACKET_LENGTH}
use Rattle.path_tree.specs.Paths.{PathNames}
use Rattle.path_resolver.specs.declared.answer.Answer.TheVariants as answers
use Rattle.tuner_core.specs.LookBack.{answer_after}
use Rattle.psi_tables.specs.declared.tables.PatLine.{PatLine}
use Rattle.psi_tables.specs.declared.finder.Find.{Find}
use Rattle.psi_tables.specs.declared.finder.Find.TheVariants.{NoPat, NotNamed, At}
use Rattle.psi_tables.specs.Pats.{PatFields}
use Rattle.psi_tables.specs.Pmts.{PmtFields}
use Rattle.psi_tables.specs.Finding.{found_in, is_program, names, pats_in}
use Rattle.psi_tables.specs.Finding.{listed_pids, first_of_each}
use Rattle.psi_tables.specs.Laws.{IsUsual, NowhereElse, Came, followed_since, first_pat}
use Rattle.mount_table.specs.declared.mount.Mount.{Mount}
use Rattle.mount_table.specs.Mounts.{mount_named}
use Rattle.mount_table.specs.Receiving.{of_pid}
use Rattle.mount_table.specs.Laws.{OneMountDecides}
use Rattle.cycle_planner.specs.Weights.{AreWeights}
use Rattle.shell_streams.specs.Cuts.{Bytes}
use Rattle.shell_streams.specs.Packets.{packets_of, candidates_of}
use Rattle.shell_streams.specs.declared.carrier.Carrier.{Carrier}
use Rattle.shell_words.specs.Texts.{open_entry}
use Rattle.receiver_commands.specs.OpenId.{sections_among}
use Rattle.receiver_commands.specs.Mounts.{mounted_answer}
use Rattle.shell_commands.specs.Reception.{Reception, SentOpens, CyclesOpen}

-- ---- where the tables are as usual: one PAT of one section, and one map table of each program

pub record UsuallyFound (carousel : ℕ) (packets : List Bytes) : Type 0 where
  -- it is named at PID q or not at all
  pub nowhere_else : (p : PatFields) (table : ℕ → PmtFields) (q : ℕ)
      → IsUsual carousel packets p table q → NowhereElse q (found_in carousel packets)
  -- it is found as soon as the PAT came, and then the map table that names it
  pub once_it_came : (p : PatFields) (table : ℕ → PmtFields) (q : ℕ) (l : PatLine)
      → IsUsual carousel packets p table q → Contains (pats_in packets) p → Contains p.lines l
      → is_program l ≡ true → names carousel (table l.program) ≡ Some q → Came packets table l
      → found_in carousel packets ≡ At q
  -- a program's PID is followed from the packet after the one that completed the first PAT on
  pub followed : (p : PatFields) (l : PatLine) → All (λ (r : PatFields). r ≡ p) (pats_in packets)
      → Contains p.lines l → is_program l ≡ true
      → length (first_of_each [] (listed_pids 0 p.lines)) ≤ 64
      → followed_since packets l.pid ≡ first_pat packets

-- ---- the packet at which a carousel is found, in other words than those of `open-id`

abbrev pub IsNowhere : Find → Type 0
IsNowhere NoPat = Unit {0}
IsNowhere NotNamed = Unit {0}
IsNowhere (At pid) = ⊥

-- the carousel is found at this PID after so many packets, and after no fewer
pub record IsFirst (carousel : ℕ) (packets : List Bytes) (n pid : ℕ) : Type 0 where
  pub within : n ≤ length packets
  pub found : found_in carousel (take n packets) ≡ At pid
  pub before : (m : ℕ) → m < n → IsNowhere (found_in carousel (take m packets))

abbrev pub IsNeverFound : ℕ → List Bytes → Type 0
IsNeverFound carousel packets =
    (m : ℕ) → m ≤ length packets → IsNowhere (found_in carousel (take m packets))

-- What `open-id` hears is what `open` with the PID that is found hears of the input after so many
-- packets; where none is found it hears nothing.
pub record HeardById (carousel : ℕ) (input : Bytes) : Type 0 where
  pub behind : (n pid : ℕ) → IsFirst carousel (packets_of input) n pid
      → sections_among carousel (packets_of input) ≡ candidates_of pid (drop (PACKET_LENGTH * n) input)
  pub nowhere : (p : PathNames) → IsNeverFound carousel (packets_of input)
      → answer_after (sections_among carousel (packets_of input)) p ≡ answers.NoCarousel

-- ---- what holds under a mount

pub record UnderMount (table : List Mount) (name : Bytes) (m : Mount) (input : Bytes) : Type 0 where
  -- the answers to its paths are those of `open` with its PID
  pub as_open : (rest : PathNames) → mounted_answer table (packets_of input) (name ∷ rest)
      ≡ answer_after (candidates_of m.pid input) rest
  -- what is written of them is the same for every input with the same packets of its PID, whatever
  -- the other packets are
  pub alone : (other : Bytes) (rest : PathNames)
      → of_pid m.pid (packets_of input) ≡ of_pid m.pid (packets_of other)
      → open_entry (mounted_answer table (packets_of input)) (name ∷ rest)
      ≡ open_entry (mounted_answer table (packets_of other)) (name ∷ rest)

-- ---- all of them

pub record Receptions : Type 0 where
  -- of whatever is heard of an input
  pub each : (carrier : Carrier) (input : Bytes) → Reception carrier input
  -- of what `publish`, and what `publish-psi`, sends under weights
  pub sent : (pid carousel : ℕ) (weights : List ℕ) (cycles : ℕ) → AreWeights weights
      → SentOpens pid carousel weights cycles
  pub cycles : (carousel : ℕ) (weights : List ℕ) (cycles : ℕ) → AreWeights weights
      → CyclesOpen carousel weights cycles
  -- of the tables in any packets, and of a carousel that is sought by them
  pub tables : (carousel : ℕ) (packets : List Bytes) → UsuallyFound carousel packets
  pub by_id : (carousel : ℕ) (input : Bytes) → HeardById carousel input
  -- of each mount of a table
  pub mounts : OneMountDecides
  pub under : (table : List Mount) (name : Bytes) (m : Mount) (input : Bytes)
      → mount_named table name ≡ Some m → UnderMount table name m input
