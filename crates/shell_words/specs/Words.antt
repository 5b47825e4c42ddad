-- Which command the words name.
use Rattle.std.specs.Prelude.{ℕ, ◌≤◌, ◌<◌, length, List, [], ◌∷◌, drop, Option, Some, None, Result, Ok, Err, if◌then◌else◌, codes}
use Rattle.std.specs.List.{list_any, find}
use Rattle.std.specs.Option.{option_map}
use Rattle.std.specs.Str.{bytes_eq}
use Rattle.std.specs.String.{string_bytes}
use Rattle.oc_bytes.specs.Decimals.{decimal_in}
use Rattle.oc_bytes.specs.Outcome.{Gives}
use Rattle.path_tree.specs.Paths.{Bytes, PathNames}
pub use Rattle.shell_words.specs.Values.{◌>>=◌, begins_with_dash, pid_in, any_u32_in, folder_in, path_in, paths_in, watched_in, Entry, table_in, IsTable}
use Rattle.shell_words.specs.Places.{asks_why, complaint_of}
use Rattle.shell_words.specs.declared.places.Complaint.{Complaint}
use Rattle.shell_words.specs.declared.words.Command.{Command}
use Rattle.shell_words.specs.declared.words.Command.TheVariants as code
use Rattle.shell_words.specs.declared.words.WordsFault.{WordsFault}
use Rattle.shell_words.specs.declared.words.WordsFault.TheVariants as faults
use Rattle.block_assembler.specs.declared.TheConstants.{MOST_MODULE_SIZE}
use Rattle.shell_words.specs.declared.parsing.TheConstants.{MOST_CYCLES, MOST_AIR_CYCLES, MOST_BITRATE, MOST_BIG}
use Rattle.shell_words.specs.declared.values.TheConstants.{MOST_PID, MOST_WATCHED}

pub data Named : Type 0 where
  Assemble : (id version size download : ℕ) → Named
  OpenSections : List PathNames → Named
  Open : ℕ → List PathNames → Named
  Record : ℕ → Named
  ListAll : ℕ → Named
  Publish : Bytes → ℕ → ℕ → Named
  Rehearse : Named
  Session : Named
  Big : ℕ → Named
  Find : ℕ → Named
  OpenId : ℕ → List PathNames → Named
  PublishPsi : Bytes → ℕ → ℕ → Named
  PublishOn : ℕ → Bytes → ℕ → ℕ → Named
  Mounts : List Entry → List PathNames → Named
  Watch : ℕ → List PathNames → Named
  Plan : Bytes → ℕ → ℕ → Named
  Inspect : ℕ → Named
  Extract : ℕ → Bytes → Named
  Air : ℕ → Bytes → ℕ → ℕ → Named
  Why : Complaint → Named

abbrev pub view : Command → Named
view (code.Assemble id version size download) = Assemble id version size download
view (code.OpenSections paths) = OpenSections paths.items
view (code.Open pid paths) = Open pid paths.items
view (code.Record pid) = Record pid
view (code.List pid) = ListAll pid
view (code.Publish folder carousel cycles) = Publish (string_bytes folder) carousel cycles
view code.Rehearse = Rehearse
view code.Session = Session
view (code.Big n) = Big n
view (code.Find carousel) = Find carousel
view (code.OpenId carousel paths) = OpenId carousel paths.items
view (code.PublishPsi folder carousel cycles) = PublishPsi (string_bytes folder) carousel cycles
view (code.PublishOn pid folder carousel cycles) = PublishOn pid (string_bytes folder) carousel cycles
view (code.Mounts table paths) = Mounts table.items paths.items
view (code.Watch pid paths) = Watch pid paths.items
view (code.Plan folder carousel bitrate) = Plan (string_bytes folder) carousel bitrate
view (code.Inspect pid) = Inspect pid
view (code.Extract pid folder) = Extract pid (string_bytes folder)
view (code.Air pid folder carousel cycles) = Air pid (string_bytes folder) carousel cycles
view (code.Why complaint) = Why complaint

-- the words don't fit
pub data Misfit : Type 0 where
  Words : Misfit

abbrev pub cause : WordsFault → Option Misfit
cause faults.Words = Some Words
cause faults.NoMemory = None

-- a call read this of the words, unless there was no memory
abbrev pub ReadsAs : Result Command WordsFault → Result Named Misfit → Type 0
ReadsAs outcome meaning = Gives view cause outcome meaning

-- ---- the commands: what the words after the first one say, or None where they don't fit

abbrev pub assemble_by : List Bytes → Option Named
assemble_by (id ∷ version ∷ size ∷ download ∷ []) = do
  i ← decimal_in 0 65535 id
  v ← decimal_in 0 255 version
  s ← decimal_in 0 MOST_MODULE_SIZE size
  d ← any_u32_in download
  Some (Assemble i v s d)
assemble_by _ = None

abbrev pub open_by : List Bytes → Option Named
open_by [] = None
open_by (from ∷ words) =
    if bytes_eq from (codes "sections") then option_map OpenSections (paths_in words)
    else (pid_in from >>= λ pid. option_map (Open pid) (paths_in words))

-- the PID that is the only word
abbrev pub pid_by : List Bytes → Option ℕ
pid_by (pid ∷ []) = pid_in pid
pid_by _ = None

abbrev pub record_by : List Bytes → Option Named
record_by words = option_map Record (pid_by words)

abbrev pub list_by : List Bytes → Option Named
list_by words = option_map ListAll (pid_by words)

abbrev pub inspect_by : List Bytes → Option Named
inspect_by words = option_map Inspect (pid_by words)

-- a folder, the id of a carousel, and a number from 1 on, as that of cycles or of bits a second
abbrev pub publication_in : (greatest : ℕ) → List Bytes → Option (Bytes × ℕ × ℕ)
publication_in greatest (folder ∷ carousel ∷ number ∷ []) = do
  c ← any_u32_in carousel
  n ← decimal_in 1 greatest number
  f ← folder_in folder
  Some (f, c, n)
publication_in greatest _ = None

abbrev pub publish_by : List Bytes → Option Named
publish_by words = option_map (λ p. Publish p.0 p.1 p.2) (publication_in MOST_CYCLES words)

abbrev pub publish_psi_by : List Bytes → Option Named
publish_psi_by words = option_map (λ p. PublishPsi p.0 p.1 p.2) (publication_in MOST_CYCLES words)

abbrev pub publish_on_by : List Bytes → Option Named
publish_on_by [] = None
publish_on_by (pid ∷ words) = pid_in pid >>= λ q. option_map (λ p. PublishOn q p.0 p.1 p.2) (publication_in MOST_CYCLES words)

abbrev pub air_by : List Bytes → Option Named
air_by [] = None
air_by (pid ∷ words) = pid_in pid >>= λ q. option_map (λ p. Air q p.0 p.1 p.2) (publication_in MOST_AIR_CYCLES words)

abbrev pub plan_by : List Bytes → Option Named
plan_by words = option_map (λ p. Plan p.0 p.1 p.2) (publication_in MOST_BITRATE words)

-- a PID, and the folder that is made
abbrev pub extract_by : List Bytes → Option Named
extract_by (pid ∷ folder ∷ []) = do
  q ← pid_in pid
  f ← folder_in folder
  Some (Extract q f)
extract_by _ = None

abbrev pub mounts_by : List Bytes → Option Named
mounts_by [] = None
mounts_by (table ∷ words) = table_in table >>= λ t. option_map (Mounts t) (paths_in words)

-- a PID, and the paths that are watched
abbrev pub watch_by : List Bytes → Option Named
watch_by [] = None
watch_by (pid ∷ words) = pid_in pid >>= λ q. option_map (Watch q) (watched_in words)

abbrev pub find_by : List Bytes → Option Named
find_by (carousel ∷ []) = option_map Find (any_u32_in carousel)
find_by _ = None

abbrev pub open_id_by : List Bytes → Option Named
open_id_by [] = None
open_id_by (carousel ∷ words) = any_u32_in carousel >>= λ c. option_map (OpenId c) (paths_in words)

abbrev pub rehearse_by : List Bytes → Option Named
rehearse_by [] = Some Rehearse
rehearse_by (word ∷ words) = None

abbrev pub session_by : List Bytes → Option Named
session_by [] = Some Session
session_by (word ∷ words) = None

abbrev pub big_by : List Bytes → Option Named
big_by (n ∷ []) = option_map Big (decimal_in 1 MOST_BIG n)
big_by _ = None

abbrev pub commands : List (Bytes × (List Bytes → Option Named))
commands =
    (codes "assemble", assemble_by) ∷ (codes "open", open_by) ∷ (codes "record", record_by) ∷ (codes "list", list_by)
    ∷ (codes "publish", publish_by) ∷ (codes "rehearse", rehearse_by) ∷ (codes "session", session_by) ∷ (codes "big", big_by)
    ∷ (codes "find", find_by) ∷ (codes "open-id", open_id_by) ∷ (codes "publish-psi", publish_psi_by)
    ∷ (codes "publish-on", publish_on_by) ∷ (codes "mounts", mounts_by) ∷ (codes "watch", watch_by)
    ∷ (codes "plan", plan_by) ∷ (codes "inspect", inspect_by) ∷ (codes "extract", extract_by)
    ∷ (codes "air", air_by) ∷ []

abbrev pub command_named : Bytes → List Bytes → Option Named
command_named word words = find (λ c. bytes_eq word c.0) commands >>= λ c. c.1 words

abbrev pub or_misfit : {A : Type 0} → Option A → Result A Misfit
or_misfit (Some x) = Ok x
or_misfit None = Err Words

-- the same of a command's words, which fit where this names it
abbrev pub ReadsBy : Result Command WordsFault → Option Named → Type 0
ReadsBy outcome named = ReadsAs outcome (or_misfit named)

-- the command that the words name, where it isn't `why`
abbrev pub plain_command_of : List Bytes → Result Named Misfit
plain_command_of [] = Err Words
plain_command_of (word ∷ words) = if list_any begins_with_dash (word ∷ words) then Err Words else or_misfit (command_named word words)

-- the command that the words name, with the values of its words; behind `why` any words may stand
abbrev pub command_of : List Bytes → Result Named Misfit
command_of words = if asks_why words then Ok (Why (complaint_of (drop 1 words))) else plain_command_of words

-- a folder has at least one byte, and the number after it lies in its range
abbrev pub IsPublication : (greatest : ℕ) → Bytes → ℕ → Type 0
IsPublication greatest folder number = (0 < length folder) × (1 ≤ number) × (number ≤ greatest)

-- the values lie in their ranges
abbrev pub IsSized : Command → Type 0
IsSized (code.Assemble id version size download) = size ≤ MOST_MODULE_SIZE
IsSized (code.OpenSections paths) = Unit {0}
IsSized (code.Open pid paths) = pid ≤ MOST_PID
IsSized (code.Record pid) = pid ≤ MOST_PID
IsSized (code.List pid) = pid ≤ MOST_PID
IsSized (code.Publish folder carousel cycles) = IsPublication MOST_CYCLES (string_bytes folder) cycles
IsSized code.Rehearse = Unit {0}
IsSized code.Session = Unit {0}
IsSized (code.Big n) = (1 ≤ n) × (n ≤ MOST_BIG)
IsSized (code.Find carousel) = Unit {0}
IsSized (code.OpenId carousel paths) = Unit {0}
IsSized (code.PublishPsi folder carousel cycles) = IsPublication MOST_CYCLES (string_bytes folder) cycles
IsSized (code.PublishOn pid folder carousel cycles) = (pid ≤ MOST_PID) × IsPublication MOST_CYCLES (string_bytes folder) cycles
IsSized (code.Mounts table paths) = IsTable table.items
IsSized (code.Watch pid paths) = (pid ≤ MOST_PID) × (length paths.items ≤ MOST_WATCHED)
IsSized (code.Plan folder carousel bitrate) = IsPublication MOST_BITRATE (string_bytes folder) bitrate
IsSized (code.Inspect pid) = pid ≤ MOST_PID
IsSized (code.Extract pid folder) = (pid ≤ MOST_PID) × (0 < length (string_bytes folder))
IsSized (code.Air pid folder carousel cycles) = (pid ≤ MOST_PID) × IsPublication MOST_AIR_CYCLES (string_bytes folder) cycles
IsSized (code.Why complaint) = Unit {0}
