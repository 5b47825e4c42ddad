-- What may stand behind a command's word, and the first word of a command line that doesn't fit.
use Rattle.std.specs.Prelude.{ℕ, ◌+◌, ◌-◌, Bool, false, not, ◌||◌, nat_lt, List, [], ◌∷◌, length, slice_get, Option, Some, None, is_some, codes, if◌then◌else◌}
use Rattle.std.specs.List.{find, enumerate_from}
use Rattle.std.specs.Option.{option_map, unwrap_or}
use Rattle.std.specs.Str.{bytes_eq}
use Rattle.oc_bytes.specs.Decimals.{decimal_in}
use Rattle.path_tree.specs.Paths.{Bytes}
use Rattle.block_assembler.specs.declared.TheConstants.{MOST_MODULE_SIZE}
use Rattle.shell_words.specs.Values.{begins_with_dash, pid_in, folder_in, path_in, table_in}
use Rattle.shell_words.specs.declared.keyword.Keyword.{Keyword}
use Rattle.shell_words.specs.declared.keyword.Keyword.TheVariants as keywords
use Rattle.shell_words.specs.declared.places.Slot.{Slot}
use Rattle.shell_words.specs.declared.places.Slot.TheVariants.{Command, Id, Version, Size, Download, Pid, Source, Path, Folder, Carousel, Cycles, AirCycles, Bitrate, Editors, Table}
use Rattle.shell_words.specs.declared.places.Paths.{Paths}
use Rattle.shell_words.specs.declared.places.Paths.TheVariants.{NoPaths, AnyPaths, UpTo}
use Rattle.shell_words.specs.declared.places.Complaint.{Complaint}
use Rattle.shell_words.specs.declared.places.Complaint.TheVariants as complaints
use Rattle.shell_words.specs.declared.parsing.TheConstants.{MOST_CYCLES, MOST_AIR_CYCLES, MOST_BITRATE, MOST_BIG}
use Rattle.shell_words.specs.declared.values.TheConstants.{MOST_PID, MOST_WATCHED}

-- ---- the commands' words

abbrev pub keyword_table : List (Bytes × Keyword)
keyword_table =
    (codes "assemble", keywords.Assemble) ∷ (codes "open", keywords.Open) ∷ (codes "record", keywords.Record) ∷ (codes "list", keywords.List)
    ∷ (codes "publish", keywords.Publish) ∷ (codes "rehearse", keywords.Rehearse) ∷ (codes "session", keywords.Session) ∷ (codes "big", keywords.Big)
    ∷ (codes "find", keywords.Find) ∷ (codes "open-id", keywords.OpenId) ∷ (codes "publish-psi", keywords.PublishPsi)
    ∷ (codes "publish-on", keywords.PublishOn) ∷ (codes "mounts", keywords.Mounts) ∷ (codes "watch", keywords.Watch)
    ∷ (codes "plan", keywords.Plan) ∷ (codes "inspect", keywords.Inspect) ∷ (codes "extract", keywords.Extract)
    ∷ (codes "air", keywords.Air) ∷ []

abbrev pub keyword_of : Bytes → Option Keyword
keyword_of word = option_map (λ k. k.1) (find (λ k. bytes_eq word k.0) keyword_table)

-- ---- what may stand behind them

-- the slots of the words behind a command's, but for paths
abbrev pub first_slots : Keyword → List Slot
first_slots keywords.Assemble = Id ∷ Version ∷ Size ∷ Download ∷ []
first_slots keywords.Open = Source ∷ []
first_slots keywords.Record = Pid ∷ []
first_slots keywords.List = Pid ∷ []
first_slots keywords.Publish = Folder ∷ Carousel ∷ Cycles ∷ []
first_slots keywords.Rehearse = []
first_slots keywords.Session = []
first_slots keywords.Big = Editors ∷ []
first_slots keywords.Find = Carousel ∷ []
first_slots keywords.OpenId = Carousel ∷ []
first_slots keywords.PublishPsi = Folder ∷ Carousel ∷ Cycles ∷ []
first_slots keywords.PublishOn = Pid ∷ Folder ∷ Carousel ∷ Cycles ∷ []
first_slots keywords.Mounts = Table ∷ []
first_slots keywords.Watch = Pid ∷ []
first_slots keywords.Plan = Folder ∷ Carousel ∷ Bitrate ∷ []
first_slots keywords.Inspect = Pid ∷ []
first_slots keywords.Extract = Pid ∷ Folder ∷ []
first_slots keywords.Air = Pid ∷ Folder ∷ Carousel ∷ AirCycles ∷ []

-- the paths behind these
abbrev pub paths_behind : Keyword → Paths
paths_behind keywords.Open = AnyPaths
paths_behind keywords.OpenId = AnyPaths
paths_behind keywords.Mounts = AnyPaths
paths_behind keywords.Watch = UpTo MOST_WATCHED
paths_behind _ = NoPaths

-- the slot of the path at a place, from 0
abbrev pub path_slot : Paths → ℕ → Option Slot
path_slot NoPaths i = None
path_slot AnyPaths i = Some Path
path_slot (UpTo most) i = if nat_lt i most then Some Path else None

-- at least one path, where there may be some
abbrev pub least_paths : Paths → ℕ
least_paths NoPaths = 0
least_paths AnyPaths = 1
least_paths (UpTo most) = 1

-- the slot of the word at a place behind the command's, from 0; none, where no word may stand there
abbrev pub slot_at : Keyword → ℕ → Option Slot
slot_at k i = if nat_lt i (length (first_slots k)) then slice_get (first_slots k) i else path_slot (paths_behind k) (i - length (first_slots k))

-- how many words are needed
abbrev pub needed : Keyword → ℕ
needed k = length (first_slots k) + least_paths (paths_behind k)

-- ---- which words have a value

-- the least and the greatest number of a slot of numbers
abbrev pub range_of : Slot → Option (ℕ × ℕ)
range_of Id = Some (0, 65535)
range_of Version = Some (0, 255)
range_of Size = Some (0, MOST_MODULE_SIZE)
range_of Download = Some (0, 4294967295)
range_of Pid = Some (0, MOST_PID)
range_of Carousel = Some (0, 4294967295)
range_of Cycles = Some (1, MOST_CYCLES)
range_of AirCycles = Some (1, MOST_AIR_CYCLES)
range_of Bitrate = Some (1, MOST_BITRATE)
range_of Editors = Some (1, MOST_BIG)
range_of _ = None

-- the word has the form of a slot that isn't one of numbers
abbrev pub has_form : Slot → Bytes → Bool
has_form Source word = bytes_eq word (codes "sections") || is_some (pid_in word)
has_form Path word = is_some (path_in word)
has_form Folder word = is_some (folder_in word)
has_form Table word = is_some (table_in word)
has_form _ word = false

abbrev pub by_range : Option (ℕ × ℕ) → Slot → Bytes → Bool
by_range (Some r) slot word = is_some (decimal_in r.0 r.1 word)
by_range None slot word = has_form slot word

abbrev pub has_value : Slot → Bytes → Bool
has_value slot word = by_range (range_of slot) slot word

abbrev pub suits : Option Slot → Bytes → Bool
suits None word = false
suits (Some slot) word = has_value slot word

-- no word may stand there, or it begins with a dash, or it has no value of its slot
abbrev pub breaks : Keyword → ℕ → Bytes → Bool
breaks k i word = begins_with_dash word || not (suits (slot_at k i) word)

-- ---- the first word that breaks a rule

-- the word at a place behind the command's does, whose number on the command line is two more
abbrev pub complaint_at : ℕ → Option Slot → Complaint
complaint_at i (Some slot) = complaints.Misfit (i + 2) slot
complaint_at i None = complaints.TooMany (i + 2)

-- each of so many words fits, but there may be too few: behind the first slots a path is missing
abbrev pub complaint_after : Keyword → ℕ → Complaint
complaint_after k count = if nat_lt count (needed k) then complaints.TooFew (unwrap_or (slot_at k count) Path) else complaints.Fits

abbrev pub complaint_by : Keyword → ℕ → Option (ℕ × Bytes) → Complaint
complaint_by k count (Some found) = complaint_at found.0 (slot_at k found.0)
complaint_by k count None = complaint_after k count

abbrev pub first_breaking : Keyword → List Bytes → Option (ℕ × Bytes)
first_breaking k words = find (λ p. breaks k p.0 p.1) (enumerate_from 0 words)

abbrev pub complaint_behind : Option Keyword → List Bytes → Complaint
complaint_behind None words = complaints.Unknown
complaint_behind (Some k) words = complaint_by k (length words) (first_breaking k words)

-- the first word is that of the command that says what is wrong with other words, whatever they are
abbrev pub asks_why : List Bytes → Bool
asks_why [] = false
asks_why (word ∷ words) = bytes_eq word (codes "why")

-- of the words of any other command
abbrev pub plain_complaint_of : List Bytes → Complaint
plain_complaint_of [] = complaints.TooFew Command
plain_complaint_of (word ∷ words) = complaint_behind (keyword_of word) words

-- of the words of a command line
abbrev pub complaint_of : List Bytes → Complaint
complaint_of words = if asks_why words then complaints.Fits else plain_complaint_of words
