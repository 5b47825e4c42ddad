-- The line of a complaint, and the laws that say when there is none, and which word is named. Names are those on the pages of help; the texts are this project's own.
use Rattle.std.specs.Prelude.{◌≡◌, ◌↔◌, ℕ, ◌-◌, ◌≤◌, List, ◌++◌, ◌∷◌, take, length, IsOk, Option, Some, None, IfSome, codes}
use Rattle.std.specs.Fmt.{decimal}
use Rattle.path_tree.specs.Paths.{Bytes}
use Rattle.shell_words.specs.Places.{range_of, complaint_of}
use Rattle.shell_words.specs.Texts.{line}
use Rattle.shell_words.specs.Words.{command_of}
use Rattle.shell_words.specs.declared.places.Slot.{Slot}
use Rattle.shell_words.specs.declared.places.Slot.TheVariants.{Command, Id, Version, Size, Download, Pid, Source, Path, Folder, Carousel, Cycles, AirCycles, Bitrate, Editors, Table}
use Rattle.shell_words.specs.declared.places.Complaint.{Complaint}
use Rattle.shell_words.specs.declared.places.Complaint.TheVariants as complaints
use Rattle.shell_words.specs.declared.table.TheConstants.{MOST_MOUNT_NAME}
use Rattle.shell_words.specs.declared.values.TheConstants.{MOST_PID}

-- the name of what a word stands for
abbrev pub slot_name : Slot → Bytes
slot_name Command = codes "COMMAND"
slot_name Id = codes "ID"
slot_name Version = codes "VERSION"
slot_name Size = codes "SIZE"
slot_name Download = codes "DOWNLOAD"
slot_name Pid = codes "PID"
slot_name Source = codes "PID"
slot_name Path = codes "PATH"
slot_name Folder = codes "FOLDER"
slot_name Carousel = codes "CAROUSEL"
slot_name Cycles = codes "CYCLES"
slot_name AirCycles = codes "CYCLES"
slot_name Bitrate = codes "BITRATE"
slot_name Editors = codes "N"
slot_name Table = codes "TABLE"

abbrev pub range_text : ℕ → ℕ → Bytes
range_text least greatest = decimal least ++ codes " to " ++ decimal greatest

-- the form of a word that isn't a number alone
abbrev pub form_text : Slot → Bytes
form_text Source = range_text 0 MOST_PID ++ codes ", or sections"
form_text Path = codes "/, or / before each of 1 to 16 names"
form_text Folder = codes "not empty, and not beginning with -"
form_text Table = codes "NAME=PID, or several with commas between; NAME " ++ range_text 1 MOST_MOUNT_NAME ++ codes " letters a to z or digits, PID " ++ range_text 0 MOST_PID
form_text _ = codes "a command"

abbrev pub rule_by : Option (ℕ × ℕ) → Slot → Bytes
rule_by (Some r) slot = range_text r.0 r.1
rule_by None slot = form_text slot

-- a slot's range or form
abbrev pub rule_text : Slot → Bytes
rule_text slot = rule_by (range_of slot) slot

-- what is wrong, without its line feed
abbrev pub complaint_words : Complaint → Bytes
complaint_words complaints.Fits = codes "fits"
complaint_words complaints.Unknown = codes "word 1 COMMAND unknown"
complaint_words (complaints.Misfit n slot) = codes "word " ++ decimal n ++ 32 ∷ slot_name slot ++ 32 ∷ rule_text slot
complaint_words (complaints.TooMany n) = codes "word " ++ decimal n ++ codes " too many"
complaint_words (complaints.TooFew slot) = codes "too few " ++ slot_name slot

abbrev pub complaint_line : Complaint → Bytes
complaint_line complaint = line (complaint_words complaint)

-- the number of the word that is named as one that doesn't fit
abbrev pub named_word : Complaint → Option ℕ
named_word complaints.Fits = None
named_word complaints.Unknown = Some 1
named_word (complaints.Misfit n slot) = Some n
named_word (complaints.TooMany n) = Some n
named_word (complaints.TooFew slot) = None

-- This word doesn't fit, whatever follows it, and none of those before it is one that doesn't.
pub record IsFirst (words : List Bytes) (n : ℕ) : Type 0 where
  pub among : (1 ≤ n) × (n ≤ length words)
  pub whatever : (more : List Bytes) → complaint_of (take n words ++ more) ≡ complaint_of words
  pub before : named_word (complaint_of (take (n - 1) words)) ≡ None

-- the word that is named is the first one
abbrev pub FirstIsNamed : List Bytes → Type 0
FirstIsNamed words = IfSome (named_word (complaint_of words)) (IsFirst words)

-- there is nothing to complain of exactly where the words are those of a command
abbrev pub FitsIsAccepted : List Bytes → Type 0
FitsIsAccepted words = (complaint_of words ≡ complaints.Fits) ↔ IsOk (command_of words)
