-- What `mounts TABLE PATH..` promises: the packets of the input are handed to a table of carousels, each under a name and on a PID of its
-- own, and the answers that it then gives are written as `open` writes them. A table that breaks a rule is refused.
use Rattle.std.specs.Prelude.{◌≡◌, ◌⊎◌, List, map, Option, Some, None}
use Rattle.path_tree.specs.Paths.{PathNames}
use Rattle.path_resolver.specs.declared.answer.Answer.{Answer}
use Rattle.path_resolver.specs.declared.answer.Answer.TheVariants as answers
use Rattle.mount_table.specs.declared.mount.Mount.{Mount}
use Rattle.mount_table.specs.declared.fault.TableFault.{TableFault}
use Rattle.mount_table.specs.declared.mounts.Mounted.{Mounted}
use Rattle.mount_table.specs.declared.mounts.Mounted.TheVariants.{Root, NoMount, At}
use Rattle.mount_table.specs.Mounts.{refusal_of, IsTableOf, names_of, mounted_after}
use Rattle.mount_table.specs.Stands.{MountsState, StandsFor, mounts_of}
use Rattle.shell_words.specs.Values.{Entry}
use Rattle.shell_streams.specs.Cuts.{Bytes}
use Rattle.shell_streams.specs.Carriers.{all_packets}
use Rattle.receiver_commands.specs.Over.{Over, IsUntouched}
use Rattle.receiver_commands.specs.Replies.{Replies}
use Rattle.receiver_commands.specs.Open.{AllAnswers, asks_paths, reply_by}
use Rattle.receiver_commands.specs.Refusing.{Declines}
use Rattle.receiver_commands.specs.declared.status.Status.{Status}
use Rattle.receiver_commands.specs.declared.status.Status.TheVariants as status

-- ---- what is written

-- the mounts that the word names
abbrev pub mount_of : Entry → Mount
mount_of entry = record { name = entry.0; pid = entry.1 }

abbrev pub mounts_in : List Entry → List Mount
mounts_in entries = map mount_of entries

-- the root is a folder of all names, and what is under no mount isn't there
abbrev pub as_answer : List Mount → Mounted → Answer
as_answer table Root = answers.Folder (names_of table)
as_answer table NoMount = answers.NoSuch
as_answer table (At pid a) = a

-- the answer to each path after these packets
abbrev pub mounted_answer : List Mount → List Bytes → AllAnswers
mounted_answer table packets p = as_answer table (mounted_after table packets p)

-- these are a table's answers, by packets that it stands for
pub record AreItsAnswers (m : MountsState) (answer : AllAnswers) : Type 0 where
  pub packets : List Bytes
  pub stands : StandsFor m packets
  pub is : answer ≡ mounted_answer (mounts_of m) packets

-- ---- how it ends

-- there was no memory for the table
pub record NoTable (s : Status) (source sink : Over Bytes) : Type 0 where
  pub ends : s ≡ status.NoMemory
  pub unread : IsUntouched source
  pub unwritten : IsUntouched sink

-- the table of these mounts was made, and it answered
pub record ByTable (mounts : List Mount) (paths : List PathNames) (s : Status) (source sink : Over Bytes) : Type 0 where
  pub table : List Mount
  pub of : IsTableOf mounts table
  pub replies : Replies all_packets (reply_by (mounted_answer table) (asks_paths paths)) s source sink

-- where a rule is broken the words are refused, and only there
abbrev pub EndsMounts : Option TableFault → List Mount → List PathNames → Status → Over Bytes → Over Bytes → Type 0
EndsMounts (Some fault) mounts paths s source sink = Declines s source sink
EndsMounts None mounts paths s source sink = NoTable s source sink ⊎ ByTable mounts paths s source sink

abbrev pub ServesMounts : List Entry → List PathNames → Status → (source sink : Over Bytes) → Type 0
ServesMounts entries paths s source sink =
    EndsMounts (refusal_of (mounts_in entries)) (mounts_in entries) paths s source sink
