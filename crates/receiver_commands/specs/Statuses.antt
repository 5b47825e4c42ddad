-- The number and the line of a status, and the statuses of faults. The line is what stands on standard error, without its line feed.
use Rattle.std.specs.Prelude.{ℕ, ◌++◌, codes, Option, Some, None}
use Rattle.std.specs.Fmt.{decimal}
use Rattle.folder_store.specs.declared.reading.TreeFault.{TreeFault}
use Rattle.folder_store.specs.declared.reading.TreeFault.TheVariants as trees
use Rattle.folder_store.specs.declared.reading.ReadTree.{ReadTree}
use Rattle.folder_store.specs.declared.reading.ReadTree.TheVariants as reads
use Rattle.generation_catalogue.specs.declared.entry.CommitFault.{CommitFault}
use Rattle.generation_catalogue.specs.declared.entry.CommitFault.TheVariants as commits
use Rattle.mount_table.specs.declared.fault.TableFault.{TableFault}
use Rattle.mount_table.specs.declared.fault.TableFault.TheVariants as tables
use Rattle.reception_report.specs.Sync.{sync_line}
use Rattle.session_script.specs.Scripts.{cause_text}
use Rattle.session_script.specs.declared.script.LineCause.{LineCause}
use Rattle.session_script.specs.declared.script.ScriptFault.{ScriptFault}
use Rattle.session_script.specs.declared.script.ScriptFault.TheVariants as scripts
use Rattle.shell_streams.specs.declared.input.InputFault.{InputFault}
use Rattle.shell_streams.specs.declared.input.InputFault.TheVariants as inputs
use Rattle.shell_streams.specs.declared.output.OutputFault.{OutputFault}
use Rattle.shell_streams.specs.declared.output.OutputFault.TheVariants as outputs
use Rattle.shell_words.specs.Texts.{refusal_line}
use Rattle.shell_words.specs.declared.words.WordsFault.{WordsFault}
use Rattle.shell_words.specs.declared.words.WordsFault.TheVariants as faults
use Rattle.shell_streams.specs.Cuts.{Bytes}
use Rattle.receiver_commands.specs.declared.status.Status.{Status}
use Rattle.receiver_commands.specs.declared.status.Status.TheVariants as status

abbrev pub code_of : Status → ℕ
code_of status.Done = 0
code_of status.NotAll = 1
code_of (status.NotPackets place) = 1
code_of status.Words = 2
code_of (status.BadLine number cause) = 3
code_of status.ReadFault = 4
code_of status.WriteFault = 5
code_of status.FolderFault = 6
code_of (status.TreeRefused fault) = 7
code_of status.InputTooLong = 8
code_of status.NoMemory = 9
code_of (status.Incomplete b) = 10

abbrev pub tree_text : TreeFault → Bytes
tree_text trees.TooDeep = codes "too-deep"
tree_text trees.BadName = codes "bad-name"
tree_text (trees.Commit refusal) = refusal_line refusal

-- why a text is no script
abbrev pub script_text : ℕ → LineCause → Bytes
script_text number cause = codes "script line " ++ decimal number ++ codes ": " ++ cause_text cause

abbrev pub fault_line : Bytes → Option Bytes
fault_line text = Some (codes "carousel: " ++ text)

abbrev pub line_of : Status → Option Bytes
line_of status.Done = None
line_of status.NotAll = None
line_of (status.NotPackets place) = fault_line (sync_line place)
line_of status.Words = fault_line (codes "bad words")
line_of (status.BadLine number cause) = fault_line (script_text number cause)
line_of status.ReadFault = fault_line (codes "read fault")
line_of status.WriteFault = fault_line (codes "write fault")
line_of status.FolderFault = fault_line (codes "folder fault")
line_of (status.TreeRefused fault) = fault_line (codes "tree refused: " ++ tree_text fault)
line_of status.InputTooLong = fault_line (codes "input too long")
line_of status.NoMemory = fault_line (codes "no memory")
line_of (status.Incomplete b) = fault_line (codes "block " ++ decimal b ++ codes " is missing")

-- ---- the statuses of faults

-- of words that gave no command
abbrev pub words_status : WordsFault → Status
words_status faults.Words = status.Words
words_status faults.NoMemory = status.NoMemory

abbrev pub input_status : InputFault → Status
input_status inputs.Failed = status.ReadFault
input_status inputs.TooLong = status.InputTooLong
input_status inputs.NoMemory = status.NoMemory

abbrev pub output_status : OutputFault → Status
output_status outputs.Failed = status.WriteFault
output_status outputs.NoMemory = status.NoMemory

-- of a text that gave no script
abbrev pub script_status : ScriptFault → Status
script_status (scripts.BadLine number cause) = status.BadLine number cause
script_status scripts.NoMemory = status.NoMemory

-- of a table of carousels that isn't made
abbrev pub table_status : TableFault → Status
table_status tables.TooMany = status.Words
table_status (tables.BadName place) = status.Words
table_status (tables.BadPid place) = status.Words
table_status (tables.NameTwice place) = status.Words
table_status (tables.PidTwice place) = status.Words
table_status tables.NoMemory = status.NoMemory

-- of a walk, and of a commit, that gave nothing
abbrev pub walk_status : ReadTree → Status
walk_status reads.FolderFault = status.FolderFault
walk_status reads.TooDeep = status.TreeRefused trees.TooDeep
walk_status reads.BadName = status.TreeRefused trees.BadName
walk_status reads.NoMemory = status.NoMemory

abbrev pub commit_status : CommitFault → Status
commit_status (commits.Refused refusal) = status.TreeRefused (trees.Commit refusal)
commit_status commits.NoMemory = status.NoMemory
