-- The commands of a broadcaster, and those of a receiver.
use Rattle.std.specs.Prelude.{Bool, true, false, List, [], None}
use Rattle.path_tree.specs.Paths.{PathNames}
use Rattle.folder_store.specs.Folders.{FolderTree}
use Rattle.shell_words.specs.Words as commands
use Rattle.shell_streams.specs.Cuts.{Bytes}
use Rattle.receiver_commands.specs.Over.{Over}
use Rattle.receiver_commands.specs.declared.status.Status.{Status}
use Rattle.shell_commands.specs.Promises.{Promises}

-- whether a command is one of a broadcaster: it publishes, tells what it would publish, or rehearses
abbrev pub is_of_broadcaster : commands.Named → Bool
is_of_broadcaster (commands.Publish folder carousel cycles) = true
is_of_broadcaster (commands.PublishOn pid folder carousel cycles) = true
is_of_broadcaster (commands.PublishPsi folder carousel cycles) = true
is_of_broadcaster (commands.Air pid folder carousel cycles) = true
is_of_broadcaster (commands.Plan folder carousel bitrate) = true
is_of_broadcaster commands.Rehearse = true
is_of_broadcaster _ = false

-- whether a command is one of a receiver, or `why`; the others are those of a broadcaster, and those
-- that need threads
abbrev pub is_of_receiver : commands.Named → Bool
is_of_receiver (commands.Assemble id version size download) = true
is_of_receiver (commands.OpenSections paths) = true
is_of_receiver (commands.Open pid paths) = true
is_of_receiver (commands.OpenId carousel paths) = true
is_of_receiver (commands.ListAll pid) = true
is_of_receiver (commands.Record pid) = true
is_of_receiver (commands.Find carousel) = true
is_of_receiver (commands.Mounts entries paths) = true
is_of_receiver (commands.Watch pid paths) = true
is_of_receiver (commands.Inspect pid) = true
is_of_receiver (commands.Extract pid folder) = true
is_of_receiver (commands.Why complaint) = true
is_of_receiver _ = false

-- What is promised of any command but those of a broadcaster: it takes no weights, reads no folder and gives no notice.
abbrev pub PromisesOther : List PathNames → commands.Named → Status → Over Bytes → Over Bytes → Over FolderTree → Type 0
PromisesOther prefixes command s source sink store = Promises [] prefixes command s source sink (record { before = None; after = None; faults = 0; faults_after = 0 }) store None (λ notices. Unit {0})
