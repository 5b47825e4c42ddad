-- What each command promises. A page of its own says it of each. `refused` is the path text that the
-- folders refused last, and `told` what holds of the notices that were given.
use Rattle.std.specs.Prelude.{ℕ, Bool, true, false, List, Option, Result, Ok, Err}
use Rattle.path_tree.specs.Paths.{PathNames}
use Rattle.folder_playout.specs.Notices.{Notice}
use Rattle.folder_store.specs.Folders.{FolderTree}
use Rattle.shell_words.specs.Words as commands
use Rattle.shell_streams.specs.Cuts.{Bytes}
use Rattle.shell_streams.specs.declared.carrier.Carrier.TheVariants as carriers
use Rattle.receiver_commands.specs.Over.{Over, IsUntouched}
use Rattle.receiver_commands.specs.Input.{asked_module}
use Rattle.receiver_commands.specs.Assemble.{Assembles}
use Rattle.receiver_commands.specs.Open.{Answers, asks_paths, asks_all}
use Rattle.receiver_commands.specs.Record.{Records}
use Rattle.shell_commands.specs.Publish.{Publishes}
use Rattle.shell_commands.specs.Air.{StaysOnAir}
use Rattle.receiver_commands.specs.Find.{Finds}
use Rattle.receiver_commands.specs.OpenId.{OpensId}
use Rattle.receiver_commands.specs.Mounts.{ServesMounts}
use Rattle.receiver_commands.specs.Watch.{Watches}
use Rattle.receiver_commands.specs.Why.{SaysWhy}
use Rattle.receiver_commands.specs.Inspect.{Inspects}
use Rattle.receiver_commands.specs.Extract.{Extracts}
use Rattle.shell_commands.specs.Plan.{TellsPlan}
use Rattle.shell_commands.specs.PublishPsi.{PublishesPsi}
use Rattle.shell_commands.specs.Rehearse.{Rehearses}
use Rattle.receiver_commands.specs.Refusing.{Declines}
use Rattle.receiver_commands.specs.declared.status.Status.{Status}
use Rattle.shell_commands.specs.declared.plain.TheConstants.{MOST_OPENED}

-- a command that reads no input
pub record WithoutInput (source : Over Bytes) (Promised : Type 0) : Type 0 where
  pub unread : IsUntouched source
  pub keeps : Promised

abbrev pub Promises : List ℕ → List PathNames → commands.Named → Status → Over Bytes → Over Bytes → Over FolderTree → Over FolderTree → Option Bytes → (List Notice → Type 0) → Type 0
Promises weights prefixes (commands.Assemble id version size download) s source sink folders store refused told = Assembles (asked_module id version size download) s source sink
Promises weights prefixes (commands.OpenSections paths) s source sink folders store refused told = Answers (carriers.Sections MOST_OPENED) (asks_paths paths) s source sink
Promises weights prefixes (commands.Open pid paths) s source sink folders store refused told = Answers (carriers.Packets pid) (asks_paths paths) s source sink
Promises weights prefixes (commands.Record pid) s source sink folders store refused told = Records pid s source sink
Promises weights prefixes (commands.ListAll pid) s source sink folders store refused told = Answers (carriers.Packets pid) asks_all s source sink
Promises weights prefixes (commands.Publish folder carousel cycles) s source sink folders store refused told = WithoutInput source (Publishes 256 folder carousel weights cycles s sink folders)
Promises weights prefixes commands.Rehearse s source sink folders store refused told = Rehearses weights s source sink
Promises weights prefixes commands.Session s source sink folders store refused told = Declines s source sink
Promises weights prefixes (commands.Big n) s source sink folders store refused told = Declines s source sink
Promises weights prefixes (commands.Find carousel) s source sink folders store refused told = Finds carousel s source sink
Promises weights prefixes (commands.OpenId carousel paths) s source sink folders store refused told = OpensId carousel paths s source sink
Promises weights prefixes (commands.PublishPsi folder carousel cycles) s source sink folders store refused told = WithoutInput source (PublishesPsi folder carousel weights cycles s sink folders)
Promises weights prefixes (commands.PublishOn pid folder carousel cycles) s source sink folders store refused told = WithoutInput source (Publishes pid folder carousel weights cycles s sink folders)
Promises weights prefixes (commands.Mounts entries paths) s source sink folders store refused told = ServesMounts entries paths s source sink
Promises weights prefixes (commands.Watch pid paths) s source sink folders store refused told = Watches pid prefixes paths s source sink
Promises weights prefixes (commands.Plan folder carousel bitrate) s source sink folders store refused told = WithoutInput source (TellsPlan folder carousel weights bitrate s sink folders refused)
Promises weights prefixes (commands.Inspect pid) s source sink folders store refused told = Inspects pid s source sink
Promises weights prefixes (commands.Extract pid folder) s source sink folders store refused told = Extracts pid folder s source sink store
Promises weights prefixes (commands.Air pid folder carousel cycles) s source sink folders store refused told = WithoutInput source (StaysOnAir pid folder carousel weights cycles s sink folders told)
Promises weights prefixes (commands.Why complaint) s source sink folders store refused told = WithoutInput source (SaysWhy complaint s sink)

-- whether the words name a command that writes into the store: every other one leaves it as it was
abbrev pub writes_store : Result commands.Named commands.Misfit → Bool
writes_store (Ok (commands.Extract pid folder)) = true
writes_store _ = false

-- whether the words name a command that gives notices: every other one gives none
abbrev pub gives_notices : Result commands.Named commands.Misfit → Bool
gives_notices (Ok (commands.Air pid folder carousel cycles)) = true
gives_notices _ = false

-- what is promised of words, under these weights and with watchers of these prefixes; words that don't fit, and those of a command that
-- needs threads, are refused
abbrev pub Keeps : List ℕ → List PathNames → Result commands.Named commands.Misfit → Status → Over Bytes → Over Bytes → Over FolderTree → Over FolderTree → Option Bytes → (List Notice → Type 0) → Type 0
Keeps weights prefixes (Ok command) s source sink folders store refused told = Promises weights prefixes command s source sink folders store refused told
Keeps weights prefixes (Err misfit) s source sink folders store refused told = Declines s source sink
