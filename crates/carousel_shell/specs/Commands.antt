-- What is promised of all commands: of `session` and `big` what their own pages say, and of every other one what a run without threads
-- promises.
use Rattle.std.specs.Prelude.{ℕ, Bool, true, false, List, Option, Result, Ok, Err}
use Rattle.path_tree.specs.Paths.{PathNames}
use Rattle.folder_store.specs.Folders.{FolderTree}
use Rattle.folder_playout.specs.Notices.{Notice}
use Rattle.shell_words.specs.Words as commands
use Rattle.shell_streams.specs.Cuts.{Bytes}
use Rattle.receiver_commands.specs.Over.{Over}
use Rattle.shell_commands.specs.Promises.{Keeps, WithoutInput}
use Rattle.receiver_commands.specs.Refusing.{Declines}
use Rattle.receiver_commands.specs.declared.status.Status.{Status}
use Rattle.carousel_shell.specs.Session.{Plays}
use Rattle.carousel_shell.specs.Big.{PlaysBig}

-- whether this command plays a session: that of a script which is read, or of a generated one
abbrev pub is_session : commands.Named → Bool
is_session commands.Session = true
is_session (commands.Big size) = true
is_session _ = false

-- whether the words name one that does
abbrev pub names_session : Result commands.Named commands.Misfit → Bool
names_session (Ok command) = is_session command
names_session (Err misfit) = false

-- ---- what is promised of sessions alone

abbrev pub PromisesSession : List ℕ → commands.Named → Status → Over Bytes → Over Bytes → Type 0
PromisesSession weights commands.Session s source sink = Plays weights s source sink
PromisesSession weights (commands.Big size) s source sink = WithoutInput source (PlaysBig weights size s sink)
PromisesSession weights _ s source sink = Declines s source sink

-- the words name a session, which is played with these weights, or nothing is read or written
abbrev pub KeepsSession : List ℕ → Result commands.Named commands.Misfit → Status → Over Bytes → Over Bytes → Type 0
KeepsSession weights (Ok command) s source sink = PromisesSession weights command s source sink
KeepsSession weights (Err misfit) s source sink = Declines s source sink

-- ---- what is promised of all words

abbrev pub PlaysOrKeeps : List ℕ → List PathNames → Bool → Result commands.Named commands.Misfit → Status → Over Bytes → Over Bytes → Over FolderTree → Over FolderTree → Option Bytes → (List Notice → Type 0) → Type 0
PlaysOrKeeps weights prefixes true words s source sink folders store refused told = KeepsSession weights words s source sink
PlaysOrKeeps weights prefixes false words s source sink folders store refused told = Keeps weights prefixes words s source sink folders store refused told

-- the words name a session, or what they name runs without threads
abbrev pub KeepsAll : List ℕ → List PathNames → Result commands.Named commands.Misfit → Status → Over Bytes → Over Bytes → Over FolderTree → Over FolderTree → Option Bytes → (List Notice → Type 0) → Type 0
KeepsAll weights prefixes words s source sink folders store refused told = PlaysOrKeeps weights prefixes (names_session words) words s source sink folders store refused told
