-- What `watch PID PATH..` promises: a receiver hears the sections of one PID, and a line is written of each answer that changes.
use Rattle.std.specs.Prelude.{ℕ, List, [], ◌∷◌, ◌++◌, take, slice_index_or}
use Rattle.std.specs.Fmt.{decimal}
use Rattle.std.specs.List.{flat_map}
use Rattle.oc_bytes.specs.Outcome.{cap_at_u64}
use Rattle.path_tree.specs.Paths.{PathNames, same_path}
use Rattle.path_resolver.specs.declared.answer.Answer.{Answer}
use Rattle.tuner_core.specs.LookBack.{answer_after}
use Rattle.watch_desk.specs.Telling.{Told, told_in}
use Rattle.watch_desk.specs.declared.TheConstants.{MOST_FILTERS}
use Rattle.watch_desk.specs.declared.notice.Notice.{Notice}
use Rattle.shell_words.specs.Texts.{with_number, answered_line}
use Rattle.shell_streams.specs.Cuts.{Bytes}
use Rattle.receiver_commands.specs.Over.{Over}
use Rattle.receiver_commands.specs.Firsts.{first_only}
use Rattle.receiver_commands.specs.AsRead.{WritesAsRead}
use Rattle.receiver_commands.specs.declared.status.Status.{Status}

-- ---- what is watched, and by whom

-- each path at its first place only
abbrev pub watched_paths : List PathNames → List PathNames
watched_paths paths = first_only same_path paths

-- the first watchers, of which there are at most so many
abbrev pub first_watchers : List PathNames → List PathNames
first_watchers prefixes = take MOST_FILTERS prefixes

-- ---- what is written

abbrev pub path_at : List PathNames → ℕ → PathNames
path_at paths i = slice_index_or paths i []

-- a watcher and a mark, with a space after each
abbrev pub front_of_line : (watcher mark : ℕ) → Bytes
front_of_line watcher mark = with_number (decimal watcher) mark ++ 32 ∷ []

-- the line of a notice: the watcher, the mark of the shot, and the path with its answer on that
abbrev pub notice_line : (paths : List PathNames) (mark : ℕ) → (PathNames → Answer) → Notice → Bytes
notice_line paths mark answer n = front_of_line n.watcher mark ++ answered_line (path_at paths n.path) (answer (path_at paths n.path))

-- of what is told after the first of these candidates, as many as the mark says, up to the greatest u64
abbrev pub told_line : (paths : List PathNames) (candidates : List Bytes) → Told → Bytes
told_line paths candidates t = notice_line paths (cap_at_u64 t.mark) (answer_after (take t.mark candidates)) t.notice

-- the lines of all that is told over these candidates
abbrev pub watch_text : (paths prefixes : List PathNames) (candidates : List Bytes) → Bytes
watch_text paths prefixes candidates = flat_map (told_line paths candidates) (told_in paths prefixes candidates)

-- the text for the words of the command
abbrev pub text_for : (prefixes paths : List PathNames) (candidates : List Bytes) → Bytes
text_for prefixes paths = watch_text (watched_paths paths) (first_watchers prefixes)

abbrev pub Watches : (pid : ℕ) (prefixes paths : List PathNames) → Status → Over Bytes → Over Bytes
    → Type 0
Watches pid prefixes paths = WritesAsRead pid (text_for prefixes paths)
