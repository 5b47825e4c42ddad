-- What `open sections PATH..`, `open PID PATH..` and `list PID` promise: the sections of the input
-- are heard by one receiver, and the answers that it then gives are written.
use Rattle.std.specs.Prelude.{List}
use Rattle.std.specs.List.{list_all}
use Rattle.path_tree.specs.Paths.{PathNames}
use Rattle.path_resolver.specs.declared.answer.Answer.{Answer}
use Rattle.tuner_core.specs.LookBack.{answer_after}
use Rattle.shell_streams.specs.Cuts.{Bytes}
use Rattle.shell_streams.specs.Carriers.{sections_by}
use Rattle.shell_streams.specs.declared.carrier.Carrier.{Carrier}
use Rattle.receiver_commands.specs.Over.{Over}
use Rattle.shell_words.specs.Texts.{open_text, is_found}
use Rattle.receiver_commands.specs.Listing.{list_text, all_listed}
use Rattle.receiver_commands.specs.Replies.{Reply, Replies}
use Rattle.receiver_commands.specs.declared.status.Status.{Status}

-- ---- what is asked

-- the answer to each path
abbrev pub AllAnswers : Type 0
AllAnswers = PathNames → Answer

-- `open`: the answers to these paths, and whether each is a file or a folder
abbrev pub asks_paths : List PathNames → Reply AllAnswers
asks_paths paths = record { text = λ answer. open_text answer paths; all = λ answer. list_all (λ p. is_found (answer p)) paths }

-- `list`: all paths from the root on
abbrev pub asks_all : Reply AllAnswers
asks_all = record { text = list_text; all = all_listed }

-- what is said to it, where these are the answers after what was read
abbrev pub reply_by : (List Bytes → AllAnswers) → Reply AllAnswers → Reply (List Bytes)
reply_by answers question = record { text = λ taken. question.text (answers taken); all = λ taken. question.all (answers taken) }

-- ---- how it ends

-- a receiver that heard these sections answers
abbrev pub Answers : Carrier → Reply AllAnswers → Status → Over Bytes → Over Bytes → Type 0
Answers carrier question = Replies (sections_by carrier) (reply_by answer_after question)
