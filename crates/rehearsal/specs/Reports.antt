-- The report of what happened in a world: a line for each event, with its reply; and what running a script promises. These texts are
-- this project's own.
use Rattle.std.specs.Prelude.{◌≡◌, ℕ, List, [], ◌∷◌, ◌++◌, Result, OnOk}
use Rattle.path_tree.specs.Paths.{Bytes}
use Rattle.path_tree.specs.Texts.{text_of}
use Rattle.shell_words.specs.Reports.{commit_words, draw_words, open_words, committed_words, refused_words}
use Rattle.shell_words.specs.Reports.{drawn_words, draws_full_words, opened_words, answer_tail}
use Rattle.carousel_world.specs.Events.{Step, Commit, Draw, Open}
use Rattle.carousel_world.specs.World.{WorldState, initial_world, replies_to}
use Rattle.carousel_world.specs.declared.event.Reply.{Reply}
use Rattle.carousel_world.specs.declared.event.Reply.TheVariants as replies
use Rattle.carousel_world.specs.Promises.{MeetsHeadline}
use Rattle.session_script.specs.Scripts.{Fields}
use Rattle.shell_streams.specs.Sending.{OutputState, Puts, IsFlushed}
use Rattle.shell_streams.specs.declared.output.OutputFault.{OutputFault}
use Rattle.rehearsal.specs.Lines.{events_of}

-- what a line begins with
abbrev pub subject_words : Step → Bytes
subject_words (Commit editor edits) = commit_words editor
subject_words (Draw asked fates) = draw_words
subject_words (Open reader path) = open_words reader

-- the path of an open, as text
abbrev pub path_words : Step → Bytes
path_words (Open reader path) = text_of path
path_words _ = []

abbrev pub reply_words : Bytes → Reply → Bytes
reply_words path (replies.Committed number) = committed_words number
reply_words path (replies.Refused refusal) = refused_words refusal
reply_words path (replies.Drawn generation first count) = drawn_words generation first count
reply_words path (replies.DrawsFull draws) = draws_full_words draws
reply_words path (replies.Opened label answer) = opened_words label path answer

abbrev pub reply_tail : Reply → Bytes
reply_tail (replies.Opened label answer) = answer_tail answer
reply_tail _ = []

-- the line that begins so, of an event with this path
abbrev pub line_of : Bytes → Bytes → Reply → Bytes
line_of subject path reply = subject ++ 32 ∷ reply_words path reply ++ reply_tail reply ++ 10 ∷ []

-- the line of an event
abbrev pub report_line : Step → Reply → Bytes
report_line event reply = line_of (subject_words event) (path_words event) reply

abbrev pub report : List Step → List Reply → Bytes
report [] rs = []
report (e ∷ es) [] = []
report (e ∷ es) (r ∷ rs) = report_line e r ++ report es rs

-- the report of events that happen in a world
abbrev pub report_in : WorldState → List Step → Bytes
report_in w events = report events (replies_to w events)

-- the report of events of which the first is the first of all in a world of carousel 1 with these weights
abbrev pub report_of : List ℕ → List Step → Bytes
report_of weights events = report_in (initial_world 1 weights) events

-- What running a script promises: its events happened in a world of carousel 1 with these weights, in written order, and their report was
-- put: all of them, and nothing is pending then; or, on a fault, those before it, of whose report a prefix was written. What is promised
-- of every list of events holds of those that happened.
pub record Rehearses {T : Type 0} (outcome : Result T OutputFault) (old new : OutputState) (weights : List ℕ) (script : Fields) : Type 0 where
  pub happened : List Step
  pub rest : List Step
  pub events : events_of script ≡ happened ++ rest
  pub all : OnOk outcome (rest ≡ [])
  pub puts : Puts outcome old new (report_of weights happened)
  pub empty : OnOk outcome (IsFlushed new)
  pub headline : MeetsHeadline 1 weights happened
