-- What `big` promises: a generated script's session is played, and one line of counts of it is written. The script and the line are this
-- project's own.
use Rattle.std.specs.Prelude.{◌⊎◌, ℕ, Bool, List, [], ◌∷◌, ◌++◌, drop, length, Option, Some, None, codes}
use Rattle.std.specs.List.{filter, filter_map, sum}
use Rattle.std.specs.Fmt.{decimal}
use Rattle.path_resolver.specs.declared.answer.Answer.{Answer}
use Rattle.path_resolver.specs.declared.answer.Answer.TheVariants as answers
use Rattle.carousel_world.specs.Events.{Step}
use Rattle.carousel_world.specs.declared.event.Reply.{Reply}
use Rattle.carousel_world.specs.declared.event.Reply.TheVariants as replies
use Rattle.history_merge.specs.Merged.{is_open_by}
use Rattle.session.specs.Sessions.{IsSession, accepted_in}
use Rattle.session_script.specs.Generated.{generated_script}
use Rattle.shell_streams.specs.Cuts.{Bytes}
use Rattle.receiver_commands.specs.Over.{Over, IsUntouched, WritesAll, WritesPrefix, EndsWriting}
use Rattle.receiver_commands.specs.declared.status.Status.{Status}
use Rattle.receiver_commands.specs.declared.status.Status.TheVariants as status

-- ---- the counts

abbrev pub is_first : Step × Reply → Bool
is_first x = is_open_by 1 x.0

-- reader 1 makes 64 opens before the end, so its others are the finales
abbrev pub finales_in : List (Step × Reply) → List (Step × Reply)
finales_in told = drop 64 (filter is_first told)

-- how many bytes the answer's file has, where it is one
abbrev pub answer_length : Answer → Option ℕ
answer_length (answers.File content) = Some (length content)
answer_length _ = None

abbrev pub reply_length : Reply → Option ℕ
reply_length (replies.Opened label answer) = answer_length answer
reply_length _ = None

abbrev pub length_in : Step × Reply → Option ℕ
length_in x = reply_length x.1

-- the lengths of the files that the finales answer
abbrev pub finale_lengths : List (Step × Reply) → List ℕ
finale_lengths told = filter_map length_in (finales_in told)

-- the line of these counts
abbrev pub counts_line : (size commits files bytes : ℕ) → Bytes
counts_line size commits files bytes =
    codes "big " ++ decimal size ++ codes " editors " ++ decimal size ++ codes " commits " ++ decimal commits
    ++ codes " files " ++ decimal files ++ codes " bytes " ++ decimal bytes ++ 10 ∷ []

-- how many commits were accepted; how many finales answered a file; and how many bytes these have together
abbrev pub big_line : ℕ → List (Step × Reply) → Bytes
big_line size told = counts_line size (accepted_in told) (length (finale_lengths told)) (sum (finale_lengths told))

-- ---- how it ends

-- all of the session happened with these weights, and the whole line was written
pub record Counted (weights : List ℕ) (size : ℕ) (sink : Over Bytes) : Type 0 where
  pub told : List (Step × Reply)
  pub session : IsSession weights (generated_script size) told
  pub writes : WritesAll sink (big_line size told)

-- it did, and a prefix of the line was written
pub record Counting (weights : List ℕ) (size : ℕ) (sink : Over Bytes) : Type 0 where
  pub told : List (Step × Reply)
  pub session : IsSession weights (generated_script size) told
  pub writes : WritesPrefix sink (big_line size told)

abbrev pub CountsAll : List ℕ → ℕ → Over Bytes → Status → Type 0
CountsAll weights size sink status.Done = Counted weights size sink
CountsAll weights size sink _ = ⊥

abbrev pub PlaysBig : List ℕ → ℕ → Status → Over Bytes → Type 0
PlaysBig weights size s sink = EndsWriting (CountsAll weights size sink)
    (Counting weights size sink) (IsUntouched sink ⊎ Counting weights size sink) sink s
