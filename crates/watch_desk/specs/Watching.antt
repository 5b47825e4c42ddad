-- What a desk holds, and the shots that it stands for (this project's own rules).
use Rattle.std.specs.Prelude.{◌≡◌, List, [], map, Option, Some, None}
use Rattle.std.specs.List.{last_or}
use Rattle.path_tree.specs.Paths.{PathNames}
use Rattle.path_resolver.specs.Resolving.{Held, answer_of}
use Rattle.path_resolver.specs.declared.answer.Answer.{Answer}
use Rattle.path_resolver.specs.declared.answer.Answer.TheVariants as answers
use Rattle.watch_desk.specs.declared.notice.Notice.{Notice}
use Rattle.watch_desk.specs.Notices.{notices}

-- the watched paths, and the answers to them on the last shot, none before the first one
pub record WatchedState : Type 0 where
  pub paths : List PathNames
  pub last : List Answer

-- with the prefix of each watcher
pub record DeskState : Type 0 where
  pub prefixes : List PathNames
  pub paths : List PathNames
  pub last : List Answer

-- the answer to a path on a shot, by what the shot holds; before the first one each path has no carousel
abbrev pub answer_on : Option Held → PathNames → Answer
answer_on None path = answers.NoCarousel
answer_on (Some held) path = answer_of held path

abbrev pub last_shot : List Held → Option Held
last_shot shots = last_or None shots

abbrev pub answers_kept : Option Held → List PathNames → List Answer
answers_kept None paths = []
answers_kept (Some held) paths = map (answer_of held) paths

-- the notices of a shot that is shown after these
abbrev pub notices_of : DeskState → (shots : List Held) (shot : Held) → List Notice
notices_of d shots shot = notices d.prefixes d.paths (answer_on (last_shot shots)) (answer_of shot)

-- what is kept are the answers on the last of these shots
pub record StandsFor (d : DeskState) (shots : List Held) : Type 0 where
  pub kept : d.last ≡ answers_kept (last_shot shots) d.paths
