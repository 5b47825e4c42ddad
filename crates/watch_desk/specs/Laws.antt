-- The limits, and examples.
use Rattle.std.specs.Prelude.{◌≡◌, ◌≢◌, List, [], ◌∷◌}
use Rattle.path_tree.specs.Paths.{PathNames}
use Rattle.path_resolver.specs.declared.answer.Answer.{Answer}
use Rattle.path_resolver.specs.declared.answer.Answer.TheVariants as answers
use Rattle.tuner_core.specs.Answers.{fed_after}
use Rattle.tuner_core.specs.declared.told.Fed.TheVariants.{Changed}
use Rattle.watch_desk.specs.Notices.{IsDue, notice, notices}
use Rattle.watch_desk.specs.declared.TheConstants.{MOST_FILTERS, MOST_WATCHED}

pub record LimitsAreThese : Type 0 where
  pub watched : MOST_WATCHED ≡ 1024
  pub filters : MOST_FILTERS ≡ 64

-- the paths /a and /b
abbrev pub a_and_b : List PathNames
a_and_b = ((97 ∷ []) ∷ []) ∷ ((98 ∷ []) ∷ []) ∷ []

-- a watcher of the root, and one of /b
abbrev pub root_and_b : List PathNames
root_and_b = [] ∷ ((98 ∷ []) ∷ []) ∷ []

-- each path has one and the same answer
abbrev pub all_are : Answer → PathNames → Answer
all_are answer path = answer

-- Where both answers change, the watcher of the root is told of both, and that of /b of the second. There are notices that are due,
-- and candidates that change nothing: bytes that are no section.
pub record PremisesMet : Type 0 where
  pub told : notices root_and_b a_and_b (all_are answers.NoCarousel) (all_are (answers.NotYet 1)) ≡ notice 0 0 ∷ notice 0 1 ∷ notice 1 1 ∷ []
  pub due : IsDue root_and_b a_and_b (all_are answers.NoCarousel) (all_are (answers.NotYet 1)) (notice 1 1)
  pub same : notices root_and_b a_and_b (all_are (answers.NotYet 1)) (all_are (answers.NotYet 1)) ≡ []
  pub other_number : notices root_and_b a_and_b (all_are (answers.NotYet 1)) (all_are (answers.NotYet 2)) ≡ notice 0 0 ∷ notice 0 1 ∷ notice 1 1 ∷ []
  pub nothing : fed_after [] [] ≢ Changed
