-- Lists of requests to a new catalogue, commits of puts and removals, and draws: the history that they made before a folder could be
-- kept, and the one that they make today.
use Rattle.std.specs.Prelude.{ℕ, List, [], map, nat_le, if◌then◌else◌}
use Rattle.std.specs.List.{All, fold}
use Rattle.path_tree.specs.Edits.{IsEdit}
use Rattle.path_tree.specs.Files.{FileEdit, as_edit}
use Rattle.generation_catalogue.specs.History.{CatalogueState, draws_of}
use Rattle.generation_catalogue.specs.History as today
use Rattle.generation_catalogue.specs.declared.journal.TheConstants.{MOST_DRAWS}
use Rattle.files_alone.specs.Histories.{FileCatalogue, with_commit, with_draw}

pub data FileRequest : Type 0 where
  Commit : (editor : ℕ) → List FileEdit → FileRequest
  Draw : (asked : ℕ) → FileRequest

-- what the types of its parts say of a request
abbrev pub IsRequest : FileRequest → Type 0
IsRequest (Commit editor edits) = All IsEdit (map as_edit edits)
IsRequest (Draw asked) = Unit {0}

-- ---- before a folder could be kept

abbrev pub after_request : FileCatalogue → FileRequest → FileCatalogue
after_request c (Commit editor edits) = with_commit c editor edits
after_request c (Draw asked) = with_draw c asked

abbrev pub history_of : ℕ → List ℕ → List FileRequest → FileCatalogue
history_of carousel weights requests =
    fold after_request (record { carousel = carousel; weights = weights; entries = [] }) requests

-- ---- today

abbrev pub today_after : CatalogueState → FileRequest → CatalogueState
today_after c (Commit editor edits) = today.with_commit c editor (map as_edit edits)
today_after c (Draw asked) = if nat_le MOST_DRAWS (draws_of c) then c else today.with_draw c asked

abbrev pub today_of : ℕ → List ℕ → List FileRequest → CatalogueState
today_of carousel weights requests =
    fold today_after (record { carousel = carousel; weights = weights; entries = [] }) requests
