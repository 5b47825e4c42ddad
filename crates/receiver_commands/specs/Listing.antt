-- What `list` writes: the paths of a carousel's tree from the root on, each with its answer. It is this project's own rule.
use Rattle.std.specs.Prelude.{Bool, ◌&&◌, [], ◌++◌, length, take, nat_le, codes, if◌then◌else◌}
use Rattle.std.specs.List.{flat_map, list_all}
use Rattle.path_tree.specs.Paths.{PathNames}
use Rattle.path_resolver.specs.declared.answer.Answer.{Answer}
use Rattle.path_listing.specs.Walk.{all_paths}
use Rattle.path_listing.specs.declared.walking.TheConstants.{MOST_LISTED}
use Rattle.shell_streams.specs.Cuts.{Bytes}
use Rattle.shell_words.specs.Texts.{line, is_found, answered_line}

abbrev pub list_line : (PathNames → Answer) → PathNames → Bytes
list_line answer p = answered_line p (answer p)

-- the last line, where there is another path than those whose lines are written
abbrev pub more_unless : Bool → Bytes
more_unless whole = if whole then [] else line (codes "more")

-- there are no more paths than may be written
abbrev pub is_short : (PathNames → Answer) → Bool
is_short answer = nat_le (length (all_paths answer)) MOST_LISTED

-- what `list` writes
abbrev pub list_text : (PathNames → Answer) → Bytes
list_text answer = flat_map (list_line answer) (take MOST_LISTED (all_paths answer)) ++ more_unless (is_short answer)

-- every path's line was written, and each answer is a file or a folder
abbrev pub all_listed : (PathNames → Answer) → Bool
all_listed answer = is_short answer && list_all (λ p. is_found (answer p)) (all_paths answer)
