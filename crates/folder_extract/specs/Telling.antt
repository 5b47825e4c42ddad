-- What is told of a carousel's paths once they were written or passed over. It is this project's own text.
use Rattle.std.specs.Prelude.{ℕ, Bool, true, false, not, ◌&&◌, List, [], ◌∷◌, ◌++◌, length, take, nat_le, codes, if◌then◌else◌}
use Rattle.std.specs.Fmt.{decimal}
use Rattle.std.specs.List.{filter, flat_map, list_all}
use Rattle.path_tree.specs.Paths.{Bytes, PathNames}
use Rattle.path_tree.specs.Texts.{is_name, text_of}
use Rattle.path_resolver.specs.declared.answer.Answer.{Answer}
use Rattle.path_resolver.specs.declared.answer.Answer.TheVariants as answers
use Rattle.path_listing.specs.Walk.{all_paths}
use Rattle.path_listing.specs.declared.walking.TheConstants.{MOST_LISTED}
use Rattle.shell_words.specs.Texts.{line, answered_line}
use Rattle.folder_extract.specs.Naming.{can_stand, names_above}

-- the paths of a listing
abbrev pub listed : (PathNames → Answer) → List PathNames
listed answer = take MOST_LISTED (all_paths answer)

-- ---- one path

-- what was written, its path, and its length or its number of names
abbrev pub entry_line : Bytes → PathNames → ℕ → Bytes
entry_line kind p n = line (kind ++ 32 ∷ text_of p ++ 32 ∷ decimal n)

abbrev pub passed_line : PathNames → Bytes
passed_line p = line (codes "passed " ++ text_of p)

-- the names of a folder that no path can have
abbrev pub unnamed_in : List Bytes → List Bytes
unnamed_in names = filter (λ n. not (is_name n)) names

abbrev pub unnamed_lines : PathNames → List Bytes → Bytes
unnamed_lines p names = flat_map (λ n. passed_line (p ++ n ∷ [])) (unnamed_in names)

-- of a path whose names can be those of files
abbrev pub told_of : PathNames → Answer → Bytes
told_of p (answers.File content) = entry_line (codes "file") p (length content)
told_of p (answers.Folder names) = entry_line (codes "folder") p (length names) ++ unnamed_lines p names
told_of p answer = answered_line p answer

-- of any other: nothing, where it is below one that was passed over
abbrev pub passed_of : PathNames → Bytes
passed_of p = if can_stand (names_above p) then passed_line p else []

abbrev pub line_for : (PathNames → Answer) → PathNames → Bytes
line_for answer p = if can_stand p then told_of p (answer p) else passed_of p

-- ---- all of them

abbrev pub lines_for : (PathNames → Answer) → List PathNames → Bytes
lines_for answer paths = flat_map (line_for answer) paths

-- the last line, where there are other paths
abbrev pub more_unless : Bool → Bytes
more_unless whole = if whole then [] else line (codes "more")

abbrev pub are_all_listed : (PathNames → Answer) → Bool
are_all_listed answer = nat_le (length (all_paths answer)) MOST_LISTED

abbrev pub extract_text : (PathNames → Answer) → Bytes
extract_text answer = lines_for answer (listed answer) ++ more_unless (are_all_listed answer)

-- ---- whether all was written

-- it is a file, or a folder of names that paths can have
abbrev pub is_whole_answer : Answer → Bool
is_whole_answer (answers.File content) = true
is_whole_answer (answers.Folder names) = list_all is_name names
is_whole_answer _ = false

abbrev pub is_whole : (PathNames → Answer) → PathNames → Bool
is_whole answer p = can_stand p && is_whole_answer (answer p)

abbrev pub all_extracted : (PathNames → Answer) → Bool
all_extracted answer = are_all_listed answer && list_all (is_whole answer) (listed answer)
