-- The paths of a carousel's tree from the root on, each before those below it. It is this project's own rule.
use Rattle.std.specs.Prelude.{ℕ, zero, suc, List, [], ◌∷◌, ◌++◌}
use Rattle.std.specs.List.{flat_map, filter}
use Rattle.path_tree.specs.Paths.{Bytes, PathNames, same_name}
use Rattle.path_tree.specs.Texts.{is_name}
use Rattle.path_resolver.specs.declared.answer.Answer.{Answer}
use Rattle.path_resolver.specs.declared.answer.Answer.TheVariants as answers
use Rattle.path_tree.specs.declared.text.TheConstants.{MOST_NAMES}
use Rattle.path_listing.specs.Firsts.{first_only}

-- the names of a folder that lead on to a path: those that are names of paths, each at its first binding
abbrev pub names_in : Answer → List Bytes
names_in (answers.Folder ns) = filter is_name (first_only same_name ns)
names_in _ = []

-- a path and then those below it, with at most this many names more
unfoldable pub walk : (PathNames → Answer) → ℕ → PathNames → List PathNames
walk answer zero p = p ∷ []
walk answer (suc room) p = p ∷ flat_map (λ n. walk answer room (p ++ n ∷ [])) (names_in (answer p))

-- all paths from the root on
abbrev pub all_paths : (PathNames → Answer) → List PathNames
all_paths answer = walk answer MOST_NAMES []
