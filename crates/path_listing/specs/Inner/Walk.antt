-- A part of the walk over the paths of a carousel's tree.
use Rattle.std.specs.Prelude.{◌≡◌, ℕ, ◌+◌, Bool, List, [], ◌∷◌, ◌++◌, length, take, Option, Some, None, nat_le, if◌then◌else◌}
use Rattle.std.specs.List.{flat_map, filter}
use Rattle.path_tree.specs.Paths.{Bytes, PathNames, same_name}
use Rattle.path_tree.specs.Texts.{is_name}
use Rattle.path_resolver.specs.declared.answer.Answer.{Answer}
use Rattle.path_resolver.specs.declared.answer.Answer.TheVariants as answers
use Rattle.path_listing.specs.Firsts.{first_only}
use Rattle.path_listing.specs.declared.walking.TheConstants.{MOST_LISTED}
use Rattle.path_listing.specs.Walk.{walk}

abbrev pub folder_in : Answer → Option (List Bytes)
folder_in (answers.Folder ns) = Some ns
folder_in _ = None

-- the paths below a path, by the names of its folder, with at most this many names more than the path's one
abbrev pub paths_below : (PathNames → Answer) → ℕ → PathNames → List Bytes → List PathNames
paths_below answer room p ns = flat_map (λ n. walk answer room (p ++ n ∷ [])) (filter is_name (first_only same_name ns))

-- the paths below a path by one name
abbrev pub paths_by : (PathNames → Answer) → ℕ → PathNames → Bytes → List PathNames
paths_by answer room p n = if is_name n then walk answer room (p ++ n ∷ []) else []

-- These paths were added to those before, as far as there was room, and whether there was room for all.
pub record Lists (paths before after : List PathNames) (whole : Bool) : Type 0 where
  pub after_is : after ≡ take MOST_LISTED (before ++ paths)
  pub whole_is : whole ≡ nat_le (length before + length paths) MOST_LISTED
