-- The size by which a tree passes its first limit, where that is a folder's.
use Rattle.std.specs.Prelude.{ℕ, length, nat_lt, Option, None, if◌then◌else◌}
use Rattle.std.specs.List.{find}
use Rattle.std.specs.Option.{option_map}
use Rattle.path_tree.specs.Trees.{Tree}
use Rattle.generation.specs.Publication.{is_large_folder, size_of, spots_of}
use Rattle.generation.specs.declared.limit.TheConstants.{MOST_OBJECTS}

-- how many bytes the object of the first folder has that is too large, unless there are too many objects
abbrev pub large_size : Tree → Option ℕ
large_size t =
    if nat_lt MOST_OBJECTS (length (spots_of t)) then None
    else option_map (size_of (spots_of t)) (find (is_large_folder (spots_of t)) (spots_of t))
