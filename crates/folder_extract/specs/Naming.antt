-- Which names of a carousel can be those of files. It is this project's own rule.
use Rattle.std.specs.Prelude.{◌-◌, Bool, not, ◌&&◌, ◌||◌, length, take, codes}
use Rattle.std.specs.List.{list_all}
use Rattle.std.specs.Str.{is_utf8}
use Rattle.path_tree.specs.Paths.{Bytes, PathNames, same_name}
use Rattle.path_tree.specs.Texts.{is_name}

-- it names the folder itself or the one above, or a file that is being written
abbrev pub is_taken : Bytes → Bool
is_taken name = same_name name (codes ".") || same_name name (codes "..") || same_name name (codes ".carousel-part")

-- UTF-8, a name of a path, and none of those
abbrev pub is_file_name : Bytes → Bool
is_file_name name = is_utf8 name && is_name name && not (is_taken name)

abbrev pub can_stand : PathNames → Bool
can_stand p = list_all is_file_name p

-- the names above a path's last one
abbrev pub names_above : PathNames → PathNames
names_above p = take (length p - 1) p
