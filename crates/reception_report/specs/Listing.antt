-- The lines of the paths that `list` goes through, from the root on, each with its module.
use Rattle.std.specs.Prelude.{Bool, length, take, nat_le, ◌++◌, [], if◌then◌else◌, codes}
use Rattle.std.specs.List.{flat_map}
use Rattle.path_tree.specs.Paths.{Bytes}
use Rattle.path_resolver.specs.Resolving.{Held, answer_of}
use Rattle.shell_words.specs.Texts.{line}
use Rattle.path_listing.specs.Walk.{all_paths}
use Rattle.path_listing.specs.declared.walking.TheConstants.{MOST_LISTED}
use Rattle.reception_report.specs.Telling.{path_line}

-- the last line, where there are other paths
abbrev pub more_unless : Bool → Bytes
more_unless whole = if whole then [] else line (codes "more")

-- at most as many lines as `list` writes, and then `more` where another would follow
abbrev pub listed_text : Held → Bytes
listed_text held =
    flat_map (path_line held) (take MOST_LISTED (all_paths (answer_of held))) ++ more_unless (nat_le (length (all_paths (answer_of held))) MOST_LISTED)
