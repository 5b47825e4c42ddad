-- Where a path stands in a folder of the outside.
use Rattle.std.specs.Prelude.{Option, Some, None, if◌then◌else◌}
use Rattle.path_tree.specs.Paths.{Bytes, PathNames}
use Rattle.folder_store.specs.Walk.{text_below}
use Rattle.folder_extract.specs.Naming.{can_stand}

-- the path text of the outside, where each name can be that of a file
abbrev pub place_text : Bytes → PathNames → Option Bytes
place_text folder p = if can_stand p then Some (text_below folder p) else None
