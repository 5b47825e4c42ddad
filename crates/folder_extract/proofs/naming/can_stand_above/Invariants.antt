use Rattle.std.proofs.Common.{◌≡◌, true, take}
use Rattle.std.specs.List.{list_all}
use Rattle.folder_extract.specs.Naming.{is_file_name}
use Rattle.folder_extract.proofs.naming.can_stand_above.Given as goal

abbrev pub invariant-loop-i : goal.invariant-loop-i
invariant-loop-i l = list_all is_file_name (take l.i l.path) ≡ true
