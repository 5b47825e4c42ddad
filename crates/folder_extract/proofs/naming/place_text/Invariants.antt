use Rattle.std.proofs.Common.{◌≡◌, true, take}
use Rattle.std.specs.List.{list_all}
use Rattle.std.specs.String.{string_bytes}
use Rattle.folder_store.specs.Walk.{text_below}
use Rattle.folder_extract.specs.Naming.{is_file_name}
use Rattle.folder_extract.proofs.naming.place_text.Given as goal

abbrev pub invariant-loop-i : goal.invariant-loop-i
invariant-loop-i l = record {
  text : string_bytes l.text ≡ text_below l.folder (take l.i l.path);
  can : list_all is_file_name (take l.i l.path) ≡ true;
}
