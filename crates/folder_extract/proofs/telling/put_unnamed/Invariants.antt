use Rattle.std.proofs.Common.{◌≡◌, take}
use Rattle.std.specs.List.{list_all}
use Rattle.path_tree.specs.Texts.{is_name}
use Rattle.shell_streams.specs.Sending.{HasPut}
use Rattle.folder_extract.specs.Telling.{unnamed_lines}
use Rattle.folder_extract.proofs.telling.put_unnamed.Given as goal

abbrev pub invariant-loop-i : goal.invariant-loop-i
invariant-loop-i g l = record {
  all : l.all ≡ list_all is_name (take l.i l.names);
  told : HasPut (g.O.Output.state l.fn.out) (g.O.Output.state l.out) (unnamed_lines l.path (take l.i l.names));
}
