use Rattle.std.proofs.Common.{◌≡◌, List, [], ◌++◌, map, take}
use Rattle.path_tree.specs.Paths.{PathNames}
use Rattle.section_stream.specs.Kept.{view_bytes}
use Rattle.shell_streams.specs.Cuts.{Bytes}
use Rattle.shell_streams.specs.Sending.{HasPut}
use Rattle.receiver_commands.specs.Inner.Watching.{StandsFor, lines_behind}
use Rattle.receiver_commands.proofs.watch.Watcher.hear_all.Given as goal

abbrev pub invariant-loop-candidate : goal.invariant-loop-candidate
invariant-loop-candidate g l = record {
  puts : (paths prefixes : List PathNames) (before : List Bytes) → StandsFor l.fn.self paths prefixes before
      → HasPut (g.O.Output.state l.fn.out) (g.O.Output.state l.out) (lines_behind paths prefixes before (map view_bytes (take l.candidate-index l.candidates)));
  stands : (paths prefixes : List PathNames) (before : List Bytes) → StandsFor l.fn.self paths prefixes before
      → StandsFor l.self paths prefixes (before ++ map view_bytes (take l.candidate-index l.candidates));
  empty : (g.O.Output.state l.out).pending ≡ [];
}
