use Rattle.std.proofs.Common.{take}
use Rattle.std.specs.List.{flat_map}
use Rattle.shell_streams.specs.Sending.{HasPut}
use Rattle.shell_words.specs.Reports.{spaced_name}
use Rattle.shell_words.proofs.report.put_names.Given as goal

abbrev pub invariant-loop-i : goal.invariant-loop-i
invariant-loop-i g l = HasPut (g.O.Output.state l.fn.out) (g.O.Output.state l.out) (flat_map spaced_name (take l.i l.folder))
