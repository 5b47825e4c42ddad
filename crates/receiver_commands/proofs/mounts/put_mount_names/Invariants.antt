use Rattle.std.proofs.Common.{take}
use Rattle.std.specs.List.{flat_map}
use Rattle.mount_table.specs.Stands.{mounts_of}
use Rattle.mount_table.specs.declared.mount.Mount.{Mount}
use Rattle.shell_streams.specs.Sending.{HasPut}
use Rattle.shell_words.specs.Texts.{name_line}
use Rattle.receiver_commands.proofs.mounts.put_mount_names.Given as goal

abbrev pub invariant-loop-i : goal.invariant-loop-i
invariant-loop-i g l = HasPut (g.O.Output.state l.fn.out) (g.O.Output.state l.out) (flat_map (λ (m : Mount). name_line m.name) (take l.i (mounts_of l.mounts)))
