use Rattle.std.proofs.Common.{take, ◌≡◌}
use Rattle.std.specs.List.{flat_map}
use Rattle.std.specs.String.{string_bytes}
use Rattle.path_tree.specs.Texts.{printed_byte}
use Rattle.path_tree.proofs.text.print_name.Given as goal

abbrev pub invariant-loop-byte : goal.invariant-loop-byte
invariant-loop-byte l = string_bytes l.text ≡ flat_map printed_byte (take l.byte-index l.name)
