use Rattle.std.proofs.Common.{◌≡◌, map, drop}
use Rattle.std.specs.String.{string_bytes}
use Rattle.shell_words.specs.Values.{path_in, each_in}
use Rattle.shell_words.proofs.Naming.{prepended}
use Rattle.shell_words.proofs.values.paths.Given as goal

abbrev pub invariant-loop-word : goal.invariant-loop-word
invariant-loop-word l = each_in path_in (map string_bytes l.words) ≡ prepended l.paths.items (each_in path_in (map string_bytes (drop l.word-index l.words)))
