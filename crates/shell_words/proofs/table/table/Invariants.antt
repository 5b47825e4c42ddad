use Rattle.std.proofs.Common.{◌≡◌, length, map, drop}
use Rattle.std.specs.List.{slice_split}
use Rattle.shell_words.specs.Values.{is_comma, entry_in, each_in, table_in, IsTable}
use Rattle.shell_words.proofs.Naming.{prepended}
use Rattle.shell_words.proofs.table.table.Given as goal

abbrev pub invariant-loop-text : goal.invariant-loop-text
invariant-loop-text l = record {
  so_far : table_in l.word ≡ prepended l.table.items (each_in entry_in (map (λ x. x) (drop (length l.yielded) (slice_split is_comma l.word))));
  ranges : IsTable l.table.items;
}
