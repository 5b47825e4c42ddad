use Rattle.std.proofs.Common.{◌≡◌, ◌<◌, ◌-◌, length, drop}
use Rattle.std.specs.List.{All, slice_split}
use Rattle.path_tree.specs.Paths.{IsName}
use Rattle.path_tree.specs.Texts.{is_slash, names_of, names_after}
use Rattle.path_tree.proofs.Read.{after}
use Rattle.path_tree.proofs.text.read_names.Given as goal

abbrev pub invariant-loop : goal.invariant-loop
invariant-loop l = record {
  within : length l.rest < length l.text;
  count : length l.names.items ≡ l.counter;
  so_far : names_after (drop 1 l.text) ≡ after l.names.items (names_of (length l.text - length l.rest) l.counter (slice_split is_slash l.rest));
  valid : All IsName l.names.items;
}
