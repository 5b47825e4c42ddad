use Rattle.std.proofs.Common.{◌≡◌, ◌<◌, ◌-◌, length, drop}
use Rattle.std.specs.List.{slice_split}
use Rattle.path_tree.specs.Texts.{is_slash, names_of, names_after}
use Rattle.path_tree.specs.Inner.Steps.{verdict_of}
use Rattle.path_tree.proofs.text.check_names.Given as goal

abbrev pub invariant-loop : goal.invariant-loop
invariant-loop l = record {
  within : length l.rest < length l.text;
  so_far : verdict_of (names_after (drop 1 l.text)) ≡ verdict_of (names_of (length l.text - length l.rest) l.counter (slice_split is_slash l.rest));
}
