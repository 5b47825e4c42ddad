use Rattle.std.proofs.Common.{◌≡◌, drop}
use Rattle.std.specs.List.{dedup}
use Rattle.path_tree.specs.Paths.{same_name}
use Rattle.path_tree.proofs.Listing.{joined, names_in}
use Rattle.path_tree.proofs.entries.next_names.Given as goal

abbrev pub invariant-loop-entry : goal.invariant-loop-entry
invariant-loop-entry l = dedup same_name (names_in l.path l.entries) ≡ joined l.names.items (names_in l.path (drop l.entry-index l.entries))
