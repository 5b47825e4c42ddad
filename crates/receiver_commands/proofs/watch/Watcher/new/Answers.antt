use Rattle.std.proofs.Common.{refl, ◌∙◌, arith}
use Rattle.std.proofs.lemmas.List.{length-take}
use Rattle.path_tree.specs.Paths.{same_path}
use Rattle.receiver_commands.proofs.Firsts.{firsts_few}
use Rattle.receiver_commands.proofs.Showing.{paths_differ, stands_new, prefixes_first}
use Rattle.receiver_commands.proofs.watch.Watcher.new.Goals as goal

pub new-desk-requires-clause-watched : goal.new-desk-requires-clause-watched
new-desk-requires-clause-watched g c = rw c.in_ok-watched.ensures (omega (arith, c.requires, firsts_few same_path c.args.paths.now))

pub new-desk-requires-clause-differ : goal.new-desk-requires-clause-differ
new-desk-requires-clause-differ g c = rw c.in_ok-watched.ensures (paths_differ c.args.paths.now)

pub new-desk-requires-clause-filters : goal.new-desk-requires-clause-filters
new-desk-requires-clause-filters g c = rw c.truncate.ensures.items (omega (arith, length-take 64 c.args.filters.items))

pub returns : goal.returns
returns g c = stands_new c.shots_are_needed_at_changes.ensures c.new-tuner.ensures.stands c.new-desk.ensures.stands refl (c.new-desk.ensures.paths ∙ c.in_ok-watched.ensures) (c.new-desk.ensures.prefixes ∙ prefixes_first c.truncate.new.self.items c.args.filters.items c.truncate.ensures.items)
