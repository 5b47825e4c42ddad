use Rattle.std.proofs.Common.{◌≡◌, map, take}
use Rattle.folder_store.specs.Memory.{entries_in}
use Rattle.broadcaster_rows.proofs.folders.folders_of.Given as goal

abbrev pub invariant-loop-text : goal.invariant-loop-text
invariant-loop-text l = entries_in l.entries.items ≡ map (λ e. (e.0.now, e.1.now)) (take l.text-index l.files)
