use Rattle.std.proofs.Common.{◌≡◌, true, ◌≤◌, ◌+◌, ◌-◌, ◌*◌, Some, length, take}
use Rattle.std.specs.List.{flat_map}
use Rattle.std.specs.String.{string_bytes}
use Rattle.path_tree.specs.Paths.{Bytes}
use Rattle.folder_store.specs.Folders.{FolderTree, entries_below, is_folder_at}
use Rattle.folder_store.specs.Walk.{sort_entries, text_below}
use Rattle.folder_store.specs.Surveys.{first_large}
use Rattle.folder_store.specs.Inner.Gathering.{met_one}
use Rattle.folder_store.specs.Inner.Sighting.{look_in}
use Rattle.folder_store.proofs.Marking.{Told}
use Rattle.folder_store.proofs.Walking.{Goes}
use Rattle.folder_store.proofs.reading.+walk.Given as goal

abbrev pub decreases-walk_entry : goal.decreases-walk_entry
decreases-walk_entry g l = 3 * (16 - length l.place.now.path)

abbrev pub decreases-walk_folder : goal.decreases-walk_folder
decreases-walk_folder g l = 3 * (16 - length l.place.now.path) + 1

abbrev pub decreases-walk_below : goal.decreases-walk_below
decreases-walk_below g l = 3 * (16 - length l.place.path) + 2

abbrev pub invariant-walk_folder-loop-entry : goal.invariant-walk_folder-loop-entry
invariant-walk_folder-loop-entry g l = record {
  walk : (t : FolderTree) → g.F.Folders.tree l.fn.folders ≡ Some t
      → Goes (flat_map (met_one t (16 - length l.place.path) l.place.path (string_bytes l.place.text)) (take l.entry-index (sort_entries (entries_below t (string_bytes l.place.text)))))
      l.fn.gathered.edits.items l.fn.gathered.read l.gathered.edits.items l.gathered.read;
  tells : (t : FolderTree) → g.F.Folders.tree l.fn.folders ≡ Some t
      → Told t (16 - length l.place.path) l.place.path (string_bytes l.place.text) l.entry-index (look_in l.fn.sights) l.fn.gathered.read (look_in l.sights) l.gathered.read;
  large : (root : Bytes) → string_bytes l.place.text ≡ text_below root l.place.path → (look_in l.fn.sights).large ≡ first_large root l.fn.gathered.edits.items
      → (look_in l.sights).large ≡ first_large root l.gathered.edits.items;
  owed : (t : FolderTree) → g.F.Folders.tree l.fn.folders ≡ Some t → is_folder_at t (string_bytes l.place.text) ≡ true → g.F.Folders.strayed l.folders ≡ g.F.Folders.strayed l.fn.folders;
  same : g.F.Folders.tree l.folders ≡ g.F.Folders.tree l.fn.folders;
  later : g.F.Folders.faults l.fn.folders ≤ g.F.Folders.faults l.folders;
}
