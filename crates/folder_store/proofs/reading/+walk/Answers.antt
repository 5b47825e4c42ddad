use Rattle.std.proofs.Common.{◌≡◌, ◌≤◌, ◌-◌, ◌++◌, [], ◌∷◌, Some, Err, false, length, sym, ap, ◌∙◌, subst, arith}
use Rattle.std.specs.String.{string_bytes}
use Rattle.std.proofs.lemmas.Bool.{le-ltb}
use Rattle.std.proofs.lemmas.Result.{err_from_is_err_and}
use Rattle.folder_store.specs.declared.reading.ReadTree.TheVariants as refusals
use Rattle.folder_store.specs.Folders.{FolderTree, IsRefused, is_folder_at, kind_of}
use Rattle.folder_store.specs.Inner.Gathering.{kind_at, met_one}
use Rattle.folder_store.proofs.Walking.{full_goes, file_walks, folder_walks, below_ends, met_goes, made_goes, place_ends, found, entry_goes, entry_ends, folder_goes, entry_fault, kind_there, file_not_other, folder_not_other, refused_is}
use Rattle.folder_store.specs.Surveys.{Look, at_in, first_large, names_to}
use Rattle.folder_store.specs.Walk.{met_below}
use Rattle.folder_store.specs.Inner.Sighting.{look_in}
use Rattle.folder_store.proofs.Marking.{entry_stops, entry_told, file_tells, folder_tells, folder_told}
use Rattle.folder_store.proofs.Refusing.{place_below, large_made}
use Rattle.folder_store.proofs.reading.+walk.Goals as goal

pub walk_entry-returns-then-is_full-clause-walk : goal.walk_entry-returns-then-is_full-clause-walk
walk_entry-returns-then-is_full-clause-walk g t c = λ tree e told there kind rest.
    full_goes (met_one tree (16 - length c.args.place.now.path) c.args.place.now.path (string_bytes c.args.place.now.text) (string_bytes c.args.entry.now.name, e))
    c.args.gathered.now.edits.items c.args.gathered.now.read (sym c.is_full.ensures ∙ c.if-is_full.true) rest

pub walk_entry-returns-in_err-file-in-File-clause-walk :
    goal.walk_entry-returns-in_err-file-in-File-clause-walk
walk_entry-returns-in_err-file-in-File-clause-walk g t c = λ tree e told there kind rest.
    let p = err_from_is_err_and c.from_residual-in_err-file-in-File.result c.from_residual-in_err-file-in-File.ensures.1 in
    rw (p.1, p.2)
    (place_ends tree c.args.place.now.path (string_bytes c.args.place.now.text) (string_bytes c.args.entry.now.name) e c.args.gathered.now.edits.items c.args.gathered.now.read c.in_err-file-in-File.field-0.0
    (file_not_other (kind_of e) (kind ∙ c.in-File.is)) (sym c.is_full.ensures ∙ c.if-is_full.false)
    (λ h. c.in_err-file-in-File.ensures.too_deep (ap Err h)) (λ h. rw c.deref-in-File.ensures at (c.in_err-file-in-File.ensures.bad_name (ap Err h))) rest)

pub walk_entry-returns-in_err-folder-in-Folder-clause-walk :
    goal.walk_entry-returns-in_err-folder-in-Folder-clause-walk
walk_entry-returns-in_err-folder-in-Folder-clause-walk g t c = λ tree e told there kind rest.
    let p = err_from_is_err_and c.from_residual-in_err-folder-in-Folder.result c.from_residual-in_err-folder-in-Folder.ensures.1 in
    rw (p.1, p.2)
    (place_ends tree c.args.place.now.path (string_bytes c.args.place.now.text) (string_bytes c.args.entry.now.name) e c.args.gathered.now.edits.items c.args.gathered.now.read c.in_err-folder-in-Folder.field-0.0
    (folder_not_other (kind_of e) (kind ∙ c.in-Folder.is)) (sym c.is_full.ensures ∙ c.if-is_full.false)
    (λ h. c.in_err-folder-in-Folder.ensures.too_deep (ap Err h)) (λ h. rw c.deref-in-Folder-2.ensures at (c.in_err-folder-in-Folder.ensures.bad_name (ap Err h))) rest)

pub walk_entry-returns-in_ok-file-in-File-clause-walk :
    goal.walk_entry-returns-in_ok-file-in-File-clause-walk
walk_entry-returns-in_ok-file-in-File-clause-walk g t c = λ tree e told there kind.
    file_walks tree c.args.place.now.path c.in_ok-file-in-File.file.path (string_bytes c.args.place.now.text) (string_bytes c.args.entry.now.name) (string_bytes c.in_ok-file-in-File.file.text) e
    c.args.gathered.now.edits.items c.read_file.new.gathered.edits.items c.args.gathered.now.read c.read_file.new.gathered.read c.read_file.result
    (kind ∙ c.in-File.is) c.in_ok-file-in-File.ensures.room (rw c.deref-in-File.ensures at c.in_ok-file-in-File.ensures.name)
    (rw c.deref-in-File.ensures at c.in_ok-file-in-File.ensures.path) (rw c.deref-in-File.ensures at c.in_ok-file-in-File.ensures.text) there
    (λ content file. c.read_file.ensures.walk tree content told file)

pub walk_entry-returns-in_ok-file-in-File-clause-tells :
    goal.walk_entry-returns-in_ok-file-in-File-clause-tells
walk_entry-returns-in_ok-file-in-File-clause-tells g t c = λ tree e told there kind.
    file_tells tree c.args.place.now.path (string_bytes c.args.place.now.text) (string_bytes c.args.entry.now.name) (string_bytes c.in_ok-file-in-File.file.text) e
    (look_in c.args.sights.now) _ (look_in c.read_file.new.sights) c.args.gathered.now.read c.read_file.new.gathered.read c.read_file.result (at_in c.read_file.new.sights.at)
    (kind ∙ c.in-File.is) c.in_ok-file-in-File.ensures.room (rw c.deref-in-File.ensures at c.in_ok-file-in-File.ensures.name)
    (rw c.deref-in-File.ensures at c.in_ok-file-in-File.ensures.text) there (sym c.is_full.ensures ∙ c.if-is_full.false)
    c.read_file.ensures.not_deep c.read_file.ensures.not_bad
    c.in_ok-reach-in-File.ensures.look (λ content file. c.read_file.ensures.look tree content told file)

pub walk_entry-returns-in_ok-folder-in-Folder-clause-walk :
    goal.walk_entry-returns-in_ok-folder-in-Folder-clause-walk
walk_entry-returns-in_ok-folder-in-Folder-clause-walk g t c = λ tree e told there kind.
    folder_walks tree c.args.place.now.path c.in_ok-folder-in-Folder.folder.path (string_bytes c.args.place.now.text) (string_bytes c.args.entry.now.name) (string_bytes c.in_ok-folder-in-Folder.folder.text) e
    c.args.gathered.now.edits.items c.walk_below.new.gathered.edits.items c.args.gathered.now.read c.walk_below.new.gathered.read c.walk_below.result
    (kind ∙ c.in-Folder.is) c.in_ok-folder-in-Folder.ensures.room (rw c.deref-in-Folder-2.ensures at c.in_ok-folder-in-Folder.ensures.name)
    (rw c.deref-in-Folder-2.ensures at c.in_ok-folder-in-Folder.ensures.path) (rw c.deref-in-Folder-2.ensures at c.in_ok-folder-in-Folder.ensures.text)
    (c.walk_below.ensures.walk tree told)

pub walk_entry-returns-in_ok-folder-in-Folder-clause-tells :
    goal.walk_entry-returns-in_ok-folder-in-Folder-clause-tells
walk_entry-returns-in_ok-folder-in-Folder-clause-tells g t c = λ tree e told there kind.
    folder_tells tree c.args.place.now.path c.in_ok-folder-in-Folder.folder.path (string_bytes c.args.place.now.text) (string_bytes c.args.entry.now.name) (string_bytes c.in_ok-folder-in-Folder.folder.text) e
    (look_in c.args.sights.now) (look_in c.walk_below.new.sights) c.args.gathered.now.read c.walk_below.new.gathered.read c.walk_below.result (at_in c.walk_below.new.sights.at)
    (kind ∙ c.in-Folder.is) c.in_ok-folder-in-Folder.ensures.room (rw c.deref-in-Folder-2.ensures at c.in_ok-folder-in-Folder.ensures.name)
    (rw c.deref-in-Folder-2.ensures at c.in_ok-folder-in-Folder.ensures.path) (rw c.deref-in-Folder-2.ensures at c.in_ok-folder-in-Folder.ensures.text)
    (rw c.in_ok-reach-in-Folder.ensures.look at (c.walk_below.ensures.tells tree told))

pub walk_folder-returns-in_err-walk_entry-clause-walk :
    goal.walk_folder-returns-in_err-walk_entry-clause-walk
walk_folder-returns-in_err-walk_entry-clause-walk g t c = λ tree told rest.
    let p = err_from_is_err_and c.from_residual-in_err-walk_entry.result c.from_residual-in_err-walk_entry.ensures.1 in
    let inv = c.loop-entry.invariant in
    let text = string_bytes c.args.place.now.text in
    let listing = rw c.deref.ensures at (c.in_ok-entries.ensures.entries tree told) in
    let h = found tree text c.in_ok-entries.entries.items c.loop-entry.entry-index c.entry-item.result listing (omega (arith, ap length c.deref-entry-items.ensures.value)) (rw c.deref-entry-items.ensures.value at c.entry-item.is) in
    rw (p.1, p.2)
    (entry_ends tree (16 - length c.args.place.now.path) c.args.place.now.path text c.loop-entry.entry-index c.entry-item.result c.args.gathered.now.edits.items c.loop-entry.gathered.edits.items
    c.args.gathered.now.read c.loop-entry.gathered.read c.in_err-walk_entry.field-0.0 h (inv.walk tree told)
    (c.in_err-walk_entry.ensures.walk tree h.entry (inv.same ∙ told) h.there h.kind) rest)

pub walk_folder-returns-in_err-walk_entry-clause-tells :
    goal.walk_folder-returns-in_err-walk_entry-clause-tells
walk_folder-returns-in_err-walk_entry-clause-tells g t c = λ tree told.
    let p = err_from_is_err_and c.from_residual-in_err-walk_entry.result c.from_residual-in_err-walk_entry.ensures.1 in
    let inv = c.loop-entry.invariant in
    let text = string_bytes c.args.place.now.text in
    let listing = rw c.deref.ensures at (c.in_ok-entries.ensures.entries tree told) in
    let h = found tree text c.in_ok-entries.entries.items c.loop-entry.entry-index c.entry-item.result listing (omega (arith, ap length c.deref-entry-items.ensures.value)) (rw c.deref-entry-items.ensures.value at c.entry-item.is) in
    rw (p.1, p.2)
    (entry_stops tree (16 - length c.args.place.now.path) c.args.place.now.path text c.loop-entry.entry-index c.entry-item.result (look_in c.args.sights.now) (look_in c.loop-entry.sights) (look_in c.walk_entry.new.sights)
    c.args.gathered.now.read c.loop-entry.gathered.read c.walk_entry.new.gathered.read (at_in c.walk_entry.new.sights.at) c.in_err-walk_entry.field-0.0 h (inv.tells tree told)
    (c.in_err-walk_entry.ensures.tells tree h.entry (inv.same ∙ told) h.there h.kind))

pub walk_entry-returns-in_ok-file-in-File-clause-large :
    goal.walk_entry-returns-in_ok-file-in-File-clause-large
walk_entry-returns-in_ok-file-in-File-clause-large g t c = λ root text_is before.
    c.read_file.ensures.large root
    (place_below root (string_bytes c.args.place.now.text) (string_bytes c.in_ok-file-in-File.file.text) c.args.place.now.path c.in_ok-file-in-File.file.path (string_bytes c.args.entry.now.name) text_is
    (rw c.deref-in-File.ensures at c.in_ok-file-in-File.ensures.text) (rw c.deref-in-File.ensures at c.in_ok-file-in-File.ensures.path))
    (ap (λ (k : Look). k.large) c.in_ok-reach-in-File.ensures.look ∙ before)

pub walk_entry-returns-in_ok-file-in-File-clause-named :
    goal.walk_entry-returns-in_ok-file-in-File-clause-named
walk_entry-returns-in_ok-file-in-File-clause-named g t c = λ root text_is failed.
    let names : names_to c.read_file.new.sights.at ≡ c.args.place.now.path ++ string_bytes c.args.entry.now.name ∷ [] = ap names_to c.read_file.ensures.at ∙ rw c.deref.ensures at c.in_ok-reach-in-File.ensures.names in
    subst (IsRefused (g.F.Folders.refused c.read_file.new.folders))
    (place_below root (string_bytes c.args.place.now.text) (string_bytes c.in_ok-file-in-File.file.text) c.args.place.now.path (names_to c.read_file.new.sights.at) (string_bytes c.args.entry.now.name) text_is
    (rw c.deref-in-File.ensures at c.in_ok-file-in-File.ensures.text) names)
    (c.read_file.ensures.failed failed)

pub walk_entry-returns-in_ok-folder-in-Folder-clause-large :
    goal.walk_entry-returns-in_ok-folder-in-Folder-clause-large
walk_entry-returns-in_ok-folder-in-Folder-clause-large g t c = λ root text_is before.
    c.walk_below.ensures.large root
    (place_below root (string_bytes c.args.place.now.text) (string_bytes c.in_ok-folder-in-Folder.folder.text) c.args.place.now.path c.in_ok-folder-in-Folder.folder.path (string_bytes c.args.entry.now.name) text_is
    (rw c.deref-in-Folder-2.ensures at c.in_ok-folder-in-Folder.ensures.text) (rw c.deref-in-Folder-2.ensures at c.in_ok-folder-in-Folder.ensures.path))
    (ap (λ (k : Look). k.large) c.in_ok-reach-in-Folder.ensures.look ∙ before)

pub walk_entry-returns-in_ok-folder-in-Folder-clause-named :
    goal.walk_entry-returns-in_ok-folder-in-Folder-clause-named
walk_entry-returns-in_ok-folder-in-Folder-clause-named g t c = λ root text_is failed.
    let text = rw c.deref-in-Folder-2.ensures at c.in_ok-folder-in-Folder.ensures.text in
    let path = rw c.deref-in-Folder-2.ensures at c.in_ok-folder-in-Folder.ensures.path in
    c.walk_below.ensures.named root
    (place_below root (string_bytes c.args.place.now.text) (string_bytes c.in_ok-folder-in-Folder.folder.text) c.args.place.now.path c.in_ok-folder-in-Folder.folder.path (string_bytes c.args.entry.now.name) text_is text path)
    (sym (place_below root (string_bytes c.args.place.now.text) (string_bytes c.in_ok-folder-in-Folder.folder.text) c.args.place.now.path _ (string_bytes c.args.entry.now.name) text_is text
    (rw c.deref-in-Folder.ensures at c.in_ok-reach-in-Folder.ensures.names)))
    failed

pub walk_folder-returns-in_err-entries-clause-named : goal.walk_folder-returns-in_err-entries-clause-named
walk_folder-returns-in_err-entries-clause-named g t c = λ root text_is at failed.
    let p = err_from_is_err_and c.from_residual.result c.from_residual.ensures.1 in
    let is : c.in_err-entries.field-0.0 ≡ refusals.FolderFault = refused_is p.0 c.in_err-entries.field-0.0 refusals.FolderFault c.from_residual.result p.1 p.2 failed in
    subst (IsRefused (g.F.Folders.refused c.sorted_entries.new.folders)) (sym at) (rw c.deref.ensures at (c.in_err-entries.ensures.failed (ap Err is)))

pub walk_folder-returns-in_err-walk_entry-clause-named :
    goal.walk_folder-returns-in_err-walk_entry-clause-named
walk_folder-returns-in_err-walk_entry-clause-named g t c = λ root text_is at failed.
    let p = err_from_is_err_and c.from_residual-in_err-walk_entry.result c.from_residual-in_err-walk_entry.ensures.1 in
    let is : c.in_err-walk_entry.field-0.0 ≡ refusals.FolderFault = refused_is p.0 c.in_err-walk_entry.field-0.0 refusals.FolderFault c.from_residual-in_err-walk_entry.result p.1 p.2 failed in
    c.in_err-walk_entry.ensures.named root text_is (ap Err is)

pub walk_folder-returns-in_err-walk_entry-clause-fault :
    goal.walk_folder-returns-in_err-walk_entry-clause-fault
walk_folder-returns-in_err-walk_entry-clause-fault g t c = λ failed.
    let p = err_from_is_err_and c.from_residual-in_err-walk_entry.result c.from_residual-in_err-walk_entry.ensures.1 in
    let inv = c.loop-entry.invariant in
    let text = string_bytes c.args.place.now.text in
    let name = string_bytes c.entry-item.result.name in
    let is : c.in_err-walk_entry.field-0.0 ≡ refusals.FolderFault = refused_is p.0 c.in_err-walk_entry.field-0.0 refusals.FolderFault c.from_residual-in_err-walk_entry.result p.1 p.2 failed in
    let inner = rw inv.same at (c.in_err-walk_entry.ensures.fault (ap Err is)) in
    entry_fault (g.F.Folders.tree c.args.folders.now) (g.F.Folders.faults c.args.folders.now) (g.F.Folders.faults c.loop-entry.folders) (g.F.Folders.faults c.walk_entry.new.folders)
    (λ (tree : FolderTree). kind_at tree (text ++ 47 ∷ name) ≡ Some c.entry-item.result.kind → ⊥) (λ (tree : FolderTree). is_folder_at tree text ≡ false) inv.later
    (λ tree told wrong.
    let listing = rw c.deref.ensures at (c.in_ok-entries.ensures.entries tree told) in
    let h = found tree text c.in_ok-entries.entries.items c.loop-entry.entry-index c.entry-item.result listing (omega (arith, ap length c.deref-entry-items.ensures.value)) (rw c.deref-entry-items.ensures.value at c.entry-item.is) in
    wrong (kind_there tree (text ++ 47 ∷ name) h.entry c.entry-item.result.kind h.there h.kind))
    inner

pub walk_folder-returns-in_err-walk_entry-clause-owed :
    goal.walk_folder-returns-in_err-walk_entry-clause-owed
walk_folder-returns-in_err-walk_entry-clause-owed g t c = λ tree told folder.
    let inv = c.loop-entry.invariant in
    let text = string_bytes c.args.place.now.text in
    let listing = rw c.deref.ensures at (c.in_ok-entries.ensures.entries tree told) in
    let h = found tree text c.in_ok-entries.entries.items c.loop-entry.entry-index c.entry-item.result listing (omega (arith, ap length c.deref-entry-items.ensures.value)) (rw c.deref-entry-items.ensures.value at c.entry-item.is) in
    c.walk_entry.ensures.owed tree (inv.same ∙ told) (kind_there tree (text ++ 47 ∷ string_bytes c.entry-item.result.name) h.entry c.entry-item.result.kind h.there h.kind) ∙ inv.owed tree told folder

pub walk_folder-returns-clause-owed : goal.walk_folder-returns-clause-owed
walk_folder-returns-clause-owed g t c = λ tree told folder. c.loop-entry.invariant.owed tree told folder

pub walk_folder-loop-entry-preserved : goal.walk_folder-loop-entry-preserved
walk_folder-loop-entry-preserved g t c =
    let inv = c.loop-entry.invariant in
    let text = string_bytes c.args.place.now.text in
    record {
      walk = λ tree told.
          let listing = rw c.deref.ensures at (c.in_ok-entries.ensures.entries tree told) in
          let h = found tree text c.in_ok-entries.entries.items c.loop-entry.entry-index c.entry-item.result listing (omega (arith, ap length c.deref-entry-items.ensures.value)) (rw c.deref-entry-items.ensures.value at c.entry-item.is) in
          entry_goes tree (16 - length c.args.place.now.path) c.args.place.now.path text c.loop-entry.entry-index c.entry-item.result c.args.gathered.now.edits.items c.loop-entry.gathered.edits.items c.walk_entry.new.gathered.edits.items
          c.args.gathered.now.read c.loop-entry.gathered.read c.walk_entry.new.gathered.read h (inv.walk tree told) (c.in_ok-walk_entry.ensures.walk tree h.entry (inv.same ∙ told) h.there h.kind);
      tells = λ tree told.
          let listing = rw c.deref.ensures at (c.in_ok-entries.ensures.entries tree told) in
          let h = found tree text c.in_ok-entries.entries.items c.loop-entry.entry-index c.entry-item.result listing (omega (arith, ap length c.deref-entry-items.ensures.value)) (rw c.deref-entry-items.ensures.value at c.entry-item.is) in
          entry_told tree (16 - length c.args.place.now.path) c.args.place.now.path text c.loop-entry.entry-index c.entry-item.result (look_in c.args.sights.now) (look_in c.loop-entry.sights) (look_in c.walk_entry.new.sights)
          c.args.gathered.now.read c.loop-entry.gathered.read c.walk_entry.new.gathered.read (at_in c.walk_entry.new.sights.at) h (inv.tells tree told) (c.in_ok-walk_entry.ensures.tells tree h.entry (inv.same ∙ told) h.there h.kind);
      large = λ root text_is before. c.in_ok-walk_entry.ensures.large root text_is (inv.large root text_is before);
      owed = λ tree told folder.
          let listing = rw c.deref.ensures at (c.in_ok-entries.ensures.entries tree told) in
          let h = found tree text c.in_ok-entries.entries.items c.loop-entry.entry-index c.entry-item.result listing (omega (arith, ap length c.deref-entry-items.ensures.value)) (rw c.deref-entry-items.ensures.value at c.entry-item.is) in
          c.walk_entry.ensures.owed tree (inv.same ∙ told) (kind_there tree (text ++ 47 ∷ string_bytes c.entry-item.result.name) h.entry c.entry-item.result.kind h.there h.kind) ∙ inv.owed tree told folder;
      same = c.walk_entry.ensures.same ∙ inv.same;
      later = omega (arith, inv.later, c.walk_entry.ensures.later);
    }

pub walk_folder-returns-clause-walk : goal.walk_folder-returns-clause-walk
walk_folder-returns-clause-walk g t c = λ tree told.
    let inv = c.loop-entry.invariant in
    let listing = rw c.deref.ensures at (c.in_ok-entries.ensures.entries tree told) in
    folder_goes tree (16 - length c.args.place.now.path) c.args.place.now.path (string_bytes c.args.place.now.text) c.in_ok-entries.entries.items c.loop-entry.entry-index c.args.gathered.now.edits.items c.loop-entry.gathered.edits.items
    c.args.gathered.now.read c.loop-entry.gathered.read listing (omega (arith, ap length c.deref-entry-items.ensures.value)) (inv.walk tree told)

pub walk_folder-returns-clause-tells : goal.walk_folder-returns-clause-tells
walk_folder-returns-clause-tells g t c = λ tree told.
    let inv = c.loop-entry.invariant in
    let listing = rw c.deref.ensures at (c.in_ok-entries.ensures.entries tree told) in
    folder_told tree (16 - length c.args.place.now.path) c.args.place.now.path (string_bytes c.args.place.now.text) c.in_ok-entries.entries.items c.loop-entry.entry-index (look_in c.args.sights.now) (look_in c.loop-entry.sights)
    c.args.gathered.now.read c.loop-entry.gathered.read (at_in c.loop-entry.sights.at) listing (omega (arith, ap length c.deref-entry-items.ensures.value)) (inv.tells tree told)

-- what breaks a rule below the folder
pub walk_below-returns-in_err-walk_folder-clause-walk : goal.walk_below-returns-in_err-walk_folder-clause-walk
walk_below-returns-in_err-walk_folder-clause-walk g t c = λ tree told rest.
    let p = err_from_is_err_and c.from_residual.result c.from_residual.ensures.1 in
    rw (p.1, p.2)
    (below_ends c.args.place.path (met_below tree (16 - length c.args.place.path) c.args.place.path (string_bytes c.args.place.text)) c.args.gathered.now.edits.items c.args.gathered.now.read c.in_err-walk_folder.field-0.0
    (c.in_err-walk_folder.ensures.walk tree told) rest)

-- some edit came
pub walk_below-returns-then-len-met_before-clause-walk : goal.walk_below-returns-then-len-met_before-clause-walk
walk_below-returns-then-len-met_before-clause-walk g t c = λ tree told.
    let more : (length c.walk_folder.new.gathered.edits.items ≡ length c.args.gathered.now.edits.items) → ⊥ =
    λ same. absurd (omega (arith, same, c.if-len-met_before.true, c.len.ensures, c.len-met_before.ensures, c.walk_folder.new.gathered.edits.ok.0, c.args.gathered.now.edits.ok.0)) in
    met_goes c.args.place.path (met_below tree (16 - length c.args.place.path) c.args.place.path (string_bytes c.args.place.text)) c.args.gathered.now.edits.items c.walk_folder.new.gathered.edits.items
    c.args.gathered.now.read c.walk_folder.new.gathered.read more (c.in_ok-walk_folder.ensures.walk tree told)

-- none came: the folder is made
pub walk_below-returns-clause-walk : goal.walk_below-returns-clause-walk
walk_below-returns-clause-walk g t c = λ tree told.
    let same : length c.walk_folder.new.gathered.edits.items ≤ length c.args.gathered.now.edits.items =
    omega (arith, c.if-len-met_before.false, c.len.ensures, c.len-met_before.ensures, c.walk_folder.new.gathered.edits.ok.0, c.args.gathered.now.edits.ok.0) in
    made_goes c.args.place.path (met_below tree (16 - length c.args.place.path) c.args.place.path (string_bytes c.args.place.text)) c.args.gathered.now.edits.items c.walk_folder.new.gathered.edits.items c.make.new.self.edits.items
    c.args.gathered.now.read c.walk_folder.new.gathered.read c.make.new.self.read (le-ltb 536870912 c.args.gathered.now.read c.requires) same (c.in_ok-walk_folder.ensures.walk tree told) c.in_ok-make.ensures.edits c.in_ok-make.ensures.read

pub walk_below-returns-clause-large : goal.walk_below-returns-clause-large
walk_below-returns-clause-large g t c = λ root text_is before.
    c.in_ok-walk_folder.ensures.large root text_is before
    ∙ (large_made root c.args.place.path c.walk_folder.new.gathered.edits.items ∙ ap (first_large root) (sym c.in_ok-make.ensures.edits))

pub walk_below-returns-in_err-walk_folder-clause-tells : goal.walk_below-returns-in_err-walk_folder-clause-tells
walk_below-returns-in_err-walk_folder-clause-tells g t c = λ tree told.
    let p = err_from_is_err_and c.from_residual.result c.from_residual.ensures.1 in
    rw (p.1, p.2) (c.in_err-walk_folder.ensures.tells tree told)

pub walk_below-returns-in_err-walk_folder-clause-named : goal.walk_below-returns-in_err-walk_folder-clause-named
walk_below-returns-in_err-walk_folder-clause-named g t c = λ root text_is at failed.
    let p = err_from_is_err_and c.from_residual.result c.from_residual.ensures.1 in
    let is : c.in_err-walk_folder.field-0.0 ≡ refusals.FolderFault = refused_is p.0 c.in_err-walk_folder.field-0.0 refusals.FolderFault c.from_residual.result p.1 p.2 failed in
    c.in_err-walk_folder.ensures.named root text_is at (ap Err is)

pub walk_below-returns-in_err-walk_folder-clause-fault : goal.walk_below-returns-in_err-walk_folder-clause-fault
walk_below-returns-in_err-walk_folder-clause-fault g t c = λ failed.
    let p = err_from_is_err_and c.from_residual.result c.from_residual.ensures.1 in
    let is : c.in_err-walk_folder.field-0.0 ≡ refusals.FolderFault = refused_is p.0 c.in_err-walk_folder.field-0.0 refusals.FolderFault c.from_residual.result p.1 p.2 failed in
    c.in_err-walk_folder.ensures.fault (ap Err is)
