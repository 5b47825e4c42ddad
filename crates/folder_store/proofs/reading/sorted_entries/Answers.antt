use Rattle.std.proofs.Common.{◌≡◌, rules, Bool}
use Rattle.std.specs.Ordering.{is_lt}
use Rattle.std.specs.String.{string_cmp, string_cmp_total}
use Rattle.std.specs.List.Sorted.{IsSortedBy}
use Rattle.std.proofs.lemmas.List.Sorted.{ranks_by, answers_always}
use Rattle.folder_store.specs.declared.folders.FolderEntry.{FolderEntry}
use Rattle.folder_store.proofs.Sorting.{sorted_listing}
use Rattle.folder_store.proofs.reading.sorted_entries.Goals as goal

pub returns-clause-entries : goal.returns-clause-entries
returns-clause-entries g c = λ t told.
    let less : FolderEntry → FolderEntry → Bool = λ x y. is_lt (string_cmp x.name y.name) in
    let k = c.in_ok-entries.ensures.entries t told in
    let s : IsSortedBy less c.sort_unstable_by.new.self.items = c.sort_unstable_by.ensures.sorted less (ranks_by string_cmp_total (λ (x : FolderEntry). x.name)) (answers_always _ (λ a r. is_lt r ≡ less a.0.now a.1.0.now) _ (λ f a r f' k. search rules)) in
    sorted_listing t c.args.path.now c.in_ok-entries.entries.items c.sort_unstable_by.new.self.items k c.sort_unstable_by.ensures.permutation s
