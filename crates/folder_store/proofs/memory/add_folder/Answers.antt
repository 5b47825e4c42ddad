use Rattle.std.proofs.Common.{eqb, ap, sym, ◌∙◌, rules, tests}
use Rattle.std.specs.String.{string_bytes}
use Rattle.std.specs.Cmp.Lexicographic.{pointwise}
use Rattle.std.proofs.lemmas.Iterator.{YieldsList-from_slice}
use Rattle.std.proofs.lemmas.Iterator.Search.{any_from_yields_List}
use Rattle.path_tree.specs.Paths.{Bytes}
use Rattle.folder_store.specs.declared.folders.EntryKind.TheVariants as kinds
use Rattle.folder_store.specs.declared.folders.FolderEntry.{FolderEntry}
use Rattle.folder_store.proofs.MemoryLists.{folder-kept, folder-put}
use Rattle.folder_store.proofs.memory.add_folder.Goals as goal

pub returns-in_ok-push : goal.returns-in_ok-push
returns-in_ok-push c =
    let any = any_from_yields_List (λ (e : FolderEntry). pointwise eqb (string_bytes e.name) c.args.name.now) _ _ c.any.result c.any.ensures.ran (YieldsList-from_slice c.args.found.now.items cc) (λ x b q k. search (rules, tests)) in
    let named = c.in_ok-from_str.ensures.ok in
    rw c.in_ok-push.ensures.items (folder-put c.args.found.now.items record { name = c.in_ok-from_str.field-0; kind = kinds.Folder } c.args.name.now (sym any ∙ c.if-not-any.true) (ap (λ (text : Bytes). (text, kinds.Folder)) named))

pub returns-else-not-any : goal.returns-else-not-any
returns-else-not-any c =
    let any = any_from_yields_List (λ (e : FolderEntry). pointwise eqb (string_bytes e.name) c.args.name.now) _ _ c.any.result c.any.ensures.ran (YieldsList-from_slice c.args.found.now.items cc) (λ x b q k. search (rules, tests)) in
    folder-kept c.args.found.now.items c.args.name.now (sym any ∙ c.if-not-any.false)
