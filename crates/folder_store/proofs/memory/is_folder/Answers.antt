use Rattle.std.proofs.Common.{◌++◌, ◌∷◌, [], is_some, rules, tests, ◌∙◌, sym}
use Rattle.std.specs.String.{string_bytes}
use Rattle.std.proofs.lemmas.Iterator.{YieldsList-from_slice}
use Rattle.std.proofs.lemmas.Iterator.Search.{any_from_yields_List}
use Rattle.path_tree.specs.Paths.{Bytes}
use Rattle.folder_store.specs.Folders.{after_prefix}
use Rattle.folder_store.specs.Memory.{entries_in}
use Rattle.folder_store.proofs.MemoryLists.{any-mapped}
use Rattle.folder_store.proofs.MemoryTrees.{folder-is}
use Rattle.folder_store.proofs.memory.is_folder.Goals as goal

pub returns : goal.returns
returns c =
    any_from_yields_List (λ e. is_some (after_prefix (c.args.path.now ++ 47 ∷ []) (string_bytes e.0))) _ _ _ c.any.ensures.ran (YieldsList-from_slice c.args.entries.now cc) (λ x b q k. search (rules, tests))
    ∙ sym (any-mapped (λ (e : Bytes × Bytes). is_some (after_prefix (c.args.path.now ++ 47 ∷ []) e.0)) (λ e. (string_bytes e.0, e.1)) c.args.entries.now)
    ∙ sym (folder-is (entries_in c.args.entries.now) c.args.path.now c.requires)
