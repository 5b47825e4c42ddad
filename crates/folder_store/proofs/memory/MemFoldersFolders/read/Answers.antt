use Rattle.std.proofs.Common.{take, ap, ◌∙◌}
use Rattle.folder_store.specs.Kept.{tree_in}
use Rattle.folder_store.proofs.MemoryTrees.{is-read}
use Rattle.folder_store.proofs.memory.MemFoldersFolders.read.Goals as goal

pub returns-clause-bytes : goal.returns-clause-bytes
returns-clause-bytes c =
    λ t e. is-read (tree_in c.args.self.now) t c.args.path.now c.args.most c.in-Some.content.now c.in_ok-from_slice.field-0.items (cc (c.in-Some.ensures, c.deref.ensures.value, ap (λ f. f.items) c.in_ok-begin.ensures.entries)) (c.in_ok-from_slice.ensures.items ∙ ap (λ n. take n c.in-Some.content.now) c.min.ensures) e
