use Rattle.std.proofs.Common.{ap, ◌∙◌}
use Rattle.path_tree.specs.Paths.{Bytes}
use Rattle.folder_store.specs.declared.folders.EntryKind.TheVariants as kinds
use Rattle.folder_store.proofs.MemoryLists.{file_here, files-none, files-some}
use Rattle.folder_store.proofs.memory.list_files.Goals as goal
use Rattle.folder_store.proofs.memory.list_files.Goals.{in-Some+in_ok-from_str+in_ok-push, in_default}

pub loop-text-preserved : goal.loop-text-preserved
loop-text-preserved c = elim c.match-file_below.branch [
  | in-Some+in_ok-from_str+in_ok-push w ↦
      rw (w.found-is, w.in_ok-push.ensures.items) (files-some c.args.path.now c.args.entries.now c.loop-text.text-index c.loop-text-item.result w.in-Some.name.now c.loop-text.found.items record { name = w.in_ok-from_str.field-0; kind = kinds.File } c.loop-text-test.true c.loop-text-item.is (w.in-Some.ensures ∙ ap (file_here c.args.path.now) c.as_str.ensures.value) (ap (λ (text : Bytes). (text, kinds.File)) w.in_ok-from_str.ensures.ok) c.loop-text.invariant)
  | in_default w ↦
      rw w.found-is (files-none c.args.path.now c.args.entries.now c.loop-text.text-index c.loop-text-item.result _ c.loop-text-test.true c.loop-text-item.is (w.in_default.ensures ∙ ap (file_here c.args.path.now) c.as_str.ensures.value) c.loop-text.invariant)
]
