-- Events without where their lists lie in memory.
use Rattle.std.specs.Prelude.{ℕ, List}
use Rattle.path_tree.specs.Paths.{PathNames}
use Rattle.path_tree.specs.declared.tree.Edit.{Edit}
use Rattle.ts_packet.specs.declared.Fate.{Fate}
use Rattle.carousel_world.specs.declared.event.Event.{Event}
use Rattle.carousel_world.specs.declared.event.Event.TheVariants as code

pub data Step : Type 0 where
  Commit : (editor : ℕ) (edits : List Edit) → Step
  Draw : (asked : ℕ) (fates : List Fate) → Step
  Open : (reader : ℕ) (path : PathNames) → Step

abbrev pub view : Event → Step
view (code.Commit editor edits) = Commit editor edits
view (code.Draw asked fates) = Draw asked fates.items
view (code.Open reader path) = Open reader path
