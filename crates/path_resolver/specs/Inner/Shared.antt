-- What holds of shared answers as the code keeps them.
use Rattle.std.specs.Prelude.{◌+◌, ◌≤◌, length, IsSome}
use Rattle.std.specs.Arc.{arc_value}
use Rattle.biop_object.specs.ObjectReading.{bindings_of}
use Rattle.path_resolver.specs.declared.answer.FileRef.TheInside as file_ref
use Rattle.path_resolver.specs.declared.answer.FolderRef.TheInside as folder_ref

abbrev pub IsFileRef : file_ref.Inside → Type 0
IsFileRef r = r.span.first + r.span.length ≤ length (arc_value r.«module»)

abbrev pub IsFolderRef : folder_ref.Inside → Type 0
IsFolderRef r = IsSome (bindings_of (arc_value r.«module») r.folder)
