-- What `publish-psi FOLDER CAROUSEL CYCLES` promises: the cycles of `publish`, each after the tables that name the carousel.
use Rattle.std.specs.Prelude.{ℕ, List}
use Rattle.folder_store.specs.Folders.{FolderTree}
use Rattle.shell_streams.specs.Cuts.{Bytes}
use Rattle.shell_commands.specs.Announced.{published_psi}
use Rattle.receiver_commands.specs.Over.{Over}
use Rattle.shell_commands.specs.Publish.{Sends}
use Rattle.receiver_commands.specs.declared.status.Status.{Status}

abbrev pub PublishesPsi : (folder : Bytes) (carousel : ℕ) (weights : List ℕ) (cycles : ℕ) → Status
    → (sink : Over Bytes) (folders : Over FolderTree) → Type 0
PublishesPsi folder carousel weights cycles s sink folders =
    Sends folder carousel (published_psi carousel weights cycles) s sink folders
