-- Objects to be written, one after another, and what their spellings are read as.
use Rattle.std.specs.Prelude.{◌≡◌, ℕ, ◌+◌, ◌<◌, ◌≤◌, List, [], ◌∷◌, length, map, None}
use Rattle.std.specs.List.{All, flat_map}
use Rattle.module_groups.specs.declared.TheConstants.{GREATEST_ID}
use Rattle.biop_object.specs.declared.written.Written.{Written}
use Rattle.biop_object.specs.declared.written.FolderKind.{FolderKind}
use Rattle.biop_object.specs.Objects.{Object, IsFile, IsFolder, binding_of, file_spelling, folder_spelling}
use Rattle.biop_object.specs.ObjectReading.{index_of}
use Rattle.path_tree.specs.declared.tree.TheConstants.{MOST_CONTENT}
use Rattle.biop_object.specs.declared.written.TheConstants.{FILE_FRONT, MOST_FOLDER_SIZE}

-- an object to be written, as its encoder is handed it
pub data Spelled : Type 0 where
  AFile : (key content : List ℕ) → Spelled
  AFolder : (kind : FolderKind) (key : List ℕ) (entries : List Written) → Spelled

abbrev pub spelled_bytes : Spelled → List ℕ
spelled_bytes (AFile key content) = file_spelling key content
spelled_bytes (AFolder kind key entries) = folder_spelling kind key entries

-- what its spelling is read as at a place of its module
abbrev pub spelled_object : ℕ → Spelled → Object
spelled_object at (AFile key content) = record { key = key; shape = IsFile (at + FILE_FRONT) (length content) }
spelled_object at (AFolder kind key entries) = record { key = key; shape = IsFolder (map binding_of entries) }

-- one after another
abbrev pub spelled_objects : ℕ → List Spelled → List Object
spelled_objects at [] = []
spelled_objects at (s ∷ ss) = spelled_object at s ∷ spelled_objects (at + length (spelled_bytes s)) ss

pub record IsSpellableEntry (w : Written) : Type 0 where
  pub name : (1 ≤ length w.name) × (length w.name ≤ 254)
  pub location : (length w.location.key ≡ 4) × (w.location.carousel < 4294967296)
  pub listed : (1 ≤ w.location.module) × (w.location.module ≤ GREATEST_ID)

abbrev pub IsSpellable : Spelled → Type 0
IsSpellable (AFile key content) = (length key ≡ 4) × (length content ≤ MOST_CONTENT)
IsSpellable (AFolder kind key entries) = (length key ≡ 4) × (length entries < 65536) × (length (folder_spelling kind key entries) ≤ MOST_FOLDER_SIZE) × All IsSpellableEntry entries

-- spellings one after another are read as their objects, to the end
abbrev pub SpellingsReadBack : Type 0
SpellingsReadBack = (list : List Spelled) → All IsSpellable list → index_of (flat_map spelled_bytes list) ≡ (spelled_objects 0 list, None)
