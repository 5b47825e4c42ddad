-- BIOP messages: files, folders and gateways, as they stand in a module.
use Rattle.std.specs.Prelude.{◌≡◌, ◌≢◌, ℕ, ◌+◌, ◌<◌, ◌≤◌, List, [], ◌∷◌, ◌++◌, length, Option, Some, None, Bool, true, false, ◌||◌, ◌-◌, take, drop, if◌then◌else◌}
use Rattle.std.specs.List.{flat_map, sum_by}
use Rattle.oc_bytes.specs.Numbers.{two_bytes, four_bytes, eight_bytes}
use Rattle.module_groups.specs.declared.TheConstants.{GREATEST_ID}
use Rattle.ior_tap.specs.Iors as iors
use Rattle.ior_tap.specs.declared.Location.{Location}
use Rattle.biop_object.specs.declared.module.Binding.{Binding}
use Rattle.biop_object.specs.declared.written.Written.{Written}
use Rattle.biop_object.specs.declared.written.Bound.{Bound}
use Rattle.biop_object.specs.declared.written.Bound.TheVariants as bounds
use Rattle.biop_object.specs.declared.written.FolderKind.{FolderKind}
use Rattle.biop_object.specs.declared.written.FolderKind.TheVariants.{Directory, Gateway}
use Rattle.oc_bytes.specs.Grammar.{Grammar, one, two, four, eight, number, sized, each, enclosed, counted, field, unkept, gives, this, passed, Reads as ReadsBy}
use Rattle.path_tree.specs.Paths.{same_name}
use Rattle.biop_object.specs.declared.written.TheConstants.{MESSAGE_HEAD, FOLDER_FRONT, FILE_BINDING, FOLDER_BINDING}
use Rattle.biop_object.specs.declared.reading.TheConstants.{HEAD, FILE, DIRECTORY, GATEWAY}

pub record BindingFields : Type 0 where
  pub name : List ℕ
  pub kind : List ℕ
  pub target : iors.Fields

abbrev pub view_binding : Binding → BindingFields
view_binding b = record { name = b.name; kind = b.kind.items; target = iors.view b.target }

-- what a message says; a file's content begins at a place of the module
pub data Shape : Type 0 where
  IsFile : (first length : ℕ) → Shape
  IsFolder : List BindingFields → Shape
  IsOther : Shape

pub record Object : Type 0 where
  pub key : List ℕ
  pub shape : Shape

-- ---- the grammar

-- a service context: its id and its data
abbrev pub context : Grammar (ℕ × List ℕ)
context =
    field (number four) (λ c. c.0) λ id.
    field (sized two) (λ c. c.1) λ context_data.
    gives (id, context_data)

-- an id without one zero at its end, which is no part of the name
abbrev pub drop_zero : List ℕ → List ℕ
drop_zero id = if same_name (drop (length id - 1) id) (0 ∷ []) then take (length id - 1) id else id

-- a binding with one name component, of any type and objectInfo
abbrev pub binding : Grammar BindingFields
binding =
    field (this one 1) (λ b. 1) λ components_count.
    unkept (sized one) λ id.
    field (sized one) (λ b. b.kind) λ kind.
    unkept (number one) λ binding_type.
    field iors.ior (λ b. b.target) λ target.
    unkept (sized two) λ info.
    gives (record { name = drop_zero id; kind = kind; target = target })

-- the body at a place of its module, by whether the kind is that of a file, and that of a folder; of any other object it
-- isn't read
abbrev pub shape_by : (file_like folder_like : Bool) → ℕ → Grammar Shape
shape_by true folder_like place =
    unkept (sized four) λ content.
    gives (IsFile (place + 4) (length content))
shape_by false true place =
    unkept (number two) λ bindings_count.
    unkept (each binding bindings_count) λ bindings.
    gives (IsFolder bindings)
shape_by false false place = gives IsOther

-- the body of a message of this kind, `fil`, `dir` or `srg` and a zero byte, at a place of its module; of another kind it
-- isn't read
abbrev pub shape : List ℕ → ℕ → Grammar Shape
shape kind place = shape_by (same_name kind FILE) (same_name kind DIRECTORY || same_name kind GATEWAY) place

-- what stands in a message before its body; the objectInfo isn't looked at
pub record Heading : Type 0 where
  pub key : List ℕ
  pub kind : List ℕ

abbrev pub heading : Grammar Heading
heading =
    field (sized one) (λ h. h.key) λ key.
    field (sized four) (λ h. h.kind) λ kind.
    unkept (sized two) λ info.
    unkept (passed (field (number one) (λ cs. length cs) λ count. each context count) []) λ skipped.
    gives (record { key = key; kind = kind })

-- what stands in a message after its size, at a place of its module
abbrev pub message : ℕ → Grammar Object
message place =
    unkept (counted heading) λ front.
    field (enclosed four (shape front.0.kind (place + front.1 + 4))) (λ o. o.shape) λ said.
    gives (record { key = front.0.key; shape = said })

-- a message at a place of its module: `BIOP`, version 1.0, byte order 0, message type 0; then its size
abbrev pub object : ℕ → Grammar Object
object place =
    field (this eight HEAD) (λ o. HEAD) λ head.
    enclosed four (message (place + MESSAGE_HEAD))

-- the bytes, all of them, are one message at this place of its module
abbrev pub ReadsObject : (at : ℕ) → List ℕ → Object → Type 0
ReadsObject at = ReadsBy (object at)

-- a message's front as bytes: BIOP, version 1.0, byte order 0, message type 0
abbrev pub message_front : List ℕ
message_front = 66 ∷ 73 ∷ 79 ∷ 80 ∷ 1 ∷ 0 ∷ 0 ∷ 0 ∷ []

-- a message's front, its size and as many bytes, whatever they say, and any bytes after them
abbrev pub BeginsFramed : List ℕ → Type 0
BeginsFramed bytes = (message : List ℕ) × (rest : List ℕ) × (length message < 4294967296) × (bytes ≡ message_front ++ four_bytes (length message) ++ message ++ rest)

-- messages back to back from a place on, up to the end or to a message that doesn't read
abbrev pub ReadsModule : (at : ℕ) (bytes : List ℕ) → List Object → Option ℕ → Type 0
ReadsModule at bytes (o ∷ objects) stop = (front : List ℕ) × (rest : List ℕ) × (bytes ≡ front ++ rest) × ReadsObject at front o × ReadsModule (at + length front) rest objects stop
ReadsModule at bytes [] None = bytes ≡ []
ReadsModule at bytes [] (Some place) = (place ≡ at) × (bytes ≢ []) × ((front rest : List ℕ) (o : Object) → bytes ≡ front ++ rest → ReadsObject at front o → ⊥)

-- ---- what is written

abbrev pub biop : List ℕ → List ℕ → List ℕ → List ℕ → List ℕ
biop key kind info body =
    let rest = (length key ∷ key) ++ four_bytes (length kind) ++ kind ++ two_bytes (length info) ++ info ++ 0 ∷ four_bytes (length body) ++ body in
    message_front ++ four_bytes (length rest) ++ rest

abbrev pub file_spelling : List ℕ → List ℕ → List ℕ
file_spelling key content = biop key FILE (eight_bytes (length content)) (four_bytes (length content) ++ content)

abbrev pub kind_of : FolderKind → List ℕ
kind_of Directory = DIRECTORY
kind_of Gateway = GATEWAY

abbrev pub bound_tail : Bound → Location → List ℕ
bound_tail (bounds.File size) l = 1 ∷ iors.spelling FILE l ++ two_bytes 8 ++ eight_bytes size
bound_tail bounds.Folder l = 2 ∷ iors.spelling DIRECTORY l ++ two_bytes 0

abbrev pub bound_kind : Bound → List ℕ
bound_kind (bounds.File size) = FILE
bound_kind bounds.Folder = DIRECTORY

abbrev pub binding_spelling : Written → List ℕ
binding_spelling w = 1 ∷ (length w.name + 1) ∷ w.name ++ 0 ∷ 4 ∷ bound_kind w.bound ++ bound_tail w.bound w.location

abbrev pub folder_spelling : FolderKind → List ℕ → List Written → List ℕ
folder_spelling kind key entries = biop key (kind_of kind) [] (two_bytes (length entries) ++ flat_map binding_spelling entries)

-- what a written binding is read as
abbrev pub binding_of : Written → BindingFields
binding_of w = record { name = w.name; kind = bound_kind w.bound; target = iors.written_form (bound_kind w.bound) w.location }

-- how many bytes a written binding has
abbrev pub bound_size : Bound → ℕ
bound_size (bounds.File size) = FILE_BINDING
bound_size bounds.Folder = FOLDER_BINDING

abbrev pub binding_size : Written → ℕ
binding_size w = length w.name + bound_size w.bound

-- and a written folder
abbrev pub folder_size : List Written → ℕ
folder_size entries = FOLDER_FRONT + sum_by binding_size entries

-- an entry that can be written
pub record IsEntry (w : Written) : Type 0 where
  pub name : (1 ≤ length w.name) × (length w.name ≤ 254)
  pub key : length w.location.key ≡ 4
  pub listed : (1 ≤ w.location.module) × (w.location.module ≤ GREATEST_ID)
