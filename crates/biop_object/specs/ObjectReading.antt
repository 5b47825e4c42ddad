-- Reading a module from its front.
use Rattle.std.specs.Prelude.{ℕ, zero, suc, Bool, List, [], ◌∷◌, length, map, Option, Some, None, Ok, Err, is_none, ◌==◌, if◌then◌else◌, option_and_then, slice_get}
use Rattle.std.specs.List.{find}
use Rattle.std.specs.Option.{option_map_or}
use Rattle.oc_bytes.specs.Cursor.{Cursor, Reading, from_start}
use Rattle.oc_bytes.specs.Grammar.{read}
use Rattle.path_tree.specs.Paths.{Bytes, same_name}
use Rattle.biop_object.specs.Objects.{Object, Shape, IsFile, IsFolder, IsOther, BindingFields, object}
use Rattle.biop_object.specs.declared.module.Found.{Found}
use Rattle.biop_object.specs.declared.module.Found.TheVariants as found

-- one message, and the cursor after it
unfoldable pub object_at : Cursor → Reading Object
object_at c = read (object c.place) c

-- the objects, and where reading stopped, if it isn't the end
abbrev pub Index : Type 0
Index = List Object × Option ℕ

-- an object and what follows it, or the place where a message doesn't read
abbrev pub and_then : ℕ → (Cursor → Index) → Reading Object → Index
and_then place next (Ok x) = (x.0 ∷ (next x.1).0, (next x.1).1)
and_then place next (Err fault) = ([], Some place)

-- each message has a byte at least, so that the bytes left bound the steps
abbrev pub read_on : ℕ → Cursor → Index
read_on zero c = ([], None)
read_on (suc steps) c = if length c.rest == 0 then ([], None) else and_then c.place (read_on steps) (object_at c)

abbrev pub index_of : List ℕ → Index
index_of bytes = read_on (length bytes) (from_start bytes)

abbrev pub reads_to_end : List ℕ → Bool
reads_to_end bytes = is_none (index_of bytes).1

abbrev pub found_shape : ℕ → Shape → Found
found_shape k (IsFile first n) = found.File (record { first = first; length = n })
found_shape k (IsFolder bindings) = found.Folder k
found_shape k IsOther = found.Other

-- the first object of the key from number k on
abbrev pub found_from : ℕ → List ℕ → List Object → Option ℕ → Found
found_from k key [] stop = option_map_or (λ place. found.Bad place) stop found.Missing
found_from k key (o ∷ os) stop = if same_name key o.key then found_shape k o.shape else found_from (suc k) key os stop

abbrev pub found_of : List ℕ → List ℕ → Found
found_of bytes key = found_from 0 key (index_of bytes).0 (index_of bytes).1

abbrev pub shape_bindings : Shape → Option (List BindingFields)
shape_bindings (IsFolder bindings) = Some bindings
shape_bindings (IsFile first n) = None
shape_bindings IsOther = None

-- the bindings of object number k, if it is a folder
abbrev pub bindings_of : List ℕ → ℕ → Option (List BindingFields)
bindings_of bytes k =
    option_and_then (λ (o : Object). shape_bindings o.shape) (slice_get (index_of bytes).0 k)

-- their names
abbrev pub names_of : Option (List BindingFields) → List Bytes
names_of (Some bindings) = map (λ b. b.name) bindings
names_of None = []

-- the first of a name
abbrev pub binding_in : Bytes → Option (List BindingFields) → Option BindingFields
binding_in name (Some bindings) = find (λ b. same_name name b.name) bindings
binding_in name None = None
