-- In which module the object of an answer lies: the walk of the answer once more, as far as its last location.
use Rattle.std.specs.Prelude.{ℕ, List, [], ◌∷◌, Option, Some, None, if◌then◌else◌}
use Rattle.std.specs.List.{find}
use Rattle.path_tree.specs.Paths.{Bytes, PathNames, same_name}
use Rattle.ior_tap.specs.Iors.{biop_of_profiles}
use Rattle.biop_object.specs.Objects.{BindingFields}
use Rattle.biop_object.specs.ObjectReading.{found_of, bindings_of}
use Rattle.biop_object.specs.declared.module.Found.{Found}
use Rattle.biop_object.specs.declared.module.Found.TheVariants as found
use Rattle.path_resolver.specs.Resolving.{Held, HeldModule, Target, is_elsewhere, module_of, target_of}

-- the bytes of a location's module, where it is held whole
abbrev pub whole_bytes : Option HeldModule → Option Bytes
whole_bytes None = None
whole_bytes (Some h) = if h.line.compressed then None else h.bytes

abbrev pub bytes_at : ℕ → Held → Target → Option Bytes
bytes_at carousel held t = if is_elsewhere carousel t then None else whole_bytes (module_of held t)

abbrev pub bound_target : Option BindingFields → Option Target
bound_target (Some b) = target_of (biop_of_profiles b.target.profiles)
bound_target None = None

abbrev pub folder_target : Bytes → Option (List BindingFields) → Option Target
folder_target name (Some bindings) = bound_target (find (λ b. same_name name b.name) bindings)
folder_target name None = None

abbrev pub target_by : Bytes → Bytes → Found → Option Target
target_by name bytes (found.Folder k) = folder_target name (bindings_of bytes k)
target_by name bytes _ = None

abbrev pub target_in : Bytes → Target → Option Bytes → Option Target
target_in name t (Some bytes) = target_by name bytes (found_of bytes t.0.key)
target_in name t None = None

-- where a name leads from a location, if anywhere
abbrev pub next_target : ℕ → Held → Bytes → Target → Option Target
next_target carousel held name t = target_in name t (bytes_at carousel held t)

abbrev pub last_target : ℕ → Held → PathNames → Option Target → Option Target
last_target carousel held names None = None
last_target carousel held [] (Some t) = Some t
last_target carousel held (n ∷ ns) (Some t) = last_target carousel held ns (next_target carousel held n t)

abbrev pub module_at_end : Option Target → Option ℕ
module_at_end (Some t) = Some t.0.module
module_at_end None = None

-- the module of the last location on the walk along all names, where the walk comes so far
abbrev pub home_of : Held → PathNames → Option ℕ
home_of held path = go held.gateway held.label where
  go : Option Target → Option ℕ → Option ℕ
  go (Some g) (Some label) = module_at_end (last_target g.0.carousel held path (Some g))
  go _ _ = None
