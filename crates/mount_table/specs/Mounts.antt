-- Several carousels under names in one tree, each on a PID of its own: which lists of mounts are refused, the order of a table, and the
-- answer to a path. These rules are this project's own.
use Rattle.std.specs.Prelude.{ℕ, Bool, not, ◌&&◌, ◌||◌, List, [], ◌∷◌, length, map, take, Option, Some, None, slice_get, nat_lt, nat_le, is_some, ◌==◌, false, if◌then◌else◌}
use Rattle.std.specs.Char.{is_ascii_digit, is_ascii_lowercase}
use Rattle.std.specs.List.{filter_map, find, list_all, list_any, enumerate_from}
use Rattle.std.specs.List.Sorted.{IsPermutation, IsSortedByKey}
use Rattle.carousel_profile.specs.declared.TheConstants.{MOST_PID}
use Rattle.path_tree.specs.Paths.{Bytes, PathNames, name_cmp, same_name}
use Rattle.section_stream.specs.Cuts.{candidates}
use Rattle.tuner_core.specs.LookBack.{answer_after}
use Rattle.mount_table.specs.declared.mount.Mount.{Mount}
use Rattle.mount_table.specs.declared.mount.TheConstants.{MOST_MOUNTS, MOST_NAME}
use Rattle.mount_table.specs.declared.fault.TableFault.{TableFault}
use Rattle.mount_table.specs.declared.fault.TableFault.TheVariants.{TooMany, BadName, BadPid, NameTwice, PidTwice, NoMemory}
use Rattle.mount_table.specs.declared.mounts.Mounted.{Mounted}
use Rattle.mount_table.specs.declared.mounts.Mounted.TheVariants.{Root, NoMount, At}

-- ---- which lists of mounts are refused

-- a to z and 0 to 9
abbrev pub is_letter_or_digit : ℕ → Bool
is_letter_or_digit b = is_ascii_lowercase b || is_ascii_digit b

-- lower case letters and digits, at least one of them
abbrev pub is_mount_name : Bytes → Bool
is_mount_name name = not (length name == 0) && nat_le (length name) MOST_NAME && list_all is_letter_or_digit name

abbrev pub has_name : Bytes → List Mount → Bool
has_name name mounts = list_any (λ m. same_name m.name name) mounts

abbrev pub has_pid : ℕ → List Mount → Bool
has_pid pid mounts = list_any (λ m. m.pid == pid) mounts

-- the first rule that the mount at this place breaks, with these before it
abbrev pub fault_at : (place : ℕ) → (earlier : List Mount) → Mount → Option TableFault
fault_at place earlier m =
    if not (is_mount_name m.name) then Some (BadName place)
    else (if nat_lt MOST_PID m.pid then Some (BadPid place)
    else (if has_name m.name earlier then Some (NameTwice place)
    else (if has_pid m.pid earlier then Some (PidTwice place) else None)))

-- of each mount that breaks a rule the first, in the mounts' order
abbrev pub faults_of : List Mount → List TableFault
faults_of mounts = filter_map (λ x. fault_at x.0 (take x.0 mounts) x.1) (enumerate_from 0 mounts)

-- why no table is made of this list, unless there is no memory for it
abbrev pub refusal_of : List Mount → Option TableFault
refusal_of mounts = if nat_lt MOST_MOUNTS (length mounts) then Some TooMany else slice_get (faults_of mounts) 0

-- what a refusal says of the list: nothing where it is of memory
abbrev pub refusal_in : TableFault → Option TableFault
refusal_in NoMemory = None
refusal_in fault = Some fault

-- ---- the order of a table

-- the table has the mounts of the list, each once, in the order of their names' bytes
pub record IsTableOf (list table : List Mount) : Type 0 where
  pub moved : IsPermutation list table
  pub rises : IsSortedByKey (λ (m : Mount). m.name) name_cmp table

abbrev pub names_of : List Mount → List Bytes
names_of mounts = map (λ m. m.name) mounts

-- ---- the answer to a path

abbrev pub mount_named : List Mount → Bytes → Option Mount
mount_named mounts name = find (λ m. same_name m.name name) mounts

-- on a mount: its receiver's answer to what follows its name, after the candidates of its PID among these packets
abbrev pub at_mount : List Bytes → PathNames → Option Mount → Mounted
at_mount packets rest (Some m) = At m.pid (answer_after (candidates m.pid packets) rest)
at_mount packets rest None = NoMount

-- the answer to a path after these packets: its first name is a mount's
abbrev pub mounted_after : List Mount → List Bytes → PathNames → Mounted
mounted_after mounts packets [] = Root
mounted_after mounts packets (n ∷ rest) = at_mount packets rest (mount_named mounts n)

-- the path's first name is a mount's
abbrev pub is_under_mount : List Mount → PathNames → Bool
is_under_mount mounts [] = false
is_under_mount mounts (n ∷ rest) = is_some (mount_named mounts n)
