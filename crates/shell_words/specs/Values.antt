-- What single words stand for, and one or more of them.
use Rattle.std.specs.Prelude.{◌≡◌, ℕ, ◌≤◌, Bool, true, false, ◌&&◌, ◌||◌, ◌==◌, nat_le, List, [], ◌∷◌, length, Option, Some, None, Result, Ok, Err, if◌then◌else◌, map}
use Rattle.std.specs.List.{All, list_all, slice_split, before_first, after_first}
use Rattle.std.specs.String.{string_bytes}
use Rattle.std.specs.declared.string.String.{String}
use Rattle.oc_bytes.specs.Decimals.{is_digit, decimal_in}
use Rattle.path_tree.specs.Paths.{Bytes, PathNames}
use Rattle.path_tree.specs.Texts.{path_of, TextFault}
use Rattle.shell_words.specs.declared.values.TheConstants.{MOST_PID, MOST_WATCHED}
use Rattle.shell_words.specs.declared.table.TheConstants.{MOST_MOUNT_NAME}

infixl 10 ◌>>=◌
abbrev pub ◌>>=◌ : {A B : Type 0} → Option A → (A → Option B) → Option B
(Some x) >>= f = f x
None >>= f = None

-- the bytes of each word of a command line
abbrev pub word_bytes : {Z : Type 0} → List (String Z) → List Bytes
word_bytes words = map string_bytes words

abbrev pub begins_with_dash : Bytes → Bool
begins_with_dash [] = false
begins_with_dash (c ∷ cs) = c == 45

abbrev pub pid_in : Bytes → Option ℕ
pid_in word = decimal_in 0 MOST_PID word

abbrev pub any_u32_in : Bytes → Option ℕ
any_u32_in word = decimal_in 0 4294967295 word

-- at least one byte
abbrev pub folder_in : Bytes → Option Bytes
folder_in [] = None
folder_in (c ∷ cs) = Some (c ∷ cs)

abbrev pub path_by : Result PathNames TextFault → Option PathNames
path_by (Ok path) = Some path
path_by (Err fault) = None

abbrev pub path_in : Bytes → Option PathNames
path_in word = path_by (path_of word)

-- ---- several words

abbrev pub onto : {A : Type 0} → Option A → Option (List A) → Option (List A)
onto (Some x) (Some xs) = Some (x ∷ xs)
onto _ _ = None

-- what each word stands for, where each stands for something
abbrev pub each_in : {A : Type 0} → (Bytes → Option A) → List Bytes → Option (List A)
each_in value_in [] = Some []
each_in value_in (word ∷ words) = onto (value_in word) (each_in value_in words)

-- one or more paths
abbrev pub paths_in : List Bytes → Option (List PathNames)
paths_in [] = None
paths_in (word ∷ words) = each_in path_in (word ∷ words)

-- at most so many
abbrev pub watched_in : List Bytes → Option (List PathNames)
watched_in words = if nat_le (length words) MOST_WATCHED then paths_in words else None

-- ---- a table of carousels

-- the name of a carousel, and its PID
abbrev pub Entry : Type 0
Entry = Bytes × ℕ

abbrev pub is_comma : ℕ → Bool
is_comma b = b == 44

abbrev pub is_equals_sign : ℕ → Bool
is_equals_sign b = b == 61

abbrev pub is_lower_or_digit : ℕ → Bool
is_lower_or_digit b = (nat_le 97 b && nat_le b 122) || is_digit b

-- 1 to 32 lower case letters or digits
abbrev pub is_mount_name : Bytes → Bool
is_mount_name name = nat_le 1 (length name) && nat_le (length name) MOST_MOUNT_NAME && list_all is_lower_or_digit name

abbrev pub mount_name_in : Bytes → Option Bytes
mount_name_in text = if is_mount_name text then Some text else None

-- NAME=PID, cut at the first equals sign; where there is none, nothing stands behind it, which is no PID
abbrev pub entry_in : Bytes → Option Entry
entry_in text = do
  name ← mount_name_in (before_first is_equals_sign text)
  pid ← pid_in (after_first is_equals_sign text)
  Some (name, pid)

-- one or more entries with a comma between each two
abbrev pub table_in : Bytes → Option (List Entry)
table_in word = each_in entry_in (slice_split is_comma word)

-- a name of a carousel, and a PID of a stream
pub record IsEntry (entry : Entry) : Type 0 where
  pub name : is_mount_name entry.0 ≡ true
  pub pid : entry.1 ≤ MOST_PID

abbrev pub IsTable : List Entry → Type 0
IsTable table = All IsEntry table
