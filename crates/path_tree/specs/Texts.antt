-- Paths as texts: `/` before each name, and `%` with two hexadecimal digits for a byte.
use Rattle.std.specs.Prelude.{ℕ, ◌+◌, ◌*◌, ◌/◌, ◌%◌, ◌-◌, Bool, ◌&&◌, ◌||◌, not, ◌==◌, nat_le, nat_lt, List, [], ◌∷◌, ◌++◌, length, Option, Some, None, Result, Ok, Err, if◌then◌else◌}
use Rattle.std.specs.List.{flat_map, list_any, slice_split}
use Rattle.path_tree.specs.Paths.{Bytes, PathNames}
use Rattle.path_tree.specs.declared.path.PathFault.{PathFault}
use Rattle.path_tree.specs.declared.path.PathFault.TheVariants as faults
use Rattle.path_tree.specs.declared.text.TheConstants.{MOST_NAMES}

-- what is wrong with a text: the place of a name, or too many names
pub data TextFault : Type 0 where
  BadName : ℕ → TextFault
  TooDeep : TextFault

abbrev pub text_cause : PathFault → Option TextFault
text_cause (faults.BadName place) = Some (BadName place)
text_cause faults.TooDeep = Some TooDeep
text_cause faults.NoMemory = None

-- the value of a hexadecimal digit of either case
abbrev pub digit : ℕ → Option ℕ
digit c =
    if nat_le 48 c && nat_le c 57 then Some (c - 48)
    else (if nat_le 65 c && nat_le c 70 then Some (c - 55)
    else (if nat_le 97 c && nat_le c 102 then Some (c - 87) else None))

-- how far an escape has come
pub data Escape : Type 0 where
  Plain : Escape
  Percent : Escape
  High : ℕ → Escape
  Broken : Escape

abbrev pub high_digit : Option ℕ → Escape
high_digit (Some h) = High h
high_digit None = Broken

abbrev pub low_digit : ℕ → Option ℕ → Bytes → Escape × Bytes
low_digit h (Some l) out = (Plain, out ++ (16 * h + l) ∷ [])
low_digit h None out = (Broken, out)

-- one byte of a name's text, after the bytes that are undone so far
abbrev pub undo : Escape → Bytes → ℕ → Escape × Bytes
undo Plain out c = if c == 37 then (Percent, out) else (Plain, out ++ c ∷ [])
undo Percent out c = (high_digit (digit c), out)
undo (High h) out c = low_digit h (digit c) out
undo Broken out c = (Broken, out)

abbrev pub undo_all : Escape × Bytes → Bytes → Escape × Bytes
undo_all state [] = state
undo_all state (c ∷ cs) = undo_all (undo state.0 state.1 c) cs

abbrev pub if_plain : Escape × Bytes → Option Bytes
if_plain (Plain, out) = Some out
if_plain (_, out) = None

abbrev pub is_zero_or_slash : ℕ → Bool
is_zero_or_slash b = (b == 0) || (b == 47)

-- a name has 1 to 254 bytes, none of them zero or a slash
abbrev pub is_name : Bytes → Bool
is_name name = nat_le 1 (length name) && nat_le (length name) 254 && not (list_any is_zero_or_slash name)

-- the path of one name more, where the name is a name of a path and the path has fewer than sixteen
abbrev pub with_below : PathNames → Bytes → Option PathNames
with_below path name = if is_name name && nat_lt (length path) MOST_NAMES then Some (path ++ name ∷ []) else None

abbrev pub checked_name : Option Bytes → Option Bytes
checked_name (Some name) = if is_name name then Some name else None
checked_name None = None

-- the bytes that a piece of text stands for once its escapes are undone
abbrev pub undo_escapes : Bytes → Option Bytes
undo_escapes piece = if_plain (undo_all (Plain, []) piece)

-- the name that a piece of text stands for
abbrev pub name_of : Bytes → Option Bytes
name_of piece = checked_name (undo_escapes piece)

abbrev pub with_name : Option Bytes → ℕ → Result PathNames TextFault → Result PathNames TextFault
with_name None place rest = Err (BadName place)
with_name (Some name) place (Ok names) = Ok (name ∷ names)
with_name (Some name) place (Err fault) = Err fault

-- the names of the pieces between slashes, the first of which begins at a place and is name number n
abbrev pub names_of : ℕ → ℕ → List Bytes → Result PathNames TextFault
names_of place n [] = Ok []
names_of place n (piece ∷ pieces) =
    if n == MOST_NAMES then Err TooDeep else with_name (name_of piece) place (names_of (place + length piece + 1) (n + 1) pieces)

abbrev pub is_slash : ℕ → Bool
is_slash b = b == 47

-- the names of what follows a text's first slash
abbrev pub names_after : Bytes → Result PathNames TextFault
names_after rest = names_of 1 0 (slice_split is_slash rest)

-- the path that a text stands for, or the first fault from the left
abbrev pub path_of : Bytes → Result PathNames TextFault
path_of [] = Err (BadName 0)
path_of (c ∷ []) = if c == 47 then Ok [] else Err (BadName 0)
path_of (c ∷ d ∷ cs) = if c == 47 then names_after (d ∷ cs) else Err (BadName 0)

abbrev pub upper_digit : ℕ → ℕ
upper_digit d = if nat_lt d 10 then 48 + d else 55 + d

abbrev pub printed_byte : ℕ → Bytes
printed_byte b =
    if nat_le 33 b && nat_le b 126 && not (b == 37) && not (b == 47) then b ∷ []
    else 37 ∷ upper_digit (b / 16) ∷ upper_digit (b % 16) ∷ []

abbrev pub printed_name : Bytes → Bytes
printed_name name = 47 ∷ flat_map printed_byte name

-- the text that `print` gives
abbrev pub text_of : PathNames → Bytes
text_of [] = 47 ∷ []
text_of (n ∷ ns) = flat_map printed_name (n ∷ ns)
