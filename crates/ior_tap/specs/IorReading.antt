-- Reading an IOR from left to right, part by part, with the place of the first field that breaks a rule or is cut.
use Rattle.std.specs.Prelude.{ℕ}
use Rattle.oc_bytes.specs.Cursor.{Cursor, Reading, ◌>>=◌, number_at, bytes_at, this_at}
use Rattle.oc_bytes.specs.Grammar.{read}
use Rattle.ior_tap.specs.Iors.{Fields, TapFields, tap, ior}

abbrev pub tap_at : Cursor → Reading TapFields
tap_at = read tap

abbrev pub ior_at : Cursor → Reading Fields
ior_at = read ior

-- the number of profiles, which stands before them
unfoldable pub profile_count_at : Cursor → Reading ℕ
profile_count_at c = do
  type_id_length ← this_at 4 4 c
  type_id ← bytes_at 4 type_id_length.1
  number_at 4 type_id.1
