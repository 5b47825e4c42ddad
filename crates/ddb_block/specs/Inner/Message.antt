-- Parts of the header of a download message.
use Rattle.std.specs.Prelude.{ℕ, length, nat_le, ◌&&◌, ◌-◌, Ok, Err, if◌then◌else◌}
use Rattle.oc_bytes.specs.Cursor.{Cursor, Reading, ◌>>=◌, number_at, bytes_at, within}
use Rattle.ddb_block.specs.Message.{Opening}

abbrev pub opening_with : (transaction reserved adaptation_length : ℕ) → Opening
opening_with t r a = record { transaction = t; reserved = r; adaptation_length = a }

-- after the opening: its transaction, and the cursor over the body
unfoldable pub body_at : (transaction adaptation_length : ℕ) → Cursor → Reading ℕ
body_at transaction adaptation_length c = do
  size ← number_at 2 c
  fitting ← if nat_le adaptation_length size.0 && nat_le size.0 (length size.1.rest) then Ok size else Err c.place
  adaptation ← bytes_at adaptation_length fitting.1
  Ok (transaction, within (size.0 - adaptation_length) adaptation.1)
