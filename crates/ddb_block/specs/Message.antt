-- The header that every download message has.
use Rattle.std.specs.Prelude.{◌≡◌, ℕ, ◌+◌, ◌<◌, List, [], ◌∷◌, ◌++◌, length, nat_le, ◌&&◌, ◌-◌, Ok, Err, if◌then◌else◌}
use Rattle.oc_bytes.specs.Cursor.{Cursor, Reading, ◌>>=◌, number_at, bytes_at, within}
use Rattle.oc_bytes.specs.Grammar.{Grammar, one, two, four, number, field, gives, this, read}
use Rattle.oc_bytes.specs.Numbers.{two_bytes, four_bytes}

-- the bytes are a message of this id and transaction with this body; the adaptation and what follows the message are passed over
pub record IsMessage (bytes : List ℕ) (id transaction : ℕ) (body : List ℕ) : Type 0 where
  pub adaptation : List ℕ
  pub trailing : List ℕ
  pub reserved : ℕ
  pub ranges : (id < 65536) × (transaction < 4294967296) × (reserved < 256) × (length adaptation < 256) × (length adaptation + length body < 65536)
  pub whole : bytes ≡ (0x11 ∷ 0x03 ∷ []) ++ two_bytes id ++ four_bytes transaction ++ (reserved ∷ length adaptation ∷ [])
      ++ two_bytes (length adaptation + length body) ++ adaptation ++ body ++ trailing

-- the spelling of a header before a body of this many bytes, without an adaptation
abbrev pub prefix_of : (id transaction size : ℕ) → List ℕ
prefix_of id transaction size = (0x11 ∷ 0x03 ∷ []) ++ two_bytes id ++ four_bytes transaction ++ (0xFF ∷ 0 ∷ []) ++ two_bytes size

-- the one spelling
abbrev pub message : ℕ → ℕ → List ℕ → List ℕ
message id transaction body = prefix_of id transaction (length body) ++ body

-- the fields of a header before its messageLength
pub record Opening : Type 0 where
  pub transaction : ℕ
  pub reserved : ℕ
  pub adaptation_length : ℕ

abbrev pub opening : ℕ → Grammar Opening
opening id =
    field (this one 0x11) (λ o. 0x11) λ protocol.
    field (this one 0x03) (λ o. 0x03) λ kind.
    field (this two id) (λ o. id) λ message_id.
    field (number four) (λ o. o.transaction) λ transaction.
    field (number one) (λ o. o.reserved) λ reserved.
    field (number one) (λ o. o.adaptation_length) λ adaptation_length.
    gives (record { transaction = transaction; reserved = reserved; adaptation_length = adaptation_length })

-- the transaction, and the cursor over the body
unfoldable pub message_at : ℕ → Cursor → Reading ℕ
message_at id c = do
  opened ← read (opening id) c
  size ← number_at 2 opened.1
  fitting ← if nat_le opened.0.adaptation_length size.0 && nat_le size.0 (length size.1.rest) then Ok size else Err opened.1.place
  adaptation ← bytes_at opened.0.adaptation_length fitting.1
  Ok (opened.0.transaction, within (size.0 - opened.0.adaptation_length) adaptation.1)
