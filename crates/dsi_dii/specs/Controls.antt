-- Control messages: the DSI with the gateway, and the DIIs with the modules.
use Rattle.std.specs.Prelude.{◌≡◌, ℕ, ◌+◌, ◌-◌, ◌*◌, ◌/◌, ◌%◌, ◌<◌, Bool, false, List, [], ◌∷◌, ◌++◌, length, replicate, drop, Option, Some, None, ◌==◌, if◌then◌else◌, take, Result, Ok, Err}
use Rattle.std.specs.List.{flat_map, list_any, All}
use Rattle.std.specs.Option.{option_map_or}
use Rattle.carousel_profile.specs.declared.TheConstants.{ASSOCIATION_TAG, BLOCK_SIZE, BLOCK_USE, DSI_TRANSACTION, NO_TIME_OUT}
use Rattle.oc_bytes.specs.Numbers.{two_bytes, four_bytes, number_of}
use Rattle.oc_bytes.specs.Descriptors.{descriptors_in}
use Rattle.ddb_block.specs.Message.{IsMessage, message, message_at}
use Rattle.ior_tap.specs.declared.Location.{Location}
use Rattle.dsi_dii.specs.declared.Dsi.{Dsi}
use Rattle.dsi_dii.specs.declared.Dii.{Dii}
use Rattle.dsi_dii.specs.declared.ModuleLine.{ModuleLine}
use Rattle.dsi_dii.specs.declared.Control.{Control}
use Rattle.dsi_dii.specs.declared.ControlFault.{ControlFault}
use Rattle.oc_bytes.specs.Grammar.{Grammar, one, two, four, number, bytes, sized, each, field, gives, passed, front_of, Reads as ReadsBy, read as read_by, spell}
use Rattle.dsi_dii.specs.declared.reading.Head.{Head}
use Rattle.oc_bytes.specs.Cursor.{Cursor, Reading, ◌>>=◌, from_start, read_from_start, value_only}
use Rattle.ior_tap.specs.Iors as iors
use Rattle.dsi_dii.specs.declared.Control.TheVariants as code
use Rattle.dsi_dii.specs.declared.ControlFault.TheVariants as faults

pub record DsiFields : Type 0 where
  pub transaction : ℕ
  pub gateway : iors.Fields

pub record DiiFields : Type 0 where
  pub download : ℕ
  pub block_size : ℕ
  pub transaction : ℕ
  pub modules : List ModuleLine

pub data Message : Type 0 where
  IsDsi : DsiFields → Message
  IsDii : DiiFields → Message

abbrev pub view_dsi : Dsi → DsiFields
view_dsi d = record { transaction = d.transaction.0; gateway = iors.view d.gateway }

abbrev pub view_dii : Dii → DiiFields
view_dii d = record { download = d.download; block_size = d.block_size; transaction = d.transaction.0; modules = d.modules.items }

abbrev pub view : Control → Message
view (code.Dsi d) = IsDsi (view_dsi d)
view (code.Dii d) = IsDii (view_dii d)

-- the parts of a transactionId
abbrev pub version_of : ℕ → ℕ
version_of transaction = transaction / 65536 % 16384

abbrev pub identification_of : ℕ → ℕ
identification_of transaction = transaction / 2 % 32768

-- the transactionId of DII j of generation g: its version is g, its identification is j, and its flag is the generation's last bit
abbrev pub dii_transaction : ℕ → ℕ → ℕ
dii_transaction g j = DSI_TRANSACTION + g * 65536 + 2 * j + g % 2

abbrev pub distance_of : ℕ → ℕ → ℕ
distance_of old new = (new + 16384 - old) % 16384

-- a whole descriptor of tag 0x09, compressed_module_descriptor, stands in the user info
abbrev pub is_compressed : List ℕ → Bool
is_compressed user_info = list_any (λ d. d.0 == 0x09) (descriptors_in user_info)

-- ---- the grammar

-- the user info of a moduleInfo, after three time-outs and the taps; written is the tap of the module's blocks
abbrev pub info : Grammar (List ℕ)
info =
    field (bytes 12) (λ u. four_bytes NO_TIME_OUT ++ four_bytes NO_TIME_OUT ++ four_bytes 0) λ times.
    field (number one) (λ u. 1) λ taps_count.
    field (passed (each iors.tap taps_count)
    (record { id = 0; use_code = BLOCK_USE; assoc = ASSOCIATION_TAG; selector = [] } ∷ [])) (λ u. tt) λ taps.
    sized one

-- a module; a moduleInfo that doesn't read is taken as one without user info (this project's own rule), and bytes after it
-- are passed over
abbrev pub line : Grammar ModuleLine
line =
    field (number two) (λ l. l.id) λ id.
    field (number four) (λ l. l.size) λ size.
    field (number one) (λ l. l.version) λ version.
    field (sized one) (λ l. spell info []) λ module_info.
    gives (record {
      id = id;
      size = size;
      version = version;
      compressed = option_map_or is_compressed (front_of info module_info) false;
    })

-- the fields of a DII before its modules
abbrev pub head : Grammar Head
head =
    field (number four) (λ h. h.download) λ download.
    field (number two) (λ h. h.block_size) λ block_size.
    field (number one) (λ h. 0) λ window_size.
    field (number one) (λ h. 0) λ ack_period.
    field (number four) (λ h. 0) λ download_window.
    field (number four) (λ h. 0) λ download_scenario.
    field (sized two) (λ h. []) λ compatibility.
    field (number two) (λ h. h.modules) λ modules.
    gives (record { download = download; block_size = block_size; modules = modules })

-- a DII in a message of this transactionId
abbrev pub dii_body : ℕ → Grammar DiiFields
dii_body transaction =
    field head (λ d.
    record { download = d.download; block_size = d.block_size; modules = length d.modules }) λ h.
    field (each line h.modules) (λ d. d.modules) λ modules.
    field (sized two) (λ d. []) λ private.
    gives (record { download = h.download; block_size = h.block_size; transaction = transaction; modules = modules })

-- the private data of a DSI, after its serverId and its compatibility descriptor
abbrev pub private_data : Grammar (List ℕ)
private_data =
    field (bytes 20) (λ p. replicate 20 0xFF) λ server.
    field (sized two) (λ p. []) λ compatibility.
    sized two

-- a DII's message; what follows the private data in it is passed over
pub record ReadsDii (payload : List ℕ) (d : DiiFields) : Type 0 where
  pub front : List ℕ
  pub trailing : List ℕ
  pub body : ReadsBy (dii_body d.transaction) front d
  pub message : IsMessage payload 0x1002 d.transaction (front ++ trailing)

-- the gateway's IOR stands at the front of the private data; what follows it there is passed over
pub record IsGateway (private : List ℕ) (gateway : iors.Fields) : Type 0 where
  pub reference : List ℕ
  pub rest : List ℕ
  pub whole : private ≡ reference ++ rest
  pub reads : iors.Reads reference gateway

-- the fields of a DSI round its private data; what follows that in the message is passed over
pub record IsDsiFrame (payload : List ℕ) (transaction : ℕ) (private : List ℕ) : Type 0 where
  pub front : List ℕ
  pub trailing : List ℕ
  pub body : ReadsBy private_data front private
  pub message : IsMessage payload 0x1006 transaction (front ++ trailing)

pub record ReadsDsi (payload : List ℕ) (d : DsiFields) : Type 0 where
  pub private : List ℕ
  pub frame : IsDsiFrame payload d.transaction private
  pub gateway : IsGateway private d.gateway

abbrev pub Reads : List ℕ → Message → Type 0
Reads payload (IsDsi d) = ReadsDsi payload d
Reads payload (IsDii d) = ReadsDii payload d

-- ---- what is written

-- a line whose numbers have room in their fields
pub record LineFits (l : ModuleLine) : Type 0 where
  pub id : l.id < 65536
  pub size : l.size < 4294967296
  pub version : l.version < 256

-- a moduleInfo without user info, byte by byte
abbrev pub written_info : List ℕ
written_info = four_bytes NO_TIME_OUT ++ four_bytes NO_TIME_OUT ++ four_bytes 0 ++ 1 ∷ two_bytes 0
    ++ two_bytes BLOCK_USE ++ two_bytes ASSOCIATION_TAG ++ 0 ∷ 0 ∷ []

abbrev pub line_bytes : ModuleLine → List ℕ
line_bytes l = two_bytes l.id ++ four_bytes l.size ++ l.version ∷ length written_info ∷ written_info

-- the fields of a DII before its modules, the windows and the compatibility descriptor being empty
abbrev pub dii_head : (download modules : ℕ) → List ℕ
dii_head download modules = four_bytes download ++ two_bytes BLOCK_SIZE ++ replicate 10 0 ++ two_bytes 0 ++ two_bytes modules

abbrev pub dii_spelling : DiiFields → List ℕ
dii_spelling d = message 0x1002 d.transaction (dii_head d.download (length d.modules) ++ flat_map line_bytes d.modules ++ two_bytes 0)

-- the body of a DSI round the gateway's IOR: no compatibility descriptor, no taps, no contexts, no user info
abbrev pub dsi_body : List ℕ → List ℕ
dsi_body reference = replicate 20 0xFF ++ two_bytes 0 ++ two_bytes (length reference + 4) ++ reference ++ (0 ∷ 0 ∷ two_bytes 0)

abbrev pub dsi_spelling : ℕ → List ℕ → Location → List ℕ
dsi_spelling transaction kind l = message 0x1006 transaction (dsi_body (iors.spelling kind l))

pub record IsWrittenDii (d : DiiFields) : Type 0 where
  pub blocks : d.block_size ≡ BLOCK_SIZE
  pub plain : All (λ l. l.compressed ≡ false) d.modules

abbrev pub cause : ControlFault → Option ℕ
cause (faults.NotControl place) = Some place
cause faults.NoMemory = None

-- ---- Reading control messages from left to right, with the place of the first field that breaks a rule or is cut
-- (ISO/IEC 13818-6, clauses 7.2, 7.3 and 11; ETSI TR 101 202, clause 4.7).

abbrev pub head_at : Cursor → Reading Head
head_at = read_by head

-- the fields of a DII before its modules, in its message
unfoldable pub opening_at : Cursor → Reading Head
opening_at c = do
  transaction ← message_at 0x1002 c
  head_at transaction.1

unfoldable pub dii_at : Cursor → Reading Message
dii_at c = do
  transaction ← message_at 0x1002 c
  dii ← read_by (dii_body transaction.0) transaction.1
  Ok (IsDii dii.0, dii.1)

-- the gateway's IOR, read inside the private data that stands at a place of the message
abbrev pub gateway_at : (place : ℕ) (private : List ℕ) → Cursor → Reading iors.Fields
gateway_at place private after = go (read_from_start (read_by iors.ior (from_start private))) where
  go : Result (iors.Fields × ℕ) ℕ → Reading iors.Fields
  go (Ok x) = Ok (x.0, after)
  go (Err at) = Err (place + at)

-- the private data of a DSI, in its message
unfoldable pub private_at : Cursor → Reading (List ℕ)
private_at c = do
  transaction ← message_at 0x1006 c
  read_by private_data transaction.1

unfoldable pub dsi_at : Cursor → Reading Message
dsi_at c = do
  transaction ← message_at 0x1006 c
  private ← read_by private_data transaction.1
  gateway ← gateway_at (private.1.place - length private.0) private.0 private.1
  Ok (IsDsi (record { transaction = transaction.0; gateway = gateway.0 }), gateway.1)

abbrev pub message_id_of : List ℕ → ℕ
message_id_of payload = number_of (take 2 (drop 2 payload))

-- the messageId decides; any other one than the two is a fault at its place
abbrev pub read : List ℕ → Result Message ℕ
read payload = value_only (if message_id_of payload == 0x1006 then dsi_at (from_start payload) else dii_at (from_start payload))
