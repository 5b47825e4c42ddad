-- What the sections of a generation say when they are heard.
use Rattle.std.proofs.Common.{◌≡◌, ℕ, ◌+◌, ◌*◌, ◌%◌, ◌<◌, ◌≤◌, List, length, map, take, drop, Ok, refl, ap, ◌∙◌, arith, lit<, lit≤, get_or, false, []}
use Rattle.std.proofs.lemmas.List.{length-take, length-map}
use Rattle.std.specs.List.{All}
use Rattle.std.proofs.lemmas.List.Elements.{All-map, All-filter}
use Rattle.std.specs.Option.{unwrap_or}
use Rattle.carousel_profile.specs.declared.TheConstants.{BLOCK_SIZE}
use Rattle.path_tree.specs.Paths.{Bytes}
use Rattle.ior_tap.specs.Iors as iors
use Rattle.ddb_block.specs.Blocks as ddb
use Rattle.dsi_dii.specs.Controls.{DsiFields, DiiFields, Message, IsDsi, IsDii, LineFits, dii_spelling, dsi_spelling}
use Rattle.dsi_dii.specs.Controls as controls
use Rattle.dsi_dii.specs.declared.ModuleLine.{ModuleLine}
use Rattle.dsi_dii.specs.Spellings.{IsSpellable, DiiSpellingsReadBack, DiiSpellingsHaveSize, DsiSpellingsReadBack, DsiSpellingsHaveSize}
use Rattle.dsmcc_section.specs.Sections as sections
use Rattle.biop_object.specs.declared.reading.TheConstants.{GATEWAY}
use Rattle.biop_object.specs.Names.{Layout, module_in}
use Rattle.cycle_planner.specs.declared.Item.{Item}
use Rattle.cycle_planner.specs.declared.Item.TheVariants.{Dsi, Dii, Block}
use Rattle.generation.specs.Layouts.{gateway_location, control_section, block_section}
use Rattle.generation.specs.Lawful.{layout_at, version_in, dii_in, section_in, IsItem}
use Rattle.generation.specs.Groups.{is_in_group, group_in, dii_transaction}
use Rattle.tuner_core.specs.Heard.{Heard, ADsi, ADii, ABlock, as_heard, heard_section, heard_in, heard_control, heard_block}
use Rattle.carousel_world.proofs.Modules.{IsSent, listed_holds, line_of, few_blocks, few_in_group}

-- what the crates below say of spellings
pub record Spelled : Type 0 where
  pub section : (s : sections.Fields) → sections.Fits s → sections.read (sections.spelling s) ≡ Ok s
  pub block : (b : ddb.Block) → ddb.Fits b → length b.bytes ≤ BLOCK_SIZE → ddb.read (ddb.spelling b) ≡ Ok b
  pub block_size : (b : ddb.Block) → length (ddb.spelling b) ≡ length b.bytes + 18
  pub dii : DiiSpellingsReadBack
  pub dii_size : DiiSpellingsHaveSize
  pub dsi : DsiSpellingsReadBack
  pub dsi_size : DsiSpellingsHaveSize

abbrev pub dsi_of : ℕ → DsiFields
dsi_of carousel = record { transaction = 0x80000000; gateway = iors.written_form GATEWAY (gateway_location carousel) }

abbrev pub module_of : List Layout → ℕ → ℕ → Bytes
module_of ls g m = unwrap_or (module_in (layout_at ls g) m) []

abbrev pub block_in : ℕ → List Layout → ℕ → ℕ → ℕ → ddb.Block
block_in carousel ls g m b = record { download = carousel; module_id = m; version = version_in ls g m; number = b; bytes = ddb.block_of (module_of ls g m) BLOCK_SIZE b }

abbrev pub says : ℕ → List Layout → ℕ → Item → Heard
says carousel ls g Dsi = ADsi (dsi_of carousel)
says carousel ls g (Dii j) = ADii (dii_in carousel ls g j)
says carousel ls g (Block m b) = ABlock (block_in carousel ls g m b)

-- ---- fields that have a spelling

short_length : (xs : Bytes) → length (take BLOCK_SIZE xs) ≤ BLOCK_SIZE
short_length xs = omega (arith, length-take BLOCK_SIZE xs)

pub dsi_written : (carousel : ℕ) → iors.IsWritten (iors.written_form GATEWAY (gateway_location carousel)) (gateway_location carousel)
dsi_written carousel = record { form = refl; four = refl; key = refl; listed = (lit≤ tt, lit≤ tt) }

pub number_below : (carousel : ℕ) (ls : List Layout) (g m b : ℕ) → IsSent carousel ls g → IsItem ls g (Block m b) → (m < 65536) × (b < 65536)
number_below carousel ls g m b sent item =
    let bytes = item.1.0 in
    let size : length bytes ≤ 16842752 = listed_holds (λ x. length x.1 ≤ 16842752) (layout_at ls g) m bytes sent.sizes item.1.1 in
    let id : m ≤ 2224 = listed_holds (λ x. x.0 ≤ 2224) (layout_at ls g) m bytes sent.ids item.1.1 in
    (omega (arith, id), omega (arith, few_blocks (length bytes) size, item.1.2))

listed_few : (carousel : ℕ) (ls : List Layout) (g j : ℕ) → IsSent carousel ls g → 1 ≤ j → length (dii_in carousel ls g j).modules ≤ 139
listed_few carousel ls g j sent some = omega (arith, length-map (group_in (layout_at ls g) j) (line_of (version_in ls g)), few_in_group carousel ls g j sent some)

control_fits : (extension : ℕ) (payload : Bytes) → extension < 65536 → length payload ≤ 4084 → sections.Fits (control_section extension payload)
control_fits extension payload lt le = record {
  extension = lt;
  version = lit< tt;
  number = lit< tt;
  last = lit< tt;
  body = omega (arith, le);
}

pub dsi_fits : (carousel : ℕ) → Spelled → sections.Fits (control_section 0 (dsi_spelling 0x80000000 GATEWAY (gateway_location carousel)))
dsi_fits carousel spelled =
    control_fits 0 (dsi_spelling 0x80000000 GATEWAY (gateway_location carousel)) (lit< tt)
    (omega (arith, spelled.dsi_size 0x80000000 GATEWAY (gateway_location carousel) (dsi_written carousel)))

pub dii_fits : (extension : ℕ) (d : DiiFields) → Spelled → extension < 65536 → length d.modules ≤ 139 → sections.Fits (control_section extension (dii_spelling d))
dii_fits extension d spelled lt few = control_fits extension (dii_spelling d) lt (omega (arith, spelled.dii_size d))

block_fits : (carousel m version b : ℕ) (bytes : Bytes) → Spelled → m < 65536 → sections.Fits (block_section carousel m version b bytes)
block_fits carousel m version b bytes spelled lt =
    let block : ddb.Block = record { download = carousel; module_id = m; version = version; number = b; bytes = ddb.block_of bytes BLOCK_SIZE b } in
    record {
      extension = lt;
      version = omega arith;
      number = omega arith;
      last = omega arith;
      body = omega (arith, spelled.block_size block, short_length (drop (b * BLOCK_SIZE) bytes));
    }

message_fits : (carousel m version b : ℕ) (bytes : Bytes) → carousel < 4294967296 → m < 65536 → version < 256 → b < 65536
    → ddb.Fits (record { download = carousel; module_id = m; version = version; number = b; bytes = bytes })
message_fits carousel m version b bytes h i j k = record { download = h; module_id = i; version = j; number = k }

-- ---- what is heard

hears : (s : sections.Fields) → Spelled → sections.Fits s → as_heard (sections.spelling s) ≡ heard_in s.table s.payload
hears s spelled f = ap heard_section (spelled.section s f)

pub hears_control : (extension : ℕ) (payload : Bytes) (message : Message) → Spelled → sections.Fits (control_section extension payload) → controls.read payload ≡ Ok message
    → as_heard (sections.spelling (control_section extension payload)) ≡ heard_control (Ok message)
hears_control extension payload message spelled f e = hears (control_section extension payload) spelled f ∙ ap heard_control e

pub hears_block : (carousel m version b : ℕ) (bytes : Bytes) → Spelled → carousel < 4294967296 → m < 65536 → version < 256 → b < 65536
    → as_heard (sections.spelling (block_section carousel m version b bytes))
    ≡ ABlock (record { download = carousel; module_id = m; version = version; number = b; bytes = ddb.block_of bytes BLOCK_SIZE b })
hears_block carousel m version b bytes spelled h i j k =
    hears (block_section carousel m version b bytes) spelled (block_fits carousel m version b bytes spelled i)
    ∙ ap heard_block (spelled.block (record { download = carousel; module_id = m; version = version; number = b; bytes = ddb.block_of bytes BLOCK_SIZE b })
    (message_fits carousel m version b (ddb.block_of bytes BLOCK_SIZE b) h i j k) (short_length (drop (b * BLOCK_SIZE) bytes)))

pub plain_lines : (version : ℕ → ℕ) (layout : Layout) → All (λ l. l.compressed ≡ false) (map (line_of version) layout)
plain_lines version layout = All-map (λ (l : ModuleLine). l.compressed ≡ false) (line_of version) layout (λ k d lt. refl)

pub lines_fit : (version : ℕ → ℕ) (layout : Layout) → ((m : ℕ) → version m < 256) → All (λ m. m.0 < 65536) layout → All (λ m. length m.1 ≤ 16842752) layout
    → All LineFits (map (line_of version) layout)
lines_fit version layout small ids sizes =
    All-map LineFits (line_of version) layout
    (λ k d lt. record { id = ids k d lt; size = le_lt (length (get_or layout k d).1) (sizes k d lt); version = small (get_or layout k d).0 })
  where
    le_lt : (n : ℕ) → n ≤ 16842752 → n < 4294967296
    le_lt n le = omega arith

pub version_small : (ls : List Layout) (g m : ℕ) → version_in ls g m < 256
version_small ls g m = omega arith

pub extension_small : (n : ℕ) → n % 65536 < 65536
extension_small n = omega arith

spellable : (carousel : ℕ) (ls : List Layout) (g j : ℕ) → IsSent carousel ls g → 1 ≤ j → j ≤ 16 → IsSpellable (dii_in carousel ls g j)
spellable carousel ls g j sent some few = record {
  written = record { blocks = refl; plain = plain_lines (version_in ls g) (group_in (layout_at ls g) j) };
  lines = lines_fit (version_in ls g) (group_in (layout_at ls g) j) (version_small ls g)
      (λ k d inside. small (get_or (group_in (layout_at ls g) j) k d).0 (All-filter (is_in_group j) (λ m. m.0 ≤ 2224) (layout_at ls g) sent.ids k d inside))
      (All-filter (is_in_group j) (λ m. length m.1 ≤ 16842752) (layout_at ls g) sent.sizes);
  few = listed_few carousel ls g j sent some;
  download = sent.carousel_id;
  transaction = transaction_small g j sent.generation few;
} where
  small : (m : ℕ) → m ≤ 2224 → m < 65536
  small m le = omega (arith, le)

  transaction_small : (g j : ℕ) → g < 16384 → j ≤ 16 → dii_transaction g j < 4294967296
  transaction_small g j lt le = omega (arith, lt, le)

pub hears_item : (carousel : ℕ) (ls : List Layout) (g : ℕ) → Spelled → IsSent carousel ls g → (item : Item) → IsItem ls g item
    → as_heard (section_in carousel ls g item) ≡ says carousel ls g item
hears_item carousel ls g spelled sent Dsi item =
    hears_control 0 (dsi_spelling 0x80000000 GATEWAY (gateway_location carousel)) (IsDsi (dsi_of carousel)) spelled (dsi_fits carousel spelled)
    (spelled.dsi 0x80000000 GATEWAY (gateway_location carousel) (lit< tt) (dsi_written carousel) (record { carousel = sent.carousel_id; module_id = lit< tt }))
hears_item carousel ls g spelled sent (Dii j) item =
    hears_control (dii_transaction g j % 65536) (dii_spelling (dii_in carousel ls g j)) (IsDii (dii_in carousel ls g j)) spelled
    (dii_fits (dii_transaction g j % 65536) (dii_in carousel ls g j) spelled (extension_small (dii_transaction g j)) (listed_few carousel ls g j sent item.2))
    (spelled.dii (dii_in carousel ls g j) (spellable carousel ls g j sent item.2 item.3))
hears_item carousel ls g spelled sent (Block m b) item =
    let small = number_below carousel ls g m b sent item in
    hears_block carousel m (version_in ls g m) b (module_of ls g m) spelled sent.carousel_id small.0 (version_small ls g m) small.1

-- ---- a stream of sections can be cut by each

pub item_framed : (carousel : ℕ) (ls : List Layout) (g : ℕ) → ((s : sections.Fields) → sections.Fits s → sections.IsFramed (sections.spelling s)) → Spelled → IsSent carousel ls g
    → (item : Item) → IsItem ls g item → sections.IsFramed (section_in carousel ls g item)
item_framed carousel ls g framed spelled sent Dsi item = framed (control_section 0 (dsi_spelling 0x80000000 GATEWAY (gateway_location carousel))) (dsi_fits carousel spelled)
item_framed carousel ls g framed spelled sent (Dii j) item =
    framed (control_section (dii_transaction g j % 65536) (dii_spelling (dii_in carousel ls g j)))
    (dii_fits (dii_transaction g j % 65536) (dii_in carousel ls g j) spelled (extension_small (dii_transaction g j)) (listed_few carousel ls g j sent item.2))
item_framed carousel ls g framed spelled sent (Block m b) item =
    framed (block_section carousel m (version_in ls g m) b (module_of ls g m))
    (block_fits carousel m (version_in ls g m) b (module_of ls g m) spelled (number_below carousel ls g m b sent item).0)
