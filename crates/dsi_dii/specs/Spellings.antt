-- What is written is read back, as a law of the definitions.
use Rattle.std.specs.Prelude.{◌≡◌, ℕ, ◌+◌, ◌*◌, ◌<◌, ◌≤◌, List, length, Ok}
use Rattle.std.specs.List.{All}
use Rattle.ior_tap.specs.Iors as iors
use Rattle.ior_tap.specs.declared.Location.{Location}
use Rattle.dsi_dii.specs.declared.TheConstants.{MOST_MODULES}
use Rattle.dsi_dii.specs.Controls.{DiiFields, IsWrittenDii, LineFits, IsDsi, IsDii, dii_spelling, dsi_spelling, read}

-- a DII of the written form whose numbers have room in their fields, and whose modules have room in a section
pub record IsSpellable (d : DiiFields) : Type 0 where
  pub written : IsWrittenDii d
  pub lines : All LineFits d.modules
  pub few : length d.modules ≤ MOST_MODULES
  pub download : d.download < 4294967296
  pub transaction : d.transaction < 4294967296

abbrev pub DiiSpellingsReadBack : Type 0
DiiSpellingsReadBack = (d : DiiFields) → IsSpellable d → read (dii_spelling d) ≡ Ok (IsDii d)

abbrev pub DiiSpellingsHaveSize : Type 0
DiiSpellingsHaveSize = (d : DiiFields) → length (dii_spelling d) ≡ 34 + 29 * length d.modules

abbrev pub DsiSpellingsReadBack : Type 0
DsiSpellingsReadBack = (transaction : ℕ) (kind : List ℕ) (l : Location) → transaction < 4294967296 → iors.IsWritten (iors.written_form kind l) l → iors.IsLocation l
    → read (dsi_spelling transaction kind l) ≡ Ok (IsDsi (record { transaction = transaction; gateway = iors.written_form kind l }))

abbrev pub DsiSpellingsHaveSize : Type 0
DsiSpellingsHaveSize = (transaction : ℕ) (kind : List ℕ) (l : Location) → iors.IsWritten (iors.written_form kind l) l → length (dsi_spelling transaction kind l) ≡ 103
