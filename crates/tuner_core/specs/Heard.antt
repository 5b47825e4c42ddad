-- What a candidate says.
use Rattle.std.specs.Prelude.{ℕ, Bool, Result, Ok, Err, is_ok}
use Rattle.path_tree.specs.Paths.{Bytes}
use Rattle.ddb_block.specs.Blocks as ddb
use Rattle.dsi_dii.specs.Controls.{DsiFields, DiiFields, Message, IsDsi, IsDii}
use Rattle.dsi_dii.specs.Controls as controls
use Rattle.dsmcc_section.specs.Sections as sections
use Rattle.dsmcc_section.specs.declared.Table.{Table}
use Rattle.dsmcc_section.specs.declared.Table.TheVariants.{Control, Blocks}
use Rattle.dsmcc_section.specs.declared.Skip.{Skip}

pub data Heard : Type 0 where
  -- no section, with the cause
  Skipped : Skip → Heard
  -- a section of a table that holds no message of it, with the place
  NoControl : ℕ → Heard
  NoBlock : ℕ → Heard
  ADsi : DsiFields → Heard
  ADii : DiiFields → Heard
  ABlock : ddb.Block → Heard

abbrev pub heard_control : Result Message ℕ → Heard
heard_control (Ok (IsDsi d)) = ADsi d
heard_control (Ok (IsDii d)) = ADii d
heard_control (Err place) = NoControl place

abbrev pub heard_block : Result ddb.Block ℕ → Heard
heard_block (Ok b) = ABlock b
heard_block (Err place) = NoBlock place

abbrev pub heard_in : Table → Bytes → Heard
heard_in Control payload = heard_control (controls.read payload)
heard_in Blocks payload = heard_block (ddb.read payload)

abbrev pub heard_section : Result sections.Fields Skip → Heard
heard_section (Ok s) = heard_in s.table s.payload
heard_section (Err skip) = Skipped skip

abbrev pub as_heard : Bytes → Heard
as_heard candidate = heard_section (sections.read candidate)

-- a candidate is accepted where it is read as a section
abbrev pub is_accepted : Bytes → Bool
is_accepted candidate = is_ok (sections.read candidate)
