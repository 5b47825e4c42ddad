-- One module out of sections.
use Rattle.std.specs.Prelude.{ℕ, false, List, [], ◌∷◌, Option, None, Result, Ok, Err}
use Rattle.std.specs.Result.{result_ok}
use Rattle.ddb_block.specs.Blocks as ddb
use Rattle.dsi_dii.specs.Controls.{DiiFields}
use Rattle.dsi_dii.specs.declared.ModuleLine.{ModuleLine}
use Rattle.module_cache.specs.Turns as back
use Rattle.dsmcc_section.specs.Sections as sections
use Rattle.dsmcc_section.specs.declared.Table.{Table}
use Rattle.dsmcc_section.specs.declared.Table.TheVariants.{Control, Blocks}
use Rattle.dsmcc_section.specs.declared.Skip.{Skip}
use Rattle.shell_streams.specs.Cuts.{Bytes}
use Rattle.receiver_commands.specs.declared.assemble.TheConstants.{ASSEMBLED_BLOCK}

-- the module that a command asks for: its id, version and size, and the download that carries it
pub record Asked : Type 0 where
  pub id : ℕ
  pub version : ℕ
  pub size : ℕ
  pub download : ℕ

abbrev pub asked_module : (id version size download : ℕ) → Asked
asked_module id version size download = record { id = id; version = version; size = size; download = download }

-- the block message that a section carries, where it is one
abbrev pub block_in_table : Table → Bytes → Option ddb.Block
block_in_table Control payload = None
block_in_table Blocks payload = result_ok (ddb.read payload)

abbrev pub block_in_section : Result sections.Fields Skip → Option ddb.Block
block_in_section (Ok s) = block_in_table s.table s.payload
block_in_section (Err skip) = None

abbrev pub block_heard : Bytes → Option ddb.Block
block_heard candidate = block_in_section (sections.read candidate)

-- the asked module's line, and a DII that lists it
abbrev pub asked_line : Asked → ModuleLine
asked_line m = record { id = m.id; size = m.size; version = m.version; compressed = false }

abbrev pub asked_dii : Asked → DiiFields
asked_dii m = record {
  download = m.download;
  block_size = ASSEMBLED_BLOCK;
  transaction = 0;
  modules = asked_line m ∷ [];
}

-- the blocks of the module by rising number, where they are there: of each the first of these sections that fits
abbrev pub blocks_among : Asked → List Bytes → List (Option Bytes)
blocks_among m sections = back.blocks_among block_heard sections (asked_dii m) (asked_line m)
