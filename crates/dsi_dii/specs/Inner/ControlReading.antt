-- Reading parts of a DII.
use Rattle.oc_bytes.specs.Cursor.{Cursor, Reading}
use Rattle.oc_bytes.specs.Grammar.{read as read_by}
use Rattle.dsi_dii.specs.declared.ModuleLine.{ModuleLine}
use Rattle.dsi_dii.specs.Controls.{line}

abbrev pub line_at : Cursor → Reading ModuleLine
line_at = read_by line
