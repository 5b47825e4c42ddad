-- What a candidate says, as definitions see it.
use Rattle.ddb_block.specs.Blocks.{parts_view}
use Rattle.dsi_dii.specs.Controls.{view_dsi, view_dii}
use Rattle.tuner_core.specs.Heard.{Heard, Skipped, NoControl, NoBlock, ADsi, ADii, ABlock}
use Rattle.tuner_core.specs.declared.hearing.Told.{Told}
use Rattle.tuner_core.specs.declared.hearing.Told.TheVariants as told

abbrev pub view_told : Told → Heard
view_told (told.Skipped skip) = Skipped skip
view_told (told.NoControl place) = NoControl place
view_told (told.NoBlock place) = NoBlock place
view_told (told.Dsi d) = ADsi (view_dsi d)
view_told (told.Dii d) = ADii (view_dii d)
view_told (told.Block b) = ABlock (parts_view b)
