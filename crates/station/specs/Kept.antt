-- What a kept catalogue stands for.
use Rattle.std.specs.Prelude.{List}
use Rattle.station.specs.declared.kept.Kept.{Kept}
use Rattle.station.specs.declared.kept.KeptItem.{KeptItem}
use Rattle.station.specs.Items.{items_of}

abbrev pub list_of : Kept → List KeptItem
list_of kept = items_of kept.journal
