-- The list that a kept catalogue stands for, and the entries in it. All of it is this project's own.
use Rattle.std.specs.Prelude.{ℕ, zero, suc, List, [], ◌∷◌, map}
use Rattle.generation_catalogue.specs.History.{CatalogueState}
use Rattle.generation_catalogue.specs.declared.entry.Entry.{Entry as CatalogueEntry}
use Rattle.station.specs.declared.kept.KeptItem.{KeptItem}
use Rattle.station.specs.declared.kept.KeptItem.TheVariants.{Setting, Entry}

-- the setting first, and then the entries
abbrev pub items_of : CatalogueState → List KeptItem
items_of c = Setting c.carousel c.weights ∷ map Entry c.entries

-- the entries among the items
abbrev pub entries_in : List KeptItem → List CatalogueEntry
entries_in [] = []
entries_in (Setting carousel weights ∷ items) = entries_in items
entries_in (Entry e ∷ items) = e ∷ entries_in items

-- the carousel of the setting that the items begin with
abbrev pub carousel_in : List KeptItem → ℕ
carousel_in (Setting carousel weights ∷ items) = carousel
carousel_in items = 0

-- the places of entries, which are counted from 0 after the setting, out of places of items
abbrev pub entry_places : List ℕ → List ℕ
entry_places [] = []
entry_places (zero ∷ ps) = entry_places ps
entry_places (suc p ∷ ps) = p ∷ entry_places ps
