-- What the code keeps of a catalogue, as its state.
use Rattle.generation_catalogue.specs.History.{CatalogueState}
use Rattle.generation_catalogue.specs.declared.journal.Journal.TheInside.{Inside}

abbrev pub view_journal : Inside → CatalogueState
view_journal j = record { carousel = j.carousel; weights = j.weights; entries = j.entries.items }
