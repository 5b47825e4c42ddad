-- What an editor commits and the feeder draws, by their seats.
use Rattle.std.specs.Prelude.{◌≡◌, true, List}
use Rattle.path_tree.specs.declared.tree.Edit.{Edit}
use Rattle.history_lock.specs.declared.pass.Pass.{Pass}
use Rattle.station.specs.declared.kept.Kept.{Kept}
use Rattle.station.specs.declared.kept.KeptItem.{KeptItem}
use Rattle.station.specs.declared.station.Station.{Station}
use Rattle.station.specs.Passes.{carousel_of, weights_of}
use Rattle.std.specs.Arc.{arc_value}
use Rattle.ts_packet.specs.declared.Fate.{Fate}
use Rattle.generation_catalogue.specs.History.{CatalogueState, outcome_of, is_entered}
use Rattle.generation_catalogue.specs.declared.entry.Batch.{Batch}
use Rattle.carousel_world.specs.World.{Drawing}
use Rattle.session.specs.Chains.{GoesOnWith, seen_in}

-- a commit of these edits would be entered, on a history that goes on with what the pass has seen
abbrev pub WouldBeEntered : {X : _} {F : _} {g : _} → Station X F g → Pass Kept KeptItem → List Edit → Type 0
WouldBeEntered s p edits = (c : CatalogueState) × (GoesOnWith (carousel_of s) (weights_of s) (seen_in p) c) × (is_entered (outcome_of c edits) ≡ true)

-- a batch that was drawn, with what becomes of its packets
abbrev pub drawing_in : Batch → List Fate → Drawing
drawing_in b fates = record { generation = arc_value b.generation; items = b.items.items; fates = fates }
