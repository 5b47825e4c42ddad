-- A held DII as the code keeps it, as a state.
use Rattle.module_cache.specs.Held.{TunedState}
use Rattle.module_cache.specs.declared.tuned.Tuned.TheInside.{Inside}

abbrev pub view_tuned : Inside → TunedState
view_tuned t = record { download = t.download; block_size = t.block_size; identification = t.identification; version = t.version; lines = t.lines.items }
