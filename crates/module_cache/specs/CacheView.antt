-- A cache as the code keeps it, as a state.
use Rattle.module_cache.specs.Joining.{CacheState}
use Rattle.module_cache.specs.declared.cache.Cache.TheInside.{Inside}

abbrev pub view_cache : Inside → CacheState
view_cache c = record { held = c.held.items; waiting = c.waiting.items }
