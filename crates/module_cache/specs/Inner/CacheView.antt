-- What holds of a cache as the code keeps it.
use Rattle.module_cache.specs.Inner.Joining.{IsHeld}
use Rattle.module_cache.specs.declared.cache.Cache.TheInside.{Inside}
use Rattle.module_cache.specs.CacheView.{view_cache}

abbrev pub IsCache : Inside → Type 0
IsCache c = IsHeld (view_cache c)
