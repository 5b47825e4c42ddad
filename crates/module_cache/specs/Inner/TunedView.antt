-- What holds of a held DII as the code keeps it.
use Rattle.std.specs.Prelude.{◌≡◌, ◌<◌, true, map}
use Rattle.module_cache.specs.Joining.{no_id_twice}
use Rattle.module_cache.specs.Inner.Reaches.{AreWithin}
use Rattle.module_cache.specs.declared.tuned.Tuned.TheInside.{Inside}

-- no module has two lines, and each line's id is in the range that is kept
pub record IsTuned (t : Inside) : Type 0 where
  pub version : t.version < 16384
  pub once : no_id_twice (map (λ x. x.line) t.lines.items) ≡ true
  pub within : AreWithin t.reach (map (λ x. x.line) t.lines.items)
