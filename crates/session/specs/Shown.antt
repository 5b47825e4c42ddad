-- What is carried of drawings, and the shots that are shown after them.
use Rattle.std.specs.Prelude.{◌≡◌, ℕ, ◌+◌, List, [], map, length, slice_get, Some}
use Rattle.path_resolver.specs.declared.shot.Shot.{Shot}
use Rattle.path_resolver.specs.Shots.{view}
use Rattle.tuner_core.specs.LookBack.{snapshot_after}
use Rattle.carousel_world.specs.DownView.{DownlinkState, DownlinkStands}
use Rattle.carousel_world.specs.World.{Drawing, groups_sent, arrivals}
use Rattle.history_merge.specs.Merged.{candidates_after}

-- one shot before the first drawing and one after each; the shot of number k is what is held after the first k drawings
pub record AreShots (drawings : List Drawing) (shots : List Shot) : Type 0 where
  pub count : length shots ≡ length drawings + 1
  pub each : (k : ℕ) (shot : Shot) → slice_get shots k ≡ Some shot → view shot ≡ snapshot_after k k (candidates_after drawings k)

-- these drawings were carried, each packet with its fate, and after each a shot was shown
pub record HasShown (drawings : List Drawing) (down : DownlinkState) (shots : List Shot) : Type 0 where
  pub carried : DownlinkStands down 256 (groups_sent drawings) [] (map (λ a. a.1) (arrivals drawings))
  pub shown : AreShots drawings shots
