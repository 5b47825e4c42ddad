-- What the code keeps of the DIIs that are held, and of those that wait.
use Rattle.std.specs.Prelude.{ℕ, ◌-◌, nat_le, List, [], ◌∷◌, map, Option, Some, None, ◌==◌, if◌then◌else◌}
use Rattle.module_cache.specs.Held.{TunedState}
use Rattle.module_cache.specs.Joining.{CacheState, outline_held, AreApart, AreOnce, AreDistinct}

-- what is left of so much, where it is enough
abbrev pub left_of : ℕ → ℕ → Option ℕ
left_of most n = if nat_le n most then Some (most - n) else None

abbrev pub numbers : List TunedState → List ℕ
numbers ts = map (λ t. t.identification) ts

-- the first of this identification is taken out
abbrev pub without : ℕ → List TunedState → List TunedState
without i [] = []
without i (t ∷ ts) = if t.identification == i then ts else t ∷ without i ts

pub record IsHeld (c : CacheState) : Type 0 where
  pub once : AreOnce (map outline_held c.held)
  pub apart : AreApart (map outline_held c.held)
  pub distinct : AreDistinct (numbers c.held)
  pub waiting : AreDistinct (numbers c.waiting)
