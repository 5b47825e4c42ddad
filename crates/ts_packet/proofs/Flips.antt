-- Fates of a packet, computed from the definition.
use Rattle.std.specs.Prelude.{◌≡◌, [], ◌∷◌, ◌++◌, replicate, Some, None, refl}
use Rattle.ts_packet.specs.declared.Fate.TheVariants.{Keep, Lose, Flip}
use Rattle.ts_packet.specs.Fates.{arrival_of}

first_bit : arrival_of (Flip 0) (replicate 188 0) ≡ Some (128 ∷ replicate 187 0)
first_bit = refl

last_bit : arrival_of (Flip 1503) (replicate 188 255) ≡ Some (replicate 187 255 ++ 254 ∷ [])
last_bit = refl

past_the_last_bit : arrival_of (Flip 1505) (replicate 188 0) ≡ Some (64 ∷ replicate 187 0)
past_the_last_bit = refl

kept_and_lost : (arrival_of Keep (1 ∷ []) ≡ Some (1 ∷ [])) × (arrival_of Lose (1 ∷ []) ≡ None)
kept_and_lost = (refl, refl)
