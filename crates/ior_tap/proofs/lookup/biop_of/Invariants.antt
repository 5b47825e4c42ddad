use Rattle.std.proofs.Common.{◌≡◌, map, drop}
use Rattle.ior_tap.specs.Iors.{biop_of_profiles, view_profile}
use Rattle.ior_tap.proofs.lookup.biop_of.Given as goal

abbrev pub invariant-loop-profile : goal.invariant-loop-profile
invariant-loop-profile l = biop_of_profiles (map view_profile (drop l.profile-index l.profile-items)) ≡ biop_of_profiles (map view_profile l.fn.ior.profiles.items)
