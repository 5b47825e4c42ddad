use Rattle.std.proofs.Common.{◌≡◌, ◌-◌, map}
use Rattle.ior_tap.specs.Iors.{view_profile}
use Rattle.ior_tap.specs.Inner.IorReading.{profile_at}
use Rattle.oc_bytes.specs.Cursor.{each_at}
use Rattle.oc_bytes.proofs.CallerLemmas.{with_front}
use Rattle.ior_tap.proofs.reading.profiles_of.Given as goal

abbrev pub invariant-loop : goal.invariant-loop
invariant-loop l = with_front (map view_profile l.profiles.items) (each_at profile_at (l.count - l.counter) l.fields) ≡ each_at profile_at l.count l.fn.fields
