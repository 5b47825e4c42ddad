use Rattle.std.proofs.Common.{◌≡◌, ◌-◌, List, ℕ}
use Rattle.std.specs.Option.{option_copied}
use Rattle.oc_bytes.specs.Cursor.{each_at}
use Rattle.oc_bytes.proofs.CallerLemmas.{with_front}
use Rattle.ior_tap.specs.Iors.{component_of}
use Rattle.ior_tap.specs.declared.tags.TheConstants.{LOCATION_TAG, BINDER_TAG}
use Rattle.ior_tap.specs.Inner.IorReading.{component_at}
use Rattle.ior_tap.proofs.reading.parts_of.Given as goal

-- the components that were read, of which the first of each of the two tags are kept
abbrev pub invariant-loop : goal.invariant-loop
invariant-loop l =
    (front : List (ℕ × List ℕ)) × (option_copied l.parts.location ≡ component_of LOCATION_TAG front) × (option_copied l.parts.binder ≡ component_of BINDER_TAG front)
    × (with_front front (each_at component_at (l.count - l.counter) l.fields) ≡ each_at component_at l.count l.fn.fields)
