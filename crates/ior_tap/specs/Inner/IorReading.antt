-- Reading the parts of an IOR, with the place of the first field that breaks a rule or is cut.
use Rattle.std.specs.Prelude.{ℕ, List, Option, Ok}
use Rattle.oc_bytes.specs.Cursor.{Cursor, Reading, ◌>>=◌, each_at}
use Rattle.oc_bytes.specs.Grammar.{read}
use Rattle.ior_tap.specs.declared.Location.{Location}
use Rattle.ior_tap.specs.Iors.{ProfileFields, TapFields, component_of, component, location, taps, components, profile}
use Rattle.ior_tap.specs.declared.tags.TheConstants.{LOCATION_TAG, BINDER_TAG}

abbrev pub component_at : Cursor → Reading (ℕ × List ℕ)
component_at = read component

abbrev pub location_at : Cursor → Reading Location
location_at = read location

abbrev pub taps_at : Cursor → Reading (List TapFields)
taps_at = read taps

abbrev pub components_at : Cursor → Reading (List (ℕ × List ℕ))
components_at = read components

abbrev pub profile_at : Cursor → Reading ProfileFields
profile_at = read profile

-- the bytes of a location and of a binder
abbrev pub Parts : Type 0
Parts = Option (List ℕ) × Option (List ℕ)

-- the first component of each of the two tags
abbrev pub parts_of : List (ℕ × List ℕ) → Parts
parts_of cs = (component_of LOCATION_TAG cs, component_of BINDER_TAG cs)

-- so many components, of which the first of each of the two tags are kept
abbrev pub parts_at : ℕ → Cursor → Reading Parts
parts_at count c = each_at component_at count c >>= λ x. Ok (parts_of x.0, x.1)

-- a profile's content, of which these two components are kept
abbrev pub chosen_at : Cursor → Reading Parts
chosen_at c = components_at c >>= λ x. Ok (parts_of x.0, x.1)
