-- What a clause says of a station and of its passes.
use Rattle.std.specs.Prelude.{◌≡◌, ℕ, suc, List, [], ◌∷◌}
use Rattle.generation_catalogue.specs.History.{CatalogueState}
use Rattle.generation_catalogue.specs.declared.entry.Entry.{Entry}
use Rattle.history_lock.specs.History.{Begins, times, total}
use Rattle.history_lock.specs.Passes.{IsPassOf, AreAllPassesOf, seen_of, own_of, number_of, opening_of, seats_of}
use Rattle.history_lock.specs.declared.pass.Pass.{Pass}
use Rattle.station.specs.declared.kept.Kept.{Kept}
use Rattle.station.specs.declared.kept.KeptItem.{KeptItem}
use Rattle.station.specs.declared.kept.KeptItem.TheVariants.{Setting}
use Rattle.station.specs.declared.station.Station.{Station}
use Rattle.station.specs.Items.{entries_in, carousel_in, entry_places}
use Rattle.station.specs.Kept.{list_of}

-- the carousel that the station was made with
abbrev pub carousel_of : {X : _} {F : _} {g : _} → Station X F g → ℕ
carousel_of s = carousel_in (opening_of list_of s.lock)

-- and the weights
abbrev pub weights_of : {X : _} {F : _} {g : _} → Station X F g → List ℕ
weights_of s = s.weigh.weights

-- how many passes it was made with
abbrev pub pass_count : {X : _} {F : _} {g : _} → Station X F g → ℕ
pass_count s = seats_of s.lock

-- the entries that the pass has seen
abbrev pub entries_seen : Pass Kept KeptItem → List Entry
entries_seen p = entries_in (seen_of p)

-- the places of its own entries, counted from 0
abbrev pub own_entries : Pass Kept KeptItem → List ℕ
own_entries p = entry_places (own_of p)

-- the station's catalogue, as the pass has seen it
abbrev pub seen_by : {X : _} {F : _} {g : _} → Station X F g → Pass Kept KeptItem → CatalogueState
seen_by s p = record { carousel = carousel_of s; weights = weights_of s; entries = entries_seen p }

-- a pass of the station, which has seen its setting
abbrev pub IsStationPass : {X : _} {F : _} {g : _} → Station X F g → Pass Kept KeptItem → Type 0
IsStationPass s p = IsPassOf s.lock p × Begins (Setting (carousel_of s) (weights_of s) ∷ []) (seen_of p)

-- the passes that a station is made with: numbered from the first on, each of the station, has seen no entry and has none of its own
abbrev pub AreNewPasses : {X : _} {F : _} {g : _} → Station X F g → ℕ → List (Pass Kept KeptItem) → Type 0
AreNewPasses s first [] = Unit {0}
AreNewPasses s first (p ∷ ps) = IsStationPass s p × (number_of p ≡ first) × (entries_seen p ≡ []) × (own_entries p ≡ []) × AreNewPasses s (suc first) ps

-- All passes of the station: each is one of it, and there are as many as it was made with. That each is there once is its owner's to know: a pass can't be copied.
abbrev pub AreAllPasses : {X : _} {F : _} {g : _} → Station X F g → List (Pass Kept KeptItem) → Type 0
AreAllPasses s ps = AreAllPassesOf s.lock ps

-- how often the passes have the place for their own
abbrev pub owners_of : ℕ → List (Pass Kept KeptItem) → ℕ
owners_of place ps = total (λ p. times place (own_entries p)) ps
