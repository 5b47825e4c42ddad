-- Lemmas for callers: a station's passes one by one, as a loop over them meets them.
use Rattle.std.proofs.Common.{◌≡◌, ℕ, suc, List, [], ◌∷◌, length}
use Rattle.std.specs.List.{All}
use Rattle.std.proofs.lemmas.List.Elements.{All-nil, All-cons, All-head, All-tail}
use Rattle.history_lock.specs.History.{Each}
use Rattle.history_lock.specs.Passes.{IsPassOf}
use Rattle.history_lock.specs.declared.pass.Pass.{Pass}
use Rattle.station.specs.declared.kept.Kept.{Kept}
use Rattle.station.specs.declared.kept.KeptItem.{KeptItem}
use Rattle.station.specs.declared.station.Station.{Station}
use Rattle.station.specs.Passes.{IsStationPass, AreNewPasses, AreAllPasses, pass_count}

pub each_from_all : {A : Type 0} (P : A → Type 0) (xs : List A) → All P xs → Each P xs
each_from_all P [] h = tt
each_from_all P (x ∷ xs) h = (All-head P x xs h, each_from_all P xs (All-tail P x xs h))

-- new passes are passes of the station
pub all_new : {X : _} {F : _} {g : _} (s : Station X F g) (first : ℕ) (ps : List (Pass Kept KeptItem)) → AreNewPasses s first ps → All (IsStationPass s) ps
all_new s first [] h = All-nil (IsStationPass s)
all_new s first (p ∷ ps) h = All-cons (IsStationPass s) p ps h.0 (all_new s (suc first) ps h.4)

-- as many passes of the station as it was made with are all of them
pub are_all : {X : _} {F : _} {g : _} (s : Station X F g) (ps : List (Pass Kept KeptItem)) → All (IsStationPass s) ps → length ps ≡ pass_count s → AreAllPasses s ps
are_all s ps h count = (each_of ps h, count)
  where
    each_of : (qs : List (Pass Kept KeptItem)) → All (IsStationPass s) qs → Each (IsPassOf s.lock) qs
    each_of [] h = tt
    each_of (q ∷ qs) h = ((All-head (IsStationPass s) q qs h).0, each_of qs (All-tail (IsStationPass s) q qs h))
