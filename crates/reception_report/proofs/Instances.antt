-- Examples of the definitions, which compute.
use Rattle.std.proofs.Common.{◌≡◌, true, false, [], ◌∷◌, None, refl}
use Rattle.reception_report.specs.Missing.{runs_from}

no_block : runs_from 0 None [] ≡ []
unfolding runs_from
no_block = refl

all_there : runs_from 0 None (true ∷ true ∷ []) ≡ []
unfolding runs_from
all_there = refl

none_there : runs_from 0 None (false ∷ false ∷ false ∷ []) ≡ (0, 2) ∷ []
unfolding runs_from
none_there = refl

between : runs_from 0 None (true ∷ false ∷ false ∷ true ∷ false ∷ true ∷ false ∷ []) ≡ (1, 2) ∷ (4, 4) ∷ (6, 6) ∷ []
unfolding runs_from
between = refl
