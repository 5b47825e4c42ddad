-- Numbers that never fall.
use Rattle.std.proofs.Common.{◌≡◌, ℕ, zero, suc, ◌<◌, ◌≤◌, List, [], ◌∷◌, Some, None, arith}
use Rattle.std.specs.Prelude.{slice_get}

abbrev pub Climbs : ℕ → List ℕ → Type 0
Climbs lo [] = Unit {0}
Climbs lo (n ∷ ns) = (lo ≤ n) × Climbs n ns

pub climbs_above : (lo : ℕ) (ns : List ℕ) → Climbs lo ns → (i n : ℕ) → slice_get ns i ≡ Some n → lo ≤ n
climbs_above lo [] c i n e = absurd (none e) where
  none : None ≡ Some n → ⊥
  none e = cc
climbs_above lo (m ∷ ms) c zero n e = let same : m ≡ n = cc in omega (arith, same, c.0)
climbs_above lo (m ∷ ms) c (suc i) n e = let up = climbs_above m ms c.1 i n e in omega (arith, up, c.0)

pub climbs_at : (lo : ℕ) (ns : List ℕ) → Climbs lo ns → (i j m n : ℕ) → i < j → slice_get ns i ≡ Some m → slice_get ns j ≡ Some n → m ≤ n
climbs_at lo [] c i j m n lt e f = absurd (none e) where
  none : None ≡ Some m → ⊥
  none e = cc
climbs_at lo (k ∷ ks) c zero zero m n lt e f = absurd (omega (arith, lt))
climbs_at lo (k ∷ ks) c zero (suc j) m n lt e f = let same : k ≡ m = cc in let up = climbs_above k ks c.1 j n f in omega (arith, same, up)
climbs_at lo (k ∷ ks) c (suc i) zero m n lt e f = absurd (omega (arith, lt))
climbs_at lo (k ∷ ks) c (suc i) (suc j) m n lt e f = climbs_at k ks c.1 i j m n (omega (arith, lt)) e f
